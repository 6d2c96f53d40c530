use Rattle.std.proofs.Common.{option_map}
use Rattle.std.specs.Prelude.{◌≡◌, IfSome}
use Rattle.dwc_map.specs.MapFile.{IsMap, map_in_bytes}
use Rattle.dwc_map.specs.MapViews.{map_file_view}
use Rattle.dwc_map.proofs.MapFits.{bytes-kinds, map-kinds}
use Rattle.dwc_map.proofs.TokenLists.{if-ok}
use Rattle.dwc_map.proofs.map_file.map_of_any.Goals as goal

pub returns-in-Ok-clause-kinds : goal.returns-in-Ok-clause-kinds
returns-in-Ok-clause-kinds c = bytes-kinds c.args.bytes.now (map_file_view c.in-Ok.map) c.in-Ok.ensures.told

pub returns-in-Err-Unusual-clause-kinds : goal.returns-in-Err-Unusual-clause-kinds
returns-in-Err-Unusual-clause-kinds c =
    if-ok (λ o. option_map map_file_view o ≡ map_in_bytes c.args.bytes.now) (λ o. IfSome o (λ f. IsMap (map_file_view f))) c.map_by_value.result (map-kinds c.args.bytes.now) c.map_by_value.ensures.value
