use Rattle.std.proofs.Common.{map}
use Rattle.dwc_map.proofs.MapFits.{map-of_bytes}
use Rattle.dwc_map.proofs.map_file.map_of.Goals as goal

pub returns-clause-value : goal.returns-clause-value
returns-clause-value c = map-of_bytes (map (λ m. m.defined_funcs) c.args.modules.now) c.in_ok-map.map c.map_for.result c.map_for.ensures.value c.args.bytes.now c.in_ok-map.ensures.value
