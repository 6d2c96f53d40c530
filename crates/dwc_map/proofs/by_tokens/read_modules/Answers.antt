use Rattle.std.proofs.Common.{map, arith, ◌-◌}
use Rattle.dwc_map.specs.ByTokens.{Tells, TellsItems}
use Rattle.dwc_map.proofs.TokenLists.{if-ok, list-told}
use Rattle.dwc_map.specs.MapFile.{modules_of, map_module_of}
use Rattle.dwc_map.specs.MapViews.{module_view}
use Rattle.dwc_map.proofs.by_tokens.read_modules.Goals as goal

pub returns-clause-told : goal.returns-clause-told
returns-clause-told c =
    let d = c.args.depth in
    let start = c.begin_list.new.reader in
    let rest = c.modules_inside.new.reader in
    if-ok (λ xs. TellsItems (d - 1) map_module_of start (map module_view xs.items) rest) (λ xs. Tells d modules_of c.args.reader.now (map module_view xs.items) rest) c.modules_inside.result
    (λ xs read. list-told map_module_of d c.args.reader.now start rest (map module_view xs.items) (omega (arith, c.requires)) c.in_ok-begin_list.ensures read) c.modules_inside.ensures.told
