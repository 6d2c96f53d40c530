use Rattle.std.proofs.Common.{map, arith, ◌-◌}
use Rattle.dwc_map.specs.ByTokens.{Tells, TellsItems}
use Rattle.dwc_map.proofs.TokenLists.{if-ok, list-told}
use Rattle.dwc_map.specs.MapFile.{functions_of, map_function_of}
use Rattle.dwc_map.specs.MapViews.{function_view}
use Rattle.dwc_map.proofs.by_tokens.read_functions.Goals as goal

pub returns-clause-told : goal.returns-clause-told
returns-clause-told c =
    let d = c.args.depth in
    let start = c.begin_list.new.reader in
    let rest = c.functions_inside.new.reader in
    if-ok (λ xs. TellsItems (d - 1) map_function_of start (map function_view xs.items) rest) (λ xs. Tells d functions_of c.args.reader.now (map function_view xs.items) rest) c.functions_inside.result
    (λ xs read. list-told map_function_of d c.args.reader.now start rest (map function_view xs.items) (omega (arith, c.requires)) c.in_ok-begin_list.ensures read) c.functions_inside.ensures.told
