use Rattle.std.proofs.Common.{arith, ◌-◌}
use Rattle.dwc_map.specs.ByTokens.{Tells, TellsItems}
use Rattle.dwc_map.proofs.TokenLists.{if-ok, list-told}
use Rattle.dwc_map.specs.MapFile.{entries_of}
use Rattle.dwc_map.specs.MapValues.{pair_of, source_of, u32_of}
use Rattle.dwc_map.proofs.by_tokens.read_entries.Goals as goal

pub returns-clause-told : goal.returns-clause-told
returns-clause-told c =
    let d = c.args.depth in
    let start = c.begin_list.new.reader in
    let rest = c.entries_inside.new.reader in
    if-ok (λ xs. TellsItems (d - 1) (pair_of u32_of source_of) start xs rest) (λ xs. Tells d entries_of c.args.reader.now xs rest) c.entries_inside.result
    (λ xs read. list-told (pair_of u32_of source_of) d c.args.reader.now start rest xs (omega (arith, c.requires)) c.in_ok-begin_list.ensures read) c.entries_inside.ensures.told
