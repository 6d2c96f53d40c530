use Rattle.std.proofs.Common.{◌-◌}
use Rattle.dwc_map.specs.MapValues.{source_of, u32_of}
use Rattle.dwc_map.proofs.TokenShapes.{number-told, pair-told, source-told}
use Rattle.dwc_map.proofs.by_tokens.read_entry.Goals as goal

pub returns-clause-told : goal.returns-clause-told
returns-clause-told c =
    let d = c.args.depth - 1 in
    let start = c.begin_list.new.reader in
    let mid = c.read_number.new.reader in
    let last = c.read_source.new.reader in
    let offset = c.in_ok-code_offset.code_offset in
    let source = c.in_ok-srcloc.srcloc in
    pair-told u32_of source_of c.args.depth c.args.reader.now start mid last c.end_list.new.reader offset source c.requires c.in_ok-begin_list.ensures
    (number-told d start mid offset c.in_ok-code_offset.ensures) (source-told d mid last source c.in_ok-srcloc.ensures) c.in_ok-end_list.ensures
