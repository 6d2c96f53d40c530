use Rattle.std.proofs.Common.{◌≡◌, Some, None, arith}
use Rattle.json.specs.Json.{after_end_array}
use Rattle.dwc_map.proofs.TokenLists.{items-added, items-over}
use Rattle.dwc_compiled.specs.Gaps.{entry_view}
use Rattle.dwc_map.specs.MapValues.{pair_of, source_of, u32_of}
use Rattle.dwc_map.proofs.by_tokens.entries_inside.Goals as goal

pub items-preserved : goal.items-preserved
items-preserved c =
    let l = c.items in
    let going : (after_end_array l.reader ≡ None) × (c.take_end_array.new.self ≡ l.reader) = grind arith in
    items-added (pair_of u32_of source_of) c.args.depth c.args.reader.now l.reader c.take_end_array.new.self c.read_entry.new.reader l.room _ (entry_view c.in_ok-entry.entry) going c.in_ok-entry.ensures.told c.in_ok-entry.ensures.shorter c.in_ok-push.ensures.pushed l.invariant

pub returns-clause-told : goal.returns-clause-told
returns-clause-told c =
    let l = c.items in
    let r = c.take_end_array.new.self in
    let over : after_end_array l.reader ≡ Some r = grind arith in
    rw (c.in_ok-compact.ensures) (items-over (pair_of u32_of source_of) c.args.depth c.args.reader.now l.reader r l.room over l.invariant)
