use Rattle.std.proofs.Common.{◌≡◌, Some, None, map, sym, subst, arith}
use Rattle.json.specs.Json.{after_end_array}
use Rattle.dwc_map.proofs.TokenLists.{both-more, items-over, items-pushed}
use Rattle.dwc_map.specs.MapFile.{map_function_of}
use Rattle.dwc_map.specs.MapViews.{function_view, told_beside, due_beside, AreConsistent}
use Rattle.dwc_map.proofs.by_tokens.functions_inside.Goals as goal

pub items-preserved : goal.items-preserved
items-preserved c =
    let l = c.items in
    let going : (after_end_array l.reader ≡ None) × (c.take_end_array.new.self ≡ l.reader) = grind arith in
    record {
      along = items-pushed map_function_of c.args.depth function_view c.args.reader.now l.reader c.take_end_array.new.self c.read_function.new.reader l.functions.items _ c.in_ok-function.function going c.in_ok-function.ensures.told c.in_ok-function.ensures.shorter c.in_ok-push.ensures.items l.invariant.along;
      records = subst AreConsistent (sym c.in_ok-push.ensures.items) (both-more told_beside due_beside l.functions.items c.in_ok-function.function l.invariant.records c.in_ok-function.ensures.records);
    }

pub returns-clause-told : goal.returns-clause-told
returns-clause-told c =
    let l = c.items in
    let r = c.take_end_array.new.self in
    let over : after_end_array l.reader ≡ Some r = grind arith in
    items-over map_function_of c.args.depth c.args.reader.now l.reader r (map function_view l.functions.items) over l.invariant.along
