use Rattle.std.proofs.Common.{◌≡◌, Some, None, map, sym, subst, arith}
use Rattle.json.specs.Json.{after_end_array}
use Rattle.dwc_map.proofs.TokenLists.{both-more, items-over, items-pushed}
use Rattle.dwc_map.specs.MapFile.{map_module_of}
use Rattle.dwc_map.specs.MapViews.{module_view, told_beside, due_beside, ModulesAreConsistent}
use Rattle.dwc_map.proofs.by_tokens.modules_inside.Goals as goal

pub items-preserved : goal.items-preserved
items-preserved c =
    let l = c.items in
    let going : (after_end_array l.reader ≡ None) × (c.take_end_array.new.self ≡ l.reader) = grind arith in
    record {
      along = items-pushed map_module_of c.args.depth module_view c.args.reader.now l.reader c.take_end_array.new.self c.read_module.new.reader l.modules.items _ c.in_ok-module.module going c.in_ok-module.ensures.told c.in_ok-module.ensures.shorter c.in_ok-push.ensures.items l.invariant.along;
      records = subst ModulesAreConsistent (sym c.in_ok-push.ensures.items) (both-more (λ m. map told_beside m.functions.items) (λ m. map due_beside m.functions.items) l.modules.items c.in_ok-module.module l.invariant.records c.in_ok-module.ensures.records);
    }

pub returns-clause-told : goal.returns-clause-told
returns-clause-told c =
    let l = c.items in
    let r = c.take_end_array.new.self in
    let over : after_end_array l.reader ≡ Some r = grind arith in
    items-over map_module_of c.args.depth c.args.reader.now l.reader r (map module_view l.modules.items) over l.invariant.along
