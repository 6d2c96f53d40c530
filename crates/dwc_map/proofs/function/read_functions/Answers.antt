use Rattle.std.proofs.Common.{◌≡◌, sym, subst, option_map}
use Rattle.std.specs.Prelude.{IfSome}
use Rattle.serde_json.specs.View.{view}
use Rattle.dwc_map.specs.MapFile.{map_function_of}
use Rattle.dwc_map.specs.MapViews.{function_view, told_beside, due_beside, AreConsistent}
use Rattle.dwc_map.proofs.MapKinds.{values-pushed}
use Rattle.dwc_map.proofs.TokenLists.{both-more}
use Rattle.dwc_map.proofs.function.read_functions.Goals as goal

pub loop-value-preserved : goal.loop-value-preserved
loop-value-preserved c =
    let l = c.loop-value in
    let v = c.value-item.result in
    let f = c.in-Some.function in
    record {
      value = values-pushed map_function_of function_view c.args.values.now l.value-index v l.functions.items _ f _ c.loop-value-test.true c.value-item.is (subst (λ o. option_map function_view o ≡ map_function_of (view v)) c.in-Some.is c.in_ok-function.ensures.value) c.in_ok-push.ensures.items l.invariant.value;
      records = subst AreConsistent (sym c.in_ok-push.ensures.items) (both-more told_beside due_beside l.functions.items f l.invariant.records (subst (λ o. IfSome o (λ g. told_beside g ≡ due_beside g)) c.in-Some.is c.in_ok-function.ensures.records));
    }
