use Rattle.std.proofs.Common.{ℕ, ◌+◌, List, [], ◌∷◌, ◌++◌, Vec, arith, drop, map, ap, sym, subst, ◌∙◌}
use Rattle.std.specs.Global.{Global}
use Rattle.std.proofs.lemmas.List.{drop_all}
use Rattle.dwc_base.specs.declared.records.Address.{Address}
use Rattle.dwc_unit.specs.declared.lists.RangeList.{RangeList}
use Rattle.dwc_extents.specs.NativeExtents.{AreRanges}
use Rattle.dwc_image.specs.SimulatedSequences.{simulated_view}
use Rattle.dwc_carry.specs.SimulatedCode.{intervals_of}
use Rattle.dwc_carry.proofs.SimulatedFunctionSteps.{RangesSoFar, fits-at, range-left, ranges-done, ranges-more, ranges-none}
use Rattle.dwc_carry.proofs.simulated_code.whole_ranges.Goals as goal
use Rattle.dwc_carry.proofs.simulated_code.whole_ranges.Goals.{then-function-gt0+in_ok-push, else-function-gt0}

pub loop-function-preserved : goal.loop-function-preserved
loop-function-preserved c =
    let ms = c.args.functions.now in
    let i = c.loop-function.function-index in
    let m = c.function-item.result in
    let whole = intervals_of (map simulated_view ms) in
    let left = map simulated_view (drop (i + 1) ms) in
    let here = subst (λ xs. RangesSoFar whole xs c.loop-function.ranges.items) (range-left ms i m c.loop-function-test.true c.function-item.is) c.loop-function.invariant in
    let can = fits-at ms i m c.loop-function-test.true c.function-item.is c.requires in
    elim c.if-function-gt0.branch [
      | then-function-gt0+in_ok-push w ↦
          subst (λ (rs : List (Address × ℕ)). RangesSoFar whole left rs)
          (sym (ap (λ (v : Vec (Address × ℕ) Global). v.items) w.ranges-is ∙ w.in_ok-push.ensures.items ∙ ap (λ (r : Address × ℕ). c.loop-function.ranges.items ++ r ∷ []) w.whole_range.ensures))
          (ranges-more whole (simulated_view m) left c.loop-function.ranges.items w.if-function-gt0.true can here)
      | else-function-gt0 w ↦
          let low = w.if-function-gt0.false in
          subst (λ (v : Vec (Address × ℕ) Global). RangesSoFar whole left v.items) (sym w.ranges-is) (ranges-none whole (simulated_view m) left c.loop-function.ranges.items (omega (arith, low)) here)
    ]

pub returns : goal.returns
returns c =
    let ms = c.args.functions.now in
    let whole = intervals_of (map simulated_view ms) in
    subst (λ (l : RangeList). AreRanges l.ranges.items whole) (sym c.new.ensures)
    (ranges-done whole c.loop-function.ranges.items (subst (λ xs. RangesSoFar whole (map simulated_view xs) c.loop-function.ranges.items) (drop_all c.loop-function.function-index ms c.loop-function-test.false) c.loop-function.invariant))
