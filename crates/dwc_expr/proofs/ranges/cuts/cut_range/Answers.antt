use Rattle.std.proofs.Common.{◌≡◌, ◌+◌, drop, filter_map, get_or, if◌then◌else◌, length, map, option_to_list, subst, sym, arith, [], ◌∙◌, List}
use Rattle.dwc_native.specs.Placed.{NativeRange}
use Rattle.dwc_isa.specs.ValueLabels.{range_view}
use Rattle.dwc_expr.specs.LabelRanges.{bounds_of}
use Rattle.dwc_expr.specs.NarrowedRanges.{Appends, IsMadeBy}
use Rattle.dwc_expr.specs.PlacedParts.{PlacedPart, cut_by, EndBy}
use Rattle.dwc_expr.proofs.CutLaws.{cuts-own}
use Rattle.dwc_expr.proofs.CutWalkLaws.{no_piece, passed-go, piece-step, pieces-done, pieces-past}
use Rattle.dwc_expr.proofs.MadeLaws.{appends-none, leads-end, leads-more}
use Rattle.dwc_expr.proofs.ranges.cuts.cut_range.Goals as goal

pub returns-then-not-is_own-clause-cut : goal.returns-then-not-is_own-clause-cut
returns-then-not-is_own-clause-cut c = λ index.
    let R = IsMadeBy c.args.label.0 c.args.range.now in
    let f = cut_by index (bounds_of c.args.range.now) in
    let ps = map range_view c.args.pieces.now in
    let old = c.args.made.now.items in
    subst (λ b. Appends R (if b then filter_map f (drop c.args.first ps) else []) old old) (sym c.if-not-is_own.true ∙ c.is_own.ensures) (appends-none R old)

pub returns-then-piece-range-clause-cut : goal.returns-then-piece-range-clause-cut
returns-then-piece-range-clause-cut c = λ index.
    let R = IsMadeBy c.args.label.0 c.args.range.now in
    let r : NativeRange = bounds_of c.args.range.now in
    let f = cut_by index r in
    let ps = c.args.pieces.now in
    let n = c.loop-place.place in
    let here = option_to_list (f (range_view (get_or ps n no_piece))) in
    let rest = filter_map f (drop (n + 1) (map range_view ps)) in
    let left = filter_map f (drop n (map range_view ps)) in
    let all = filter_map f (drop c.args.first (map range_view ps)) in
    let old = c.args.made.now.items in
    let now = c.loop-place.made.items in
    let new = c.push_cut.new.made.items in
    subst (λ (parts : List PlacedPart). Appends R parts old new) (sym (cuts-own c.args.own (drop c.args.first (map range_view ps)) index r c.loop-place.invariant.own))
    (leads-end R rest all old new (pieces-done ps n c.loop-place-test.true index r c.requires.flat c.if-piece-range.true)
    (leads-more R here rest left all old now new (piece-step ps n c.loop-place-test.true f) (c.in_ok-push_cut.ensures index) (c.loop-place.invariant.cut index)))

pub loop-place-preserved : goal.loop-place-preserved
loop-place-preserved c =
    let R = IsMadeBy c.args.label.0 c.args.range.now in
    let ps = c.args.pieces.now in
    let n = c.loop-place.place in
    record {
      own = c.loop-place.invariant.own;
      cut = λ index.
          let f = cut_by index (bounds_of c.args.range.now) in
          leads-more R (option_to_list (f (range_view (get_or ps n no_piece)))) (filter_map f (drop (n + 1) (map range_view ps))) (filter_map f (drop n (map range_view ps))) (filter_map f (drop c.args.first (map range_view ps))) c.args.made.now.items
          c.loop-place.made.items c.push_cut.new.made.items (piece-step ps n c.loop-place-test.true f) (c.in_ok-push_cut.ensures index) (c.loop-place.invariant.cut index);
      passed = λ byte le first. passed-go ps n c.loop-place-test.true byte c.args.range.now.end le c.if-piece-range.false (c.loop-place.invariant.passed byte le first);
    }

pub returns-clause-cut : goal.returns-clause-cut
returns-clause-cut c = λ index.
    let R = IsMadeBy c.args.label.0 c.args.range.now in
    let r : NativeRange = bounds_of c.args.range.now in
    let f = cut_by index r in
    let ps = c.args.pieces.now in
    let all = filter_map f (drop c.args.first (map range_view ps)) in
    let old = c.args.made.now.items in
    let now = c.loop-place.made.items in
    subst (λ (parts : List PlacedPart). Appends R parts old now) (sym (cuts-own c.args.own (drop c.args.first (map range_view ps)) index r c.loop-place.invariant.own))
    (leads-end R (filter_map f (drop c.loop-place.place (map range_view ps))) all old now (pieces-past f ps c.loop-place.place c.loop-place-test.false) (c.loop-place.invariant.cut index))

pub returns-clause-passed : goal.returns-clause-passed
returns-clause-passed c = λ byte le first.
    let end : c.loop-place.place ≡ length c.args.pieces.now = omega (arith, c.loop-place-test.false, c.loop-place.auto.place-end c.requires.inside) in
    subst (λ n. EndBy byte n (map range_view c.args.pieces.now)) end (c.loop-place.invariant.passed byte (le c.loop-place.invariant.own) first)
