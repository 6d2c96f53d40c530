use Rattle.std.proofs.Common.{◌+◌, ◌∷◌, ◌∙◌, ap, sym, subst, map, drop, arith, false}
use Rattle.std.proofs.lemmas.List.{drop_more}
use Rattle.dwc_addr.specs.Runs.{recorded_view}
use Rattle.dwc_unit.specs.GivenLines.{with_row}
use Rattle.dwc_image.specs.SimulatedSequences.{line_of_recorded, with_rows, CanAppendEach}
use Rattle.dwc_image.proofs.simulated.add_later.Goals as goal

pub generate_row-requires : goal.generate_row-requires
generate_row-requires c =
    let xs = c.args.sources.now in
    let place = c.loop-place.place in
    let step = drop_more xs place c.at.result (omega (arith, c.loop-place-test.true, c.len-place-end.ensures.count, c.loop-place.auto.place-end)) ∙ ap (λ x. x ∷ drop (place + 1) xs) (sym (c.at.ensures c.at.result)) in
    let left = subst (λ ys. CanAppendEach c.loop-place.program (map (line_of_recorded c.args.code_offset false) (map recorded_view ys))) step c.loop-place.invariant.0 in
    rw c.line_of.ensures left.0

pub loop-place-preserved : goal.loop-place-preserved
loop-place-preserved c =
    let xs = c.args.sources.now in
    let place = c.loop-place.place in
    let line = line_of_recorded c.args.code_offset false in
    let step = drop_more xs place c.at.result (omega (arith, c.loop-place-test.true, c.len-place-end.ensures.count, c.loop-place.auto.place-end)) ∙ ap (λ x. x ∷ drop (place + 1) xs) (sym (c.at.ensures c.at.result)) in
    let left = subst (λ ys. CanAppendEach c.loop-place.program (map line (map recorded_view ys))) step c.loop-place.invariant.0 in
    let added = c.in_ok-generate_row.ensures.ok ∙ ap (λ r. with_row r c.loop-place.program) c.line_of.ensures in
    (rw added left.1, ap (with_rows (map line (map recorded_view (drop (place + 1) xs)))) added ∙ ap (λ ys. with_rows (map line (map recorded_view ys)) c.loop-place.program) (sym step) ∙ c.loop-place.invariant.1)
