use Rattle.std.proofs.Common.{◌+◌, ◌<◌, ◌≤◌, ◌++◌, map, drop, sym, ap, ◌∙◌, refl, subst, arith, ◌-◌, get_or, length, ℕ, List, Option, Some}
use Rattle.dwc_addr.specs.Runs.{recorded_view}
use Rattle.dwc_base.specs.declared.records.LineRow.{LineRow}
use Rattle.dwc_image.specs.ImageRows.{image_rows, move_row, with_found}
use Rattle.dwc_image.specs.ImageSequences.{FitsImage, begun_rows}
use Rattle.dwc_image.proofs.SequenceLaws.{found-fits, grows-on}
use Rattle.dwc_image.proofs.RunLaws.{RunSoFar-begins, RunSoFar-next, run-rest, skip, is-found, no_source, no_row}
use Rattle.dwc_image.proofs.image.add_run.Goals as goal

pub loop-at-init : goal.loop-at-init
loop-at-init c = (RunSoFar-begins c.args.rows.now c.args.start c.args.sources.now c.args.run.start c.args.run.end _ c.args.found _ c.requires.order c.requires.some c.requires.low refl, record { begun = c.requires.begun; same = refl }, refl, c.requires.some)

pub returns-then-at-run-clause-rows : goal.returns-then-at-run-clause-rows
returns-then-at-run-clause-rows c =
    let rows = c.args.rows.now in
    let sources = c.args.sources.now in
    let first = c.first_behind-at.ensures in
    let passed = skip rows c.args.start sources c.loop-at.found c.loop-at.at c.first_behind-at.result _ c.args.run.end c.loop-at.invariant.0.passed first.low first.high c.requires.high first.before in
    ap (λ k. begun_rows c.loop-at.program.begun ++ image_rows rows c.args.start c.loop-at.found (map recorded_view (drop k sources))) (sym c.if-at-run.true)
    ∙ ap (λ rs. begun_rows c.loop-at.program.begun ++ rs) (sym passed) ∙ c.loop-at.invariant.2

pub add_row-requires-clause-next : goal.add_row-requires-clause-next
add_row-requires-clause-next c =
    let rows = c.args.rows.now in
    let start = c.args.start in
    let sources = c.args.sources.now in
    let at = c.first_behind-at.result in
    let count = c.count_at-count.result in
    let counted = rw (c.from.ensures, c.at-source.ensures no_source) at c.count_at-count.ensures in
    let files = length c.args.program.now.files in
    let less : at < c.args.run.end = omega (arith, c.first_behind-at.ensures.high) in
    let found = is-found rows start sources c.args.run.start c.args.run.end c.loop-at.at (get_or c.args.rows.now c.loop-at.next no_row).offset at count c.loop-at.found no_source no_row c.loop-at.invariant.0 c.first_behind-at.ensures less c.requires.high c.requires.some counted in
    let whole = ap (λ rs. begun_rows c.loop-at.program.begun ++ rs) (sym found.step) ∙ c.loop-at.invariant.2 in
    rw (c.at-source.ensures no_source, ap (λ g. g.files) c.loop-at.invariant.1.same)
    (found-fits files (begun_rows c.loop-at.program.begun) (λ b. image_rows rows start b (map recorded_view (drop (at + 1) sources))) c.loop-at.found (get_or sources at no_source).generated (get_or rows (count - 1) no_row)
    (subst (FitsImage files) (sym whole) c.requires.fits))

pub returns-then-count-rows-clause-rows : goal.returns-then-count-rows-clause-rows
returns-then-count-rows-clause-rows c =
    let rows = c.args.rows.now in
    let start = c.args.start in
    let sources = c.args.sources.now in
    let at = c.first_behind-at.result in
    let count = c.count_at-count.result in
    let counted = rw (c.from.ensures, c.at-source.ensures no_source) at c.count_at-count.ensures in
    let native = ap (λ e. e.generated) (c.at-source.ensures no_source) in
    let rest_with : Option ℕ → List LineRow = λ b. image_rows rows start b (map recorded_view (drop (at + 1) sources)) in
    let run = c.loop-at.invariant.0 in
    let low : c.args.run.start ≤ at = omega (arith, run.low, c.first_behind-at.ensures.low) in
    let less : at < c.args.run.end = omega (arith, c.first_behind-at.ensures.high) in
    let found = is-found rows start sources c.args.run.start c.args.run.end c.loop-at.at (get_or c.args.rows.now c.loop-at.next no_row).offset at count c.loop-at.found no_source no_row run c.first_behind-at.ensures less c.requires.high c.requires.some counted in
    let rest = run-rest rows start sources c.args.run.start c.args.run.end at count no_source no_row c.requires.order c.requires.rises c.requires.high low less found.le counted found.some c.if-count-rows.true in
    ap (λ rs. begun_rows c.add_row.new.program.begun ++ rs) (sym rest)
    ∙ c.in_ok-add_row.ensures.rows rest_with
    ∙ ap (λ n. begun_rows c.loop-at.program.begun ++ with_found (λ r. r.offset) move_row rest_with c.loop-at.found n (Some (get_or rows (count - 1) no_row))) native
    ∙ ap (λ rs. begun_rows c.loop-at.program.begun ++ rs) (sym found.step)
    ∙ c.loop-at.invariant.2

pub loop-at-preserved : goal.loop-at-preserved
loop-at-preserved c =
    let rows = c.args.rows.now in
    let start = c.args.start in
    let sources = c.args.sources.now in
    let at = c.first_behind-at.result in
    let count = c.count_at-count.result in
    let counted = rw (c.from.ensures, c.at-source.ensures no_source) at c.count_at-count.ensures in
    let native = ap (λ e. e.generated) (c.at-source.ensures no_source) in
    let rest_with : Option ℕ → List LineRow = λ b. image_rows rows start b (map recorded_view (drop (at + 1) sources)) in
    let run = c.loop-at.invariant.0 in
    let low : c.args.run.start ≤ at = omega (arith, run.low, c.first_behind-at.ensures.low) in
    let less : at < c.args.run.end = omega (arith, c.first_behind-at.ensures.high) in
    let more : count < length rows = omega (arith, c.count_at-count.ensures.bound) in
    let found = is-found rows start sources c.args.run.start c.args.run.end c.loop-at.at (get_or c.args.rows.now c.loop-at.next no_row).offset at count c.loop-at.found no_source no_row run c.first_behind-at.ensures less c.requires.high c.requires.some counted in (
      RunSoFar-next rows start sources c.args.run.start c.args.run.end at count no_source no_row no_row c.requires.order c.requires.rises c.requires.high low less found.le counted found.some more,
      grows-on c.args.function c.loop-at.found _ c.args.program.now c.loop-at.program c.add_row.new.program c.loop-at.invariant.1 c.in_ok-add_row.ensures.begun,
      c.in_ok-add_row.ensures.rows rest_with
          ∙ ap (λ n. begun_rows c.loop-at.program.begun ++ with_found (λ r. r.offset) move_row rest_with c.loop-at.found n (Some (get_or rows (count - 1) no_row))) native
          ∙ ap (λ rs. begun_rows c.loop-at.program.begun ++ rs) (sym found.step)
          ∙ c.loop-at.invariant.2,
      more,
    )
