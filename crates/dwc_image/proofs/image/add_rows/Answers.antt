use Rattle.std.proofs.Common.{◌++◌, ap, refl, sym, ◌∙◌, arith, map, None}
use Rattle.std.proofs.lemmas.Bool.{eqb-true}
use Rattle.std.proofs.lemmas.List.{nil_from_length}
use Rattle.dwc_addr.specs.Runs.{recorded_view}
use Rattle.dwc_image.specs.ImageRows.{image_rows, move_row}
use Rattle.dwc_image.specs.ImageSequences.{begun_rows}
use Rattle.dwc_image.proofs.RowsLaws.{rows_from-none}
use Rattle.dwc_image.proofs.RunLaws.{runs-of}
use Rattle.dwc_image.proofs.image.add_rows.Goals as goal

pub loop-place-init : goal.loop-place-init
loop-place-init c =
    let all = image_rows c.args.rows.now c.args.start None (map recorded_view c.args.sources.now) in
    (omega arith, rw c.requires.runs (runs-of c.args.sources.now), record { begun = c.requires.ended; same = refl }, ap (λ q. begun_rows q ++ all) c.requires.ended)

pub returns-then-is_empty-clause-rows : goal.returns-then-is_empty-clause-rows
returns-then-is_empty-clause-rows c =
    let sources = map recorded_view c.args.sources.now in
    let none = nil_from_length c.args.rows.now (eqb-true _ 0 (sym c.if-is_empty.ensures)) in
    ap begun_rows c.requires.ended ∙ sym (ap (λ rows. image_rows rows c.args.start None sources) none ∙ rows_from-none (λ r. r.offset) move_row c.args.start sources None)
