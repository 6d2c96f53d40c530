use Rattle.std.proofs.Common.{sym, ◌∙◌, refl, ap, map, length, None}
use Rattle.dwc_addr.specs.Runs.{recorded_view}
use Rattle.dwc_addr.proofs.OwnerLaws.{function_at-among}
use Rattle.dwc_image.specs.ImageRows.{image_rows, IsOrdered}
use Rattle.dwc_image.specs.ImageSequences.{begun_rows}
use Rattle.dwc_image.proofs.SequenceLaws.{image-fits, image-last, can-end, begun-some, ended-grown, grown-none, grown-some, none-grown, sequence-found, sequence-none, sequence-some, number-view}
use Rattle.dwc_image.proofs.sequence.add_image.Goals as goal

pub add_rows-requires-clause-fits : goal.add_rows-requires-clause-fits
add_rows-requires-clause-fits c =
    let m = c.in-Some-func_at.function.now in
    let order = function_at-among IsOrdered c.args.transform.now c.in-Constant.start _ c.requires.functions (sym c.in-Some-func_at.ensures.found) in
    image-fits c.in-Constant.start c.args.rows.now m order (length c.args.program.now.files) c.requires.each m.short

pub returns-then-is_none-clause-added : goal.returns-then-is_none-clause-added
returns-then-is_none-clause-added c =
    let rows = c.args.rows.now in
    let m = c.in-Some-func_at.function.now in
    let after = c.add_rows.new.program in
    let image = c.in_ok-found.ensures.rows in
    let grown = grown-none c.unwrap-symbol.result c.in_ok-found.found c.args.program.now after c.if-is_none.ensures c.in_ok-found.ensures.begun in
    let none = sequence-none _ (ap (λ q. length (begun_rows q)) grown.begun) in
    let written = sequence-found c.args.transform.now c.in-Constant.start rows (begun_rows after.begun) m (sym c.in-Some-func_at.ensures.found) image in
    rw (c.in-Some.is, c.in-Constant.is, written ∙ none) (none-grown c.unwrap-symbol.result c.args.program.now after grown)

pub end_sequence-requires : goal.end_sequence-requires
end_sequence-requires c =
    let rows = c.args.rows.now in
    let m = c.in-Some-func_at.function.now in
    let after = c.add_rows.new.program in
    let image = c.in_ok-found.ensures.rows in
    let order = function_at-among IsOrdered c.args.transform.now c.in-Constant.start _ c.requires.functions (sym c.in-Some-func_at.ensures.found) in
    let grown = grown-some c.unwrap-symbol.result c.in_ok-found.found c.args.program.now after c.if-is_none.ensures c.in_ok-found.ensures.begun in
    can-end c.unwrap-symbol.result 0 after m.len grown.begun (rw image (image-last c.in-Constant.start rows m order)) m.short

pub returns-clause-added : goal.returns-clause-added
returns-clause-added c =
    let rows = c.args.rows.now in
    let m = c.in-Some-func_at.function.now in
    let after = c.add_rows.new.program in
    let image = c.in_ok-found.ensures.rows in
    let grown = grown-some c.unwrap-symbol.result c.in_ok-found.found c.args.program.now after c.if-is_none.ensures c.in_ok-found.ensures.begun in
    let written = sequence-found c.args.transform.now c.in-Constant.start rows (begun_rows after.begun) m (sym c.in-Some-func_at.ensures.found) image in
    let some = sequence-some _ (begun-some c.unwrap-symbol.result 0 after.begun grown.begun) in
    rw (c.in-Some.is, c.in-Constant.is, written ∙ some, number-view m c.unwrap-symbol.result c.unwrap-symbol.ensures, ← ended-grown c.unwrap-symbol.result 0 m.len _ c.args.program.now after grown refl) c.end_sequence.ensures.ok
