use Rattle.std.proofs.Common.{arith}
use Rattle.std.proofs.lemmas.Result.{err_from_is_err_and}
use Rattle.dwc_base.specs.Wasm.{module_from_sections}
use Rattle.dwc_wasm.proofs.FileStarts.{wasm_module-no_start, wasm_module-broken, wasm_module-done, sections_start-shorter}
use Rattle.dwc_wasm.proofs.WasmNameLaws.{TellsNames-sorted}
use Rattle.dwc_wasm.proofs.split.split_wasm.Goals as goal

pub returns-in_err-cursor-clause-translated : goal.returns-in_err-cursor-clause-translated
returns-in_err-cursor-clause-translated c =
    let p = err_from_is_err_and c.from_residual.result c.from_residual.ensures.1 in
    rw (p.1, p.2) (wasm_module-no_start c.args.bytes.now _ c.in_err-cursor.ensures)

pub returns-in_err-walked-clause-translated : goal.returns-in_err-walked-clause-translated
returns-in_err-walked-clause-translated c =
    let p = err_from_is_err_and c.from_residual-in_err-walked.result c.from_residual-in_err-walked.ensures.1 in
    let walked = c.in_err-walked.ensures.walked in
    rw (p.1, p.2) (wasm_module-broken c.args.bytes.now c.in_ok-cursor.cursor walked.0 _ c.in_ok-cursor.ensures walked.1)

pub returns-clause-translated : goal.returns-clause-translated
returns-clause-translated c =
    let walked = c.in_ok-walked.ensures.walked in
    let held = walked.3 in
    let m = module_from_sections walked.0 in
    (m, wasm_module-done c.args.bytes.now c.in_ok-cursor.cursor walked.0 c.in_ok-cursor.ensures walked.1, (c.in_ok-with_names.ensures.kept m walked.2, c.in_ok-with_names.ensures.told walked.0 held))

pub returns-clause-inside : goal.returns-clause-inside
returns-clause-inside c = λ name. rw c.in_ok-with_names.ensures.sections (omega (arith, sections_start-shorter c.args.bytes.now c.in_ok-cursor.cursor c.in_ok-cursor.ensures, c.in_ok-walked.ensures.inside name))

pub returns-clause-split_inside : goal.returns-clause-split_inside
returns-clause-split_inside c = λ name. rw c.in_ok-with_names.ensures.dwo_sections (omega (arith, sections_start-shorter c.args.bytes.now c.in_ok-cursor.cursor c.in_ok-cursor.ensures, c.in_ok-walked.ensures.split_inside name))

pub returns-clause-sorted : goal.returns-clause-sorted
returns-clause-sorted c =
    let walked = c.in_ok-walked.ensures.walked in
    TellsNames-sorted _ (module_from_sections walked.0) (c.in_ok-with_names.ensures.told walked.0 walked.3)
