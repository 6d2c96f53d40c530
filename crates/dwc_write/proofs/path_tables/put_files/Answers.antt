use Rattle.std.proofs.Common.{ℕ, ◌∙◌, List, ap, subst, arith, get_or, length}
use Rattle.std.proofs.lemmas.List.{at_drop_more}
use Rattle.std.proofs.lemmas.Result.{err_from_is_err_and}
use Rattle.dwc_base.specs.declared.records.Endian.{Endian}
use Rattle.dwc_base.specs.Outputs.{OutputRelocation}
use Rattle.dwc_dwarf.specs.LineHeaders.{LineFile}
use Rattle.dwc_section.specs.Writers.{Refuses, appended}
use Rattle.dwc_write.specs.PathTables.{path_file_bytes, path_relocations}
use Rattle.dwc_write.proofs.PathWrites.{no_file, is-file, step-more, step-refused, step-done}
use Rattle.dwc_write.proofs.path_tables.put_files.Goals as goal

abbrev spell : List (List ℕ) → Endian → LineFile → List ℕ
spell texts o f = path_file_bytes o texts f

abbrev at : List (List ℕ) → ℕ → LineFile → List OutputRelocation
at texts p f = path_relocations texts p f.name

pub loop-i-preserved : goal.loop-i-preserved
loop-i-preserved c =
    let texts = c.args.names.now.texts in
    let file = is-file c.args.files.now c.loop-i.i c.name.result.now c.directory.result (c.name.ensures no_file) (c.directory.ensures no_file) in
    step-more (spell texts) (at texts) c.args.files.now c.loop-i.i (get_or c.args.files.now c.loop-i.i no_file) c.args.line.now c.loop-i.line c.write_file.new.line
    (at_drop_more (λ t. t) c.args.files.now c.loop-i.i no_file (omega (arith, c.loop-i-test.true, c.len-i-end.ensures))) c.loop-i.invariant
    (c.in_ok-write_file.ensures ∙ ap (λ f. appended (spell c.args.names.now.texts c.loop-i.line.order f) (at c.args.names.now.texts (length c.loop-i.line.body) f) c.loop-i.line) file)

pub returns-in_err-write_file : goal.returns-in_err-write_file
returns-in_err-write_file c =
    let texts = c.args.names.now.texts in
    let file = is-file c.args.files.now c.loop-i.i c.name.result.now c.directory.result (c.name.ensures no_file) (c.directory.ensures no_file) in
    let p = err_from_is_err_and c.from_residual.result c.from_residual.ensures.1 in
    let P : LineFile → Type 0 = λ f. Refuses c.in_err-write_file.field-0.0 c.loop-i.line (length (spell c.args.names.now.texts c.loop-i.line.order f)) in
    step-refused (spell texts) (at texts) c.args.files.now c.loop-i.i (get_or c.args.files.now c.loop-i.i no_file) c.args.line.now c.loop-i.line _ _ _ _
    (at_drop_more (λ t. t) c.args.files.now c.loop-i.i no_file (omega (arith, c.loop-i-test.true, c.len-i-end.ensures))) c.loop-i.invariant p (subst P file c.in_err-write_file.ensures)

pub returns : goal.returns
returns c = step-done (spell c.args.names.now.texts) (at c.args.names.now.texts) c.args.files.now c.loop-i.i c.args.line.now c.loop-i.line (omega (arith, c.loop-i-test.false, c.len-i-end.ensures)) c.loop-i.invariant
