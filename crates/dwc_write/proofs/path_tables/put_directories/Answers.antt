use Rattle.std.proofs.Common.{◌∙◌, ◌+◌, ◌∷◌, ap, sym, arith, drop}
use Rattle.std.proofs.lemmas.Result.{err_from_is_err_and}
use Rattle.dwc_write.specs.PathTables.{path_bytes, path_relocations}
use Rattle.dwc_write.proofs.PathLaws.{directory-there}
use Rattle.dwc_write.proofs.PathWrites.{step-more, step-refused, step-done}
use Rattle.dwc_write.proofs.path_tables.put_directories.Goals as goal

pub loop-i-preserved : goal.loop-i-preserved
loop-i-preserved c =
    let there = directory-there c.args.directories.now c.loop-i.i c.get.result.now (omega (arith, c.loop-i-test.true, c.len-i-end.ensures)) in
    step-more (λ o. path_bytes o c.args.names.now.texts) (path_relocations c.args.names.now.texts) c.args.directories.now c.loop-i.i c.get.result.now c.args.line.now c.loop-i.line c.write_name.new.line
    (there ∙ ap (λ n. n ∷ drop (c.loop-i.i + 1) c.args.directories.now) (sym c.get.ensures)) c.loop-i.invariant c.in_ok-write_name.ensures

pub returns-in_err-write_name : goal.returns-in_err-write_name
returns-in_err-write_name c =
    let p = err_from_is_err_and c.from_residual.result c.from_residual.ensures.1 in
    let there = directory-there c.args.directories.now c.loop-i.i c.get.result.now (omega (arith, c.loop-i-test.true, c.len-i-end.ensures)) in
    step-refused (λ o. path_bytes o c.args.names.now.texts) (path_relocations c.args.names.now.texts) c.args.directories.now c.loop-i.i c.get.result.now c.args.line.now c.loop-i.line _ _ _ _
    (there ∙ ap (λ n. n ∷ drop (c.loop-i.i + 1) c.args.directories.now) (sym c.get.ensures)) c.loop-i.invariant p c.in_err-write_name.ensures

pub returns : goal.returns
returns c = step-done (λ o. path_bytes o c.args.names.now.texts) (path_relocations c.args.names.now.texts) c.args.directories.now c.loop-i.i c.args.line.now c.loop-i.line (omega (arith, c.loop-i-test.false, c.len-i-end.ensures)) c.loop-i.invariant
