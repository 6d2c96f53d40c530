use Rattle.std.proofs.Common.{◌∙◌, ◌+◌, ◌∷◌, ap, sym, arith, drop}
use Rattle.std.proofs.lemmas.Result.{err_from_is_err_and}
use Rattle.dwc_write.proofs.PathLaws.{naming-start, directory-there, naming-more, naming-refused, naming-done, paths-exit}
use Rattle.dwc_write.proofs.line_names.use_directories.Goals as goal

pub loop-i-init : goal.loop-i-init
loop-i-init c = naming-start c.args.directories.now c.args.names.now c.requires

pub use_name-requires : goal.use_name-requires
use_name-requires c = c.loop-i.invariant.laid

pub loop-i-preserved : goal.loop-i-preserved
loop-i-preserved c =
    let there = directory-there c.args.directories.now c.loop-i.i c.get.result.now (omega (arith, c.loop-i-test.true, c.len-i-end.ensures)) in
    naming-more c.args.directories.now c.loop-i.i c.get.result.now c.args.names.now c.loop-i.names c.use_name.new.names (there ∙ ap (λ n. n ∷ drop (c.loop-i.i + 1) c.args.directories.now) (sym c.get.ensures)) c.loop-i.invariant c.in_ok-use_name.ensures

pub returns-in_err-use_name : goal.returns-in_err-use_name
returns-in_err-use_name c =
    let p = err_from_is_err_and c.from_residual.result c.from_residual.ensures.1 in
    let there = directory-there c.args.directories.now c.loop-i.i c.get.result.now (omega (arith, c.loop-i-test.true, c.len-i-end.ensures)) in
    paths-exit _ _ c.args.names.now _ _ p
    (naming-refused c.args.directories.now c.loop-i.i c.get.result.now c.args.names.now c.loop-i.names _ (there ∙ ap (λ n. n ∷ drop (c.loop-i.i + 1) c.args.directories.now) (sym c.get.ensures)) c.loop-i.invariant c.in_err-use_name.ensures)

pub returns : goal.returns
returns c = naming-done c.args.directories.now c.loop-i.i c.args.names.now c.loop-i.names (omega (arith, c.loop-i-test.false, c.len-i-end.ensures)) c.loop-i.invariant
