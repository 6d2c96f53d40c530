use Rattle.std.proofs.Common.{refl}
use Rattle.std.proofs.lemmas.Result.{err_from_is_err_and}
use Rattle.dwc_write.proofs.PathLaws.{path-added, path-refused, paths-exit}
use Rattle.dwc_write.proofs.line_names.add_name.Goals as goal

pub returns-in_err-behind : goal.returns-in_err-behind
returns-in_err-behind c =
    let p = err_from_is_err_and c.from_residual.result c.from_residual.ensures.1 in
    paths-exit _ _ c.args.names.now _ _ p (path-refused _ c.args.names.now c.args.name.now c.requires.laid c.requires.free c.in_err-behind.ensures)

pub returns : goal.returns
returns c = path-added c.args.names.now _ c.args.name.now c.in_ok-behind.behind c.requires.laid c.requires.free c.in_ok-add.ensures.ok c.in_ok-push.ensures.items refl c.in_ok-behind.ensures.0 c.in_ok-behind.ensures.1
