use Rattle.std.proofs.Common.{◌∙◌, ap, sym, map}
use Rattle.std.proofs.lemmas.Result.{err_from_is_err_and}
use Rattle.dwc_write.specs.PathTables.{with_paths}
use Rattle.dwc_write.proofs.PathLaws.{table-names, table-refused, directories-refused, uses-then, paths-exit}
use Rattle.dwc_write.proofs.line_names.use_table.Goals as goal

pub returns-in_err-use_name : goal.returns-in_err-use_name
returns-in_err-use_name c =
    let p = err_from_is_err_and c.from_residual.result c.from_residual.ensures.1 in
    paths-exit _ _ c.args.names.now _ _ p (table-refused _ c.args.names.now.texts c.args.own.now c.args.directories.now c.args.files.now c.in_err-use_name.ensures)

pub returns-in_err-use_directories : goal.returns-in_err-use_directories
returns-in_err-use_directories c =
    let p = err_from_is_err_and c.from_residual-in_err-use_directories.result c.from_residual-in_err-use_directories.ensures.1 in
    paths-exit _ _ c.args.names.now _ _ p (directories-refused _ c.args.names.now c.use_name.new.names c.args.own.now c.args.directories.now c.args.files.now c.in_ok-use_name.ensures.0 c.in_err-use_directories.ensures)

pub returns : goal.returns
returns c =
    let names = map (λ f. f.name) c.args.files.now in
    let first = ap (λ ts. with_paths (with_paths ts c.args.directories.now) names) c.in_ok-use_name.ensures.0 in
    let second = ap (λ ts. with_paths ts names) c.in_ok-use_directories.ensures.0 in
    uses-then c.args.names.now c.use_directories.new.names _ _ names _ (table-names c.args.names.now.texts c.args.own.now c.args.directories.now c.args.files.now ∙ sym first ∙ sym second) c.use_files.ensures
