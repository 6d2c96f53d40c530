use Rattle.dwc_write.proofs.PathLaws.{path-known}
use Rattle.dwc_write.proofs.line_names.use_name.Goals as goal

pub returns-in-Some : goal.returns-in-Some
returns-in-Some c = path-known c.args.names.now c.args.name.now _ c.requires c.in-Some.ensures
