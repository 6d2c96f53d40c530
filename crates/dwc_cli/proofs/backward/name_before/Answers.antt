use Rattle.std.proofs.Common.{◌-◌, length, arith}
use Rattle.dwc_cli.proofs.MadeLines.{two_pieces}
use Rattle.dwc_cli.proofs.backward.name_before.Goals as goal

pub returns-clause-text : goal.returns-clause-text
returns-clause-text c = two_pieces c.args.line.now c.args.name.now c.copy_from_slice-3.new.self c.copy_from_slice-2.new.self (c.args.end - length c.args.name.now) c.args.end (omega arith) (omega arith) (omega (arith, c.requires.0)) (omega (arith, c.requires.1)) c.copy_from_slice-2.ensures.after c.copy_from_slice-3.ensures.after
