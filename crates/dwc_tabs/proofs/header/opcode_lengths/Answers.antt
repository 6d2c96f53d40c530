use Rattle.std.proofs.Common.{◌-◌, ◌∙◌}
use Rattle.std.proofs.lemmas.Result.{err_from_is_err_and}
use Rattle.dwc_tabs.proofs.HeaderLaws.{counted_at-bytes}
use Rattle.dwc_tabs.proofs.header.opcode_lengths.Goals as goal

pub returns-in_err-take-clause-read : goal.returns-in_err-take-clause-read
returns-in_err-take-clause-read c =
    let p = err_from_is_err_and c.from_residual.result c.from_residual.ensures.1 in
    rw (p.1, p.2) (counted_at-bytes (c.args.opcode_base - 1) c.args.cursor.now ∙ c.in_err-take.ensures.read.0)

pub returns-clause-read : goal.returns-clause-read
returns-clause-read c = counted_at-bytes (c.args.opcode_base - 1) c.args.cursor.now ∙ c.in_ok-take.ensures.read
