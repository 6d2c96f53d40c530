use Rattle.std.proofs.Common.{◌∙◌, arith}
use Rattle.dwc_addr.proofs.StretchLaws.{shown-beyond}
use Rattle.dwc_addr.proofs.TranslateLaws.{default-come, debugger-come, ranges-beyond}
use Rattle.dwc_addr.proofs.ranges.last_number.Goals as goal

pub returns-in-Default : goal.returns-in-Default
returns-in-Default c = λ start end number past.
    let m = c.args.function.now in
    default-come m start end number c.in-Default.is ∙ ranges-beyond m start end number (omega (arith, past, c.run_count.ensures))

pub returns-in-Debugger : goal.returns-in-Debugger
returns-in-Debugger c = λ start end number past.
    let m = c.args.function.now in
    debugger-come m start end number c.in-Debugger.is ∙ shown-beyond m start end number (omega (arith, past, c.len.ensures, m.stretches.ok.0))
