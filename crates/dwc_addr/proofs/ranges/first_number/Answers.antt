use Rattle.std.proofs.Common.{◌∙◌, sym}
use Rattle.dwc_addr.proofs.StretchLaws.{shown-all}
use Rattle.dwc_addr.proofs.TranslateLaws.{default-come, debugger-come, default-native, debugger-native}
use Rattle.dwc_addr.proofs.ranges.first_number.Goals as goal

pub returns-in-Default : goal.returns-in-Default
returns-in-Default c =
    let m = c.args.function.now in
    default-come m c.args.start c.args.end c.first_run.result c.in-Default.is ∙ c.first_run.ensures ∙ sym (default-native m c.args.start c.args.end c.in-Default.is)

pub returns-in-Debugger : goal.returns-in-Debugger
returns-in-Debugger c =
    let m = c.args.function.now in
    debugger-come m c.args.start c.args.end 0 c.in-Debugger.is ∙ shown-all m c.args.start c.args.end (m.shown c.in-Debugger.is) ∙ sym (debugger-native m c.args.start c.args.end c.in-Debugger.is)
