use Rattle.std.proofs.Common.{◌++◌, ◌∙◌, subst, arith}
use Rattle.std.proofs.lemmas.Result.{err_from_is_err_and}
use Rattle.dwc_base.specs.Outputs.{section_view}
use Rattle.dwc_cli.specs.Edge.{AppendsFront, Sends}
use Rattle.dwc_cli.specs.Printed.{printed_section}
use Rattle.dwc_cli.proofs.Writes.{Sends-next, Sends-end, Sends-fail, split-items, none-left}
use Rattle.dwc_cli.proofs.printing.print_each.Goals as goal

pub returns-in_err-print_section-clause-text : goal.returns-in_err-print_section-clause-text
returns-in_err-print_section-clause-text g c =
    let p = err_from_is_err_and c.from_residual.result c.from_residual.ensures.1 in
    let l = c.loop-section in
    let parts = split-items printed_section section_view c.args.sections.now l.section-index c.section-item.result c.loop-section-test.true in
    let failed = subst (λ s. AppendsFront (g.K.Sink.written l.sink) (g.K.Sink.written c.print_section.new.sink) (l.page ++ printed_section (section_view s))) c.section-item.is c.in_err-print_section.ensures.text in
    rw (p.1) (Sends-fail _ _ (g.K.Sink.written l.sink) l.page (g.K.Sink.written c.print_section.new.sink) _ _ _ _ parts l.invariant.printed failed)

pub loop-section-preserved : goal.loop-section-preserved
loop-section-preserved g c =
    let l = c.loop-section in
    let parts = split-items printed_section section_view c.args.sections.now l.section-index c.section-item.result c.loop-section-test.true in
    let one = subst (λ s. Sends (g.K.Sink.written l.sink) l.page (g.K.Sink.written c.print_section.new.sink) c.print_section.new.page (printed_section (section_view s))) c.section-item.is c.in_ok-print_section.ensures.text in
    record {
      printed = Sends-next _ _ _ _ _ _ _ _ _ _ parts l.invariant.printed one;
      same = c.in_ok-print_section.ensures.cause.well ∙ l.invariant.same;
      well = c.in_ok-print_section.ensures.ends.well ∙ l.invariant.well;
    }

pub returns-clause-text : goal.returns-clause-text
returns-clause-text g c = Sends-end _ _ _ c.loop-section.page _ _ (none-left printed_section section_view c.args.sections.now c.loop-section.section-index (omega arith)) c.loop-section.invariant.printed
