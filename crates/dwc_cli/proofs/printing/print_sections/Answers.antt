use Rattle.std.proofs.Common.{map}
use Rattle.std.specs.List.{flat_map}
use Rattle.std.proofs.lemmas.Result.{err_from_is_err_and}
use Rattle.dwc_base.specs.Outputs.{section_view}
use Rattle.dwc_cli.specs.Printed.{printed, printed_section}
use Rattle.dwc_cli.proofs.Writes.{Prints-flushed, Prints-whole, Prints-front}
use Rattle.dwc_cli.proofs.printing.print_sections.Goals as goal

pub returns-in_err-print_each-clause-front : goal.returns-in_err-print_each-clause-front
unfolding printed
returns-in_err-print_each-clause-front g c =
    let p = err_from_is_err_and c.from_residual.result c.from_residual.ensures.1 in
    rw (p.1) (rw c.new-page.ensures at c.in_err-print_each.ensures.text)

pub returns-clause-whole : goal.returns-clause-whole
unfolding printed
returns-clause-whole g c =
    let text = flat_map printed_section (map section_view c.args.sections.now) in
    let sent = rw c.new-page.ensures at c.in_ok-print_each.ensures.text in
    let all = Prints-flushed _ _ (g.K.Sink.written c.print_each.new.sink) c.print_each.new.page (g.K.Sink.written c.flush.new.sink) c.flush.new.page text c.flush.result sent c.flush.ensures.text in
    Prints-whole _ _ _ text c.flush.result all c.flush.ensures.empty

pub returns-clause-front : goal.returns-clause-front
unfolding printed
returns-clause-front g c =
    let text = flat_map printed_section (map section_view c.args.sections.now) in
    let sent = rw c.new-page.ensures at c.in_ok-print_each.ensures.text in
    let all = Prints-flushed _ _ (g.K.Sink.written c.print_each.new.sink) c.print_each.new.page (g.K.Sink.written c.flush.new.sink) c.flush.new.page text c.flush.result sent c.flush.ensures.text in
    Prints-front _ _ _ text c.flush.result all
