use Rattle.std.proofs.Common.{◌++◌, length, map}
use Rattle.std.specs.Prelude.{codes}
use Rattle.std.specs.Fmt.{decimal}
use Rattle.std.specs.List.{flat_map}
use Rattle.std.proofs.lemmas.Result.{err_from_is_err_and}
use Rattle.hex.specs.Hex.{encode_lower}
use Rattle.dwc_base.specs.Outputs.{relocation_view, section_view}
use Rattle.dwc_cli.specs.Printed.{space, line_feed, printed_section, printed_relocation}
use Rattle.dwc_cli.proofs.PrintedSteps.{body_parts}
use Rattle.dwc_cli.proofs.Writes.{Sends-begin, Sends-next, Sends-fail, Prints-last}
use Rattle.dwc_cli.proofs.printing.print_section.Goals as goal

pub returns-in_err-print_body-clause-text : goal.returns-in_err-print_body-clause-text
returns-in_err-print_body-clause-text g c =
    let p = err_from_is_err_and c.from_residual.result c.from_residual.ensures.1 in
    let s = c.args.section.now in
    let body = s.body.items in
    let rest = flat_map printed_relocation (map relocation_view s.relocs.items) in
    let front = codes "section " ++ (s.name.now ++ (space ++ (decimal (length body) ++ (line_feed ++ (encode_lower body ++ line_feed))))) in
    let said = rw c.deref.ensures.value at c.in_err-print_body.ensures.text in
    rw (p.1) (Sends-fail _ _ (g.K.Sink.written c.args.sink.now) c.args.page.now (g.K.Sink.written c.print_body.new.sink) front rest (printed_section (section_view s)) (printed_section (section_view s)) (body_parts s.name.now (decimal (length body)) (encode_lower body) rest) (Sends-begin _ _ _) said)

pub returns-clause-text : goal.returns-clause-text
returns-clause-text g c =
    let s = c.args.section.now in
    let body = s.body.items in
    let rest = flat_map printed_relocation (map relocation_view s.relocs.items) in
    let front = codes "section " ++ (s.name.now ++ (space ++ (decimal (length body) ++ (line_feed ++ (encode_lower body ++ line_feed))))) in
    let said = rw c.deref.ensures.value at c.in_ok-print_body.ensures.text in
    let first = Sends-next _ _ (g.K.Sink.written c.args.sink.now) c.args.page.now (g.K.Sink.written c.print_body.new.sink) c.print_body.new.page front rest (printed_section (section_view s)) (printed_section (section_view s)) (body_parts s.name.now (decimal (length body)) (encode_lower body) rest) (Sends-begin _ _ _) said in
    Prints-last _ _ _ c.print_body.new.page (g.K.Sink.written c.print_relocations.new.sink) c.print_relocations.new.page rest (printed_section (section_view s)) c.print_relocations.result first (rw c.deref-2.ensures.value at c.print_relocations.ensures.text)
