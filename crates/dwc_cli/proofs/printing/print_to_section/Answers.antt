use Rattle.std.proofs.Common.{◌≡◌, ◌++◌, drop, w32, to_z, of_z, subst, arith, rules, ◌∙◌}
use Rattle.std.proofs.lemmas.Int.{to_z-of_z}
use Rattle.std.specs.Prelude.{codes}
use Rattle.std.specs.Fmt.{decimal, signed_decimal}
use Rattle.dwc_cli.specs.Edge.{Prints}
use Rattle.dwc_cli.specs.Printed.{space, line_feed}
use Rattle.dwc_cli.proofs.MadeLines.{line_text, line_parts}
use Rattle.dwc_cli.proofs.printing.print_to_section.Goals as goal

pub returns-clause-text : goal.returns-clause-text
returns-clause-text g c =
    let r = c.args.reloc.now in
    let back : to_z w32 (of_z w32 r.addend) ≡ r.addend = to_z-of_z w32 r.addend (search rules) in
    let front = codes "reloc " ++ decimal r.offset ++ space ++ decimal r.size ++ space in
    let target = codes "section " ++ c.args.name.now in
    let text = front ++ target ++ space ++ signed_decimal r.addend ++ line_feed in
    let made = rw (c.word_before-kind.ensures.text, c.name_before-target.ensures.text, c.as_bytes.ensures.value, c.end_line-tail.ensures.text, back) at c.begin_line-start.ensures.text in
    let whole = line_text c.begin_line-start.new.line c.args.line.now text c.begin_line-start.result (omega arith) (omega arith) (omega (arith, c.begin_line-start.ensures.start)) (made ∙ line_parts front target (signed_decimal r.addend) (drop 64 c.args.line.now)) in
    subst (λ xs. Prints (g.K.Sink.written c.args.sink.now) c.args.page.now (g.K.Sink.written c.print_line.new.sink) c.print_line.new.page xs c.print_line.result) whole c.print_line.ensures.text
