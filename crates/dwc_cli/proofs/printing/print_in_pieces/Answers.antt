use Rattle.std.proofs.Common.{◌≡◌, ◌++◌, w32, to_z, of_z, subst, sym, ◌∙◌, append_assoc, replicate, drop, refl, arith, rules}
use Rattle.std.proofs.lemmas.Int.{to_z-of_z}
use Rattle.std.specs.Prelude.{codes}
use Rattle.std.specs.Fmt.{decimal, signed_decimal}
use Rattle.dwc_cli.specs.Edge.{Prints}
use Rattle.dwc_cli.specs.Printed.{space}
use Rattle.dwc_cli.proofs.PrintedSteps.{named_parts}
use Rattle.dwc_cli.proofs.MadeLines.{line_text, line_end}
use Rattle.dwc_cli.proofs.printing.print_in_pieces.Goals as goal

pub returns-clause-text : goal.returns-clause-text
returns-clause-text g c =
    let r = c.args.reloc.now in
    let back : to_z w32 (of_z w32 r.addend) ≡ r.addend = to_z-of_z w32 r.addend (search rules) in
    let front = codes "reloc " ++ decimal r.offset ++ space ++ decimal r.size ++ space in
    let b = c.begin_line-start in
    let made = rw (c.word_before-kind.ensures.text) at b.ensures.text in
    let head = line_text b.new.line (replicate 128 0) (front ++ codes "section ") b.result (omega arith) refl b.ensures.start (made ∙ sym (append_assoc front (codes "section ") (drop 64 (replicate 128 0)))) in
    let e = c.end_line-tail in
    let ends = line_end e.new.line (replicate 128 0) (signed_decimal r.addend) e.result (omega arith) refl e.ensures.start.1 (rw (back) at e.ensures.text) in
    let said = rw (c.text_from-front.ensures, c.text_from-back.ensures, head, ends) at c.print_named.ensures.text in
    subst (λ xs. Prints (g.K.Sink.written c.args.sink.now) c.args.page.now (g.K.Sink.written c.print_named.new.sink) c.print_named.new.page xs c.print_named.result) (named_parts front c.args.name.now (signed_decimal r.addend)) said
