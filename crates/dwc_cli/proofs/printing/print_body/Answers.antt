use Rattle.std.proofs.Common.{List, ℕ, ◌++◌, length, replicate, refl, arith}
use Rattle.std.specs.Prelude.{codes}
use Rattle.std.specs.Fmt.{decimal}
use Rattle.std.proofs.lemmas.Result.{err_from_is_err_and}
use Rattle.hex.specs.Hex.{encode_lower}
use Rattle.dwc_cli.specs.Printed.{space, line_feed}
use Rattle.dwc_cli.proofs.PrintedSteps.{section_parts}
use Rattle.dwc_cli.proofs.MadeLines.{line_end}
use Rattle.dwc_cli.proofs.Writes.{Sends-begin, Sends-next, Sends-fail, Prints-last}
use Rattle.dwc_cli.proofs.printing.print_body.Goals as goal

-- the line, and what stands behind it
abbrev line_of : List ℕ → List ℕ → List ℕ
line_of name body = codes "section " ++ (name ++ (space ++ (decimal (length body) ++ line_feed)))

abbrev behind_line : List ℕ → List ℕ
behind_line body = encode_lower body ++ line_feed

abbrev text_of : List ℕ → List ℕ → List ℕ
text_of name body = codes "section " ++ (name ++ (space ++ (decimal (length body) ++ (line_feed ++ behind_line body))))

pub returns-in_err-print_named-clause-text : goal.returns-in_err-print_named-clause-text
returns-in_err-print_named-clause-text g c =
    let p = err_from_is_err_and c.from_residual.result c.from_residual.ensures.1 in
    let name = c.args.name.now in
    let body = c.args.body.now in
    let e = c.end_section_line-end in
    let ends = line_end e.new.line (replicate 128 0) (decimal (length c.args.body.now)) e.result (omega arith) refl e.ensures.start e.ensures.text in
    let said = rw (c.text_from.ensures, ends) at c.in_err-print_named.ensures.text in
    rw (p.1) (Sends-fail _ _ (g.K.Sink.written c.args.sink.now) c.args.page.now (g.K.Sink.written c.print_named.new.sink) (line_of name body) (behind_line body) (text_of name body) (text_of name body) (section_parts name (decimal (length body)) (behind_line body)) (Sends-begin _ _ _) said)

pub returns-in_err-print_hex-clause-text : goal.returns-in_err-print_hex-clause-text
returns-in_err-print_hex-clause-text g c =
    let p = err_from_is_err_and c.from_residual-in_err-print_hex.result c.from_residual-in_err-print_hex.ensures.1 in
    let name = c.args.name.now in
    let body = c.args.body.now in
    let e = c.end_section_line-end in
    let ends = line_end e.new.line (replicate 128 0) (decimal (length c.args.body.now)) e.result (omega arith) refl e.ensures.start e.ensures.text in
    let said = rw (c.text_from.ensures, ends) at c.in_ok-print_named.ensures.text in
    let first = Sends-next _ _ (g.K.Sink.written c.args.sink.now) c.args.page.now (g.K.Sink.written c.print_named.new.sink) c.print_named.new.page (line_of name body) (behind_line body) (text_of name body) (text_of name body) (section_parts name (decimal (length body)) (behind_line body)) (Sends-begin _ _ _) said in
    rw (p.1) (Sends-fail _ _ _ c.print_named.new.page (g.K.Sink.written c.print_hex.new.sink) (encode_lower body) line_feed (behind_line body) (text_of name body) refl first c.in_err-print_hex.ensures.text)

pub returns-clause-text : goal.returns-clause-text
returns-clause-text g c =
    let name = c.args.name.now in
    let body = c.args.body.now in
    let e = c.end_section_line-end in
    let ends = line_end e.new.line (replicate 128 0) (decimal (length c.args.body.now)) e.result (omega arith) refl e.ensures.start e.ensures.text in
    let said = rw (c.text_from.ensures, ends) at c.in_ok-print_named.ensures.text in
    let first = Sends-next _ _ (g.K.Sink.written c.args.sink.now) c.args.page.now (g.K.Sink.written c.print_named.new.sink) c.print_named.new.page (line_of name body) (behind_line body) (text_of name body) (text_of name body) (section_parts name (decimal (length body)) (behind_line body)) (Sends-begin _ _ _) said in
    let second = Sends-next _ _ _ c.print_named.new.page (g.K.Sink.written c.print_hex.new.sink) c.print_hex.new.page (encode_lower body) line_feed (behind_line body) (text_of name body) refl first c.in_ok-print_hex.ensures.text in
    Prints-last _ _ _ c.print_hex.new.page (g.K.Sink.written c.print_bytes.new.sink) c.print_bytes.new.page line_feed (text_of name body) c.print_bytes.result second c.print_bytes.ensures.text
