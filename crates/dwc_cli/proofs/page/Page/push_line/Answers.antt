use Rattle.std.proofs.Common.{◌≡◌, ◌++◌, length, length-take-le, take, drop, ap, sym, ◌∙◌, arith}
use Rattle.dwc_cli.proofs.MadeLines.{page_line}
use Rattle.dwc_cli.proofs.page.Page.push_line.Goals as goal

pub returns : goal.returns
returns c =
    let page = c.self.inside in
    let held : length c.args.self.now ≡ page.filled = ap length (sym c.self.view_is) ∙ length-take-le page.filled page.bytes (omega (arith, c.self.invariant)) in
    page_line page.bytes c.copy_from_slice.new.self c.args.line.now page.filled c.args.start c.requires.0 (omega (arith, c.requires.1, held)) (omega arith) c.copy_from_slice.ensures.after
    ∙ ap (λ xs. xs ++ drop c.args.start (take 64 c.args.line.now)) c.self.view_is
