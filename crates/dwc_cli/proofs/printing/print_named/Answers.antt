use Rattle.std.proofs.Common.{◌++◌, refl}
use Rattle.std.proofs.lemmas.Result.{err_from_is_err_and}
use Rattle.dwc_cli.proofs.Writes.{Sends-begin, Sends-next, Sends-fail, Prints-last}
use Rattle.dwc_cli.proofs.printing.print_named.Goals as goal

pub returns-in_err-print_bytes-clause-text : goal.returns-in_err-print_bytes-clause-text
returns-in_err-print_bytes-clause-text g c =
    let p = err_from_is_err_and c.from_residual.result c.from_residual.ensures.1 in
    let head = c.args.head.now in
    let rest = c.args.name.now ++ c.args.tail.now in
    rw (p.1) (Sends-fail _ _ (g.K.Sink.written c.args.sink.now) c.args.page.now (g.K.Sink.written c.print_bytes.new.sink) head rest (head ++ rest) (head ++ rest) refl (Sends-begin _ _ _) c.in_err-print_bytes.ensures.text)

pub returns-in_err-print_bytes-2-clause-text : goal.returns-in_err-print_bytes-2-clause-text
returns-in_err-print_bytes-2-clause-text g c =
    let p = err_from_is_err_and c.from_residual-in_err-print_bytes-2.result c.from_residual-in_err-print_bytes-2.ensures.1 in
    let head = c.args.head.now in
    let name = c.args.name.now in
    let rest = name ++ c.args.tail.now in
    let first = Sends-next (g.K.Sink.written c.args.sink.now) c.args.page.now (g.K.Sink.written c.args.sink.now) c.args.page.now (g.K.Sink.written c.print_bytes.new.sink) c.print_bytes.new.page head rest (head ++ rest) (head ++ rest) refl (Sends-begin _ _ _) c.in_ok-print_bytes.ensures.text in
    rw (p.1) (Sends-fail _ _ _ c.print_bytes.new.page (g.K.Sink.written c.print_bytes-2.new.sink) name c.args.tail.now rest (head ++ rest) refl first (rw c.as_bytes.ensures.value at c.in_err-print_bytes-2.ensures.text))

pub returns-clause-text : goal.returns-clause-text
returns-clause-text g c =
    let head = c.args.head.now in
    let name = c.args.name.now in
    let tail = c.args.tail.now in
    let rest = name ++ tail in
    let first = Sends-next (g.K.Sink.written c.args.sink.now) c.args.page.now (g.K.Sink.written c.args.sink.now) c.args.page.now (g.K.Sink.written c.print_bytes.new.sink) c.print_bytes.new.page head rest (head ++ rest) (head ++ rest) refl (Sends-begin _ _ _) c.in_ok-print_bytes.ensures.text in
    let second = Sends-next _ _ _ c.print_bytes.new.page (g.K.Sink.written c.print_bytes-2.new.sink) c.print_bytes-2.new.page name tail rest (head ++ rest) refl first (rw c.as_bytes.ensures.value at c.in_ok-print_bytes-2.ensures.text) in
    Prints-last _ _ _ c.print_bytes-2.new.page (g.K.Sink.written c.print_bytes-3.new.sink) c.print_bytes-3.new.page tail (head ++ rest) c.print_bytes-3.result second c.print_bytes-3.ensures.text
