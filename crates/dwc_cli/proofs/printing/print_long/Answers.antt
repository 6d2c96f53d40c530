use Rattle.std.proofs.Common.{[], refl}
use Rattle.std.proofs.lemmas.Result.{err_from_is_err_and}
use Rattle.dwc_cli.proofs.Writes.{Sends-begin, Sends-push, Sends-fail, Prints-written, Prints-last}
use Rattle.dwc_cli.proofs.printing.print_long.Goals as goal

pub returns-in_err-flush-clause-text : goal.returns-in_err-flush-clause-text
returns-in_err-flush-clause-text g c =
    let p = err_from_is_err_and c.from_residual.result c.from_residual.ensures.1 in
    let bytes = c.args.bytes.now in
    rw (p.1) (Sends-fail (g.K.Sink.written c.args.sink.now) c.args.page.now (g.K.Sink.written c.args.sink.now) c.args.page.now (g.K.Sink.written c.flush.new.sink) [] bytes bytes bytes refl (Sends-begin _ _ bytes) c.in_err-flush.ensures.text)

pub returns-clause-text : goal.returns-clause-text
returns-clause-text g c =
    let bytes = c.args.bytes.now in
    let page = c.flush.new.page in
    let before = Sends-push _ _ (g.K.Sink.written c.flush.new.sink) page bytes c.in_ok-flush.ensures.text in
    Prints-last _ _ (g.K.Sink.written c.flush.new.sink) page (g.K.Sink.written c.write_all.new.sink) page bytes bytes c.write_all.result before (Prints-written _ _ page bytes c.write_all.result c.in_ok-flush.ensures.empty c.write_all.ensures.whole c.write_all.ensures.front)
