use Rattle.std.proofs.Common.{[], take, drop, refl}
use Rattle.std.proofs.lemmas.Result.{err_from_is_err_and}
use Rattle.dwc_cli.proofs.Writes.{Sends-begin, Sends-fail}
use Rattle.dwc_cli.proofs.printing.print_line.Goals as goal

pub returns-in_err-make_room-clause-text : goal.returns-in_err-make_room-clause-text
returns-in_err-make_room-clause-text g c =
    let p = err_from_is_err_and c.from_residual.result c.from_residual.ensures.1 in
    let bytes = (drop c.args.start (take 64 c.args.line.now)) in
    rw (p.1) (Sends-fail (g.K.Sink.written c.args.sink.now) c.args.page.now (g.K.Sink.written c.args.sink.now) c.args.page.now (g.K.Sink.written c.make_room.new.sink) [] bytes bytes bytes refl (Sends-begin _ _ bytes) c.in_err-make_room.ensures.text)
