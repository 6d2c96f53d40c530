use Rattle.std.proofs.Common.{take, drop, ap, ◌∙◌, arith, length-drop}
use Rattle.std.proofs.Math.Seq.{take-add}
use Rattle.std.proofs.lemmas.List.{take_rest}
use Rattle.dwc_cli.specs.Calls.{failures}
use Rattle.dwc_cli.proofs.Writes.{Appended-append}
use Rattle.dwc_cli.proofs.sink.write_all.Goals as goal

pub loop-sent-preserved : goal.loop-sent-preserved
loop-sent-preserved g c =
    let bytes = c.args.bytes.now in
    let sent = c.loop-sent.sent in
    let count = c.in_ok-sent.field-0 in
    let piece = rw (take_rest bytes sent) at c.in_ok-sent.ensures.bytes in
    record {
      written = rw (take-add sent count bytes) (Appended-append _ (g.K.Sink.written c.loop-sent.sink) _ (take sent bytes) (take count (drop sent bytes)) c.loop-sent.invariant.written piece.2);
      within = omega (arith, length-drop sent bytes);
      same = c.in_ok-sent.ensures.cause.well ∙ c.loop-sent.invariant.same;
      well = ap failures c.in_ok-sent.ensures.asked ∙ c.loop-sent.invariant.well;
    }
