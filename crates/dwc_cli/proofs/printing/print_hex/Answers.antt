use Rattle.std.proofs.Common.{◌≡◌, ◌++◌, [], ◌∙◌, refl}
use Rattle.std.proofs.lemmas.List.{take-append-drop}
use Rattle.std.proofs.lemmas.Result.{err_from_is_err_and}
use Rattle.hex.specs.Hex.{encode_lower}
use Rattle.dwc_cli.proofs.PrintedSteps.{hex_parts, hex_none}
use Rattle.dwc_cli.proofs.Writes.{Sends-push, Sends-next, Sends-end, Sends-fail}
use Rattle.dwc_cli.proofs.printing.print_hex.Goals as goal

pub returns-in_err-make_room-clause-text : goal.returns-in_err-make_room-clause-text
returns-in_err-make_room-clause-text g c =
    let p = err_from_is_err_and c.from_residual.result c.from_residual.ensures.1 in
    let rest = encode_lower c.loop-rest.rest.now in
    rw (p.1) (Sends-fail _ _ (g.K.Sink.written c.loop-rest.sink) c.loop-rest.page (g.K.Sink.written c.make_room.new.sink) [] rest rest _ refl c.loop-rest.invariant.printed c.in_err-make_room.ensures.text)

pub loop-rest-preserved : goal.loop-rest-preserved
loop-rest-preserved g c =
    let front = c.split_at.result.0.now in
    let back = c.split_at.result.1.now in
    let parts : front ++ back ≡ c.loop-rest.rest.now = rw (c.split_at.ensures.front, c.split_at.ensures.back) (take-append-drop c.min.result c.loop-rest.rest.now) in
    let piece = Sends-push (g.K.Sink.written c.loop-rest.sink) c.loop-rest.page (g.K.Sink.written c.make_room.new.sink) c.make_room.new.page (encode_lower front) c.in_ok-make_room.ensures.text in
    record {
      printed = rw (c.push_hex.ensures) (Sends-next _ _ _ _ _ _ _ _ _ _ (hex_parts front back c.loop-rest.rest.now parts) c.loop-rest.invariant.printed piece);
      same = c.in_ok-make_room.ensures.cause.well ∙ c.loop-rest.invariant.same;
      well = c.in_ok-make_room.ensures.ends.well ∙ c.loop-rest.invariant.well;
    }

pub returns-clause-text : goal.returns-clause-text
returns-clause-text g c = Sends-end _ _ _ c.loop-rest.page _ _ (hex_none c.loop-rest.rest.now c.loop-rest-test.ensures) c.loop-rest.invariant.printed
