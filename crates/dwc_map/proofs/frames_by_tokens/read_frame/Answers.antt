use Rattle.std.proofs.Common.{◌≡◌, ◌∷◌, arith}
use Rattle.json.specs.Token as token
use Rattle.dwc_isa.specs.CallFrames.{description_view}
use Rattle.dwc_map.proofs.TokenFrames.{frame-told, no-frame-told}
use Rattle.dwc_map.proofs.frames_by_tokens.read_frame.Goals as goal

pub returns-in-Some-Null-clause-told : goal.returns-in-Some-Null-clause-told
returns-in-Some-Null-clause-told c =
    let is : c.args.reader.now ≡ token.null ∷ c.next.new.self = grind arith in
    no-frame-told c.args.depth c.args.reader.now c.next.new.self is

pub returns-in_ok-description_inside-in-Some-BeginObject-clause-told :
    goal.returns-in_ok-description_inside-in-Some-BeginObject-clause-told
returns-in_ok-description_inside-in-Some-BeginObject-clause-told c =
    let is : c.args.reader.now ≡ token.begin_object ∷ c.next.new.self = grind arith in
    let done = c.in_ok-description_inside-in-Some-BeginObject in
    frame-told c.args.depth c.args.reader.now c.next.new.self c.description_inside.new.reader (description_view done.field-0) (omega (arith, c.requires)) is done.ensures.told
