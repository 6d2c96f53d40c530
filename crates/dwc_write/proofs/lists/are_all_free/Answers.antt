use Rattle.std.proofs.Common.{◌≡◌, ◌<◌, ◌∙◌, add-one, ap, arith, length, map, sym, true, false}
use Rattle.std.proofs.lemmas.List.{get_or-map, length-map}
use Rattle.dwc_unit.specs.FileOrders.{looked_up}
use Rattle.dwc_unit.specs.GivenUnits.{GivenEntry}
use Rattle.dwc_unit.proofs.FileOrderLaws.{first_place}
use Rattle.dwc_write.specs.Noted.{are_free}
use Rattle.dwc_write.proofs.ContributionLaws.{all-end, all-step, all-stop}
use Rattle.dwc_write.proofs.lists.are_all_free.Goals as goal

pub loop-i-preserved : goal.loop-i-preserved
loop-i-preserved c =
    let f = looked_up c.args.additions.now in
    let es = map f c.args.order.now in
    let d = f first_place in
    let test = λ (e : GivenEntry). are_free c.args.kind e.attributes in
    let within : c.loop-i.i < length es = omega (arith, c.loop-i-test.true, length-map c.args.order.now f) in
    let at = get_or-map f c.args.order.now c.loop-i.i first_place d c.loop-i-test.true in
    let here : are_free c.args.kind c.attributes.result.now ≡ true = sym c.have_none.ensures ∙ c.if-not-have_none.false in
    rw add-one (all-step test es c.loop-i.i d _ within (ap test at ∙ sym (ap (are_free c.args.kind) c.attributes.ensures) ∙ here) c.loop-i.invariant)

pub returns-then-not-have_none : goal.returns-then-not-have_none
returns-then-not-have_none c =
    let f = looked_up c.args.additions.now in
    let es = map f c.args.order.now in
    let d = f first_place in
    let test = λ (e : GivenEntry). are_free c.args.kind e.attributes in
    let within : c.loop-i.i < length es = omega (arith, c.loop-i-test.true, length-map c.args.order.now f) in
    let at = get_or-map f c.args.order.now c.loop-i.i first_place d c.loop-i-test.true in
    let here : are_free c.args.kind c.attributes.result.now ≡ false = sym c.have_none.ensures ∙ c.if-not-have_none.true in
    all-stop test es c.loop-i.i d _ within (ap test at ∙ sym (ap (are_free c.args.kind) c.attributes.ensures) ∙ here) c.loop-i.invariant

pub returns : goal.returns
returns c =
    let f = looked_up c.args.additions.now in
    all-end (λ (e : GivenEntry). are_free c.args.kind e.attributes) (map f c.args.order.now) c.loop-i.i _ (omega (arith, c.loop-i-test.false, length-map c.args.order.now f)) c.loop-i.invariant
