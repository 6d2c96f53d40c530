use Rattle.std.proofs.Common.{arith}
use Rattle.dwc_unit.proofs.AttributeLaws.{index-push, index-none}
use Rattle.dwc_unit.proofs.attributes.Attributes.push.Goals.{in-Some+in_ok-insert, in_default}
use Rattle.dwc_unit.proofs.attributes.Attributes.push.Goals as goal

pub invariant_of-self-2 : goal.invariant_of-self-2
invariant_of-self-2 c =
    elim c.match-self.branch [ in-Some+in_ok-insert w ↦ (let pushed = rw (c.unwrap.ensures, w.self-inside-is, c.in_ok-reserve.ensures.items) at c.push.ensures.items in rw (w.self-inside-is) (index-push c.self.inside.list.items c.push.new.self.items c.args.attribute w.in-Some.places w.insert.new.self c.len-place.result pushed (omega (arith, c.len-place.ensures, c.self.inside.list.ok.0, c.self.inside.list.ok.1)) (rw (← c.self.view_is) at c.requires) (rw (w.in-Some.is) at c.self.invariant) (rw (w.name.ensures) at w.in_ok-insert.ensures.updates.0))) | in_default w ↦ rw (w.self-inside-is, w.in_default.is) (index-none c.push.new.self.items) ]
