use Rattle.std.proofs.Common.{sym}
use Rattle.dwc_unit.proofs.AttributeLaws.{set-here, set-behind}
use Rattle.dwc_unit.proofs.attributes.Attributes.set.Goals as goal

pub returns-in-Some-clause-ok : goal.returns-in-Some-clause-ok
returns-in-Some-clause-ok c =
    let found = rw (c.in_ok-index_many.ensures) at (sym c.in-Some.ensures) in
    rw (c.replace.ensures, c.in_ok-attribute.ensures, c.in_ok-index_many.ensures) (set-here c.args.name c.args.value c.args.self.now c.in-Some.place found)

pub returns-in_ok-push-in-None-clause-ok : goal.returns-in_ok-push-in-None-clause-ok
returns-in_ok-push-in-None-clause-ok c =
    let none = rw (c.in_ok-index_many.ensures) at (sym c.in-None.ensures) in
    rw (c.in_ok-push-in-None.ensures.ok, c.in_ok-attribute.ensures, c.in_ok-index_many.ensures) (set-behind c.args.name c.args.value c.args.self.now none)
