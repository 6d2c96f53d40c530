use Rattle.std.proofs.Common.{◌+◌, ◌∙◌, ap}
use Rattle.dwc_unit.specs.declared.additions.Entry.{Entry}
use Rattle.dwc_unit.specs.UnitViews.{addition_in}
use Rattle.dwc_unit.proofs.AdditionLaws.{added-view}
use Rattle.dwc_unit.proofs.additions.add.Goals as goal

pub returns-clause-ok : goal.returns-clause-ok
returns-clause-ok c = λ own.
    let e = c.args.entry.now in
    let grown : Entry = record { parent = e.parent; begin = e.begin; own = e.own; tag = e.tag; count = e.count + 1 } in
    ap (λ xs. addition_in xs own grown) (rw (c.in_ok-attribute.ensures) at c.in_ok-push.ensures.items) ∙ added-view e c.args.shared.now.items own c.args.name c.args.value c.requires.none c.requires.open.last c.requires.new
