use Rattle.std.proofs.Common.{rules, ◌++◌, ◌∷◌, ◌∙◌, [], ap, sym, subst}
use Rattle.dwc_clone.specs.ClonedEntries.{AddsBelow, AreKnown, last_parent}
use Rattle.dwc_clone.proofs.EntryPaths.{parents-known, placed-known, reserved-below}
use Rattle.dwc_clone.proofs.entry.add_entry.Goals.{in-None, in-Some+in_ok-add_reserved-in-Some}
use Rattle.dwc_clone.proofs.entry.add_entry.Goals as goal

pub returns-clause-known : goal.returns-clause-known
returns-clause-known c =
    let ps = c.args.parents.now.items in
    let u0 = c.args.unit.now in
    let o = last_parent c.args.depth ps in
    let items = c.in_ok-push.ensures.items ∙ ap (λ xs. xs ++ c.match-copied.placed.id ∷ []) c.truncate.ensures.items in
    let adds : AddsBelow o c.args.id c.args.tag u0 c.match-copied.unit c.match-copied.placed = search rules in
    subst (λ xs. AreKnown xs c.match-copied.unit) (sym items)
    (parents-known ps c.args.depth o c.args.id c.args.tag u0 c.match-copied.unit c.match-copied.placed c.requires.known (λ p is. reserved-below c.args.depth ps p c.args.id u0 is c.requires.reserved) adds)

pub returns-clause-added : goal.returns-clause-added
returns-clause-added c =
    let ps = c.args.parents.now.items in
    let u0 = c.args.unit.now in
    let o = last_parent c.args.depth ps in
    let adds : AddsBelow o c.args.id c.args.tag u0 c.match-copied.unit c.match-copied.placed = search rules in
    placed-known ps o c.args.id c.args.tag u0 c.match-copied.unit c.match-copied.placed c.requires.known (λ p is. reserved-below c.args.depth ps p c.args.id u0 is c.requires.reserved) adds
