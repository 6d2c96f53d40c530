use Rattle.std.proofs.Common.{subst, sym}
use Rattle.dwc_unit.specs.GivenUnits.{IsAdded}
use Rattle.dwc_clone.proofs.MadeEntryLaws.{type-kept}
use Rattle.dwc_clone.proofs.wrapper.add_members.Goals as goal

pub add_made-requires-2-clause-parent : goal.add_made-requires-2-clause-parent
add_made-requires-2-clause-parent c =
    let w = c.args.opened.now in
    subst (IsAdded w.wrapper.index) (sym c.in_ok-set_type.ensures) (type-kept c.in_ok-target.target.index w.wrapper.index w.target c.add_made.new.unit (c.in_ok-target.ensures.kept w.wrapper.index c.requires))
