use Rattle.std.proofs.Common.{◌∙◌, Some, ap, subst, sym}
use Rattle.dwc_base.specs.declared.constants.TheConstants.{DW_TAG_pointer_type, DW_TAG_reference_type}
use Rattle.dwc_unit.specs.GivenUnits.{IsAdded}
use Rattle.dwc_clone.specs.OpenWrappers.{with_type}
use Rattle.dwc_clone.proofs.OpenWrapperLaws.{first-parent, first-reference, second-parent, second-pointer, typed-here}
use Rattle.dwc_clone.proofs.wrapper.add_types.Goals as goal

pub set_type-requires : goal.set_type-requires
set_type-requires c =
    let w = c.args.opened.now in
    subst (IsAdded w.types.to_wrapper.index) (sym c.in_ok-add_reserved.ensures.ok) (typed-here c.args.unit.now w.types.to_wrapper.index w.parent.index DW_TAG_pointer_type c.requires.to_wrapper)

pub add_reserved-requires-2-clause-reserved : goal.add_reserved-requires-2-clause-reserved
add_reserved-requires-2-clause-reserved c =
    let w = c.args.opened.now in
    let first = c.in_ok-set_type.ensures ∙ ap (with_type w.types.to_wrapper.index (Some w.wrapper)) c.in_ok-add_reserved.ensures.ok in
    first-reference w c.args.unit.now c.set_type.new.unit c.requires first

pub add_reserved-requires-2-clause-parent : goal.add_reserved-requires-2-clause-parent
add_reserved-requires-2-clause-parent c =
    let w = c.args.opened.now in
    let first = c.in_ok-set_type.ensures ∙ ap (with_type w.types.to_wrapper.index (Some w.wrapper)) c.in_ok-add_reserved.ensures.ok in
    first-parent w c.args.unit.now c.set_type.new.unit c.requires first

pub set_type-requires-2 : goal.set_type-requires-2
set_type-requires-2 c =
    let w = c.args.opened.now in
    let first = c.in_ok-set_type.ensures ∙ ap (with_type w.types.to_wrapper.index (Some w.wrapper)) c.in_ok-add_reserved.ensures.ok in
    subst (IsAdded w.types.reference.index) (sym c.in_ok-add_reserved-2.ensures.ok) (typed-here c.set_type.new.unit w.types.reference.index w.parent.index DW_TAG_reference_type (first-reference w c.args.unit.now c.set_type.new.unit c.requires first))

pub add_reserved-requires-3-clause-reserved : goal.add_reserved-requires-3-clause-reserved
add_reserved-requires-3-clause-reserved c =
    let w = c.args.opened.now in
    let first = c.in_ok-set_type.ensures ∙ ap (with_type w.types.to_wrapper.index (Some w.wrapper)) c.in_ok-add_reserved.ensures.ok in
    let second = c.in_ok-set_type-2.ensures ∙ ap (with_type w.types.reference.index w.target) c.in_ok-add_reserved-2.ensures.ok in
    second-pointer w c.args.unit.now c.set_type.new.unit c.requires first c.set_type-2.new.unit second

pub add_reserved-requires-3-clause-parent : goal.add_reserved-requires-3-clause-parent
add_reserved-requires-3-clause-parent c =
    let w = c.args.opened.now in
    let first = c.in_ok-set_type.ensures ∙ ap (with_type w.types.to_wrapper.index (Some w.wrapper)) c.in_ok-add_reserved.ensures.ok in
    let second = c.in_ok-set_type-2.ensures ∙ ap (with_type w.types.reference.index w.target) c.in_ok-add_reserved-2.ensures.ok in
    second-parent w c.args.unit.now c.set_type.new.unit c.requires first c.set_type-2.new.unit second

pub set_type-requires-3 : goal.set_type-requires-3
set_type-requires-3 c =
    let w = c.args.opened.now in
    let first = c.in_ok-set_type.ensures ∙ ap (with_type w.types.to_wrapper.index (Some w.wrapper)) c.in_ok-add_reserved.ensures.ok in
    let second = c.in_ok-set_type-2.ensures ∙ ap (with_type w.types.reference.index w.target) c.in_ok-add_reserved-2.ensures.ok in
    subst (IsAdded w.types.pointer.index) (sym c.in_ok-add_reserved-3.ensures.ok) (typed-here c.set_type-2.new.unit w.types.pointer.index w.parent.index DW_TAG_pointer_type (second-pointer w c.args.unit.now c.set_type.new.unit c.requires first c.set_type-2.new.unit second))
