use Rattle.std.proofs.Common.{ℕ, ◌∙◌, ap, subst, sym, List, [], ◌∷◌}
use Rattle.dwc_base.specs.declared.constants.TheConstants.{DW_AT_byte_size, DW_AT_name}
use Rattle.dwc_unit.specs.GivenUnits.{IsAdded, with_reserved}
use Rattle.dwc_unit.proofs.NumberLaws.{added-on-reserved}
use Rattle.dwc_clone.specs.declared.made.MadeValue.{MadeValue}
use Rattle.dwc_clone.specs.declared.made.MadeValue.TheVariants.{Text}
use Rattle.dwc_clone.specs.declared.wrapper.OpenWrapper.{OpenWrapper}
use Rattle.dwc_clone.specs.MadeAttributes.{with_values}
use Rattle.dwc_clone.specs.OpenWrappers.{members_added, method_added}
use Rattle.dwc_clone.proofs.MadeEntryLaws.{members-kept, method-kept, values-kept}
use Rattle.dwc_clone.proofs.wrapper.open_wrapper.Goals as goal

pub set_values-requires-clause-known : goal.set_values-requires-clause-known
set_values-requires-clause-known c =
    let k = c.args.wrapper.index in
    let u0 = c.args.unit.now in
    subst (IsAdded k) (sym c.in_ok-types.ensures.unit) (added-on-reserved (with_reserved (with_reserved u0)) k (added-on-reserved (with_reserved u0) k (added-on-reserved u0 k c.requires)))

pub add_members-requires : goal.add_members-requires
add_members-requires c =
    let k = c.args.wrapper.index in
    let u0 = c.args.unit.now in
    let said : List (ℕ × MadeValue) = (DW_AT_name, Text c.args.texts.now.name) ∷ (DW_AT_byte_size, c.data1.result) ∷ [] in
    let reserved = subst (IsAdded k) (sym c.in_ok-types.ensures.unit) (added-on-reserved (with_reserved (with_reserved u0)) k (added-on-reserved (with_reserved u0) k (added-on-reserved u0 k c.requires))) in
    let named = subst (IsAdded k) (sym c.in_ok-set_values.ensures.set) (values-kept k k said c.reserve_types.new.unit reserved) in
    named

pub add_method-requires : goal.add_method-requires
add_method-requires c =
    let k = c.args.wrapper.index in
    let u0 = c.args.unit.now in
    let said : List (ℕ × MadeValue) = (DW_AT_name, Text c.args.texts.now.name) ∷ (DW_AT_byte_size, c.data1.result) ∷ [] in
    let reserved = subst (IsAdded k) (sym c.in_ok-types.ensures.unit) (added-on-reserved (with_reserved (with_reserved u0)) k (added-on-reserved (with_reserved u0) k (added-on-reserved u0 k c.requires))) in
    let named = subst (IsAdded k) (sym c.in_ok-set_values.ensures.set) (values-kept k k said c.reserve_types.new.unit reserved) in
    let w : OpenWrapper = record { depth = c.args.depth; parent = c.args.parent; wrapper = c.args.wrapper; types = c.in_ok-types.types; target = c.args.target } in
    let texts = c.args.texts.now in
    let held = subst (IsAdded k) (sym c.in_ok-add_members.ensures) (members-kept w texts c.args.address_type k c.set_values.new.unit named) in
    held

pub add_method-requires-2 : goal.add_method-requires-2
add_method-requires-2 c =
    let k = c.args.wrapper.index in
    let u0 = c.args.unit.now in
    let said : List (ℕ × MadeValue) = (DW_AT_name, Text c.args.texts.now.name) ∷ (DW_AT_byte_size, c.data1.result) ∷ [] in
    let reserved = subst (IsAdded k) (sym c.in_ok-types.ensures.unit) (added-on-reserved (with_reserved (with_reserved u0)) k (added-on-reserved (with_reserved u0) k (added-on-reserved u0 k c.requires))) in
    let named = subst (IsAdded k) (sym c.in_ok-set_values.ensures.set) (values-kept k k said c.reserve_types.new.unit reserved) in
    let w : OpenWrapper = record { depth = c.args.depth; parent = c.args.parent; wrapper = c.args.wrapper; types = c.in_ok-types.types; target = c.args.target } in
    let texts = c.args.texts.now in
    let held = subst (IsAdded k) (sym c.in_ok-add_members.ensures) (members-kept w texts c.args.address_type k c.set_values.new.unit named) in
    let first = subst (IsAdded k) (sym c.in_ok-add_method.ensures) (method-kept w texts texts.pointer w.types.pointer k c.add_members.new.unit held) in
    first

pub add_method-requires-3 : goal.add_method-requires-3
add_method-requires-3 c =
    let k = c.args.wrapper.index in
    let u0 = c.args.unit.now in
    let said : List (ℕ × MadeValue) = (DW_AT_name, Text c.args.texts.now.name) ∷ (DW_AT_byte_size, c.data1.result) ∷ [] in
    let reserved = subst (IsAdded k) (sym c.in_ok-types.ensures.unit) (added-on-reserved (with_reserved (with_reserved u0)) k (added-on-reserved (with_reserved u0) k (added-on-reserved u0 k c.requires))) in
    let named = subst (IsAdded k) (sym c.in_ok-set_values.ensures.set) (values-kept k k said c.reserve_types.new.unit reserved) in
    let w : OpenWrapper = record { depth = c.args.depth; parent = c.args.parent; wrapper = c.args.wrapper; types = c.in_ok-types.types; target = c.args.target } in
    let texts = c.args.texts.now in
    let held = subst (IsAdded k) (sym c.in_ok-add_members.ensures) (members-kept w texts c.args.address_type k c.set_values.new.unit named) in
    let first = subst (IsAdded k) (sym c.in_ok-add_method.ensures) (method-kept w texts texts.pointer w.types.pointer k c.add_members.new.unit held) in
    subst (IsAdded k) (sym c.in_ok-add_method-2.ensures) (method-kept w texts texts.dereference w.types.reference k c.add_method.new.unit first)

pub returns-clause-unit : goal.returns-clause-unit
returns-clause-unit c =
    let said : MadeValue → List (ℕ × MadeValue) = λ size. (DW_AT_name, Text c.args.texts.now.name) ∷ (DW_AT_byte_size, size) ∷ [] in
    let w : OpenWrapper = record { depth = c.args.depth; parent = c.args.parent; wrapper = c.args.wrapper; types = c.in_ok-types.types; target = c.args.target } in
    let texts = c.args.texts.now in
    let named = c.in_ok-set_values.ensures.set ∙ ap (with_values c.args.wrapper.index (said c.data1.result)) c.in_ok-types.ensures.unit ∙ ap (λ size. with_values c.args.wrapper.index (said size) (with_reserved (with_reserved (with_reserved c.args.unit.now)))) c.data1.ensures in
    let held = c.in_ok-add_members.ensures ∙ ap (members_added w texts c.args.address_type) named in
    let first = c.in_ok-add_method.ensures ∙ ap (method_added w texts texts.pointer w.types.pointer) held in
    let second = c.in_ok-add_method-2.ensures ∙ ap (method_added w texts texts.dereference w.types.reference) first in
    c.in_ok-add_method-3.ensures ∙ ap (method_added w texts texts.arrow w.types.pointer) second
