-- A unit with a wrapper more: what was added stays so, and what is reserved; the types of all wrappers that are open can then be added.
use Rattle.std.proofs.Common.{◌≡◌, ◌≢◌, ℕ, suc, ◌<◌, ◌≤◌, ◌-◌, inl, inr, refl, sym, ap, subst, ◌∙◌, arith, List, [], ◌∷◌, length, length-append, take, true, Option, Some, None}
use Rattle.std.specs.Prelude.{◌⊎◌}
use Rattle.std.proofs.lemmas.List.Elements.{All-take, All-weaker}
use Rattle.std.proofs.lemmas.List.{length-set}
use Rattle.std.proofs.lemmas.Option.{get_or_from_slice_get, slice_get_within}
use Rattle.dwc_base.specs.declared.constants.TheConstants.{DW_AT_artificial, DW_AT_byte_size, DW_AT_data_member_location, DW_AT_linkage_name, DW_AT_name, DW_AT_type, DW_FORM_data1, DW_TAG_formal_parameter, DW_TAG_member, DW_TAG_subprogram, DW_TAG_template_type_parameter}
use Rattle.dwc_unit.specs.declared.attributes.AttributeValue.TheVariants.{UnitRef}
use Rattle.dwc_unit.specs.declared.attributes.DebugInfoRef.{DebugInfoRef}
use Rattle.dwc_unit.specs.declared.strings.StringId.{StringId}
use Rattle.dwc_unit.specs.declared.units.UnitEntryId.{UnitEntryId}
use Rattle.dwc_unit.specs.GivenUnits.{GivenUnit, IsAdded, IsReserved, with_child, with_known, with_next, with_reserved, with_value}
use Rattle.dwc_unit.proofs.NumberLaws.{added-on-child, added-on-known, added-on-reserved, child-places, reserved-new, reserved-on-child, reserved-on-known, reserved-on-next, reserved-on-reserved, reserved-on-value}
use Rattle.dwc_clone.specs.declared.entry.PlacedEntry.{PlacedEntry}
use Rattle.dwc_clone.specs.declared.made.MadeValue.{MadeValue}
use Rattle.dwc_clone.specs.declared.made.MadeValue.TheVariants.{Text, Constant, Flag, Entry, AnyEntry}
use Rattle.dwc_clone.specs.declared.wrapper.OpenWrapper.{OpenWrapper}
use Rattle.dwc_clone.specs.declared.wrapper.WrapperTexts.{WrapperTexts}
use Rattle.dwc_clone.specs.ClonedEntries.{AddsBelow, AreKnown, last_parent}
use Rattle.dwc_clone.specs.MadeAttributes.{given_value, with_made_entry, with_values}
use Rattle.dwc_clone.specs.OpenWrappers.{CanClose, CanCloseAll, IsOpened, IsOther, members_added, method_added, with_type, wrapper_added}
use Rattle.dwc_clone.proofs.MadeEntryLaws.{members-kept, method-kept, values-kept}

-- ---- a number that is only reserved stays so

values-reserved : (id k : ℕ) (attributes : List (ℕ × MadeValue)) (u : GivenUnit) → IsReserved k u → IsReserved k (with_values id attributes u)
values-reserved id k [] u reserved = reserved
values-reserved id k (a ∷ others) u reserved = values-reserved id k others (with_value id a.0 (given_value a.1) u) (reserved-on-value u k id a.0 (given_value a.1) reserved)

type-reserved : (id k : ℕ) (target : Option UnitEntryId) (u : GivenUnit) → IsReserved k u → IsReserved k (with_type id target u)
type-reserved id k None u reserved = reserved
type-reserved id k (Some target) u reserved = reserved-on-value u k id DW_AT_type (UnitRef target) reserved

made-reserved : (parent tag k : ℕ) (attributes : List (ℕ × MadeValue)) (u : GivenUnit) → IsReserved k u → IsReserved k (with_made_entry parent tag attributes u)
made-reserved parent tag k attributes u reserved = values-reserved (length u.places) k attributes (with_child parent tag (with_next u)) (reserved-on-child (with_next u) k parent tag (reserved-on-next u k reserved))

members-reserved : (w : OpenWrapper) (texts : WrapperTexts) (address : DebugInfoRef) (k : ℕ) (u : GivenUnit) → IsReserved k u → IsReserved k (members_added w texts address u)
members-reserved w texts address k u reserved =
    let target : List (ℕ × MadeValue) = (DW_AT_name, Text texts.target) ∷ [] in
    let held : List (ℕ × MadeValue) = (DW_AT_name, Text texts.address) ∷ (DW_AT_type, AnyEntry address) ∷ (DW_AT_data_member_location, Constant DW_FORM_data1 0) ∷ [] in
    let first = with_made_entry w.wrapper.index DW_TAG_template_type_parameter target u in
    made-reserved w.wrapper.index DW_TAG_member k held (with_type (length u.places) w.target first) (type-reserved (length u.places) k w.target first (made-reserved w.wrapper.index DW_TAG_template_type_parameter k target u reserved))

method-reserved : (w : OpenWrapper) (texts : WrapperTexts) (name : StringId) (gives : UnitEntryId) (k : ℕ) (u : GivenUnit) → IsReserved k u → IsReserved k (method_added w texts name gives u)
method-reserved w texts name gives k u reserved =
    let says : List (ℕ × MadeValue) = (DW_AT_linkage_name, Text texts.resolve) ∷ (DW_AT_name, Text name) ∷ (DW_AT_type, Entry gives) ∷ [] in
    let takes : List (ℕ × MadeValue) = (DW_AT_type, Entry w.types.to_wrapper) ∷ (DW_AT_artificial, Flag true) ∷ [] in
    made-reserved (length u.places) DW_TAG_formal_parameter k takes (with_made_entry w.wrapper.index DW_TAG_subprogram says u) (made-reserved w.wrapper.index DW_TAG_subprogram k says u reserved)

-- ---- a wrapper

module _ (w : OpenWrapper) (texts : WrapperTexts) (address : DebugInfoRef) (u : GivenUnit) where
  abbrev said : List (ℕ × MadeValue)
  said = (DW_AT_name, Text texts.name) ∷ (DW_AT_byte_size, Constant DW_FORM_data1 4) ∷ []

  -- the unit with the numbers of its types, with its name, with its members, and with its functions
  abbrev numbered : GivenUnit
  numbered = with_reserved (with_reserved (with_reserved u))

  abbrev named : GivenUnit
  named = with_values w.wrapper.index said numbered

  abbrev held : GivenUnit
  held = members_added w texts address named

  abbrev first : GivenUnit
  first = method_added w texts texts.pointer w.types.pointer held

  abbrev second : GivenUnit
  second = method_added w texts texts.dereference w.types.reference first

  pub wrapper-kept : (k : ℕ) → IsAdded k u → IsAdded k (wrapper_added w texts address u)
  wrapper-kept k added =
      let reserved = added-on-reserved (with_reserved (with_reserved u)) k (added-on-reserved (with_reserved u) k (added-on-reserved u k added)) in
      method-kept w texts texts.arrow w.types.pointer k second
      (method-kept w texts texts.dereference w.types.reference k first
      (method-kept w texts texts.pointer w.types.pointer k held
      (members-kept w texts address k named (values-kept w.wrapper.index k said numbered reserved))))

  numbered-reserved : (k : ℕ) → IsReserved k numbered → IsReserved k (wrapper_added w texts address u)
  numbered-reserved k reserved =
      method-reserved w texts texts.arrow w.types.pointer k second
      (method-reserved w texts texts.dereference w.types.reference k first
      (method-reserved w texts texts.pointer w.types.pointer k held
      (members-reserved w texts address k named (values-reserved w.wrapper.index k said numbered reserved))))

  pub wrapper-reserved : (k : ℕ) → IsReserved k u → IsReserved k (wrapper_added w texts address u)
  wrapper-reserved k reserved = numbered-reserved k (reserved-on-reserved (with_reserved (with_reserved u)) k (reserved-on-reserved (with_reserved u) k (reserved-on-reserved u k reserved)))

  one-more : (v : GivenUnit) → length (with_reserved v).places ≡ suc (length v.places)
  one-more v = omega (arith, length-append {A = Option ℕ} v.places (None ∷ []))

  -- Its types can be added.
  pub wrapper-can : IsAdded w.parent.index u → (next : w.types.to_wrapper.index ≡ length u.places) → w.types.reference.index ≡ suc (length u.places) → w.types.pointer.index ≡ suc (suc (length u.places)) → CanClose (wrapper_added w texts address u) w
  wrapper-can parent to_wrapper reference pointer =
      let u1 = with_reserved u in
      let u2 = with_reserved u1 in
      let after : length u1.places ≡ suc (length u.places) = one-more u in
      let behind : length u2.places ≡ suc (suc (length u.places)) = one-more u1 ∙ ap suc after in
      record {
        parent = wrapper-kept w.parent.index parent;
        to_wrapper = subst (λ k. IsReserved k (wrapper_added w texts address u)) (sym to_wrapper) (numbered-reserved (length u.places) (reserved-on-reserved u2 (length u.places) (reserved-on-reserved u1 (length u.places) (reserved-new u))));
        reference = subst (λ k. IsReserved k (wrapper_added w texts address u)) (after ∙ sym reference) (numbered-reserved (length u1.places) (reserved-on-reserved u2 (length u1.places) (reserved-new u1)));
        pointer = subst (λ k. IsReserved k (wrapper_added w texts address u)) (behind ∙ sym pointer) (numbered-reserved (length u2.places) (reserved-new u2));
        first = length u.places;
        next = record { to_wrapper = to_wrapper; reference = reference; pointer = pointer };
      }

-- ---- an entry below a parent

bare-kept : (o : Option UnitEntryId) (id : UnitEntryId) (tag : ℕ) (u0 bare : GivenUnit) (placed : PlacedEntry) → AddsBelow o id tag u0 bare placed → (k : ℕ) → IsAdded k u0 → IsAdded k bare
bare-kept None id tag u0 bare placed adds k added = subst (IsAdded k) (sym adds.0) added
bare-kept (Some p) id tag u0 bare placed adds k added = subst (IsAdded k) (sym adds.0) (added-on-child (with_known id.index u0) k p.index tag (added-on-known u0 k id.index added))

bare-reserved : (o : Option UnitEntryId) (id : UnitEntryId) (tag : ℕ) (u0 bare : GivenUnit) (placed : PlacedEntry) → AddsBelow o id tag u0 bare placed → (k : ℕ) → k ≢ id.index → IsReserved k u0 → IsReserved k bare
bare-reserved None id tag u0 bare placed adds k other reserved = subst (IsReserved k) (sym adds.0) reserved
bare-reserved (Some p) id tag u0 bare placed adds k other reserved = subst (IsReserved k) (sym adds.0) (reserved-on-child (with_known id.index u0) k p.index tag (reserved-on-known u0 k id.index other reserved))

bare-length : (o : Option UnitEntryId) (id : UnitEntryId) (tag : ℕ) (u0 bare : GivenUnit) (placed : PlacedEntry) → AddsBelow o id tag u0 bare placed → length bare.places ≡ length u0.places
bare-length None id tag u0 bare placed adds = ap (λ (u : GivenUnit). length u.places) adds.0
bare-length (Some p) id tag u0 bare placed adds = ap (λ (u : GivenUnit). length u.places) adds.0 ∙ ap length (child-places (with_known id.index u0) p.index tag) ∙ length-set u0.places id.index (Some (length u0.additions))

-- The parent is there.
parent-there : (parents : List UnitEntryId) (depth : ℕ) (o : Option UnitEntryId) (id : UnitEntryId) (tag : ℕ) (u0 bare : GivenUnit) (placed : PlacedEntry) → AreKnown parents u0 → last_parent depth parents ≡ o → AddsBelow o id tag u0 bare placed → IsAdded placed.parent.index u0
parent-there parents depth None id tag u0 bare placed known is adds = subst (λ (x : PlacedEntry). IsAdded x.parent.index u0) (sym adds.1) known.root
parent-there parents depth (Some p) id tag u0 bare placed known is adds =
    let at = length (take depth parents) - 1 in
    let there = All-take (λ (q : UnitEntryId). IsAdded q.index u0) depth parents known.others at p (slice_get_within (take depth parents) at p is) in
    subst (λ (x : PlacedEntry). IsAdded x.parent.index u0) (sym adds.1) (subst (λ (q : UnitEntryId). IsAdded q.index u0) (get_or_from_slice_get (take depth parents) at p p is) there)

-- ---- wrappers that are open

-- They can still be closed where what was added stays so, and what is reserved but for one other number.
can-kept : (id above : ℕ) (u v : GivenUnit) (ws : List OpenWrapper) → ((k : ℕ) → IsAdded k u → IsAdded k v) → ((k : ℕ) → k ≢ id → IsReserved k u → IsReserved k v) → IsOther id ws → CanCloseAll above u ws → CanCloseAll above v ws
can-kept id above u v [] added reserved other can = tt
can-kept id above u v (w ∷ ws) added reserved other can =
    let next = (can.0).next in (
      record {
        parent = added w.parent.index (can.0).parent;
        to_wrapper = reserved w.types.to_wrapper.index (apart w.types.to_wrapper.index (omega (arith)) (omega (arith, next.to_wrapper, next.pointer)) other.0) (can.0).to_wrapper;
        reference = reserved w.types.reference.index (apart w.types.reference.index (omega (arith, next.to_wrapper, next.reference)) (omega (arith, next.reference, next.pointer)) other.0) (can.0).reference;
        pointer = reserved w.types.pointer.index (apart w.types.pointer.index (omega (arith, next.to_wrapper, next.pointer)) (omega arith) other.0) (can.0).pointer;
        first = (can.0).first;
        next = next;
      },
      can.1,
      can-kept id w.types.to_wrapper.index u v ws added reserved other.1 can.2,
    )
  where
    apart : (k : ℕ) → w.types.to_wrapper.index ≤ k → k ≤ w.types.pointer.index → (id < w.types.to_wrapper.index) ⊎ (w.types.pointer.index < id) → k ≢ id
    apart k low high (inl below) same = omega (arith, same, low, below)
    apart k low high (inr above) same = omega (arith, same, high, above)

module _ (parents : List UnitEntryId) (depth : ℕ) (id : UnitEntryId) (tag : ℕ) (u0 bare : GivenUnit) (placed : PlacedEntry) (target : Option UnitEntryId) (w : OpenWrapper) (texts : WrapperTexts) (address : DebugInfoRef) (ws : List OpenWrapper)
    (adds : AddsBelow (last_parent depth parents) id tag u0 bare placed) (opened : IsOpened depth placed.parent placed.id target (length bare.places) w) where
  -- The parents are there.
  pub opened-known : (ps : List UnitEntryId) → AreKnown ps bare → AreKnown ps (wrapper_added w texts address bare)
  opened-known ps known = record {
    root = wrapper-kept w texts address bare 0 known.root;
    others = All-weaker (λ p. IsAdded p.index bare) (λ p. IsAdded p.index (wrapper_added w texts address bare)) (λ p added. wrapper-kept w texts address bare p.index added) ps known.others;
  }

  -- All wrappers can be closed, and another number that is reserved is none of those of their types.
  pub opened-can : AreKnown parents u0 → IsOther id.index ws → CanCloseAll (length u0.places) u0 ws → CanCloseAll (length (wrapper_added w texts address bare).places) (wrapper_added w texts address bare) (w ∷ ws)
  opened-can known other can =
      let o = last_parent depth parents in
      let new = wrapper_added w texts address bare in
      let parent = subst (λ (p : UnitEntryId). IsAdded p.index bare) (sym opened.parent_is) (bare-kept o id tag u0 bare placed adds placed.parent.index (parent-there parents depth o id tag u0 bare placed known refl adds)) in
      let closes = wrapper-can w texts address bare parent opened.types.to_wrapper opened.types.reference opened.types.pointer in
      let within = closes.pointer.0 in
      let all = can-kept id.index (length u0.places) u0 new ws
      (λ k added. wrapper-kept w texts address bare k (bare-kept o id tag u0 bare placed adds k added))
      (λ k apart reserved. wrapper-reserved w texts address bare k (bare-reserved o id tag u0 bare placed adds k apart reserved)) other can in
      (closes, within, subst (λ n. CanCloseAll n new ws) (sym (opened.types.to_wrapper ∙ bare-length o id tag u0 bare placed adds)) all)

  pub opened-other : (k : ℕ) → IsReserved k u0 → IsOther k ws → k ≢ id.index → IsReserved k (wrapper_added w texts address bare) × IsOther k (w ∷ ws)
  opened-other k reserved other apart =
      let o = last_parent depth parents in
      let within = reserved.0 in
      let below : k < w.types.to_wrapper.index = omega (arith, within, opened.types.to_wrapper, bare-length o id tag u0 bare placed adds) in
      (wrapper-reserved w texts address bare k (bare-reserved o id tag u0 bare placed adds k apart reserved), (inl below, other))
