-- What was added stays so, and what was only reserved, but for one number.
use Rattle.std.proofs.Common.{◌≡◌, ◌≢◌, ℕ, ◌<◌, ◌≤◌, sym, ap, subst, ◌∙◌, arith, inl, inr, List, [], ◌∷◌, length, true, Option, Some, None, Result}
use Rattle.std.specs.Prelude.{◌⊎◌, is_some}
use Rattle.std.proofs.lemmas.List.{length-set}
use Rattle.std.proofs.lemmas.List.Elements.{All-weaker}
use Rattle.dwc_base.specs.declared.constants.TheConstants.{DW_AT_location, DW_AT_name, DW_AT_type, DW_TAG_variable}
use Rattle.dwc_native.specs.BuiltExpressions.{BuildRefusal}
use Rattle.dwc_dwarf.specs.Trees.{Location}
use Rattle.dwc_unit.specs.declared.attributes.AttributeValue.TheVariants.{DebugInfoRef as Reference, LocationListRef, StringRef}
use Rattle.dwc_unit.specs.declared.attributes.DebugInfoRef.{DebugInfoRef}
use Rattle.dwc_unit.specs.declared.units.UnitEntryId.{UnitEntryId}
use Rattle.dwc_unit.specs.GivenUnits.{GivenUnit, IsAdded, place_of, with_child, with_known, with_next, with_value}
use Rattle.dwc_unit.proofs.NumberLaws.{added-on-child, added-on-known, added-on-next, child-places, reserved-on-child, reserved-on-known, reserved-on-next, value-places}
use Rattle.dwc_clone.specs.declared.entry.PlacedEntry.{PlacedEntry}
use Rattle.dwc_clone.specs.declared.wrapper.OpenWrapper.{OpenWrapper}
use Rattle.dwc_clone.specs.ClonedEntries.{AddsBelow, AreKnown}
use Rattle.dwc_clone.specs.ContextPlaces.{HasContext}
use Rattle.dwc_clone.specs.OpenWrappers.{CanClose, CanCloseAll, IsOther, KeepsNumbers}
use Rattle.dwc_clone.proofs.TakenNumbers.{variable-count}

pub keeps-not : (but : ℕ) (u : GivenUnit) → KeepsNumbers but u u
keeps-not but u = record { added = λ k added. added; reserved = λ k apart reserved. reserved; longer = omega arith }

pub keeps-on : (but : ℕ) (u v w : GivenUnit) → KeepsNumbers but u v → KeepsNumbers but v w → KeepsNumbers but u w
keeps-on but u v w first second =
    let a = first.longer in
    let b = second.longer in
    record { added = λ k added. second.added k (first.added k added); reserved = λ k apart reserved. second.reserved k apart (first.reserved k apart reserved); longer = omega (arith, a, b) }

-- where the numbers are the same
pub keeps-places : (but : ℕ) (u v : GivenUnit) → v.places ≡ u.places → KeepsNumbers but u v
keeps-places but u v same = record {
  added = λ k added. subst (λ ps. is_some (place_of k ps) ≡ true) (sym same) added;
  reserved = λ k apart reserved. subst (λ ps. (k < length ps) × (place_of k ps ≡ None)) (sym same) reserved;
  longer = subst (λ ps. length u.places ≤ length ps) (sym same) (omega arith);
}

-- an entry more under the number
pub keeps-below : (o : Option UnitEntryId) (id : UnitEntryId) (tag : ℕ) (u v : GivenUnit) (placed : PlacedEntry) → AddsBelow o id tag u v placed → KeepsNumbers id.index u v
keeps-below None id tag u v placed adds = subst (KeepsNumbers id.index u) (sym adds.0) (keeps-not id.index u)
keeps-below (Some parent) id tag u v placed adds = subst (KeepsNumbers id.index u) (sym adds.0) record {
  added = λ k added. added-on-child (with_known id.index u) k parent.index tag (added-on-known u k id.index added);
  reserved = λ k apart reserved. reserved-on-child (with_known id.index u) k parent.index tag (reserved-on-known u k id.index apart reserved);
  longer = subst (λ ps. length u.places ≤ length ps) (sym (child-places (with_known id.index u) parent.index tag)) (omega (arith, length-set u.places id.index (Some (length u.additions))));
}

-- the variable of the context
pub keeps-variable : (but : ℕ) (expected : Result (List Location) BuildRefusal) (parent : ℕ) (type : DebugInfoRef) (texts : List (List ℕ)) (u v : GivenUnit) → HasContext expected parent type texts u v → KeepsNumbers but u v
keeps-variable but expected parent type texts u v has =
    let id = length u.places in
    let u1 = with_child parent DW_TAG_variable (with_next u) in
    let u2 = with_value id DW_AT_name (StringRef has.name) u1 in
    let u3 = with_value id DW_AT_type (Reference type) u2 in
    let same : v.places ≡ u1.places =
    ap (λ (w : GivenUnit). w.places) has.is ∙ value-places u3 id DW_AT_location (LocationListRef has.list) ∙ value-places u2 id DW_AT_type (Reference type) ∙ value-places u1 id DW_AT_name (StringRef has.name) in
    keeps-on but u u1 v
    record {
      added = λ k added. added-on-child (with_next u) k parent DW_TAG_variable (added-on-next u k added);
      reserved = λ k apart reserved. reserved-on-child (with_next u) k parent DW_TAG_variable (reserved-on-next u k reserved);
      longer = omega (arith, ap length same, variable-count expected parent type texts u v has);
    } (keeps-places but u1 v same)

-- Wrappers whose types have other numbers can still be closed.
can-kept-one : (but : ℕ) (u v : GivenUnit) (w : OpenWrapper) → KeepsNumbers but u v → (but < w.types.to_wrapper.index) ⊎ (w.types.pointer.index < but) → CanClose u w → CanClose v w
can-kept-one but u v w keeps other can = record {
  parent = keeps.added w.parent.index can.parent;
  to_wrapper = keeps.reserved w.types.to_wrapper.index (apart w.types.to_wrapper.index (omega arith) (omega (arith, can.next.to_wrapper, can.next.pointer)) other) can.to_wrapper;
  reference = keeps.reserved w.types.reference.index (apart w.types.reference.index (omega (arith, can.next.to_wrapper, can.next.reference)) (omega (arith, can.next.reference, can.next.pointer)) other) can.reference;
  pointer = keeps.reserved w.types.pointer.index (apart w.types.pointer.index (omega (arith, can.next.to_wrapper, can.next.pointer)) (omega arith) other) can.pointer;
  first = can.first;
  next = can.next;
}
  where
    apart : (k : ℕ) → w.types.to_wrapper.index ≤ k → k ≤ w.types.pointer.index → (but < w.types.to_wrapper.index) ⊎ (w.types.pointer.index < but) → k ≢ but
    apart k low high (inl below) same = omega (arith, low, high, below, same)
    apart k low high (inr above) same = omega (arith, low, high, above, same)

pub can-kept : (but most : ℕ) (u v : GivenUnit) (ws : List OpenWrapper) → KeepsNumbers but u v → IsOther but ws → CanCloseAll most u ws → CanCloseAll most v ws
can-kept but most u v [] keeps other can = tt
can-kept but most u v (w ∷ ws) keeps other can = (can-kept-one but u v w keeps other.0 can.0, can.1, can-kept but w.types.to_wrapper.index u v ws keeps other.1 can.2)

-- What is known stays so.
pub known-kept : (but : ℕ) (u v : GivenUnit) (ps : List UnitEntryId) → KeepsNumbers but u v → AreKnown ps u → AreKnown ps v
known-kept but u v ps keeps known = record {
  root = keeps.added 0 known.root;
  others = All-weaker (λ (p : UnitEntryId). IsAdded p.index u) (λ (p : UnitEntryId). IsAdded p.index v) (λ p added. keeps.added p.index added) ps known.others;
}

-- An entry is added below the last of some in one way.
pub adds-same : (o : Option UnitEntryId) (id : UnitEntryId) (tag : ℕ) (u v w : GivenUnit) (placed other : PlacedEntry) → AddsBelow o id tag u v placed → AddsBelow o id tag u w other → (w ≡ v) × (other ≡ placed)
adds-same None id tag u v w placed other first second = (second.0 ∙ sym first.0, second.1 ∙ sym first.1)
adds-same (Some parent) id tag u v w placed other first second = (second.0 ∙ sym first.0, second.1 ∙ sym first.1)
