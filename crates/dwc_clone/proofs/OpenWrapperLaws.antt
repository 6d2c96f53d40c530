-- The types of a wrapper, added one behind another under numbers that were reserved, and wrappers that are closed.
use Rattle.std.proofs.Common.{◌≡◌, ◌≢◌, ℕ, zero, suc, ◌<◌, ◌≤◌, ◌-◌, inl, inr, ap, arith, refl, subst, sym, ◌∙◌, Bool, true, false, List, [], ◌∷◌, ◌++◌, length, reverse, take, Option, Some, None}
use Rattle.std.specs.Prelude.{◌⊎◌, is_some, nat_lt, if◌then◌else◌, slice_get}
use Rattle.std.specs.Option.{unwrap_or}
use Rattle.std.proofs.lemmas.List.{length-set, reverse-append}
use Rattle.std.proofs.lemmas.Option.{slice_get-get_or, slice_get_within}
use Rattle.dwc_base.specs.declared.constants.TheConstants.{DW_AT_type, DW_TAG_pointer_type, DW_TAG_reference_type}
use Rattle.dwc_unit.specs.declared.attributes.AttributeValue.TheVariants.{UnitRef}
use Rattle.dwc_unit.specs.declared.units.UnitEntryId.{UnitEntryId}
use Rattle.dwc_unit.specs.GivenUnits.{GivenUnit, IsAdded, IsReserved, with_child, with_known}
use Rattle.dwc_unit.proofs.NumberLaws.{added-on-child, added-on-known, added-on-value, child-places, known-same, reserved-on-child, reserved-on-known, reserved-on-value, value-places}
use Rattle.dwc_clone.specs.declared.wrapper.OpenWrapper.{OpenWrapper}
use Rattle.dwc_clone.specs.OpenWrappers.{CanClose, CanCloseAll, IsOther, closed_from, still_open, types_added, with_typed}

module _ (u : GivenUnit) (id parent tag : ℕ) where
  -- the entry is there then
  pub typed-here : IsReserved id u → IsAdded id (with_child parent tag (with_known id u))
  typed-here reserved = added-on-child (with_known id u) id parent tag (ap is_some (known-same u id reserved.0))

  -- what was added stays so
  pub typed-added : (k : ℕ) (target : Option UnitEntryId) → IsAdded k u → IsAdded k (with_typed id parent tag target u)
  typed-added k None added = added-on-child (with_known id u) k parent tag (added-on-known u k id added)
  typed-added k (Some target) added = added-on-value (with_child parent tag (with_known id u)) k id DW_AT_type (UnitRef target) (added-on-child (with_known id u) k parent tag (added-on-known u k id added))

  -- and another number stays reserved
  pub typed-reserved : (k : ℕ) (target : Option UnitEntryId) → k ≢ id → IsReserved k u → IsReserved k (with_typed id parent tag target u)
  typed-reserved k None other reserved = reserved-on-child (with_known id u) k parent tag (reserved-on-known u k id other reserved)
  typed-reserved k (Some target) other reserved = reserved-on-value (with_child parent tag (with_known id u)) k id DW_AT_type (UnitRef target) (reserved-on-child (with_known id u) k parent tag (reserved-on-known u k id other reserved))

-- ---- what can still be added behind the first type of a wrapper, and behind the second

module _ (w : OpenWrapper) (u first : GivenUnit) (can : CanClose u w) (is : first ≡ with_typed w.types.to_wrapper.index w.parent.index DW_TAG_pointer_type (Some w.wrapper) u) where
  pub first-parent : IsAdded w.parent.index first
  first-parent = subst (λ v. IsAdded w.parent.index v) (sym is) (typed-added u w.types.to_wrapper.index w.parent.index DW_TAG_pointer_type w.parent.index (Some w.wrapper) can.parent)

  pub first-reference : IsReserved w.types.reference.index first
  first-reference =
      let apart : w.types.reference.index ≢ w.types.to_wrapper.index = λ same. omega (arith, same, can.next.to_wrapper, can.next.reference) in
      subst (λ v. IsReserved w.types.reference.index v) (sym is) (typed-reserved u w.types.to_wrapper.index w.parent.index DW_TAG_pointer_type w.types.reference.index (Some w.wrapper) apart can.reference)

  pub first-pointer : IsReserved w.types.pointer.index first
  first-pointer =
      let apart : w.types.pointer.index ≢ w.types.to_wrapper.index = λ same. omega (arith, same, can.next.to_wrapper, can.next.pointer) in
      subst (λ v. IsReserved w.types.pointer.index v) (sym is) (typed-reserved u w.types.to_wrapper.index w.parent.index DW_TAG_pointer_type w.types.pointer.index (Some w.wrapper) apart can.pointer)

  module _ (second : GivenUnit) (then_is : second ≡ with_typed w.types.reference.index w.parent.index DW_TAG_reference_type w.target first) where
    pub second-parent : IsAdded w.parent.index second
    second-parent = subst (λ v. IsAdded w.parent.index v) (sym then_is) (typed-added first w.types.reference.index w.parent.index DW_TAG_reference_type w.parent.index w.target first-parent)

    pub second-pointer : IsReserved w.types.pointer.index second
    second-pointer =
        let apart : w.types.pointer.index ≢ w.types.reference.index = λ same. omega (arith, same, can.next.reference, can.next.pointer) in
        subst (λ v. IsReserved w.types.pointer.index v) (sym then_is) (typed-reserved first w.types.reference.index w.parent.index DW_TAG_reference_type w.types.pointer.index w.target apart first-pointer)

-- ---- wrappers that are closed

-- no number is more
typed-length : (u : GivenUnit) (id parent tag : ℕ) (target : Option UnitEntryId) → length (with_typed id parent tag target u).places ≡ length u.places
typed-length u id parent tag None = ap length (child-places (with_known id u) parent tag) ∙ length-set u.places id (Some (length u.additions))
typed-length u id parent tag (Some target) =
    ap length (value-places (with_child parent tag (with_known id u)) id DW_AT_type (UnitRef target)) ∙ ap length (child-places (with_known id u) parent tag) ∙ length-set u.places id (Some (length u.additions))

module _ (w : OpenWrapper) (u : GivenUnit) where
  abbrev first_of_types : GivenUnit
  first_of_types = with_typed w.types.to_wrapper.index w.parent.index DW_TAG_pointer_type (Some w.wrapper) u

  abbrev second_of_types : GivenUnit
  second_of_types = with_typed w.types.reference.index w.parent.index DW_TAG_reference_type w.target first_of_types

  pub types-length : length (types_added w u).places ≡ length u.places
  types-length =
      typed-length second_of_types w.types.pointer.index w.parent.index DW_TAG_pointer_type w.target
      ∙ typed-length first_of_types w.types.reference.index w.parent.index DW_TAG_reference_type w.target
      ∙ typed-length u w.types.to_wrapper.index w.parent.index DW_TAG_pointer_type (Some w.wrapper)

  pub types-kept : (k : ℕ) → IsAdded k u → IsAdded k (types_added w u)
  types-kept k added =
      typed-added second_of_types w.types.pointer.index w.parent.index DW_TAG_pointer_type k w.target
      (typed-added first_of_types w.types.reference.index w.parent.index DW_TAG_reference_type k w.target
      (typed-added u w.types.to_wrapper.index w.parent.index DW_TAG_pointer_type k (Some w.wrapper) added))

  pub types-reserved : (k : ℕ) → k ≢ w.types.to_wrapper.index → k ≢ w.types.reference.index → k ≢ w.types.pointer.index → IsReserved k u → IsReserved k (types_added w u)
  types-reserved k not_first not_second not_third reserved =
      typed-reserved second_of_types w.types.pointer.index w.parent.index DW_TAG_pointer_type k w.target not_third
      (typed-reserved first_of_types w.types.reference.index w.parent.index DW_TAG_reference_type k w.target not_second
      (typed-reserved u w.types.to_wrapper.index w.parent.index DW_TAG_pointer_type k (Some w.wrapper) not_first reserved))

  -- a number below those of the types stays reserved, and one above them
  pub below-types : (k : ℕ) → CanClose u w → k < w.types.to_wrapper.index → IsReserved k u → IsReserved k (types_added w u)
  below-types k can below reserved =
      types-reserved k (λ same. omega (arith, same, below)) (λ same. omega (arith, same, below, can.next.to_wrapper, can.next.reference)) (λ same. omega (arith, same, below, can.next.to_wrapper, can.next.pointer)) reserved

  pub other-types : (k : ℕ) → CanClose u w → (k < w.types.to_wrapper.index) ⊎ (w.types.pointer.index < k) → IsReserved k u → IsReserved k (types_added w u)
  other-types k can (inl below) reserved = below-types k can below reserved
  other-types k can (inr above) reserved =
      types-reserved k (λ same. omega (arith, same, above, can.next.to_wrapper, can.next.pointer)) (λ same. omega (arith, same, above, can.next.reference, can.next.pointer)) (λ same. omega (arith, same, above)) reserved

  -- a wrapper whose types stand below can still be closed
  pub can-close-behind : (v : OpenWrapper) → CanClose u w → CanClose u v → v.types.pointer.index < w.types.to_wrapper.index → CanClose (types_added w u) v
  can-close-behind v can can_v below = record {
    parent = types-kept v.parent.index can_v.parent;
    to_wrapper = below-types v.types.to_wrapper.index can (omega (arith, below, can_v.next.to_wrapper, can_v.next.pointer)) can_v.to_wrapper;
    reference = below-types v.types.reference.index can (omega (arith, below, can_v.next.reference, can_v.next.pointer)) can_v.reference;
    pointer = below-types v.types.pointer.index can below can_v.pointer;
    first = can_v.first;
    next = can_v.next;
  }

  pub can-behind : (low : ℕ) (vs : List OpenWrapper) → CanClose u w → low ≤ w.types.to_wrapper.index → CanCloseAll low u vs → CanCloseAll low (types_added w u) vs
  can-behind low [] can small all = tt
  can-behind low (v ∷ vs) can small all =
      let below = all.1 in
      let next : v.types.to_wrapper.index ≤ w.types.to_wrapper.index = omega (arith, below, small, (all.0).next.to_wrapper, (all.0).next.pointer) in
      (can-close-behind v can all.0 (omega (arith, below, small)), below, can-behind v.types.to_wrapper.index vs can next all.2)

-- numbers may stand below a higher one
pub can-below : (u : GivenUnit) (low high : ℕ) (ws : List OpenWrapper) → low ≤ high → CanCloseAll low u ws → CanCloseAll high u ws
can-below u low high [] small all = tt
can-below u low high (w ∷ ws) small all = let below = all.1 in (all.0, omega (arith, below, small), all.2)

-- Behind the first wrapper the others can be closed, with all numbers of the unit above theirs.
pub can-next : (above : ℕ) (w : OpenWrapper) (ws : List OpenWrapper) (u : GivenUnit) → CanCloseAll above u (w ∷ ws) → CanCloseAll (length (types_added w u).places) (types_added w u) ws
can-next above w ws u all =
    let within = (all.0).to_wrapper.0 in
    can-below (types_added w u) w.types.to_wrapper.index (length (types_added w u).places) ws (omega (arith, within, types-length w u)) (can-behind w u w.types.to_wrapper.index ws all.0 (omega arith) all.2)

-- what holds of both holds of either
either : (P : GivenUnit → Type 0) (b : Bool) (u v : GivenUnit) → P u → P v → P (if b then u else v)
either P true u v first second = first
either P false u v first second = second

-- What was added stays so, and what is reserved and none of the types of the wrappers.
pub closed-kept : (depth k : ℕ) (ws : List OpenWrapper) (u : GivenUnit) → IsAdded k u → IsAdded k (closed_from depth ws u)
closed-kept depth k [] u added = added
closed-kept depth k (w ∷ ws) u added = either (IsAdded k) (nat_lt w.depth depth) u (closed_from depth ws (types_added w u)) added (closed-kept depth k ws (types_added w u) (types-kept w u k added))

pub closed-reserved : (depth above k : ℕ) (ws : List OpenWrapper) (u : GivenUnit) → CanCloseAll above u ws → IsOther k ws → IsReserved k u → IsReserved k (closed_from depth ws u)
closed-reserved depth above k [] u can other reserved = reserved
closed-reserved depth above k (w ∷ ws) u can other reserved =
    either (IsReserved k) (nat_lt w.depth depth) u (closed_from depth ws (types_added w u)) reserved
    (closed-reserved depth (length (types_added w u).places) k ws (types_added w u) (can-next above w ws u can) other.1 (other-types w u k can.0 other.0 reserved))

-- The first wrapper is closed, if it does not lie above a depth.
pub closed-step : (depth : ℕ) (w : OpenWrapper) (ws xs : List OpenWrapper) (u v : GivenUnit) → xs ≡ w ∷ ws → nat_lt w.depth depth ≡ false → v ≡ types_added w u → closed_from depth ws v ≡ closed_from depth xs u
closed-step depth w ws xs u v are deep is =
    ap (closed_from depth ws) is ∙ sym (ap (λ ys. closed_from depth ys u) are ∙ ap (λ b. if b then u else closed_from depth ws (types_added w u)) deep)

pub still-step : (depth : ℕ) (w : OpenWrapper) (ws xs : List OpenWrapper) → xs ≡ w ∷ ws → nat_lt w.depth depth ≡ false → still_open depth ws ≡ still_open depth xs
still-step depth w ws xs are deep = sym (ap (still_open depth) are ∙ ap (λ b. if b then w ∷ ws else still_open depth ws) deep)

-- It stays open, and those behind it, if it lies above that depth, or there is none.
pub closed-here : (depth : ℕ) (w : OpenWrapper) (ws xs : List OpenWrapper) (u : GivenUnit) → xs ≡ w ∷ ws → nat_lt w.depth depth ≡ true → closed_from depth xs u ≡ u
closed-here depth w ws xs u are above = ap (λ ys. closed_from depth ys u) are ∙ ap (λ b. if b then u else closed_from depth ws (types_added w u)) above

pub closed-none : (depth : ℕ) (xs : List OpenWrapper) (u : GivenUnit) → xs ≡ [] → closed_from depth xs u ≡ u
closed-none depth xs u none = ap (λ ys. closed_from depth ys u) none

-- ---- the last one is the first of them, the last one first

with-last : (n : ℕ) (xs : List OpenWrapper) (w : OpenWrapper) → length xs ≡ suc n → slice_get xs n ≡ Some w → xs ≡ take n xs ++ w ∷ []
with-last n [] w many is = absurd (omega (arith, many))
with-last zero (x ∷ []) w many is = ap (λ o. unwrap_or o w ∷ []) is
with-last zero (x ∷ y ∷ ys) w many is = absurd (omega (arith, many))
with-last (suc n) (x ∷ xs) w many is = ap (λ ys. x ∷ ys) (with-last n xs w (omega (arith, many)) is)

pub last-first : (xs : List OpenWrapper) (w : OpenWrapper) → slice_get xs (length xs - 1) ≡ Some w → reverse xs ≡ w ∷ reverse (take (length xs - 1) xs)
last-first xs w is =
    let within = slice_get_within xs (length xs - 1) w is in
    ap reverse (with-last (length xs - 1) xs w (omega (arith, within)) is) ∙ reverse-append (take (length xs - 1) xs) (w ∷ [])

pub none-last : (xs : List OpenWrapper) → slice_get xs (length xs - 1) ≡ None → reverse xs ≡ []
none-last [] is = refl
none-last (x ∷ xs) is = absurd (cc (sym is ∙ slice_get-get_or (x ∷ xs) (length (x ∷ xs) - 1) x (omega arith)))
