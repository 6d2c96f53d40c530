-- What the last entry of a unit is given of the code: bounds, or intervals.
use Rattle.std.proofs.Common.{◌≡◌, ◌==◌, ℕ, refl, ap, ap₂, arith, ◌<◌, inl, inr, ◌∙◌, List, [], ◌∷◌, get_or, length, map, Option, Some, None}
use Rattle.std.specs.Prelude.{◌-ℤ◌, All, pos, nat_abs, Bool, true, if◌then◌else◌, ◌⊎◌}
use Rattle.std.proofs.Math.IntN.{+ℤ-neg_ℤ_cancel, +ℤ_comm}
use Rattle.std.proofs.Math.Nat.{zero-lt-suc}
use Rattle.std.proofs.lemmas.Bool.{eq-eqb, ne_eqb}
use Rattle.std.proofs.lemmas.List.Elements.{All-nil}
use Rattle.dwc_base.specs.declared.constants.TheConstants.{DW_AT_high_pc, DW_AT_low_pc, DW_AT_ranges, DW_FORM_udata, DW_TAG_compile_unit}
use Rattle.dwc_base.specs.declared.records.Address.{Address}
use Rattle.dwc_base.specs.declared.records.Address.TheVariants.{Constant as Number, Symbol}
use Rattle.dwc_base.specs.declared.records.OutputFor.{OutputFor}
use Rattle.dwc_base.specs.declared.records.OutputFor.TheVariants.{Debugger}
use Rattle.dwc_dwarf.specs.Entries.{Entry}
use Rattle.dwc_native.specs.Functions.{Function}
use Rattle.dwc_dwarf.specs.RawLists.{ListSource}
use Rattle.dwc_rules.specs.RangeAttributes.{begun_function, bounds, extent, length_of, list_base, range_attributes, said_extent, said_intervals}
use Rattle.dwc_dwarf.specs.Trees.{Interval, TreeValue, address, ranges}
use Rattle.dwc_unit.specs.declared.attributes.AttributeValue.TheVariants.{Address as AddressValue, Constant}
use Rattle.dwc_unit.specs.declared.units.UnitEntryId.{UnitEntryId}
use Rattle.dwc_unit.specs.GivenUnits.{Addition, GivenUnit, with_value}
use Rattle.dwc_unit.specs.RangeLists.{FitsRange, interval_of, is_symbol}
use Rattle.dwc_clone.specs.ClonedEntries.{IsGiven, IsLast}
use Rattle.dwc_clone.proofs.EntryValues.{given-last, given-on, given-value, grows-not}

pub bounds-given : (number : ℕ) (texts : List (List ℕ)) (id : UnitEntryId) (base : GivenUnit) (e : Addition) (u : GivenUnit) (begin : Address) (len : ℕ) → IsLast texts id base e u
    → IsGiven number texts texts (bounds begin len) base e (with_value id.index DW_AT_high_pc (Constant DW_FORM_udata len) (with_value id.index DW_AT_low_pc (AddressValue begin) u))
bounds-given number texts id base e u begin len last =
    let low = AddressValue begin in
    let high = Constant DW_FORM_udata len in
    let first = given-value number texts texts id base e u DW_AT_low_pc low last (grows-not texts) (All-nil (λ n. n < length texts)) in
    let second = given-value number texts texts id base first.given _ DW_AT_high_pc high (given-last number texts texts _ id base e u _ last first) (grows-not texts) (All-nil (λ n. n < length texts)) in
    given-on number texts texts texts _ _ base e _ _ first second

-- ---- what intervals are said by

-- An interval that begins at a function is as long as it was given.
interval-length : (r : Address × ℕ) → is_symbol r.0 ≡ true → length_of (interval_of r) ≡ r.1
interval-length (Symbol symbol addend, len) is = ap nat_abs (ap (λ z. z -ℤ addend) (+ℤ_comm addend (pos len)) ∙ +ℤ-neg_ℤ_cancel (pos len) addend)
interval-length (Number n, len) is = absurd (cc)

-- what an interval alone is said by, where it is the one or the other
abbrev alone : Bool → Interval → List (ℕ × TreeValue)
alone in_unit i = if in_unit then (DW_AT_ranges, ranges (i ∷ [])) ∷ [] else bounds i.begin (length_of i)

-- One alone is said by its bounds, but in a compile unit by a list.
pub bounds-said : (tag : ℕ) (rs : List (Address × ℕ)) (d : Address × ℕ) → length rs ≡ 1 → (tag ≡ DW_TAG_compile_unit → ⊥) → ((size : ℕ) → All (FitsRange size) rs)
    → said_intervals tag (map interval_of rs) ≡ bounds (get_or rs 0 d).0 (get_or rs 0 d).1
bounds-said tag [] d one other fits = absurd (omega (arith, one))
bounds-said tag (r ∷ []) d one other fits = ap (λ b. alone b (interval_of r)) (ne_eqb tag DW_TAG_compile_unit other) ∙ ap (bounds r.0) (interval-length r (fits 8 0 r (zero-lt-suc 0)).symbol)
bounds-said tag (r ∷ s ∷ rs) d one other fits = absurd (omega (arith, one))

pub list-said : (tag : ℕ) (rs : List (Address × ℕ)) → ((length rs ≡ 1) × (tag ≡ DW_TAG_compile_unit)) ⊎ (length rs ≡ 1 → ⊥) → said_intervals tag (map interval_of rs) ≡ (DW_AT_ranges, ranges (map interval_of rs)) ∷ []
list-said tag [] why = refl
list-said tag (r ∷ []) (inl p) = ap (λ b. alone b (interval_of r)) (eq-eqb tag DW_TAG_compile_unit p.1)
list-said tag (r ∷ []) (inr many) = absurd (many refl)
list-said tag (r ∷ s ∷ rs) why = refl

-- What a list counts from is said in a compile unit for a debugger.
pub base-said : (output : OutputFor) (tag : ℕ) → output ≡ Debugger → tag ≡ DW_TAG_compile_unit → list_base output (tag == DW_TAG_compile_unit) ≡ (DW_AT_low_pc, address (Number 0)) ∷ []
base-said output tag is root = ap₂ list_base is (eq-eqb tag DW_TAG_compile_unit root)

-- ---- what an entry is given

-- A subprogram that begins in a function is given that function, and another entry what its extent becomes.
pub function-said : (s : ListSource) (fs : List Function) (e : Entry) (f : Function) → begun_function s fs e ≡ Some f → range_attributes s fs e ≡ bounds (Symbol f.number (pos 0)) f.length
unfolding range_attributes
function-said s fs e f is = ap (λ (o : Option Function). elim o [ Some f ↦ bounds (Symbol f.number (pos 0)) f.length | None ↦ said_extent fs e.tag (extent s e) ]) is

pub extent-said : (s : ListSource) (fs : List Function) (e : Entry) → begun_function s fs e ≡ None → range_attributes s fs e ≡ said_extent fs e.tag (extent s e)
unfolding range_attributes
extent-said s fs e is = ap (λ (o : Option Function). elim o [ Some f ↦ bounds (Symbol f.number (pos 0)) f.length | None ↦ said_extent fs e.tag (extent s e) ]) is
