-- The entries of the unit for functions without debugging information, added one behind another.
use Rattle.std.proofs.Common.{◌≡◌, ℕ, ◌<◌, [], ◌∷◌, length, List, ap, ap₂, ◌∙◌, subst, sym, refl}
use Rattle.std.specs.Prelude.{pos}
use Rattle.dwc_base.specs.declared.constants.TheConstants.{DW_AT_decl_file, DW_AT_decl_line, DW_AT_high_pc, DW_AT_location, DW_AT_low_pc, DW_AT_name, DW_AT_type, DW_FORM_udata, DW_TAG_subprogram, DW_TAG_variable}
use Rattle.dwc_base.specs.declared.records.Address.TheVariants.{Symbol}
use Rattle.dwc_unit.specs.declared.attributes.AttributeValue.TheVariants as write
use Rattle.dwc_unit.specs.declared.attributes.DebugInfoRef.{DebugInfoRef}
use Rattle.dwc_unit.specs.LocationLists.{LocationList}
use Rattle.dwc_unit.specs.declared.strings.StringId.{StringId}
use Rattle.dwc_unit.specs.declared.units.UnitEntryId.{UnitEntryId}
use Rattle.dwc_unit.specs.AddedInOrder.{with_entry}
use Rattle.dwc_unit.specs.GivenUnits.{Addition, GivenUnit, IsAdded, with_child, with_next, with_value}
use Rattle.dwc_unit.proofs.AddedInOrderUnits.{entry-known, entry-set, numbered-child, numbered-next}
use Rattle.dwc_clone.specs.ContextPlaces.{with_variable}
use Rattle.dwc_carry.specs.declared.made_entries.MadeValue.{MadeValue}
use Rattle.dwc_carry.specs.declared.made_entries.MadeValue.TheVariants.{Text, Constant, Entry}
use Rattle.dwc_carry.specs.MadeEntries.{IsDense, with_attributes}
use Rattle.dwc_carry.specs.SyntheticAdditions.{below}
use Rattle.dwc_carry.specs.SimulatedAdditions.{context_addition, local_addition, subprogram_addition}
use Rattle.dwc_carry.proofs.MadeAdditions.{entry-dense, last-given}

-- a unit with an entry more without attributes
child-is : (u : GivenUnit) (parent tag : ℕ) → IsDense u → parent < length u.additions → with_child parent tag (with_next u) ≡ with_entry (below parent tag []) u
child-is u parent tag dense within = numbered-child u parent tag dense within

-- the number of an entry more is its place
pub number-is : (u : GivenUnit) (id : UnitEntryId) → IsDense u → id ≡ record { index = length u.places } → id.index ≡ length u.additions
number-is u id dense is = ap (λ (x : UnitEntryId). x.index) is ∙ numbered-next u dense

-- a unit that has an entry more is still numbered by places
pub still-dense : (u v : GivenUnit) (e : Addition) → IsDense u → v ≡ with_entry e u → IsDense v
still-dense u v e dense is = subst (λ w. IsDense w) (sym is) (entry-dense u e dense)

-- its last entry is known
pub added-known : (u v : GivenUnit) (parent tag : ℕ) (id : UnitEntryId) → IsDense u → parent < length u.additions → v ≡ with_child parent tag (with_next u) → id ≡ record { index = length u.places } → IsAdded id.index v
added-known u v parent tag id dense within is number =
    subst (λ w. IsAdded id.index w) (sym (is ∙ child-is u parent tag dense within)) (entry-known u (below parent tag []) id.index (ap (λ (x : UnitEntryId). x.index) number))

-- ---- functions

-- a function that begins somewhere is known
pub begun-known : (u v w : GivenUnit) (symbol : ℕ) (id : UnitEntryId) → IsDense u → 0 < length u.additions → v ≡ with_child 0 DW_TAG_subprogram (with_next u) → id ≡ record { index = length u.places } → w ≡ with_value id.index DW_AT_low_pc (write.Address (Symbol symbol (pos 0))) v
    → IsAdded id.index w
begun-known u v w symbol id dense some is number set =
    let index = ap (λ (x : UnitEntryId). x.index) number in
    let begin = write.Address (Symbol symbol (pos 0)) in
    let e = below 0 DW_TAG_subprogram [] in
    let same = set ∙ ap (with_value id.index DW_AT_low_pc begin) (is ∙ child-is u 0 DW_TAG_subprogram dense some) ∙ entry-set u e id.index DW_AT_low_pc begin index in
    subst (λ x. IsAdded id.index x) (sym same) (entry-known u (below 0 DW_TAG_subprogram (record { name = DW_AT_low_pc; value = begin } ∷ [])) id.index index)

-- the attributes behind where it begins
abbrev pub behind_begin : StringId → MadeValue → MadeValue → MadeValue → List (ℕ × MadeValue)
behind_begin name size file line = (DW_AT_high_pc, size) ∷ (DW_AT_name, Text name) ∷ (DW_AT_decl_file, file) ∷ (DW_AT_decl_line, line) ∷ []

pub subprogram-added : (u v w x : GivenUnit) (name : StringId) (symbol size line : ℕ) (id : UnitEntryId) (a b c : MadeValue) → IsDense u → 0 < length u.additions → v ≡ with_child 0 DW_TAG_subprogram (with_next u) → id ≡ record { index = length u.places }
    → w ≡ with_value id.index DW_AT_low_pc (write.Address (Symbol symbol (pos 0))) v → a ≡ Constant DW_FORM_udata size → b ≡ Constant DW_FORM_udata 1 → c ≡ Constant DW_FORM_udata line → x ≡ with_attributes id.index (behind_begin name a b c) w → x ≡ with_entry (subprogram_addition name symbol size line) u
subprogram-added u v w x name symbol size line id a b c dense some is number set size_is file_is line_is given =
    let index = ap (λ (y : UnitEntryId). y.index) number in
    let begin = write.Address (Symbol symbol (pos 0)) in
    let e = below 0 DW_TAG_subprogram [] in
    let begun = set ∙ ap (with_value id.index DW_AT_low_pc begin) (is ∙ child-is u 0 DW_TAG_subprogram dense some) ∙ entry-set u e id.index DW_AT_low_pc begin index in
    let others = behind_begin name (Constant DW_FORM_udata size) (Constant DW_FORM_udata 1) (Constant DW_FORM_udata line) in
    let same : behind_begin name a b c ≡ others = rw (size_is, file_is, line_is) refl in
    given ∙ ap₂ (with_attributes id.index) same begun ∙ last-given u id.index 0 DW_TAG_subprogram (record { name = DW_AT_low_pc; value = begin } ∷ []) others index

-- ---- variables

-- a variable with a name and a type
typed-is : (u v w : GivenUnit) (parent tag : ℕ) (name : StringId) (type : ℕ) (id : UnitEntryId) → IsDense u → parent < length u.additions → v ≡ with_child parent tag (with_next u) → id ≡ record { index = length u.places }
    → w ≡ with_attributes id.index ((DW_AT_name, Text name) ∷ (DW_AT_type, Entry type) ∷ []) v
    → w ≡ with_entry (below parent tag (record { name = DW_AT_name; value = write.StringRef name } ∷ record { name = DW_AT_type; value = write.UnitRef (record { index = type }) } ∷ [])) u
typed-is u v w parent tag name type id dense within is number given =
    let others = (DW_AT_name, Text name) ∷ (DW_AT_type, Entry type) ∷ [] in
    given ∙ ap (with_attributes id.index others) (is ∙ child-is u parent tag dense within) ∙ last-given u id.index parent tag [] others (ap (λ (y : UnitEntryId). y.index) number)

pub typed-known : (u v w : GivenUnit) (parent tag : ℕ) (name : StringId) (type : ℕ) (id : UnitEntryId) → IsDense u → parent < length u.additions → v ≡ with_child parent tag (with_next u) → id ≡ record { index = length u.places }
    → w ≡ with_attributes id.index ((DW_AT_name, Text name) ∷ (DW_AT_type, Entry type) ∷ []) v → IsAdded id.index w
typed-known u v w parent tag name type id dense within is number given =
    let typed = below parent tag (record { name = DW_AT_name; value = write.StringRef name } ∷ record { name = DW_AT_type; value = write.UnitRef (record { index = type }) } ∷ []) in
    subst (λ x. IsAdded id.index x) (sym (typed-is u v w parent tag name type id dense within is number given)) (entry-known u typed id.index (ap (λ (y : UnitEntryId). y.index) number))

pub local-added : (u v w x : GivenUnit) (parent tag : ℕ) (name : StringId) (type : ℕ) (list : LocationList) (id : UnitEntryId) → IsDense u → parent < length u.additions → v ≡ with_child parent tag (with_next u) → id ≡ record { index = length u.places }
    → w ≡ with_attributes id.index ((DW_AT_name, Text name) ∷ (DW_AT_type, Entry type) ∷ []) v → x ≡ with_value id.index DW_AT_location (write.LocationListRef list) w
    → x ≡ with_entry (local_addition parent tag name type list) u
local-added u v w x parent tag name type list id dense within is number given set =
    let typed = below parent tag (record { name = DW_AT_name; value = write.StringRef name } ∷ record { name = DW_AT_type; value = write.UnitRef (record { index = type }) } ∷ []) in
    set ∙ ap (with_value id.index DW_AT_location (write.LocationListRef list)) (typed-is u v w parent tag name type id dense within is number given)
    ∙ entry-set u typed id.index DW_AT_location (write.LocationListRef list) (ap (λ (y : UnitEntryId). y.index) number)

-- The variable of the context is an entry more.
pub variable-added : (u : GivenUnit) (parent : ℕ) (name : StringId) (type : DebugInfoRef) (list : LocationList) → IsDense u → parent < length u.additions → with_variable parent name type list u ≡ with_entry (context_addition parent name type list) u
variable-added u parent name type list dense within =
    let n = length u.places in
    let e0 = below parent DW_TAG_variable [] in
    let e1 = below parent DW_TAG_variable (record { name = DW_AT_name; value = write.StringRef name } ∷ []) in
    let e2 = below parent DW_TAG_variable (record { name = DW_AT_name; value = write.StringRef name } ∷ record { name = DW_AT_type; value = write.DebugInfoRef type } ∷ []) in
    let located = with_value n DW_AT_location (write.LocationListRef list) in
    let typed = with_value n DW_AT_type (write.DebugInfoRef type) in
    let named = with_value n DW_AT_name (write.StringRef name) in
    ap (λ v. located (typed (named v))) (child-is u parent DW_TAG_variable dense within)
    ∙ ap (λ v. located (typed v)) (entry-set u e0 n DW_AT_name (write.StringRef name) refl)
    ∙ ap located (entry-set u e1 n DW_AT_type (write.DebugInfoRef type) refl)
    ∙ entry-set u e2 n DW_AT_location (write.LocationListRef list) refl
