-- What holds of the values of forms that were read.
use Rattle.std.proofs.Common.{◌≡◌, ℕ, zero, suc, ◌^◌, ◌<◌, refl, rules, subst, List, [], ◌∷◌, length, Option, Some, None, Ok, Err, Bool, true, false}
use Rattle.std.specs.Prelude.{if◌then◌else◌, ◌==◌, nat_lt, ◌||◌, ◌&&◌}
use Rattle.std.specs.Int.{w64, cast_unsigned}
use Rattle.std.proofs.lemmas.Bool.{eqb-true}
use Rattle.dwc_base.specs.declared.faults.Flaw.TheVariants.{Malformed}
use Rattle.dwc_base.specs.declared.records.Encoding.{Encoding}
use Rattle.dwc_base.specs.declared.section_name.SectionName.TheVariants.{Info}
use Rattle.dwc_base.specs.Reading.{Unread, ◌>>=◌, forbid, coded, bytes_at, number_at, uleb_at}
use Rattle.dwc_base.specs.Sections.{Sections, Relocation, address_at}
use Rattle.dwc_base.specs.Abbreviations.{AttributeSpec}
use Rattle.dwc_base.specs.Units.{UnitHeader}
use Rattle.dwc_dwarf.specs.Values.{Value, constant, Size, fixed, variable, Form, addr, indexed_addr, blocks, exprloc, data_of, sdata, implicit, flag_byte, flag_present, string, string_elsewhere, reference, ref_addr, sec_offset, indexed_location, indexed_range, passed_over, supplementary, block, expression, line_reference, location_reference, location_index, range_reference, range_index, dropped, forms, form_of, is_location_name, is_range_name, is_expression_name, section_offset, block_value, constant_value, sized_number_at, block_at, formed_value_at, form_behind, form_code_at, encoded_value_at, encoding_of, value_at}
use Rattle.dwc_base.specs.declared.constants.TheConstants.{DW_AT_stmt_list, DW_FORM_data4, DW_FORM_implicit_const, DW_FORM_indirect}
use Rattle.dwc_dwarf.specs.ReadValues.{is_constant_form, constant_bound, IsReadValue}
use Rattle.dwc_base.proofs.ReadValuesParts.{Holds, Holds-bind, AreBytes, InBytes, Holds-seen, Any, Holds-any, bytes_at-bytes, number_at-below, uleb_at-below, sleb_at-below, text_at-bytes}

-- ---- the forms by their codes

-- the number below which a number of a size is
abbrev pub size_bound : Size → ℕ
size_bound (fixed size) = 256 ^ size
size_bound variable = 2 ^ 64

-- what a code has in common with the form that it names, where this spells constants
abbrev IsFormOf : ℕ → Form → Type 0
IsFormOf code (data_of size) = (is_constant_form code ≡ true) × (size_bound size ≡ constant_bound code)
IsFormOf code sdata = (is_constant_form code ≡ true) × (2 ^ 64 ≡ constant_bound code)
IsFormOf code implicit = (is_constant_form code ≡ true) × (2 ^ 64 ≡ constant_bound code)
IsFormOf code _ = Unit {0}

-- each row of a table of codes
abbrev EachRow : {A : Type 0} → (ℕ → A → Type 0) → List (ℕ × A) → Type 0
EachRow P [] = Unit {0}
EachRow P (row ∷ rows) = P row.0 row.1 × EachRow P rows

coded-row : {A : Type 0} (P : ℕ → A → Type 0) (rows : List (ℕ × A)) (code : ℕ) (x : A) → EachRow P rows → coded rows code ≡ Some x → P code x
coded-row P [] code x each e = absurd (cc)
coded-row {A} P (row ∷ rows) code x each e = go (row.0 == code) refl e (λ rest. coded-row P rows code x each.1 rest)
  where
    go : (b : Bool) → (row.0 == code) ≡ b → (if b then Some row.1 else coded rows code) ≡ Some x → (coded rows code ≡ Some x → P code x) → P code x
    go true same found rest =
        let at : row.0 ≡ code = eqb-true row.0 code same in
        let is : row.1 ≡ x = cc in
        subst (λ y. P code y) is (subst (λ c. P c row.1) at each.0)
    go false other found rest = rest found

forms-are : EachRow IsFormOf forms
forms-are = search rules

form-is : (code : ℕ) (form : Form) → form_of code ≡ Some form → IsFormOf code form
form-is code form e = coded-row IsFormOf forms code form forms-are e

-- ---- values

section_offset-read : (name n : ℕ) → IsReadValue name (section_offset name n)
section_offset-read name n = go (is_location_name name) (name == DW_AT_stmt_list) (is_range_name name) refl refl
  where
    go : (a b c : Bool) → is_location_name name ≡ a → is_range_name name ≡ c → IsReadValue name (if a then location_reference n else (if b then line_reference n else (if c then range_reference n else dropped)))
    go true b c l e = l
    go false true c l e = tt
    go false false true l e = e
    go false false false l e = tt

constant_value-read : (version name code n : ℕ) → is_constant_form code ≡ true → n < constant_bound code → IsReadValue name (constant_value version name code n)
constant_value-read version name code n known small = go ((code == DW_FORM_data4) && nat_lt version 4 && (is_location_name name || (name == DW_AT_stmt_list) || is_range_name name))
  where
    go : (b : Bool) → IsReadValue name (if b then section_offset name n else constant code n)
    go true = section_offset-read name n
    go false = (known, small)

block_value-read : (name : ℕ) (bytes : List ℕ) → IsReadValue name (block_value name bytes)
block_value-read name bytes = go (is_expression_name name) refl
  where
    go : (b : Bool) → is_expression_name name ≡ b → IsReadValue name (if b then expression bytes else block bytes)
    go true e = tt
    go false e = e

location_index-read : (name n : ℕ) → IsReadValue name (if is_location_name name then location_index n else dropped)
location_index-read name n = go (is_location_name name) refl
  where
    go : (b : Bool) → is_location_name name ≡ b → IsReadValue name (if b then location_index n else dropped)
    go true e = e
    go false e = tt

range_index-read : (name n : ℕ) → IsReadValue name (if is_range_name name then range_index n else dropped)
range_index-read name n = go (is_range_name name) refl
  where
    go : (b : Bool) → is_range_name name ≡ b → IsReadValue name (if b then range_index n else dropped)
    go true e = e
    go false e = tt

sized_number_at-below : (size : Size) (u : Unread) → AreBytes u.left → Holds (InBytes (λ n. n < size_bound size)) (sized_number_at size u)
unfolding sized_number_at
sized_number_at-below (fixed size) u h = number_at-below size u h
sized_number_at-below variable u h = uleb_at-below u h

block_at-bytes : (size : Size) (u : Unread) → AreBytes u.left → Holds (InBytes Any) (block_at size u)
unfolding block_at
block_at-bytes size u h = Holds-bind (sized_number_at size u) _ (sized_number_at-below size u h) (λ count i. Holds-any _ (bytes_at count.0 count.1) (bytes_at-bytes count.0 count.1 i.1))

address_at-bytes : (relocations : List Relocation) (size : ℕ) (u : Unread) → AreBytes u.left → Holds (InBytes Any) (address_at relocations size u)
unfolding address_at
address_at-bytes relocations size u h = Holds-bind (number_at size u) _ (number_at-below size u h) (λ spelled i. record { held = (tt, i.1) })

formed_value_at-read : (relocations : List Relocation) (e : Encoding) (spec : AttributeSpec) (code : ℕ) (form : Form) (u : Unread) → IsFormOf code form → cast_unsigned w64 spec.implicit < 2 ^ 64 → AreBytes u.left
    → Holds (InBytes (IsReadValue spec.name)) (formed_value_at relocations e spec code form u)
unfolding formed_value_at
formed_value_at-read relocations e spec code addr u k s h = Holds-seen Any (IsReadValue spec.name) _ _ (address_at-bytes relocations e.address_size u h) (λ x i. tt)
formed_value_at-read relocations e spec code (indexed_addr size) u k s h = Holds-seen _ (IsReadValue spec.name) _ _ (sized_number_at-below size u h) (λ x i. tt)
formed_value_at-read relocations e spec code (blocks size) u k s h = Holds-seen Any (IsReadValue spec.name) _ _ (block_at-bytes size u h) (λ x i. block_value-read spec.name x)
formed_value_at-read relocations e spec code exprloc u k s h = Holds-seen Any (IsReadValue spec.name) _ _ (block_at-bytes variable u h) (λ x i. tt)
formed_value_at-read relocations e spec code (data_of size) u k s h = Holds-seen _ (IsReadValue spec.name) _ _ (sized_number_at-below size u h) (λ n i. constant_value-read e.version spec.name code n k.0 (subst (λ m. n < m) k.1 i))
formed_value_at-read relocations e spec code sdata u k s h = Holds-seen _ (IsReadValue spec.name) _ _ (sleb_at-below u h) (λ z i. (k.0, subst (λ m. cast_unsigned w64 z < m) k.1 i))
formed_value_at-read relocations e spec code implicit u k s h = record { held = ((k.0, subst (λ m. cast_unsigned w64 spec.implicit < m) k.1 s), h) }
formed_value_at-read relocations e spec code flag_byte u k s h = Holds-seen _ (IsReadValue spec.name) _ _ (number_at-below 1 u h) (λ x i. tt)
formed_value_at-read relocations e spec code flag_present u k s h = record { held = (tt, h) }
formed_value_at-read relocations e spec code string u k s h = Holds-seen _ (IsReadValue spec.name) _ _ (text_at-bytes u h) (λ x i. i)
formed_value_at-read relocations e spec code (string_elsewhere size) u k s h = Holds-seen _ (IsReadValue spec.name) _ _ (sized_number_at-below size u h) (λ x i. tt)
formed_value_at-read relocations e spec code (reference size) u k s h = Holds-seen _ (IsReadValue spec.name) _ _ (sized_number_at-below size u h) (λ x i. tt)
formed_value_at-read relocations e spec code ref_addr u k s h = Holds-seen _ (IsReadValue spec.name) _ _ (number_at-below _ u h) (λ x i. tt)
formed_value_at-read relocations e spec code sec_offset u k s h = Holds-seen _ (IsReadValue spec.name) _ _ (number_at-below 4 u h) (λ x i. section_offset-read spec.name x)
formed_value_at-read relocations e spec code indexed_location u k s h = Holds-seen _ (IsReadValue spec.name) _ _ (uleb_at-below u h) (λ x i. location_index-read spec.name x)
formed_value_at-read relocations e spec code indexed_range u k s h = Holds-seen _ (IsReadValue spec.name) _ _ (uleb_at-below u h) (λ x i. range_index-read spec.name x)
formed_value_at-read relocations e spec code (passed_over size) u k s h = Holds-seen _ (IsReadValue spec.name) _ _ (bytes_at-bytes size u h) (λ x i. tt)
formed_value_at-read relocations e spec code supplementary u k s h = record { held = tt }

form_behind-bytes : (most : ℕ) (u : Unread) → AreBytes u.left → Holds (InBytes Any) (form_behind most u)
unfolding form_behind
form_behind-bytes zero u h = record { held = tt }
form_behind-bytes (suc most) u h = Holds-bind (uleb_at u) _ (uleb_at-below u h) (λ code i. go (code.0 == DW_FORM_indirect) code i.1 (form_behind-bytes most code.1 i.1))
  where
    given : (b : Bool) (code : ℕ × Unread) → AreBytes (code.1).left → Holds {A = ℕ × Unread} (InBytes Any) (forbid b Malformed >>= λ given. Ok code)
    given true code i = record { held = tt }
    given false code i = record { held = (tt, i) }

    go : (b : Bool) (code : ℕ × Unread) → AreBytes (code.1).left → Holds (InBytes Any) (form_behind most code.1)
        → Holds {A = ℕ × Unread} (InBytes Any) (elim b [ true ↦ form_behind most code.1 | false ↦ (forbid (code.0 == DW_FORM_implicit_const) Malformed >>= λ given. Ok code) ])
    go true code i again = again
    go false code i again = given (code.0 == DW_FORM_implicit_const) code i

form_code_at-bytes : (spec : AttributeSpec) (u : Unread) → AreBytes u.left → Holds (InBytes Any) (form_code_at spec u)
unfolding form_code_at
form_code_at-bytes spec u h = go (spec.form == DW_FORM_indirect)
  where
    go : (b : Bool) → Holds {A = ℕ × Unread} (InBytes Any) (elim b [ true ↦ form_behind (length u.left) u | false ↦ Ok (spec.form, u) ])
    go true = form_behind-bytes (length u.left) u h
    go false = record { held = (tt, h) }

pub value_at-read : (s : Sections) (h : UnitHeader) (spec : AttributeSpec) (u : Unread) → cast_unsigned w64 spec.implicit < 2 ^ 64 → AreBytes u.left → Holds (InBytes (IsReadValue spec.name)) (value_at s h spec u)
unfolding value_at encoded_value_at
value_at-read s h spec u small bytes = Holds-bind (form_code_at spec u) _ (form_code_at-bytes spec u bytes) (λ code i. go code.0 (form_of code.0) refl code.1 i.1)
  where
    go : (code : ℕ) (o : Option Form) → form_of code ≡ o → (v : Unread) → AreBytes v.left → Holds {A = Value × Unread} (InBytes (IsReadValue spec.name)) (elim o [ None ↦ Err Malformed | Some form ↦ formed_value_at (s.relocations Info) (encoding_of h) spec code form v ])
    go code None e v i = record { held = tt }
    go code (Some form) e v i = formed_value_at-read (s.relocations Info) (encoding_of h) spec code form v (form-is code form e) small i
