-- The fields of entries that are spelled are found where they stand, and their relocations are those that are spelled with them:
-- `units-fields`, `info-related`.
use Rattle.std.proofs.Common.{◌≡◌, ℕ, ◌+◌, refl, sym, ap, ◌∙◌, arith, List, [], ◌∷◌, ◌++◌, append_assoc, append-nil, length, length-append, map, drop, replicate, Ok}
use Rattle.std.specs.Prelude.{pos}
use Rattle.std.specs.List.{All, flat_map}
use Rattle.std.proofs.lemmas.List.{drop-drop}
use Rattle.std.proofs.lemmas.List.Elements.{All-head, All-tail, All-weaker, filter_map-append}
use Rattle.std.proofs.Math.Seq.{drop-append_seam}
use Rattle.dwc_base.specs.declared.records.Endian.{Endian}
use Rattle.dwc_base.specs.declared.section_name.SectionName.TheVariants.{Info}
use Rattle.dwc_base.specs.Reading.{Unread, ◌>>=◌}
use Rattle.dwc_base.specs.Sections.{Sections}
use Rattle.dwc_base.specs.Abbreviations.{Declaration, abbreviation_table}
use Rattle.dwc_base.specs.Units.{UnitHeader}
use Rattle.dwc_dwarf.specs.Values.{form_code_at}
use Rattle.dwc_base.specs.Outputs.{OutputRelocation}
use Rattle.dwc_output.specs.Fields.{Field, fields_read, field_of_value, fields_at, fields_of_entry, field_of_table, fields_of_entries, fields_of_unit, relocation_of, relocations_of_fields}
use Rattle.dwc_base.specs.Spelling.{unread_at}
use Rattle.dwc_base.specs.NumberBytes.{number_bytes, uleb_bytes}
use Rattle.dwc_section.specs.Spelled.{at_places}
use Rattle.dwc_section.specs.SpelledAddresses.{IsHeld}
use Rattle.dwc_unit.specs.SpelledUnits.{Written, as_addr, as_data1, as_data2, as_data4, as_data8, as_udata, as_sdata, as_flag, as_block, as_exprloc, as_strp, as_ref4, as_ref_addr, as_sec_offset, form_number, FitsWritten, written_value, value_fields, WrittenAttribute, spec_of, attribute_bytes, Shaped, shaped, entry_bytes, entry_fields, entries_bytes, read_entry, FitsEntry, unit_body, header_length, read_header}
use Rattle.dwc_write.specs.SpelledSections.{WrittenUnit, placed_unit_bytes, info_bytes, unit_fields, info_fields, read_unit, read_units, FitsUnit}
use Rattle.dwc_write.specs.SpelledRelocations.{value_relocations, entry_relocations, unit_relocations, info_relocations}
use Rattle.dwc_section.proofs.ReadNumbers.{number_bytes-length}
use Rattle.dwc_unit.specs.GivenUnits.{IsWrittenVersion}
use Rattle.dwc_write.proofs.UnitHeaders.{body-grouped, fields-length, header_fields}
use Rattle.dwc_unit.proofs.ReadParts.{Spells-uleb_bytes}
use Rattle.dwc_unit.proofs.ReadValues.{value-reads, All-front, All-back}

-- ---- fields one behind another

-- where each thing's fields have its relocations, all have
pub places-related : {A : Type 0} (spell : A → List ℕ) (fields : ℕ → A → List Field) (at : ℕ → A → List OutputRelocation) (xs : List A) (place : ℕ) → All (λ x. (p : ℕ) → relocations_of_fields (fields p x) ≡ at p x) xs
    → relocations_of_fields (at_places spell fields place xs) ≡ at_places spell at place xs
places-related spell fields at [] place each = refl
places-related {A} spell fields at (x ∷ xs) place each =
    let P : A → Type 0 = λ x. (p : ℕ) → relocations_of_fields (fields p x) ≡ at p x in
    let here : relocations_of_fields (fields place x) ≡ at place x = All-head P x xs each place in
    let others = places-related spell fields at xs (place + length (spell x)) (All-tail P x xs each) in
    filter_map-append (λ f. relocation_of f.offset f.size f.held) (fields place x) (at_places spell fields (place + length (spell x)) xs) ∙ rw (here, others) refl

-- what stands behind a part of a section
pub stands-behind : (n : ℕ) (bytes part rest : List ℕ) → drop n bytes ≡ part ++ rest → drop (n + length part) bytes ≡ rest
stands-behind n bytes part rest h = sym (drop-drop (length part) n bytes) ∙ ap (drop (length part)) h ∙ drop-append_seam part rest

-- ---- values

-- the field of a value, where it has one
abbrev pub fields_of_written : UnitHeader → ℕ → WrittenAttribute → List Field
fields_of_written h place a = field_of_value h place (written_value a.name a.value)

-- The field of a value of a version has the relocation that is spelled with it.
abbrev pub IsRelatedValue : ℕ → WrittenAttribute → Type 0
IsRelatedValue version a = (h : UnitHeader) → h.version ≡ version → (place : ℕ) → relocations_of_fields (fields_of_written h place a) ≡ value_relocations h.address_size place a.value

-- no form stands in front of a value
form-given : (a : WrittenAttribute) (u : Unread) → form_code_at (spec_of a) u ≡ Ok (form_number a.value, u)
unfolding form_code_at
form-given a u = go a.value
  where
    go : (w : Written) → form_code_at (record { name = a.name; form = form_number w; implicit = pos 0 }) u ≡ Ok (form_number w, u)
    go (as_addr x) = refl
    go (as_data1 n) = refl
    go (as_data2 n) = refl
    go (as_data4 n) = refl
    go (as_data8 n) = refl
    go (as_udata n) = refl
    go (as_sdata z) = refl
    go (as_flag b) = refl
    go (as_block bytes) = refl
    go (as_exprloc bytes) = refl
    go (as_strp n) = refl
    go (as_ref4 n) = refl
    go (as_ref_addr n) = refl
    go (as_sec_offset section n) = refl

-- the fields of an entry
abbrev pub fields_of_shaped : Endian → UnitHeader → ℕ → Shaped → List Field
fields_of_shaped order h place x = at_places (attribute_bytes order h.address_size) (fields_of_written h) (place + length (uleb_bytes x.entry.code)) x.entry.attributes

module _ (s : Sections) (h : UnitHeader) (version : IsWrittenVersion h.version) where
  abbrev order : Endian
  order = s.order

  abbrev size : ℕ
  size = h.address_size

  values-fields : (xs : List WrittenAttribute) (place : ℕ) (rest : List ℕ) → All (λ a. FitsWritten size a.value) xs → All (IsHeld (s.relocations Info)) (at_places (attribute_bytes order size) (λ p a. value_fields size p a.value) place xs)
      → fields_at s h (map spec_of xs) (unread_at order place (flat_map (attribute_bytes order size) xs ++ rest)) ≡ Ok (at_places (attribute_bytes order size) (fields_of_written h) place xs)
  unfolding fields_at
  values-fields [] place rest fits held = refl
  values-fields (a ∷ xs) place rest fits held =
      let bytes = attribute_bytes order size a in
      let others = flat_map (attribute_bytes order size) xs in
      let code = form-given a (unread_at order place (bytes ++ (others ++ rest))) in
      let read = (value-reads s h version order place a (All-head (λ a. FitsWritten size a.value) a xs fits) (All-front (IsHeld (s.relocations Info)) (value_fields size place a.value) _ held)).reads (others ++ rest) in
      let more = values-fields xs (place + length bytes) rest (All-tail (λ a. FitsWritten size a.value) a xs fits) (All-back (IsHeld (s.relocations Info)) (value_fields size place a.value) _ held) in
      rw (append_assoc bytes others rest, code, read, more) refl

  -- ---- entries

  module _ (table : List Declaration) where
    entry-found : (place : ℕ) (x : Shaped) (rest : List ℕ) → FitsEntry table size x → All (IsHeld (s.relocations Info)) (entry_fields order size place x) → drop place (s.bytes Info) ≡ entry_bytes order size x ++ rest
        → fields_of_entry s h table (read_entry place x) ≡ Ok (fields_of_shaped order h place x)
    unfolding fields_of_entry
    entry-found place x rest fits held stands =
        let code = uleb_bytes x.entry.code in
        let values = flat_map (attribute_bytes order size) x.entry.attributes in
        let zeros = replicate x.ends 0 in
        let parts : drop place (s.bytes Info) ≡ code ++ (values ++ (zeros ++ rest)) = stands ∙ grouped code values zeros rest in
        let numbered = (Spells-uleb_bytes order x.entry.code fits.code).reads place (values ++ (zeros ++ rest)) in
        let declared = fits.declared in
        rw (parts, numbered, ◌>>=◌, declared) (values-fields x.entry.attributes (place + length code) (zeros ++ rest) fits.values held)
      where
        grouped : (a b c d : List ℕ) → (a ++ (b ++ c)) ++ d ≡ a ++ (b ++ (c ++ d))
        grouped a b c d = simp append_assoc

    entries-found : (xs : List Shaped) (place : ℕ) (rest : List ℕ) → All (FitsEntry table size) xs → All (IsHeld (s.relocations Info)) (at_places (entry_bytes order size) (entry_fields order size) place xs)
        → drop place (s.bytes Info) ≡ flat_map (entry_bytes order size) xs ++ rest
        → flat_map (λ e. fields_read (fields_of_entry s h table e)) (at_places (entry_bytes order size) (λ p x. read_entry p x ∷ []) place xs) ≡ at_places (entry_bytes order size) (fields_of_shaped order h) place xs
    entries-found [] place rest fits held stands = refl
    entries-found (x ∷ xs) place rest fits held stands =
        let bytes = entry_bytes order size x in
        let others = flat_map (entry_bytes order size) xs in
        let parts = stands ∙ append_assoc bytes others rest in
        let first = entry-found place x (others ++ rest) (All-head (FitsEntry table size) x xs fits) (All-front (IsHeld (s.relocations Info)) (entry_fields order size place x) _ held) parts in
        let more = entries-found xs (place + length bytes) rest (All-tail (FitsEntry table size) x xs fits) (All-back (IsHeld (s.relocations Info)) (entry_fields order size place x) _ held) (stands-behind place (s.bytes Info) bytes (others ++ rest) parts) in
        rw (first, more) refl

-- ---- units

-- the fields of a unit at a place
abbrev pub fields_of_spelled : Sections → ℕ → ℕ → WrittenUnit → List Field
fields_of_spelled s size place u =
    let h = read_header u.version s.order size u.table_offset place u.entries in
    field_of_table h ∷ at_places (entry_bytes s.order size) (fields_of_shaped s.order h) (place + header_length u.version) (shaped u.entries)

module _ (s : Sections) (size : ℕ) where
  -- the entries stand behind the header
  entries-stand : (place : ℕ) (u : WrittenUnit) (rest : List ℕ) → drop place (s.bytes Info) ≡ placed_unit_bytes s.order size u ++ rest → drop (place + header_length u.version) (s.bytes Info) ≡ entries_bytes s.order size u.entries ++ rest
  entries-stand place u rest stands =
      let length_of = number_bytes s.order 4 (length (unit_body u.version s.order size u.table_offset u.entries)) in
      let fields = header_fields u.version s.order size u.table_offset in
      let entries = entries_bytes s.order size u.entries in
      let parts = stands ∙ ap (λ body. (length_of ++ body) ++ rest) (sym (body-grouped u.version s.order size u.table_offset u.entries)) ∙ regrouped length_of fields entries rest in
      let at : length (length_of ++ fields) ≡ header_length u.version = omega (arith, length-append length_of fields, number_bytes-length s.order 4 (length (unit_body u.version s.order size u.table_offset u.entries)), fields-length u.version s.order size u.table_offset) in
      rw (at) at (stands-behind place (s.bytes Info) (length_of ++ fields) (entries ++ rest) parts)
    where
      regrouped : (a b c d : List ℕ) → (a ++ (b ++ c)) ++ d ≡ (a ++ b) ++ (c ++ d)
      regrouped a b c d = simp append_assoc

  unit-found : (place : ℕ) (u : WrittenUnit) (rest : List ℕ) → FitsUnit s.order size u → abbreviation_table s u.table_offset ≡ Ok u.table → All (IsHeld (s.relocations Info)) (unit_fields s.order size place u)
      → drop place (s.bytes Info) ≡ placed_unit_bytes s.order size u ++ rest → fields_of_unit s (read_unit s.order size place u) ≡ fields_of_spelled s size place u
  unit-found place u rest fits known held stands =
      let h = read_header u.version s.order size u.table_offset place u.entries in
      rw (fields_of_unit, fields_of_entries, known) (ap (λ fs. field_of_table h ∷ fs) (entries-found s h fits.version u.table (shaped u.entries) (place + header_length u.version) rest fits.entries held (entries-stand place u rest stands)))

  units-found : (us : List WrittenUnit) (place : ℕ) (rest : List ℕ) → All (FitsUnit s.order size) us → All (λ u. abbreviation_table s u.table_offset ≡ Ok u.table) us → All (IsHeld (s.relocations Info)) (info_fields s.order size place us)
      → drop place (s.bytes Info) ≡ info_bytes s.order size us ++ rest
      → flat_map (fields_of_unit s) (read_units s.order size place us) ≡ at_places (placed_unit_bytes s.order size) (fields_of_spelled s size) place us
  units-found [] place rest fits known held stands = refl
  units-found (u ∷ us) place rest fits known held stands =
      let bytes = placed_unit_bytes s.order size u in
      let others = info_bytes s.order size us in
      let parts = stands ∙ append_assoc bytes others rest in
      let T : WrittenUnit → Type 0 = λ w. abbreviation_table s w.table_offset ≡ Ok w.table in
      let first = unit-found place u (others ++ rest) (All-head (FitsUnit s.order size) u us fits) (All-head T u us known) (All-front (IsHeld (s.relocations Info)) (unit_fields s.order size place u) _ held) parts in
      let more = units-found us (place + length bytes) rest (All-tail (FitsUnit s.order size) u us fits) (All-tail T u us known) (All-back (IsHeld (s.relocations Info)) (unit_fields s.order size place u) _ held) (stands-behind place (s.bytes Info) bytes (others ++ rest) parts) in
      ap (λ fs. fs ++ flat_map (fields_of_unit s) (read_units s.order size (place + length bytes) us)) first ∙ ap (λ fs. fields_of_spelled s size place u ++ fs) more

  -- ---- their relocations

  -- a unit whose values have the relocations that are spelled with them
  abbrev pub IsRelatedUnit : WrittenUnit → Type 0
  IsRelatedUnit u = All (λ x. All (IsRelatedValue u.version) x.entry.attributes) (shaped u.entries)

  unit-related : (u : WrittenUnit) → IsRelatedUnit u → (place : ℕ) → relocations_of_fields (fields_of_spelled s size place u) ≡ unit_relocations s.order size place u
  unit-related u related place =
      let h = read_header u.version s.order size u.table_offset place u.entries in
      let V : WrittenAttribute → Type 0 = λ a. (p : ℕ) → relocations_of_fields (fields_of_written h p a) ≡ value_relocations size p a.value in
      let X : Shaped → Type 0 = λ x. (p : ℕ) → relocations_of_fields (fields_of_shaped s.order h p x) ≡ entry_relocations s.order size p x in
      let entry : (x : Shaped) → All (IsRelatedValue u.version) x.entry.attributes → X x =
      λ x values p. places-related (attribute_bytes s.order size) (fields_of_written h) (λ q a. value_relocations size q a.value) x.entry.attributes (p + length (uleb_bytes x.entry.code)) (All-weaker (IsRelatedValue u.version) V (λ a r. r h refl) x.entry.attributes values) in
      let entries = places-related (entry_bytes s.order size) (fields_of_shaped s.order h) (entry_relocations s.order size) (shaped u.entries) (place + header_length u.version) (All-weaker (λ x. All (IsRelatedValue u.version) x.entry.attributes) X entry (shaped u.entries) related) in
      rw (entries) refl

  -- The relocations of units that are spelled are those of their fields.
  pub info-related : (us : List WrittenUnit) → All (FitsUnit s.order size) us → All (λ u. abbreviation_table s u.table_offset ≡ Ok u.table) us → All (IsHeld (s.relocations Info)) (info_fields s.order size 0 us)
      → s.bytes Info ≡ info_bytes s.order size us → All IsRelatedUnit us → info_relocations s.order size 0 us ≡ relocations_of_fields (flat_map (fields_of_unit s) (read_units s.order size 0 us))
  info-related us fits known held bytes related =
      let found = units-found us 0 [] fits known held (bytes ∙ sym (append-nil (info_bytes s.order size us))) in
      let R : WrittenUnit → Type 0 = λ u. (p : ℕ) → relocations_of_fields (fields_of_spelled s size p u) ≡ unit_relocations s.order size p u in
      let all = places-related (placed_unit_bytes s.order size) (fields_of_spelled s size) (unit_relocations s.order size) us 0 (All-weaker IsRelatedUnit R unit-related us related) in
      sym (ap relocations_of_fields found ∙ all)
