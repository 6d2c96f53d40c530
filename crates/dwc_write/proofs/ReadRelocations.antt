-- The relocations of what is spelled rise, lie within what is spelled, and those of functions are the ones of its address fields.
use Rattle.std.proofs.Common.{◌≡◌, ℕ, ◌+◌, ◌≤◌, refl, sym, ap, ◌∙◌, arith, List, [], ◌∷◌, ◌++◌, ◌⊎◌, inl, inr, length, length-append, replicate}
use Rattle.std.specs.List.{All, flat_map, filter_map}
use Rattle.std.proofs.lemmas.List.Elements.{All-append, All-cons, All-nil, All-weaker, filter_map-append}
use Rattle.dwc_base.specs.declared.records.Endian.{Endian}
use Rattle.dwc_base.specs.declared.records.Address.{Address}
use Rattle.dwc_base.specs.declared.records.Address.TheVariants.{Constant, Symbol}
use Rattle.dwc_base.specs.Outputs.{OutputRelocation, function_relocation}
use Rattle.dwc_base.specs.NumberBytes.{uleb_bytes}
use Rattle.dwc_section.specs.Spelled.{at_places}
use Rattle.dwc_section.specs.SpelledAddresses.{AddressField, stored, relocation_for, relocations_of}
use Rattle.dwc_unit.specs.SpelledUnits.{Written, as_addr, as_strp, as_ref_addr, as_sec_offset, written_bytes, value_fields, WrittenAttribute, attribute_bytes, Shaped, shaped, entry_bytes, entry_fields, header_length, table_place}
use Rattle.dwc_write.specs.SpelledSections.{WrittenUnit, placed_unit_bytes, info_bytes, unit_fields, info_fields}
use Rattle.dwc_write.specs.SpelledRelocations.{value_relocations, entry_relocations, entries_relocations, unit_relocations, info_relocations}
use Rattle.dwc_section.specs.RisingRelocations.{RelocationsRise}
use Rattle.dwc_section.specs.Writers.{address_relocations, IsClear}
use Rattle.dwc_section.proofs.ReadNumbers.{number_bytes-length}
use Rattle.dwc_write.proofs.UnitHeaders.{table-within, unit-long}

-- ---- lists of relocations that rise

pub rise-below : (lower low high : ℕ) (rs : List OutputRelocation) → lower ≤ low → RelocationsRise low high rs → RelocationsRise lower high rs
rise-below lower low high [] less rise = omega (arith, rise)
rise-below lower low high (r ∷ rs) less rise = (omega (arith, rise.0), rise.1)

pub rise-above : (low high higher : ℕ) (rs : List OutputRelocation) → high ≤ higher → RelocationsRise low high rs → RelocationsRise low higher rs
rise-above low high higher [] less rise = omega (arith, rise)
rise-above low high higher (r ∷ rs) less rise = (rise.0, rise-above (r.offset + r.size) high higher rs less rise.1)

pub rise-append : (low middle high : ℕ) (rs qs : List OutputRelocation) → RelocationsRise low middle rs → RelocationsRise middle high qs → RelocationsRise low high (rs ++ qs)
rise-append low middle high [] qs rise on = rise-below low middle high qs rise on
rise-append low middle high (r ∷ rs) qs rise on = (rise.0, rise-append (r.offset + r.size) middle high rs qs rise.1 on)

pub into : (lower low high higher : ℕ) (rs : List OutputRelocation) → lower ≤ low → high ≤ higher → RelocationsRise low high rs → RelocationsRise lower higher rs
into lower low high higher rs before behind rise = rise-below lower low higher rs before (rise-above low high higher rs behind rise)

pub rise-places : {A : Type 0} (spell : A → List ℕ) (at : ℕ → A → List OutputRelocation) (xs : List A) (place : ℕ) → ((p : ℕ) (x : A) → RelocationsRise p (p + length (spell x)) (at p x))
    → RelocationsRise place (place + length (flat_map spell xs)) (at_places spell at place xs)
rise-places spell at [] place each = omega arith
rise-places spell at (x ∷ xs) place each =
    let on = rise-places spell at xs (place + length (spell x)) each in
    let end : (place + length (spell x)) + length (flat_map spell xs) ≡ place + length (spell x ++ flat_map spell xs) = omega (arith, length-append (spell x) (flat_map spell xs)) in
    rise-append place (place + length (spell x)) _ (at place x) _ (each place x) (rw (end) at on)

-- all are at or behind the first place
pub rise-from : (low high : ℕ) (rs : List OutputRelocation) → RelocationsRise low high rs → All (λ r. low ≤ r.offset) rs
rise-from low high [] rise = All-nil _
rise-from low high (r ∷ rs) rise = All-cons (λ q. low ≤ q.offset) r rs rise.0 (All-weaker (λ q. r.offset + r.size ≤ q.offset) (λ q. low ≤ q.offset) (λ q above. omega (arith, above, rise.0)) rs (rise-from (r.offset + r.size) high rs rise.1))

-- none is at bytes between earlier ones and those behind them
pub clear-between : (offset size low high : ℕ) (rs qs : List OutputRelocation) → All (λ r. r.offset + r.size ≤ offset) rs → RelocationsRise low high qs → offset + size ≤ low → IsClear offset size (rs ++ qs)
clear-between offset size low high rs qs before rise behind =
    let P : OutputRelocation → Type 0 = λ r. (r.offset + r.size ≤ offset) ⊎ (offset + size ≤ r.offset) in
    All-append P rs qs
    (All-weaker (λ r. r.offset + r.size ≤ offset) P (λ r h. inl h) rs before)
    (All-weaker (λ r. low ≤ r.offset) P (λ r h. inr (omega (arith, h, behind))) qs (rise-from low high qs rise))

-- ---- those of what is spelled

lengths : (a b c : List ℕ) → length (a ++ (b ++ c)) ≡ length a + (length b + length c)
lengths a b c = simp (length-append) (omega arith)

pub address-rise : (place size : ℕ) (a : Address) → RelocationsRise place (place + size) (address_relocations place size a)
address-rise place size (Constant n) = omega arith
address-rise place size (Symbol symbol addend) = (omega arith, omega arith)

value-rise : (order : Endian) (size place : ℕ) (a : WrittenAttribute) → RelocationsRise place (place + length (attribute_bytes order size a)) (value_relocations size place a.value)
value-rise order size place a = go a.value
  where
    go : (w : Written) → RelocationsRise place (place + length (written_bytes order size w)) (value_relocations size place w)
    go (as_addr x) = rw (number_bytes-length order size (stored x)) (address-rise place size x)
    go (as_strp n) = (omega arith, omega (arith, number_bytes-length order 4 n))
    go (as_ref_addr n) = (omega arith, omega (arith, number_bytes-length order 4 n))
    go (as_sec_offset section n) = (omega arith, omega (arith, number_bytes-length order 4 n))
    go _ = omega arith

entry-rise : (order : Endian) (size place : ℕ) (x : Shaped) → RelocationsRise place (place + length (entry_bytes order size x)) (entry_relocations order size place x)
entry-rise order size place x =
    let code = uleb_bytes x.entry.code in
    let inner = rise-places (attribute_bytes order size) (λ p a. value_relocations size p a.value) x.entry.attributes (place + length code) (value-rise order size) in
    into place (place + length code) _ _ (entry_relocations order size place x) (omega arith) (omega (arith, lengths code (flat_map (attribute_bytes order size) x.entry.attributes) (replicate x.ends 0))) inner

pub entries-rise : (order : Endian) (size place : ℕ) (xs : List Shaped) → RelocationsRise place (place + length (flat_map (entry_bytes order size) xs)) (entries_relocations order size place xs)
entries-rise order size place xs = rise-places (entry_bytes order size) (entry_relocations order size) xs place (entry-rise order size)

unit-rise : (order : Endian) (size place : ℕ) (u : WrittenUnit) → RelocationsRise place (place + length (placed_unit_bytes order size u)) (unit_relocations order size place u)
unit-rise order size place u =
    let at = place + header_length u.version in
    let first = place + table_place u.version in
    let inner = entries-rise order size at (shaped u.entries) in (
      omega arith,
      into (first + 4) at _ _ (entries_relocations order size at (shaped u.entries)) (omega (arith, table-within u.version)) (omega (arith, unit-long u.version order size u.table_offset u.entries)) inner,
    )

pub info-rise : (order : Endian) (size place : ℕ) (us : List WrittenUnit) → RelocationsRise place (place + length (info_bytes order size us)) (info_relocations order size place us)
info-rise order size place us = rise-places (placed_unit_bytes order size) (unit_relocations order size) us place (unit-rise order size)

-- ---- those of functions are the ones of address fields

pub places-functions : {A : Type 0} (spell : A → List ℕ) (at : ℕ → A → List OutputRelocation) (fields : ℕ → A → List AddressField) → ((p : ℕ) (x : A) → filter_map function_relocation (at p x) ≡ relocations_of (fields p x)) → (xs : List A) (place : ℕ)
    → filter_map function_relocation (at_places spell at place xs) ≡ relocations_of (at_places spell fields place xs)
places-functions spell at fields each [] place = refl
places-functions spell at fields each (x ∷ xs) place =
    filter_map-append function_relocation (at place x) (at_places spell at (place + length (spell x)) xs)
    ∙ ap (λ rs. rs ++ filter_map function_relocation (at_places spell at (place + length (spell x)) xs)) (each place x)
    ∙ ap (λ rs. relocations_of (fields place x) ++ rs) (places-functions spell at fields each xs (place + length (spell x)))
    ∙ sym (filter_map-append relocation_for (fields place x) (at_places spell fields (place + length (spell x)) xs))

pub address-functions : (place size : ℕ) (a : Address) → filter_map function_relocation (address_relocations place size a) ≡ relocations_of (record { offset = place; size = size; address = a } ∷ [])
address-functions place size (Constant n) = refl
address-functions place size (Symbol symbol addend) = refl

value-functions : (order : Endian) (size place : ℕ) (a : WrittenAttribute) → filter_map function_relocation (value_relocations size place a.value) ≡ relocations_of (value_fields size place a.value)
value-functions order size place a = go a.value
  where
    go : (w : Written) → filter_map function_relocation (value_relocations size place w) ≡ relocations_of (value_fields size place w)
    go (as_addr x) = address-functions place size x
    go (as_ref_addr n) = refl
    go (as_sec_offset section n) = refl
    go _ = refl

unit-functions : (order : Endian) (size place : ℕ) (u : WrittenUnit) → filter_map function_relocation (unit_relocations order size place u) ≡ relocations_of (unit_fields order size place u)
unit-functions order size place u =
    places-functions (entry_bytes order size) (entry_relocations order size) (entry_fields order size)
    (λ p x. places-functions (attribute_bytes order size) (λ q a. value_relocations size q a.value) (λ q a. value_fields size q a.value) (value-functions order size) x.entry.attributes (p + length (uleb_bytes x.entry.code)))
    (shaped u.entries) (place + header_length u.version)

pub info-functions : (order : Endian) (size place : ℕ) (us : List WrittenUnit) → filter_map function_relocation (info_relocations order size place us) ≡ relocations_of (info_fields order size place us)
info-functions order size place us = places-functions (placed_unit_bytes order size) (unit_relocations order size) (unit_fields order size) (unit-functions order size) us place
