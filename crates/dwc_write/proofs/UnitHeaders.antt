-- How long the header of a unit is, in each version: `header-long`, `unit-long`; and what it is together with the entries: `grouped`.
use Rattle.std.proofs.Common.{◌≡◌, ℕ, ◌+◌, ◌<◌, ◌≤◌, refl, ap, ◌∙◌, arith, List, [], ◌∷◌, ◌++◌, append_assoc, length, length-append, Bool, true, false}
use Rattle.std.specs.Prelude.{if◌then◌else◌}
use Rattle.dwc_base.specs.declared.records.Endian.{Endian}
use Rattle.dwc_base.specs.declared.constants.TheConstants.{DW_UT_compile}
use Rattle.dwc_base.specs.NumberBytes.{number_bytes}
use Rattle.dwc_output.specs.Versions.{is_old}
use Rattle.dwc_unit.specs.SpelledUnits.{WrittenEntry, entries_bytes, header_length, table_place, unit_body, unit_bytes}
use Rattle.dwc_write.specs.SpelledSections.{header_bytes}
use Rattle.dwc_section.proofs.ReadNumbers.{number_bytes-length}

-- room for a length
abbrev pub room : List ℕ
room = 0 ∷ 0 ∷ 0 ∷ 0 ∷ []

-- what stands behind the version in a header
abbrev fields_behind : Bool → Endian → ℕ → ℕ → List ℕ
fields_behind old order size table_offset = if old then number_bytes order 4 table_offset ++ (size ∷ []) else (DW_UT_compile ∷ size ∷ []) ++ number_bytes order 4 table_offset

fields-long : (old : Bool) (order : Endian) (size table_offset : ℕ) → 6 + length (fields_behind old order size table_offset) ≡ (if old then 11 else 12)
fields-long true order size table_offset = omega (arith, number_bytes-length order 4 table_offset, length-append (number_bytes order 4 table_offset) (size ∷ []))
fields-long false order size table_offset = omega (arith, number_bytes-length order 4 table_offset)

fields-grouped : (old : Bool) (order : Endian) (size table_offset : ℕ) (rest : List ℕ)
    → fields_behind old order size table_offset ++ rest ≡ (if old then number_bytes order 4 table_offset ++ ((size ∷ []) ++ rest) else (DW_UT_compile ∷ size ∷ []) ++ (number_bytes order 4 table_offset ++ rest))
fields-grouped true order size table_offset rest = append_assoc (number_bytes order 4 table_offset) (size ∷ []) rest
fields-grouped false order size table_offset rest = refl

-- The offset of the table stands behind the length, within the header.
pub table-within : (version : ℕ) → table_place version + 4 ≤ header_length version
table-within version = go (is_old version)
  where
    go : (old : Bool) → (if old then 6 else 8) + 4 ≤ (if old then 11 else 12)
    go true = omega arith
    go false = omega arith

pub table-behind : (version : ℕ) → 4 ≤ table_place version
table-behind version = go (is_old version)
  where
    go : (old : Bool) → 4 ≤ (if old then 6 else 8)
    go true = omega arith
    go false = omega arith

-- a header has more than ten bytes
pub header-some : (version : ℕ) → 10 < header_length version
header-some version = go (is_old version)
  where
    go : (old : Bool) → 10 < (if old then 11 else 12)
    go true = omega arith
    go false = omega arith

-- a header behind its length
abbrev pub header_fields : ℕ → Endian → ℕ → ℕ → List ℕ
header_fields version order size table_offset = number_bytes order 2 version ++ fields_behind (is_old version) order size table_offset

module _ (version : ℕ) (order : Endian) (size table_offset : ℕ) where
  pub fields-length : 4 + length (header_fields version order size table_offset) ≡ header_length version
  fields-length =
      let behind = fields_behind (is_old version) order size table_offset in
      omega (arith, number_bytes-length order 2 version, length-append (number_bytes order 2 version) behind, fields-long (is_old version) order size table_offset)

  pub header-long : length (header_bytes version order size table_offset) ≡ header_length version
  header-long = omega (arith, fields-length)

  -- A header and entries are a unit's body behind its length.
  pub body-grouped : (es : List WrittenEntry) → header_fields version order size table_offset ++ entries_bytes order size es ≡ unit_body version order size table_offset es
  body-grouped es =
      append_assoc (number_bytes order 2 version) (fields_behind (is_old version) order size table_offset) (entries_bytes order size es)
      ∙ ap (λ bytes. number_bytes order 2 version ++ bytes) (fields-grouped (is_old version) order size table_offset (entries_bytes order size es))

  pub grouped : (es : List WrittenEntry) → header_bytes version order size table_offset ++ entries_bytes order size es ≡ room ++ unit_body version order size table_offset es
  grouped es = ap (λ bytes. room ++ bytes) (body-grouped es)

  -- A unit is as long as its header and its entries.
  pub unit-long : (es : List WrittenEntry) → length (unit_bytes version order size table_offset es) ≡ header_length version + length (entries_bytes order size es)
  unit-long es =
      let body = unit_body version order size table_offset es in
      omega (arith, fields-length, ap length (body-grouped es), length-append (header_fields version order size table_offset) (entries_bytes order size es), length-append (number_bytes order 4 (length body)) body, number_bytes-length order 4 (length body))
