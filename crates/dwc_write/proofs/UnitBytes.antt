-- A unit as code writes it: room for its length, header and entries, and the length put in.
use Rattle.std.proofs.Common.{◌≡◌, ℕ, ◌+◌, ◌≤◌, inl, inr, refl, ap, ◌∙◌, arith, List, [], ◌∷◌, ◌++◌, length, Ok, Err}
use Rattle.std.specs.Prelude.{◌-◌, Result}
use Rattle.std.specs.List.{All}
use Rattle.dwc_base.specs.declared.records.Endian.{Endian}
use Rattle.dwc_base.specs.declared.section_name.SectionName.TheVariants.{Abbrev}
use Rattle.dwc_base.specs.Outputs.{OutputRelocation}
use Rattle.dwc_base.specs.NumberBytes.{number_bytes}
use Rattle.dwc_section.specs.declared.error.WriteError.{WriteError}
use Rattle.dwc_unit.specs.declared.lists.ListPlaces.{ListPlaces}
use Rattle.dwc_unit.specs.GivenUnits.{GivenEntry, Places}
use Rattle.dwc_unit.specs.SpelledTables.{table_bytes}
use Rattle.dwc_unit.specs.SpelledUnits.{shaped, entries_bytes, header_length, table_place, unit_body}
use Rattle.dwc_write.specs.SpelledSections.{WrittenUnit, header_bytes, placed_unit_bytes}
use Rattle.dwc_write.specs.SpelledOutput.{unit_of, WritesUnit}
use Rattle.dwc_write.specs.SpelledRelocations.{entries_relocations, unit_relocations}
use Rattle.dwc_section.specs.RisingRelocations.{RelocationsRise}
use Rattle.dwc_section.specs.Writers.{Writing, Refuses, Writes, appended, overwritten, offset_relocation, IsClear}
use Rattle.dwc_section.proofs.ReadNumbers.{number_bytes-length}
use Rattle.dwc_write.proofs.ReadRelocations.{entries-rise, clear-between, rise-below}
use Rattle.dwc_write.proofs.UnitHeaders.{room, grouped, header-long, table-behind, table-within, unit-long}
use Rattle.dwc_section.proofs.WritesLaws.{appended-twice, length-behind, order-behind, patched, refused-later, refused-longer}

-- the header, with room for the length
abbrev pub front : Endian → ℕ → WrittenUnit → List ℕ
front order size u = header_bytes u.version order size u.table_offset

-- how much header and entries are
pub unit-length : (size : ℕ) (u : WrittenUnit) (a b : Writing) (rs : List OutputRelocation) → b ≡ appended (front a.order size u) rs a
    → length (front a.order size u) + length (entries_bytes b.order size u.entries) ≤ length (placed_unit_bytes a.order size u)
unit-length size u a b rs headed =
    let order : b.order ≡ a.order = order-behind a b (front a.order size u) rs headed in
    let same = ap (λ o. length (entries_bytes o size u.entries)) order in
    omega (arith, same, header-long u.version a.order size u.table_offset, unit-long u.version a.order size u.table_offset u.entries)

pub header-length : (size : ℕ) (u : WrittenUnit) (order : Endian) → length (front order size u) ≤ length (placed_unit_bytes order size u)
header-length size u order = omega (arith, header-long u.version order size u.table_offset, unit-long u.version order size u.table_offset u.entries)

module _ (size : ℕ) (u : WrittenUnit) (a b c : Writing)
    (headed : b ≡ appended (front a.order size u) (offset_relocation (length a.body + table_place u.version) 4 Abbrev u.table_offset ∷ []) a)
    (filled : c ≡ appended (entries_bytes b.order size u.entries) (entries_relocations b.order size (length b.body) (shaped u.entries)) b) where
  -- header and entries
  written : c ≡ appended (room ++ unit_body u.version a.order size u.table_offset u.entries) (unit_relocations a.order size (length a.body) u) a
  written =
      let table = offset_relocation (length a.body + table_place u.version) 4 Abbrev u.table_offset ∷ [] in
      let order : b.order ≡ a.order = order-behind a b (front a.order size u) table headed in
      let place : length b.body ≡ length a.body + header_length u.version = omega (arith, length-behind a b (front a.order size u) table headed, header-long u.version a.order size u.table_offset) in
      let step : c ≡ appended (entries_bytes a.order size u.entries) (entries_relocations a.order size (length a.body + header_length u.version) (shaped u.entries)) b =
      filled ∙ ap (λ o. appended (entries_bytes o size u.entries) (entries_relocations o size (length b.body) (shaped u.entries)) b) order
      ∙ ap (λ p. appended (entries_bytes a.order size u.entries) (entries_relocations a.order size p (shaped u.entries)) b) place in
      appended-twice a b c (front a.order size u) (entries_bytes a.order size u.entries) table (entries_relocations a.order size (length a.body + header_length u.version) (shaped u.entries)) headed step
      ∙ ap (λ bytes. appended bytes (unit_relocations a.order size (length a.body) u) a) (grouped u.version a.order size u.table_offset u.entries)

  -- no relocation is at the length
  pub unit-clear : All (λ r. r.offset + r.size ≤ length a.body) a.relocations → IsClear (length a.body) 4 c.relocations
  unit-clear before =
      let at = length a.body + header_length u.version in
      let inner = entries-rise a.order size at (shaped u.entries) in
      let first = length a.body + table_place u.version in
      let rise : RelocationsRise first (at + length (entries_bytes a.order size u.entries)) (unit_relocations a.order size (length a.body) u) = (omega arith, rise-below (first + 4) at _ _ (omega (arith, table-within u.version)) inner) in
      rw written (clear-between (length a.body) 4 first (at + length (entries_bytes a.order size u.entries)) a.relocations (unit_relocations a.order size (length a.body) u) before rise (omega (arith, table-behind u.version)))

  pub unit-inside : length a.body + 4 ≤ length c.body
  unit-inside = omega (arith, length-behind a c (room ++ unit_body u.version a.order size u.table_offset u.entries) (unit_relocations a.order size (length a.body) u) written)

  -- with the length put in, they are the unit
  pub unit-appended : (d : Writing) → d ≡ overwritten (length a.body) (number_bytes c.order 4 (length c.body - (length a.body + 4))) [] c → d ≡ appended (placed_unit_bytes a.order size u) (unit_relocations a.order size (length a.body) u) a
  unit-appended d over =
      let body = unit_body u.version a.order size u.table_offset u.entries in
      let relocations = unit_relocations a.order size (length a.body) u in
      let order : c.order ≡ a.order = order-behind a c (room ++ body) relocations written in
      let value : length c.body - (length a.body + 4) ≡ length body = omega (arith, length-behind a c (room ++ body) relocations written) in
      let size_bytes = number_bytes c.order 4 (length c.body - (length a.body + 4)) in
      let sized : size_bytes ≡ number_bytes a.order 4 (length body) = ap (λ o. number_bytes o 4 (length c.body - (length a.body + 4))) order ∙ ap (number_bytes a.order 4) value in
      patched a c d room size_bytes body relocations refl (number_bytes-length c.order 4 _) written over
      ∙ ap (λ bytes. appended (bytes ++ body) relocations a) sized

-- ---- what the call answers

-- a call on .debug_info is refused
pub info-refused : (result : Result (Unit {0}) WriteError) (e : WriteError) (a a' i i' : Writing) (size : ℕ) (lists : ListPlaces) (places : Places) (es : List GivenEntry) (n : ℕ) → ((error : WriteError) × (result ≡ Err error) × (error ≡ e)) → Refuses e i n
    → n ≤ length (placed_unit_bytes i.order size (unit_of size lists (length a.body) places es)) → WritesUnit a a' i i' result size lists places es
info-refused result e a a' i i' size lists places es n p refused less =
    let is : result ≡ Err e = p.1 ∙ ap Err p.2 in
    let later : Refuses e i (length (placed_unit_bytes i.order size (unit_of size lists (length a.body) places es))) = refused-longer e i n _ refused less in
    rw (is) (inr later)

pub info-refused-later : (result : Result (Unit {0}) WriteError) (e : WriteError) (a a' i i' b : Writing) (x : List ℕ) (r : List OutputRelocation) (size : ℕ) (lists : ListPlaces) (places : Places) (es : List GivenEntry) (n : ℕ) → ((error : WriteError) × (result ≡ Err error) × (error ≡ e)) → b ≡ appended x r i → Refuses e b n
    → length x + n ≤ length (placed_unit_bytes i.order size (unit_of size lists (length a.body) places es)) → WritesUnit a a' i i' result size lists places es
info-refused-later result e a a' i i' b x r size lists places es n p grown refused less =
    let is : result ≡ Err e = p.1 ∙ ap Err p.2 in
    let later : Refuses e i (length (placed_unit_bytes i.order size (unit_of size lists (length a.body) places es))) = refused-later e i b x r n _ grown refused less in
    rw (is) (inr later)

-- the last call, on .debug_abbrev
pub unit-result : (a a' i i' : Writing) (result : Result (Unit {0}) WriteError) (size : ℕ) (lists : ListPlaces) (places : Places) (es : List GivenEntry) (bytes : List ℕ) → Writes a a' result bytes [] → bytes ≡ table_bytes (unit_of size lists (length a.body) places es).table
    → i' ≡ appended (placed_unit_bytes i.order size (unit_of size lists (length a.body) places es)) (unit_relocations i.order size (length i.body) (unit_of size lists (length a.body) places es)) i → WritesUnit a a' i i' result size lists places es
unit-result a a' i i' (Ok done) size lists places es bytes written table info = (written ∙ ap (λ bs. appended bs [] a) table, info)
unit-result a a' i i' (Err e) size lists places es bytes written table info = inl (refused-longer e a _ _ written (omega (arith, ap length table)))
