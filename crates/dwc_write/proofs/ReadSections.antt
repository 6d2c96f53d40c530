-- Units that are spelled in their sections are read again: `units-read`. The fields of each part rise (`entries-rise`, `info-rise`), so the
-- sections' own relocations hold.
use Rattle.std.proofs.Common.{◌≡◌, ℕ, ◌+◌, ◌<◌, ◌≤◌, refl, sym, ap, ◌∙◌, arith, List, [], ◌∷◌, ◌++◌, ◌⊎◌, inl, inr, append_assoc, append-nil, length, length-append, replicate, map, drop, None, Ok}
use Rattle.std.specs.List.{All, flat_map}
use Rattle.std.proofs.lemmas.List.{drop-drop}
use Rattle.std.proofs.lemmas.List.Elements.{All-head, All-tail, All-cons, All-nil}
use Rattle.std.proofs.Math.Seq.{drop-append_seam}
use Rattle.dwc_base.specs.declared.records.Endian.{Endian}
use Rattle.dwc_base.specs.declared.section_name.SectionName.TheVariants.{Abbrev, Info}
use Rattle.dwc_base.specs.Listing.{with_first}
use Rattle.dwc_base.specs.Sections.{Sections}
use Rattle.dwc_base.specs.Abbreviations.{abbreviation_table}
use Rattle.dwc_base.specs.Units.{UnitHeader, unit_headers_from, unit_headers}
use Rattle.dwc_dwarf.specs.ReadUnits.{Unit as ReadUnit, units, units_of_headers}
use Rattle.dwc_base.specs.Spelling.{unread_at}
use Rattle.dwc_base.specs.NumberBytes.{uleb_bytes}
use Rattle.dwc_unit.specs.SpelledTables.{table_bytes}
use Rattle.dwc_section.specs.SpelledAddresses.{AddressField, stored, IsHeld, relocations_of, RiseWithin}
use Rattle.dwc_unit.specs.SpelledUnits.{Written, as_addr, written_bytes, value_fields, WrittenAttribute, attribute_bytes, WrittenEntry, Shaped, shaped, entry_bytes, entry_fields, entries_bytes, entries_fields, header_length, read_header}
use Rattle.dwc_write.specs.SpelledSections.{WrittenUnit, tables_bytes, placed_unit_bytes, info_bytes, unit_fields, info_fields, read_unit, read_units, FitsUnit, AreTablesFrom}
use Rattle.dwc_base.proofs.Takes.{Leaves-at, unit_header_at-leaves}
use Rattle.dwc_base.proofs.UnitWalk.{unit_headers_from-end, unit_headers_from-item}
use Rattle.dwc_section.proofs.ReadNumbers.{number_bytes-length}
use Rattle.dwc_write.proofs.ReadTables.{table-read}
use Rattle.dwc_unit.proofs.ReadValues.{All-front, All-back}
use Rattle.dwc_unit.proofs.ReadEntries.{header-read, unit-entries}
use Rattle.dwc_write.proofs.ReadAddresses.{rising-held, rise-below, rise-above, rise-places}
use Rattle.dwc_write.proofs.UnitHeaders.{unit-long}

-- ---- fields of addresses rise

pub into : (lower low high higher : ℕ) (fs : List AddressField) → lower ≤ low → high ≤ higher → RiseWithin low high fs → RiseWithin lower higher fs
into lower low high higher fs before behind rise = rise-below lower low higher fs before (rise-above low high higher fs behind rise)

lengths : (a b c : List ℕ) → length (a ++ (b ++ c)) ≡ length a + (length b + length c)
lengths a b c = simp (length-append) (omega arith)

value-rise : (order : Endian) (size : ℕ) → 0 < size → (place : ℕ) (a : WrittenAttribute) → RiseWithin place (place + length (attribute_bytes order size a)) (value_fields size place a.value)
value-rise order size some place a = go a.value
  where
    go : (w : Written) → RiseWithin place (place + length (written_bytes order size w)) (value_fields size place w)
    go (as_addr x) = (omega arith, omega (arith, some, number_bytes-length order size (stored x)))
    go _ = omega arith

entry-rise : (order : Endian) (size : ℕ) → 0 < size → (place : ℕ) (x : Shaped) → RiseWithin place (place + length (entry_bytes order size x)) (entry_fields order size place x)
entry-rise order size some place x =
    let code = uleb_bytes x.entry.code in
    let inner = rise-places (attribute_bytes order size) (λ p a. value_fields size p a.value) x.entry.attributes (place + length code) (value-rise order size some) in
    into place (place + length code) _ _ (entry_fields order size place x) (omega arith) (omega (arith, lengths code (flat_map (attribute_bytes order size) x.entry.attributes) (replicate x.ends 0))) inner

pub entries-rise : (order : Endian) (size : ℕ) → 0 < size → (place : ℕ) (es : List WrittenEntry) → RiseWithin place (place + length (entries_bytes order size es)) (entries_fields order size place es)
entries-rise order size some place es = rise-places (entry_bytes order size) (entry_fields order size) (shaped es) place (entry-rise order size some)

unit-rise : (order : Endian) (size : ℕ) → 0 < size → (place : ℕ) (u : WrittenUnit) → RiseWithin place (place + length (placed_unit_bytes order size u)) (unit_fields order size place u)
unit-rise order size some place u =
    let at = place + header_length u.version in
    into place at _ _ (unit_fields order size place u) (omega arith) (omega (arith, unit-long u.version order size u.table_offset u.entries)) (entries-rise order size some at u.entries)

pub info-rise : (order : Endian) (size : ℕ) → 0 < size → (place : ℕ) (us : List WrittenUnit) → RiseWithin place (place + length (info_bytes order size us)) (info_fields order size place us)
info-rise order size some place us = rise-places (placed_unit_bytes order size) (unit_fields order size) us place (unit-rise order size some)

-- ---- what stands behind a part of a section

pub drop-behind : (n : ℕ) (bytes part rest : List ℕ) → drop n bytes ≡ part ++ rest → drop (n + length part) bytes ≡ rest
drop-behind n bytes part rest h = sym (drop-drop (length part) n bytes) ∙ ap (drop (length part)) h ∙ drop-append_seam part rest

-- ---- the tables of the units

pub tables-read : (s : Sections) (order : Endian) (size offset : ℕ) (us : List WrittenUnit) (rest : List ℕ) → All (FitsUnit order size) us → AreTablesFrom offset us
    → drop offset (s.bytes Abbrev) ≡ tables_bytes us ++ rest → All (λ u. abbreviation_table s u.table_offset ≡ Ok u.table) us
tables-read s order size offset [] rest fits stand bytes = All-nil _
tables-read s order size offset (u ∷ us) rest fits stand bytes =
    let here = stand.0 in
    let grouped : drop offset (s.bytes Abbrev) ≡ table_bytes u.table ++ (tables_bytes us ++ rest) = bytes ∙ append_assoc (table_bytes u.table) (tables_bytes us) rest in
    let first : abbreviation_table s offset ≡ Ok u.table = table-read s offset u.table (tables_bytes us ++ rest) (All-head (FitsUnit order size) u us fits).table grouped in
    All-cons (λ u. abbreviation_table s u.table_offset ≡ Ok u.table) u us (ap (abbreviation_table s) here ∙ first)
    (tables-read s order size (offset + length (table_bytes u.table)) us rest (All-tail (FitsUnit order size) u us fits) stand.1 (drop-behind offset (s.bytes Abbrev) (table_bytes u.table) (tables_bytes us ++ rest) grouped))

-- ---- the units

-- the headers
abbrev pub headers_of : List ReadUnit → List UnitHeader
headers_of us = map (λ u. u.header) us

headers-read : (order : Endian) (size place : ℕ) (us : List WrittenUnit) → (size ≡ 4) ⊎ (size ≡ 8) → All (FitsUnit order size) us
    → unit_headers_from (unread_at order place (info_bytes order size us)) ≡ record { items = headers_of (read_units order size place us); fault = None }
headers-read order size place [] known fits = unit_headers_from-end (unread_at order place []) refl
headers-read order size place (u ∷ us) known fits =
    let here = All-head (FitsUnit order size) u us fits in
    let others = info_bytes order size us in
    let read = (header-read u.version order place size u.table_offset u.entries here.version known here.offset here.short).reads others in
    let some = Leaves-at read (unit_header_at-leaves (unread_at order place (placed_unit_bytes order size u ++ others))) in
    unit_headers_from-item _ _ _ (omega (arith, some)) read
    ∙ ap (with_first (read_header u.version order size u.table_offset place u.entries)) (headers-read order size (place + length (placed_unit_bytes order size u)) us known (All-tail (FitsUnit order size) u us fits))

entries-of-units : (s : Sections) (size place : ℕ) (us : List WrittenUnit) → All (FitsUnit s.order size) us → All (λ u. abbreviation_table s u.table_offset ≡ Ok u.table) us
    → All (IsHeld (s.relocations Info)) (info_fields s.order size place us)
    → units_of_headers s (headers_of (read_units s.order size place us)) None ≡ record { items = read_units s.order size place us; fault = None }
entries-of-units s size place [] fits known held = refl
entries-of-units s size place (u ∷ us) fits known held =
    let here = All-head (FitsUnit s.order size) u us fits in
    let table = All-head (λ u. abbreviation_table s u.table_offset ≡ Ok u.table) u us known in
    let own = All-front (IsHeld (s.relocations Info)) (unit_fields s.order size place u) _ held in
    let read = unit-entries s u.version size u.table_offset place u.entries u.table here.version table here.entries here.tree own in
    let others = entries-of-units s size (place + length (placed_unit_bytes s.order size u)) us (All-tail (FitsUnit s.order size) u us fits) (All-tail (λ u. abbreviation_table s u.table_offset ≡ Ok u.table) u us known) (All-back (IsHeld (s.relocations Info)) (unit_fields s.order size place u) _ held) in
    rw (read) (ap (with_first (read_unit s.order size place u)) others)

-- The units of two sections that are spelled, with the relocations of their addresses, are read as they were given.
pub units-read : (s : Sections) (size : ℕ) (us : List WrittenUnit) → (size ≡ 4) ⊎ (size ≡ 8) → All (FitsUnit s.order size) us → AreTablesFrom 0 us
    → s.bytes Abbrev ≡ tables_bytes us → s.bytes Info ≡ info_bytes s.order size us → s.relocations Info ≡ relocations_of (info_fields s.order size 0 us)
    → units s ≡ record { items = read_units s.order size 0 us; fault = None }
unfolding units
units-read s size us known fits stand abbrev_bytes info_bytes_are relocations_are =
    let some : 0 < size = positive size known in
    let tables = tables-read s s.order size 0 us [] fits stand (abbrev_bytes ∙ sym (append-nil (tables_bytes us))) in
    let held_by = rising-held 0 _ (info_fields s.order size 0 us) (info-rise s.order size some 0 us) in
    let held : All (IsHeld (s.relocations Info)) (info_fields s.order size 0 us) = rw (relocations_are) held_by in
    let headers = headers-read s.order size 0 us known fits in
    let whole : unit_headers s ≡ record { items = headers_of (read_units s.order size 0 us); fault = None } = rw (info_bytes_are) headers in
    rw (whole) (entries-of-units s size 0 us fits tables held)
  where
    positive : (size : ℕ) → (size ≡ 4) ⊎ (size ≡ 8) → 0 < size
    positive size (inl e) = omega arith
    positive size (inr e) = omega arith
