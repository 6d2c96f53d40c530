-- A unit that is spelled is read again. `header-read`: its header, wherever it stands. `unit-entries`: its entries,
-- where its table is known, each entry's code names its declaration there, and the relocations hold. `entries-read` is the same
-- for entries below a depth, with whatever follows them.
use Rattle.std.proofs.Common.{◌≡◌, ℕ, zero, suc, ◌+◌, ◌-◌, add-zero, ◌^◌, ◌<◌, ◌≤◌, refl, sym, ap, ◌∙◌, arith, lit<, List, [], ◌∷◌, ◌++◌, ◌⊎◌, inl, inr, append_assoc, length, length-append, append-nil, Some, None, Ok, Err, true, false, ltb, eqb}
use Rattle.std.specs.Prelude.{◌==◌, ◌||◌, replicate}
use Rattle.std.specs.List.{All, flat_map}
use Rattle.std.proofs.lemmas.Bool.{lt-ltb, le-ltb, lt-leb, ne_eqb, cases_lt}
use Rattle.std.proofs.lemmas.List.{length-replicate}
use Rattle.std.proofs.lemmas.List.Elements.{All-head, All-tail}
use Rattle.dwc_base.specs.declared.records.Endian.{Endian}
use Rattle.dwc_base.specs.declared.constants.TheConstants.{DW_UT_compile}
use Rattle.dwc_base.specs.declared.faults.Flaw.TheVariants.{Malformed}
use Rattle.dwc_base.specs.declared.section_name.SectionName.TheVariants.{Info}
use Rattle.dwc_base.specs.Reading.{Unread, ◌>>=◌, uleb_at}
use Rattle.dwc_base.specs.Listing.{with_first}
use Rattle.dwc_base.specs.Sections.{Sections}
use Rattle.dwc_base.specs.Abbreviations.{Declaration, declaration_of, abbreviation_table}
use Rattle.dwc_base.specs.Units.{UnitHeader, dwo_id_at, sized_part_at, header_of_5, header_to_4, unit_header_at}
use Rattle.dwc_dwarf.specs.Entries.{Found, entry_place, place_behind, declared_entry_at, entry_at, entries_from, entries}
use Rattle.dwc_base.specs.Spelling.{unread_at}
use Rattle.dwc_base.specs.NumberBytes.{number_bytes, uleb_bytes}
use Rattle.dwc_section.specs.Spelled.{SpellsAt, sized_bytes}
use Rattle.dwc_section.specs.SpelledAddresses.{IsHeld}
use Rattle.dwc_unit.specs.SpelledUnits.{WrittenEntry, Shaped, next_depth, shaped, attribute_bytes, entry_bytes, entry_fields, read_entry, entries_bytes, entries_fields, read_entries, AreBelow, IsTree, FitsEntry, behind_version, unit_body, unit_bytes, read_header, header_length}
use Rattle.dwc_unit.specs.GivenUnits.{IsWrittenVersion}
use Rattle.dwc_section.proofs.ReadNumbers.{number_bytes-length}
use Rattle.dwc_unit.proofs.ReadParts.{here, behind, last, tested, part-reads, Spells-number_bytes, Spells-uleb_bytes, Spells-byte, Spells-zero}
use Rattle.dwc_unit.proofs.ReadValues.{attributes-read, All-front, All-back}
use Rattle.dwc_base.proofs.Takes.{Leaves-at}
use Rattle.dwc_dwarf.proofs.TakesValues.{entry_at-leaves}
use Rattle.dwc_dwarf.proofs.EntryWalk.{entries_from-none, entries_from-end, entries_from-siblings, entries_from-entry}

-- ---- the header

-- a length and what has it
pub sized-reads : (order : Endian) (place : ℕ) (bytes : List ℕ) → length bytes < 0xFFFFFFF0 → SpellsAt order place sized_part_at (sized_bytes order bytes) (unread_at order (place + 4) bytes)
unfolding sized_part_at
sized-reads order place bytes small =
    let narrow : eqb (length bytes) 0xFFFFFFFF ≡ false = ne_eqb _ _ (λ e. absurd (omega (arith, e))) in
    let plain = lt-leb 0xFFFFFFF0 (length bytes) small in
    let four : length (number_bytes order 4 (length bytes)) ≡ 4 = number_bytes-length order 4 (length bytes) in
    behind _ (here place (Spells-number_bytes order 4 (length bytes) (omega arith)))
    (tested _ _ _ narrow (tested _ _ _ plain (rw (four) (part-reads order (place + 4) bytes))))

known-size : (size : ℕ) → (size ≡ 4) ⊎ (size ≡ 8) → (eqb size 4 || eqb size 8) ≡ true
known-size size (inl e) = rw (e) refl
known-size size (inr e) = rw (e) refl

-- the header of a unit of a version that ends somewhere, whose entries stand at a place
abbrev header_with : ℕ → Endian → ℕ → ℕ → ℕ → ℕ → ℕ → List WrittenEntry → UnitHeader
header_with version order size table_offset offset end place es =
    record { offset = offset; end = end; version = version; address_size = size; unit_type = DW_UT_compile; abbreviations = table_offset; dwo_id = None; content = unread_at order place (entries_bytes order size es) }

old-fields-read : (order : Endian) (size table_offset offset end place : ℕ) (es : List WrittenEntry) → (size ≡ 4) ⊎ (size ≡ 8) → table_offset < 256 ^ 4
    → header_to_4 offset end 4 (unread_at order place (behind_version 4 order size table_offset es)) ≡ Ok (header_with 4 order size table_offset offset end (place + 5) es)
unfolding header_to_4
old-fields-read order size table_offset offset end place es known table =
    rw ((Spells-number_bytes order 4 table_offset table).reads, number_bytes-length order 4 table_offset, (Spells-byte order size).reads, known-size size known)
    (ap (λ p. Ok (header_with 4 order size table_offset offset end p es)) (omega arith))

new-fields-read : (order : Endian) (size table_offset offset end place : ℕ) (es : List WrittenEntry) → (size ≡ 4) ⊎ (size ≡ 8) → table_offset < 256 ^ 4
    → header_of_5 offset end (unread_at order place (behind_version 5 order size table_offset es)) ≡ Ok (header_with 5 order size table_offset offset end (place + 6) es)
unfolding header_of_5 dwo_id_at
new-fields-read order size table_offset offset end place es known table =
    rw ((Spells-byte order DW_UT_compile).reads, (Spells-byte order size).reads, known-size size known, (Spells-number_bytes order 4 table_offset table).reads, number_bytes-length order 4 table_offset)
    (ap (λ p. Ok (header_with 5 order size table_offset offset end p es)) (omega arith))

old-header-read : (order : Endian) (place size table_offset : ℕ) (es : List WrittenEntry) → (size ≡ 4) ⊎ (size ≡ 8) → table_offset < 256 ^ 4 → length (unit_body 4 order size table_offset es) < 0xFFFFFFF0
    → SpellsAt order place unit_header_at (unit_bytes 4 order size table_offset es) (read_header 4 order size table_offset place es)
unfolding unit_header_at
old-header-read order place size table_offset es known table small = record {
  reads = λ rest. rw (unit_header_at, (sized-reads order place (unit_body 4 order size table_offset es) small).reads, (Spells-number_bytes order 2 4 (lit< tt)).reads, number_bytes-length order 2 4, old-fields-read order size table_offset place (place + length (unit_bytes 4 order size table_offset es)) ((place + 4) + 2) es known table)
      (ap (λ p. Ok (header_with 4 order size table_offset place (place + length (unit_bytes 4 order size table_offset es)) p es, unread_at order (place + length (unit_bytes 4 order size table_offset es)) rest)) (omega arith));
}

new-header-read : (order : Endian) (place size table_offset : ℕ) (es : List WrittenEntry) → (size ≡ 4) ⊎ (size ≡ 8) → table_offset < 256 ^ 4 → length (unit_body 5 order size table_offset es) < 0xFFFFFFF0
    → SpellsAt order place unit_header_at (unit_bytes 5 order size table_offset es) (read_header 5 order size table_offset place es)
unfolding unit_header_at
new-header-read order place size table_offset es known table small = record {
  reads = λ rest. rw (unit_header_at, (sized-reads order place (unit_body 5 order size table_offset es) small).reads, (Spells-number_bytes order 2 5 (lit< tt)).reads, number_bytes-length order 2 5, new-fields-read order size table_offset place (place + length (unit_bytes 5 order size table_offset es)) ((place + 4) + 2) es known table)
      (ap (λ p. Ok (header_with 5 order size table_offset place (place + length (unit_bytes 5 order size table_offset es)) p es, unread_at order (place + length (unit_bytes 5 order size table_offset es)) rest)) (omega arith));
}

pub header-read : (version : ℕ) (order : Endian) (place size table_offset : ℕ) (es : List WrittenEntry) → IsWrittenVersion version → (size ≡ 4) ⊎ (size ≡ 8) → table_offset < 256 ^ 4 → length (unit_body version order size table_offset es) < 0xFFFFFFF0
    → SpellsAt order place unit_header_at (unit_bytes version order size table_offset es) (read_header version order size table_offset place es)
header-read version order place size table_offset es (inl e) known table small = rw (e) (old-header-read order place size table_offset es known table (rw (e) at small))
header-read version order place size table_offset es (inr e) known table small = rw (e) (new-header-read order place size table_offset es known table (rw (e) at small))

-- ---- entries

abbrev first_shaped : WrittenEntry → List WrittenEntry → Shaped
first_shaped e es = record { entry = e; has_children = ltb e.depth (next_depth es); ends = e.depth - next_depth es }

entry_place-some : (depth : ℕ) (u : Unread) → 0 < depth → entry_place depth u ≡ Some (record { depth = depth; unread = u })
entry_place-some zero u some = absurd (omega arith)
entry_place-some (suc depth) u some = refl

next-near : (e : WrittenEntry) (es : List WrittenEntry) → AreBelow e.depth es → next_depth es ≤ suc e.depth
next-near e [] below = omega arith
next-near e (f ∷ es) below = below.1

next-near_root : (es : List WrittenEntry) → AreBelow 0 es → next_depth es ≤ 1
next-near_root [] below = omega arith
next-near_root (f ∷ es) below = below.1

grouped : (a b c d r : List ℕ) → ((a ++ (b ++ c)) ++ d) ++ r ≡ (a ++ b) ++ (c ++ (d ++ r))
grouped a b c d r = simp append_assoc

lengths : (a b c : List ℕ) → length (a ++ (b ++ c)) ≡ length (a ++ b) + length c
lengths a b c = simp (length-append) (omega arith)

module _ (s : Sections) (h : UnitHeader) (version : IsWrittenVersion h.version) (table : List Declaration) where
  -- an entry's code and values
  one-entry : (order : Endian) (place : ℕ) (x : Shaped) → FitsEntry table h.address_size x → All (IsHeld (s.relocations Info)) (entry_fields order h.address_size place x)
      → SpellsAt order place (entry_at s h table x.entry.depth) (uleb_bytes x.entry.code ++ flat_map (attribute_bytes order h.address_size) x.entry.attributes) (Some (record { entry = read_entry place x; has_children = x.has_children }))
  unfolding entry_at declared_entry_at
  one-entry order place x fits held = record { reads = λ rest. at_place.reads rest }
    where
      at_place : SpellsAt order place (λ u. uleb_at u >>= λ code. elim (code.0 == 0) [ true ↦ Ok (None, code.1) | false ↦ elim (declaration_of code.0 table) [ None ↦ Err Malformed | Some d ↦ declared_entry_at s h place x.entry.depth d code.1 ] ])
          (uleb_bytes x.entry.code ++ flat_map (attribute_bytes order h.address_size) x.entry.attributes) (Some (record { entry = read_entry place x; has_children = x.has_children }))
      at_place =
          let some : eqb x.entry.code 0 ≡ false = ne_eqb _ _ (λ e. absurd (omega (arith, fits.some, e))) in
          let numbered = fits.declared in
          behind _ (here place (Spells-uleb_bytes order x.entry.code fits.code))
          (rw (some, numbered) (last _ (attributes-read s h version order x.entry.attributes (place + length (uleb_bytes x.entry.code)) fits.values held) (λ u. refl)))

  -- a zero ends a list of siblings
  sibling-end : (order : Endian) (depth place : ℕ) (rest : List ℕ) → entry_at s h table depth (unread_at order place (0 ∷ rest)) ≡ Ok (None, unread_at order (place + 1) rest)
  unfolding entry_at
  sibling-end order depth place rest = rw (entry_at, (Spells-zero order).reads) refl

  -- the zeros behind an entry end as many lists
  ends-read : (order : Endian) (ends depth place : ℕ) (rest : List ℕ) → entries_from s h table (entry_place (ends + depth) (unread_at order place (replicate ends 0 ++ rest))) ≡ entries_from s h table (entry_place depth (unread_at order (place + ends) rest))
  ends-read order zero depth place rest =
      let none : 0 + depth ≡ depth = omega arith in
      rw (none, add-zero) refl
  ends-read order (suc ends) depth place rest =
      let more : suc ends + depth ≡ suc (ends + depth) = omega arith in
      let on : place + suc ends ≡ (place + 1) + ends = omega arith in
      rw (more, on)
      (entries_from-siblings s h table (record { depth = suc (ends + depth); unread = unread_at order place (0 ∷ (replicate ends 0 ++ rest)) }) (unread_at order (place + 1) (replicate ends 0 ++ rest)) (omega arith) (sibling-end order (suc (ends + depth)) place (replicate ends 0 ++ rest))
      ∙ ends-read order ends depth (place + 1) rest)

  -- where the walk goes on behind an entry and its zeros
  behind-entry : (order : Endian) (depth place : ℕ) (found : Found) (es : List WrittenEntry) (rest : List ℕ) → found.has_children ≡ ltb depth (next_depth es) → next_depth es ≤ suc depth
      → entries_from s h table (place_behind (Some found) depth (unread_at order place (replicate (depth - next_depth es) 0 ++ rest))) ≡ entries_from s h table (entry_place (next_depth es) (unread_at order (place + (depth - next_depth es)) rest))
  behind-entry order depth place found es rest is near = go (cases_lt depth (next_depth es))
    where
      go : (depth < next_depth es) ⊎ (next_depth es ≤ depth) → entries_from s h table (place_behind (Some found) depth (unread_at order place (replicate (depth - next_depth es) 0 ++ rest))) ≡ entries_from s h table (entry_place (next_depth es) (unread_at order (place + (depth - next_depth es)) rest))
      go (inl deeper) =
          let children : found.has_children ≡ true = is ∙ lt-ltb _ _ deeper in
          let none : depth - next_depth es ≡ 0 = omega arith in
          let next : next_depth es ≡ suc depth = omega arith in
          rw (children, none, next, add-zero) refl
      go (inr back) =
          let children : found.has_children ≡ false = is ∙ le-ltb _ _ back in
          let whole : (depth - next_depth es) + next_depth es ≡ depth = omega arith in
          let inner = ends-read order (depth - next_depth es) (next_depth es) place rest in
          rw (children) (rw (whole) at inner)

  -- an entry is read, and the walk goes on at the next one's depth
  step : (order : Endian) (e : WrittenEntry) (es : List WrittenEntry) (place : ℕ) (rest : List ℕ) → FitsEntry table h.address_size (first_shaped e es) → next_depth es ≤ suc e.depth
      → All (IsHeld (s.relocations Info)) (entry_fields order h.address_size place (first_shaped e es))
      → entries_from s h table (Some (record { depth = e.depth; unread = unread_at order place (entries_bytes order h.address_size (e ∷ es) ++ rest) }))
      ≡ with_first (read_entry place (first_shaped e es)) (entries_from s h table (entry_place (next_depth es) (unread_at order (place + length (entry_bytes order h.address_size (first_shaped e es))) (entries_bytes order h.address_size es ++ rest))))
  step order e es place rest fits near held =
      let x = first_shaped e es in
      let code = uleb_bytes e.code in
      let values = flat_map (attribute_bytes order h.address_size) e.attributes in
      let zeros = replicate x.ends 0 in
      let others = entries_bytes order h.address_size es in
      let found : Found = record { entry = read_entry place x; has_children = x.has_children } in
      let read = (one-entry order place x fits held).reads (zeros ++ (others ++ rest)) in
      let some = Leaves-at read (entry_at-leaves s h table e.depth (unread_at order place ((code ++ values) ++ (zeros ++ (others ++ rest))))) in
      rw (grouped code values zeros others rest, lengths code values zeros)
      (entries_from-entry s h table (record { depth = e.depth; unread = unread_at order place ((code ++ values) ++ (zeros ++ (others ++ rest))) }) (unread_at order (place + length (code ++ values)) (zeros ++ (others ++ rest))) found (omega (arith, some)) read
      ∙ ap (with_first (read_entry place x)) (behind-entry order e.depth (place + length (code ++ values)) found es (others ++ rest) refl near
      ∙ ap (λ p. entries_from s h table (entry_place (next_depth es) (unread_at order p (others ++ rest)))) (omega (arith, length-replicate {A = ℕ} (e.depth - next_depth es) 0))))

  -- The entries below a depth are read from where they stand.
  pub entries-read : (order : Endian) (es : List WrittenEntry) (depth place : ℕ) (rest : List ℕ) → All (FitsEntry table h.address_size) (shaped es) → AreBelow depth es
      → All (IsHeld (s.relocations Info)) (entries_fields order h.address_size place es)
      → entries_from s h table (entry_place (next_depth es) (unread_at order place (entries_bytes order h.address_size es ++ rest))) ≡ record { items = read_entries order h.address_size place es; fault = None }
  entries-read order [] depth place rest fits below held = entries_from-none s h table
  entries-read order (e ∷ es) depth place rest fits below held =
      let x = first_shaped e es in
      let some : entry_place e.depth (unread_at order place (entries_bytes order h.address_size (e ∷ es) ++ rest)) ≡ Some (record { depth = e.depth; unread = unread_at order place (entries_bytes order h.address_size (e ∷ es) ++ rest) }) = entry_place-some e.depth _ below.0 in
      ap (entries_from s h table) some
      ∙ step order e es place rest (All-head (FitsEntry table h.address_size) x (shaped es) fits) (next-near e es below.2) (All-front (IsHeld (s.relocations Info)) _ _ held)
      ∙ ap (with_first (read_entry place x)) (entries-read order es e.depth (place + length (entry_bytes order h.address_size x)) rest (All-tail (FitsEntry table h.address_size) x (shaped es) fits) below.2 (All-back (IsHeld (s.relocations Info)) (entry_fields order h.address_size place x) _ held))

  -- The entries of a unit are read, and only they, whatever follows them.
  pub tree-read : (order : Endian) (es : List WrittenEntry) (place : ℕ) (rest : List ℕ) → (es ≡ [] → rest ≡ []) → All (FitsEntry table h.address_size) (shaped es) → IsTree es
      → All (IsHeld (s.relocations Info)) (entries_fields order h.address_size place es)
      → entries_from s h table (Some (record { depth = 0; unread = unread_at order place (entries_bytes order h.address_size es ++ rest) })) ≡ record { items = read_entries order h.address_size place es; fault = None }
  tree-read order [] place rest alone fits tree held = entries_from-end s h table (record { depth = 0; unread = unread_at order place rest }) (ap length (alone refl))
  tree-read order (e ∷ es) place rest alone fits tree held =
      let x = first_shaped e es in
      let root = tree.0 in
      let inner = step order e es place rest (All-head (FitsEntry table h.address_size) x (shaped es) fits) (rw (root) (next-near_root es tree.1)) (All-front (IsHeld (s.relocations Info)) _ _ held)
      ∙ ap (with_first (read_entry place x)) (entries-read order es 0 (place + length (entry_bytes order h.address_size x)) rest (All-tail (FitsEntry table h.address_size) x (shaped es) fits) tree.1 (All-back (IsHeld (s.relocations Info)) (entry_fields order h.address_size place x) _ held)) in
      ap (λ d. entries_from s h table (Some (record { depth = d; unread = unread_at order place (entries_bytes order h.address_size (e ∷ es) ++ rest) }))) (sym root) ∙ inner

-- The entries of a unit that is spelled are those that were given.
pub unit-entries : (s : Sections) (version size table_offset place : ℕ) (es : List WrittenEntry) (table : List Declaration) → IsWrittenVersion version → abbreviation_table s table_offset ≡ Ok table
    → All (FitsEntry table size) (shaped es) → IsTree es → All (IsHeld (s.relocations Info)) (entries_fields s.order size (place + header_length version) es)
    → entries s (read_header version s.order size table_offset place es) ≡ record { items = read_entries s.order size (place + header_length version) es; fault = None }
unfolding entries
unit-entries s version size table_offset place es table written known fits tree held =
    let h = read_header version s.order size table_offset place es in
    let inner = tree-read s h written table s.order es (place + header_length version) [] (λ e. refl) fits tree held in
    rw (entries, known) (rw (append-nil (entries_bytes s.order size es)) at inner)
