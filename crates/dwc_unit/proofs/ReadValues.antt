-- Values that are spelled are read again, form by form: one line of `value-reads` a form. `attributes-read`: those of an entry.
use Rattle.std.proofs.Common.{◌≡◌, ℕ, zero, suc, ◌+◌, ◌^◌, ◌<◌, refl, ap, ◌∙◌, arith, List, [], ◌∷◌, ◌++◌, get_or, length, Ok, true, false, map, inl, inr}
use Rattle.std.specs.List.{All, flat_map}
use Rattle.std.proofs.lemmas.List.Elements.{All-cons, All-head, All-tail}
use Rattle.dwc_base.specs.declared.records.Endian.{Endian}
use Rattle.dwc_base.specs.declared.records.Address.{Address}
use Rattle.dwc_base.specs.declared.records.Address.TheVariants.{Constant, Symbol}
use Rattle.dwc_base.specs.declared.section_name.SectionName.TheVariants.{Info}
use Rattle.dwc_base.specs.Reading.{number, number_at}
use Rattle.dwc_base.specs.Sections.{Sections, Relocation, address_at, field_value}
use Rattle.dwc_base.specs.Units.{UnitHeader}
use Rattle.dwc_dwarf.specs.Values.{variable, address, sized_number_at, block_at, formed_value_at, form_code_at, encoded_value_at, value_at}
use Rattle.dwc_dwarf.specs.Entries.{attributes_at}
use Rattle.dwc_base.specs.Spelling.{Spells, unread_at}
use Rattle.dwc_base.specs.NumberBytes.{number_bytes}
use Rattle.dwc_section.specs.Spelled.{SpellsAt, block_bytes, at_places}
use Rattle.dwc_section.specs.SpelledAddresses.{stored, address_bytes, FitsAddress, IsHeld}
use Rattle.dwc_unit.specs.GivenUnits.{IsWrittenVersion}
use Rattle.dwc_unit.specs.SpelledUnits.{Written, as_addr, as_data1, as_data2, as_data4, as_data8, as_udata, as_sdata, as_flag, as_block, as_exprloc, as_strp, as_ref4, as_ref_addr, as_sec_offset, written_bytes, FitsWritten, written_value, value_fields, WrittenAttribute, spec_of, attribute_bytes}
use Rattle.dwc_base.proofs.Spellings.{Spells-number, Spells-bytes}
use Rattle.dwc_section.proofs.ReadNumbers.{number_bytes-length, number_bytes-number}
use Rattle.dwc_unit.proofs.ReadParts.{here, anywhere, behind, last, nothing, seen, Spells-number_bytes, Spells-uleb_bytes, Spells-sleb_bytes, Spells-byte}

-- ---- parts of lists

pub All-front : {X : Type 0} (P : X → Type 0) (xs ys : List X) → All P (xs ++ ys) → All P xs
All-front P [] ys h = λ k d within. absurd (omega arith)
All-front P (x ∷ xs) ys h = All-cons P x xs (All-head P x (xs ++ ys) h) (All-front P xs ys (All-tail P x (xs ++ ys) h))

pub All-back : {X : Type 0} (P : X → Type 0) (xs ys : List X) → All P (xs ++ ys) → All P ys
All-back P [] ys h = h
All-back P (x ∷ xs) ys h = All-back P xs ys (All-tail P x (xs ++ ys) h)

-- of what each of some things has, that of one
pub all-of-part : {A X : Type 0} (P : X → Type 0) (f : A → List X) (xs : List A) (i : ℕ) (d : A) → i < length xs → All P (flat_map f xs) → All P (f (get_or xs i d))
all-of-part P f [] i d within all = absurd (omega arith)
all-of-part P f (x ∷ xs) zero d within all = All-front P (f x) (flat_map f xs) all
all-of-part P f (x ∷ xs) (suc i) d within all = all-of-part P f xs i d (omega arith) (All-back P (f x) (flat_map f xs) all)

-- ---- addresses

-- a number of fixed size, whatever stands in it
some_number : (order : Endian) (size n : ℕ) → Spells order (number_at size) (number_bytes order size n) (number order (number_bytes order size n))
some_number order size n = at_size size (number_bytes-length order size n)
  where
    at_size : (k : ℕ) → length (number_bytes order size n) ≡ k → Spells order (number_at k) (number_bytes order size n) (number order (number_bytes order size n))
    at_size k long = record { reads = λ place rest. rw (← long) ((Spells-number order (number_bytes order size n)).reads place rest) }

-- the address of a field that is held
pub field_value-held : (rs : List Relocation) (place size m : ℕ) (a : Address) → IsHeld rs (record { offset = place; size = size; address = a }) → ((n : ℕ) → a ≡ Constant n → m ≡ n) → field_value rs place size m ≡ a
field_value-held rs place size m (Constant n) held is = let e = held.held in let same = is n refl in rw (e, same) refl
field_value-held rs place size m (Symbol function addend) held is = let e = held.held in rw (e) refl

fitting : (order : Endian) (size : ℕ) (a : Address) → FitsAddress size a → (n : ℕ) → a ≡ Constant n → number order (number_bytes order size (stored a)) ≡ n
fitting order size (Constant m) fits n e = let same : m ≡ n = cc in number_bytes-number order size m fits ∙ same
fitting order size (Symbol function addend) fits n e = absurd (cc)

pub address-reads : (order : Endian) (rs : List Relocation) (place size : ℕ) (a : Address) → FitsAddress size a → IsHeld rs (record { offset = place; size = size; address = a })
    → SpellsAt order place (address_at rs size) (address_bytes order size a) a
unfolding address_at
address-reads order rs place size a fits held = record {
  reads = λ rest. rw ((some_number order size (stored a)).reads) (ap (λ x. Ok (x, unread_at order (place + length (address_bytes order size a)) rest)) (field_value-held rs place size _ a held (fitting order size a fits)));
}

-- ---- values

pub Spells-block_bytes : (order : Endian) (bytes : List ℕ) → length bytes < 2 ^ 64 → Spells order (block_at variable) (block_bytes bytes) bytes
unfolding block_at sized_number_at
Spells-block_bytes order bytes small = anywhere (λ place. behind _ (here place (Spells-uleb_bytes order (length bytes) small)) (here _ (Spells-bytes order bytes)))

module _ (s : Sections) (h : UnitHeader) (version : IsWrittenVersion h.version) where
  -- a value is read as what its form means
  pub value-reads : (order : Endian) (place : ℕ) (a : WrittenAttribute) → FitsWritten h.address_size a.value → All (IsHeld (s.relocations Info)) (value_fields h.address_size place a.value)
      → SpellsAt order place (value_at s h (spec_of a)) (attribute_bytes order h.address_size a) (written_value a.name a.value)
  unfolding value_at encoded_value_at form_code_at formed_value_at sized_number_at
  value-reads order place a fits held = go a.value fits held
    where
      go : (w : Written) → FitsWritten h.address_size w → All (IsHeld (s.relocations Info)) (value_fields h.address_size place w)
          → SpellsAt order place (value_at s h (spec_of (record { name = a.name; value = w }))) (written_bytes order h.address_size w) (written_value a.name w)
      go (as_addr x) fits held = seen address (address-reads order (s.relocations Info) place h.address_size x fits (All-head (IsHeld (s.relocations Info)) _ [] held))
      go (as_data1 n) fits held = seen _ (here place (Spells-number_bytes order 1 n fits))
      go (as_data2 n) fits held = seen _ (here place (Spells-number_bytes order 2 n fits))
      go (as_data4 n) fits held = by_version version
        where
          by_version : IsWrittenVersion h.version → SpellsAt order place (value_at s h (spec_of (record { name = a.name; value = as_data4 n }))) (written_bytes order h.address_size (as_data4 n)) (written_value a.name (as_data4 n))
          by_version (inl e) = rw (e) (seen _ (here place (Spells-number_bytes order 4 n fits)))
          by_version (inr e) = rw (e) (seen _ (here place (Spells-number_bytes order 4 n fits)))
      go (as_data8 n) fits held = seen _ (here place (Spells-number_bytes order 8 n fits))
      go (as_udata n) fits held = seen _ (here place (Spells-uleb_bytes order n fits))
      go (as_sdata z) fits held = seen _ (here place (Spells-sleb_bytes order z fits))
      go (as_flag true) fits held = seen _ (here place (Spells-byte order 1))
      go (as_flag false) fits held = seen _ (here place (Spells-byte order 0))
      go (as_block bytes) fits held = seen _ (here place (Spells-block_bytes order bytes fits))
      go (as_exprloc bytes) fits held = seen _ (here place (Spells-block_bytes order bytes fits))
      go (as_strp n) fits held = seen _ (here place (Spells-number_bytes order 4 n fits))
      go (as_ref4 n) fits held = seen _ (here place (Spells-number_bytes order 4 n fits))
      go (as_ref_addr n) fits held = by_version version
        where
          by_version : IsWrittenVersion h.version → SpellsAt order place (value_at s h (spec_of (record { name = a.name; value = as_ref_addr n }))) (written_bytes order h.address_size (as_ref_addr n)) (written_value a.name (as_ref_addr n))
          by_version (inl e) = rw (e) (seen _ (here place (Spells-number_bytes order 4 n fits)))
          by_version (inr e) = rw (e) (seen _ (here place (Spells-number_bytes order 4 n fits)))
      go (as_sec_offset section n) fits held = seen _ (here place (Spells-number_bytes order 4 n fits))

  -- and so are the values of an entry, one behind another
  pub attributes-read : (order : Endian) (xs : List WrittenAttribute) (place : ℕ) → All (λ a. FitsWritten h.address_size a.value) xs
      → All (IsHeld (s.relocations Info)) (at_places (attribute_bytes order h.address_size) (λ p a. value_fields h.address_size p a.value) place xs)
      → SpellsAt order place (attributes_at s h (map spec_of xs)) (flat_map (attribute_bytes order h.address_size) xs) (map (λ a. (a.name, written_value a.name a.value)) xs)
  unfolding attributes_at
  attributes-read order [] place fits held = nothing
  attributes-read order (a ∷ xs) place fits held =
      let first = All-front (IsHeld (s.relocations Info)) _ _ held in
      behind _ (value-reads order place a (All-head (λ a. FitsWritten h.address_size a.value) a xs fits) first)
      (last _ (attributes-read order xs _ (All-tail (λ a. FitsWritten h.address_size a.value) a xs fits) (All-back (IsHeld (s.relocations Info)) (value_fields h.address_size place a.value) _ held)) (λ u. refl))
