-- What is left unread behind values and entries ends where what was read from ends.
use Rattle.std.proofs.Common.{◌≡◌, ℕ, zero, suc, ◌+◌, ◌%◌, ◌≤◌, List, [], ◌∷◌, length, take, refl, ap, arith, Bool, true, false, cond, Option, Some, None, Ok, Err}
use Rattle.std.specs.Prelude.{ℤ, if◌then◌else◌, ◌==◌, nat_lt}
use Rattle.std.specs.List.{position}
use Rattle.std.specs.Option.{unwrap_or}
use Rattle.std.proofs.lemmas.List.Quantifiers.{position-Some}
use Rattle.dwc_base.specs.declared.faults.Flaw.TheVariants.{EndsEarly, TooWide, Malformed}
use Rattle.dwc_base.specs.declared.records.Encoding.{Encoding}
use Rattle.dwc_base.specs.declared.section_name.SectionName.TheVariants.{Info}
use Rattle.dwc_base.specs.Reading.{Unread, Read, ◌>>=◌, forbid, passed, sleb_value, sleb_with, sleb_fitting, sleb_at, text_at, is_64_bit, uleb_at}
use Rattle.dwc_base.specs.Sections.{Sections, Relocation}
use Rattle.dwc_base.specs.Abbreviations.{AttributeSpec, Declaration, declaration_of}
use Rattle.dwc_base.specs.Units.{UnitHeader}
use Rattle.dwc_dwarf.specs.Values.{Value, Size, fixed, variable, Form, addr, indexed_addr, blocks, exprloc, data_of, sdata, implicit, flag_byte, flag_present, string, string_elsewhere, reference, ref_addr, sec_offset, indexed_location, indexed_range, passed_over, supplementary, form_of, sized_number_at, block_at, formed_value_at, form_behind, form_code_at, encoded_value_at, encoding_of, value_at}
use Rattle.dwc_dwarf.specs.Entries.{Found, attributes_at, declared_entry_at, entry_at}
use Rattle.dwc_base.specs.declared.constants.TheConstants.{DW_FORM_implicit_const, DW_FORM_indirect}
use Rattle.dwc_base.proofs.ReadEnds.{IsWithin, LeavesWithin, Within, within-bind, within-seen, passed-within, bytes_at-within, number_at-within, uleb_at-within, address_at-within}

-- a signed LEB128 number takes no more bytes than there are
sleb_value-count : (bytes : List ℕ) (n : ℤ) (count : ℕ) → sleb_value bytes ≡ Some (n, count) → count ≤ length bytes
sleb_value-count [] n count h = absurd (cc)
sleb_value-count (b ∷ bs) n count h = go (nat_lt b 128) _ (sleb_value bs) (λ m k e. sleb_value-count bs m k e) h
  where
    count_of : {m : ℤ} {k : ℕ} → ◌≡◌ {A = Option (ℤ × ℕ)} (Some (m, k)) (Some (n, count)) → k ≡ count
    count_of {m} {k} e = ap (λ (o : Option (ℤ × ℕ)). (unwrap_or o (n, 0)).1) e

    go : (last : Bool) (own : ℤ) (r : Option (ℤ × ℕ)) → ((m : ℤ) (k : ℕ) → r ≡ Some (m, k) → k ≤ length bs) → cond {A = Option (ℤ × ℕ)} last (Some (own, 1)) (sleb_with (b % 128) r) ≡ Some (n, count) → count ≤ length (b ∷ bs)
    go true own r few e = let same : 1 ≡ count = count_of e in omega (arith, same)
    go false own None few e = absurd (cc)
    go false own (Some high) few e = let same : suc high.1 ≡ count = count_of e in omega (arith, same, few high.0 high.1 refl)

sleb_at-within : (from end : ℕ) (u : Unread) → IsWithin from end u → Within from end (sleb_at u)
unfolding sleb_at
sleb_at-within from end u h = record { within = go (sleb_value u.left) refl }
  where
    fitting : (b : Bool) (n : ℤ) (count : ℕ) → count ≤ length u.left → LeavesWithin {A = ℤ} from end (if b then Ok (n, passed count u) else Err TooWide)
    fitting true n count le = passed-within from end count u h le
    fitting false n count le = tt

    go : (o : Option (ℤ × ℕ)) → sleb_value u.left ≡ o → LeavesWithin from end (sleb_fitting u o)
    go None e = tt
    go (Some n) e = fitting (is_64_bit n.0) n.0 n.1 (sleb_value-count u.left n.0 n.1 e)

text_at-within : (from end : ℕ) (u : Unread) → IsWithin from end u → Within from end (text_at u)
unfolding text_at
text_at-within from end u h = record { within = go (position (λ b. b == 0) u.left) refl }
  where
    go : (o : Option ℕ) → position (λ b. b == 0) u.left ≡ o → LeavesWithin from end (elim o [ None ↦ Err EndsEarly | Some n ↦ Ok (take n u.left, passed (n + 1) u) ])
    go None e = tt
    go (Some n) e = passed-within from end (n + 1) u h (omega (arith, (position-Some (λ b. b == 0) u.left n 0 e).0))

module _ (from end : ℕ) where
  within-same : {A : Type 0} (x : A) (u : Unread) → IsWithin from end u → Within from end (Ok (x, u))
  within-same x u h = record { within = h }

  sized_number_at-within : (size : Size) (u : Unread) → IsWithin from end u → Within from end (sized_number_at size u)
  unfolding sized_number_at
  sized_number_at-within (fixed size) u h = number_at-within from end size u h
  sized_number_at-within variable u h = uleb_at-within from end u h

  block_at-within : (size : Size) (u : Unread) → IsWithin from end u → Within from end (block_at size u)
  unfolding block_at
  block_at-within size u h = within-bind from end (sized_number_at size u) _ (sized_number_at-within size u h) (λ count i. bytes_at-within from end count.0 count.1 i)

  formed_value_at-within : (relocations : List Relocation) (e : Encoding) (spec : AttributeSpec) (code : ℕ) (form : Form) (u : Unread) → IsWithin from end u → Within from end (formed_value_at relocations e spec code form u)
  unfolding formed_value_at
  formed_value_at-within relocations e spec code addr u h = within-seen from end _ _ (address_at-within relocations from end _ u h)
  formed_value_at-within relocations e spec code (indexed_addr size) u h = within-seen from end _ _ (sized_number_at-within size u h)
  formed_value_at-within relocations e spec code (blocks size) u h = within-seen from end _ _ (block_at-within size u h)
  formed_value_at-within relocations e spec code exprloc u h = within-seen from end _ _ (block_at-within variable u h)
  formed_value_at-within relocations e spec code (data_of size) u h = within-seen from end _ _ (sized_number_at-within size u h)
  formed_value_at-within relocations e spec code sdata u h = within-seen from end _ _ (sleb_at-within from end u h)
  formed_value_at-within relocations e spec code implicit u h = within-same _ u h
  formed_value_at-within relocations e spec code flag_byte u h = within-seen from end _ _ (number_at-within from end 1 u h)
  formed_value_at-within relocations e spec code flag_present u h = within-same _ u h
  formed_value_at-within relocations e spec code string u h = within-seen from end _ _ (text_at-within from end u h)
  formed_value_at-within relocations e spec code (string_elsewhere size) u h = within-seen from end _ _ (sized_number_at-within size u h)
  formed_value_at-within relocations e spec code (reference size) u h = within-seen from end _ _ (sized_number_at-within size u h)
  formed_value_at-within relocations e spec code ref_addr u h = within-seen from end _ _ (number_at-within from end _ u h)
  formed_value_at-within relocations e spec code sec_offset u h = within-seen from end _ _ (number_at-within from end 4 u h)
  formed_value_at-within relocations e spec code indexed_location u h = within-seen from end _ _ (uleb_at-within from end u h)
  formed_value_at-within relocations e spec code indexed_range u h = within-seen from end _ _ (uleb_at-within from end u h)
  formed_value_at-within relocations e spec code (passed_over size) u h = within-seen from end _ _ (bytes_at-within from end size u h)
  formed_value_at-within relocations e spec code supplementary u h = record { within = tt }

  form_behind-within : (most : ℕ) (u : Unread) → IsWithin from end u → Within from end (form_behind most u)
  unfolding form_behind
  form_behind-within zero u h = record { within = tt }
  form_behind-within (suc most) u h = within-bind from end (uleb_at u) _ (uleb_at-within from end u h) (λ code i. go (code.0 == DW_FORM_indirect) code i (form_behind-within most code.1 i))
    where
      given : (b : Bool) (code : ℕ × Unread) → IsWithin from end code.1 → Within {A = ℕ} from end (forbid b Malformed >>= λ given. Ok code)
      given true code i = record { within = tt }
      given false code i = record { within = i }

      go : (b : Bool) (code : ℕ × Unread) → IsWithin from end code.1 → Within from end (form_behind most code.1)
          → Within {A = ℕ} from end (elim b [ true ↦ form_behind most code.1 | false ↦ (forbid (code.0 == DW_FORM_implicit_const) Malformed >>= λ given. Ok code) ])
      go true code i again = again
      go false code i again = given (code.0 == DW_FORM_implicit_const) code i

  form_code_at-within : (spec : AttributeSpec) (u : Unread) → IsWithin from end u → Within from end (form_code_at spec u)
  unfolding form_code_at
  form_code_at-within spec u h = go (spec.form == DW_FORM_indirect)
    where
      go : (b : Bool) → Within {A = ℕ} from end (elim b [ true ↦ form_behind (length u.left) u | false ↦ Ok (spec.form, u) ])
      go true = form_behind-within (length u.left) u h
      go false = within-same spec.form u h

  value_at-within : (s : Sections) (h : UnitHeader) (spec : AttributeSpec) (u : Unread) → IsWithin from end u → Within from end (value_at s h spec u)
  unfolding value_at encoded_value_at
  value_at-within s h spec u i = within-bind from end (form_code_at spec u) _ (form_code_at-within spec u i) (λ code j. go (form_of code.0) code j)
    where
      go : (o : Option Form) (code : ℕ × Unread) → IsWithin from end code.1 → Within {A = Value} from end (elim o [ None ↦ Err Malformed | Some form ↦ formed_value_at (s.relocations Info) (encoding_of h) spec code.0 form code.1 ])
      go None code j = record { within = tt }
      go (Some form) code j = formed_value_at-within (s.relocations Info) (encoding_of h) spec code.0 form code.1 j

  attributes_at-within : (s : Sections) (h : UnitHeader) (specs : List AttributeSpec) (u : Unread) → IsWithin from end u → Within from end (attributes_at s h specs u)
  unfolding attributes_at
  attributes_at-within s h [] u i = within-same [] u i
  attributes_at-within s h (spec ∷ specs) u i =
      within-bind from end (value_at s h spec u) _ (value_at-within s h spec u i) (λ first j.
      within-bind from end (attributes_at s h specs first.1) _ (attributes_at-within s h specs first.1 j) (λ others k. within-same _ others.1 k))

-- what is read of an entry stands where it was read
abbrev pub FoundAt : ℕ → ℕ → ℕ → Read (Option Found) → Type 0
FoundAt offset from end (Err flaw) = Unit {0}
FoundAt offset from end (Ok (None, v)) = IsWithin from end v
FoundAt offset from end (Ok (Some f, v)) = (f.entry.offset ≡ offset) × IsWithin from end v

pub record IsFoundAt (offset from end : ℕ) (r : Read (Option Found)) : Type 0 where
  pub found : FoundAt offset from end r

pub entry_at-within : (s : Sections) (h : UnitHeader) (table : List Declaration) (depth from end : ℕ) (u : Unread) → IsWithin from end u → IsFoundAt u.place from end (entry_at s h table depth u)
unfolding entry_at declared_entry_at
entry_at-within s h table depth from end u i = go (uleb_at u) (uleb_at-within from end u i)
  where
    attributes : (d : Declaration) (r : Read (List (ℕ × Value))) → Within from end r
        → IsFoundAt u.place from end (r >>= λ attributes. Ok (Some (record { entry = record { offset = u.place; depth = depth; tag = d.tag; attributes = attributes.0 }; has_children = d.has_children }), attributes.1))
    attributes d (Err flaw) k = record { found = tt }
    attributes d (Ok x) k = record { found = (refl, k.within) }

    declared : (v : Unread) (o : Option Declaration) → IsWithin from end v → IsFoundAt u.place from end (elim o [ None ↦ Err Malformed | Some d ↦ declared_entry_at s h u.place depth d v ])
    declared v None j = record { found = tt }
    declared v (Some d) j = attributes d (attributes_at s h d.attributes v) (attributes_at-within from end s h d.attributes v j)

    marked : (b : Bool) (code : ℕ) (v : Unread) → IsWithin from end v
        → IsFoundAt u.place from end (elim b [ true ↦ Ok (None, v) | false ↦ elim (declaration_of code table) [ None ↦ Err Malformed | Some d ↦ declared_entry_at s h u.place depth d v ] ])
    marked true code v j = record { found = j }
    marked false code v j = declared v (declaration_of code table) j

    go : (r : Read ℕ) → Within from end r → IsFoundAt u.place from end (r >>= λ code. elim (code.0 == 0) [
      | true ↦ Ok (None, code.1)
      | false ↦ elim (declaration_of code.0 table) [ None ↦ Err Malformed | Some d ↦ declared_entry_at s h u.place depth d code.1 ]
    ])
    go (Err flaw) k = record { found = tt }
    go (Ok code) k = marked (code.0 == 0) code.0 code.1 k.within
