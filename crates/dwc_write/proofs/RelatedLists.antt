-- The relocations of lists that are spelled: they rise, those of functions are the ones of address fields, and they are those of the fields
-- that a reader comes upon (`list-related`, and `counted-related` in version 5).
use Rattle.std.proofs.Common.{◌≡◌, ℕ, ◌+◌, ◌<◌, refl, sym, ap, subst, ◌∙◌, arith, List, [], ◌∷◌, ◌++◌, append_assoc, length, Option, Some, None, Bool, true, false, add-zero}
use Rattle.std.specs.Prelude.{◌==◌, if◌then◌else◌}
use Rattle.std.specs.List.{All, filter_map, flat_map}
use Rattle.std.proofs.lemmas.Bool.{ne_eqb}
use Rattle.std.proofs.lemmas.List.Elements.{All-head, All-tail, filter_map-append}
use Rattle.dwc_base.specs.declared.constants.TheConstants.{DW_RLE_end_of_list}
use Rattle.dwc_output.specs.NewListFields.{fields_of_kind}
use Rattle.dwc_output.specs.Versions.{is_old}
use Rattle.dwc_base.specs.declared.records.Address.{Address}
use Rattle.dwc_base.specs.declared.records.Address.TheVariants.{Constant, Symbol}
use Rattle.dwc_base.specs.declared.records.Endian.{Endian}
use Rattle.dwc_output.specs.Fields.{Field, field_of_address, fields_of_listed, held_bytes as held_space, relocations_of_fields}
use Rattle.dwc_base.specs.Outputs.{function_relocation}
use Rattle.dwc_dwarf.specs.RawLists.{RawEntry, RawLocation}
use Rattle.dwc_section.specs.Spelled.{at_places}
use Rattle.dwc_section.specs.SpelledAddresses.{address_bytes, relocation_for, relocations_of, RiseWithin}
use Rattle.dwc_section.specs.RisingRelocations.{RelocationsRise}
use Rattle.dwc_unit.specs.Lists.{ListEntry, contribution_bytes, contribution_fields, contribution_relocations, end_of, ended, extent_bytes, headed_bytes, held_length, list_bytes, list_fields, list_relocations, listed_bytes, listed_fields, listed_relocations, lists_begin, pair_bytes, pair_fields, pair_relocations}
use Rattle.dwc_section.specs.Writers.{address_relocations}
use Rattle.dwc_write.proofs.ListPlaces.{address-length, extent-length, headed-length, listed-length, pair-length}
use Rattle.dwc_write.proofs.ReadAddresses as fields
use Rattle.dwc_write.proofs.ReadListed.{raw_location}
use Rattle.dwc_write.proofs.ReadCounted.{raw_counted}
use Rattle.dwc_write.proofs.ReadRelocations as relocations
use Rattle.dwc_write.proofs.ReadRelocations.{address-rise, address-functions, places-functions}

module _ (version : ℕ) (order : Endian) (size : ℕ) where
  -- ---- they rise

  pair-rise : (place : ℕ) (e : ListEntry) → RelocationsRise place (place + length (pair_bytes version order size e)) (pair_relocations order size place e)
  pair-rise place e =
      let middle : place + length (address_bytes order size e.begin) ≡ place + size = ap (λ n. place + n) (address-length version order size e.begin) in
      let end : place + length (pair_bytes version order size e) ≡ ((place + size) + size) + held_length version e.holds = omega (arith, pair-length version order size e) in
      rw (end, middle)
      (relocations.rise-append place (place + size) (((place + size) + size) + held_length version e.holds) (address_relocations place size e.begin) (address_relocations (place + size) size (end_of e)) (address-rise place size e.begin)
      (relocations.rise-above (place + size) ((place + size) + size) (((place + size) + size) + held_length version e.holds) (address_relocations (place + size) size (end_of e)) (omega arith) (address-rise (place + size) size (end_of e))))

  -- one address behind the kind
  extent-rise : (place : ℕ) (e : ListEntry) → RelocationsRise place (place + length (extent_bytes version order size e)) (address_relocations (place + 1) size e.begin)
  extent-rise place e =
      let rs = address_relocations (place + 1) size e.begin in
      relocations.rise-below place (place + 1) (place + length (extent_bytes version order size e)) rs (omega arith)
      (relocations.rise-above (place + 1) ((place + 1) + size) (place + length (extent_bytes version order size e)) rs (omega (arith, extent-length version order size e)) (address-rise (place + 1) size e.begin))

  listed-rise : (place : ℕ) (e : ListEntry) → RelocationsRise place (place + length (listed_bytes version order size e)) (listed_relocations version order size place e)
  listed-rise place e = go (is_old version) (e.extent == 0)
    where
      go : (old ends : Bool) → RelocationsRise place (place + length (if old then pair_bytes version order size e else (if ends then DW_RLE_end_of_list ∷ [] else extent_bytes version order size e)))
          (if old then pair_relocations order size place e else (if ends then [] else address_relocations (place + 1) size e.begin))
      go true ends = pair-rise place e
      go false true = omega arith
      go false false = extent-rise place e

  pub list-rise : (place : ℕ) (es : List ListEntry) → RelocationsRise place (place + length (list_bytes version order size es)) (list_relocations version order size place es)
  list-rise place es = relocations.rise-places (listed_bytes version order size) (listed_relocations version order size) es place listed-rise

  pub contribution-rise : (place : ℕ) (es : List ListEntry) → RelocationsRise place (place + length (contribution_bytes version order size es)) (contribution_relocations version order size place es)
  contribution-rise place es = go (is_old version) es
    where
      go : (old : Bool) (fs : List ListEntry) → RelocationsRise place (place + length (if old then list_bytes version order size fs else headed_bytes version order size fs)) (list_relocations version order size (place + (if old then 0 else 12)) fs)
      go true fs = rw (add-zero) (list-rise place fs)
      go false [] = omega arith
      go false (f ∷ fs) =
          let rs = list_relocations version order size (place + 12) (f ∷ fs) in
          let high : (place + 12) + length (list_bytes version order size (f ∷ fs)) ≡ place + length (headed_bytes version order size (f ∷ fs)) = omega (arith, headed-length version order size f fs) in
          relocations.rise-below place (place + 12) _ rs (omega arith) (subst (λ n. RelocationsRise (place + 12) n rs) high (list-rise (place + 12) (f ∷ fs)))

  -- ---- their fields rise, too

  listed-fields-rise : 0 < size → (place : ℕ) (e : ListEntry) → RiseWithin place (place + length (listed_bytes version order size e)) (listed_fields version order size place e)
  listed-fields-rise some place e = go (is_old version) (e.extent == 0)
    where
      go : (old ends : Bool) → RiseWithin place (place + length (if old then pair_bytes version order size e else (if ends then DW_RLE_end_of_list ∷ [] else extent_bytes version order size e)))
          (if old then pair_fields order size place e else (if ends then [] else record { offset = place + 1; size = size; address = e.begin } ∷ []))
      go true ends = (omega arith, (omega (arith, address-length version order size e.begin, some), omega (arith, pair-length version order size e, address-length version order size e.begin, some)))
      go false true = omega arith
      go false false = (omega arith, omega (arith, extent-length version order size e, some))

  pub fields-rise : 0 < size → (place : ℕ) (es : List ListEntry) → RiseWithin place (place + length (list_bytes version order size es)) (list_fields version order size place es)
  fields-rise some place es = fields.rise-places (listed_bytes version order size) (listed_fields version order size) es place (listed-fields-rise some)

  pub contribution-fields-rise : 0 < size → (place : ℕ) (es : List ListEntry) → RiseWithin place (place + length (contribution_bytes version order size es)) (contribution_fields version order size place es)
  contribution-fields-rise some place es = go (is_old version) es
    where
      go : (old : Bool) (fs : List ListEntry) → RiseWithin place (place + length (if old then list_bytes version order size fs else headed_bytes version order size fs)) (list_fields version order size (place + (if old then 0 else 12)) fs)
      go true fs = rw (add-zero) (fields-rise some place fs)
      go false [] = omega arith
      go false (f ∷ fs) =
          let xs = list_fields version order size (place + 12) (f ∷ fs) in
          let high : (place + 12) + length (list_bytes version order size (f ∷ fs)) ≡ place + length (headed_bytes version order size (f ∷ fs)) = omega (arith, headed-length version order size f fs) in
          fields.rise-below place (place + 12) _ xs (omega arith) (subst (λ n. RiseWithin (place + 12) n xs) high (fields-rise some (place + 12) (f ∷ fs)))

  -- ---- those of functions

  pair-functions : (place : ℕ) (e : ListEntry) → filter_map function_relocation (pair_relocations order size place e) ≡ relocations_of (pair_fields order size place e)
  pair-functions place e =
      let middle = place + length (address_bytes order size e.begin) in
      let end = end_of e in
      filter_map-append function_relocation (address_relocations place size e.begin) (address_relocations middle size end)
      ∙ ap (λ rs. rs ++ filter_map function_relocation (address_relocations middle size end)) (address-functions place size e.begin)
      ∙ ap (λ rs. relocations_of (record { offset = place; size = size; address = e.begin } ∷ []) ++ rs) (address-functions middle size end)
      ∙ sym (filter_map-append relocation_for (record { offset = place; size = size; address = e.begin } ∷ []) (record { offset = middle; size = size; address = end } ∷ []))

  listed-functions : (place : ℕ) (e : ListEntry) → filter_map function_relocation (listed_relocations version order size place e) ≡ relocations_of (listed_fields version order size place e)
  listed-functions place e = go (is_old version) (e.extent == 0)
    where
      go : (old ends : Bool) → filter_map function_relocation (if old then pair_relocations order size place e else (if ends then [] else address_relocations (place + 1) size e.begin))
          ≡ relocations_of (if old then pair_fields order size place e else (if ends then [] else record { offset = place + 1; size = size; address = e.begin } ∷ []))
      go true ends = pair-functions place e
      go false true = refl
      go false false = address-functions (place + 1) size e.begin

  pub list-functions : (place : ℕ) (es : List ListEntry) → filter_map function_relocation (list_relocations version order size place es) ≡ relocations_of (list_fields version order size place es)
  list-functions place es = places-functions (listed_bytes version order size) (listed_relocations version order size) (listed_fields version order size) listed-functions es place

  pub contribution-functions : (place : ℕ) (es : List ListEntry) → filter_map function_relocation (contribution_relocations version order size place es) ≡ relocations_of (contribution_fields version order size place es)
  contribution-functions place es = list-functions (place + lists_begin version) es

module _ (order : Endian) (size : ℕ) where
  -- ---- those of the fields that are read up to version 4

  field-related : (place : ℕ) (a : Address) (fs : List Field) → relocations_of_fields (field_of_address size place a ∷ fs) ≡ address_relocations place size a ++ relocations_of_fields fs
  field-related place (Constant n) fs = refl
  field-related place (Symbol f addend) fs = refl

  -- the entries of a list as they are read, from a place on
  abbrev pub read_from : ℕ → List ListEntry → List RawLocation
  read_from place es = at_places (listed_bytes 4 order size) (λ p e. raw_location order size p e ∷ []) place es

  held-found : (place : ℕ) (e : ListEntry) → held_space (raw_location order size place e).holds ≡ held_length 4 e.holds
  held-found place e = go e.holds
    where
      go : (o : Option (List ℕ)) → held_space (raw_location order size place (record { begin = e.begin; extent = e.extent; holds = o })).holds ≡ held_length 4 o
      go None = refl
      go (Some bytes) = refl

  pub list-related : (place : ℕ) (es : List ListEntry) → relocations_of_fields (fields_of_listed size place (read_from place es)) ≡ list_relocations 4 order size place (ended es)
  list-related place [] = refl
  list-related place (e ∷ es) =
      let end = end_of e in
      let behind = place + length (listed_bytes 4 order size e) in
      let reached = place + ((size + size) + held_space (raw_location order size place e).holds) in
      let others : ℕ → List Field = λ p. fields_of_listed size p (read_from behind es) in
      let middle : place + size ≡ place + length (address_bytes order size e.begin) = omega (arith, address-length 4 order size e.begin) in
      let next : reached ≡ behind = omega (arith, listed-length 4 order size e, held-found place e) in
      field-related place e.begin (field_of_address size (place + size) end ∷ others reached)
      ∙ ap (λ qs. address_relocations place size e.begin ++ qs) (field-related (place + size) end (others reached))
      ∙ sym (append_assoc (address_relocations place size e.begin) (address_relocations (place + size) size end) (relocations_of_fields (others reached)))
      ∙ ap (λ p. (address_relocations place size e.begin ++ address_relocations (place + size) size end) ++ relocations_of_fields (others p)) next
      ∙ ap (λ qs. (address_relocations place size e.begin ++ address_relocations (place + size) size end) ++ qs) (list-related behind es)
      ∙ ap (λ p. (address_relocations place size e.begin ++ address_relocations p size end) ++ list_relocations 4 order size behind (ended es)) middle

  -- ---- and in version 5, by the places of the entries

  module _ {A : Type 0} (view : ℕ → ListEntry → A) (says : A → RawEntry) (same : (place : ℕ) (e : ListEntry) → says (view place e) ≡ raw_counted e) where
    -- the entries of a list with their places, as they are read
    abbrev pub placed_from : ℕ → List ListEntry → List (ℕ × A)
    placed_from place es = at_places (listed_bytes 5 order size) (λ p e. (p, view p e) ∷ []) place es

    pub counted-related : (place : ℕ) (es : List ListEntry) → All (λ e. 0 < e.extent) es → relocations_of_fields (flat_map (λ p. fields_of_kind size p.0 (says p.1)) (placed_from place es)) ≡ list_relocations 5 order size place (ended es)
    counted-related place [] some = refl
    counted-related place (e ∷ es) some =
        let behind = place + length (listed_bytes 5 order size e) in
        let others = flat_map (λ (p : ℕ × A). fields_of_kind size p.0 (says p.1)) (placed_from behind es) in
        let here : 0 < e.extent = All-head (λ (x : ListEntry). 0 < x.extent) e es some in
        let there : (e.extent == 0) ≡ false = ne_eqb e.extent 0 (λ is. absurd (omega (arith, is, here))) in
        let own : listed_relocations 5 order size place e ≡ address_relocations (place + 1) size e.begin = ap (λ b. if b then [] else address_relocations (place + 1) size e.begin) there in
        ap (λ x. relocations_of_fields (fields_of_kind size place x ++ others)) (same place e)
        ∙ field-related (place + 1) e.begin others
        ∙ ap (λ qs. address_relocations (place + 1) size e.begin ++ qs) (counted-related behind es (All-tail (λ (x : ListEntry). 0 < x.extent) e es some))
        ∙ ap (λ qs. qs ++ list_relocations 5 order size behind (ended es)) (sym own)
