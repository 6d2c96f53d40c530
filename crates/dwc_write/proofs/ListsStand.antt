-- The lists of units that are spelled within the size of sections stand in their sections, those of each unit behind a header from version 5
-- on: `units-stand`, and of each unit `along-front`.
use Rattle.std.proofs.Common.{◌≡◌, ℕ, ◌+◌, ◌^◌, ◌<◌, ◌≤◌, refl, sym, ap, subst, ◌∙◌, arith, lit<, List, [], ◌∷◌, ◌++◌, append_assoc, append-nil, length, length-append, drop, Bool, true, false}
use Rattle.std.specs.Prelude.{if◌then◌else◌}
use Rattle.std.specs.List.{All, filter_map, flat_map}
use Rattle.std.proofs.lemmas.List.Elements.{All-cons, All-head, All-nil, All-tail}
use Rattle.std.proofs.Math.Seq.{drop-append_seam}
use Rattle.dwc_base.specs.declared.records.Endian.{Endian}
use Rattle.dwc_base.specs.declared.section_name.SectionName.{SectionName}
use Rattle.dwc_base.specs.Sections.{Sections, Relocation}
use Rattle.dwc_base.specs.NumberBytes.{number_bytes}
use Rattle.dwc_base.specs.Outputs.{OutputRelocation, function_relocation}
use Rattle.dwc_output.specs.Versions.{is_old}
use Rattle.dwc_unit.specs.GivenUnits.{OrderedUnit, FitsOrdered, lists_of_entries}
use Rattle.dwc_unit.specs.Lists.{ListEntry, FitsListed, contribution_bytes, contribution_fields, contribution_relocations, headed_bytes, list_bytes, lists_begin, lists_header, ranges_in}
use Rattle.dwc_section.specs.RisingRelocations.{RelocationsRise}
use Rattle.dwc_section.specs.Spelled.{at_places}
use Rattle.dwc_section.specs.SpelledAddresses.{AddressField, IsHeld, relocations_of}
use Rattle.dwc_unit.proofs.ReadValues.{All-back, All-front}
use Rattle.dwc_write.specs.Layouts.{first_place}
use Rattle.dwc_write.proofs.ListPlaces.{headed-length}
use Rattle.dwc_write.proofs.ListsFit.{HasShort, ranges-fit}
use Rattle.dwc_write.proofs.ListsGiven.{StandThere, drop-twice}
use Rattle.dwc_write.proofs.ReadAddresses.{rising-held}
use Rattle.dwc_write.proofs.ReadAddresses as fields
use Rattle.dwc_write.proofs.ReadRelocations as relocations
use Rattle.dwc_write.proofs.ReadRelocations.{places-functions}
use Rattle.dwc_write.proofs.RelatedLists.{contribution-fields-rise, contribution-functions, contribution-rise}

-- ---- the lists of a unit behind their header

module _ (version : ℕ) (order : Endian) (size : ℕ) where
  -- a header and its length
  abbrev front : List ListEntry → List ℕ
  front es = number_bytes order 4 (length (lists_header version order size ++ list_bytes version order size es)) ++ lists_header version order size

  front-long : (e : ListEntry) (es : List ListEntry) → length (front (e ∷ es)) ≡ 12
  front-long e es =
      let body = lists_header version order size ++ list_bytes version order size (e ∷ es) in
      let whole = headed-length version order size e es in
      let a = length-append (number_bytes order 4 (length body)) body in
      let b = length-append (lists_header version order size) (list_bytes version order size (e ∷ es)) in
      let c = length-append (number_bytes order 4 (length body)) (lists_header version order size) in
      omega (arith, whole, a, b, c)

  -- they stand where their unit's begin
  lists-there : (bytes : List ℕ) (place : ℕ) (es : List ListEntry) (more : List ℕ) (old : Bool) → drop place bytes ≡ (if old then list_bytes version order size es else headed_bytes version order size es) ++ more
      → ((rest : List ℕ) × (drop (place + (if old then 0 else 12)) bytes ≡ list_bytes version order size es ++ rest))
  lists-there bytes place es more true there = let same : place + 0 ≡ place = omega arith in (more, ap (λ n. drop n bytes) same ∙ there)
  lists-there bytes place [] more false there = (drop (place + 12) bytes, refl)
  lists-there bytes place (e ∷ es) more false there =
      let head = front (e ∷ es) in
      let lists = list_bytes version order size (e ∷ es) in
      let sized = number_bytes order 4 (length (lists_header version order size ++ lists)) in
      let parts : (sized ++ (lists_header version order size ++ lists)) ++ more ≡ head ++ (lists ++ more) = ap (λ bs. bs ++ more) (sym (append_assoc sized (lists_header version order size) lists)) ∙ append_assoc head lists more in (
        more,
        drop-twice place 12 bytes ∙ ap (drop 12) (there ∙ parts) ∙ ap (λ n. drop n (head ++ (lists ++ more))) (sym (front-long e es)) ∙ drop-append_seam head (lists ++ more),
      )

  lists-within : (es : List ListEntry) → length (list_bytes version order size es) ≤ length (contribution_bytes version order size es)
  lists-within es = go es (is_old version)
    where
      go : (fs : List ListEntry) (old : Bool) → length (list_bytes version order size fs) ≤ length (if old then list_bytes version order size fs else headed_bytes version order size fs)
      go fs true = omega arith
      go [] false = omega arith
      go (f ∷ fs) false = omega (arith, headed-length version order size f fs)

-- ---- those of units, one behind another

module _ {U : Type 0} (of : U → ℕ) (lists : U → List ListEntry) (s : Sections) (size : ℕ) (name : SectionName) where
  abbrev pub unit_bytes : U → List ℕ
  unit_bytes u = contribution_bytes (of u) s.order size (lists u)

  abbrev pub unit_fields : ℕ → U → List AddressField
  unit_fields place u = contribution_fields (of u) s.order size place (lists u)

  abbrev pub unit_relocations : ℕ → U → List OutputRelocation
  unit_relocations place u = contribution_relocations (of u) s.order size place (lists u)

  -- Those of some units stand from a place on, each in its version.
  pub record StandAlong (place : ℕ) (us : List U) : Type 0 where
    pub rest : List ℕ
    pub bytes : drop place (s.bytes name) ≡ flat_map unit_bytes us ++ rest
    pub held : All (IsHeld (s.relocations name)) (at_places unit_bytes unit_fields place us)
    pub short : All (λ u. All (HasShort (of u)) (lists u)) us
    pub small : length (flat_map unit_bytes us) < 2 ^ 64

  module _ (place : ℕ) (u : U) (us : List U) (along : StandAlong place (u ∷ us)) where
    apart : drop place (s.bytes name) ≡ unit_bytes u ++ (flat_map unit_bytes us ++ along.rest)
    apart = along.bytes ∙ append_assoc (unit_bytes u) (flat_map unit_bytes us) along.rest

    -- the first
    pub along-front : StandThere (of u) s size name (place + lists_begin (of u)) (lists u)
    along-front =
        let there = lists-there (of u) s.order size (s.bytes name) place (lists u) (flat_map unit_bytes us ++ along.rest) (is_old (of u)) apart in
        record {
          rest = there.0;
          bytes = there.1;
          held = All-front (IsHeld (s.relocations name)) (unit_fields place u) _ along.held;
          short = All-head (λ (v : U). All (HasShort (of v)) (lists v)) u us along.short;
          small = omega (arith, along.small, lists-within (of u) s.order size (lists u), length-append (unit_bytes u) (flat_map unit_bytes us));
        }

    -- the same from where its first list stands, if it has one
    pub along-first : StandThere (of u) s size name (first_place (of u) (lists u) place) (lists u)
    along-first = go (lists u) along-front
      where
        go : (es : List ListEntry) → StandThere (of u) s size name (place + lists_begin (of u)) es → StandThere (of u) s size name (first_place (of u) es place) es
        go [] there = record { rest = drop place (s.bytes name); bytes = refl; held = All-nil (IsHeld (s.relocations name)); short = All-nil (HasShort (of u)); small = lit< tt }
        go (e ∷ es) there = there

    -- and those behind it
    pub along-back : StandAlong (place + length (unit_bytes u)) us
    along-back = record {
      rest = along.rest;
      bytes = drop-twice place (length (unit_bytes u)) (s.bytes name) ∙ ap (drop (length (unit_bytes u))) apart ∙ drop-append_seam (unit_bytes u) (flat_map unit_bytes us ++ along.rest);
      held = All-back (IsHeld (s.relocations name)) (unit_fields place u) _ along.held;
      short = All-tail (λ (v : U). All (HasShort (of v)) (lists v)) u us along.short;
      small = omega (arith, along.small, length-append (unit_bytes u) (flat_map unit_bytes us));
    }

  -- what is a section, with its relocations
  pub units-stand : (us : List U) → 0 < size → s.bytes name ≡ flat_map unit_bytes us → s.relocations name ≡ filter_map function_relocation (at_places unit_bytes unit_relocations 0 us) → All (λ u. All (HasShort (of u)) (lists u)) us
      → length (flat_map unit_bytes us) < 2 ^ 64 → StandAlong 0 us
  units-stand us some bytes relocations short small =
      let own = at_places unit_bytes unit_fields 0 us in
      let functions : filter_map function_relocation (at_places unit_bytes unit_relocations 0 us) ≡ relocations_of own = places-functions unit_bytes unit_relocations unit_fields (λ p u. contribution_functions_of p u) us 0 in
      let P : List Relocation → Type 0 = λ rs. All (IsHeld rs) own in
      record {
        rest = [];
        bytes = bytes ∙ sym (append-nil (flat_map unit_bytes us));
        held = subst P (sym (relocations ∙ functions)) (rising-held 0 _ own (fields.rise-places unit_bytes unit_fields us 0 (λ p u. contribution-fields-rise (of u) s.order size some p (lists u))));
        short = short;
        small = small;
      }
    where
      contribution_functions_of : (p : ℕ) (u : U) → filter_map function_relocation (unit_relocations p u) ≡ relocations_of (unit_fields p u)
      contribution_functions_of p u = contribution-functions (of u) s.order size p (lists u)

  -- the relocations rise
  pub units-rise : (place : ℕ) (us : List U) → RelocationsRise place (place + length (flat_map unit_bytes us)) (at_places unit_bytes unit_relocations place us)
  units-rise place us = relocations.rise-places unit_bytes unit_relocations us place (λ p u. contribution-rise (of u) s.order size p (lists u))

-- ---- the expressions are short

-- the range lists of units have none
listed-short : (version size : ℕ) (es : List ListEntry) → All (FitsListed version size) es → All (HasShort version) es
listed-short version size es fits = λ k d within. (fits k d within).short

pub ranges-short : (of : OrderedUnit → ℕ) (us : List OrderedUnit) → All FitsOrdered us → All (λ u. All (HasShort (of u)) (lists_of_entries ranges_in u.entries)) us
ranges-short of [] fits = All-nil _
ranges-short of (u ∷ us) fits =
    let here = All-head FitsOrdered u us fits in
    All-cons (λ (v : OrderedUnit). All (HasShort (of v)) (lists_of_entries ranges_in v.entries)) u us
    (listed-short (of u) u.address_size (lists_of_entries ranges_in u.entries) (ranges-fit (of u) u.address_size u.entries here.entries)) (ranges-short of us (All-tail FitsOrdered u us fits))
