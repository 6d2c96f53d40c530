-- What the entries of a range list show, and what cannot be read of them, entry by entry.
use Rattle.std.proofs.Common.{◌≡◌, ℕ, List, [], ◌∷◌, ◌++◌, refl, ap, sym, subst, ◌∙◌, ap₂, Bool, true, false, Option, Some, None, Result, Ok, Err}
use Rattle.std.specs.Prelude.{map, ◌&&◌, ◌||◌, if◌then◌else◌, option_map, option_to_list}
use Rattle.std.specs.Option.{option_or, unwrap_or}
use Rattle.std.specs.List.{cons_option, filter_map, flat_map}
use Rattle.dwc_base.specs.declared.records.Address.{Address}
use Rattle.dwc_base.specs.declared.section_name.SectionName.{SectionName}
use Rattle.dwc_base.specs.declared.section_name.SectionName.TheVariants.{Info}
use Rattle.dwc_base.specs.declared.faults.What.{What}
use Rattle.dwc_base.specs.declared.faults.What.TheVariants.{AddressValue, RangeList}
use Rattle.dwc_base.specs.declared.faults.Flaw.{Flaw}
use Rattle.dwc_base.specs.declared.faults.Flaw.TheVariants.{EndsEarly, TooWide, Malformed, Refused}
use Rattle.dwc_base.specs.Listing.{Listing, no_items, only_fault, with_first}
use Rattle.dwc_base.specs.Sections.{Sections, Fault, fault_of, reported}
use Rattle.dwc_base.specs.Units.{UnitHeader}
use Rattle.dwc_dwarf.specs.Values.{Value, address_index}
use Rattle.dwc_dwarf.specs.Indexed.{address_indexed, address_in_unit}
use Rattle.dwc_native.specs.Functions.{Function}
use Rattle.dwc_base.specs.Listing.{first_of}
use Rattle.dwc_dwarf.specs.RawLists.{ListSource, ListPlace, list_named, list_fault, is_range_list, RawEntry, base_addressx, startx_endx, startx_length, offset_pair, default_location, base_address, start_end, start_length, pair, base_selection, raw_ranges}
use Rattle.dwc_dwarf.specs.Lists.{list_source}
use Rattle.dwc_rules.specs.RangeKept.{can_translate, base_known, shows_code, some_shows_code, base_beside, found_shows_code, list_shows_code, begins_in_code}
use Rattle.dwc_rules.specs.RangeRefusals.{flaw_in, index_fault, indexes_named, found_list_faults, list_faults}
use Rattle.dwc_read.specs.declared.fault.ReadFault.{ReadFault}
use Rattle.dwc_read.specs.Faults.{fault_seen, fault_at, Refuses}
use Rattle.dwc_tabs.specs.RangeLists.{RangeEntriesView, range_list_named, Tells}
use Rattle.dwc_kept.specs.declared.range_code.CodeSeen.{CodeSeen}
use Rattle.dwc_kept.specs.ReadEntries.{TellsFirst, ReadsOrTells}
use Rattle.dwc_kept.specs.RangeCode.{list_place, told_at_list, address_fault, entry_fault, faults_left, seen_behind}
use Rattle.dwc_kept.proofs.ReadLaws.{tells-in}

-- ---- addresses by an index

-- a fault told at an entry
moved-to-entry : (what : What) (section : SectionName) (offset place : ℕ) (flaw : Flaw) → fault_at offset (fault_of what section place flaw) ≡ fault_of what section offset flaw
moved-to-entry what section offset place EndsEarly = refl
moved-to-entry what section offset place TooWide = refl
moved-to-entry what section offset place Malformed = refl
moved-to-entry what section offset place (Refused kind) = refl

module _ (s : Sections) (h : UnitHeader) (i : ℕ) where
  -- an address that a unit answers
  pub indexed-read : (a : Address) → address_in_unit s h i ≡ Ok a → (list_source s h).indexed i ≡ Ok a
  unfolding list_source
  indexed-read a = go (address_indexed s h i)
    where
      go : (r : Result Address Flaw) → reported AddressValue Info h.offset r ≡ Ok a → r ≡ Ok a
      go (Ok b) e = let same : b ≡ a = cc in ap Ok same
      go (Err flaw) e = absurd (cc)

  -- the flaw of one that it refuses
  indexed-refused : (f : Fault) → address_in_unit s h i ≡ Err f → (flaw : Flaw) × ((list_source s h).indexed i ≡ Err flaw) × (f ≡ fault_of AddressValue Info h.offset flaw)
  unfolding list_source
  indexed-refused f = go (address_indexed s h i)
    where
      go : (r : Result Address Flaw) → reported AddressValue Info h.offset r ≡ Err f → (flaw : Flaw) × (r ≡ Err flaw) × (f ≡ fault_of AddressValue Info h.offset flaw)
      go (Ok b) e = absurd (cc)
      go (Err flaw) e = let same : fault_of AddressValue Info h.offset flaw ≡ f = cc in (flaw, refl, sym same)

  pub address-read : (l : ListPlace) (a : Address) → address_in_unit s h i ≡ Ok a → (address_fault (list_source s h) l i ≡ None) × ((list_source s h).indexed i ≡ Ok a)
  address-read l a e = let is = indexed-read a e in (ap (λ r. option_map (list_fault RangeList l) (flaw_in r)) is, is)

  moved-to-list : (section : SectionName) (offset place : ℕ) (flaw : Flaw) → told_at_list section offset (fault_of AddressValue Info place flaw) ≡ list_fault RangeList (list_place section offset) flaw
  moved-to-list section offset place EndsEarly = refl
  moved-to-list section offset place TooWide = refl
  moved-to-list section offset place Malformed = refl
  moved-to-list section offset place (Refused kind) = refl

  -- a fault of a unit, told at a list
  pub address-told : (section : SectionName) (offset : ℕ) (o told : Option Fault) → told ≡ option_map (told_at_list section offset) o → Refuses (address_in_unit s h i) o → TellsFirst (address_fault (list_source s h) (list_place section offset) i) told
  address-told section offset None told is refuses = subst (TellsFirst _) (sym is) tt
  address-told section offset (Some f) told is refuses =
      let p = indexed-refused f refuses in
      subst (TellsFirst _) (sym is) (ap (λ r. option_map (list_fault RangeList (list_place section offset)) (flaw_in r)) p.1 ∙ ap Some (sym (moved-to-list section offset h.offset p.0)) ∙ ap (λ g. Some (told_at_list section offset g)) (sym p.2))

  -- an address by an index at which an entry begins
  pub begin-read : (fs : List Function) (offset : ℕ) (a : Address) → address_in_unit s h i ≡ Ok a → (index_fault (list_source s h) offset (address_index i) ≡ None) × (can_translate fs a ≡ begins_in_code (list_source s h) fs (Some (address_index i)))
  begin-read fs offset a e = let is = indexed-read a e in (ap (λ r. option_map (fault_of AddressValue Info offset) (flaw_in r)) is, go ((list_source s h).indexed i) is)
    where
      go : (r : Result Address Flaw) → r ≡ Ok a → can_translate fs a ≡ unwrap_or (option_map (can_translate fs) (elim r [ Ok b ↦ Some b | Err flaw ↦ None ])) false
      go (Ok b) e = let same : b ≡ a = cc in ap (can_translate fs) (sym same)
      go (Err flaw) e = absurd (cc)

  -- and one that is refused, told at its entry
  pub begin-told : (offset : ℕ) (o told : Option Fault) → told ≡ option_map (fault_at offset) o → Refuses (address_in_unit s h i) o → TellsFirst (index_fault (list_source s h) offset (address_index i)) told
  begin-told offset None told is refuses = subst (TellsFirst _) (sym is) tt
  begin-told offset (Some f) told is refuses =
      let p = indexed-refused f refuses in
      let moved : fault_at offset f ≡ fault_of AddressValue Info offset p.0 = ap (fault_at offset) p.2 ∙ moved-to-entry AddressValue Info offset h.offset p.0 in
      subst (TellsFirst _) (sym is) (ap (λ r. option_map (fault_of AddressValue Info offset) (flaw_in r)) p.1 ∙ ap Some (sym moved))

-- ---- entries

module _ (s : ListSource) (l : ListPlace) where
  -- what some indexes are told as
  abbrev told : List ℕ → List Fault
  told is = map (list_fault RangeList l) (filter_map (λ i. flaw_in (s.indexed i)) is)

  first-told : (i : ℕ) (is : List ℕ) (more : List Fault) → first_of (told (i ∷ is) ++ more) ≡ option_or (address_fault s l i) (first_of (told is ++ more))
  first-told i is more = go (flaw_in (s.indexed i))
    where
      go : (o : Option Flaw) → first_of (map (list_fault RangeList l) (cons_option o (filter_map (λ j. flaw_in (s.indexed j)) is)) ++ more) ≡ option_or (option_map (list_fault RangeList l) o) (first_of (told is ++ more))
      go None = refl
      go (Some flaw) = refl

  or-behind : {A : Type 0} (a b c : Option A) → option_or a (option_or b c) ≡ option_or (option_or a b) c
  or-behind None b c = refl
  or-behind (Some x) b c = refl

  -- what cannot be read of an entry comes before what cannot be read of the others
  first-entry : (x : RawEntry) (rest : Listing Fault RawEntry) → first_of (faults_left s l (with_first x rest)) ≡ option_or (entry_fault s l x) (first_of (faults_left s l rest))
  first-entry (base_addressx i) rest = first-told i (flat_map indexes_named rest.items) (option_to_list rest.fault)
  first-entry (startx_endx i j) rest =
      first-told i (j ∷ flat_map indexes_named rest.items) (option_to_list rest.fault)
      ∙ ap (option_or (address_fault s l i)) (first-told j (flat_map indexes_named rest.items) (option_to_list rest.fault))
      ∙ or-behind (address_fault s l i) (address_fault s l j) _
  first-entry (startx_length i n) rest = first-told i (flat_map indexes_named rest.items) (option_to_list rest.fault)
  first-entry (offset_pair b e) rest = refl
  first-entry default_location rest = refl
  first-entry (base_address a) rest = refl
  first-entry (start_end begin end) rest = refl
  first-entry (start_length start n) rest = refl
  first-entry (pair begin end) rest = refl
  first-entry (base_selection a) rest = refl

  module _ (fs : List Function) where
    -- What was seen of a list, with what is left of it, makes what all of it shows and is refused for.
    pub record SeenSoFar (all : Listing Fault RawEntry) (base : Option Bool) (left : Listing Fault RawEntry) (seen : CodeSeen) : Type 0 where
      pub refused : first_of (faults_left s l left) ≡ first_of (faults_left s l all)
      pub shows : (seen.shows_code || some_shows_code s fs seen.base left.items) ≡ some_shows_code s fs base all.items

    module _ (all : Listing Fault RawEntry) (base : Option Bool) (left : Listing Fault RawEntry) (seen : CodeSeen) (so_far : SeenSoFar all base left seen) where
      turned : (a b c : Bool) → ((b || a) || c) ≡ (a || (b || c))
      turned true true c = refl
      turned true false c = refl
      turned false true c = refl
      turned false false c = refl

      ends : (a : Bool) → (a || false) ≡ a
      ends true = refl
      ends false = refl

      pub seen-more : (x : RawEntry) (rest : Listing Fault RawEntry) (behind : CodeSeen) → left ≡ with_first x rest → entry_fault s l x ≡ None → behind ≡ seen_behind s fs seen x → SeenSoFar all base rest behind
      seen-more x rest behind is none behind-is = record {
        refused = sym (ap (λ f. option_or f (first_of (faults_left s l rest))) none) ∙ sym (first-entry x rest) ∙ sym (ap (λ m. first_of (faults_left s l m)) is) ∙ so_far.refused;
        shows =
            ap (λ (b : CodeSeen). b.shows_code || some_shows_code s fs b.base rest.items) behind-is
            ∙ turned seen.shows_code (shows_code s fs seen.base x) (some_shows_code s fs (base_known s fs seen.base x) rest.items)
            ∙ ap (λ (m : Listing Fault RawEntry). seen.shows_code || some_shows_code s fs seen.base m.items) (sym is) ∙ so_far.shows;
      }

      pub seen-all : left ≡ no_items → (first_of (faults_left s l all) ≡ None) × (seen.shows_code ≡ some_shows_code s fs base all.items)
      seen-all is = (
        sym so_far.refused ∙ ap (λ m. first_of (faults_left s l m)) is,
        sym (ends seen.shows_code) ∙ ap (λ (m : Listing Fault RawEntry). seen.shows_code || some_shows_code s fs seen.base m.items) (sym is) ∙ so_far.shows,
      )

      pub seen-fault : (f : Fault) → left ≡ only_fault f → first_of (faults_left s l all) ≡ Some f
      seen-fault f is = sym so_far.refused ∙ ap (λ m. first_of (faults_left s l m)) is

      pub seen-refused : (x : RawEntry) (rest : Listing Fault RawEntry) (o : Option Fault) → left ≡ with_first x rest → TellsFirst (entry_fault s l x) o → TellsFirst (first_of (faults_left s l all)) o
      seen-refused x rest o is = tells-in (entry_fault s l x) (first_of (faults_left s l all)) o (λ f e. sym so_far.refused ∙ ap (λ m. first_of (faults_left s l m)) is ∙ first-entry x rest ∙ ap (λ g. option_or g (first_of (faults_left s l rest))) e)

-- ---- lists that a value names

module _ (s : Sections) (h : UnitHeader) (v : Value) where
  abbrev src : ListSource
  src = list_source s h

  named-found : (l : ListPlace) → range_list_named s h v ≡ Some (Ok l) → list_named src v ≡ Some (Ok l)
  named-found l = go (list_named src v)
    where
      go : (o : Option (Result ListPlace Flaw)) → option_map (reported RangeList Info h.offset) o ≡ Some (Ok l) → o ≡ Some (Ok l)
      go None e = absurd (cc)
      go (Some (Err flaw)) e = absurd (cc)
      go (Some (Ok p)) e = let same : p ≡ l = cc in ap (λ q. Some (Ok q)) same

  named-refused : (f : Fault) → range_list_named s h v ≡ Some (Err f) → (flaw : Flaw) × (list_named src v ≡ Some (Err flaw)) × (f ≡ fault_of RangeList Info h.offset flaw)
  named-refused f = go (list_named src v)
    where
      go : (o : Option (Result ListPlace Flaw)) → option_map (reported RangeList Info h.offset) o ≡ Some (Err f) → (flaw : Flaw) × (o ≡ Some (Err flaw)) × (f ≡ fault_of RangeList Info h.offset flaw)
      go None e = absurd (cc)
      go (Some (Err flaw)) e = let same : fault_of RangeList Info h.offset flaw ≡ f = cc in (flaw, refl, sym same)
      go (Some (Ok p)) e = absurd (cc)

  -- a value that is no range list
  pub list-none : (fs : List Function) (low : Option Value) (offset : ℕ) → is_range_list v ≡ false → (first_of (list_faults (list_source s h) offset v) ≡ None) × (false ≡ list_shows_code (list_source s h) fs low v)
  unfolding list_shows_code
  list-none fs low offset other = (ap (λ b. first_of (if b then found_list_faults src offset (list_named src v) else [])) other, sym (ap (λ b. b && found_shows_code src fs low (list_named src v)) other))

  -- what the entries of a list answer is what the list of a value does
  pub list-answers : (fs : List Function) (low : Option Value) (offset : ℕ) (r : Result Bool ReadFault) (section : SectionName) (place : ℕ) (e : RangeEntriesView) (base : Option Bool) → is_range_list v ≡ true
      → section ≡ e.place.section → place ≡ e.place.offset → range_list_named s h v ≡ Some (Ok e.place) → e.left ≡ raw_ranges (list_source s h) e.place → base ≡ base_beside fs low
      → ReadsOrTells (λ b. b ≡ some_shows_code (list_source s h) fs base e.left.items) (first_of (faults_left (list_source s h) (list_place section place) e.left)) r
      → ReadsOrTells (λ b. b ≡ list_shows_code (list_source s h) fs low v) (first_of (list_faults (list_source s h) offset v)) r
  unfolding list_shows_code
  list-answers fs low offset r section place e base is-list section-is place-is named left base-is = go r
    where
      found : list_named src v ≡ Some (Ok e.place)
      found = named-found e.place named

      faults-are : first_of (list_faults src offset v) ≡ first_of (faults_left src (list_place section place) e.left)
      faults-are =
          ap (λ b. first_of (if b then found_list_faults src offset (list_named src v) else [])) is-list
          ∙ ap (λ o. first_of (found_list_faults src offset o)) found
          ∙ ap (λ m. first_of (faults_left src e.place m)) (sym left)
          ∙ sym (ap₂ (λ a b. first_of (faults_left src (list_place a b) e.left)) section-is place-is)

      shows-are : list_shows_code src fs low v ≡ some_shows_code src fs base e.left.items
      shows-are =
          ap (λ b. b && found_shows_code src fs low (list_named src v)) is-list
          ∙ ap (found_shows_code src fs low) found
          ∙ ap (λ (m : Listing Fault RawEntry). some_shows_code src fs (base_beside fs low) m.items) (sym left)
          ∙ ap (λ b. some_shows_code src fs b e.left.items) (sym base-is)

      go : (q : Result Bool ReadFault) → ReadsOrTells (λ b. b ≡ some_shows_code src fs base e.left.items) (first_of (faults_left src (list_place section place) e.left)) q → ReadsOrTells (λ b. b ≡ list_shows_code src fs low v) (first_of (list_faults src offset v)) q
      go (Ok b) p = (faults-are ∙ p.0, p.1 ∙ sym shows-are)
      go (Err f) p = subst (λ o. TellsFirst o (fault_seen f)) (sym faults-are) p

  -- a list that cannot be found, told at its entry
  pub list-told : (offset : ℕ) (o told : Option Fault) → is_range_list v ≡ true → told ≡ option_map (fault_at offset) o → Tells (range_list_named s h v) o → TellsFirst (first_of (list_faults (list_source s h) offset v)) told
  list-told offset None seen is-list is t = absurd t
  list-told offset (Some f) seen is-list is t =
      let p = named-refused f t in
      let moved : fault_at offset f ≡ fault_of RangeList Info offset p.0 = ap (fault_at offset) p.2 ∙ moved-to-entry RangeList Info offset h.offset p.0 in
      subst (TellsFirst _) (sym is)
      (ap (λ b. first_of (if b then found_list_faults (list_source s h) offset (list_named (list_source s h) v) else [])) is-list ∙ ap (λ q. first_of (found_list_faults (list_source s h) offset q)) p.1 ∙ ap Some (sym moved))
