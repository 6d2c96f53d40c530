-- The entries of a location list, one by one.
use Rattle.std.proofs.Common.{◌≡◌, ℕ, suc, ◌<◌, refl, sym, ap, ◌∙◌, arith, List, [], length, take, Option, Some, None, Ok, Result, Err, Bool, true, false}
use Rattle.std.specs.Prelude.{IsTrue, nat_lt, if◌then◌else◌, ltb}
use Rattle.std.specs.Option.{unwrap_or}
use Rattle.std.proofs.lemmas.List.{length-drop}
use Rattle.dwc_base.specs.FieldSizes.{is_field_size}
use Rattle.dwc_base.specs.declared.faults.Flaw.{Flaw}
use Rattle.dwc_base.specs.declared.faults.Flaw.TheVariants.{EndsEarly}
use Rattle.dwc_base.specs.declared.faults.What.TheVariants.{LocationList}
use Rattle.dwc_base.specs.declared.section_name.SectionName.TheVariants.{Info, Loc, Loclists}
use Rattle.dwc_base.specs.Units.{UnitHeader}
use Rattle.dwc_dwarf.specs.Values.{location_reference, location_index, sized_number_at}
use Rattle.dwc_dwarf.specs.Lists.{list_source}
use Rattle.dwc_dwarf.specs.Indexed.{index_base}
use Rattle.dwc_base.specs.Reading.{Unread, ◌>>=◌, passed, bytes_at}
use Rattle.dwc_base.specs.Listing.{no_items, only_fault, with_first}
use Rattle.dwc_base.specs.Sections.{Sections, Relocation, Fault, section_from, reported}
use Rattle.dwc_dwarf.specs.RawLists.{ListSource, ListPlace, list_named, place_indexed, RawEntry, RawLocation, location_kinds, list_fault, selects_base, placed_expression_at, location_behind, raw_entry_at, raw_location_at, raw_locations}
use Rattle.dwc_base.proofs.Items.{Leaves, LeavesFewer}
use Rattle.dwc_base.proofs.Takes.{Leaves-bind, Leaves-same, number_at-leaves}
use Rattle.dwc_base.proofs.TakesMore.{Leaves-more, uleb_at-leaves}
use Rattle.dwc_tabs.specs.declared.open_list.OpenList.{OpenList}
use Rattle.dwc_tabs.specs.OpenLists.{list_entry_at, left_of_list, opened_at}
use Rattle.dwc_tabs.specs.LocationLists.{location_entry_at, locations_left, place_of_locations, section_of_locations, location_list_named}
use Rattle.dwc_tabs.proofs.OpenListLaws.{at_cursor, size-some, list_entry-leaves, list_entry-empty, left-more, left-end, left-flaw, left-begin}

-- ---- each entry takes a byte at least

-- bytes, as many as said, and be it none
bytes-back : (size : ℕ) (u : Unread) → Leaves (bytes_at size u) (suc (length u.left))
unfolding bytes_at
bytes-back size u = record { fewer = go (ltb (length u.left) size) }
  where
    go : (short : Bool) → LeavesFewer {A = List ℕ} (if short then Err EndsEarly else Ok (take size u.left, passed size u)) (suc (length u.left))
    go true = tt
    go false = omega (arith, length-drop size u.left)

expression-leaves : (in_pairs : Bool) (u : Unread) → Leaves (placed_expression_at (section_of_locations in_pairs) u) (suc (length u.left))
unfolding placed_expression_at sized_number_at
expression-leaves true u = Leaves-bind _ _ _ (Leaves-more _ _ (number_at-leaves 2 u (omega arith))) (λ count. Leaves-bind _ _ _ (bytes-back count.0 count.1) (λ bytes. Leaves-same _ _))
expression-leaves false u = Leaves-bind _ _ _ (Leaves-more _ _ (uleb_at-leaves u)) (λ count. Leaves-bind _ _ _ (bytes-back count.0 count.1) (λ bytes. Leaves-same _ _))

behind-leaves : (in_pairs : Bool) (e : RawEntry) (u : Unread) → Leaves (location_behind (section_of_locations in_pairs) e u) (suc (length u.left))
unfolding location_behind
behind-leaves in_pairs e u = go (selects_base e)
  where
    go : (selects : Bool) → Leaves {A = Option RawLocation} (elim selects [ true ↦ Ok (Some (record { says = e; holds = None }), u) | false ↦ (placed_expression_at (section_of_locations in_pairs) u >>= λ x. Ok (Some (record { says = e; holds = Some x.0 }), x.1)) ]) (suc (length u.left))
    go true = Leaves-same _ _
    go false = Leaves-bind _ _ _ (expression-leaves in_pairs u) (λ x. Leaves-same _ _)

location-leaves : (in_pairs : Bool) (relocations : List Relocation) (size : ℕ) (u : Unread) → 0 < size → Leaves (location_entry_at in_pairs relocations size u) (length u.left)
unfolding location_entry_at
location-leaves in_pairs relocations size u some = Leaves-bind _ _ _ (list_entry-leaves location_kinds in_pairs relocations size u some) (λ entry. go entry.0 entry.1)
  where
    go : (o : Option RawEntry) (v : Unread) → Leaves {A = Option RawLocation} (elim o [ None ↦ Ok (None, v) | Some e ↦ location_behind (section_of_locations in_pairs) e v ]) (suc (length v.left))
    go None v = Leaves-same _ _
    go (Some e) v = behind-leaves in_pairs e v

-- nothing is read of nothing
location-empty : (in_pairs : Bool) (relocations : List Relocation) (size : ℕ) (u : Unread) → 0 < size → u.left ≡ [] → location_entry_at in_pairs relocations size u ≡ Err EndsEarly
unfolding location_entry_at
location-empty in_pairs relocations size u some none = rw (list_entry-empty location_kinds in_pairs relocations size u some none) refl

-- ---- the walk

module _ (l : OpenList) (known : IsTrue (is_field_size l.address_size)) where
  -- at an entry, at the end, and at a flaw
  pub locations_left-more : (v : Unread) (e : RawLocation) → location_entry_at l.in_pairs l.relocations l.address_size l.cursor ≡ Ok (Some e, v) → locations_left l ≡ with_first e (locations_left (at_cursor l v))
  unfolding locations_left
  locations_left-more v e h = left-more _ _ (λ u. location-leaves l.in_pairs l.relocations l.address_size u (size-some l.address_size known)) l.cursor v e h

  pub locations_left-end : (v : Unread) → location_entry_at l.in_pairs l.relocations l.address_size l.cursor ≡ Ok (None, v) → locations_left l ≡ no_items
  unfolding locations_left
  locations_left-end v h = left-end _ _ (λ u. location-leaves l.in_pairs l.relocations l.address_size u (size-some l.address_size known)) l.cursor v h

  pub locations_left-flaw : (flaw : Flaw) → location_entry_at l.in_pairs l.relocations l.address_size l.cursor ≡ Err flaw → locations_left l ≡ only_fault (list_fault LocationList (place_of_locations l.in_pairs l.offset) flaw)
  unfolding locations_left
  locations_left-flaw flaw h = left-flaw _ _ (λ u. location-leaves l.in_pairs l.relocations l.address_size u (size-some l.address_size known)) l.cursor flaw h

-- ---- the begin of a list

-- the entries of a list of a section, by what is unread of it
raw-entries : (in_pairs : Bool) (s : ListSource) (offset : ℕ) →
    raw_locations s (place_of_locations in_pairs offset)
    ≡ left_of_list (location_entry_at in_pairs (s.sections.relocations (section_of_locations in_pairs)) s.address_size) (list_fault LocationList (place_of_locations in_pairs offset)) (section_from s.sections (section_of_locations in_pairs) offset)
unfolding raw_locations left_of_list raw_location_at raw_entry_at location_entry_at list_entry_at
raw-entries true s offset = refl
raw-entries false s offset = refl

-- A list, by what a cursor has of it.
pub locations_left-begin : (in_pairs : Bool) (s : Sections) (h : UnitHeader) (offset : ℕ) → IsTrue (is_field_size h.address_size) →
    locations_left (opened_at s h (section_of_locations in_pairs) in_pairs offset) ≡ raw_locations (list_source s h) (place_of_locations in_pairs offset)
unfolding locations_left list_source
locations_left-begin in_pairs s h offset known =
    left-begin _ _ (λ u. location-leaves in_pairs (s.relocations (section_of_locations in_pairs)) h.address_size u (size-some h.address_size known))
    (λ u none. location-empty in_pairs (s.relocations (section_of_locations in_pairs)) h.address_size u (size-some h.address_size known) none) s.order (s.bytes (section_of_locations in_pairs)) offset
    ∙ sym (raw-entries in_pairs (list_source s h) offset)

-- ---- where a list is

-- a list by its offset, and by its index
pub named-offset : (s : Sections) (h : UnitHeader) (offset : ℕ) → location_list_named s h (location_reference offset) ≡ Some (Ok (place_of_locations (nat_lt h.version 5) offset))
unfolding list_named list_source
named-offset s h offset = go (nat_lt h.version 5)
  where
    go : (old : Bool) → ◌≡◌ {A = Option (Result ListPlace Fault)} (Some (Ok (record { section = if old then Loc else Loclists; offset = offset }))) (Some (Ok (place_of_locations old offset)))
    go true = refl
    go false = refl

pub named-index : (s : Sections) (h : UnitHeader) (index : ℕ) (p : Result ListPlace Flaw) → place_indexed s Loclists (unwrap_or (index_base s h Loclists) 0) index ≡ p → location_list_named s h (location_index index) ≡ Some (reported LocationList Info h.offset p)
unfolding list_named list_source
named-index s h index p is = ap (λ r. Some (reported LocationList Info h.offset r)) is
