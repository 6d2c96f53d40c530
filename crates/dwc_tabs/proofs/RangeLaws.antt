-- The entries of a range list, one by one.
use Rattle.std.proofs.Common.{◌≡◌, ℕ, refl, sym, ap, ◌∙◌, Option, Some, None, Ok, Result, Err, Bool, true, false}
use Rattle.std.specs.Prelude.{IsTrue, nat_lt, if◌then◌else◌}
use Rattle.std.specs.Option.{unwrap_or}
use Rattle.dwc_base.specs.FieldSizes.{is_field_size}
use Rattle.dwc_base.specs.declared.faults.Flaw.{Flaw}
use Rattle.dwc_base.specs.declared.faults.What.TheVariants.{RangeList}
use Rattle.dwc_base.specs.declared.section_name.SectionName.TheVariants.{Info, Ranges, Rnglists}
use Rattle.dwc_base.specs.Units.{UnitHeader}
use Rattle.dwc_dwarf.specs.Values.{range_reference, range_index}
use Rattle.dwc_dwarf.specs.Lists.{list_source}
use Rattle.dwc_dwarf.specs.Indexed.{index_base}
use Rattle.dwc_base.specs.Reading.{Unread}
use Rattle.dwc_base.specs.Listing.{no_items, only_fault, with_first}
use Rattle.dwc_base.specs.Sections.{Sections, Fault, section_from, reported}
use Rattle.dwc_dwarf.specs.RawLists.{ListSource, ListPlace, list_named, place_indexed, RawEntry, range_kinds, list_fault, raw_entry_at, raw_ranges}
use Rattle.dwc_tabs.specs.declared.open_list.OpenList.{OpenList}
use Rattle.dwc_tabs.specs.OpenLists.{list_entry_at, left_of_list, opened_at}
use Rattle.dwc_tabs.specs.RangeLists.{entries_left, place_of_list, section_of_lists, range_list_named}
use Rattle.dwc_tabs.proofs.OpenListLaws.{at_cursor, size-some, list_entry-leaves, list_entry-empty, left-more, left-end, left-flaw, left-begin}

module _ (l : OpenList) (known : IsTrue (is_field_size l.address_size)) where
  -- at an entry, at the end, and at a flaw
  pub entries_left-more : (v : Unread) (e : RawEntry) → list_entry_at range_kinds l.in_pairs l.relocations l.address_size l.cursor ≡ Ok (Some e, v) → entries_left l ≡ with_first e (entries_left (at_cursor l v))
  unfolding entries_left
  entries_left-more v e h = left-more _ _ (λ u. list_entry-leaves range_kinds l.in_pairs l.relocations l.address_size u (size-some l.address_size known)) l.cursor v e h

  pub entries_left-end : (v : Unread) → list_entry_at range_kinds l.in_pairs l.relocations l.address_size l.cursor ≡ Ok (None, v) → entries_left l ≡ no_items
  unfolding entries_left
  entries_left-end v h = left-end _ _ (λ u. list_entry-leaves range_kinds l.in_pairs l.relocations l.address_size u (size-some l.address_size known)) l.cursor v h

  pub entries_left-flaw : (flaw : Flaw) → list_entry_at range_kinds l.in_pairs l.relocations l.address_size l.cursor ≡ Err flaw → entries_left l ≡ only_fault (list_fault RangeList (place_of_list l.in_pairs l.offset) flaw)
  unfolding entries_left
  entries_left-flaw flaw h = left-flaw _ _ (λ u. list_entry-leaves range_kinds l.in_pairs l.relocations l.address_size u (size-some l.address_size known)) l.cursor flaw h

-- ---- the begin of a list

-- the entries of a list of a section, by what is unread of it
raw-entries : (in_pairs : Bool) (s : ListSource) (offset : ℕ) →
    raw_ranges s (place_of_list in_pairs offset)
    ≡ left_of_list (list_entry_at range_kinds in_pairs (s.sections.relocations (section_of_lists in_pairs)) s.address_size) (list_fault RangeList (place_of_list in_pairs offset)) (section_from s.sections (section_of_lists in_pairs) offset)
unfolding raw_ranges left_of_list raw_entry_at list_entry_at
raw-entries true s offset = refl
raw-entries false s offset = refl

-- A list, by what a cursor has of it.
pub entries_left-begin : (in_pairs : Bool) (s : Sections) (h : UnitHeader) (offset : ℕ) → IsTrue (is_field_size h.address_size) →
    entries_left (opened_at s h (section_of_lists in_pairs) in_pairs offset) ≡ raw_ranges (list_source s h) (place_of_list in_pairs offset)
unfolding entries_left list_source
entries_left-begin in_pairs s h offset known =
    left-begin _ _ (λ u. list_entry-leaves range_kinds in_pairs (s.relocations (section_of_lists in_pairs)) h.address_size u (size-some h.address_size known))
    (λ u none. list_entry-empty range_kinds in_pairs (s.relocations (section_of_lists in_pairs)) h.address_size u (size-some h.address_size known) none) s.order (s.bytes (section_of_lists in_pairs)) offset
    ∙ sym (raw-entries in_pairs (list_source s h) offset)

-- ---- where a list is

-- a list by its offset, and by its index
pub named-offset : (s : Sections) (h : UnitHeader) (offset : ℕ) → range_list_named s h (range_reference offset) ≡ Some (Ok (place_of_list (nat_lt h.version 5) offset))
unfolding list_named list_source
named-offset s h offset = go (nat_lt h.version 5)
  where
    go : (old : Bool) → ◌≡◌ {A = Option (Result ListPlace Fault)} (Some (Ok (record { section = if old then Ranges else Rnglists; offset = offset }))) (Some (Ok (place_of_list old offset)))
    go true = refl
    go false = refl

pub named-index : (s : Sections) (h : UnitHeader) (index : ℕ) (p : Result ListPlace Flaw) → place_indexed s Rnglists (unwrap_or (index_base s h Rnglists) 0) index ≡ p → range_list_named s h (range_index index) ≡ Some (reported RangeList Info h.offset p)
unfolding list_named list_source
named-index s h index p is = ap (λ r. Some (reported RangeList Info h.offset r)) is
