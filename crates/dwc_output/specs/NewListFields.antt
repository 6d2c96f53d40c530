-- The fields of range lists and location lists from version 5 on: the addresses in their entries. (DWARF 5, sections 7.25 and 2.6.2.)
use Rattle.std.specs.Prelude.{ℕ, ◌+◌, List, [], ◌∷◌, Bool, true, false, Option, Some, option_map, Result, Ok}
use Rattle.std.specs.List.{flat_map}
use Rattle.dwc_base.specs.declared.section_name.SectionName.{SectionName}
use Rattle.dwc_base.specs.declared.section_name.SectionName.TheVariants.{Loclists, Rnglists}
use Rattle.dwc_base.specs.declared.faults.What.TheVariants.{LocationList, RangeList}
use Rattle.dwc_base.specs.declared.faults.Flaw.{Flaw}
use Rattle.dwc_base.specs.Reading.{Unread, Read, seen_as}
use Rattle.dwc_base.specs.Listing.{walk}
use Rattle.dwc_base.specs.Sections.{Sections, section_from}
use Rattle.dwc_base.specs.Units.{UnitHeader}
use Rattle.dwc_dwarf.specs.Values.{Value}
use Rattle.dwc_dwarf.specs.Entries.{Entry}
use Rattle.dwc_dwarf.specs.RawLists.{ListSource, ListPlace, list_fault, list_named, next_item, RawEntry, base_address, raw_entry_at, raw_location_at, RawLocation, start_end, start_length, unread_length}
use Rattle.dwc_dwarf.specs.Lists.{list_source}
use Rattle.dwc_dwarf.specs.ReadUnits.{Unit}
use Rattle.dwc_output.specs.FieldKinds.{Field, field_of_address}

-- the addresses of an entry of a kind, which stands at a place, behind the byte of its kind
abbrev pub fields_of_kind : ℕ → ℕ → RawEntry → List Field
fields_of_kind size place (base_address a) = field_of_address size (place + 1) a ∷ []
fields_of_kind size place (start_end begin end) = field_of_address size (place + 1) begin ∷ field_of_address size ((place + 1) + size) end ∷ []
fields_of_kind size place (start_length begin n) = field_of_address size (place + 1) begin ∷ []
fields_of_kind size place _ = []

-- a reader of entries that tells where each stands
abbrev pub with_place : {A : Type 0} → (Unread → Read (Option A)) → Unread → Read (Option (ℕ × A))
with_place reader u = seen_as (option_map (λ x. (u.place, x))) (reader u)

-- the entries of a range list, and those of a location list without their expressions, each with its place
unfoldable pub placed_ranges : ListSource → ListPlace → List (ℕ × RawEntry)
placed_ranges s l = (walk unread_length (next_item (with_place (raw_entry_at s l.section)) (list_fault RangeList l)) (section_from s.sections l.section l.offset)).items

abbrev pub says_of : ℕ × RawLocation → ℕ × RawEntry
says_of p = (p.0, p.1.says)

unfoldable pub placed_locations : ListSource → ListPlace → List (ℕ × RawLocation)
placed_locations s l = (walk unread_length (next_item (with_place (raw_location_at s l.section)) (list_fault LocationList l)) (section_from s.sections l.section l.offset)).items

-- the fields of the list at a place, if it stands in one of these sections
abbrev pub fields_of_new_list : ListSource → ListPlace → SectionName → List Field
fields_of_new_list source l Rnglists = flat_map (λ p. fields_of_kind source.address_size p.0 p.1) (placed_ranges source l)
fields_of_new_list source l Loclists = flat_map (λ p. fields_of_kind source.address_size p.0 p.1.says) (placed_locations source l)
fields_of_new_list source l _ = []

-- those of the list that a value of a unit names, if it names one and is of a kind
unfoldable pub new_fields_named : (Value → Bool) → Sections → UnitHeader → Value → List Field
new_fields_named kind s h v = elim (kind v) [ false ↦ [] | true ↦ go (list_named (list_source s h) v) ]
  where
    go : Option (Result ListPlace Flaw) → List Field
    go (Some (Ok l)) = fields_of_new_list (list_source s h) l l.section
    go _ = []

-- of an entry, and of a unit
abbrev pub new_fields_of_lists : (Value → Bool) → Sections → UnitHeader → Entry → List Field
new_fields_of_lists kind s h e = flat_map (λ a. new_fields_named kind s h a.1) e.attributes

abbrev pub new_lists_of_unit : (Value → Bool) → Sections → Unit → List Field
new_lists_of_unit kind s u = flat_map (new_fields_of_lists kind s u.header) u.entries
