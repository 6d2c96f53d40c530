-- What leads from an entry to others, to code and to a line table, and entries with these attributes alone.
-- (DWARF 4, sections 2.17, 3.1.1 and 7.5.4; DWARF 5, sections 2.17, 3.1.1, 7.5.5 and 7.5.6.)
use Rattle.std.specs.Prelude.{ℕ, ◌==◌, List, map, Bool, true, false, ◌||◌, if◌then◌else◌, Option, Some, None, option_and_then, Ok, Err}
use Rattle.std.specs.List.{filter}
use Rattle.dwc_base.specs.declared.constants.TheConstants.{DW_AT_low_pc, DW_AT_ranges, DW_AT_stmt_list}
use Rattle.dwc_base.specs.declared.faults.Flaw.TheVariants.{Malformed}
use Rattle.dwc_base.specs.Reading.{Unread, Read, ◌>>=◌, uleb_at, seen_as}
use Rattle.dwc_base.specs.Listing.{Listing}
use Rattle.dwc_base.specs.Sections.{Sections, Fault}
use Rattle.dwc_base.specs.Abbreviations.{AttributeSpec, Declaration, declaration_of}
use Rattle.dwc_base.specs.Units.{UnitHeader}
use Rattle.dwc_dwarf.specs.Values.{Value, unit_reference, info_reference, Size, fixed, variable, Form, indexed_addr, data_of, string_elsewhere, passed_over, implicit, flag_byte, flag_present, sec_offset, form_of, value_at}
use Rattle.dwc_dwarf.specs.Entries.{Entry, Found, EntryPlace, attributes_at, entries_from}

-- whether a value names an entry, of its unit or of any
abbrev pub is_reference : Value → Bool
is_reference (unit_reference n) = true
is_reference (info_reference n) = true
is_reference _ = false

-- whether a name is one of an attribute that leads to code (section 2.17) or to a line table (section 3.1.1)
abbrev pub is_link_name : ℕ → Bool
is_link_name name = (name == DW_AT_low_pc) || ((name == DW_AT_ranges) || (name == DW_AT_stmt_list))

-- whether an attribute leads elsewhere
abbrev pub is_link : ℕ × Value → Bool
is_link a = is_link_name a.0 || is_reference a.1

-- a value under a name, if it leads elsewhere
abbrev pub link_of : ℕ → Value → Option Value
link_of name x = if is_link (name, x) then Some x else None

-- the value of an attribute, if it leads elsewhere
unfoldable pub link_at : Sections → UnitHeader → AttributeSpec → Unread → Read (Option Value)
link_at s h spec u = seen_as (link_of spec.name) (value_at s h spec u)

-- how many bytes a number takes, where these are always as many
abbrev pub fixed_size : Size → Option ℕ
fixed_size (fixed size) = Some size
fixed_size variable = None

-- how many bytes a value of a form takes that names no entry, where these are always as many (DWARF 5, section 7.5.6)
abbrev pub passed_form : Form → Option ℕ
passed_form (indexed_addr size) = fixed_size size
passed_form (data_of size) = fixed_size size
passed_form (string_elsewhere size) = fixed_size size
passed_form (passed_over size) = Some size
passed_form implicit = Some 0
passed_form flag_byte = Some 1
passed_form flag_present = Some 0
passed_form sec_offset = Some 4
passed_form _ = None

-- the same of a value that leads nowhere, by its name and the code of its form
abbrev pub passed_size : ℕ → ℕ → Option ℕ
passed_size name code = if is_link_name name then None else option_and_then passed_form (form_of code)

-- an entry with the attributes alone that lead elsewhere
abbrev pub with_links : Entry → Entry
with_links e = record { offset = e.offset; depth = e.depth; tag = e.tag; attributes = filter is_link e.attributes }

-- the same of each entry of a listing
abbrev pub linked : Listing Fault Entry → Listing Fault Entry
linked list = record { items = map with_links list.items; fault = list.fault }

-- the links among the values of a declaration's attributes
unfoldable pub links_at : Sections → UnitHeader → List AttributeSpec → Unread → Read (List (ℕ × Value))
links_at s h specs u = seen_as (filter is_link) (attributes_at s h specs u)

-- an entry of a declaration with its links, behind its code
unfoldable pub declared_links_at : Sections → UnitHeader → ℕ → ℕ → Declaration → Unread → Read (Option Found)
declared_links_at s h offset depth d u = do
  links ← links_at s h d.attributes u
  Ok (Some (record { entry = record { offset = offset; depth = depth; tag = d.tag; attributes = links.0 }; has_children = d.has_children }), links.1)

-- an entry of a unit with its links; the code 0 ends a list of siblings
unfoldable pub linked_entry_at : Sections → UnitHeader → List Declaration → ℕ → Unread → Read (Option Found)
linked_entry_at s h table depth u = do
  code ← uleb_at u
  elim (code.0 == 0) [
    | true ↦ Ok (None, code.1)
    | false ↦ elim (declaration_of code.0 table) [ None ↦ Err Malformed | Some d ↦ declared_links_at s h u.place depth d code.1 ]
  ]

-- an entry that was read, with its links
abbrev pub found_links : Found → Found
found_links found = record { entry = with_links found.entry; has_children = found.has_children }

-- the entries from a place on, with their links
abbrev pub linked_from : Sections → UnitHeader → List Declaration → Option EntryPlace → Listing Fault Entry
linked_from s h table place = linked (entries_from s h table place)
