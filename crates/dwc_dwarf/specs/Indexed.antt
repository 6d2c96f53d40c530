-- Values by an index into a section: where the indexed values of a unit begin there, and addresses by an index. (DWARF 5,
-- sections 7.26 to 7.29, and the attributes of section 3.1.1.)
use Rattle.std.specs.Prelude.{ℕ, ◌+◌, ◌*◌, ◌==◌, List, map, zip, Bool, if◌then◌else◌, Option, Some, None, option_and_then, Result, Ok, Err}
use Rattle.std.specs.Option.{option_or, unwrap_or}
use Rattle.std.specs.List.{find}
use Rattle.dwc_base.specs.declared.records.Address.{Address}
use Rattle.dwc_base.specs.declared.section_name.SectionName.{SectionName}
use Rattle.dwc_base.specs.declared.section_name.SectionName.TheVariants.{Addr, Info, Loclists, Rnglists, StrOffsets}
use Rattle.dwc_base.specs.declared.faults.What.TheVariants.{AddressValue, Text}
use Rattle.dwc_base.specs.declared.faults.Flaw.{Flaw}
use Rattle.dwc_base.specs.declared.faults.Flaw.TheVariants.{Malformed}
use Rattle.dwc_base.specs.declared.constants.TheConstants.{DW_AT_addr_base, DW_AT_loclists_base, DW_AT_rnglists_base, DW_AT_stmt_list, DW_AT_str_offsets_base, DW_UT_split_compile}
use Rattle.dwc_base.specs.Reading.{◌>>=◌, uleb_at}
use Rattle.dwc_base.specs.Sections.{Sections, section_from, Fault, reported, address_at}
use Rattle.dwc_base.specs.Abbreviations.{AttributeSpec, Declaration, declaration_of, abbreviation_table}
use Rattle.dwc_base.specs.Units.{UnitHeader}
use Rattle.dwc_dwarf.specs.Values.{Value, address, address_index, constant, line_reference}
use Rattle.dwc_dwarf.specs.Entries.{attributes_at}
use Rattle.dwc_dwarf.specs.Texts.{TextSource, texts_from, text_named}

-- ---- bases

-- an attribute that reads as a line table's does, so that a section offset keeps its number
abbrev pub as_section_offset : AttributeSpec → AttributeSpec
as_section_offset spec = record { name = DW_AT_stmt_list; form = spec.form; implicit = spec.implicit }

-- the values of the root's attributes so, each with its own name
unfoldable pub root_offsets : Sections → UnitHeader → List Declaration → Result (List (ℕ × Value)) Flaw
root_offsets s h table = do
  code ← uleb_at h.content
  elim (declaration_of code.0 table) [
    | None ↦ Err Malformed
    | Some d ↦ (attributes_at s h (map as_section_offset d.attributes) code.1 >>= λ values. Ok (zip (map (λ spec. spec.name) d.attributes) (map (λ a. a.1) values.0)))
  ]

-- the number that a section offset or a constant says
abbrev pub number_said : Value → Option ℕ
number_said (line_reference n) = Some n
number_said (constant form n) = Some n
number_said _ = None

-- the number that the first attribute of a name says, among the root's
abbrev pub offset_among : ℕ → Result (List (ℕ × Value)) Flaw → Option ℕ
offset_among name (Err flaw) = None
offset_among name (Ok attributes) = option_and_then (λ a. number_said a.1) (find (λ a. a.0 == name) attributes)

-- The number that an attribute of a unit's root says; a root that cannot be read says nothing.
unfoldable pub offset_of_root : Sections → UnitHeader → ℕ → Option ℕ
offset_of_root s h name = elim (abbreviation_table s h.abbreviations) [ Err fault ↦ None | Ok table ↦ offset_among name (root_offsets s h table) ]

-- the attribute that says where the values of a section begin
abbrev pub base_attribute : SectionName → Option ℕ
base_attribute StrOffsets = Some DW_AT_str_offsets_base
base_attribute Addr = Some DW_AT_addr_base
base_attribute Rnglists = Some DW_AT_rnglists_base
base_attribute Loclists = Some DW_AT_loclists_base
base_attribute _ = None

-- whether a unit is the split part of another, which has its code addresses
abbrev pub is_split : UnitHeader → Bool
is_split h = h.unit_type == DW_UT_split_compile

-- Where the root says nothing, the values begin behind a header of the section. A split unit has no addresses. (This
-- project's own choice.)
abbrev pub usual_base : Bool → SectionName → Option ℕ
usual_base split StrOffsets = Some 8
usual_base split Addr = if split then None else Some 8
usual_base split Rnglists = Some 12
usual_base split Loclists = Some 12
usual_base split _ = None

-- The offset in a section at which a unit's indexed values begin: what its root says, or else the usual one; none where the
-- unit has no such values.
unfoldable pub index_base : Sections → UnitHeader → SectionName → Option ℕ
index_base s h name = option_or (option_and_then (offset_of_root s h) (base_attribute name)) (usual_base (is_split h) name)

-- ---- addresses

-- an address of a unit by its index from a base on
unfoldable pub address_from : Sections → UnitHeader → Option ℕ → ℕ → Result Address Flaw
address_from s h None index = Err Malformed
address_from s h (Some base) index = address_at (s.relocations Addr) h.address_size (section_from s Addr (base + h.address_size * index)) >>= λ a. Ok a.0

-- an address of a unit by its index
abbrev pub address_indexed : Sections → UnitHeader → ℕ → Result Address Flaw
address_indexed s h index = address_from s h (index_base s h Addr) index

-- The address that a value is, in place or by an index; none for a value that is no address.
unfoldable pub address_named : Sections → UnitHeader → Value → Result (Option Address) Flaw
address_named s h (address a) = Ok (Some a)
address_named s h (address_index index) = address_indexed s h index >>= λ a. Ok (Some a)
address_named s h _ = Ok None

-- ---- texts

-- where the offsets of a unit's texts by an index begin
abbrev pub text_base : Sections → UnitHeader → ℕ
text_base s h = unwrap_or (index_base s h StrOffsets) 0

-- where the texts of a unit are
unfoldable pub texts_of_unit : Sections → UnitHeader → TextSource
texts_of_unit s h = texts_from s (text_base s h)

-- ---- a unit's own calls, which know no entry and tell the unit's place

-- the address at an index
abbrev pub address_in_unit : Sections → UnitHeader → ℕ → Result Address Fault
address_in_unit s h index = reported AddressValue Info h.offset (address_indexed s h index)

-- the text that a value names
abbrev pub text_in_unit : Sections → UnitHeader → Value → Result (Option (List ℕ)) Fault
text_in_unit s h v = reported Text Info h.offset (text_named (texts_of_unit s h) v)
