-- The sections of an output, and how they are read again.
use Rattle.std.specs.Prelude.{ℕ, ℤ, List, [], map, Option, Some, None, option_map}
use Rattle.std.specs.Option.{unwrap_or}
use Rattle.std.specs.List.{find, filter_map}
use Rattle.std.specs.Str.{bytes_eq}
use Rattle.dwc_base.specs.declared.records.Endian.{Endian}
use Rattle.dwc_base.specs.declared.output.DwarfSection.{DwarfSection}
use Rattle.dwc_base.specs.declared.output.DwarfSectionReloc.{DwarfSectionReloc}
use Rattle.dwc_base.specs.declared.output.DwarfSectionRelocTarget.{DwarfSectionRelocTarget}
use Rattle.dwc_base.specs.declared.output.DwarfSectionRelocTarget.TheVariants.{Func, Section}
use Rattle.dwc_base.specs.declared.section_name.SectionName.{SectionName}
use Rattle.dwc_base.specs.declared.section_name.SectionName.TheVariants.{Frame}
use Rattle.dwc_base.specs.Sections.{Sections, Relocation, section_text}

-- what a field is to hold beside its addend: a function's address, or a section's
pub data RelocationTarget : Type 0 where
  function : ℕ → RelocationTarget
  section : List ℕ → RelocationTarget

-- a relocation of an output: its field's offset and size, what it refers to, and the addend
pub record OutputRelocation : Type 0 where
  pub offset : ℕ
  pub size : ℕ
  pub target : RelocationTarget
  pub addend : ℤ

-- a section of an output
pub record OutputSection : Type 0 where
  pub name : List ℕ
  pub body : List ℕ
  pub relocations : List OutputRelocation

-- a relocation that refers to a function, as one of a field
abbrev pub function_relocation : OutputRelocation → Option Relocation
function_relocation r = elim r.target [ function n ↦ Some (record { offset = r.offset; size = r.size; function = n; addend = r.addend }) | section name ↦ None ]

-- the first section of a name
abbrev pub section_named : List ℕ → List OutputSection → Option OutputSection
section_named name sections = find (λ s. bytes_eq s.name name) sections

-- The bytes of a section of an output, and its relocations of functions, by its name: nothing of the frames, which are no input of a reader of
-- entries and lines. A section relocation changes nothing, since the field holds its addend.
abbrev pub output_bytes : List OutputSection → SectionName → List ℕ
output_bytes sections Frame = []
output_bytes sections name = unwrap_or (option_map (λ s. s.body) (section_named (section_text name) sections)) []

abbrev pub output_relocations : List OutputSection → SectionName → List Relocation
output_relocations sections Frame = []
output_relocations sections name = unwrap_or (option_map (λ s. filter_map function_relocation s.relocations) (section_named (section_text name) sections)) []

-- The sections of an output as DWARF.
abbrev pub output_sections : Endian → List OutputSection → Sections
output_sections order sections = record { order = order; bytes = output_bytes sections; relocations = output_relocations sections }

-- ---- the program's own records, seen as these

-- what a relocation refers to
abbrev pub target_view : DwarfSectionRelocTarget → RelocationTarget
target_view (Func n) = function n
target_view (Section name) = section name.now

-- a relocation
abbrev pub relocation_view : DwarfSectionReloc → OutputRelocation
relocation_view r = record { offset = r.offset; size = r.size; target = target_view r.target; addend = r.addend }

-- a section
abbrev pub section_view : DwarfSection → OutputSection
section_view s = record { name = s.name.now; body = s.body.items; relocations = map relocation_view s.relocs.items }

-- the relocation of a field that refers to a function, and those among some
abbrev pub field_relocation : DwarfSectionReloc → Option Relocation
field_relocation r = function_relocation (relocation_view r)

-- the function relocations among some
abbrev pub field_relocations : List DwarfSectionReloc → List Relocation
field_relocations rs = filter_map field_relocation rs
