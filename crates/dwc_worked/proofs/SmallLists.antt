-- Small sections of lists, and what they are read by.
use Rattle.std.proofs.Common.{ℕ, List, [], Some, None, Ok, Err, Result}
use Rattle.std.specs.Prelude.{slice_get}
use Rattle.dwc_base.specs.declared.records.Address.{Address}
use Rattle.dwc_base.specs.declared.records.Endian.{Endian}
use Rattle.dwc_base.specs.declared.records.Endian.TheVariants.{Little}
use Rattle.dwc_base.specs.declared.section_name.SectionName.{SectionName}
use Rattle.dwc_base.specs.declared.section_name.SectionName.TheVariants.{Loc, Loclists, Ranges, Rnglists}
use Rattle.dwc_base.specs.declared.faults.Flaw.{Flaw}
use Rattle.dwc_base.specs.declared.faults.Flaw.TheVariants.{EndsEarly}
use Rattle.dwc_base.specs.Sections.{Relocation}
use Rattle.dwc_dwarf.specs.Values.{Value}
use Rattle.dwc_rules.specs.Kept.{Placed}
use Rattle.dwc_dwarf.specs.RawLists.{ListSource}
use Rattle.dwc_rules.specs.Clones.{UnitSource}

-- what stands under one of the names of the sections of lists, and nothing under all others
abbrev pub under : {A : Type 0} → SectionName → List A → SectionName → List A
under Ranges xs Ranges = xs
under Rnglists xs Rnglists = xs
under Loc xs Loc = xs
under Loclists xs Loclists = xs
under _ xs _ = []

-- an address by its place among some
abbrev pub address_in : List Address → ℕ → Result Address Flaw
address_in addresses i = elim (slice_get addresses i) [ None ↦ Err EndsEarly | Some a ↦ Ok a ]

-- a source of a version, an address size, a first base and addresses by an index, with one section of lists and its
-- relocations; lists by an index begin at 12
abbrev pub source_of : ℕ → ℕ → Address → List Address → Endian → SectionName → List ℕ → List Relocation → ListSource
source_of version size first addresses order section bytes relocations = record {
  sections = record { order = order; bytes = under section bytes; relocations = under section relocations };
  version = version;
  address_size = size;
  ranges_base = 12;
  locations_base = 12;
  indexed = address_in addresses;
  first_base = first;
}

-- an entry of a unit at an offset
abbrev pub at_unit : ℕ → ℕ → ℕ → ℕ → List (ℕ × Value) → Placed
at_unit unit offset depth tag attributes = record { unit = unit; entry = record { offset = offset; depth = depth; tag = tag; attributes = attributes } }

-- what entries without texts, tables and references are read with
abbrev pub no_texts : UnitSource
no_texts = record { version = 4; output_version = 4; texts = record { order = Little; strings = []; line_strings = []; offsets = []; base = 0 }; table = None; entries = [] }
