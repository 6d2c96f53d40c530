-- Inputs of one module, and entries and sections of an output, in forms that are short to write down.
use Rattle.std.proofs.Common.{ℕ, List, [], ◌∷◌, None, Ok}
use Rattle.dwc_base.specs.declared.records.Endian.{Endian}
use Rattle.dwc_base.specs.declared.records.Endian.TheVariants.{Little}
use Rattle.dwc_base.specs.declared.section_name.SectionName.TheVariants.{Abbrev, Addr, Info, Line, LineStr, Str, StrOffsets}
use Rattle.dwc_base.specs.Sections.{Sections}
use Rattle.dwc_rules.specs.Carried.{Compilation}
use Rattle.dwc_base.specs.ToldFiles.{bare_file}
use Rattle.dwc_base.specs.Outputs.{OutputRelocation, OutputSection}
use Rattle.dwc_worked.proofs.LineTables.{function_small}
use Rattle.dwc_dwarf.specs.Trees.{TreeValue, TreeEntry}
use Rattle.dwc_output.specs.TreeReading.{ListReading}
use Rattle.dwc_worked.proofs.SmallModule.{told_small}

-- abbreviations, entries, line tables, texts, texts of line tables, offsets of texts, and addresses
abbrev pub an_input : List ℕ → List ℕ → List ℕ → List ℕ → List ℕ → List ℕ → List ℕ → Sections
an_input abbreviations info line strings line_strings offsets addresses = record {
  order = Little;
  bytes = λ name. elim name [ Abbrev ↦ abbreviations | Info ↦ info | Line ↦ line | Str ↦ strings | LineStr ↦ line_strings | StrOffsets ↦ offsets | Addr ↦ addresses | _ ↦ [] ];
  relocations = λ name. [];
}

-- one module with the small module's function, for a target of a byte order
abbrev pub a_compilation : Endian → Sections → Compilation
a_compilation order sections = record { order = order; pointer_bytes = 8; modules = record { sections = sections; functions = function_small ∷ []; told = told_small; file = bare_file 20; compressed = None; version = 4 } ∷ []; next_id = 0; common_entry = None; version = 4 }

abbrev pub an_entry : ℕ → ℕ → List (ℕ × TreeValue) → TreeEntry
an_entry depth tag attributes = record { depth = depth; tag = tag; attributes = attributes }

abbrev pub a_section : List ℕ → List ℕ → List OutputRelocation → OutputSection
a_section name body relocations = record { name = name; body = body; relocations = relocations }

-- no list is read
abbrev pub no_lists : ListReading
no_lists = record { ranges_at = λ h e v. Ok []; locations_at = λ h e v. Ok [] }
