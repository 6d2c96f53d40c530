-- The small module, read: its file, its unit and its entries.
use Rattle.std.proofs.Common.{◌≡◌, ℕ, pos, List, [], ◌∷◌, ◌++◌, None, Ok, Err, true, false, Result, refl}
use Rattle.dwc_worked.proofs.Numbers.{at_place}
use Rattle.dwc_worked.proofs.OnLiterals.{units_on_literals, files_on_literals}
use Rattle.dwc_worked.proofs.SmallModule.{abbreviations_small, info_small, line_small, file_small}
use Rattle.dwc_base.specs.declared.records.Endian.TheVariants.{Little}
use Rattle.dwc_base.specs.declared.section_name.SectionName.TheVariants.{Abbrev, Info, Line, Frame}
use Rattle.dwc_base.specs.declared.records.Address.TheVariants.{Constant}
use Rattle.dwc_base.specs.Sections.{Sections, section_text}
use Rattle.dwc_base.specs.Abbreviations.{abbreviation_table}
use Rattle.dwc_base.specs.Units.{UnitHeader, unit_headers}
use Rattle.dwc_dwarf.specs.Values.{address, constant, line_reference}
use Rattle.dwc_dwarf.specs.Entries.{entries}
use Rattle.dwc_base.specs.Wasm.{custom_section, wasm_module, WasmModule, module_sections}

-- sections of which only these three are there
abbrev pub three_sections : List ℕ → List ℕ → List ℕ → Sections
three_sections a i l = record { order = Little; bytes = λ name. elim name [ Abbrev ↦ a | Info ↦ i | Line ↦ l | _ ↦ [] ]; relocations = λ name. [] }

abbrev pub sections_small : Sections
sections_small = three_sections abbreviations_small info_small line_small

abbrev pub header_small : UnitHeader
header_small = record { offset = 0; end = 26; version = 4; address_size = 4; unit_type = 1; abbreviations = 0; dwo_id = None; content = at_place 11 (0x01 ∷ 0x00 ∷ 0x00 ∷ 0x00 ∷ 0x00 ∷ 0x02 ∷ 0x02 ∷ 0x00 ∷ 0x00 ∷ 0x00 ∷ 0x0B ∷ 0x00 ∷ 0x00 ∷ 0x00 ∷ 0x00 ∷ []) }

headers-small : unit_headers sections_small ≡ record { items = header_small ∷ []; fault = None }
unfolding units_on_literals
headers-small = refl

table-small : abbreviation_table sections_small 0 ≡ Ok (
    record { code = 1; tag = 0x11; has_children = true; attributes = record { name = 0x10; form = 0x17; implicit = pos 0 } ∷ [] }
    ∷ record { code = 2; tag = 0x2E; has_children = false; attributes = record { name = 0x11; form = 0x01; implicit = pos 0 } ∷ record { name = 0x12; form = 0x06; implicit = pos 0 } ∷ [] } ∷ [])
unfolding units_on_literals
table-small = refl

entries-small : entries sections_small header_small ≡ record {
  items = record { offset = 11; depth = 0; tag = 0x11; attributes = (0x10, line_reference 0) ∷ [] }
      ∷ record { offset = 16; depth = 1; tag = 0x2E; attributes = (0x11, address (Constant 2)) ∷ (0x12, constant 0x06 11) ∷ [] } ∷ [];
  fault = None;
}
unfolding units_on_literals
entries-small = refl

-- what of a file DWARF wants, in a form that is short to write down
abbrev pub facts_of : Result WasmModule ℕ → Result (ℕ × ℕ × ℕ × List ℕ × List ℕ × List ℕ) ℕ
facts_of (Err place) = Err place
facts_of (Ok m) = Ok (m.imported, m.defined, m.code_offset, custom_section (section_text Abbrev) m.sections, custom_section (section_text Info) m.sections, custom_section (section_text Line) m.sections)

file-small : facts_of (wasm_module file_small) ≡ Ok (0, 1, 20, abbreviations_small, info_small, line_small)
unfolding files_on_literals
file-small = refl

-- a custom section `.debug_frame` is none of the sections of a module
abbrev pub file_frame : List ℕ
file_frame = 0x00 ∷ 0x61 ∷ 0x73 ∷ 0x6D ∷ 0x01 ∷ 0x00 ∷ 0x00 ∷ 0x00 ∷ 0x00 ∷ 0x0E ∷ 0x0C ∷ 0x2E ∷ 0x64 ∷ 0x65 ∷ 0x62 ∷ 0x75 ∷ 0x67 ∷ 0x5F ∷ 0x66 ∷ 0x72 ∷ 0x61 ∷ 0x6D ∷ 0x65 ∷ 0x07 ∷ []

abbrev pub frames_in : Result WasmModule ℕ → List ℕ
frames_in (Ok m) = (module_sections m).bytes Frame ++ custom_section (section_text Frame) m.sections
frames_in (Err place) = []

-- the contents of the custom section alone
no_frames : frames_in (wasm_module file_frame) ≡ 0x07 ∷ []
unfolding files_on_literals
no_frames = refl
