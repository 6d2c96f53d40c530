-- An output for the small module, and that it carries the small module's lines: the module's synthetic unit, and behind it the carried one.
use Rattle.std.proofs.Common.{◌≡◌, ℕ, ◌<◌, ◌≤◌, pos, List, [], ◌∷◌, ◌++◌, Some, None, Ok, true, false, refl, arith, lit≤}
use Rattle.std.specs.Prelude.{codes, All, Bool, nat_le, if◌then◌else◌, Option}
use Rattle.std.specs.Option.{option_or, is_some}
use Rattle.std.proofs.Common.{zero, suc, get_or, ap, sym, ◌∙◌, lit<, inl, inr}
use Rattle.std.proofs.Math.Dec.{leb-zero}
use Rattle.std.proofs.lemmas.Bool.{false≢true, true≢false}
use Rattle.dwc_worked.proofs.DraftsOnLiterals.{drafts_on_literals}
use Rattle.dwc_worked.proofs.Readings.{three_sections, sections_small, header_small}
use Rattle.dwc_worked.proofs.Numbers.{at_place}
use Rattle.dwc_worked.proofs.SyntheticTrees.{synthetic_abbreviations, synthetic_content, synthetic_info, synthetic_texts, empty_list, to_section, synthetic_relocations}
use Rattle.dwc_worked.proofs.SmallModule.{file_small_told, told_small}
use Rattle.dwc_worked.proofs.LineTables.{line_in, the_table, function_small, segments_small, at_line, line_of_a_c}
use Rattle.dwc_base.specs.declared.records.Endian.TheVariants.{Little}
use Rattle.dwc_base.specs.declared.records.Address.TheVariants.{Constant, Symbol}
use Rattle.dwc_base.specs.declared.faults.Kind.TheVariants.{Format64}
use Rattle.dwc_base.specs.Sections.{Fault, unsupported}
use Rattle.dwc_base.specs.Units.{UnitHeader}
use Rattle.dwc_dwarf.specs.Values.{Value, address, constant, flag, info_reference, line_reference, location_reference, text_reference, unit_reference}
use Rattle.dwc_dwarf.specs.LineRows.{LineTable, Segment, row_in_force}
use Rattle.dwc_native.specs.Functions.{recorded_sources}
use Rattle.dwc_native.specs.Images.{row_for_byte, StemsFrom, IsImage}
use Rattle.dwc_base.specs.Outputs.{OutputSection, function, output_sections}
use Rattle.dwc_rules.specs.Carried.{Module, Compilation}
use Rattle.dwc_dwarf.specs.ReadUnits.{Unit, units, table_of_unit, segments_of_unit}
use Rattle.dwc_base.specs.ToldFiles.{bare_file}
use Rattle.dwc_carried.specs.Forests.{carried_units, module_units}
use Rattle.std.specs.List.{AllZip}
use Rattle.dwc_carried.specs.LinesCarried.{AreImages, HasLines, LinesCarried}
use Rattle.dwc_native.specs.Compiled.{nothing_told}

-- the entries of the carried unit, at 88, 93 and 103
abbrev pub content_out : List ℕ
content_out =
    0x01 ∷ 0x00 ∷ 0x00 ∷ 0x00 ∷ 0x00
    ∷ 0x02 ∷ 0x00 ∷ 0x00 ∷ 0x00 ∷ 0x00 ∷ 0x00 ∷ 0x00 ∷ 0x00 ∷ 0x00 ∷ 0x1E
    ∷ 0x03 ∷ 0x6C ∷ 0x00 ∷ 0x00 ∷ 0x00 ∷ 0x3C ∷ 0x00 ∷ 0x00 ∷ 0x00 ∷ 0x00 ∷ 0x00 ∷ 0x00 ∷ 0x00 ∷ 0x00 ∷ 0x00 ∷ []

-- each section begins with what the module's synthetic unit has in it
abbrev pub output_small : List OutputSection
output_small =
    record { name = codes ".debug_abbrev"; body = synthetic_abbreviations ++ (0x01 ∷ 0x11 ∷ 0x01 ∷ 0x10 ∷ 0x17 ∷ 0x00 ∷ 0x00 ∷ 0x02 ∷ 0x2E ∷ 0x01 ∷ 0x11 ∷ 0x01 ∷ 0x12 ∷ 0x0F ∷ 0x00 ∷ 0x00 ∷ 0x03 ∷ 0x34 ∷ 0x00 ∷ 0x03 ∷ 0x0E ∷ 0x49 ∷ 0x10 ∷ 0x02 ∷ 0x17 ∷ 0x00 ∷ 0x00 ∷ 0x00 ∷ []); relocations = [] }
    ∷ record {
      name = codes ".debug_info";
      body = synthetic_info ++ (0x25 ∷ 0x00 ∷ 0x00 ∷ 0x00 ∷ 0x04 ∷ 0x00 ∷ 0x44 ∷ 0x00 ∷ 0x00 ∷ 0x00 ∷ 0x08 ∷ content_out);
      relocations = synthetic_relocations ++ (
          to_section 83 (codes ".debug_abbrev") 68
          ∷ to_section 89 (codes ".debug_line") 0
          ∷ record { offset = 94; size = 8; target = function 0; addend = pos 0 }
          ∷ to_section 104 (codes ".debug_str") 108
          ∷ to_section 108 (codes ".debug_info") 60
          ∷ to_section 112 (codes ".debug_loc") 0 ∷ []);
    }
    ∷ record {
      name = codes ".debug_line";
      body = 0x39 ∷ 0x00 ∷ 0x00 ∷ 0x00 ∷ 0x04 ∷ 0x00 ∷ 0x1B ∷ 0x00 ∷ 0x00 ∷ 0x00 ∷ 0x01 ∷ 0x01 ∷ 0x01 ∷ 0xFB ∷ 0x0E ∷ 0x0D ∷ 0x00 ∷ 0x01 ∷ 0x01 ∷ 0x01 ∷ 0x01 ∷ 0x00 ∷ 0x00 ∷ 0x00 ∷ 0x01 ∷ 0x00 ∷ 0x00 ∷ 0x01 ∷ 0x00 ∷ 0x61 ∷ 0x2E ∷ 0x63 ∷ 0x00 ∷ 0x00 ∷ 0x00 ∷ 0x00 ∷ 0x00 ∷ 0x00 ∷ 0x09 ∷ 0x02 ∷ 0x00 ∷ 0x00 ∷ 0x00 ∷ 0x00 ∷ 0x00 ∷ 0x00 ∷ 0x00 ∷ 0x00 ∷ 0x03 ∷ 0x01 ∷ 0x01 ∷ 0x03 ∷ 0x01 ∷ 0x02 ∷ 0x0F ∷ 0x01 ∷ 0x02 ∷ 0x0F ∷ 0x00 ∷ 0x01 ∷ 0x01 ∷ [];
      relocations =
          record { offset = 40; size = 8; target = function 0; addend = pos 0 } ∷ [];
    }
    ∷ record { name = codes ".debug_loc"; body = empty_list; relocations = [] }
    ∷ record { name = codes ".debug_str"; body = synthetic_texts ++ codes "__vmctx" ++ 0x00 ∷ []; relocations = [] } ∷ []

abbrev pub module_small : Module
module_small = record { sections = sections_small; functions = function_small ∷ []; told = told_small; file = file_small_told; compressed = None; version = 4 }

abbrev pub compilation_small : Compilation
compilation_small = record { order = Little; pointer_bytes = 8; modules = module_small ∷ []; next_id = 0; common_entry = None; version = 4 }

abbrev pub unit_small : Unit
unit_small = record { header = header_small; entries = record { offset = 11; depth = 0; tag = 0x11; attributes = (0x10, line_reference 0) ∷ [] } ∷ record { offset = 16; depth = 1; tag = 0x2E; attributes = (0x11, address (Constant 2)) ∷ (0x12, constant 0x06 11) ∷ [] } ∷ [] }

-- ---- the module's synthetic unit, read again

abbrev pub synthetic_header : UnitHeader
synthetic_header = record { offset = 0; end = 77; version = 4; address_size = 8; unit_type = 1; abbreviations = 0; dwo_id = None; content = at_place 11 synthetic_content }

-- a text elsewhere
abbrev a_text : ℕ → Value
a_text offset = text_reference 0x0E offset

abbrev pub synthetic_unit_out : Unit
synthetic_unit_out = record {
  header = synthetic_header;
  entries =
      record { offset = 11; depth = 0; tag = 0x11; attributes = (0x03, a_text 0) ∷ (0x25, a_text 28) ∷ (0x13, constant 0x05 29) ∷ [] }
      ∷ record { offset = 22; depth = 1; tag = 0x24; attributes = (0x03, a_text 37) ∷ (0x3E, constant 0x0B 7) ∷ (0x0B, constant 0x0B 1) ∷ [] }
      ∷ record { offset = 29; depth = 1; tag = 0x0F; attributes = (0x03, a_text 40) ∷ (0x49, unit_reference 22) ∷ [] }
      ∷ record { offset = 38; depth = 1; tag = 0x13; attributes = (0x03, a_text 44) ∷ [] }
      ∷ record { offset = 43; depth = 2; tag = 0x2E; attributes = (0x6E, a_text 62) ∷ (0x03, a_text 70) ∷ [] }
      ∷ record { offset = 52; depth = 3; tag = 0x05; attributes = (0x49, unit_reference 60) ∷ (0x34, flag true) ∷ [] }
      ∷ record { offset = 60; depth = 1; tag = 0x0F; attributes = (0x03, a_text 74) ∷ (0x49, unit_reference 38) ∷ [] }
      ∷ record { offset = 69; depth = 1; tag = 0x24; attributes = (0x03, a_text 93) ∷ (0x0B, constant 0x0B 4) ∷ (0x3E, constant 0x0B 7) ∷ [] } ∷ [];
}

-- ---- the carried unit, read again

abbrev pub header_out : UnitHeader
header_out = record { offset = 77; end = 118; version = 4; address_size = 8; unit_type = 1; abbreviations = 68; dwo_id = None; content = at_place 88 content_out }

abbrev pub unit_out : Unit
unit_out = record {
  header = header_out;
  entries =
      record { offset = 88; depth = 0; tag = 0x11; attributes = (0x10, line_reference 0) ∷ [] }
      ∷ record { offset = 93; depth = 1; tag = 0x2E; attributes = (0x11, address (Symbol 0 (pos 0))) ∷ (0x12, constant 0x0F 30) ∷ [] }
      ∷ record { offset = 103; depth = 2; tag = 0x34; attributes = (0x03, a_text 108) ∷ (0x49, info_reference 60) ∷ (0x02, location_reference 0) ∷ [] } ∷ [];
}

-- the small module has one unit, and it is carried
pub carried-small : carried_units compilation_small ≡ record { module_of = module_small; unit = unit_small } ∷ []
unfolding drafts_on_literals
carried-small = refl

pub output-read : units (output_sections Little output_small) ≡ record { items = synthetic_unit_out ∷ unit_out ∷ []; fault = None }
unfolding drafts_on_literals
output-read = refl

abbrev pub image_small : Segment
image_small = record { start = Symbol 0 (pos 0); rows = at_line 0 2 ∷ at_line 15 3 ∷ []; end = Some 30 }

-- the module's synthetic unit has no lines
pub no_lines-read : table_of_unit (output_sections Little output_small) synthetic_unit_out ≡ Ok None
unfolding drafts_on_literals
no_lines-read = refl

pub images-read : segments_of_unit (output_sections Little output_small) unit_out ≡ Ok (image_small ∷ [])
unfolding drafts_on_literals
images-read = refl

pub input-read : segments_of_unit sections_small unit_small ≡ Ok segments_small
unfolding drafts_on_literals
input-read = refl

-- whether the test at 15 and the one at 5 hold or not
same_choice : {A : Type 0} (x y : A) (past_15 past_5 from_0 : Bool) → from_0 ≡ true →
    option_or (option_or None (if past_15 then Some y else None)) (if from_0 then Some x else None)
    ≡ option_or (option_or (option_or None (if past_15 then Some y else None)) (if past_5 then Some x else None)) (Some x)
same_choice x y true past_5 from_0 h = refl
same_choice x y false true true h = refl
same_choice x y false false true h = refl
same_choice x y false true false h = absurd (false≢true h)
same_choice x y false false false h = absurd (false≢true h)

agrees-small : (byte : ℕ) → byte < 30 → row_in_force image_small.rows byte ≡ row_for_byte (at_line 0 1 ∷ at_line 3 2 ∷ at_line 8 3 ∷ []) 2 function_small byte
agrees-small byte h = same_choice (line_of_a_c 2) (line_of_a_c 3) (nat_le 15 byte) (nat_le 5 byte) (nat_le 0 byte) (leb-zero byte)

within-small : All (λ r. r.offset ≤ 30) image_small.rows
within-small zero d h = lit≤ tt
within-small (suc zero) d h = lit≤ tt
within-small (suc (suc k)) d h = absurd (omega arith)

-- its first row is that of the first source, and its second stands at the second
stems-small : All (StemsFrom (at_line 0 1 ∷ at_line 3 2 ∷ at_line 8 3 ∷ []) 2 (recorded_sources function_small)) image_small.rows
stems-small zero d h = inr (refl, refl)
stems-small (suc zero) d h = inl (1, record { native = 15; wasm = 10 }, lit< tt, refl, (refl, refl))
stems-small (suc (suc k)) d h = absurd (omega arith)

pub image-small : IsImage (record { start = Constant 2; rows = at_line 0 1 ∷ at_line 3 2 ∷ at_line 8 3 ∷ []; end = Some 11 }) 2 function_small image_small
image-small = record { starts = refl; ends = refl; within = within-small; stems = stems-small; agrees = agrees-small }

pub images-small : AreImages (record { module_of = module_small; unit = unit_small }) (image_small ∷ [])
images-small = record { input = segments_small; input_read = input-read; each = ((function_small, refl, image-small), tt) }

-- the unit's table, as it is read
abbrev pub table_small : LineTable
table_small = the_table (table_of_unit sections_small unit_small)

pub table-read : table_of_unit sections_small unit_small ≡ Ok (Some table_small)
unfolding drafts_on_literals
table-read = refl

-- a unit of an output, by its number, and its table
abbrev pub unit_of : ℕ → List OutputSection → Unit
unit_of place s = get_or (units (output_sections Little s)).items place (record { header = header_small; entries = [] })

abbrev pub table_of : ℕ → List OutputSection → LineTable
table_of place s = the_table (table_of_unit (output_sections Little s) (unit_of place s))

-- the small module's units are read up to their section's end
pub whole-small : All (λ m. (units m.sections).fault ≡ None) compilation_small.modules
unfolding drafts_on_literals
whole-small zero d h = refl
whole-small (suc k) d h = absurd (omega arith)

-- the units of the output have the lines of those of the small module
pub lines-small : AllZip (HasLines 4 (output_sections Little output_small)) (module_units compilation_small) (synthetic_unit_out ∷ unit_out ∷ [])
unfolding drafts_on_literals
lines-small = (
  no_lines-read,
  (
    record {
      input = Some table_small;
      input_read = table-read;
      made = Some (table_of 1 output_small);
      made_read = refl;
      kept = record { version_is = refl; directories = refl; files = refl };
      carried = images-small;
    },
    tt,
  ),
)

-- with another line at byte 15 it is no image
not_image-small : IsImage
    (record { start = Constant 2; rows = at_line 0 1 ∷ at_line 3 2 ∷ at_line 8 3 ∷ []; end = Some 11 })
    2
    function_small
    (record { start = Symbol 0 (pos 0); rows = at_line 0 2 ∷ at_line 15 4 ∷ []; end = Some 30 })
    → ⊥
not_image-small h = let same : 4 ≡ 3 = ap line_in (h.agrees 15 (lit< tt)) in omega (arith, same)

-- A module in the 64-bit format has no units, but its lines are not carried by an output without sections.
abbrev pub compilation_64 : Compilation
compilation_64 = record { order = Little; pointer_bytes = 8; modules = record { sections = three_sections [] (0xFF ∷ 0xFF ∷ 0xFF ∷ 0xFF ∷ []) []; functions = function_small ∷ []; told = nothing_told; file = bare_file 20; compressed = None; version = 4 } ∷ []; next_id = 0; common_entry = None; version = 4 }

units-64 : carried_units compilation_64 ≡ []
unfolding drafts_on_literals
units-64 = refl

fault-64 : All (λ m. (units m.sections).fault ≡ Some (unsupported Format64 0)) compilation_64.modules
unfolding drafts_on_literals
fault-64 zero d h = refl
fault-64 (suc k) d h = absurd (omega arith)

no_fault-64 : (f : Option Fault) → f ≡ Some (unsupported Format64 0) → f ≡ None → ⊥
no_fault-64 f is_fault is_none = true≢false (ap (λ o. is_some o) (sym is_fault ∙ is_none))

not_carried-64 : (s : List OutputSection) → LinesCarried compilation_64 s → ⊥
not_carried-64 s h = no_fault-64 _ (fault-64 0 module_small (lit< tt)) (h.whole 0 module_small (lit< tt))
