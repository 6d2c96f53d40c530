-- The module without sections of DWARF from its bytes to the printed text, which holds the module's synthetic unit and the simulated one:
-- its function is simulated there.
use Rattle.std.proofs.Common.{◌≡◌, zero, suc, arith, List, [], ◌∷◌, get_or, Some, None, true, refl, sym, ap, subst, ◌∙◌}
use Rattle.std.specs.Prelude.{ℕ, All, codes}
use Rattle.std.specs.List.{AllZip}
use Rattle.dwc_base.specs.declared.records.Endian.TheVariants.{Little}
use Rattle.dwc_base.specs.declared.section_name.SectionName.TheVariants.{Abbrev, Info, Line, Ranges, Str}
use Rattle.dwc_base.specs.Outputs.{OutputRelocation, OutputSection, output_sections}
use Rattle.dwc_native.specs.Compiled.{no_memory}
use Rattle.dwc_output.specs.PathFields.{header_paths_at}
use Rattle.dwc_output.specs.Fields.{fields_at, fields_of_entry, fields_of_instructions, fields_of_line_table, fields_of_named, fields_of_section, relocations_of_fields, IsRelocated, AreRelocated}
use Rattle.dwc_rules.specs.Carried.{Compilation}
use Rattle.dwc_dwarf.specs.ReadUnits.{units}
use Rattle.dwc_carried.specs.Forests.{first_refusal, trees_made, wanted_units}
use Rattle.dwc_carried.specs.LinesCarried.{HasLines, LinesCarried}
use Rattle.dwc_output.specs.OutputForm.{HaveTargetForm, HasDistinctNames}
use Rattle.dwc_carried.specs.OutputCarried.{OutputCarried}
use Rattle.dwc_native.specs.Runs.{interval_of}
use Rattle.dwc_dwarf.specs.TreeLaws.{have_short_expressions}
use Rattle.dwc_output.specs.TreeReading.{ranges_read}
use Rattle.dwc_dwarf.specs.Trees.{Tree}
use Rattle.dwc_worked.proofs.FieldCases.{each-behind}
use Rattle.dwc_worked.proofs.OutputSmall.{HasForm}
use Rattle.dwc_worked.proofs.SyntheticTrees.{synthetic_tree}
use Rattle.dwc_worked.proofs.SimulatedInputs.{simulated_front, simulated_function}
use Rattle.dwc_worked.proofs.SimulatedOutput.{output_simulated, lines-simulated}
use Rattle.dwc_cli.specs.Inputs.{Loaded, compilation_of}
use Rattle.dwc_cli.specs.RunStatus.{CarryInput, has_short_expressions}
use Rattle.dwc_worked.proofs.OutputParts.{all-from, names-from, no_section}
use Rattle.dwc_worked.proofs.WholeRun.{whole_on_literals, told_bare, told-bare, one_told, runtime_names, path_small, address_map_small}
use Rattle.dwc_worked.proofs.BrokenInputs.{file_bare, with_small_map}
use Rattle.dwc_worked.proofs.RefusedTexts.{read_of, no_units}

-- ---- the input, of whose function no label is told

abbrev read_bare : Loaded
read_bare = read_of file_bare

abbrev pub compilation_bare : Compilation
compilation_bare = one_told read_bare (told_bare runtime_names 0 no_memory)

bare-told : compilation_of read_bare ≡ compilation_bare
unfolding whole_on_literals
bare-told = λ i. one_told read_bare (told-bare runtime_names 0 0 address_map_small no_memory (Some path_small) i)

none-refused : first_refusal compilation_bare ≡ None
unfolding whole_on_literals
none-refused = refl

all-short : have_short_expressions (trees_made compilation_bare) ≡ true
unfolding whole_on_literals
all-short = refl

-- ---- the lines of the output

abbrev pub output_bare : List OutputSection
output_bare = output_simulated

all-read : All (λ m. (units m.sections).fault ≡ None) compilation_bare.modules
unfolding whole_on_literals
all-read zero d h = refl
all-read (suc k) d h = absurd (omega arith)

lines-bare : LinesCarried compilation_bare output_bare
unfolding whole_on_literals
lines-bare = record {
  whole = all-read;
  output = (units (output_sections Little output_bare)).items;
  output_read = refl;
  each = (refl, (lines-simulated, tt));
}

-- ---- its form

pub form-bare : HaveTargetForm 4 8 (units (output_sections Little output_bare)).items
unfolding whole_on_literals
form-bare = all-from HasForm (units (output_sections Little output_bare)).items ((refl, refl), ((refl, refl), tt))

pub names-bare : HasDistinctNames output_bare
names-bare = names-from output_bare refl

abbrev relocations_at : ℕ → List OutputRelocation
relocations_at place = (get_or output_bare place no_section).relocations

relocated-info : relocations_of_fields (fields_of_section (output_sections Little output_bare) Info) ≡ relocations_at 1
unfolding whole_on_literals fields_of_section fields_at fields_of_entry
relocated-info = refl

relocated-line : relocations_of_fields (fields_of_section (output_sections Little output_bare) Line) ≡ relocations_at 2
unfolding whole_on_literals fields_of_section fields_of_line_table fields_of_instructions header_paths_at
relocated-line = refl

relocated-ranges : relocations_of_fields (fields_of_section (output_sections Little output_bare) Ranges) ≡ relocations_at 3
unfolding whole_on_literals fields_of_section fields_of_named
relocated-ranges = refl

pub related-bare : AreRelocated Little output_bare
unfolding fields_of_section
related-bare = all-from (IsRelocated (output_sections Little output_bare)) output_bare (
  record { name = Abbrev; named = refl; fields = refl; rising = each-behind 0 [] refl },
  (
    record { name = Info; named = refl; fields = sym relocated-info; rising = each-behind 0 (relocations_at 1) refl },
    (
      record { name = Line; named = refl; fields = sym relocated-line; rising = each-behind 0 (relocations_at 2) refl },
      (
        record { name = Ranges; named = refl; fields = sym relocated-ranges; rising = each-behind 0 (relocations_at 3) refl },
        (
          record { name = Str; named = refl; fields = refl; rising = each-behind 0 [] refl },
          tt,
        ),
      ),
    ),
  ),
)

-- ---- the text

-- the synthetic unit, and the simulated one with the function
abbrev pub trees_bare : List Tree
trees_bare = synthetic_tree 0 ∷ simulated_front (codes "g.wasm") (codes "/m") (interval_of 0 (0, 30) ∷ []) (simulated_function 0 30 (codes "wasm-function[0]") 25 ∷ []) ∷ []

carried_bare : OutputCarried compilation_bare output_bare
unfolding whole_on_literals ranges_read
carried_bare = record {
  lines = lines-bare;
  wanted = trees_bare;
  is_forest = refl;
  trees = refl;
  targets = refl;
  scopes = (tt, (tt, tt));
  locations = (tt, (tt, tt));
  contexts = (tt, (tt, tt));
  texts = refl;
  form = form-bare;
  names = names-bare;
  known = refl;
  of_5 = λ is. absurd (omega (arith, is));
  relocated = related-bare;
  frames = refl;
}

-- it carries its input
carries-bare : CarryInput (with_small_map file_bare) output_bare
unfolding whole_on_literals
carries-bare = record {
  read = read_bare;
  is_read = refl;
  accepted = ap first_refusal bare-told ∙ none-refused;
  plain = refl;
  carried = subst (λ c. OutputCarried c output_bare) (sym bare-told) carried_bare;
  short = ap has_short_expressions bare-told ∙ all-short;
}

-- and an output without units carries nothing, since the synthetic unit is missing
nothing_carried-bare : LinesCarried (compilation_of read_bare) [] → ⊥
unfolding whole_on_literals
nothing_carried-bare h =
    let items : h.output ≡ [] = ap (λ l. l.items) (sym h.output_read ∙ no_units) in
    subst (λ us. AllZip (HasLines 4 (output_sections Little [])) (wanted_units (compilation_of read_bare)) us) items h.each
