-- The module without sections of DWARF where the frame of its function is told, from its bytes to the printed text: the module's synthetic
-- unit, the simulated one, and the frames behind them. A text without these is no answer.
use Rattle.std.proofs.Common.{◌≡◌, ℕ, zero, suc, pos, arith, List, [], ◌∷◌, ◌++◌, length, Some, None, refl, sym, ap, subst, ◌∙◌}
use Rattle.std.specs.Prelude.{Option, All, codes, true}
use Rattle.std.specs.List.{list_all}
use Rattle.dwc_base.specs.declared.records.Endian.TheVariants.{Little}
use Rattle.dwc_base.specs.Outputs.{OutputSection, function, section, output_sections}
use Rattle.dwc_output.specs.Fields.{IsRelocated}
use Rattle.dwc_rules.specs.Carried.{Compilation}
use Rattle.dwc_dwarf.specs.ReadUnits.{units}
use Rattle.dwc_carried.specs.Forests.{trees_made}
use Rattle.dwc_output.specs.FramesCarried.{others_in}
use Rattle.dwc_carried.specs.LinesCarried.{LinesCarried}
use Rattle.dwc_output.specs.OutputForm.{HaveTargetForm}
use Rattle.dwc_carried.specs.OutputCarried.{OutputCarried}
use Rattle.dwc_dwarf.specs.TreeLaws.{have_short_expressions}
use Rattle.dwc_output.specs.TreeReading.{ranges_read}
use Rattle.dwc_worked.proofs.CarriedSmall.{table_of}
use Rattle.dwc_base.proofs.FramesApart.{frames-apart}
use Rattle.dwc_worked.proofs.LineTables.{function_small}
use Rattle.dwc_worked.proofs.OnFrames.{frames_on_literals}
use Rattle.dwc_output.proofs.SimulatedLineLaws.{simulated_segment-is}
use Rattle.dwc_cli.specs.Inputs.{Input, Loaded, loaded, compilation_of}
use Rattle.dwc_cli.specs.Printed.{printed, is_plain}
use Rattle.dwc_cli.specs.RunStatus.{Carries, CarryInput, has_short_expressions}
use Rattle.dwc_cli.proofs.PrintedLaws.{printed_injective}
use Rattle.dwc_worked.proofs.WholeRun.{whole_on_literals, read_in}
use Rattle.dwc_worked.proofs.OutputParts.{names-from}
use Rattle.dwc_worked.proofs.BrokenInputs.{file_bare}
use Rattle.dwc_worked.proofs.Answers.{of_one}
use Rattle.dwc_worked.proofs.BareRun.{output_bare, trees_bare, form-bare, related-bare}
use Rattle.dwc_worked.proofs.RefusedFrames.{map_framed, usual, zero_symbol, grows, frame_grows, compilation_with, told-grows, refusal-grows}

-- ---- the input

abbrev input_framed : Input
input_framed = of_one (map_framed usual zero_symbol grows) file_bare

abbrev read_framed : Loaded
read_framed = read_in (loaded input_framed)

abbrev compilation_framed : Compilation
compilation_framed = compilation_with usual grows frame_grows

framed-read : loaded input_framed ≡ Some read_framed
unfolding whole_on_literals
framed-read = refl

-- ---- the output

-- the common entry, and from 24 on the description of the function
abbrev section_framed : OutputSection
section_framed = record {
  name = codes ".debug_frame";
  body =
      0x14 ∷ 0x00 ∷ 0x00 ∷ 0x00 ∷ 0xFF ∷ 0xFF ∷ 0xFF ∷ 0xFF ∷ 0x01 ∷ 0x00 ∷ 0x01 ∷ 0x78 ∷ 0x10 ∷ 0x0C ∷ 0x07 ∷ 0x08 ∷ 0x90 ∷ 0x01
      ∷ 0x00 ∷ 0x00 ∷ 0x00 ∷ 0x00 ∷ 0x00 ∷ 0x00
      ∷ 0x1C ∷ 0x00 ∷ 0x00 ∷ 0x00 ∷ 0x00 ∷ 0x00 ∷ 0x00 ∷ 0x00 ∷ 0x00 ∷ 0x00 ∷ 0x00 ∷ 0x00 ∷ 0x00 ∷ 0x00 ∷ 0x00 ∷ 0x00
      ∷ 0x1E ∷ 0x00 ∷ 0x00 ∷ 0x00 ∷ 0x00 ∷ 0x00 ∷ 0x00 ∷ 0x00 ∷ 0x41 ∷ 0x0E ∷ 0x10 ∷ 0x00 ∷ 0x00 ∷ 0x00 ∷ 0x00 ∷ 0x00 ∷ [];
  relocations =
      record { offset = 28; size = 4; target = section (codes ".debug_frame"); addend = pos 0 }
      ∷ record { offset = 32; size = 8; target = function 0; addend = pos 0 } ∷ [];
}

abbrev pub output_framed : List OutputSection
output_framed = output_bare ++ section_framed ∷ []

-- a reader of entries and lines sees what it sees without the frames
same_sections : output_sections Little output_framed ≡ output_sections Little output_bare
same_sections = frames-apart Little output_bare section_framed refl

all-read : All (λ m. (units m.sections).fault ≡ None) compilation_framed.modules
unfolding whole_on_literals
all-read zero d h = refl
all-read (suc k) d h = absurd (omega arith)

lines-framed : LinesCarried compilation_framed output_framed
unfolding whole_on_literals
lines-framed = record {
  whole = all-read;
  output = (units (output_sections Little output_framed)).items;
  output_read = refl;
  each = (
    refl,
    (
      record { made = table_of 1 output_framed; made_read = refl; version_is = refl; directories = refl; files = refl; each = (simulated_segment-is (codes "g.wasm") 20 function_small refl refl, tt) },
      tt,
    ),
  );
}

form-framed : HaveTargetForm 4 8 (units (output_sections Little output_framed)).items
form-framed = subst (λ s. HaveTargetForm 4 8 (units s).items) (sym same_sections) form-bare

related-framed : All (IsRelocated (output_sections Little output_framed)) (others_in output_framed)
related-framed = subst (λ s. All (IsRelocated s) output_bare) (sym same_sections) related-bare

-- ---- the text

carried-framed : OutputCarried compilation_framed output_framed
unfolding whole_on_literals frames_on_literals ranges_read
carried-framed = record {
  lines = lines-framed;
  wanted = trees_bare;
  is_forest = refl;
  trees = refl;
  targets = refl;
  scopes = (tt, (tt, tt));
  locations = (tt, (tt, tt));
  contexts = (tt, (tt, tt));
  texts = refl;
  form = form-framed;
  names = names-from output_framed refl;
  known = refl;
  of_5 = λ is. absurd (omega (arith, is));
  relocated = related-framed;
  frames = refl;
}

all-short : have_short_expressions (trees_made compilation_framed) ≡ true
unfolding whole_on_literals
all-short = refl

-- it carries its input
carries-framed : CarryInput input_framed output_framed
unfolding whole_on_literals
carries-framed = record {
  read = read_framed;
  is_read = refl;
  accepted = refusal-grows;
  plain = refl;
  carried = subst (λ c. OutputCarried c output_framed) (sym told-grows) carried-framed;
  short = ap has_short_expressions told-grows ∙ all-short;
}

-- ---- other texts

-- an answer 0 whose text is printed of plain sections says that these carry what is read
carried_by : (known : List OutputSection) → list_all is_plain known ≡ true → Carries input_framed (Some []) (Some (printed known)) → OutputCarried compilation_framed known
carried_by known plain h =
    let text : ◌≡◌ {A = Option (List ℕ)} (Some (printed known)) (Some (printed h.sections)) = h.written in
    let texts : printed known ≡ printed h.sections = cc in
    let same : h.sections ≡ known = sym (printed_injective known h.sections plain h.carry.plain texts) in
    let found : loaded input_framed ≡ Some h.carry.read = h.carry.is_read in
    let reads : h.carry.read ≡ read_framed = cc (found, framed-read) in
    let carried : OutputCarried (compilation_of read_framed) known = subst (OutputCarried (compilation_of read_framed)) same (subst (λ r. OutputCarried (compilation_of r) h.sections) reads h.carry.carried) in
    subst (λ c. OutputCarried c known) told-grows carried

-- one without the frames is no answer 0
lost : OutputCarried compilation_framed output_bare → ⊥
unfolding whole_on_literals frames_on_literals
lost h = omega (arith, ap length h.frames)

text-lost : Carries input_framed (Some []) (Some (printed output_bare)) → ⊥
text-lost h = lost (carried_by output_bare refl h)
