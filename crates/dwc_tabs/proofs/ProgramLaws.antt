-- A program that is unread, instruction by instruction.
use Rattle.std.proofs.Common.{◌≡◌, ◌+◌, ◌^◌, ◌<◌, refl, sym, ap, ◌∙◌, arith, List, [], ◌∷◌, ◌++◌, length, Option, Some, None, Ok, Err, true, false, is_some, nat_abs, ◌≤◌}
use Rattle.std.specs.Prelude.{option_map}
use Rattle.std.specs.List.{filter_map, list_all}
use Rattle.std.proofs.lemmas.List.Elements.{filter_map-append}
use Rattle.dwc_base.specs.declared.faults.Flaw.{Flaw}
use Rattle.dwc_base.specs.Reading.{Unread}
use Rattle.dwc_base.specs.Sections.{Relocation}
use Rattle.dwc_base.specs.Listing.{with_first, no_items}
use Rattle.dwc_dwarf.specs.LineHeaders.{Instruction, instruction_at}
use Rattle.dwc_dwarf.specs.LineRows.{Registers, LineStep, after, effect, file_defined}
use Rattle.dwc_base.proofs.Takes.{Leaves-at}
use Rattle.dwc_dwarf.proofs.TakesValues.{instruction_at-leaves}
use Rattle.dwc_dwarf.proofs.EntryWalk.{instructions-end, instructions-flaw, instructions-more}
use Rattle.dwc_tabs.specs.declared.parameters.Parameters.{Parameters}
use Rattle.dwc_tabs.specs.declared.program.ProgramCheck.{ProgramCheck}
use Rattle.dwc_tabs.specs.Headers.{program_header}
use Rattle.dwc_tabs.specs.Steps.{capped, shown_step, shown_steps}
use Rattle.dwc_tabs.specs.Programs.{instructions_from, shown_from, steps_from, CanRun, noted, noted_all}
use Rattle.dwc_tabs.proofs.StepLaws.{with_shown, steps-more}

module _ (p : Parameters) (relocations : List Relocation) (u v : Unread) (i : Instruction) (read : instruction_at relocations (program_header p) u ≡ Ok (i, v)) where
  -- an instruction takes a byte at least
  pub program-fewer : length v.left < length u.left
  program-fewer = Leaves-at read (instruction_at-leaves relocations (program_header p) u)

  -- the instructions are the first and those behind it
  pub program-first : instructions_from p relocations u ≡ with_first i (instructions_from p relocations v)
  program-first = instructions-more relocations (program_header p) u v i (omega (arith, program-fewer)) read

  -- what is shown is what the first shows, and what those behind it do
  pub program-shown : (r : Registers) → shown_from p relocations r u ≡ with_shown (option_map shown_step (effect (program_header p) i r)) (shown_from p relocations (capped (after (program_header p) i r)) v)
  program-shown r = ap (λ l. shown_steps (program_header p) r l.items) program-first ∙ steps-more (program_header p) r i (instructions_from p relocations v).items

-- nothing is shown where nothing is left
pub program-end : (p : Parameters) (relocations : List Relocation) (r : Registers) (u : Unread) → length u.left ≡ 0 → shown_from p relocations r u ≡ []
unfolding shown_steps
program-end p relocations r u none = ap (λ l. shown_steps (program_header p) r l.items) (instructions-end relocations (program_header p) u none)

-- a note of what the first shows, and of what those behind it do
pub noted-shown : (s : Option (Option LineStep)) (ss : List (Option LineStep)) (c : ProgramCheck) → noted_all (with_shown s ss) c ≡ noted_all ss (noted s c)
noted-shown None ss c = refl
noted-shown (Some s) ss c = refl

-- all is in range where the first is and those behind it are
pub in_range-behind : (s : Option (Option LineStep)) (ss : List (Option LineStep)) → list_all is_some (with_shown s ss) ≡ true → list_all is_some ss ≡ true
in_range-behind None ss h = h
in_range-behind (Some None) ss h = absurd (cc)
in_range-behind (Some (Some s)) ss h = h

-- the files that a program defines are that of the first instruction, if it defines one, and those of the others
pub defined-first : (i : Instruction) (is : List Instruction) → filter_map file_defined (i ∷ []) ++ filter_map file_defined is ≡ filter_map file_defined (i ∷ is)
defined-first i is = sym (filter_map-append file_defined (i ∷ []) is)

-- nothing is unread where nothing is left
pub instructions-none : (p : Parameters) (relocations : List Relocation) (u : Unread) → length u.left ≡ 0 → instructions_from p relocations u ≡ no_items
instructions-none p relocations u none = instructions-end relocations (program_header p) u none

-- ---- a program that runs to its end

module _ (p : Parameters) (relocations : List Relocation) (r s : Registers) (u v : Unread) (i : Instruction) (read : instruction_at relocations (program_header p) u ≡ Ok (i, v)) (moved : s ≡ capped (after (program_header p) i r)) where
  -- what is shown is what the first instruction shows, and what is shown from the registers behind it
  pub shown-behind : shown_from p relocations r u ≡ with_shown (option_map shown_step (effect (program_header p) i r)) (shown_from p relocations s v)
  shown-behind = rw moved (program-shown p relocations u v i read r)

  -- it runs on behind an instruction
  pub CanRun-behind : nat_abs s.line ≤ nat_abs r.line + 2 ^ 63 → CanRun p relocations r u → CanRun p relocations s v
  CanRun-behind near runs = record {
    whole = sym (ap (λ l. l.fault) (program-first p relocations u v i read)) ∙ runs.whole;
    in_range = in_range-behind (option_map shown_step (effect (program_header p) i r)) (shown_from p relocations s v) (rw shown-behind at runs.in_range);
    room = let fewer = program-fewer p relocations u v i read in let room = runs.room in omega arith;
  }

  -- its steps are the one that is shown, and those behind it
  pub steps-step : (step : LineStep) → Some (Some step) ≡ option_map shown_step (effect (program_header p) i r) → steps_from p relocations r u ≡ step ∷ steps_from p relocations s v
  steps-step step shown = ap (filter_map (λ o. o)) (shown-behind ∙ ap (λ o. with_shown o (shown_from p relocations s v)) (sym shown))

  -- where nothing is shown, its steps are those behind
  pub steps-nothing : None ≡ option_map shown_step (effect (program_header p) i r) → steps_from p relocations r u ≡ steps_from p relocations s v
  steps-nothing shown = ap (filter_map (λ o. o)) (shown-behind ∙ ap (λ o. with_shown o (shown_from p relocations s v)) (sym shown))

  -- and no row is out of range
  pub no-out_of_range : CanRun p relocations r u → Some None ≡ option_map shown_step (effect (program_header p) i r) → ⊥
  no-out_of_range runs shown =
      let none : false ≡ true = ap (λ o. list_all is_some (with_shown o (shown_from p relocations s v))) shown ∙ ap (list_all is_some) (sym shown-behind) ∙ runs.in_range in
      cc

-- what cannot be read leaves the program with a fault
pub program-flaw : (p : Parameters) (relocations : List Relocation) (u : Unread) (flaw : Flaw) → 0 < length u.left → instruction_at relocations (program_header p) u ≡ Err flaw → (instructions_from p relocations u).fault ≡ Some flaw
program-flaw p relocations u flaw some read = ap (λ l. l.fault) (instructions-flaw relocations (program_header p) u flaw some read)

-- a program that runs to its end has none such
pub no-flaw : (p : Parameters) (relocations : List Relocation) (r : Registers) (u : Unread) (flaw : Flaw) → CanRun p relocations r u → 0 < length u.left → instruction_at relocations (program_header p) u ≡ Err flaw → ⊥
no-flaw p relocations r u flaw runs some read = let fault = sym runs.whole ∙ program-flaw p relocations u flaw some read in cc

-- no steps are left where nothing is
pub steps-end : (p : Parameters) (relocations : List Relocation) (r : Registers) (u : Unread) → length u.left ≡ 0 → steps_from p relocations r u ≡ []
steps-end p relocations r u none = ap (filter_map (λ o. o)) (program-end p relocations r u none)
