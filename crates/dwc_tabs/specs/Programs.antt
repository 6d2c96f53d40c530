-- What a program that is unread shows, and what a check of it notes.
use Rattle.std.specs.Prelude.{◌≡◌, ℕ, ◌+◌, ◌*◌, ◌^◌, ◌<◌, min, max, nat_abs, nat_le, nat_lt, List, [], ◌∷◌, ◌++◌, length, Bool, true, false, ◌&&◌, if◌then◌else◌, Option, Some, None, is_some, Result, Ok, Err}
use Rattle.std.specs.List.{filter_map, list_all}
use Rattle.dwc_base.specs.declared.faults.NotRead.{NotRead}
use Rattle.dwc_base.specs.declared.faults.NotRead.TheVariants.{OutOfMemory, Flawed}
use Rattle.dwc_base.specs.declared.faults.Flaw.{Flaw}
use Rattle.dwc_base.specs.Reading.{Unread}
use Rattle.dwc_base.specs.Listing.{Listing}
use Rattle.dwc_base.specs.Sections.{Relocation}
use Rattle.dwc_dwarf.specs.LineHeaders as spec
use Rattle.dwc_dwarf.specs.LineRows.{Registers, LineStep, start, row, end, at_sequence_start, file_defined}
use Rattle.dwc_tabs.specs.declared.parameters.Parameters.{Parameters}
use Rattle.dwc_tabs.specs.declared.instruction.Instruction.{Instruction}
use Rattle.dwc_tabs.specs.declared.program.FileNumbers.{FileNumbers}
use Rattle.dwc_tabs.specs.declared.program.ProgramCheck.{ProgramCheck}
use Rattle.dwc_tabs.specs.declared.step.LineStep as own
use Rattle.dwc_tabs.specs.Headers.{program_header}
use Rattle.dwc_tabs.specs.Instructions.{instruction_view}
use Rattle.dwc_tabs.specs.Steps.{shown_steps, step_view}

-- the instructions that are unread, up to the first that cannot be read
abbrev pub instructions_from : Parameters → List Relocation → Unread → Listing Flaw spec.Instruction
instructions_from p relocations u = spec.instructions relocations (program_header p) u

-- what they show, from some registers on
abbrev pub shown_from : Parameters → List Relocation → Registers → Unread → List (Option LineStep)
shown_from p relocations r u = shown_steps (program_header p) r (instructions_from p relocations u).items

-- the steps among it
abbrev pub steps_from : Parameters → List Relocation → Registers → Unread → List LineStep
steps_from p relocations r u = filter_map (λ s. s) (shown_from p relocations r u)

-- A program runs to its end from some registers on: all its instructions are read, all its rows are in range, and its line
-- stays within 128 bits, however far each instruction moves it.
pub record CanRun (p : Parameters) (relocations : List Relocation) (r : Registers) (u : Unread) : Type 0 where
  pub whole : (instructions_from p relocations u).fault ≡ None
  pub in_range : list_all is_some (shown_from p relocations r u) ≡ true
  pub room : nat_abs r.line + 2 ^ 63 * length u.left < 2 ^ 127

-- a call gives the next step, and none at the end
abbrev pub GivesStep : Option own.LineStep → List LineStep → List LineStep → Type 0
GivesStep (Some s) old new = old ≡ step_view s ∷ new
GivesStep None old new = (old ≡ []) × (new ≡ [])

-- the numbers of some files with a further one
abbrev pub numbers_with : Option FileNumbers → ℕ → FileNumbers
numbers_with None file = record { lowest = file; highest = file }
numbers_with (Some n) file = record { lowest = min n.lowest file; highest = max n.highest file }

-- whether a number is one of so many files: they count from 1, from version 5 on from 0
abbrev pub is_number : ℕ → ℕ → ℕ → Bool
is_number version count file = if nat_lt version 5 then nat_le 1 file && nat_le file count else nat_lt file count

-- the same of numbers by their bounds
abbrev pub are_within : ℕ → ℕ → Option FileNumbers → Bool
are_within version count None = true
are_within version count (Some n) = if nat_lt version 5 then nat_le 1 n.lowest && nat_le n.highest count else nat_lt n.highest count

-- what was noted, with a further row or step
abbrev pub noted_item : Option LineStep → ProgramCheck → ProgramCheck
noted_item None c = record c { in_range = false }
noted_item (Some (row r)) c = record c { files = Some (numbers_with c.files r.file) }
noted_item (Some (start a)) c = c
noted_item (Some (end e)) c = c

-- the same with what one instruction shows
abbrev pub noted : Option (Option LineStep) → ProgramCheck → ProgramCheck
noted None c = c
noted (Some s) c = noted_item s c

-- and with what many show
abbrev pub noted_all : List (Option LineStep) → ProgramCheck → ProgramCheck
noted_all [] c = c
noted_all (s ∷ ss) c = noted_all ss (noted_item s c)

abbrev pub nothing_noted : ProgramCheck
nothing_noted = record { in_range = true; files = None }

-- A program that was read: the check notes all that it shows, and the files that it defines stand behind the given ones.
pub record Checked (p : Parameters) (relocations : List Relocation) (u : Unread) (old new : List spec.LineFile) (check : ProgramCheck) : Type 0 where
  pub whole : (instructions_from p relocations u).fault ≡ None
  pub noted : check ≡ noted_all (shown_from p relocations (at_sequence_start (program_header p)) u) nothing_noted
  pub files : new ≡ old ++ filter_map file_defined (instructions_from p relocations u).items
  pub short : length u.left < 2 ^ 64

-- what a check of a program says: an error is want of memory, or the flaw that is met
abbrev pub Checks : Parameters → List Relocation → Unread → List spec.LineFile → List spec.LineFile → Result ProgramCheck NotRead → Type 0
Checks p relocations u old new (Ok check) = Checked p relocations u old new check
Checks p relocations u old new (Err OutOfMemory) = Unit {0}
Checks p relocations u old new (Err (Flawed flaw)) = (instructions_from p relocations u).fault ≡ Some flaw

-- the file that an instruction defines stands behind the others; only want of memory keeps it out
abbrev pub DefinesFile : Instruction → List spec.LineFile → List spec.LineFile → Result (Unit {0}) NotRead → Type 0
DefinesFile i old new (Ok done) = new ≡ old ++ filter_map file_defined (instruction_view i ∷ [])
DefinesFile i old new (Err OutOfMemory) = Unit {0}
DefinesFile i old new (Err (Flawed flaw)) = ⊥
