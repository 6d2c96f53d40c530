-- The unit for functions without debugging information, added behind those of all modules.
use Rattle.std.specs.Prelude.{◌≡◌, ℕ, ◌+◌, ◌%◌, ◌^◌, ◌<◌, Bool, if◌then◌else◌, List, [], ◌∷◌, ◌++◌, map, length, Option, None, option_to_list, Result}
use Rattle.std.specs.BTreeSet.{BTreeSet}
use Rattle.dwc_base.specs.declared.records.Encoding.{Encoding}
use Rattle.dwc_base.specs.declared.records.OutputFor.{OutputFor}
use Rattle.dwc_rules.specs.Carried.{Module}
use Rattle.dwc_native.specs.Functions.{Function}
use Rattle.dwc_base.specs.Listing.{first_of}
use Rattle.dwc_rules.specs.SyntheticUnit.{place_of_context_pointer}
use Rattle.dwc_rules.specs.DraftForests.{settled_unit}
use Rattle.dwc_carried.specs.SimulatedFunctions.{is_begun}
use Rattle.dwc_rules.specs.Drafts.{Draft}
use Rattle.dwc_carried.specs.SimulatedUnit.{base_types, simulated_refusals, simulated_root, simulated_unit, unit_count}
use Rattle.dwc_carried.specs.SimulatedUnitRules.{simulated_unit_refusals, simulated_wanted, simulated_drafts_at, simulated_in_files}
use Rattle.dwc_dwarf.specs.Trees.{TreeValue}
use Rattle.dwc_carried.specs.UnitPaths.{path_name, unit_path}
use Rattle.dwc_addr.specs.Compilations.{CompilationValue}
use Rattle.dwc_isa.specs.Registers.{Registers}
use Rattle.dwc_image.specs.SimulatedSequences.{simulated_program}
use Rattle.dwc_unit.specs.declared.lists.RangeList.{RangeList}
use Rattle.dwc_unit.specs.declared.attributes.DebugInfoRef.{DebugInfoRef}
use Rattle.dwc_unit.specs.GivenUnits.{GivenUnit, IsWritable, ordered}
use Rattle.dwc_unit.specs.Renumbered.{renumbered}
use Rattle.dwc_unit.specs.TextTables.{IsText}
use Rattle.dwc_clone.specs.BegunNumbers.{is_noted}
use Rattle.dwc_source.specs.MadeValues.{Grows}
use Rattle.dwc_carry.specs.declared.error.DebugError.{DebugError}
use Rattle.dwc_carry.specs.declared.simulated_root.RootTexts.{RootTexts}
use Rattle.dwc_carry.specs.Inputs.{modules_of}
use Rattle.dwc_carry.specs.SimulatedCode.{intervals_of}
use Rattle.dwc_carry.specs.MadeEntries.{IsDense}
use Rattle.dwc_carry.specs.MadeUnits.{LeadsTo, AreMadeOf, HasSimulatedLines}
use Rattle.dwc_carry.specs.SyntheticUnits.{entry_of, reference_meant}
use Rattle.dwc_carry.specs.Refusals.{ReadsOr}
use Rattle.dwc_carry.specs.SimulatedAdditions.{simulated_root_addition}
use Rattle.dwc_carry.specs.SimulatedDrafts.{BeginsWith, IsSimulated}

-- ---- what the units of modules tell

-- References go to the pointers to the contexts of modules, one to one and in order, of whose synthetic units the first has a number.
abbrev pub ReferToContexts : ℕ → List Module → List DebugInfoRef → Type 0
ReferToContexts synthetic [] [] = Unit {0}
ReferToContexts synthetic (m ∷ ms) (r ∷ rs) = (r ≡ entry_of synthetic (place_of_context_pointer m.told.memory)) × ReferToContexts (synthetic + unit_count m) ms rs
ReferToContexts synthetic _ _ = ⊥

-- The noted numbers are those of the functions that kept subprograms of the carried units of modules begin in.
abbrev pub AreTranslated : List Module → BTreeSet ℕ → Type 0
AreTranslated ms translated = (n : ℕ) → is_noted translated n ≡ is_begun ms n

-- ---- the unit, before it is added

-- A unit has the line program of some simulated functions and begins with the root of a path, whose range list has their code, for some
-- output, and the types of numbers.
pub record IsTyped (output : OutputFor) (encoding : Encoding) (path : List ℕ) (fs : List (ℕ × Function)) (texts : List (List ℕ)) (u : GivenUnit) : Type 0 where
  pub names : RootTexts
  pub list : RangeList
  pub begins : BeginsWith encoding (simulated_program encoding.address_size (path_name path) fs) (simulated_root_addition output names list) u
  pub dense : IsDense u
  pub some : 0 < length u.additions
  pub simulated : (number : ℕ) → IsSimulated number texts (simulated_root output path (intervals_of fs) ∷ base_types) u

-- The entries of modules are added, whose units are told before, or the first refusal of their variables is answered.
abbrev pub GivesEntries : (ℕ → Bool) → ℕ → List Draft → List Module → List (List ℕ) → GivenUnit → Result (Unit {0}) DebugError → Type 0
GivesEntries translated number whole ms after new result = ReadsOr (λ done. IsSimulated number after whole new) (first_of (simulated_refusals translated ms)) result

-- A unit of a path says the entries of modules, whatever its number, with references to the types of pointers to their contexts, and has
-- their lines, by the numbers that are translated; the table of texts has grown.
pub record IsSimulatedUnit (translated : ℕ → Bool) (encoding : Encoding) (path : List ℕ) (ms : List Module) (refs : List DebugInfoRef) (before after : List (List ℕ)) (u : GivenUnit) : Type 0 where
  pub grows : Grows before after
  pub lines : HasSimulatedLines (path_name path) (simulated_in_files translated ms) u
  pub simulated : (number : ℕ) → IsSimulated number after (simulated_unit translated path number (map reference_meant refs) ms) u
  pub writable : IsWritable encoding.version encoding.address_size (ordered u)

-- It is made, or the first refusal of their variables is answered.
abbrev pub GivesUnit : (ℕ → Bool) → Encoding → List ℕ → List Module → List DebugInfoRef → List (List ℕ) → List (List ℕ) → Result GivenUnit DebugError → Type 0
GivesUnit translated encoding path ms refs before after result = ReadsOr (IsSimulatedUnit translated encoding path ms refs before after) (first_of (simulated_refusals translated ms)) result

-- A path is that of the unit of the modules of a compilation, for any target, and has no zero byte.
abbrev pub IsPathOf : CompilationValue → List ℕ → Type 0
IsPathOf c path = (registers : Registers) (m : Module) (ms : List Module) → modules_of registers c ≡ m ∷ ms → (path ≡ unit_path c.next_id m) × IsText path

-- a compilation whose counter of names has risen where a name is generated
abbrev pub counted_name : Bool → CompilationValue → CompilationValue
counted_name is_generated c = record c { next_id = if is_generated then (c.next_id + 1) % 2 ^ 64 else c.next_id }

-- ---- the unit

-- what references say, where the numbers of all units' entries are put to places
abbrev pub referred : (ℕ → ℕ → Option (ℕ × ℕ)) → List DebugInfoRef → List TreeValue
referred at refs = map (renumbered at) (map reference_meant refs)

-- The unit is added, where there is a module, that is to say its tree, with references to the types of pointers to contexts, and has its
-- lines; the table of texts has grown.
pub record AddsSimulatedUnit (translated : ℕ → Bool) (encoding : Encoding) (next_id : ℕ) (ms : List Module) (refs : List DebugInfoRef) (old new : List GivenUnit) (before after : List (List ℕ)) : Type 0 where
  pub made : List GivenUnit
  pub added : new ≡ old ++ made
  pub grows : Grows before after
  pub each : (at : ℕ → ℕ → Option (ℕ × ℕ)) → LeadsTo at (length old) made
      → AreMadeOf at encoding after (length old) (simulated_wanted translated next_id ms) (map (settled_unit (λ goal. None)) (option_to_list (simulated_drafts_at translated next_id (length old) (referred at refs) ms))) made

-- It is added, or the first refusal is answered.
abbrev pub GivesSimulatedUnit : (ℕ → Bool) → Encoding → ℕ → List Module → List DebugInfoRef → List GivenUnit → List GivenUnit → List (List ℕ) → List (List ℕ) → Result (Unit {0}) DebugError → Type 0
GivesSimulatedUnit translated encoding next_id ms refs old new before after result = ReadsOr (λ done. AddsSimulatedUnit translated encoding next_id ms refs old new before after) (first_of (simulated_unit_refusals translated next_id ms)) result
