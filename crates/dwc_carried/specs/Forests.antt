-- The trees that an output is to say, and why an input is refused. (This project's own rules.)
use Rattle.std.specs.Prelude.{ℕ, List, [], ◌∷◌, ◌++◌, map, Bool, true, false, if◌then◌else◌, Option, Some, None, Result, Ok, Err}
use Rattle.std.specs.List.{filter_map, flat_map}
use Rattle.dwc_base.specs.declared.records.Endian.{Endian}
use Rattle.dwc_base.specs.declared.records.Endian.TheVariants.{Little, Big}
use Rattle.dwc_rules.specs.Carried.{Module, Compilation, CarriedUnit, WantedUnit}
use Rattle.dwc_dwarf.specs.ReadUnits.{Unit}
use Rattle.dwc_rules.specs.CarriedUnits.{kept_of, carried_units_of, wanted_units_of}
use Rattle.dwc_native.specs.Compiled.{Memory}
use Rattle.dwc_native.specs.Functions.{Function}
use Rattle.dwc_native.specs.Addends.{is_long}
use Rattle.dwc_rules.specs.Refusals.{Refusal, of_place, long_function, far_memory, of_frame, unit_refusal}
use Rattle.dwc_base.specs.Listing.{first_of}
use Rattle.dwc_native.specs.CallFrames.{FrameDescription}
use Rattle.dwc_native.specs.FrameRefusals.{frame_refusals}
use Rattle.dwc_output.specs.FramesCarried.{descriptions}
use Rattle.dwc_rules.specs.KeptModules.{kept_in}
use Rattle.dwc_rules.specs.Clones.{CodeRules}
use Rattle.dwc_rules.specs.CarriedDrafts.{source_of, unit_drafts}
use Rattle.dwc_rules.specs.ModuleDrafts.{expressions_of, module_drafts}
use Rattle.dwc_rules.specs.Drafts.{Draft}
use Rattle.dwc_rules.specs.DraftForests as Drafts
use Rattle.dwc_rules.specs.EntryRules.{named_faults, rules_of_source}
use Rattle.dwc_carried.specs.SimulatedUnitRules.{simulated_drafts, simulated_unit_refusals, simulated_wanted}
use Rattle.dwc_carried.specs.SimulatedFunctions.{is_begun}
use Rattle.dwc_rules.specs.SyntheticUnit as Synthetic
use Rattle.dwc_rules.specs.ReachedEntries as Reached
use Rattle.dwc_dwarf.specs.Trees.{Tree}

-- the carried units of an input, module by module
abbrev pub carried_units : Compilation → List CarriedUnit
carried_units c = flat_map carried_units_of c.modules

-- the units of an output for the modules of an input: of each module its synthetic unit and those of its carried units
abbrev pub module_units : Compilation → List WantedUnit
module_units c = flat_map wanted_units_of c.modules

-- The units of an output, in order: those for the modules, and the simulated one.
abbrev pub wanted_units : Compilation → List WantedUnit
wanted_units c = module_units c ++ simulated_wanted (is_begun c.modules) c.next_id c.modules

-- ---- refusals

-- the rules for the code of a unit of a module
abbrev pub rules_of : Module → Unit → CodeRules Refusal
rules_of m u = rules_of_source (expressions_of m u)

-- what is refused of a module as it is read
abbrev pub reading_refusals : Module → List Refusal
reading_refusals m = Reached.module_refusals of_place (named_faults m.sections) (unit_refusal m.sections) (rules_of m) (kept_of m)

-- what is refused of the unit that a module has of its own
abbrev pub synthetic_refusals : Memory → List Refusal
synthetic_refusals memory = if Synthetic.is_too_far memory then far_memory ∷ [] else []

-- what is refused of a module: its synthetic unit, and then what is read
abbrev pub module_refusals : Module → List Refusal
module_refusals m = synthetic_refusals m.told.memory ++ reading_refusals m

-- what is refused of functions with a symbol that are too long
abbrev pub function_refusals : List Function → List Refusal
function_refusals fs = filter_map (λ f. if is_long f then Some long_function else None) fs

-- the frame descriptions of the functions of all modules
abbrev pub frame_descriptions : Compilation → List (ℕ × FrameDescription)
frame_descriptions c = flat_map (λ m. descriptions m.told.frames m.functions) c.modules

-- what is refused of them
abbrev pub refused_frames : Compilation → List Refusal
refused_frames c = map of_frame (frame_refusals c.common_entry (frame_descriptions c))

-- what is refused of an input: of the functions of all modules, then of what is read, module by module, then of the simulated unit, and
-- then of frames
abbrev pub refusals : Compilation → List Refusal
refusals c = flat_map (λ m. function_refusals m.functions) c.modules ++ (flat_map module_refusals c.modules ++ (simulated_unit_refusals (is_begun c.modules) c.next_id c.modules ++ refused_frames c))

-- the refusal of an input: the first of these
abbrev pub first_refusal : Compilation → Option Refusal
first_refusal c = first_of (refusals c)

-- ---- trees

-- whether numbers have their highest byte first
abbrev pub is_big : Endian → Bool
is_big Little = false
is_big Big = true

-- the entries made of the kept ones of a carried unit
abbrev pub drafts_of : Bool → CarriedUnit → List Draft
drafts_of big_endian u = unit_drafts (expressions_of u.module_of u.unit) (source_of (kept_of u.module_of) u.unit) big_endian (kept_in (kept_of u.module_of) u.unit)

-- the trees of the units that are made for the modules of an input
abbrev pub module_trees : Compilation → List Tree
module_trees c = Drafts.forest (map (module_drafts (is_big c.order)) c.modules) None

-- the trees of the units that are made for an input
abbrev pub trees_made : Compilation → List Tree
trees_made c = Drafts.forest (map (module_drafts (is_big c.order)) c.modules) (simulated_drafts (is_begun c.modules) c.next_id c.modules)

-- The trees of an output, one for each unit, module by module, and the last; or the first refusal in the order of the work.
abbrev pub forest : Compilation → Result (List Tree) Refusal
forest c = elim (first_refusal c) [ Some refusal ↦ Err refusal | None ↦ Ok (trees_made c) ]
