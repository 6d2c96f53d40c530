-- What is made of the modules of an input.
use Rattle.std.specs.Prelude.{◌≡◌, ℕ, List, ◌++◌, map, length, Bool, Option, None, Result, All}
use Rattle.std.specs.List.{flat_map}
use Rattle.dwc_base.specs.declared.records.Encoding.{Encoding}
use Rattle.dwc_base.specs.declared.translation.ModuleTranslation.{ModuleTranslation}
use Rattle.dwc_base.specs.Translations.{translation_sections}
use Rattle.dwc_base.specs.TranslationNames.{told_file}
use Rattle.dwc_native.specs.Functions.{Function}
use Rattle.dwc_native.specs.Compiled.{ToldModule}
use Rattle.dwc_rules.specs.Carried.{Module}
use Rattle.dwc_dwarf.specs.ReadUnits.{units}
use Rattle.dwc_base.specs.Listing.{first_of}
use Rattle.dwc_rules.specs.DraftForests.{trees_from}
use Rattle.dwc_carried.specs.Forests.{reading_refusals, module_refusals}
use Rattle.dwc_rules.specs.ModuleDrafts.{module_drafts}
use Rattle.dwc_rules.specs.CarriedUnits.{wanted_units_of}
use Rattle.dwc_unit.specs.declared.units.Dwarf.{Dwarf}
use Rattle.dwc_unit.specs.GivenUnits.{GivenUnit}
use Rattle.dwc_source.specs.MadeValues.{Grows}
use Rattle.dwc_carry.specs.declared.error.DebugError.{DebugError}
use Rattle.dwc_carry.specs.Refusals.{ReadsOr}
use Rattle.dwc_carry.specs.MadeUnits.{LeadsTo, AreMadeOf}
use Rattle.dwc_carry.specs.declared.carry_modules.CarriedModules.{CarriedModules}
use Rattle.dwc_carry.specs.CarriedUnits.{AddsUnits}
use Rattle.dwc_carry.specs.SimulatedUnits.{AreTranslated, ReferToContexts}
use Rattle.dwc_carry.specs.SimulatedDrafts.{ContextsStay}

-- a module, with the functions that its transform keeps and what is told of it, that is carried to a version
abbrev pub transformed_module : ℕ → ModuleTranslation → List Function → ToldModule → Module
transformed_module version t fs told = record { sections = translation_sections t; functions = fs; told = told; file = told_file t; compressed = t.compressed; version = version }

-- ---- what is read of a module

-- Units are added that carry the units of a module, whose units are read to their ends, behind its synthetic unit, which has a number; the
-- table of texts has grown.
pub record AddsCarried (encoding : Encoding) (big_endian : Bool) (m : Module) (own : ℕ) (old new : Dwarf) : Type 0 where
  pub units_added : AddsUnits encoding big_endian m own old new
  pub whole : (units m.sections).fault ≡ None

-- They are added, or the first refusal is answered.
abbrev pub GivesCarried : Encoding → Bool → Module → ℕ → Dwarf → Dwarf → Result (Unit {0}) DebugError → Type 0
GivesCarried encoding big_endian m own old new result = ReadsOr (λ done. AddsCarried encoding big_endian m own old new) (first_of (reading_refusals m)) result

-- ---- modules

-- Units are added that are made for modules, whose units are read to their ends, and that are to say the trees of these; the table of
-- texts has grown. References go to the contexts of the modules, which lead there, and the numbers of the functions that kept subprograms
-- begin in are noted, and no others.
pub record AddsModules (encoding : Encoding) (big_endian : Bool) (ms : List Module) (old new : List GivenUnit) (before after : List (List ℕ)) (carried : CarriedModules) : Type 0 where
  pub made : List GivenUnit
  pub added : new ≡ old ++ made
  pub grows : Grows before after
  pub each : (at : ℕ → ℕ → Option (ℕ × ℕ)) → LeadsTo at (length old) made → AreMadeOf at encoding after (length old) (flat_map wanted_units_of ms) (trees_from (length old) (map (module_drafts big_endian) ms)) made
  pub whole : All (λ m. (units m.sections).fault ≡ None) ms
  pub refers : ReferToContexts (length old) ms carried.vmctx_ptrs.items
  pub contexts : (at : ℕ → ℕ → Option (ℕ × ℕ)) → LeadsTo at (length old) made → ContextsStay at (length old) ms
  pub translated : AreTranslated ms carried.translated

-- They are added, or the first refusal is answered.
abbrev pub GivesModules : Encoding → Bool → List Module → Dwarf → Dwarf → Result CarriedModules DebugError → Type 0
GivesModules encoding big_endian ms old new result = ReadsOr (λ carried. AddsModules encoding big_endian ms old.units.units.items new.units.units.items old.strings new.strings carried) (first_of (flat_map module_refusals ms)) result
