-- The units of the output that carry those of a module.
use Rattle.std.specs.Prelude.{◌≡◌, ℕ, suc, ◌≤◌, ◌<◌, List, [], ◌∷◌, ◌++◌, map, length, Bool, Some, Option, Result, Contains, All}
use Rattle.std.specs.List.{flat_map}
use Rattle.dwc_base.specs.declared.records.Encoding.{Encoding}
use Rattle.dwc_base.specs.declared.section_name.SectionName.TheVariants.{Info}
use Rattle.dwc_native.specs.Functions.{Function}
use Rattle.dwc_native.specs.Compiled.{ToldModule}
use Rattle.dwc_rules.specs.Carried.{Module, carried_unit}
use Rattle.dwc_dwarf.specs.ReadUnits.{Unit}
use Rattle.dwc_rules.specs.Refusals.{Refusal, unit_refusal}
use Rattle.dwc_base.specs.Listing.{first_of}
use Rattle.dwc_rules.specs.KeptModules.{carried_in}
use Rattle.dwc_rules.specs.Drafts.{Goal, made_of, synthetic_entry, itself}
use Rattle.dwc_rules.specs.DraftForests.{place_of_goal, settled_unit}
use Rattle.dwc_rules.specs.SyntheticUnit.{synthetic_unit}
use Rattle.dwc_rules.specs.ReachedEntries.{unit_refusals}
use Rattle.dwc_carried.specs.Forests.{rules_of, drafts_of}
use Rattle.dwc_rules.specs.ModuleDrafts.{module_drafts}
use Rattle.dwc_rules.specs.CarriedUnits.{kept_of, carried_units_of}
use Rattle.dwc_dwarf.specs.Trees.{Tree}
use Rattle.dwc_kept.specs.declared.read_unit.ReadUnit.{ReadUnit}
use Rattle.dwc_kept.specs.declared.kept_units.KeptModule.{KeptModule}
use Rattle.dwc_kept.specs.ReadUnits.{IsKeptModule}
use Rattle.dwc_source.specs.declared.places.EmittedEntry.{EmittedEntry}
use Rattle.dwc_source.specs.OutputPlaces.{place_of}
use Rattle.dwc_source.specs.MadeValues.{Grows}
use Rattle.dwc_unit.specs.declared.units.Dwarf.{Dwarf}
use Rattle.dwc_unit.specs.AddedInOrder.{IsInOrder, tree_meant}
use Rattle.dwc_unit.specs.Renumbered.{LeadsToEntries}
use Rattle.dwc_unit.specs.GivenUnits.{GivenUnit, IsWritable, ordered}
use Rattle.dwc_unit.specs.UsedTexts.{texts_of_attributes}
use Rattle.dwc_clone.specs.ClonedUnits.{AreNumbered}
use Rattle.dwc_carry.specs.declared.error.DebugError.{DebugError}
use Rattle.dwc_carry.specs.declared.last_lines.LastLines.{LastLines}
use Rattle.dwc_carry.specs.Refusals.{ReadsOr}
use Rattle.dwc_carry.specs.LastLines.{IsLast}
use Rattle.dwc_carry.specs.MadeUnits.{LeadsTo, HasLinesOf, AreMadeOf}
use Rattle.dwc_carry.specs.ModulePlaces.{carried_offsets, emitted, numbered_lists}

-- ---- a module

-- The units and the kept entries that were read are those of a module with some functions, of which something is told, whose `.debug_info`
-- is bytes, and which is carried to a version.
pub record IsOfModule (version : ℕ) (c : Module) (fs : List Function) (told : ToldModule) (m : KeptModule) : Type 0 where
  pub functions : c.functions ≡ fs
  pub told_is : c.told ≡ told
  pub version_is : c.version ≡ version
  pub is : IsKeptModule c.functions c.sections m
  pub bytes : All (λ b. b < 256) (c.sections.bytes Info)

-- They are those of some module.
pub record HasModule (version : ℕ) (fs : List Function) (told : ToldModule) (m : KeptModule) : Type 0 where
  pub of : Module
  pub is : IsOfModule version of fs told m

-- what is refused of a carried unit of a module: its line table, and then its kept entries
abbrev pub refusals_of : Module → Unit → List Refusal
refusals_of c u = unit_refusals (unit_refusal c.sections) (rules_of c) (kept_of c) u

-- what its unit of the output is to say, where the module's synthetic unit, the first of the module, has a number there
abbrev pub wanted_of : Bool → Module → ℕ → Unit → Tree
wanted_of big_endian c first u = settled_unit (place_of_goal first (module_drafts big_endian c)) (drafts_of big_endian (record { module_of = c; unit = u }))

-- ---- one unit

-- A unit that was read is one of a module, some offsets are those of its kept entries, and places are those of the module, behind its own
-- unit, where the unit's entries stand in the unit of a number.
pub record IsUnitOf (version : ℕ) (c : Module) (fs : List Function) (told : ToldModule) (m : KeptModule) (first number : ℕ) (places : List EmittedEntry) (kept : List ℕ) (r : ReadUnit) : Type 0 where
  pub module_is : IsOfModule version c fs told m
  pub one : Contains m.units.items r
  pub offsets : kept ≡ carried_offsets m.kept r
  pub some : 0 < length kept
  pub places_are : places ≡ numbered_lists (suc first) (emitted m.kept m.units.items)
  pub own : (offset : ℕ) (p : ℕ × ℕ) → r.unit.header.offset ≤ offset → offset < r.unit.header.end → place_of places offset ≡ Some p → p.0 ≡ number

-- A unit to be written, of a number, carries a unit of a module, whose synthetic unit is the first of the module, where the offsets of kept
-- entries have numbers: it has the lines of that; and what its kept entries become was added in file order, under some numbers, and says
-- with these what it is to say.
pub record CarriesUnit (encoding : Encoding) (big_endian : Bool) (c : Module) (first : ℕ) (places : List EmittedEntry) (table : List (List ℕ)) (number : ℕ) (u : Unit) (made : GivenUnit) : Type 0 where
  pub has_lines : HasLinesOf (record { module_of = c; unit = u }) made
  pub depths : List ℕ
  pub order : IsInOrder depths made
  pub leads : LeadsToEntries made
  pub goals : Goal → Option (ℕ × ℕ)
  pub kept : (offset : ℕ) → goals (made_of offset itself) ≡ place_of places offset
  pub synthetic : (place : ℕ) → goals (synthetic_entry place) ≡ Some (first, place)
  pub numbers : List ℕ
  pub numbered : AreNumbered goals number (drafts_of big_endian (record { module_of = c; unit = u })) numbers made
  pub says : tree_meant table number depths made.additions ≡ settled_unit goals (drafts_of big_endian (record { module_of = c; unit = u }))
  pub texts : All (λ e. All (λ n. n < length table) (texts_of_attributes e.attributes)) made.additions
  pub writable : IsWritable encoding.version encoding.address_size (ordered made)

-- A unit is added that carries it, and the table of texts has grown.
pub record AddsUnit (encoding : Encoding) (big_endian : Bool) (c : Module) (first : ℕ) (places : List EmittedEntry) (u : Unit) (old new : Dwarf) : Type 0 where
  pub made : GivenUnit
  pub added : new.units.units.items ≡ old.units.units.items ++ made ∷ []
  pub grows : Grows old.strings new.strings
  pub is : CarriesUnit encoding big_endian c first places new.strings (length old.units.units.items) u made

-- It is added, and the line table that was carried last is known; or the first refusal is answered.
abbrev pub GivesUnit : Encoding → Bool → Module → ℕ → List EmittedEntry → Unit → Dwarf → Dwarf → Result (Option LastLines) DebugError → Type 0
GivesUnit encoding big_endian c first places u old new result =
    ReadsOr (λ last. AddsUnit encoding big_endian c first places u old new × IsLast c.functions encoding c.sections new.units.units.items last) (first_of (refusals_of c u)) result

-- ---- all of a module

-- Units, of which the first has a number, carry units of a module, one to one and in order.
abbrev pub CarryUnits : Encoding → Bool → Module → ℕ → List EmittedEntry → List (List ℕ) → ℕ → List Unit → List GivenUnit → Type 0
CarryUnits encoding big_endian c first places table number [] [] = Prim.Unit {0}
CarryUnits encoding big_endian c first places table number (u ∷ us) (g ∷ gs) = CarriesUnit encoding big_endian c first places table number u g × CarryUnits encoding big_endian c first places table (suc number) us gs
CarryUnits encoding big_endian c first places table number _ _ = ⊥

-- Units are added that carry the carried units of a module, one to one and in order, and the table of texts has grown.
pub record AddsUnits (encoding : Encoding) (big_endian : Bool) (c : Module) (first : ℕ) (old new : Dwarf) : Type 0 where
  pub made : List GivenUnit
  pub added : new.units.units.items ≡ old.units.units.items ++ made
  pub grows : Grows old.strings new.strings
  pub counted : length made ≡ length (carried_units_of c)
  pub each : (at : ℕ → ℕ → Option (ℕ × ℕ)) → LeadsTo at (length old.units.units.items) made → ((place : ℕ) → place < length (synthetic_unit c.told.names.set_memory c.told.memory) → at first place ≡ Some (first, place))
      → AreMadeOf at encoding new.strings (length old.units.units.items) (map carried_unit (carried_units_of c)) (map (wanted_of big_endian c first) (carried_in (kept_of c))) made

-- They are added, or the first refusal is answered.
abbrev pub GivesUnits : Encoding → Bool → Module → ℕ → Dwarf → Dwarf → Result (Prim.Unit {0}) DebugError → Type 0
GivesUnits encoding big_endian c first old new result = ReadsOr (λ done. AddsUnits encoding big_endian c first old new) (first_of (flat_map (refusals_of c) (carried_in (kept_of c)))) result
