-- What is refused of a module, in the order of reading. (This project's own order.)
use Rattle.std.specs.Prelude.{List, ◌++◌, map, Option, option_map, option_to_list}
use Rattle.std.specs.List.{flat_map}
use Rattle.dwc_base.specs.declared.faults.Kind.TheVariants.{Compressed}
use Rattle.dwc_base.specs.Listing.{Listing}
use Rattle.dwc_base.specs.Sections.{Sections, Fault, unsupported}
use Rattle.dwc_base.specs.Units.{UnitHeader, unit_headers}
use Rattle.dwc_dwarf.specs.Entries.{Entry, entries}
use Rattle.dwc_rules.specs.Carried.{Module}
use Rattle.dwc_dwarf.specs.ReadUnits.{Unit}
use Rattle.dwc_rules.specs.Clones.{CodeRules, entry_refusals}
use Rattle.dwc_rules.specs.KeptModules.{KeptModule, carried_in, kept_in}
use Rattle.dwc_rules.specs.CarriedDrafts.{source_of}

-- what cannot be read of the entries of a unit: of each what it names by itself, and last that there is none to read
abbrev pub listing_faults : (Entry → List Fault) → Listing Fault Entry → List Fault
listing_faults named es = flat_map named es.items ++ option_to_list es.fault

-- What cannot be read of `.debug_info`: of each unit its abbreviation table and its entries, each with what it names by itself before
-- the next one is read; and the header behind them.
unfoldable pub info_faults : (UnitHeader → Entry → List Fault) → Sections → List Fault
info_faults named s = flat_map (λ h. listing_faults (named h) (entries s h)) (unit_headers s).items ++ option_to_list (unit_headers s).fault

-- what cannot be read of a module before its units are carried: a compressed section, and then `.debug_info`
abbrev pub reading_faults : (UnitHeader → Entry → List Fault) → Module → List Fault
reading_faults named m = option_to_list (option_map (unsupported Compressed) m.compressed) ++ info_faults named m.sections

-- What is refused of the kept entries of a carried unit, in file order.
unfoldable pub kept_refusals : {E : Type 0} → (Unit → CodeRules E) → KeptModule → Unit → List E
kept_refusals rules m u = flat_map (entry_refusals (rules u) (source_of m u)) (kept_in m u)

-- what is refused of a carried unit: its line table, and then its kept entries
abbrev pub unit_refusals : {E : Type 0} → (Unit → Option E) → (Unit → CodeRules E) → KeptModule → Unit → List E
unit_refusals of_table rules m u = option_to_list (of_table u) ++ kept_refusals rules m u

-- What is refused of a module, in the order of reading: what cannot be read of it, and then each carried unit.
unfoldable pub module_refusals : {E : Type 0} → (Fault → E) → (UnitHeader → Entry → List Fault) → (Unit → Option E) → (Unit → CodeRules E) → KeptModule → List E
module_refusals of_fault named of_table rules m = map of_fault (reading_faults named m.parts) ++ flat_map (unit_refusals of_table rules m) (carried_in m)
