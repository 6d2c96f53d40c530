-- A module's units with those of their entries that are kept, and the units that are carried. (This project's own rule.)
use Rattle.std.specs.Prelude.{◌==◌, List, map, Bool}
use Rattle.std.specs.List.{filter, flat_map}
use Rattle.dwc_dwarf.specs.Entries.{Entry}
use Rattle.dwc_rules.specs.Kept.{Placed}
use Rattle.dwc_rules.specs.Carried.{Module, placed_entries, is_carried_unit}
use Rattle.dwc_dwarf.specs.ReadUnits.{Unit, units}
use Rattle.dwc_rules.specs.KeptEntries.{kept_with}

-- a module's units, all their entries, and the kept ones among these
pub record KeptModule : Type 0 where
  pub parts : Module
  pub units : List Unit
  pub entries : List Placed
  pub kept : List Placed

-- the entries of units that pass a test
abbrev pub entries_passing : (Unit → Entry → Bool) → List Unit → List Placed
entries_passing test us = flat_map (λ u. map (λ e. record { unit = u.header.offset; entry = e }) (filter (test u) u.entries)) us

-- units with the entries that are kept from those on that a test requires
abbrev pub kept_units : (Unit → Entry → Bool) → Module → List Unit → KeptModule
kept_units is_required m us = record { parts = m; units = us; entries = placed_entries us; kept = kept_with (placed_entries us) (entries_passing is_required us) }

-- the units of a module, as far as they can be read
unfoldable pub kept_module : (Unit → Entry → Bool) → Module → KeptModule
kept_module is_required m = kept_units is_required m (units m.sections).items

-- the carried units, in order: those of compile units of which an entry is kept
abbrev pub carried_in : KeptModule → List Unit
carried_in m = filter (is_carried_unit m.kept) m.units

-- the kept entries of a unit, in file order
abbrev pub kept_in : KeptModule → Unit → List Placed
kept_in m u = filter (λ e. e.unit == u.header.offset) m.kept
