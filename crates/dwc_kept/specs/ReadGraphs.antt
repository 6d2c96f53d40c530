-- The entries of a module one after another, each with the place of its unit, and the graph of them.
use Rattle.std.specs.Prelude.{◌≡◌, ◌≢◌, ◌<◌, ◌^◌, All, AllPairs, ℕ, List, map, Bool}
use Rattle.std.specs.List.{flat_map}
use Rattle.dwc_base.specs.Sections.{Sections, Fault}
use Rattle.dwc_base.specs.Listing.{Listing}
use Rattle.dwc_base.specs.Units.{UnitHeader}
use Rattle.dwc_dwarf.specs.Entries.{Entry, entries}
use Rattle.dwc_native.specs.Functions.{Function}
use Rattle.dwc_rules.specs.Carried.{placed_entries}
use Rattle.dwc_dwarf.specs.ReadUnits.{Unit, units_of_headers, units}
use Rattle.dwc_rules.specs.Kept.{Placed}
use Rattle.dwc_rules.specs.KeptEntries.{kept_with, AreLeast}
use Rattle.dwc_rules.specs.KeptModules.{entries_passing}
use Rattle.dwc_rules.specs.EntryRules.{is_required}
use Rattle.dwc_kept.specs.EntryGraphs.{Node, IsGraphOf}

-- an entry, and the header of its unit
pub record Standing : Type 0 where
  pub header : UnitHeader
  pub entry : Entry

-- the entries of some units
abbrev pub standing : Sections → List UnitHeader → List Standing
standing s hs = flat_map (λ h. map (λ e. record { header = h; entry = e }) (entries s h).items) hs

-- the entry with the offset of its unit
abbrev pub placed : Standing → Placed
placed q = record { unit = q.header.offset; entry = q.entry }

-- A graph and tests are those of the entries of some units: nodes at their offsets, of which no two are the same, that keep what they
-- keep, and for each whether it is required.
pub record IsModuleGraph (fs : List Function) (s : Sections) (us : List Unit) (ns : List Node) (required : List Bool) : Type 0 where
  pub graph : IsGraphOf (placed_entries us) ns
  pub required_are : required ≡ flat_map (λ u. map (is_required fs s u.header) u.entries) us
  pub apart : AllPairs (λ e f. e.entry.offset ≢ f.entry.offset) (placed_entries us)
  pub small : All (λ n. n.offset < 2 ^ 32) ns

-- the units of a listing of headers
abbrev pub units_of : Sections → Listing Fault UnitHeader → List Unit
units_of s hs = (units_of_headers s hs.items hs.fault).items

-- the offsets of the entries of some units that are kept, in file order, and those of a module
abbrev pub offsets_kept_of : List Function → Sections → List Unit → List ℕ
offsets_kept_of fs s us = map (λ e. e.entry.offset) (kept_with (placed_entries us) (entries_passing (λ u. is_required fs s u.header) us))

abbrev pub kept_offsets : List Function → Sections → List ℕ
kept_offsets fs s = offsets_kept_of fs s (units s).items

-- Some offsets are those of the least closed set of entries of some units that holds the required ones.
pub record AreLeastOffsets (fs : List Function) (s : Sections) (us : List Unit) (offsets : List ℕ) : Type 0 where
  pub kept : List Placed
  pub offsets_are : offsets ≡ map (λ e. e.entry.offset) kept
  pub least : AreLeast (placed_entries us) (entries_passing (λ u. is_required fs s u.header) us) kept
