-- The units of a module as they are read, and what is kept of them.
use Rattle.std.specs.Prelude.{◌≡◌, ◌<◌, ◌^◌, ℕ, List, length, Bool, nat_lt, ◌&&◌, None, All}
use Rattle.std.specs.List.{AllZip, filter}
use Rattle.dwc_base.specs.Sections.{Sections, Fault}
use Rattle.dwc_base.specs.Listing.{Listing}
use Rattle.dwc_base.specs.Units.{UnitHeader, unit_headers}
use Rattle.dwc_dwarf.specs.Entries.{entries}
use Rattle.dwc_native.specs.Functions.{Function}
use Rattle.dwc_rules.specs.Carried.{has_root_tag}
use Rattle.dwc_dwarf.specs.ReadUnits.{Unit, units_of_headers, units, root}
use Rattle.dwc_rules.specs.Refusals.{table_offset}
use Rattle.dwc_base.specs.declared.constants.TheConstants.{DW_TAG_compile_unit}
use Rattle.dwc_kept.specs.declared.read_unit.ReadUnit.{ReadUnit}
use Rattle.dwc_kept.specs.declared.kept_units.KeptModule.{KeptModule}
use Rattle.dwc_kept.specs.KeptUnits.{is_in_unit}
use Rattle.dwc_kept.specs.ReadGraphs.{units_of, offsets_kept_of, kept_offsets, AreLeastOffsets}

-- the unit of a header, with its entries
abbrev pub unit_read : Sections → UnitHeader → Unit
unit_read s h = record { header = h; entries = (entries s h).items }

-- A unit of a header that was read, with whether its root is a compile unit, and the line table that the root names.
pub record IsReadUnit (s : Sections) (h : UnitHeader) (r : ReadUnit) : Type 0 where
  pub sections : r.unit.sections ≡ s
  pub header : r.unit.header ≡ h
  pub tag : r.is_compile_unit ≡ has_root_tag DW_TAG_compile_unit (unit_read s h)
  pub lines : r.line_table ≡ table_offset (root (unit_read s h))

-- The units of a listing of headers that are read without a fault, and the offsets of their kept entries.
pub record IsKeptAmong (fs : List Function) (s : Sections) (hs : Listing Fault UnitHeader) (m : KeptModule) : Type 0 where
  pub whole : (units_of_headers s hs.items hs.fault).fault ≡ None
  pub kept : m.kept ≡ offsets_kept_of fs s (units_of s hs)
  pub least : AreLeastOffsets fs s (units_of s hs) m.kept
  pub units : AllZip (IsReadUnit s) hs.items m.units.items
  pub small : All (λ offset. offset < 2 ^ 32) m.kept

-- The units of a module that is read without a fault, and the offsets of its kept entries.
pub record IsKeptModule (fs : List Function) (s : Sections) (m : KeptModule) : Type 0 where
  pub whole : (units s).fault ≡ None
  pub kept : m.kept ≡ kept_offsets fs s
  pub units : AllZip (IsReadUnit s) (unit_headers s).items m.units.items
  pub small : All (λ offset. offset < 2 ^ 32) m.kept

-- A unit that was read is carried where its root is a compile unit and an offset of a kept entry lies in it.
abbrev pub is_carried_read : List ℕ → ReadUnit → Bool
is_carried_read kept r = r.is_compile_unit && nat_lt 0 (length (filter (is_in_unit r.unit.header) kept))
