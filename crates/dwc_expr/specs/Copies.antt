-- Copies of operations for native ranges.
use Rattle.std.specs.Prelude.{ℕ, List}
use Rattle.dwc_base.specs.declared.records.Address.{Address}
use Rattle.dwc_dwarf.specs.Trees.{Location}
use Rattle.dwc_unit.specs.RangeLists.{interval_of}

-- operations at an address, for so many bytes
abbrev pub copy_at : List ℕ → Address × ℕ → Location
copy_at bytes r = record { over = interval_of r; bytes = bytes }
