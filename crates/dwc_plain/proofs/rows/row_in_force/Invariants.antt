use Rattle.std.proofs.Common.{◌≡◌, map, option_map, drop}
use Rattle.std.specs.Option.{option_or}
use Rattle.dwc_dwarf.specs.LineRows.{LineTable, named_row, row_in_force}
use Rattle.dwc_plain.specs.PlainRows.{contents_in, last_at}
use Rattle.dwc_plain.proofs.rows.row_in_force.Given as goal

-- the row among those that are left, or else the one that was found, is the row among all
abbrev pub invariant-loop-row : goal.invariant-loop-row
invariant-loop-row l = record {
  contents : (t : LineTable) → option_or (row_in_force (map (named_row t) (drop l.row-index l.rows)) l.offset) (option_map (contents_in t) l.found) ≡ row_in_force (map (named_row t) l.rows) l.offset;
  row : option_or (last_at (drop l.row-index l.rows) l.offset) l.found ≡ last_at l.rows l.offset;
}
