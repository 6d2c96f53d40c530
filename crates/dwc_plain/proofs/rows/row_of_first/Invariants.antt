use Rattle.std.proofs.Common.{◌≡◌, map, drop}
use Rattle.dwc_dwarf.specs.LineRows.{LineTable, named_row}
use Rattle.dwc_native.specs.Images.{row_of_first}
use Rattle.dwc_plain.specs.PlainRows.{source_view, at_first}
use Rattle.dwc_plain.proofs.rows.row_of_first.Given as goal

-- the sources so far have no row
abbrev pub invariant-loop-source : goal.invariant-loop-source
invariant-loop-source l = record {
  contents : (t : LineTable) → row_of_first (map (named_row t) l.rows) l.start (map source_view (drop l.source-index l.sources)) ≡ row_of_first (map (named_row t) l.rows) l.start (map source_view l.sources);
  row : at_first l.rows l.start (map source_view (drop l.source-index l.sources)) ≡ at_first l.rows l.start (map source_view l.sources);
}
