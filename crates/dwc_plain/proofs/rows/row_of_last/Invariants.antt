use Rattle.std.proofs.Common.{◌≡◌, map, option_map, drop}
use Rattle.std.specs.Option.{option_or}
use Rattle.dwc_dwarf.specs.LineRows.{LineTable, named_row}
use Rattle.dwc_native.specs.Images.{row_of_last}
use Rattle.dwc_plain.specs.PlainRows.{contents_in, source_view, at_last}
use Rattle.dwc_plain.proofs.rows.row_of_last.Given as goal

-- the row of the sources that are left, or else the one that was found, is that of all
abbrev pub invariant-loop-source : goal.invariant-loop-source
invariant-loop-source l = record {
  contents : (t : LineTable) → option_or (row_of_last (map (named_row t) l.rows) l.start (map source_view (drop l.source-index l.sources)) l.byte) (option_map (contents_in t) l.found) ≡ row_of_last (map (named_row t) l.rows) l.start (map source_view l.sources) l.byte;
  row : option_or (at_last l.rows l.start (map source_view (drop l.source-index l.sources)) l.byte) l.found ≡ at_last l.rows l.start (map source_view l.sources) l.byte;
}
