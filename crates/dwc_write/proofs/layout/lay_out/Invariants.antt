use Rattle.std.proofs.Common.{◌≤◌, map, take}
use Rattle.std.specs.List.{All, AllZip}
use Rattle.dwc_base.specs.declared.records.Endian.{Endian}
use Rattle.dwc_unit.specs.GivenUnits.{FitsOrdered, ordered}
use Rattle.dwc_write.specs.LayoutViews.{IsLaidOut, places_view}
use Rattle.dwc_section.specs.Writers.{most_bytes}
use Rattle.dwc_write.proofs.LayoutLaws.{IsLaying}
use Rattle.dwc_write.proofs.layout.lay_out.Given as goal

-- the first units are laid out, within the most bytes of their section
abbrev pub invariant-loop-i : goal.invariant-loop-i
invariant-loop-i l = record {
  short : l.start ≤ most_bytes;
  laid : AllZip IsLaidOut (take l.i l.units) l.layouts.items;
  laying : (order : Endian) → IsLaying order (map ordered l.units) l.i l.start (map places_view l.layouts.items);
  fits : All FitsOrdered (take l.i (map ordered l.units));
}
