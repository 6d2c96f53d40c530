use Rattle.std.proofs.Common.{◌≡◌, ◌+◌, drop, length, map, take}
use Rattle.std.specs.List.{All}
use Rattle.dwc_unit.specs.GivenLines.{FitsLines}
use Rattle.dwc_unit.specs.GivenUnits.{OrderedUnit, FitsOrdered, ordered, version_of}
use Rattle.dwc_write.specs.SpelledOutput.{all_units, empty_sections, with_units}
use Rattle.dwc_write.specs.SectionViews.{sections_view, tables_view}
use Rattle.dwc_write.proofs.sections.write_units.Given as goal

-- the units that are left are those from a place on; what is there, with them, is the whole; those that are written fit
abbrev pub invariant-loop-unit : goal.invariant-loop-unit
invariant-loop-unit l =
    let ps = tables_view l.tables in
    let us = map ordered l.fn.units.items in
    record {
      left : l.unit-iterator.rest.items ≡ drop l.place l.fn.units.items;
      many : l.unit-iterator.rest.len + l.place ≡ length l.fn.units.items;
      units : with_units ps (drop l.place us) (sections_view l.sections) ≡ all_units l.order ps us;
      done : sections_view l.sections ≡ with_units ps (take l.place us) (empty_sections l.order (version_of us));
      info : l.sections.info.order ≡ l.order;
      line : l.sections.line.order ≡ l.order;
      fits : All FitsOrdered (take l.place us);
      lines : All (λ (u : OrderedUnit). FitsLines u.lines) (take l.place us);
    }
