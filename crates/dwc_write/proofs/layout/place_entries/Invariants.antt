use Rattle.std.proofs.Common.{◌+◌, ◌≤◌, [], ◌∷◌, map, drop, length}
use Rattle.std.specs.List.{flat_map}
use Rattle.dwc_base.specs.declared.records.Endian.{Endian}
use Rattle.dwc_unit.specs.FileOrders.{looked_up}
use Rattle.dwc_unit.specs.GivenUnits.{AreOwn, first_uses, no_places, shapes_of, written_entries}
use Rattle.dwc_write.specs.Layouts.{codes_of}
use Rattle.dwc_unit.specs.Lists.{no_lists, nowhere}
use Rattle.dwc_write.specs.ShapeViews.{AreFound, shape_view}
use Rattle.dwc_section.specs.Spelled.{at_places}
use Rattle.dwc_unit.specs.SpelledUnits.{entry_bytes, header_length, shaped}
use Rattle.dwc_section.specs.Writers.{most_bytes}
use Rattle.dwc_write.proofs.EntriesLaws.{IsStep}
use Rattle.dwc_write.proofs.NotedLaws.{IsNotingOn}
use Rattle.dwc_write.proofs.layout.place_entries.Given as goal

-- what is found of the first entries, with what is to be found of those that are left, is the whole
abbrev pub invariant-loop-i : goal.invariant-loop-i
invariant-loop-i l =
    let es = map (looked_up l.additions) l.order in
    let uses = first_uses [] (shapes_of es) in
    let all = shaped (written_entries nowhere no_places no_lists uses es) in
    record {
      short : l.place ≤ most_bytes;
      step : (o : Endian) → IsStep o l.size (map shape_view l.coded.shapes.shapes.items) uses l.coded.codes.items l.coded.offsets.items l.place (codes_of es) (at_places (entry_bytes o l.size) (λ place x. place ∷ []) (header_length l.version) all) (header_length l.version + length (flat_map (entry_bytes o l.size) all)) (map (looked_up l.additions) (drop l.i l.order));
      own : AreOwn (map shape_view l.coded.shapes.shapes.items);
      found : AreFound l.coded.shapes;
      notes : IsNotingOn l.additions l.coded.notes es (map (looked_up l.additions) (drop l.i l.order));
    }
