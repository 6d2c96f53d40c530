use Rattle.std.proofs.Common.{◌≡◌, [], map, drop}
use Rattle.dwc_unit.specs.SpelledUnits.{entry_bytes, shaped}
use Rattle.dwc_write.specs.SpelledRelocations.{entry_relocations}
use Rattle.dwc_unit.specs.GivenUnits.{behind_entries, first_uses, shapes_of, written_entries}
use Rattle.dwc_unit.specs.Lists.{behind_attributes}
use Rattle.dwc_unit.specs.FileOrders.{looked_up}
use Rattle.dwc_write.specs.LayoutViews.{spelling_places}
use Rattle.dwc_section.proofs.WritesLaws.{whole}
use Rattle.dwc_write.proofs.entries.write_entries.Given as goal

-- what is there, with the entries that are left, is the whole; the next lists stand behind the others
abbrev pub invariant-loop-i : goal.invariant-loop-i
invariant-loop-i l =
    let es = map (looked_up l.additions) l.order in
    let uses = first_uses [] (shapes_of es) in
    record {
      entries : whole (entry_bytes l.initial.info.order l.spelling.size) (entry_relocations l.initial.info.order l.spelling.size) (shaped (written_entries (behind_attributes l.spelling.version l.spelling.size) (spelling_places l.spelling) l.lists uses (map (looked_up l.additions) (drop l.i l.order)))) l.info
          ≡ whole (entry_bytes l.initial.info.order l.spelling.size) (entry_relocations l.initial.info.order l.spelling.size) (shaped (written_entries (behind_attributes l.spelling.version l.spelling.size) (spelling_places l.spelling) l.spelling.lists uses es)) l.initial.info;
      lists : behind_entries l.spelling.version l.spelling.size l.lists (map (looked_up l.additions) (drop l.i l.order)) ≡ behind_entries l.spelling.version l.spelling.size l.spelling.lists es;
    }
