use Rattle.std.proofs.Common.{◌≡◌, drop}
use Rattle.dwc_write.specs.LayoutViews.{spelling_places}
use Rattle.dwc_unit.specs.Lists.{behind_attributes}
use Rattle.dwc_write.proofs.EntriesLaws.{values_left}
use Rattle.dwc_write.proofs.entries.write_values.Given as goal

-- what is there, with the values that are left, is the whole; the next lists stand behind the others
abbrev pub invariant-loop-i : goal.invariant-loop-i
invariant-loop-i l = record {
  values : values_left l.spelling.version l.spelling.size (spelling_places l.spelling) l.initial.info.order l.lists (drop l.i l.attributes) l.info ≡ values_left l.spelling.version l.spelling.size (spelling_places l.spelling) l.initial.info.order l.initial.lists l.attributes l.initial.info;
  lists : behind_attributes l.spelling.version l.spelling.size l.lists (drop l.i l.attributes) ≡ behind_attributes l.spelling.version l.spelling.size l.initial.lists l.attributes;
}
