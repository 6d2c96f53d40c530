use Rattle.std.proofs.Common.{◌≡◌}
use Rattle.std.specs.Prelude.{option_map}
use Rattle.dwc_dwarf.specs.Entries.{entry_places_left}
use Rattle.dwc_read.specs.Links.{linked_from}
use Rattle.dwc_read.specs.Places.{place_view, IsShallow}
use Rattle.dwc_read.proofs.link_steps.go_on_links.Given as goal

-- what is left from here is what was left at first
abbrev pub invariant-loop : goal.invariant-loop
invariant-loop l =
    (linked_from l.unit.sections l.unit.header l.table (option_map place_view l.place) ≡ linked_from l.unit.sections l.unit.header l.table (option_map place_view l.fn.place))
    × IsShallow (option_map place_view l.place)

abbrev pub decreases-loop : goal.decreases-loop
decreases-loop l = entry_places_left (option_map place_view l.place)
