use Rattle.std.proofs.Common.{◌≡◌, nat_cmp, drop, map}
use Rattle.dwc_base.specs.SortedEntries.{sorted_entries}
use Rattle.dwc_wasm.specs.NamesRead.{keyed_by_function}
use Rattle.dwc_wasm.proofs.SortedEntryLaws.{filled}
use Rattle.dwc_wasm.proofs.name_section.by_function.Given as goal

-- the map, with the names that are left put into it, is that of all
abbrev pub invariant-loop-number : goal.invariant-loop-number
invariant-loop-number l = filled nat_cmp l.names.entries (map keyed_by_function (drop l.number-index l.said)) ≡ sorted_entries nat_cmp (map keyed_by_function l.said)
