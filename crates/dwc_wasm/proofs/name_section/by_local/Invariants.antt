use Rattle.std.proofs.Common.{◌≡◌, drop, map}
use Rattle.dwc_base.specs.SortedEntries.{sorted_entries, pair_cmp}
use Rattle.dwc_wasm.specs.NamesRead.{keyed_by_local}
use Rattle.dwc_wasm.proofs.SortedEntryLaws.{filled}
use Rattle.dwc_wasm.proofs.name_section.by_local.Given as goal

-- the map, with the names that are left put into it, is that of all
abbrev pub invariant-loop-function : goal.invariant-loop-function
invariant-loop-function l = filled pair_cmp l.names.entries (map keyed_by_local (drop l.function-index l.said)) ≡ sorted_entries pair_cmp (map keyed_by_local l.said)
