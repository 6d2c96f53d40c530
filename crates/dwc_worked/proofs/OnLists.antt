-- The definitions of runs, lists and scopes that stay shut: a proof that computes on literals names a set on its `unfolding` line.
use Rattle.std.proofs.Common.{ℕ}
use Rattle.dwc_worked.proofs.DraftsOnLiterals.{drafts_on_literals}
use Rattle.dwc_dwarf.specs.RawLists.{placed_expression_at, location_behind, raw_location_at, raw_locations}
use Rattle.dwc_dwarf.specs.Lists.{locations_at, locations_of_value}
use Rattle.dwc_rules.specs.Scopes.{lineage, scope_in_force, frame_in_force}

unfoldable pub lists_on_literals : ℕ
unfolding drafts_on_literals placed_expression_at location_behind raw_location_at raw_locations locations_at locations_of_value
lists_on_literals = 0

unfoldable pub ranges_on_literals : ℕ
unfolding lists_on_literals lineage scope_in_force frame_in_force
ranges_on_literals = 0
