use Rattle.std.proofs.Common.{◌≡◌, drop}
use Rattle.std.specs.List.{list_all}
use Rattle.dwc_write.specs.ShortLists.{are_short_values}
use Rattle.dwc_write.proofs.short_lists.are_short_entries.Given as goal

-- what is left answers what all answer
abbrev pub invariant-loop-place : goal.invariant-loop-place
invariant-loop-place l = list_all (λ e. are_short_values e.attributes) (drop l.place l.additions) ≡ list_all (λ e. are_short_values e.attributes) l.additions
