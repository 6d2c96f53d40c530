use Rattle.std.proofs.Common.{◌≡◌, drop, map}
use Rattle.std.specs.List.{list_all}
use Rattle.dwc_unit.specs.FileOrders.{looked_up}
use Rattle.dwc_write.specs.Noted.{are_free}
use Rattle.dwc_write.proofs.lists.are_all_free.Given as goal

-- what is left answers what all answer
abbrev pub invariant-loop-i : goal.invariant-loop-i
invariant-loop-i l =
    let es = map (looked_up l.additions) l.order in
    list_all (λ e. are_free l.kind e.attributes) (drop l.i es) ≡ list_all (λ e. are_free l.kind e.attributes) es
