use Rattle.std.proofs.Common.{◌≡◌, length}
use Rattle.std.specs.Prelude.{reverse}
use Rattle.dwc_clone.specs.OpenWrappers.{CanCloseAll, closed_from, still_open}
use Rattle.dwc_clone.proofs.wrapper.close_wrappers.Given as goal

-- what is left is closed as all is, and stays open as it does
abbrev pub invariant-loop-wrapper : goal.invariant-loop-wrapper
invariant-loop-wrapper l = record {
  left : closed_from l.depth (reverse l.opened.items) l.unit ≡ closed_from l.fn.depth (reverse l.fn.opened.items) l.fn.unit;
  behind : still_open l.depth (reverse l.opened.items) ≡ still_open l.fn.depth (reverse l.fn.opened.items);
  can : CanCloseAll (length l.unit.places) l.unit (reverse l.opened.items);
}

abbrev pub decreases-loop-wrapper : goal.decreases-loop-wrapper
decreases-loop-wrapper l = length l.opened.items
