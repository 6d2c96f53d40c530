use Rattle.std.proofs.Common.{◌≡◌, drop, length, map}
use Rattle.dwc_carry.specs.MadeEntries.{AreBehind, IsDense, addition_of, with_additions}
use Rattle.dwc_carry.proofs.made_entries.add_entries.Given as goal

-- what is added so far, and what is left to be added, is all
abbrev pub invariant-loop-i : goal.invariant-loop-i
invariant-loop-i l = record {
  dense : IsDense l.unit;
  behind : AreBehind (length l.unit.additions) (drop l.i l.entries);
  left : with_additions (map addition_of (drop l.i l.entries)) l.unit ≡ with_additions (map addition_of l.entries) l.fn.unit;
}
