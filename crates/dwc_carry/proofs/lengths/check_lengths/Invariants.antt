use Rattle.std.proofs.Common.{◌≡◌, drop}
use Rattle.dwc_carry.specs.Transformed.{have_long}
use Rattle.dwc_carry.proofs.lengths.check_lengths.Given as goal

-- a function of the transforms that are left is too long where one of all is
abbrev pub invariant-loop-transform : goal.invariant-loop-transform
invariant-loop-transform l = have_long (drop l.transform-index l.transforms) ≡ have_long l.fn.transforms
