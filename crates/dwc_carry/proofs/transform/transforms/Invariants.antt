use Rattle.dwc_carry.proofs.TransformLaws.{TransformsSoFar}
use Rattle.dwc_carry.proofs.transform.transforms.Given as goal

-- the transforms so far, and those of the modules that are left, are all
abbrev pub invariant-loop-i : goal.invariant-loop-i
invariant-loop-i l = TransformsSoFar l.compilation.tunables.output_for l.compilation.translations l.compilation.functions l.i l.transforms.items
