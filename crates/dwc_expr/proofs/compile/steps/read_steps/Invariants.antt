use Rattle.std.proofs.Common.{length}
use Rattle.dwc_dwarf.specs.Operations.{operations}
use Rattle.dwc_expr.proofs.StepLaws.{ReadSoFar}
use Rattle.dwc_expr.proofs.compile.steps.read_steps.Given as goal

-- what was read, with what is left, makes the whole
abbrev pub invariant-loop-place : goal.invariant-loop-place
invariant-loop-place l = ReadSoFar l.has_base (length l.bytes) (operations l.bytes) l.operations l.steps.items

abbrev pub decreases-loop-place : goal.decreases-loop-place
decreases-loop-place l = length l.operations.items
