use Rattle.std.proofs.Common.{◌≡◌, ◌++◌, drop}
use Rattle.dwc_types.specs.TypeChains.{in_front}
use Rattle.dwc_types.proofs.type_name.put_in_front.Given as goal

-- what was put so far, and what the tags that are left put, is all
abbrev pub invariant-loop-i : goal.invariant-loop-i
invariant-loop-i l = l.out.items ++ in_front (drop l.i l.tags) ≡ l.fn.out.items ++ in_front l.tags
