use Rattle.std.proofs.Common.{◌≡◌, ◌≤◌, ◌++◌, take, length}
use Rattle.dwc_types.specs.TypeChains.{behind}
use Rattle.dwc_types.proofs.type_name.put_behind.Given as goal

-- what was put so far, and what the tags in front of the last one put, is all
abbrev pub invariant-loop-left : goal.invariant-loop-left
invariant-loop-left l = record {
  within : l.left ≤ length l.tags;
  so_far : l.out.items ++ behind (take l.left l.tags) ≡ l.fn.out.items ++ behind l.tags;
}

abbrev pub decreases-loop-left : goal.decreases-loop-left
decreases-loop-left l = l.left
