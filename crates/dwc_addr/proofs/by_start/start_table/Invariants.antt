use Rattle.std.proofs.Common.{◌≡◌, ◌++◌, map, drop}
use Rattle.dwc_addr.specs.Transforms.{function_view}
use Rattle.dwc_addr.specs.Starts.{start_keys}
use Rattle.dwc_addr.proofs.by_start.start_table.Given as goal

-- the keys so far, and those of the functions that are left, are all
abbrev pub invariant-loop-i : goal.invariant-loop-i
invariant-loop-i l = l.keys.items ++ start_keys l.i (map function_view (drop l.i l.functions)) ≡ start_keys 0 (map function_view l.functions)
