use Rattle.std.proofs.Common.{ℕ, List, length}
use Rattle.dwc_rules.specs.Clones.{UnitSource}
use Rattle.dwc_source.specs.declared.source.CloneSource.{CloneSource}
use Rattle.dwc_types.specs.declared.type_entry.TypeEntry.{TypeEntry}
use Rattle.dwc_types.specs.KeyedTypes.{IsKeyBehind}
use Rattle.dwc_types.proofs.type_key.keep_way.Given as goal

-- the key is that of what the last type that is left is derived from
abbrev pub invariant-loop-met : goal.invariant-loop-met
invariant-loop-met l = (source : CloneSource) (s : UnitSource) (texts : List (List ℕ)) (first : TypeEntry) → IsKeyBehind source s texts l.fn.keys first l.fn.way.items l.fn.end → IsKeyBehind source s texts l.keys first l.way.items l.key

abbrev pub decreases-loop-met : goal.decreases-loop-met
decreases-loop-met l = length l.way.items
