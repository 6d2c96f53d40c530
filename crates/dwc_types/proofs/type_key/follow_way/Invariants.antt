use Rattle.std.proofs.Common.{◌≡◌, Some}
use Rattle.dwc_rules.specs.Clones.{UnitSource}
use Rattle.dwc_types.specs.DerivedTypes.{room}
use Rattle.dwc_types.specs.KeyedTypes.{IsWay}
use Rattle.dwc_types.specs.KnownNames.{KnowsTypes}
use Rattle.dwc_types.specs.TypeSteps.{HaveTexts}
use Rattle.dwc_types.proofs.type_key.follow_way.Given as goal

-- the types up to the next one were followed
abbrev pub invariant-loop-next : goal.invariant-loop-next
invariant-loop-next l = record {
  texts : HaveTexts l.types;
  walks : l.types.walks ≡ l.fn.walk;
  known : (s : UnitSource) → KnowsTypes l.source s l.fn.types → KnowsTypes l.source s l.types;
  way : (s : UnitSource) → KnowsTypes l.source s l.fn.types → IsWay l.source s (Some l.fn.first) l.way.items l.next;
}

abbrev pub decreases-loop-next : goal.decreases-loop-next
decreases-loop-next l = room l.walk l.types.derived.items
