use Rattle.std.proofs.Common.{◌≡◌}
use Rattle.dwc_rules.specs.Clones.{UnitSource}
use Rattle.dwc_rules.specs.Kept.{Placed}
use Rattle.dwc_types.specs.DerivedTypes.{room}
use Rattle.dwc_types.specs.KnownNames.{IsFresh, KnowsTypes}
use Rattle.dwc_types.specs.TypeSteps.{HaveTexts, IsOfType}
use Rattle.dwc_types.proofs.ChainWalkLaws.{IsAlong, IsBegun, IsOther}
use Rattle.dwc_types.proofs.type_name.follow_chain.Given as goal

-- the types up to the next one were followed
abbrev pub invariant-loop-next : goal.invariant-loop-next
invariant-loop-next l = record {
  texts : HaveTexts l.types;
  walks : l.types.walks ≡ l.fn.walk;
  begun : IsBegun l.fn.first l.walk l.types.derived.items l.next;
  known : (s : UnitSource) → KnowsTypes l.source s l.fn.types → KnowsTypes l.source s l.types;
  along : (s : UnitSource) (e : Placed) → IsOfType l.source s e l.fn.first → e.entry.offset ≡ l.own → KnowsTypes l.source s l.fn.types → IsFresh l.walk l.fn.types.derived.items → IsAlong l.source s e l.walk l.types.derived.items l.tags.items l.next;
  others : (s : UnitSource) (e : Placed) → IsOfType l.source s e l.fn.first → KnowsTypes l.source s l.fn.types → IsFresh l.walk l.fn.types.derived.items → IsOther l.source s e l.walk l.types.derived.items l.tags.items l.next l.last;
}

abbrev pub decreases-loop-next : goal.decreases-loop-next
decreases-loop-next l = room l.walk l.types.derived.items
