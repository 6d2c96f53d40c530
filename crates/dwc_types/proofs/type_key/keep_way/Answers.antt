use Rattle.std.proofs.Common.{◌≡◌, ◌∙◌, ◌++◌, ◌-◌, ℕ, List, [], Option, Some, ap, subst, sym, take}
use Rattle.dwc_types.specs.declared.type_entry.TypeEntry.{TypeEntry}
use Rattle.dwc_types.specs.declared.known_type.DerivedType.{DerivedType}
use Rattle.dwc_types.specs.KeyedTypes.{IsKeyOf, IsWay, KnowsWith}
use Rattle.dwc_types.proofs.TypeKeyLaws.{way-last}
use Rattle.dwc_types.proofs.type_key.keep_way.Goals as goal

pub loop-met-preserved : goal.loop-met-preserved
loop-met-preserved c source s texts first behind =
    let b = c.loop-met.invariant source s texts first behind in
    let l = way-last source s (Some first) c.pop.new.self.items c.in-Some.met b.next (subst (λ (ts : List DerivedType). IsWay source s (Some first) ts b.next) c.in-Some.ensures.items b.leads) in
    record {
      next = Some l.type;
      leads = l.way;
      of = subst (KnowsWith source s texts c.keep_over.new.keys l.type) c.in-Some-2.is (c.in_ok-over.ensures.key source s texts l.type l.at l.read (subst (λ (n : Option TypeEntry). IsKeyOf source s texts c.loop-met.keys n c.loop-met.key) (sym l.next_is) b.of));
    }

pub returns-clause-key : goal.returns-clause-key
returns-clause-key c source s texts first behind =
    let b = c.loop-met.invariant source s texts first behind in
    let popped = c.in_default.ensures in
    let none : c.loop-met.way.items ≡ [] = popped.items ∙ ap (λ (ts : List DerivedType). ts ++ []) popped.rest ∙ ap (λ (n : ℕ). take (n - 1) c.loop-met.way.items ++ []) popped.cases.0 in
    subst (λ (n : Option TypeEntry). IsKeyOf source s texts c.loop-met.keys n c.loop-met.key) (sym (subst (λ (ts : List DerivedType). IsWay source s (Some first) ts b.next) none b.leads)) b.of

pub returns-in_default-2-clause-key : goal.returns-in_default-2-clause-key
returns-in_default-2-clause-key c source s texts first behind =
    let b = c.loop-met.invariant source s texts first behind in
    let l = way-last source s (Some first) c.pop.new.self.items c.in-Some.met b.next (subst (λ (ts : List DerivedType). IsWay source s (Some first) ts b.next) c.in-Some.ensures.items b.leads) in
    subst (KnowsWith source s texts c.keep_over.new.keys l.type) c.in_default-2.is (c.in_ok-over.ensures.key source s texts l.type l.at l.read (subst (λ (n : Option TypeEntry). IsKeyOf source s texts c.loop-met.keys n c.loop-met.key) (sym l.next_is) b.of))
