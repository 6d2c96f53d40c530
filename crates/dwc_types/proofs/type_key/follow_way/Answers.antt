use Rattle.std.proofs.Common.{◌≡◌, ◌∙◌, ◌<◌, ◌≤◌, ℕ, List, Option, Ok, Some, true, ap, arith, refl, subst, sym}
use Rattle.std.specs.Prelude.{◌==◌}
use Rattle.std.proofs.lemmas.Bool.{eqb-true}
use Rattle.dwc_rules.specs.Clones.{UnitSource}
use Rattle.dwc_types.specs.declared.type_entry.TypeEntry.{TypeEntry}
use Rattle.dwc_types.specs.declared.known_type.DerivedType.{DerivedType}
use Rattle.dwc_types.specs.DerivedTypes.{AddsUnmet, end_of, is_at, is_found, room}
use Rattle.dwc_types.specs.KeyedTypes.{IfDerived, IfEnding, IsWay}
use Rattle.dwc_types.specs.KnownNames.{KnowsTypes}
use Rattle.dwc_types.specs.TypeReads.{EndsSo}
use Rattle.dwc_types.proofs.DerivedTypeLaws.{room-changed, stands-at}
use Rattle.dwc_types.proofs.KnownTypeLaws.{keeps-met}
use Rattle.dwc_types.proofs.TypeKeyLaws.{way-more}
use Rattle.dwc_types.proofs.type_key.follow_way.Goals as goal

pub returns-in_default-found-clause-way : goal.returns-in_default-found-clause-way
returns-in_default-found-clause-way c s known =
    let src = c.args.source.now in
    let offset = c.in-Some.named.offset in
    let last = end_of c.try_type.new.types offset in
    record {
      to = record {
        type = c.in-Some.named;
        leads = subst (λ (n : Option TypeEntry). IsWay src s (Some c.args.first) c.loop-next.way.items n) c.in-Some.is (c.loop-next.invariant.way s known);
        at = refl;
      };
      name = last;
      ends = subst (λ (o : Option (Option ℕ)). IfEnding (Ok o) (EndsSo src s offset last)) (c.in-Some-2.is ∙ ap (λ f. Some f) c.in_default-found.is) (c.in_ok-found.ensures.ending s (c.loop-next.invariant.known s known));
    }

pub meet-requires-clause-inside : goal.meet-requires-clause-inside
meet-requires-clause-inside c =
    let types = c.try_type.new.types.derived.items in
    let offset = c.in-Some.named.offset in
    let is = subst (λ (o : Option (Option ℕ)). IfDerived (Ok o) (λ place. is_at types place offset ≡ true)) (c.in-Some-2.is ∙ ap (λ f. Some f) c.in-Some-found.is) c.in_ok-found.ensures.at in
    (stands-at types c.in-Some-found.place offset is).inside

fewer : (a b d : ℕ) → a < b → b ≤ d → a < d
fewer a b d less most = omega (arith, less, most)

pub loop-next-smaller : goal.loop-next-smaller
loop-next-smaller c =
    let types = c.try_type.new.types.derived.items in
    let met = c.in-Some-meet.met in
    let adds = subst (λ (o : Option (Option ℕ)). IfDerived (Ok o) (λ place. AddsUnmet c.loop-next.types.derived.items types)) (c.in-Some-2.is ∙ ap (λ f. Some f) c.in-Some-found.is) c.in_ok-found.ensures.adds in
    let less = subst (λ (ts : List DerivedType). room c.args.walk ts < room c.args.walk types) (sym c.in-Some-meet.ensures.changed) (room-changed c.args.walk types c.in-Some-found.place met c.in-Some-meet.ensures.met c.in-Some-meet.ensures.first) in
    fewer _ _ _ less (adds.fewer c.args.walk)

pub loop-next-preserved : goal.loop-next-preserved
loop-next-preserved c =
    let src = c.args.source.now in
    let walk = c.args.walk in
    let mid = c.try_type.new.types in
    let types = mid.derived.items in
    let new = c.meet.new.types in
    let offset = c.in-Some.named.offset in
    let place = c.in-Some-found.place in
    let met = c.in-Some-meet.met in
    let stands = c.in-Some-meet.ensures.met in
    let rest = c.in-Some-meet.ensures.rest in
    let found_is = c.in-Some-2.is ∙ ap (λ f. Some f) c.in-Some-found.is in
    let is_there = subst (λ (o : Option (Option ℕ)). IfDerived (Ok o) (λ p. is_at types p offset ≡ true)) found_is c.in_ok-found.ensures.at in
    let is : (met.offset == offset) ≡ true = sym (ap (λ o. is_found o offset) stands) ∙ is_there in
    let at_offset : met.offset ≡ offset = eqb-true met.offset offset is in
    let counted : mid.walks ≡ walk = subst (λ (o : Option (Option ℕ)). IfDerived (Ok o) (λ p. mid.walks ≡ c.loop-next.types.walks)) found_is c.in_ok-found.ensures.walks ∙ c.loop-next.invariant.walks in
    let within : walk ≤ mid.walks = subst (λ n. walk ≤ n) (sym counted) (omega arith) in
    let mid_known : (s : UnitSource) → KnowsTypes src s c.args.types.now → KnowsTypes src s mid = λ s known. c.in_ok-found.ensures.types s (c.loop-next.invariant.known s known) in
    record {
      texts = c.in-Some-meet.ensures.texts;
      walks = ap (λ n. n.walks) rest ∙ counted;
      known = λ s known. keeps-met src s mid new place walk met c.in-Some-meet.ensures.changed (ap (λ n. n.places) rest) (ap (λ n. n.ends) rest) (ap (λ n. n.walks) rest) stands within (mid_known s known);
      way = λ s known.
          let before = subst (λ (n : Option TypeEntry). IsWay src s (Some c.args.first) c.loop-next.way.items n) c.in-Some.is (c.loop-next.invariant.way s known) in
          let k = mid_known s known in
          subst (λ (ts : List DerivedType). IsWay src s (Some c.args.first) ts met.next) (sym c.in_ok-push.ensures.items) (way-more src s (Some c.args.first) c.loop-next.way.items met c.in-Some.named before (sym at_offset) (k.derived place met stands).read);
    }
