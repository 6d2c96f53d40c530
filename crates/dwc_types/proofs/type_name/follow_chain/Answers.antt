use Rattle.std.proofs.Common.{◌≡◌, ◌∙◌, ◌<◌, ◌≤◌, ℕ, Ok, Some, true, IfSome, ap, arith, inl, inr, refl, rules, sym, subst}
use Rattle.std.specs.Prelude.{◌==◌, ◌||◌, ◌≢◌}
use Rattle.std.proofs.lemmas.Bool.{eqb-true}
use Rattle.std.proofs.lemmas.Result.{err_from_is_err_and}
use Rattle.dwc_rules.specs.Clones.{UnitSource}
use Rattle.dwc_rules.specs.TypeNames.{type_name, unknown}
use Rattle.dwc_types.specs.declared.type_name.ChainName.{ChainName}
use Rattle.dwc_types.specs.DerivedTypes.{end_of, is_at, is_found, met_in, room}
use Rattle.dwc_types.specs.KnownNames.{IfAway, IfEnds, IsAway, KnowsTypes}
use Rattle.dwc_types.specs.TypeReads.{EndsSo, IsRead}
use Rattle.dwc_types.specs.TypeChains.{named_chain}
use Rattle.dwc_types.proofs.ChainWalkLaws.{IsAlong, along-more, along-same, along-start, IsBegun, IsOther, begun-same, end-named, first-met, last-named, met-named, other-end, other-last, other-met, other-more, other-same, own-named, refused-named}
use Rattle.dwc_types.proofs.DerivedTypeLaws.{met-at, met-changed, room-changed, stands-at, unmet-away}
use Rattle.dwc_types.proofs.KnownTypeLaws.{keeps-met, unmet-kept}
use Rattle.dwc_types.proofs.NotedNameLaws.{if-at}
use Rattle.dwc_types.proofs.type_name.follow_chain.Goals as goal

pub loop-next-init : goal.loop-next-init
loop-next-init c =
    let src = c.args.source.now in
    let types = c.args.types.now.derived.items in
    record {
      texts = c.requires.texts;
      walks = c.requires.walk;
      begun = inl refl;
      known = λ s known. known;
      along = λ s e of at known fresh. subst (λ tags. IsAlong src s e c.args.walk types tags (Some c.args.first)) (sym c.requires.empty) (along-start src s e c.args.walk types c.args.first of fresh);
      others = λ s e of known fresh. inl (subst (λ tags. IsAlong src s e c.args.walk types tags (Some c.args.first)) (sym c.requires.empty) (along-start src s e c.args.walk types c.args.first of fresh));
    }

pub returns-then-named-own-clause-named : goal.returns-then-named-own-clause-named
returns-then-named-own-clause-named c s e of at known fresh =
    let src = c.args.source.now in
    let types = c.loop-next.types.derived.items in
    let tags = c.loop-next.tags.items in
    let a = subst (λ n. IsAlong src s e c.args.walk types tags n) c.in-Some.is (c.loop-next.invariant.along s e of at known fresh) in
    let same : c.in_ok-name_for.field-0.name.items ≡ unknown = search rules in
    own-named src of.number s e c.args.walk types tags of.source c.in-Some.named a (c.if-named-own.true ∙ sym at) ∙ ap (λ n. Ok (named_chain tags n)) (sym same)

pub returns-in_err-place-clause-named : goal.returns-in_err-place-clause-named
returns-in_err-place-clause-named c s e of at known fresh =
    let src = c.args.source.now in
    let types = c.loop-next.types.derived.items in
    let tags = c.loop-next.tags.items in
    let a = subst (λ n. IsAlong src s e c.args.walk types tags n) c.in-Some.is (c.loop-next.invariant.along s e of at known fresh) in
    let away : IsAway types c.in-Some.named.offset = c.in_err-place.ensures.away s (c.loop-next.invariant.known s known) in
    let p = err_from_is_err_and c.from_residual-in_err-place.result c.from_residual-in_err-place.ensures.1 in
    rw (p.1, p.2)
    (refused-named src of.number s e c.args.walk types tags of.source c.in-Some.named a (λ own. c.if-named-own.false (own ∙ at)) (unmet-away c.args.walk types c.in-Some.named.offset away) c.in_err-place.field-0.0 c.in_err-place.ensures.refused (λ (last : ChainName). named_chain tags last.name.items))

pub returns-in_default-2-clause-named : goal.returns-in_default-2-clause-named
returns-in_default-2-clause-named c s e of at known fresh =
    let src = c.args.source.now in
    let types = c.loop-next.types.derived.items in
    let tags = c.loop-next.tags.items in
    let offset = c.in-Some.named.offset in
    let last = end_of c.find_type.new.types offset in
    let here = c.loop-next.invariant.known s known in
    let a = subst (λ n. IsAlong src s e c.args.walk types tags n) c.in-Some.is (c.loop-next.invariant.along s e of at known fresh) in
    let away : IsAway types offset = subst (λ o. IfAway (Ok o) (IsAway types offset)) c.in_default-2.is (c.in_ok-place.ensures.away s here) in
    let ends : EndsSo src s offset last = subst (λ o. IfEnds (Ok o) (EndsSo src s offset last)) c.in_default-2.is (c.in_ok-place.ensures.ending s here) in
    let same : c.in_ok-name_for-2.field-0.name.items ≡ last = search rules in
    last-named src of.number s e c.args.walk types tags of.source c.in-Some.named a (λ own. c.if-named-own.false (own ∙ at)) (unmet-away c.args.walk types offset away) last ends ∙ ap (λ n. Ok (named_chain tags n)) (sym same)

pub meet-requires-clause-inside : goal.meet-requires-clause-inside
meet-requires-clause-inside c =
    let types = c.find_type.new.types.derived.items in
    let offset = c.in-Some.named.offset in
    let is = subst (λ o. IfSome o (λ place. is_at types place offset ≡ true)) c.in-Some-2.is c.in_ok-place.ensures.at in
    (stands-at types c.in-Some-2.place offset is).inside

pub returns-in_default-meet-clause-types : goal.returns-in_default-meet-clause-types
returns-in_default-meet-clause-types c s known =
    subst (KnowsTypes c.args.source.now s) (sym (c.in_default-meet.ensures.same refl)) (c.in_ok-place.ensures.types s (c.loop-next.invariant.known s known))

pub returns-in_default-meet-clause-named : goal.returns-in_default-meet-clause-named
returns-in_default-meet-clause-named c s e of at known fresh =
    let src = c.args.source.now in
    let before = c.loop-next.types.derived.items in
    let types = c.find_type.new.types.derived.items in
    let tags = c.loop-next.tags.items in
    let offset = c.in-Some.named.offset in
    let a = subst (λ n. IsAlong src s e c.args.walk before tags n) c.in-Some.is (c.loop-next.invariant.along s e of at known fresh) in
    let b = along-same src s e c.args.walk before types tags (Some c.in-Some.named) (λ q. c.in_ok-place.ensures.adds.marks c.args.walk q c.requires.counted) a in
    let is = subst (λ o. IfSome o (λ place. is_at types place offset ≡ true)) c.in-Some-2.is c.in_ok-place.ensures.at in
    let x = stands-at types c.in-Some-2.place offset is in
    let met = met-at c.args.walk types c.in-Some-2.place x.type offset x.at x.is (c.in_default-meet.ensures.again refl x.type x.at) in
    let same : c.in_ok-name_for-3.field-0.name.items ≡ unknown = search rules in
    met-named src of.number s e c.args.walk types tags of.source c.in-Some.named b met ∙ ap (λ n. Ok (named_chain tags n)) (sym same)

fewer : (a b d : ℕ) → a < b → b ≤ d → a < d
fewer a b d less most = omega (arith, less, most)

pub loop-next-smaller : goal.loop-next-smaller
loop-next-smaller c =
    let types = c.find_type.new.types.derived.items in
    let met = c.in-Some-meet.met in
    let less = subst (λ ts. room c.args.walk ts < room c.args.walk types) (sym c.in-Some-meet.ensures.changed) (room-changed c.args.walk types c.in-Some-2.place met c.in-Some-meet.ensures.met c.in-Some-meet.ensures.first) in
    fewer _ _ _ less (c.in_ok-place.ensures.adds.fewer c.args.walk)

pub loop-next-preserved : goal.loop-next-preserved
loop-next-preserved c =
    let src = c.args.source.now in
    let walk = c.args.walk in
    let before = c.loop-next.types.derived.items in
    let mid = c.find_type.new.types in
    let types = mid.derived.items in
    let new = c.meet.new.types in
    let tags = c.loop-next.tags.items in
    let offset = c.in-Some.named.offset in
    let place = c.in-Some-2.place in
    let met = c.in-Some-meet.met in
    let stands = c.in-Some-meet.ensures.met in
    let rest = c.in-Some-meet.ensures.rest in
    let is_there = subst (λ o. IfSome o (λ p. is_at types p offset ≡ true)) c.in-Some-2.is c.in_ok-place.ensures.at in
    let is : (met.offset == offset) ≡ true = sym (ap (λ o. is_found o offset) stands) ∙ is_there in
    let at_offset : met.offset ≡ offset = eqb-true met.offset offset is in
    let counted : mid.walks ≡ walk = c.in_ok-place.ensures.walks ∙ c.loop-next.invariant.walks in
    let within : walk ≤ mid.walks = subst (λ n. walk ≤ n) (sym counted) (omega arith) in
    let mid_known : (s : UnitSource) → KnowsTypes src s c.args.types.now → KnowsTypes src s mid = λ s known. c.in_ok-place.ensures.types s (c.loop-next.invariant.known s known) in
    let same : (q : ℕ) → met_in walk types q ≡ met_in walk before q = λ q. c.in_ok-place.ensures.adds.marks walk q c.requires.counted in
    let marked : (q : ℕ) → met_in walk new.derived.items q ≡ ((offset == q) || met_in walk types q) = λ q. ap (λ ts. met_in walk ts q) c.in-Some-meet.ensures.changed ∙ met-changed walk types place met q stands ∙ ap (λ n. (n == q) || met_in walk types q) at_offset in
    let begun = begun-same c.args.first walk before types (Some c.in-Some.named) same (subst (λ n. IsBegun c.args.first walk before n) c.in-Some.is c.loop-next.invariant.begun) in
    record {
      texts = c.in-Some-meet.ensures.texts;
      walks = ap (λ n. n.walks) rest ∙ counted;
      begun = inr (first-met walk types c.in-Some.named c.args.first new.derived.items marked begun);
      known = λ s known. keeps-met src s mid new place walk met c.in-Some-meet.ensures.changed (ap (λ n. n.places) rest) (ap (λ n. n.ends) rest) (ap (λ n. n.walks) rest) stands within (mid_known s known);
      along = λ s e of at known fresh.
          let a = subst (λ n. IsAlong src s e walk before tags n) c.in-Some.is (c.loop-next.invariant.along s e of at known fresh) in
          let b = along-same src s e walk before types tags (Some c.in-Some.named) same a in
          let k = mid_known s known in
          let absent = unmet-kept src s mid place walk offset met stands is c.in-Some-meet.ensures.first k in
          let read = subst (λ n. IsRead src s n met.tag met.next) at_offset (k.derived place met stands).read in
          subst (λ ts. IsAlong src s e walk new.derived.items ts met.next) (sym c.in_ok-push.ensures.items)
          (along-more src of.number s e walk types tags of.source c.in-Some.named b (λ own. c.if-named-own.false (own ∙ at)) absent new.derived.items met.tag met.next read
          marked);
      others = λ s e of known fresh.
          let a = subst (λ n. IsOther src s e walk before tags n c.loop-next.last) c.in-Some.is (c.loop-next.invariant.others s e of known fresh) in
          let b = other-same src of.number s e walk before tags c.loop-next.last of.source types (Some c.in-Some.named) same a in
          let k = mid_known s known in
          let absent = unmet-kept src s mid place walk offset met stands is c.in-Some-meet.ensures.first k in
          let read = subst (λ n. IsRead src s n met.tag met.next) at_offset (k.derived place met stands).read in
          subst (λ ts. IsOther src s e walk new.derived.items ts met.next offset) (sym c.in_ok-push.ensures.items)
          (other-more src of.number s e walk types tags c.loop-next.last of.source c.in-Some.named absent c.args.first new.derived.items met.tag met.next begun marked of read b);
    }

pub returns-clause-named : goal.returns-clause-named
returns-clause-named c s e of at known fresh =
    let src = c.args.source.now in
    let types = c.loop-next.types.derived.items in
    let tags = c.loop-next.tags.items in
    let a = subst (λ n. IsAlong src s e c.args.walk types tags n) c.in_default.is (c.loop-next.invariant.along s e of at known fresh) in
    let same : c.in_ok-name_for-4.field-0.name.items ≡ unknown = search rules in
    end-named src of.number s e c.args.walk types tags of.source a ∙ ap (λ n. Ok (named_chain tags n)) (sym same)

pub returns-in_default-2-clause-others : goal.returns-in_default-2-clause-others
returns-in_default-2-clause-others c s e of known fresh =
    let src = c.args.source.now in
    let types = c.loop-next.types.derived.items in
    let tags = c.loop-next.tags.items in
    let offset = c.in-Some.named.offset in
    let last = end_of c.find_type.new.types offset in
    let here = c.loop-next.invariant.known s known in
    let a = subst (λ n. IsOther src s e c.args.walk types tags n c.loop-next.last) c.in-Some.is (c.loop-next.invariant.others s e of known fresh) in
    let away : IsAway types offset = subst (λ o. IfAway (Ok o) (IsAway types offset)) c.in_default-2.is (c.in_ok-place.ensures.away s here) in
    let ends : EndsSo src s offset last = subst (λ o. IfEnds (Ok o) (EndsSo src s offset last)) c.in_default-2.is (c.in_ok-place.ensures.ending s here) in
    let made = c.in_ok-name_for-2.field-0 in
    let same : made.name.items ≡ last = c.in_ok-name_for-2.ensures.name ∙ c.end_name-name.ensures in
    if-at (λ but. e.entry.offset ≢ but → type_name s.texts s.entries e ≡ Ok (named_chain tags made.name.items)) made.but offset c.in_ok-name_for-2.ensures.but
    (λ apart. other-last src of.number s e c.args.walk types tags c.loop-next.last of.source c.in-Some.named (unmet-away c.args.walk types offset away) last ends apart a ∙ ap (λ n. Ok (named_chain tags n)) (sym same))

pub returns-in_default-meet-clause-others : goal.returns-in_default-meet-clause-others
returns-in_default-meet-clause-others c s e of known fresh =
    let src = c.args.source.now in
    let before = c.loop-next.types.derived.items in
    let types = c.find_type.new.types.derived.items in
    let tags = c.loop-next.tags.items in
    let offset = c.in-Some.named.offset in
    let a = subst (λ n. IsOther src s e c.args.walk before tags n c.loop-next.last) c.in-Some.is (c.loop-next.invariant.others s e of known fresh) in
    let b = other-same src of.number s e c.args.walk before tags c.loop-next.last of.source types (Some c.in-Some.named) (λ q. c.in_ok-place.ensures.adds.marks c.args.walk q c.requires.counted) a in
    let is = subst (λ o. IfSome o (λ place. is_at types place offset ≡ true)) c.in-Some-2.is c.in_ok-place.ensures.at in
    let x = stands-at types c.in-Some-2.place offset is in
    let met = met-at c.args.walk types c.in-Some-2.place x.type offset x.at x.is (c.in_default-meet.ensures.again refl x.type x.at) in
    let made = c.in_ok-name_for-3.field-0 in
    if-at (λ but. e.entry.offset ≢ but → type_name s.texts s.entries e ≡ Ok (named_chain tags made.name.items)) made.but c.loop-next.last c.in_ok-name_for-3.ensures.but
    (λ apart. other-met src of.number s e c.args.walk types tags c.loop-next.last of.source c.in-Some.named met apart b ∙ ap (λ n. Ok (named_chain tags n)) (sym c.in_ok-name_for-3.ensures.name))

pub returns-clause-others : goal.returns-clause-others
returns-clause-others c s e of known fresh =
    let src = c.args.source.now in
    let types = c.loop-next.types.derived.items in
    let tags = c.loop-next.tags.items in
    let a = subst (λ n. IsOther src s e c.args.walk types tags n c.loop-next.last) c.in_default.is (c.loop-next.invariant.others s e of known fresh) in
    let made = c.in_ok-name_for-4.field-0 in
    if-at (λ but. e.entry.offset ≢ but → type_name s.texts s.entries e ≡ Ok (named_chain tags made.name.items)) made.but c.loop-next.last c.in_ok-name_for-4.ensures.but
    (λ apart. other-end src of.number s e c.args.walk types tags c.loop-next.last of.source a ∙ ap (λ n. Ok (named_chain tags n)) (sym c.in_ok-name_for-4.ensures.name))
