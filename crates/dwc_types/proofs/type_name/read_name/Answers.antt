use Rattle.std.proofs.Common.{◌≡◌, ◌∙◌, ◌+◌, ℕ, Ok, ap, refl, rules, sym, subst}
use Rattle.std.specs.Prelude.{◌≢◌}
use Rattle.std.proofs.lemmas.Result.{err_from_is_err_and}
use Rattle.dwc_rules.specs.TypeNames.{type_name}
use Rattle.dwc_unit.specs.TextTables.{IsText}
use Rattle.dwc_types.specs.declared.type_name.ChainName.{ChainName}
use Rattle.dwc_types.specs.declared.known_type.KnownTypes.{KnownTypes}
use Rattle.dwc_types.specs.TypeChains.{named_chain}
use Rattle.dwc_types.proofs.ChainNameLaws.{chain-text}
use Rattle.dwc_types.proofs.KnownTypeLaws.{fresh-counted, keeps-counted}
use Rattle.dwc_types.proofs.NotedNameLaws.{if-more}
use Rattle.dwc_types.proofs.TypeStepLaws.{refused-alike}
use Rattle.dwc_types.proofs.type_name.read_name.Goals as goal

-- the types, with a chain more
abbrev counted : KnownTypes → ℕ → KnownTypes
counted types walk = record { derived = types.derived; places = types.places; ends = types.ends; walks = walk }

pub returns-in_err-last-clause-name : goal.returns-in_err-last-clause-name
returns-in_err-last-clause-name c s e of at known =
    let src = c.args.source.now in
    let old = c.args.types.now in
    let more : c.in-Some.walk ≡ old.walks + 1 = search rules in
    let fresh = fresh-counted src s old c.in-Some.walk more known in
    let named = c.in_err-last.ensures.named s e of at (keeps-counted src s old (counted old c.in-Some.walk) refl refl refl more known) fresh in
    let p = err_from_is_err_and c.from_residual.result c.from_residual.ensures.1 in
    rw (p.1, p.2) (refused-alike (λ (last : ChainName). named_chain c.follow_chain.new.tags.items last.name.items) (λ (made : ChainName). made.name.items) (type_name s.texts s.entries e) c.in_err-last.field-0.0 named)

pub returns-clause-text : goal.returns-clause-text
returns-clause-text c =
    let same : c.in_ok-name.name.items ≡ named_chain c.follow_chain.new.tags.items c.in_ok-last.last.name.items = search rules in
    subst IsText (sym same) (chain-text c.follow_chain.new.tags.items c.in_ok-last.last.name.items c.in_ok-last.ensures.text)

pub returns-clause-types : goal.returns-clause-types
returns-clause-types c s known =
    let src = c.args.source.now in
    let old = c.args.types.now in
    let more : c.in-Some.walk ≡ old.walks + 1 = search rules in
    c.in_ok-last.ensures.types s (keeps-counted src s old (counted old c.in-Some.walk) refl refl refl more known)

pub returns-clause-name : goal.returns-clause-name
returns-clause-name c s e of at known =
    let src = c.args.source.now in
    let old = c.args.types.now in
    let more : c.in-Some.walk ≡ old.walks + 1 = search rules in
    let same : c.in_ok-name.name.items ≡ named_chain c.follow_chain.new.tags.items c.in_ok-last.last.name.items = search rules in
    c.in_ok-last.ensures.named s e of at (keeps-counted src s old (counted old c.in-Some.walk) refl refl refl more known) (fresh-counted src s old c.in-Some.walk more known) ∙ ap (λ n. Ok n) (sym same)

pub returns-clause-others : goal.returns-clause-others
returns-clause-others c s e of known =
    let src = c.args.source.now in
    let old = c.args.types.now in
    let more : c.in-Some.walk ≡ old.walks + 1 = search rules in
    let last = c.in_ok-last.last in
    let tags = c.follow_chain.new.tags.items in
    let same : c.in_ok-name.name.items ≡ named_chain tags last.name.items = search rules in
    if-more (λ but. e.entry.offset ≢ but → type_name s.texts s.entries e ≡ Ok (named_chain tags last.name.items)) (λ but. e.entry.offset ≢ but → type_name s.texts s.entries e ≡ Ok c.in_ok-name.name.items) last.but
    (λ but named apart. named apart ∙ ap (λ n. Ok n) (sym same))
    (c.in_ok-last.ensures.others s e of (keeps-counted src s old (counted old c.in-Some.walk) refl refl refl more known) (fresh-counted src s old c.in-Some.walk more known))
