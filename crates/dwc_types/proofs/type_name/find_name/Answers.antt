use Rattle.std.proofs.Common.{subst, sym}
use Rattle.std.specs.Prelude.{IfSome, Option}
use Rattle.std.proofs.lemmas.Result.{err_from_is_err_and}
use Rattle.dwc_rules.specs.Wrappers.{wrapper_name}
use Rattle.dwc_read.specs.EntriesSeen.{entry_view}
use Rattle.dwc_unit.specs.declared.strings.StringId.{StringId}
use Rattle.dwc_source.specs.KnownTexts.{IsNumbered}
use Rattle.dwc_source.specs.Sources.{placed_entry}
use Rattle.dwc_types.specs.KeyedTypes.{KnowsWith, key_text}
use Rattle.dwc_types.specs.KnownNames.{KnowsNames}
use Rattle.dwc_types.proofs.KeyNameLaws.{key-later, key-numbered, key-wrapper, key-wrappers, with-keys}
use Rattle.dwc_types.proofs.NotedNameLaws.{unnumbered}
use Rattle.dwc_types.proofs.type_name.find_name.Goals as goal

pub returns-in_err-key-clause-name : goal.returns-in_err-key-clause-name
returns-in_err-key-clause-name c s of known =
    let p = placed_entry c.args.source.now (entry_view c.args.entry.now) in
    let q = err_from_is_err_and c.from_residual.result c.from_residual.ensures.1 in
    rw (q.1, q.2) (unnumbered s p c.in_err-key.field-0.0 c.in_err-key.ensures.memory)

pub returns-in_default-clause-names : goal.returns-in_default-clause-names
returns-in_default-clause-names c s of known =
    let src = c.args.source.now in
    let keys = c.key_of.new.keys in
    let found = c.in_ok-key.ensures.key s c.args.strings.now known.types known.keys in
    c.make_name.ensures.names s of (record { types = c.in_ok-key.ensures.types s known.types; pointers = known.pointers; references = known.references; rings = known.rings; keys = with-keys src s c.args.strings.now keys c.args.first _ found })

pub returns-in_default-clause-name : goal.returns-in_default-clause-name
returns-in_default-clause-name c s of known =
    let src = c.args.source.now in
    let keys = c.key_of.new.keys in
    let found = c.in_ok-key.ensures.key s c.args.strings.now known.types known.keys in
    c.make_name.ensures.name s of (record { types = c.in_ok-key.ensures.types s known.types; pointers = known.pointers; references = known.references; rings = known.rings; keys = with-keys src s c.args.strings.now keys c.args.first _ found })

pub returns-then-key-entry-clause-names : goal.returns-then-key-entry-clause-names
returns-then-key-entry-clause-names c s of known =
    let src = c.args.source.now in
    let keys = c.key_of.new.keys in
    let found = c.in_ok-key.ensures.key s c.args.strings.now known.types known.keys in
    c.make_name-then-key-entry.ensures.names s of (record { types = c.in_ok-key.ensures.types s known.types; pointers = known.pointers; references = known.references; rings = known.rings; keys = with-keys src s c.args.strings.now keys c.args.first _ found })

pub returns-then-key-entry-clause-name : goal.returns-then-key-entry-clause-name
returns-then-key-entry-clause-name c s of known =
    let src = c.args.source.now in
    let keys = c.key_of.new.keys in
    let found = c.in_ok-key.ensures.key s c.args.strings.now known.types known.keys in
    c.make_name-then-key-entry.ensures.name s of (record { types = c.in_ok-key.ensures.types s known.types; pointers = known.pointers; references = known.references; rings = known.rings; keys = with-keys src s c.args.strings.now keys c.args.first _ found })

pub returns-in-Some-noted_by_key-clause-names : goal.returns-in-Some-noted_by_key-clause-names
returns-in-Some-noted_by_key-clause-names c s of known =
    let src = c.args.source.now in
    let texts = c.args.strings.now in
    let keys = c.key_of.new.keys in
    let p = placed_entry src (entry_view c.args.entry.now) in
    let key = c.in-Some.key in
    let k = subst (KnowsWith src s texts keys c.args.first) c.in-Some.is (c.in_ok-key.ensures.key s texts known.types known.keys) in
    let numbered = subst (λ (o : Option StringId). IfSome o (λ id. IsNumbered texts (wrapper_name p.entry.tag (key_text k.knows.text key)) id)) c.in-Some-noted_by_key.is (c.noted_by_key.ensures src s texts k.knows) in
    c.in_ok-note.ensures.names src s texts (key-wrappers src s texts keys c.args.first key k p of p.entry.tag c.in-Some-noted_by_key.name numbered)
    (record { types = c.in_ok-key.ensures.types s known.types; pointers = known.pointers; references = known.references; rings = known.rings; keys = k.knows })

pub returns-in-Some-noted_by_key-clause-name : goal.returns-in-Some-noted_by_key-clause-name
returns-in-Some-noted_by_key-clause-name c s of known =
    let src = c.args.source.now in
    let texts = c.args.strings.now in
    let keys = c.key_of.new.keys in
    let p = placed_entry src (entry_view c.args.entry.now) in
    let key = c.in-Some.key in
    let k = subst (KnowsWith src s texts keys c.args.first) c.in-Some.is (c.in_ok-key.ensures.key s texts known.types known.keys) in
    let numbered = subst (λ (o : Option StringId). IfSome o (λ id. IsNumbered texts (wrapper_name p.entry.tag (key_text k.knows.text key)) id)) c.in-Some-noted_by_key.is (c.noted_by_key.ensures src s texts k.knows) in
    key-wrapper src s texts keys c.args.first key k p of (λ same. c.if-key-entry.false (sym same)) c.in-Some-noted_by_key.name numbered

pub returns-in_err-name-clause-name : goal.returns-in_err-name-clause-name
returns-in_err-name-clause-name c s of known =
    let src = c.args.source.now in
    let keys = c.key_of.new.keys in
    let found = c.in_ok-key.ensures.key s c.args.strings.now known.types known.keys in
    let q = err_from_is_err_and c.from_residual-in_err-name.result c.from_residual-in_err-name.ensures.1 in
    rw (q.1, q.2) (c.in_err-name.ensures.name s of (record { types = c.in_ok-key.ensures.types s known.types; pointers = known.pointers; references = known.references; rings = known.rings; keys = with-keys src s c.args.strings.now keys c.args.first _ found }))

pub returns-clause-names : goal.returns-clause-names
returns-clause-names c s of known =
    let src = c.args.source.now in
    let texts = c.args.strings.now in
    let more = c.make_name-2.new.strings in
    let keys = c.key_of.new.keys in
    let p = placed_entry src (entry_view c.args.entry.now) in
    let key = c.in-Some.key in
    let names = c.make_name-2.new.names in
    let k = subst (KnowsWith src s texts keys c.args.first) c.in-Some.is (c.in_ok-key.ensures.key s texts known.types known.keys) in
    let before : KnowsNames src s texts _ = record { types = c.in_ok-key.ensures.types s known.types; pointers = known.pointers; references = known.references; rings = known.rings; keys = k.knows } in
    let made = c.in_ok-name.ensures.names s of before in
    let later = key-later src s texts keys c.args.first key k more names.keys c.in_ok-name.ensures.grows c.in_ok-name.ensures.keys in
    let numbered = key-numbered src s more names.keys c.args.first key later p of (λ same. c.if-key-entry.false (sym same)) c.in_ok-name.name (c.in_ok-name.ensures.name s of before) in
    record { types = made.types; pointers = made.pointers; references = made.references; rings = made.rings; keys = c.in_ok-note_key.ensures src s more later.knows later.below numbered }

pub returns-clause-name : goal.returns-clause-name
returns-clause-name c s of known =
    let src = c.args.source.now in
    let keys = c.key_of.new.keys in
    let found = c.in_ok-key.ensures.key s c.args.strings.now known.types known.keys in
    c.in_ok-name.ensures.name s of (record { types = c.in_ok-key.ensures.types s known.types; pointers = known.pointers; references = known.references; rings = known.rings; keys = with-keys src s c.args.strings.now keys c.args.first _ found })
