use Rattle.std.proofs.Common.{refl, subst}
use Rattle.std.proofs.lemmas.Result.{err_from_is_err_and}
use Rattle.dwc_rules.specs.TypeNames.{type_name}
use Rattle.dwc_rules.specs.Wrappers.{wrapper_name}
use Rattle.dwc_read.specs.EntriesSeen.{entry_view}
use Rattle.dwc_types.specs.declared.type_name.ChainName.{ChainName}
use Rattle.dwc_source.specs.Sources.{placed_entry}
use Rattle.dwc_types.specs.KnownNames.{IsWrapperName}
use Rattle.dwc_source.specs.KnownTexts.{IsNumbered}
use Rattle.dwc_types.proofs.NotedNameLaws.{names-grown, names-wrappers, unnumbered}
use Rattle.dwc_types.proofs.TypeStepLaws.{refused-alike}
use Rattle.dwc_types.proofs.type_name.make_name.Goals as goal

pub returns-in_err-made-clause-name : goal.returns-in_err-made-clause-name
returns-in_err-made-clause-name c s of known =
    let p = placed_entry c.args.source.now (entry_view c.args.entry.now) in
    let q = err_from_is_err_and c.from_residual.result c.from_residual.ensures.1 in
    rw (q.1, q.2) (refused-alike (λ (made : ChainName). made.name.items) (λ name. name) (type_name s.texts s.entries p) c.in_err-made.field-0.0 (c.in_err-made.ensures.name s p of refl known.types))

pub returns-in_err-name-clause-name : goal.returns-in_err-name-clause-name
returns-in_err-name-clause-name c s of known =
    let p = placed_entry c.args.source.now (entry_view c.args.entry.now) in
    let q = err_from_is_err_and c.from_residual-in_err-name.result c.from_residual-in_err-name.ensures.1 in
    rw (q.1, q.2) (unnumbered s p c.in_err-name.field-0.0 c.in_err-name.ensures.memory)

pub returns-clause-names : goal.returns-clause-names
returns-clause-names c s of known =
    let src = c.args.source.now in
    let old = c.args.strings.now in
    let new = c.add_name.new.strings in
    let tag = c.args.entry.now.tag in
    let p = placed_entry src (entry_view c.args.entry.now) in
    let made = c.in_ok-made.made in
    let id = c.in_ok-name.name in
    let numbered = subst (λ name. IsNumbered new (wrapper_name tag name) id) c.deref.ensures.value c.in_ok-name.ensures.number in
    let own : IsWrapperName s new p id = record { name = made.name.items; read = c.in_ok-made.ensures.name s p of refl known.types; number = numbered } in
    let named = names-wrappers src of.number s (entry_view c.args.entry.now) c.args.first of.source of.type_is made.but made.name.items new tag id (λ f same. c.in_ok-made.ensures.others s f same known.types) numbered in
    let grown = names-grown src s old new _ c.add_name.ensures.grows (record { types = c.in_ok-made.ensures.types s known.types; pointers = known.pointers; references = known.references; rings = known.rings; keys = known.keys }) in
    c.in_ok-note_made.ensures.names src s new p c.args.first of refl refl refl own named grown

pub returns-clause-name : goal.returns-clause-name
returns-clause-name c s of known =
    let new = c.add_name.new.strings in
    let p = placed_entry c.args.source.now (entry_view c.args.entry.now) in
    let id = c.in_ok-name.name in
    record {
      name = c.in_ok-made.made.name.items;
      read = c.in_ok-made.ensures.name s p of refl known.types;
      number = subst (λ name. IsNumbered new (wrapper_name p.entry.tag name) id) c.deref.ensures.value c.in_ok-name.ensures.number;
    }
