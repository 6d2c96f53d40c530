use Rattle.std.proofs.Common.{◌∙◌, ap, option_map, sym}
use Rattle.dwc_rules.specs.TypeNames.{unknown}
use Rattle.dwc_read.specs.EntriesSeen.{entry_view}
use Rattle.dwc_source.specs.Sources.{placed_entry}
use Rattle.dwc_types.specs.TypeChains.{type_view}
use Rattle.dwc_types.proofs.ChainWalkLaws.{untyped}
use Rattle.dwc_types.proofs.NotedNameLaws.{gives-number, names-grown}
use Rattle.dwc_source.proofs.ErrorLaws.{always-ok}
use Rattle.dwc_types.proofs.type_name.name_of_wrapper.Goals as goal

pub returns-in_default-clause-names : goal.returns-in_default-clause-names
returns-in_default-clause-names c number s source emitted known = always-ok c.add_name.result (names-grown c.args.source.now s c.args.strings.now c.add_name.new.strings c.args.names.now c.add_name.ensures.grows known)

pub returns-in_default-clause-name : goal.returns-in_default-clause-name
returns-in_default-clause-name c number s source emitted known =
    let src = c.args.source.now in
    let p = placed_entry src (entry_view c.args.entry.now) in
    let none = sym c.type_of.ensures ∙ ap (option_map type_view) c.in_default.is in
    gives-number s c.add_name.new.strings p unknown c.add_name.result (untyped src number s p source emitted none) c.add_name.ensures.number c.add_name.ensures.memory

pub returns-in-None-clause-names : goal.returns-in-None-clause-names
returns-in-None-clause-names c number s source emitted known =
    let type_is = sym c.type_of.ensures ∙ ap (option_map type_view) c.in-Some.is in
    c.find_name.ensures.names s (record { number = number; source = source; emitted = emitted; type_is = type_is }) known
