use Rattle.std.proofs.Common.{Some, sym, subst}
use Rattle.std.specs.List.{All}
use Rattle.dwc_rules.specs.EntryRules.{of_list}
use Rattle.dwc_dwarf.specs.Lists.{list_source}
use Rattle.dwc_rules.specs.RangeRules.{code_becomes, told_as}
use Rattle.dwc_read.specs.ValuesSeen.{value_view}
use Rattle.dwc_source.specs.Errors.{refusal_told}
use Rattle.dwc_unit.specs.declared.attributes.AttributeValue.TheVariants.{RangeListRef}
use Rattle.dwc_unit.specs.declared.lists.RangeList.{RangeList}
use Rattle.dwc_unit.specs.RangeLists.{FitsRange}
use Rattle.dwc_source.specs.MadeValues.{IsMade, RefusesSo, Says}
use Rattle.dwc_clone.proofs.CodeValueLaws.{list-says, list-told}
use Rattle.dwc_clone.proofs.value.range_list.Goals as goal

pub returns-in-None-clause-made : goal.returns-in-None-clause-made
returns-in-None-clause-made c = λ number name texts named.
    let u = c.args.source.now.unit.now in
    let becomes = told_as of_list (code_becomes (list_source u.sections u.header) c.args.source.now.transform.now c.args.offset (value_view c.args.value)) in
    subst (λ list. IsMade (λ draft x. Says c.args.source.now.places.now number name texts draft (Some x)) becomes (RangeListRef list)) (sym c.new.ensures)
    (list-says c.args.source.now.transform.now u.sections u.header c.args.offset c.args.source.now.places.now number name texts (value_view c.args.value) c.in_ok-native.native c.requires.list named c.in_ok-native.ensures c.in-None.is)

pub returns-in-None-clause-fits : goal.returns-in-None-clause-fits
returns-in-None-clause-fits c = λ size name named. (named, subst (λ (list : RangeList). All (FitsRange size) list.ranges.items) (sym c.new.ensures) (c.in_ok-native.ensures.ranges.fit size))

pub returns-in-Some-clause-made : goal.returns-in-Some-clause-made
returns-in-Some-clause-made c = λ number name texts named.
    let u = c.args.source.now.unit.now in
    subst (λ x. RefusesSo (told_as of_list (code_becomes (list_source u.sections u.header) c.args.source.now.transform.now c.args.offset (value_view c.args.value))) (refusal_told x)) (sym c.from.ensures)
    (list-told c.args.source.now.transform.now u.sections u.header c.args.offset (value_view c.args.value) c.in_ok-native.native c.in-Some.fault c.requires.list c.in_ok-native.ensures c.in-Some.is)
