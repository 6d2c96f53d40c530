use Rattle.std.proofs.Common.{Ok, ap, sym, subst, ◌∙◌}
use Rattle.std.specs.Prelude.{option_map}
use Rattle.dwc_rules.specs.EntryRules.{of_list}
use Rattle.dwc_dwarf.specs.Lists.{list_source}
use Rattle.dwc_rules.specs.RangeRules.{code_becomes, told_as}
use Rattle.dwc_rules.specs.Refusals.{of_place}
use Rattle.dwc_read.specs.Faults.{fault_seen}
use Rattle.dwc_read.specs.ValuesSeen.{value_view}
use Rattle.dwc_source.specs.Errors.{refusal_told}
use Rattle.dwc_source.specs.MadeValues.{RefusesSo}
use Rattle.dwc_clone.proofs.CodeValueLaws.{address-none, address-says, address-told}
use Rattle.dwc_source.proofs.ErrorLaws.{told-reading}
use Rattle.dwc_clone.proofs.value.address.Goals as goal

pub returns-in-Ok-Some-clause-made : goal.returns-in-Ok-Some-clause-made
returns-in-Ok-Some-clause-made c = λ number name texts is.
    let u = c.args.source.now.unit.now in
    address-says c.args.source.now.transform.now u.sections u.header c.args.offset c.args.source.now.places.now number name texts (value_view c.args.value) c.in-Ok-Some.address c.carried_address-native.result is (c.in-Ok-Some.ensures.address ∙ ap Ok c.in-Ok-Some.field-0-is) c.carried_address-native.ensures.address c.carried_address-native.ensures.fits

pub returns-in-Ok-Some-clause-fits : goal.returns-in-Ok-Some-clause-fits
returns-in-Ok-Some-clause-fits c = λ size name. c.carried_address-native.ensures.fits size

pub returns-in-Ok-None-clause-made : goal.returns-in-Ok-None-clause-made
returns-in-Ok-None-clause-made c = λ number name texts is.
    let u = c.args.source.now.unit.now in
    address-none c.args.source.now.transform.now u.sections u.header c.args.offset c.args.source.now.places.now number name texts (value_view c.args.value) is (c.in-Ok-None.ensures.address ∙ ap Ok c.in-Ok-None.field-0-is)

pub returns-in-Err-clause-made : goal.returns-in-Err-clause-made
returns-in-Err-clause-made c = λ number name texts is.
    let u = c.args.source.now.unit.now in
    let told = ap refusal_told c.from.ensures ∙ told-reading c.at.result ∙ ap (option_map of_place) c.at.ensures in
    subst (RefusesSo (told_as of_list (code_becomes (list_source u.sections u.header) c.args.source.now.transform.now c.args.offset (value_view c.args.value)))) (sym told)
    (address-told c.args.source.now.transform.now u.sections u.header c.args.offset (value_view c.args.value) (fault_seen c.in-Err.fault) is c.in-Err.ensures.address)
