use Rattle.std.proofs.Common.{ap, sym, subst, ◌∙◌, option_map}
use Rattle.dwc_dwarf.specs.Lists.{list_source}
use Rattle.dwc_rules.specs.Refusals.{of_place}
use Rattle.dwc_rules.specs.RangeRefusals.{index_fault}
use Rattle.dwc_read.specs.Faults.{fault_seen}
use Rattle.dwc_read.specs.ValuesSeen.{value_view}
use Rattle.dwc_source.specs.Errors.{refusal_told}
use Rattle.dwc_extents.specs.NativeExtents.{IsTold}
use Rattle.dwc_extents.proofs.BoundLaws.{address-read, address-told}
use Rattle.dwc_source.proofs.ErrorLaws.{told-reading}
use Rattle.dwc_extents.proofs.bounds.check_address.Goals as goal

pub returns-in-Ok : goal.returns-in-Ok
returns-in-Ok c = address-read c.args.unit.now.sections c.args.unit.now.header c.args.offset (value_view c.args.value) c.in-Ok.field-0 c.in-Ok.ensures.address

pub returns-in-Err : goal.returns-in-Err
returns-in-Err c =
    let u = c.args.unit.now in
    let told = ap refusal_told c.from.ensures ∙ (told-reading c.at.result ∙ ap (option_map of_place) c.at.ensures) in
    subst (IsTold (option_map of_place (index_fault (list_source u.sections u.header) c.args.offset (value_view c.args.value)))) (sym told)
    (address-told u.sections u.header c.args.offset (value_view c.args.value) (fault_seen c.in-Err.fault) c.in-Err.ensures.address)
