use Rattle.std.proofs.Common.{◌≡◌, Some, Err, ap, sym, ◌∙◌}
use Rattle.std.specs.Prelude.{option_map}
use Rattle.dwc_dwarf.specs.Entries.{attribute}
use Rattle.dwc_dwarf.specs.Lists.{list_source, address_among}
use Rattle.dwc_read.specs.EntriesSeen.{entry_view}
use Rattle.dwc_read.specs.ValuesSeen.{value_view}
use Rattle.dwc_kept.proofs.BegunLaws.{said-read, said-refused}
use Rattle.dwc_kept.proofs.begun.address_said.Goals as goal

pub returns-in-Ok : goal.returns-in-Ok
returns-in-Ok c =
    let u = c.args.unit.now in
    let named : Some (value_view c.in-Some.value) ≡ attribute c.args.name (entry_view c.args.entry.now) = ap (option_map value_view) (sym c.in-Some.is) ∙ c.attr.ensures in
    said-read u.sections u.header (value_view c.in-Some.value) c.in-Ok.address c.in-Ok.ensures.address ∙ ap (address_among (list_source u.sections u.header).indexed) named

pub returns-in-Err : goal.returns-in-Err
returns-in-Err c =
    let u = c.args.unit.now in
    let named : Some (value_view c.in-Some.value) ≡ attribute c.args.name (entry_view c.args.entry.now) = ap (option_map value_view) (sym c.in-Some.is) ∙ c.attr.ensures in
    said-refused u.sections u.header (value_view c.in-Some.value) c.in-Err.field-0 (λ same. c.in-Err.ensures.memory (ap Err same)) c.in-Err.ensures.address ∙ ap (address_among (list_source u.sections u.header).indexed) named
