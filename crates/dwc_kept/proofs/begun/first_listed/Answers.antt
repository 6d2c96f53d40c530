use Rattle.std.proofs.Common.{◌≡◌, Some, ap, sym, ◌∙◌, true}
use Rattle.std.specs.Prelude.{option_map}
use Rattle.dwc_base.specs.declared.constants.TheConstants.{DW_AT_ranges}
use Rattle.dwc_dwarf.specs.Entries.{attribute}
use Rattle.dwc_dwarf.specs.RawLists.{is_range_list}
use Rattle.dwc_read.specs.EntriesSeen.{entry_view}
use Rattle.dwc_read.specs.Faults.{fault_seen}
use Rattle.dwc_read.specs.ValuesSeen.{value_view}
use Rattle.dwc_kept.proofs.BegunLaws.{first_begin, listed-first, unfound-none}
use Rattle.dwc_kept.proofs.begun.first_listed.Goals as goal

pub returns-in-Ok : goal.returns-in-Ok
returns-in-Ok c =
    let u = c.args.unit.now in
    let named : Some (value_view c.in-Some.ranges) ≡ attribute DW_AT_ranges (entry_view c.args.entry.now) = ap (option_map value_view) (sym c.in-Some.is) ∙ c.attr.ensures in
    let is_list : is_range_list (value_view c.in-Some.ranges) ≡ true = sym c.is_range_list.ensures ∙ c.if-not-is_range_list.false in
    c.first_begin.ensures ∙ ap (λ l. first_begin l.items) (c.in-Ok.ensures (entry_view c.args.entry.now).offset) ∙ sym (listed-first u.sections u.header (entry_view c.args.entry.now) (value_view c.in-Some.ranges) (sym named) is_list)

pub returns-in-Err : goal.returns-in-Err
returns-in-Err c =
    let u = c.args.unit.now in
    let named : Some (value_view c.in-Some.ranges) ≡ attribute DW_AT_ranges (entry_view c.args.entry.now) = ap (option_map value_view) (sym c.in-Some.is) ∙ c.attr.ensures in
    let is_list : is_range_list (value_view c.in-Some.ranges) ≡ true = sym c.is_range_list.ensures ∙ c.if-not-is_range_list.false in
    unfound-none u.sections u.header (entry_view c.args.entry.now) (value_view c.in-Some.ranges) (sym named) is_list (fault_seen c.in-Err.field-0) c.in-Err.ensures ∙ sym (listed-first u.sections u.header (entry_view c.args.entry.now) (value_view c.in-Some.ranges) (sym named) is_list)
