use Rattle.std.proofs.Common.{◌≡◌, true, Some, ap, sym, ◌∙◌, option_map, subst}
use Rattle.std.specs.Prelude.{◌&&◌}
use Rattle.dwc_base.specs.declared.constants.TheConstants.{DW_AT_artificial, DW_AT_name}
use Rattle.dwc_dwarf.specs.Entries.{attribute}
use Rattle.dwc_rules.specs.ObjectPointers.{is_pointer, is_set_flag, is_this_name}
use Rattle.dwc_rules.specs.TypeNames.{type_of}
use Rattle.dwc_read.specs.EntriesSeen.{entry_view}
use Rattle.dwc_read.specs.ValuesSeen.{value_view}
use Rattle.dwc_source.specs.Sources.{placed_entry}
use Rattle.dwc_clone.specs.ParameterContexts.{GivesOnly}
use Rattle.dwc_clone.proofs.object_pointer.looks_like_this.Goals as goal

pub returns : goal.returns
returns c = λ number s source emitted.
    let e = entry_view c.args.entry.now in
    let set : is_set_flag (attribute DW_AT_artificial e) ≡ true =
    ap is_set_flag (sym c.attr.ensures ∙ ap (option_map value_view) c.in-Some-Flag-true.is) ∙ (ap (λ v. is_set_flag (Some (value_view v))) c.in-Some-Flag-true.field-0-is ∙ c.in-Some-Flag-true.field-0-0-test) in
    let this : is_this_name s.texts (attribute DW_AT_name e) ≡ true = ap (λ texts. is_this_name texts (attribute DW_AT_name e)) source.texts ∙ (sym c.is_this.ensures ∙ c.if-not-is_this.false) in
    let pointer = is_pointer (type_of s.entries (placed_entry c.args.source.now e)) in
    subst (λ b. GivesOnly b c.goes_to_pointer.result) (sym (ap (λ b. b && is_this_name s.texts (attribute DW_AT_name e) && pointer) set ∙ ap (λ b. b && pointer) this)) (c.goes_to_pointer.ensures number s source emitted)
