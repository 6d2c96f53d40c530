use Rattle.std.proofs.Common.{◌==◌, sym, ap, subst, ◌∙◌, option_map, OnOk}
use Rattle.std.specs.Option.{unwrap_or}
use Rattle.std.specs.Prelude.{pos}
use Rattle.dwc_base.specs.declared.constants.TheConstants.{DW_TAG_compile_unit}
use Rattle.dwc_base.specs.declared.records.Address.TheVariants.{Symbol}
use Rattle.dwc_dwarf.specs.Lists.{list_source}
use Rattle.dwc_rules.specs.RangeAttributes.{bounds, with_base}
use Rattle.dwc_read.specs.EntriesSeen.{entry_view}
use Rattle.dwc_addr.specs.Transforms.{function_view}
use Rattle.dwc_clone.specs.ClonedEntries.{IsGiven}
use Rattle.dwc_clone.proofs.CodeLaws.{function-said, extent-said}
use Rattle.dwc_clone.proofs.code.set_code.Goals as goal

pub returns-in_default-clause-given : goal.returns-in_default-clause-given
returns-in_default-clause-given c number texts base e last =
    let u = c.args.source.now.unit.now in
    let s = list_source u.sections u.header in
    let none = sym c.requires.begun ∙ ap (option_map (λ f. function_view f.now)) c.in_default.is in
    let is = extent-said s c.args.source.now.transform.now (entry_view c.args.entry.now) none ∙ sym c.in_ok-extent.ensures.says in
    subst (λ values. OnOk c.set_extent.result (IsGiven number texts texts values base e c.set_extent.new.unit)) (sym (ap (with_base c.args.source.now.module.output_for ((entry_view c.args.entry.now).tag == DW_TAG_compile_unit)) is)) (c.set_extent.ensures.given number texts base e last)

pub returns-clause-given : goal.returns-clause-given
returns-clause-given c number texts base e last =
    let u = c.args.source.now.unit.now in
    let s = list_source u.sections u.header in
    let f = function_view c.in-Some.function.now in
    let some = sym c.requires.begun ∙ ap (option_map (λ f. function_view f.now)) c.in-Some.is in
    let symbol = ap (λ s. unwrap_or s 0) c.unwrap.ensures in
    let is = function-said s c.args.source.now.transform.now (entry_view c.args.entry.now) f some ∙ ap (λ n. bounds (Symbol n (pos 0)) f.length) symbol in
    subst (λ values. OnOk c.set_bounds.result (IsGiven number texts texts values base e c.set_bounds.new.unit)) (sym (ap (with_base c.args.source.now.module.output_for ((entry_view c.args.entry.now).tag == DW_TAG_compile_unit)) is)) (c.set_bounds.ensures.given number texts base e last)
