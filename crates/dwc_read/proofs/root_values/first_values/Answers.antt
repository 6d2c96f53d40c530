use Rattle.std.proofs.Common.{ℕ, pos, sym, ◌∙◌, arith, Option}
use Rattle.dwc_base.specs.declared.constants.TheConstants.{DW_AT_addr_base, DW_AT_loclists_base, DW_AT_low_pc, DW_AT_rnglists_base, DW_AT_str_offsets_base}
use Rattle.dwc_read.specs.declared.attribute_spec.AttributeSpec.{AttributeSpec}
use Rattle.dwc_read.specs.declared.root_values.Said.{Said}
use Rattle.dwc_read.specs.Headers.{header_view}
use Rattle.dwc_read.proofs.RootLaws.{firsts-flaw, firsts-end, firsts-preserved}
use Rattle.dwc_read.proofs.root_values.first_values.Goals as goal

abbrev none : AttributeSpec
none = record { name = 0; skip = 0; skip_bytes = 0; form = 0; implicit = pos 0 }

pub loop-spec-preserved : goal.loop-spec-preserved
loop-spec-preserved c =
    let s = c.args.sections.now in
    let h = header_view c.args.header.now in
    let i = c.loop-spec.spec-index in
    let seen = c.loop-spec.values in
    let read = c.in-Ok.ensures in
    let so_far = c.loop-spec.invariant in
    let keeps = λ (wanted : ℕ) (before kept whole : Option Said). firsts-preserved s h c.args.specs.now i none c.loop-spec.cursor wanted before kept whole c.in-Ok.more read.0 c.root_value.new.cursor (omega arith) read.1 read.2 in
    record {
      str_offsets_base = keeps DW_AT_str_offsets_base seen.str_offsets_base c.kept.result _ c.kept.ensures so_far.str_offsets_base;
      addr_base = keeps DW_AT_addr_base seen.addr_base c.kept-in-loop-spec.result _ c.kept-in-loop-spec.ensures so_far.addr_base;
      rnglists_base = keeps DW_AT_rnglists_base seen.rnglists_base c.kept-in-loop-spec-2.result _ c.kept-in-loop-spec-2.ensures so_far.rnglists_base;
      loclists_base = keeps DW_AT_loclists_base seen.loclists_base c.kept-in-loop-spec-3.result _ c.kept-in-loop-spec-3.ensures so_far.loclists_base;
      low_pc = keeps DW_AT_low_pc seen.low_pc c.kept-in-loop-spec-4.result _ c.kept-in-loop-spec-4.ensures so_far.low_pc;
    }

pub returns : goal.returns
returns c =
    let s = c.args.sections.now in
    let h = header_view c.args.header.now in
    let seen = c.loop-spec.values in
    let so_far = c.loop-spec.invariant in
    let end = λ (wanted : ℕ) (before : Option Said). sym (firsts-end s h c.args.specs.now c.loop-spec.spec-index none c.loop-spec.cursor wanted before c.loop-spec-test.false) in
    record {
      str_offsets_base = end DW_AT_str_offsets_base seen.str_offsets_base ∙ so_far.str_offsets_base;
      addr_base = end DW_AT_addr_base seen.addr_base ∙ so_far.addr_base;
      rnglists_base = end DW_AT_rnglists_base seen.rnglists_base ∙ so_far.rnglists_base;
      loclists_base = end DW_AT_loclists_base seen.loclists_base ∙ so_far.loclists_base;
      low_pc = end DW_AT_low_pc seen.low_pc ∙ so_far.low_pc;
    }

pub returns-in_default : goal.returns-in_default
returns-in_default c =
    let s = c.args.sections.now in
    let h = header_view c.args.header.now in
    let seen = c.loop-spec.values in
    let so_far = c.loop-spec.invariant in
    let none_of = c.no_values.ensures in
    let end = λ (wanted : ℕ) (before : Option Said). sym (firsts-flaw s h c.args.specs.now c.loop-spec.spec-index none c.loop-spec.cursor wanted before c.in_default.field-0 (omega arith) c.in_default.ensures) in
    record {
      str_offsets_base = none_of.str_offsets_base ∙ end DW_AT_str_offsets_base seen.str_offsets_base ∙ so_far.str_offsets_base;
      addr_base = none_of.addr_base ∙ end DW_AT_addr_base seen.addr_base ∙ so_far.addr_base;
      rnglists_base = none_of.rnglists_base ∙ end DW_AT_rnglists_base seen.rnglists_base ∙ so_far.rnglists_base;
      loclists_base = none_of.loclists_base ∙ end DW_AT_loclists_base seen.loclists_base ∙ so_far.loclists_base;
      low_pc = none_of.low_pc ∙ end DW_AT_low_pc seen.low_pc ∙ so_far.low_pc;
    }
