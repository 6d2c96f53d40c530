use Rattle.std.proofs.Common.{ap, sym, ◌∙◌}
use Rattle.std.specs.Prelude.{not, ◌&&◌}
use Rattle.std.proofs.lemmas.Bool.{ne_eqb}
use Rattle.dwc_base.specs.declared.constants.TheConstants.{DW_AT_high_pc, DW_AT_low_pc}
use Rattle.dwc_rules.specs.RangeRefusals.{has_name}
use Rattle.dwc_extents.proofs.BoundLaws.{before-front, later-high, later-low, later-not}
use Rattle.dwc_extents.proofs.bounds.is_later_bound.Goals as goal

pub returns-then-name-eq-DW_AT_low_pc : goal.returns-then-name-eq-DW_AT_low_pc
returns-then-name-eq-DW_AT_low_pc c = λ before v seen.
    c.has_only.ensures
    ∙ (ap (λ xs. not (has_name DW_AT_low_pc xs) && has_name DW_AT_high_pc xs) (before-front c.attrs.result.now c.split_at.result.0.now c.args.number _ before c.attrs.ensures c.split_at.ensures.front seen)
    ∙ later-low before c.args.name v c.if-name-eq-DW_AT_low_pc.true)

pub returns-then-name-eq-DW_AT_high_pc : goal.returns-then-name-eq-DW_AT_high_pc
returns-then-name-eq-DW_AT_high_pc c = λ before v seen.
    c.has_only-then-name-eq-DW_AT_high_pc.ensures
    ∙ (ap (λ xs. not (has_name DW_AT_high_pc xs) && has_name DW_AT_low_pc xs) (before-front c.attrs.result.now c.split_at.result.0.now c.args.number _ before c.attrs.ensures c.split_at.ensures.front seen)
    ∙ later-high before c.args.name v c.if-name-eq-DW_AT_high_pc.true)

pub returns : goal.returns
returns c = λ before v seen. sym (later-not before c.args.name v (ne_eqb c.args.name DW_AT_low_pc c.if-name-eq-DW_AT_low_pc.false) (ne_eqb c.args.name DW_AT_high_pc c.if-name-eq-DW_AT_high_pc.false))
