use Rattle.std.proofs.Common.{ap, sym, ◌∙◌}
use Rattle.std.specs.Prelude.{option_map}
use Rattle.dwc_compiled.specs.declared.instruction_maps.Gap.{Gap}
use Rattle.dwc_addr.proofs.NativeLaws.{below-parts, gap-none, gap-other, gap-found, no_gap}
use Rattle.dwc_addr.proofs.positions.gap_behind.Goals as goal

pub returns-in_err-gap-clause-found : goal.returns-in_err-gap-clause-found
returns-in_err-gap-clause-found c =
    let gs = c.args.gaps.now in
    let at = below-parts (λ (g : Gap). g.before) gs c.gaps_before-first.result c.args.before c.gaps_before-first.ensures in
    c.from_residual.ensures ∙ ap (option_map (λ (g : Gap). g.generated)) (sym (gap-none gs c.args.before _ at no_gap (c.in_err-gap.ensures.lookup).3))

pub returns-then-gap-before-clause-found : goal.returns-then-gap-before-clause-found
returns-then-gap-before-clause-found c =
    let gs = c.args.gaps.now in
    let at = below-parts (λ (g : Gap). g.before) gs c.gaps_before-first.result c.args.before c.gaps_before-first.ensures in
    ap (option_map (λ (g : Gap). g.generated)) (sym (gap-other gs c.args.before _ at c.in_ok-gap.gap.now c.requires.apart (c.in_ok-gap.ensures.lookup).3.0 (sym (c.in_ok-gap.ensures.lookup).1) c.if-gap-before.true))

pub returns-clause-found : goal.returns-clause-found
returns-clause-found c =
    let gs = c.args.gaps.now in
    let at = below-parts (λ (g : Gap). g.before) gs c.gaps_before-first.result c.args.before c.gaps_before-first.ensures in
    ap (option_map (λ (g : Gap). g.generated)) (sym (gap-found gs c.args.before _ at c.in_ok-gap.gap.now (c.in_ok-gap.ensures.lookup).3.0 (sym (c.in_ok-gap.ensures.lookup).1) c.if-gap-before.false))
