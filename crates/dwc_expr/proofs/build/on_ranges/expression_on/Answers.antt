use Rattle.std.proofs.Common.{◌∙◌, map, sym, subst}
use Rattle.std.proofs.lemmas.Result.{err_from_is_err_and}
use Rattle.dwc_native.specs.Built.{Setting}
use Rattle.dwc_expr.specs.Jumps.{unless_fit}
use Rattle.dwc_expr.specs.PartViews.{part_view}
use Rattle.dwc_expr.specs.RangeSettings.{setting_on}
use Rattle.dwc_expr.specs.Refusals.{TellsFirst}
use Rattle.dwc_expr.proofs.JumpLaws.{fits-whole, bytes-whole}
use Rattle.dwc_expr.proofs.KnownLaws.{last-placed}
use Rattle.dwc_expr.proofs.build.on_ranges.expression_on.Goals as goal

pub put_dereference_if-requires : goal.put_dereference_if-requires
put_dereference_if-requires g c = last-placed c.args.setting.now.range.now c.args.parts.now c.requires.places

pub returns-in_err-put_parts : goal.returns-in_err-put_parts
returns-in_err-put_parts g c =
    let s : Setting = setting_on c.args.setting.now ((goal.TargetIsa-dyn g c.args.isa.now).dwarf_registers c.args.isa.now.1) in
    let parts = c.args.parts.now in
    let p = err_from_is_err_and c.from_residual-in_err-put_parts.result c.from_residual-in_err-put_parts.ensures.1 in
    rw (p.1, p.2) (subst (λ b. TellsFirst (unless_fit b) c.in_err-put_parts.field-0.0) (fits-whole s (map part_view parts.parts.now) parts.then_dereference c.new-expression.result c.new-expression.ensures) c.in_err-put_parts.ensures)

pub returns : goal.returns
returns g c =
    let s : Setting = setting_on c.args.setting.now ((goal.TargetIsa-dyn g c.args.isa.now).dwarf_registers c.args.isa.now.1) in
    let parts = c.args.parts.now in (
      sym (fits-whole s (map part_view parts.parts.now) parts.then_dereference c.new-expression.result c.new-expression.ensures) ∙ c.in_ok-put_parts.ensures.0,
      bytes-whole s (map part_view parts.parts.now) parts.then_dereference c.new-expression.result c.new-expression.ensures _ _ c.in_ok-put_parts.ensures.1 c.in_ok-put_dereference_if.ensures,
    )
