use Rattle.std.proofs.Common.{◌∙◌, map, sym}
use Rattle.std.specs.Prelude.{is_some}
use Rattle.std.specs.FinMap as finite
use Rattle.dwc_isa.specs.Registers.{Registers}
use Rattle.dwc_isa.specs.ValueLabels.{range_view}
use Rattle.dwc_expr.specs.CodeRanges.{code_range_view}
use Rattle.dwc_expr.proofs.VaryingLaws.{alone-varies}
use Rattle.dwc_expr.proofs.build.varying.varies_by.Goals as goal

pub returns : goal.returns
returns g c = λ numbered told functions frame x same have t good is.
    let registers : Registers = (goal.TargetIsa-dyn g c.args.isa.now).dwarf_registers c.args.isa.now.1 in
    let local = c.args.local in
    alone-varies registers (map range_view c.args.pieces.now) told c.requires.flat same (sym (have (λ n. is_some (finite.get registers n))) ∙ sym c.are_numbered.ensures ∙ numbered) functions frame local.label.0 local.trailing (code_range_view c.args.range) x is c.requires.some c.args.own t good
    (sym c.is_own.ensures ∙ c.if-not-is_own.false) (c.varies_in.ensures c.if-not-varies_in.false)
