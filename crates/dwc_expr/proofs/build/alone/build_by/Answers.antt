use Rattle.std.proofs.Common.{◌++◌, ◌∙◌, ap, map, sym}
use Rattle.std.proofs.lemmas.Result.{err_from_is_err_and}
use Rattle.dwc_isa.specs.Registers.{Registers}
use Rattle.dwc_isa.specs.ValueLabels.{range_view}
use Rattle.dwc_expr.specs.Alone.{lone_location, parts_in}
use Rattle.dwc_expr.specs.Builds.{location_view}
use Rattle.dwc_expr.specs.CodeRanges.{code_range_view}
use Rattle.dwc_expr.proofs.AloneLaws.{alone-elsewhere, own-built, own-refused}
use Rattle.dwc_expr.proofs.build.alone.build_by.Goals as goal

pub returns-then-not-is_own : goal.returns-then-not-is_own
returns-then-not-is_own g c = λ functions frame x t good is.
    let registers : Registers = (goal.TargetIsa-dyn g c.args.isa.now).dwarf_registers c.args.isa.now.1 in
    let local = c.args.local in
    rw c.new.ensures.items (alone-elsewhere functions frame registers local.label.0 local.trailing (code_range_view c.args.range) x is c.requires.some c.args.own (map range_view c.args.pieces.now) t good (sym c.is_own.ensures ∙ c.if-not-is_own.true))

pub returns-in_err-put_expressions : goal.returns-in_err-put_expressions
returns-in_err-put_expressions g c = λ functions frame x t good is.
    let registers : Registers = (goal.TargetIsa-dyn g c.args.isa.now).dwarf_registers c.args.isa.now.1 in
    let local = c.args.local in
    let p = err_from_is_err_and c.from_residual-in_err-put_expressions.result c.from_residual-in_err-put_expressions.ensures.1 in
    rw (p.1, p.2)
    (own-refused functions frame registers local.label.0 local.trailing (code_range_view c.args.range) x is c.requires.some c.args.own (map range_view c.args.pieces.now) t good (sym c.is_own.ensures ∙ c.if-not-is_own.false)
    c.in_err-put_expressions.field-0.0 c.in_err-put_expressions.ensures.puts)

pub returns : goal.returns
returns g c = λ functions frame x t good is.
    let registers : Registers = (goal.TargetIsa-dyn g c.args.isa.now).dwarf_registers c.args.isa.now.1 in
    let local = c.args.local in
    own-built functions frame registers local.label.0 local.trailing (code_range_view c.args.range) x is c.requires.some c.args.own (map range_view c.args.pieces.now) t good (sym c.is_own.ensures ∙ c.if-not-is_own.false)
    (map location_view c.put_expressions.new.expressions.items) c.is_some.result c.in_ok-put_expressions.ensures.puts.0
    (c.in_ok-put_expressions.ensures.puts.1 ∙ ap (λ es. map location_view es ++ map (lone_location local.trailing registers) (parts_in c.args.range c.args.pieces.now)) c.in_ok-expressions.ensures.items)
    (c.is_some.ensures ∙ c.last_in.ensures.filled)
