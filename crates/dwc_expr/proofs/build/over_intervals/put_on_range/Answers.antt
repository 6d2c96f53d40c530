use Rattle.std.proofs.Common.{◌∙◌, ◌∷◌, [], map, refl, subst, sym, true}
use Rattle.dwc_native.specs.BuiltExpressions.{built_on_ranges}
use Rattle.dwc_native.specs.Parts.{label_alone}
use Rattle.dwc_isa.specs.Registers.{Registers}
use Rattle.dwc_isa.specs.ValueLabels.{range_view}
use Rattle.dwc_expr.specs.Alone.{framed}
use Rattle.dwc_expr.specs.CodeRanges.{code_range_view}
use Rattle.dwc_expr.specs.OverIntervals.{PutsBuilt}
use Rattle.dwc_expr.proofs.AloneLaws.{alone-elsewhere, own-put}
use Rattle.dwc_expr.proofs.OverIntervalLaws.{nothing-put}
use Rattle.dwc_expr.proofs.build.over_intervals.put_on_range.Goals as goal

pub returns-then-not-is_own-clause-puts : goal.returns-then-not-is_own-clause-puts
returns-then-not-is_own-clause-puts g c = λ functions frame t good.
    let registers : Registers = (goal.TargetIsa-dyn g c.args.isa.now).dwarf_registers c.args.isa.now.1 in
    let label = c.args.label.0 in
    nothing-put _ _ c.args.locations.now.items
    (alone-elsewhere functions frame registers label true (code_range_view c.args.range) (label_alone label) refl c.requires.some c.args.own (map range_view c.args.pieces.now) t good (sym c.is_own.ensures ∙ c.if-not-is_own.true))

pub returns-clause-puts : goal.returns-clause-puts
returns-clause-puts g c = λ functions frame t good.
    let registers : Registers = (goal.TargetIsa-dyn g c.args.isa.now).dwarf_registers c.args.isa.now.1 in
    let label = c.args.label.0 in
    let r = code_range_view c.args.range in
    subst (λ old. PutsBuilt (built_on_ranges (framed functions frame registers) (r ∷ []) (label_alone label)) old c.put_expressions.new.expressions.items c.put_expressions.result) c.make_room.ensures
    (own-put functions frame registers label true r (label_alone label) refl c.requires.some c.args.own (map range_view c.args.pieces.now) t good (sym c.is_own.ensures ∙ c.if-not-is_own.false)
    c.make_room.new.locations.items c.put_expressions.new.expressions.items c.put_expressions.result c.put_expressions.ensures.puts)
