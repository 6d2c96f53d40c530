use Rattle.std.proofs.Common.{◌∙◌, Bor, map, option_map, subst, sym}
use Rattle.dwc_native.specs.BuiltExpressions.{Surroundings, built_on_ranges}
use Rattle.dwc_native.specs.Parts.{label_alone}
use Rattle.dwc_isa.specs.Registers.{Registers}
use Rattle.dwc_isa.specs.ValueLabels.{range_view}
use Rattle.dwc_expr.specs.declared.frame.FunctionFrameInfo.{FunctionFrameInfo}
use Rattle.dwc_expr.specs.Builds.{surroundings}
use Rattle.dwc_expr.specs.Frames.{frame_view}
use Rattle.dwc_expr.specs.OverIntervals.{PutsBuilt}
use Rattle.dwc_expr.proofs.OverIntervalLaws.{flat-good, flat-tell, no-pieces, nowhere-put, over-label}
use Rattle.dwc_expr.proofs.build.over_intervals.put_by_pieces.Goals as goal

pub returns-then-is_empty-clause-puts : goal.returns-then-is_empty-clause-puts
returns-then-is_empty-clause-puts g c =
    let registers : Registers = (goal.TargetIsa-dyn g c.args.isa.now).dwarf_registers c.args.isa.now.1 in
    nowhere-put c.args.frame_info c.args.label.0 (map range_view c.args.pieces.now) c.requires.flat c.requires.good c.args.addr_tr.now registers c.args.interval c.args.locations.now.items (no-pieces c.args.pieces.now (sym c.is_empty.ensures ∙ c.if-is_empty.true))

pub returns-in-Some-clause-puts : goal.returns-in-Some-clause-puts
returns-in-Some-clause-puts g c =
    let registers : Registers = (goal.TargetIsa-dyn g c.args.isa.now).dwarf_registers c.args.isa.now.1 in
    let f = c.args.frame_info in
    let label = c.args.label.0 in
    let pieces = map range_view c.args.pieces.now in
    let s : Surroundings = surroundings c.args.addr_tr.now (option_map (λ (x : Bor FunctionFrameInfo). x.now) f) registers in
    subst (λ e. PutsBuilt e c.args.locations.now.items c.put_on_range.new.locations.items c.put_on_range.result) (sym (over-label s c.args.interval label))
    (subst (λ rs. PutsBuilt (built_on_ranges s rs (label_alone label)) c.args.locations.now.items c.put_on_range.new.locations.items c.put_on_range.result) (sym c.in-Some.ensures.range)
    (c.put_on_range.ensures.puts c.args.addr_tr.now (frame_view (option_map (λ (x : Bor FunctionFrameInfo). x.now) f))
    (flat-tell f label pieces c.requires.flat c.requires.good c.own_function-own.result c.own_function-own.ensures)
    (flat-good f label pieces c.requires.flat c.requires.good)))
