use Rattle.std.proofs.Common.{◌+◌, drop, filter_map, get_or, map, option_to_list, refl}
use Rattle.std.proofs.lemmas.Result.{err_from_is_err_and}
use Rattle.dwc_native.specs.Placed.{NativeRange}
use Rattle.dwc_isa.specs.Registers.{Registers}
use Rattle.dwc_isa.specs.ValueLabels.{range_view}
use Rattle.dwc_expr.specs.Alone.{parts_in}
use Rattle.dwc_expr.specs.CodeRanges.{code_range_view}
use Rattle.dwc_expr.specs.PlacedParts.{cut_by}
use Rattle.dwc_expr.proofs.AloneLaws.{alone-begin, alone-end, alone-more, alone-told}
use Rattle.dwc_expr.proofs.CutLaws.{parts-passed}
use Rattle.dwc_expr.proofs.CutWalkLaws.{no_piece, piece-step, pieces-done, pieces-past}
use Rattle.dwc_expr.proofs.FrontLaws.{front_behind, front_same}
use Rattle.dwc_expr.proofs.build.alone.put_expressions.Goals as goal

pub loop-place-init : goal.loop-place-init
loop-place-init g c =
    let registers : Registers = (goal.TargetIsa-dyn g c.args.isa.now).dwarf_registers c.args.isa.now.1 in
    let r : NativeRange = code_range_view c.args.range in
    let ps = c.args.pieces.now in
    record {
      leads = alone-begin c.args.local.trailing registers (filter_map (cut_by 0 r) (drop c.args.first (map range_view ps))) (parts_in c.args.range ps) c.args.expressions.now.items (parts-passed (map range_view ps) 0 c.args.first r c.requires.passed);
      front = front_same c.args.expressions.now.items c.args.expressions.now.items refl;
    }

pub loop-place-preserved : goal.loop-place-preserved
loop-place-preserved g c =
    let registers : Registers = (goal.TargetIsa-dyn g c.args.isa.now).dwarf_registers c.args.isa.now.1 in
    let f = cut_by 0 (code_range_view c.args.range) in
    let ps = c.args.pieces.now in
    let n = c.loop-place.place in
    record {
      leads = alone-more c.args.local.trailing registers (option_to_list (f (range_view (get_or ps n no_piece)))) (filter_map f (drop (n + 1) (map range_view ps))) (filter_map f (drop n (map range_view ps))) (parts_in c.args.range ps)
          c.args.expressions.now.items c.loop-place.expressions.items (piece-step ps n c.loop-place-test.true f) c.loop-place.invariant.leads c.put_in.new.expressions.items c.in_ok-put_in.ensures.puts.0 c.in_ok-put_in.ensures.puts.1;
      front = front_behind c.args.expressions.now.items c.loop-place.expressions.items c.put_in.new.expressions.items c.loop-place.invariant.front c.put_in.ensures.front;
    }

pub returns-in_err-put_in-clause-puts : goal.returns-in_err-put_in-clause-puts
returns-in_err-put_in-clause-puts g c =
    let registers : Registers = (goal.TargetIsa-dyn g c.args.isa.now).dwarf_registers c.args.isa.now.1 in
    let f = cut_by 0 (code_range_view c.args.range) in
    let ps = c.args.pieces.now in
    let n = c.loop-place.place in
    let p = err_from_is_err_and c.from_residual.result c.from_residual.ensures.1 in
    rw (p.1, p.2)
    (alone-told c.args.local.trailing registers (option_to_list (f (range_view (get_or ps n no_piece)))) (filter_map f (drop (n + 1) (map range_view ps))) (filter_map f (drop n (map range_view ps))) (parts_in c.args.range ps)
    c.args.expressions.now.items c.loop-place.expressions.items (piece-step ps n c.loop-place-test.true f) c.loop-place.invariant.leads _ c.in_err-put_in.ensures.puts)

pub returns-then-piece-range-clause-puts : goal.returns-then-piece-range-clause-puts
returns-then-piece-range-clause-puts g c =
    let registers : Registers = (goal.TargetIsa-dyn g c.args.isa.now).dwarf_registers c.args.isa.now.1 in
    let r : NativeRange = code_range_view c.args.range in
    let f = cut_by 0 r in
    let ps = c.args.pieces.now in
    let n = c.loop-place.place in
    alone-end c.args.local.trailing registers (filter_map f (drop (n + 1) (map range_view ps))) (parts_in c.args.range ps) c.args.expressions.now.items c.put_in.new.expressions.items
    (pieces-done ps n c.loop-place-test.true 0 r c.requires.flat c.if-piece-range.true)
    (alone-more c.args.local.trailing registers (option_to_list (f (range_view (get_or ps n no_piece)))) (filter_map f (drop (n + 1) (map range_view ps))) (filter_map f (drop n (map range_view ps))) (parts_in c.args.range ps)
    c.args.expressions.now.items c.loop-place.expressions.items (piece-step ps n c.loop-place-test.true f) c.loop-place.invariant.leads c.put_in.new.expressions.items c.in_ok-put_in.ensures.puts.0 c.in_ok-put_in.ensures.puts.1)

pub returns-clause-puts : goal.returns-clause-puts
returns-clause-puts g c =
    let registers : Registers = (goal.TargetIsa-dyn g c.args.isa.now).dwarf_registers c.args.isa.now.1 in
    let f = cut_by 0 (code_range_view c.args.range) in
    let ps = c.args.pieces.now in
    alone-end c.args.local.trailing registers (filter_map f (drop c.loop-place.place (map range_view ps))) (parts_in c.args.range ps) c.args.expressions.now.items c.loop-place.expressions.items
    (pieces-past f ps c.loop-place.place c.loop-place-test.false) c.loop-place.invariant.leads
