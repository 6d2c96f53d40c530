use Rattle.std.proofs.Common.{◌≡◌, Some, None, length, sym, ◌∙◌, arith}
use Rattle.std.specs.Prelude.{option_map}
use Rattle.dwc_dwarf.specs.LineRows.{effect}
use Rattle.dwc_tabs.specs.Headers.{program_header}
use Rattle.dwc_tabs.specs.Instructions.{instruction_view}
use Rattle.dwc_tabs.specs.Steps.{registers_view, shown_step, step_view}
use Rattle.dwc_tabs.proofs.ProgramLaws.{program-fewer, CanRun-behind, steps-step, steps-nothing, no-out_of_range, no-flaw, steps-end}
use Rattle.dwc_tabs.proofs.program.next_step.Goals as goal

pub returns-in_default-clause-runs : goal.returns-in_default-clause-runs
returns-in_default-clause-runs c =
    absurd (no-flaw c.args.parameters.now _ _ _ _ c.loop-cursor.invariant.runs (omega arith) c.in_default.ensures)

pub returns-in_default-clause-step : goal.returns-in_default-clause-step
returns-in_default-clause-step c =
    absurd (no-flaw c.args.parameters.now _ _ _ _ c.loop-cursor.invariant.runs (omega arith) c.in_default.ensures)

pub returns-in-Step-clause-runs : goal.returns-in-Step-clause-runs
returns-in-Step-clause-runs c = CanRun-behind c.args.parameters.now _ (registers_view c.loop-cursor.registers) (registers_view c.execute.new.registers) _ _ _ c.in-Ok.ensures c.execute.ensures.after c.execute.ensures.line c.loop-cursor.invariant.runs

pub returns-in-Step-clause-step : goal.returns-in-Step-clause-step
returns-in-Step-clause-step c =
    let p = c.args.parameters.now in
    let r = registers_view c.loop-cursor.registers in
    let shown : Some (Some (step_view c.in-Step.step)) ≡ option_map shown_step (effect (program_header p) (instruction_view c.in-Ok.instruction) r) = rw c.in-Step.is at c.execute.ensures.shown in
    sym c.loop-cursor.invariant.same ∙ steps-step p _ r (registers_view c.execute.new.registers) _ _ _ c.in-Ok.ensures c.execute.ensures.after _ shown

pub loop-cursor-smaller : goal.loop-cursor-smaller
loop-cursor-smaller c = program-fewer c.args.parameters.now _ _ _ _ c.in-Ok.ensures

pub loop-cursor-preserved : goal.loop-cursor-preserved
loop-cursor-preserved c =
    let p = c.args.parameters.now in
    let r = registers_view c.loop-cursor.registers in
    let shown : None ≡ option_map shown_step (effect (program_header p) (instruction_view c.in-Ok.instruction) r) = rw c.in-Nothing.is at c.execute.ensures.shown in
    record {
      runs = CanRun-behind p _ r (registers_view c.execute.new.registers) _ _ _ c.in-Ok.ensures c.execute.ensures.after c.execute.ensures.line c.loop-cursor.invariant.runs;
      same = sym (steps-nothing p _ r (registers_view c.execute.new.registers) _ _ _ c.in-Ok.ensures c.execute.ensures.after shown) ∙ c.loop-cursor.invariant.same;
    }

pub returns-in-OutOfRange-clause-runs : goal.returns-in-OutOfRange-clause-runs
returns-in-OutOfRange-clause-runs c =
    CanRun-behind c.args.parameters.now _ (registers_view c.loop-cursor.registers) (registers_view c.execute.new.registers) _ _ _ c.in-Ok.ensures c.execute.ensures.after c.execute.ensures.line c.loop-cursor.invariant.runs

pub returns-in-OutOfRange-clause-step : goal.returns-in-OutOfRange-clause-step
returns-in-OutOfRange-clause-step c =
    let p = c.args.parameters.now in
    let r = registers_view c.loop-cursor.registers in
    let shown : Some None ≡ option_map shown_step (effect (program_header p) (instruction_view c.in-Ok.instruction) r) = rw c.in-OutOfRange.is at c.execute.ensures.shown in
    absurd (no-out_of_range p _ r (registers_view c.execute.new.registers) _ _ _ c.in-Ok.ensures c.execute.ensures.after c.loop-cursor.invariant.runs shown)

pub returns-clause-step : goal.returns-clause-step
returns-clause-step c =
    let none : length c.loop-cursor.cursor.left ≡ 0 = omega arith in
    let end = steps-end c.args.parameters.now c.args.relocations.now (registers_view c.loop-cursor.registers) c.loop-cursor.cursor none in
    (sym c.loop-cursor.invariant.same ∙ end, end)
