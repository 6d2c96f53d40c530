use Rattle.std.proofs.Common.{◌≡◌, Some, None, length, subst, arith}
use Rattle.std.specs.Prelude.{option_map}
use Rattle.dwc_dwarf.specs.LineRows.{effect}
use Rattle.dwc_tabs.specs.Headers.{program_header}
use Rattle.dwc_tabs.specs.Instructions.{instruction_view}
use Rattle.dwc_tabs.specs.Steps.{registers_view, shown_step}
use Rattle.dwc_tabs.specs.declared.step.LineStop.TheVariants.{Start, End}
use Rattle.dwc_tabs.specs.OpenTables.{Decodes}
use Rattle.dwc_tabs.proofs.ProgramLaws.{program-fewer}
use Rattle.dwc_tabs.proofs.OpenLaws.{room-behind}
use Rattle.dwc_tabs.proofs.DecodeLaws.{decoded-none, decoded-nothing, decoded-row, decoded-stop, decoded-end}
use Rattle.dwc_tabs.proofs.open_table.decode.Goals as goal

pub loop-cursor-init : goal.loop-cursor-init
loop-cursor-init c = rw c.clear.ensures.items (decoded-none c.args.parameters.now c.args.relocations.now c.args.files (registers_view c.args.registers) c.args.cursor c.requires)

pub loop-cursor-smaller-in_ok-check_unnamed-in-Nothing : goal.loop-cursor-smaller-in_ok-check_unnamed-in-Nothing
loop-cursor-smaller-in_ok-check_unnamed-in-Nothing c = program-fewer c.args.parameters.now _ _ _ _ c.in_ok-instruction.ensures

pub loop-cursor-smaller : goal.loop-cursor-smaller
loop-cursor-smaller c = program-fewer c.args.parameters.now _ _ _ _ c.in_ok-instruction.ensures

pub loop-cursor-preserved-in_ok-check_unnamed-in-Nothing : goal.loop-cursor-preserved-in_ok-check_unnamed-in-Nothing
loop-cursor-preserved-in_ok-check_unnamed-in-Nothing c =
    let p = c.args.parameters.now in
    let r = registers_view c.loop-cursor.registers in
    let shown : None ≡ option_map shown_step (effect (program_header p) (instruction_view c.in_ok-instruction.instruction) r) = rw c.in-Nothing.is at c.execute.ensures.shown in
    decoded-nothing p c.args.relocations.now c.args.files (registers_view c.args.registers) c.args.cursor r (registers_view c.execute.new.registers) c.loop-cursor.cursor c.read_instruction.new.cursor c.loop-cursor.rows.items (instruction_view c.in_ok-instruction.instruction)
    c.in_ok-instruction.ensures c.execute.ensures.after c.execute.ensures.line c.loop-cursor.invariant shown c.in_ok-check_unnamed-in-Nothing.ensures

pub loop-cursor-preserved : goal.loop-cursor-preserved
loop-cursor-preserved c =
    let p = c.args.parameters.now in
    let r = registers_view c.loop-cursor.registers in
    let shown = rw (c.in-Step-Row.is, c.in-Step-Row.field-0-is) at c.execute.ensures.shown in
    let within = c.in_ok-row_within-in-Step-Row.ensures in
    rw (c.in_ok-push-in-Step-Row.ensures.items, within.1)
    (decoded-row p c.args.relocations.now c.args.files (registers_view c.args.registers) c.args.cursor r (registers_view c.execute.new.registers) c.loop-cursor.cursor c.read_instruction.new.cursor c.loop-cursor.rows.items (instruction_view c.in_ok-instruction.instruction)
    c.in_ok-instruction.ensures c.execute.ensures.after c.execute.ensures.line c.loop-cursor.invariant _ _ shown (cc c.in-Step-Row.row-is) within.0)

pub returns-in-Step-Start : goal.returns-in-Step-Start
returns-in-Step-Start c =
    let p = c.args.parameters.now in
    let q = registers_view c.args.registers in
    let r = registers_view c.loop-cursor.registers in
    let s = registers_view c.execute.new.registers in
    let u = c.loop-cursor.cursor in
    let v = c.read_instruction.new.cursor in
    let rows = c.loop-cursor.rows.items in
    let i = instruction_view c.in_ok-instruction.instruction in
    let shown = rw (c.in-Step-Start.is, c.in-Step-Start.field-0-is) at c.execute.ensures.shown in
    subst (λ x. Decodes p c.args.relocations.now c.args.files q c.args.cursor rows (Some (Start x), c.execute.new.registers, v)) (cc c.in-Step-Start.address-is)
    (record {
      room = room-behind p c.args.relocations.now c.args.files r s u v i c.in_ok-instruction.ensures c.execute.ensures.after c.execute.ensures.line c.loop-cursor.invariant.room;
      takes = decoded-stop p c.args.relocations.now c.args.files q c.args.cursor r s u v rows i c.in_ok-instruction.ensures c.execute.ensures.after c.execute.ensures.line c.loop-cursor.invariant (Start c.in-Step-Start.address) shown;
    })

pub returns-in-Step-End : goal.returns-in-Step-End
returns-in-Step-End c =
    let p = c.args.parameters.now in
    let q = registers_view c.args.registers in
    let r = registers_view c.loop-cursor.registers in
    let s = registers_view c.execute.new.registers in
    let u = c.loop-cursor.cursor in
    let v = c.read_instruction.new.cursor in
    let rows = c.loop-cursor.rows.items in
    let i = instruction_view c.in_ok-instruction.instruction in
    let shown = rw (c.in-Step-End.is, c.in-Step-End.field-0-is) at c.execute.ensures.shown in
    subst (λ x. Decodes p c.args.relocations.now c.args.files q c.args.cursor rows (Some (End x), c.execute.new.registers, v)) (cc c.in-Step-End.offset-is)
    (record {
      room = room-behind p c.args.relocations.now c.args.files r s u v i c.in_ok-instruction.ensures c.execute.ensures.after c.execute.ensures.line c.loop-cursor.invariant.room;
      takes = decoded-stop p c.args.relocations.now c.args.files q c.args.cursor r s u v rows i c.in_ok-instruction.ensures c.execute.ensures.after c.execute.ensures.line c.loop-cursor.invariant (End c.in-Step-End.offset) shown;
    })

pub returns : goal.returns
returns c =
    let none : length c.loop-cursor.cursor.left ≡ 0 = omega arith in
    record {
      room = c.loop-cursor.invariant.room;
      takes = decoded-end c.args.parameters.now c.args.relocations.now c.args.files (registers_view c.args.registers) c.args.cursor (registers_view c.loop-cursor.registers) c.loop-cursor.cursor c.loop-cursor.rows.items none c.loop-cursor.invariant;
    }
