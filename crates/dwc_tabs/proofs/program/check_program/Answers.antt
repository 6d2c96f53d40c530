use Rattle.std.proofs.Common.{◌≡◌, ◌<◌, ◌++◌, [], ◌∷◌, map, length, sym, ap, ◌∙◌, arith, append_assoc, append-nil}
use Rattle.std.specs.Prelude.{option_map}
use Rattle.std.specs.List.{filter_map}
use Rattle.std.proofs.lemmas.Result.{err_from_is_err_and}
use Rattle.dwc_dwarf.specs.LineRows.{effect, file_defined}
use Rattle.dwc_tabs.specs.Headers.{file_view, program_header}
use Rattle.dwc_tabs.specs.Instructions.{instruction_view}
use Rattle.dwc_tabs.specs.Steps.{registers_view, shown_step}
use Rattle.dwc_tabs.specs.Programs.{instructions_from, noted, shown_from, noted_all}
use Rattle.dwc_tabs.proofs.ProgramLaws.{program-fewer, program-first, program-flaw, program-end, shown-behind, noted-shown, defined-first, instructions-none}
use Rattle.dwc_tabs.proofs.program.check_program.Goals as goal

pub returns-in_err-instruction : goal.returns-in_err-instruction
returns-in_err-instruction c =
    let p = err_from_is_err_and c.from_residual.result c.from_residual.ensures.1 in
    let some : 0 < length c.loop-left.cursor.left = omega arith in
    rw (p.1, p.2) (sym c.loop-left.invariant.same_fault ∙ program-flaw c.args.parameters.now c.args.relocations.now c.loop-left.cursor _ some c.in_err-instruction.ensures)

pub loop-left-smaller : goal.loop-left-smaller
loop-left-smaller c =
    let fewer = program-fewer c.args.parameters.now _ _ _ _ c.in_ok-instruction.ensures in omega arith

pub loop-left-preserved : goal.loop-left-preserved
loop-left-preserved c =
    let p = c.args.parameters.now in
    let relocations = c.args.relocations.now in
    let i = instruction_view c.in_ok-instruction.instruction in
    let u = c.loop-left.cursor in
    let v = c.read_instruction.new.cursor in
    let r = registers_view c.loop-left.registers in
    let s = registers_view c.execute-shown.new.registers in
    let fewer = program-fewer p relocations u v i c.in_ok-instruction.ensures in
    let first = program-first p relocations u v i c.in_ok-instruction.ensures in
    let shown = shown-behind p relocations r s u v i c.in_ok-instruction.ensures c.execute-shown.ensures.after in
    let effect_shown = option_map shown_step (effect (program_header p) i r) in
    let others = shown_from p relocations s v in
    let files = map file_view c.loop-left.files.items in
    let defined = filter_map file_defined (instructions_from p relocations v).items in
    let added : map file_view c.define_file.new.files.items ≡ files ++ filter_map file_defined (i ∷ []) = c.in_ok-define_file.ensures in
    record {
      same_fault = sym (ap (λ l. l.fault) first) ∙ c.loop-left.invariant.same_fault;
      same_note = ap (noted_all others) (c.note-check.ensures ∙ ap (λ o. noted o c.loop-left.check) c.execute-shown.ensures.shown) ∙ sym (noted-shown effect_shown others c.loop-left.check) ∙ ap (λ ss. noted_all ss c.loop-left.check) (sym shown) ∙ c.loop-left.invariant.same_note;
      same_files = ap (λ fs. fs ++ defined) added ∙ append_assoc files (filter_map file_defined (i ∷ [])) defined ∙ ap (λ fs. files ++ fs) (defined-first i (instructions_from p relocations v).items ∙ ap (λ l. filter_map file_defined l.items) (sym first)) ∙ c.loop-left.invariant.same_files;
      bytes_left = c.left-left-in-loop-left.ensures;
      room = omega arith;
    }

pub returns : goal.returns
returns c =
    let p = c.args.parameters.now in
    let relocations = c.args.relocations.now in
    let none : length c.loop-left.cursor.left ≡ 0 = omega arith in
    let end = instructions-none p relocations c.loop-left.cursor none in
    record {
      whole = sym c.loop-left.invariant.same_fault ∙ ap (λ l. l.fault) end;
      noted = ap (λ ss. noted_all ss c.loop-left.check) (sym (program-end p relocations (registers_view c.loop-left.registers) c.loop-left.cursor none)) ∙ c.loop-left.invariant.same_note;
      files = sym (append-nil (map file_view c.loop-left.files.items)) ∙ ap (λ l. map file_view c.loop-left.files.items ++ filter_map file_defined l.items) (sym end) ∙ c.loop-left.invariant.same_files;
      short = omega arith;
    }
