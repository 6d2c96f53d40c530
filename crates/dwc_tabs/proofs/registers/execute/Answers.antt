use Rattle.std.proofs.Common.{◌≡◌, min, ◌-◌, ◌^◌, ap, ◌∙◌, rules, Some, to_z, of_z}
use mir.Syntax.{w128}
use mir.Val.{SFits}
use Rattle.std.proofs.lemmas.Int.{to_z-of_z}
use Rattle.dwc_dwarf.specs.LineRows.{by_special}
use Rattle.dwc_tabs.specs.Headers.{program_header}
use Rattle.dwc_tabs.specs.Steps.{registers_view}
use Rattle.dwc_tabs.proofs.StepLaws.{shown-capped}
use Rattle.dwc_tabs.proofs.registers.execute.Goals as goal

pub returns-in-Special-clause-shown : goal.returns-in-Special-clause-shown
returns-in-Special-clause-shown c =
    let r = registers_view c.args.registers.now in
    let h = program_header c.args.parameters.now in
    let e = by_special h c.in-Special.opcode r in
    let offset : c.advanced-registers.result ≡ min e.offset (2 ^ 64 - 1) = search rules in
    let line : c.moved-registers.result ≡ e.line = search rules in
    let fits : SFits w128 c.moved-registers.result = search rules in
    let same : to_z w128 (of_z w128 c.moved-registers.result) ≡ c.moved-registers.result = to_z-of_z w128 _ fits in
    rw c.in-Special.is (c.append.ensures.shown ∙ rw (offset, same, line) (ap Some (shown-capped e)))
