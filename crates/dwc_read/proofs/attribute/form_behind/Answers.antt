use Rattle.std.proofs.Common.{◌≡◌, suc, ◌+◌, ◌-◌, sym, ap, ◌∙◌, arith, Ok}
use Rattle.dwc_base.specs.Reading.{uleb_at}
use Rattle.dwc_dwarf.specs.Values.{form_behind}
use Rattle.dwc_base.specs.declared.constants.TheConstants.{DW_FORM_indirect}
use Rattle.dwc_read.proofs.FormLaws.{form_behind-again}
use Rattle.dwc_read.proofs.attribute.form_behind.Goals as goal

pub loop-preserved : goal.loop-preserved
loop-preserved c =
    let u = c.loop.cursor in
    let more : suc (c.left-end.result - (c.loop.counter + 1)) ≡ c.left-end.result - c.loop.counter = omega arith in
    let indirect : c.in_ok-code.code ≡ DW_FORM_indirect = c.if-code-from.true ∙ c.from.ensures in
    let read : uleb_at u ≡ Ok (DW_FORM_indirect, c.uleb.new.self) = rw indirect at c.in_ok-code.ensures in
    sym (form_behind-again (c.left-end.result - (c.loop.counter + 1)) u c.uleb.new.self read) ∙ ap (λ n. form_behind n u) more ∙ c.loop.invariant
