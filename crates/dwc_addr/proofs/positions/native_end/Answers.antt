use Rattle.std.proofs.Common.{◌∙◌, sym, arith}
use Rattle.std.specs.Prelude.{Some, None}
use Rattle.dwc_addr.proofs.NativeLaws.{end-at}
use Rattle.dwc_addr.proofs.positions.native_end.Goals as goal

pub overflow_add-place : goal.overflow_add-place
overflow_add-place c = omega (arith, c.requires, c.args.function.now.counted)

pub overflow_add-place-2 : goal.overflow_add-place-2
overflow_add-place-2 c = omega (arith, c.requires, c.args.function.now.counted)

pub overflow_add-place-in-None : goal.overflow_add-place-in-None
overflow_add-place-in-None c = omega (arith, c.requires, c.args.function.now.counted)

pub returns-in-Some-clause-end : goal.returns-in-Some-clause-end
returns-in-Some-clause-end c = λ d. sym (end-at c.args.function.now c.args.place d (Some c.in-Some.native) c.requires (sym c.in-Some.is ∙ c.gap_behind.ensures.found))

pub returns-in-None-clause-end : goal.returns-in-None-clause-end
returns-in-None-clause-end c = λ d. c.start_or.ensures.start ∙ sym (end-at c.args.function.now c.args.place d None c.requires (sym c.in-None.is ∙ c.gap_behind.ensures.found))
