use Rattle.std.proofs.Common.{ap, ◌∙◌, arith}
use Rattle.std.proofs.lemmas.Result.{err_from_is_err_and}
use Rattle.dwc_base.specs.Reading.{uleb_at}
use Rattle.dwc_base.specs.Wasm.{type_numbers_at}
use Rattle.dwc_wasm.proofs.ImportLaws.{with_more-none, type_numbers-more, type_numbers-broken, type_numbers-done, field-read, field-flaw}
use Rattle.dwc_base.proofs.Takes.{Leaves-at}
use Rattle.dwc_base.proofs.TakesMore.{uleb_at-leaves}
use Rattle.dwc_wasm.proofs.walk.type_numbers.Goals as goal

pub loop-init : goal.loop-init
loop-init c = record { counted = with_more-none _ ∙ ap (λ k. type_numbers_at k c.args.cursor.now) (omega arith); room = omega arith }

pub returns-in_err-uleb : goal.returns-in_err-uleb
returns-in_err-uleb c =
    let p = err_from_is_err_and c.from_residual.result c.from_residual.ensures.1 in
    let broken = field-flaw uleb_at c.loop.cursor _ c.in_err-uleb.ensures.0 in
    rw (p.1, p.2, c.in_err-uleb.ensures.1) (type_numbers-broken _ c.loop.counter c.loop.numbers c.loop.cursor _ _ c.loop-test.true broken c.loop.invariant.counted)

pub overflow_add-numbers : goal.overflow_add-numbers
overflow_add-numbers c =
    let fewer = Leaves-at c.in_ok-uleb.ensures (uleb_at-leaves c.loop.cursor) in
    omega (arith, fewer, c.loop.invariant.room, c.requires)

pub loop-preserved : goal.loop-preserved
loop-preserved c =
    let fewer = Leaves-at c.in_ok-uleb.ensures (uleb_at-leaves c.loop.cursor) in
    let read = field-read uleb_at c.loop.cursor _ _ c.in_ok-uleb.ensures in
    record {
      counted = type_numbers-more _ c.loop.counter c.loop.numbers c.loop.cursor _ _ _ c.loop-test.true read c.loop.invariant.counted;
      room = omega (arith, fewer, c.loop.invariant.room);
    }

pub returns : goal.returns
returns c = type_numbers-done _ c.loop.counter c.loop.numbers c.loop.cursor _ c.loop-test.false c.loop.invariant.counted
