use Rattle.std.proofs.Common.{◌<◌, ◌≤◌, [], length, arith, subst, All}
use Rattle.dwc_carry.specs.SimulatedCode.{HasLowEnd}
use Rattle.dwc_carry.proofs.CompiledLaws.{counted-length}
use Rattle.dwc_carry.proofs.SimulatedFunctionSteps.{all-done, all-more}
use Rattle.dwc_carry.proofs.simulated_code.all_ends_are_low.Goals as goal

pub loop-i-preserved : goal.loop-i-preserved
loop-i-preserved c = λ rest.
    let compilation = c.args.compilation.now in
    let less : c.loop-i.i < length compilation.translations = rw c.translations-i-end.ensures.translations at c.loop-i-test.true in
    let same = counted-length compilation.translations compilation.functions compilation.memory_offsets c.translations-i-end.ensures.counted in
    all-more (All HasLowEnd) compilation.functions c.loop-i.i [] (omega (arith, less, same)) c.loop-i.invariant (subst (All HasLowEnd) c.functions_of.ensures.functions c.ends_are_low.ensures) rest

pub returns : goal.returns
returns c =
    let compilation = c.args.compilation.now in
    let past : length compilation.translations ≤ c.loop-i.i = rw c.translations-i-end.ensures.translations at c.loop-i-test.false in
    let same = counted-length compilation.translations compilation.functions compilation.memory_offsets c.translations-i-end.ensures.counted in
    all-done (All HasLowEnd) compilation.functions c.loop-i.i (omega (arith, past, same)) c.loop-i.invariant
