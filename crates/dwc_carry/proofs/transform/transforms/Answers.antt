use Rattle.std.proofs.lemmas.Result.{err_from_is_err_and}
use Rattle.dwc_carry.proofs.CompiledLaws.{counted-length}
use Rattle.dwc_carry.proofs.TransformLaws.{transforms-more, transforms-refused}
use Rattle.dwc_carry.proofs.transform.transforms.Goals as goal

pub returns-in_err-new-clause-transforms : goal.returns-in_err-new-clause-transforms
returns-in_err-new-clause-transforms c =
    let compiled = c.args.compilation.now in
    let same = counted-length compiled.translations compiled.functions compiled.memory_offsets c.translations-i-end.ensures.counted in
    let p = err_from_is_err_and c.from_residual.result c.from_residual.ensures.1 in
    rw (p.1, p.2) (transforms-refused compiled same c.loop-i.i c.loop-i.transforms.items c.in_err-new.field-0.0 (rw c.translations-i-end.ensures.translations at c.loop-i-test.true) c.loop-i.invariant c.in_err-new.ensures)

pub loop-i-preserved : goal.loop-i-preserved
loop-i-preserved c =
    let compiled = c.args.compilation.now in
    let same = counted-length compiled.translations compiled.functions compiled.memory_offsets c.translations-i-end.ensures.counted in
    rw c.in_ok-push.ensures.items (transforms-more compiled same c.loop-i.i c.loop-i.transforms.items c.in_ok-new.field-0 (rw c.translations-i-end.ensures.translations at c.loop-i-test.true) c.loop-i.invariant c.in_ok-new.ensures)
