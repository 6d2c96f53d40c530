use Rattle.std.proofs.lemmas.Result.{err_from_is_err_and}
use Rattle.dwc_carry.proofs.EmitLaws.{emits-refused}
use Rattle.dwc_carry.proofs.Meaning.EmitMeanings.{emits-mean}
use Rattle.dwc_carry.proofs.emit.emit_dwarf.Goals as goal

pub returns-in_err-carried-clause-sections : goal.returns-in_err-carried-clause-sections
returns-in_err-carried-clause-sections g c =
    let p = err_from_is_err_and c.from_residual.result c.from_residual.ensures.1 in
    rw (p.1, p.2) (emits-refused _ _ _ _ c.args.compilation.now c.in_err-carried.field-0.0 c.in_err-carried.ensures.carried)

pub returns-clause-sections : goal.returns-clause-sections
returns-clause-sections g c = c.write.ensures _ _ _ _ c.args.compilation.now c.in_ok-carried.ensures.carried

pub returns-in_err-carried-clause-late : goal.returns-in_err-carried-clause-late
returns-in_err-carried-clause-late g c = λ none.
    let p = err_from_is_err_and c.from_residual.result c.from_residual.ensures.1 in
    rw (p.1, p.2) (c.in_err-carried.ensures.late none)

pub returns-in_err-carried-clause-means : goal.returns-in_err-carried-clause-means
returns-in_err-carried-clause-means g c =
    let p = err_from_is_err_and c.from_residual.result c.from_residual.ensures.1 in
    rw p.1 tt

pub returns-clause-means : goal.returns-clause-means
returns-clause-means g c = emits-mean _ _ _ _ c.args.compilation.now c.write.result (c.write.ensures _ _ _ _ c.args.compilation.now c.in_ok-carried.ensures.carried)
