use Rattle.std.proofs.Common.{◌≡◌, Ok, true, false, ap, ◌∙◌, arith}
use Rattle.std.proofs.lemmas.Result.{err_from_is_err_and}
use Rattle.dwc_base.specs.Wasm.{import_at, imports_at}
use Rattle.dwc_wasm.proofs.ImportLaws.{with_more-none, imports-function, imports-other, imports-broken, imports-done}
use Rattle.dwc_wasm.proofs.FileTakes.{import_at-leaves, LeavesPart-at}
use Rattle.dwc_wasm.proofs.imports.imported_functions.Goals as goal
use Rattle.dwc_wasm.proofs.imports.imported_functions.Goals.{then-branch, else-branch}

pub loop-init : goal.loop-init
loop-init c = record { counted = with_more-none _ ∙ ap (λ k. imports_at k c.args.cursor.now) (omega arith); room = omega arith }

pub returns-in_err-is_function_import : goal.returns-in_err-is_function_import
returns-in_err-is_function_import c =
    let p = err_from_is_err_and c.from_residual.result c.from_residual.ensures.1 in
    rw (p.1, p.2) (imports-broken _ c.loop.counter c.loop.functions c.loop.cursor _ _ c.loop-test.true c.in_err-is_function_import.ensures c.loop.invariant.counted)

pub overflow_add-functions : goal.overflow_add-functions
overflow_add-functions c =
    let fewer = LeavesPart-at c.in_ok-is_function_import.ensures (import_at-leaves c.loop.cursor) in
    omega (arith, fewer, c.loop.invariant.room, c.requires)

pub loop-preserved : goal.loop-preserved
loop-preserved c =
    let fewer = LeavesPart-at c.in_ok-is_function_import.ensures (import_at-leaves c.loop.cursor) in
    elim c.if-branch.branch [
      | then-branch w ↦
          let read : import_at c.loop.cursor ≡ Ok (true, c.is_function_import.new.cursor) = rw w.if-branch.true at c.in_ok-is_function_import.ensures in
          rw w.functions-is (record {
            counted = imports-function _ c.loop.counter c.loop.functions c.loop.cursor _ _ c.loop-test.true read c.loop.invariant.counted;
            room = omega (arith, fewer, c.loop.invariant.room);
          })
      | else-branch w ↦
          let read : import_at c.loop.cursor ≡ Ok (false, c.is_function_import.new.cursor) = rw w.if-branch.false at c.in_ok-is_function_import.ensures in
          rw w.functions-is (record {
            counted = imports-other _ c.loop.counter c.loop.functions c.loop.cursor _ _ c.loop-test.true read c.loop.invariant.counted;
            room = omega (arith, fewer, c.loop.invariant.room);
          })
    ]

pub returns : goal.returns
returns c = imports-done _ c.loop.counter c.loop.functions c.loop.cursor _ c.loop-test.false c.loop.invariant.counted
