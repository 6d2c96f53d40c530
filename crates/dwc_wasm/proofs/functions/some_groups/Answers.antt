use Rattle.std.proofs.Common.{◌+◌, ◌-◌, ◌++◌, ◌∷◌, [], ap, ◌∙◌, append_assoc, Ok}
use Rattle.std.proofs.lemmas.Result.{err_from_is_err_and}
use Rattle.std.proofs.lemmas.List.{append-nil}
use Rattle.dwc_base.specs.Reading.{counted_at}
use Rattle.dwc_base.specs.WasmFunctions.{local_group_at}
use Rattle.dwc_wasm.proofs.VectorLaws.{seen-same, counted-on, counted-broken, counted-done}
use Rattle.dwc_wasm.proofs.functions.some_groups.Goals as goal

pub returns-in_err-group : goal.returns-in_err-group
returns-in_err-group c =
    let p = err_from_is_err_and c.from_residual.result c.from_residual.ensures.1 in
    let front = c.loop.groups.items in
    rw (p.1, p.2) (counted-broken local_group_at c.args.count c.loop.counter c.loop.body (λ ys. front ++ ys) _ _ c.loop-test.true c.in_err-group.ensures c.loop.invariant)

pub loop-preserved : goal.loop-preserved
loop-preserved c =
    let front = c.loop.groups.items in
    let x = c.in_ok-group.group in
    let v = c.local_group.new.cursor in
    let on = counted-on local_group_at c.args.count c.loop.counter c.loop.body (λ ys. front ++ ys) _ x v c.loop-test.true c.in_ok-group.ensures c.loop.invariant in
    rw c.in_ok-push.ensures.items
    (seen-same (λ ys. (front ++ x ∷ []) ++ ys) (λ ys. front ++ x ∷ ys) (counted_at (c.args.count - (c.loop.counter + 1)) local_group_at v) (λ ys. append_assoc front (x ∷ []) ys) ∙ on)

pub returns : goal.returns
returns c =
    let front = c.loop.groups.items in
    counted-done local_group_at c.args.count c.loop.counter c.loop.body (λ ys. front ++ ys) _ c.loop-test.false c.loop.invariant ∙ ap (λ ys. Ok (ys, c.loop.body)) (append-nil front)
