use Rattle.std.proofs.Common.{◌+◌, ◌-◌, ◌++◌, ◌∷◌, [], map, ap, ◌∙◌, append_assoc, Ok}
use Rattle.std.proofs.lemmas.Result.{err_from_is_err_and}
use Rattle.std.proofs.lemmas.List.{map_push, append-nil}
use Rattle.dwc_base.specs.Reading.{counted_at}
use Rattle.dwc_base.specs.WasmNames.{name_association_at}
use Rattle.dwc_base.specs.TranslationNames.{function_name_view}
use Rattle.dwc_wasm.proofs.VectorLaws.{seen-same, counted-on, counted-broken, counted-done}
use Rattle.dwc_wasm.proofs.name_section.some_names.Goals as goal

pub returns-in_err-association : goal.returns-in_err-association
returns-in_err-association c =
    let p = err_from_is_err_and c.from_residual.result c.from_residual.ensures.1 in
    let front = map function_name_view c.loop.names.items in
    rw (p.1, p.2) (counted-broken name_association_at c.args.count c.loop.counter c.loop.cursor (λ ys. front ++ ys) _ _ c.loop-test.true c.in_err-association.ensures c.loop.invariant)

pub loop-preserved : goal.loop-preserved
loop-preserved c =
    let front = map function_name_view c.loop.names.items in
    let x = function_name_view c.in_ok-association.association in
    let v = c.name_association.new.cursor in
    let on = counted-on name_association_at c.args.count c.loop.counter c.loop.cursor (λ ys. front ++ ys) _ x v c.loop-test.true c.in_ok-association.ensures c.loop.invariant in
    rw (c.in_ok-push.ensures.items, map_push)
    (seen-same (λ ys. (front ++ x ∷ []) ++ ys) (λ ys. front ++ x ∷ ys) (counted_at (c.args.count - (c.loop.counter + 1)) name_association_at v) (λ ys. append_assoc front (x ∷ []) ys) ∙ on)

pub returns : goal.returns
returns c =
    let front = map function_name_view c.loop.names.items in
    counted-done name_association_at c.args.count c.loop.counter c.loop.cursor (λ ys. front ++ ys) _ c.loop-test.false c.loop.invariant ∙ ap (λ ys. Ok (ys, c.loop.cursor)) (append-nil front)
