use Rattle.std.proofs.Common.{◌+◌, ◌-◌, ◌++◌, ◌∷◌, map, ap, ◌∙◌, append_assoc, Ok}
use Rattle.std.specs.List.{flat_map}
use Rattle.std.proofs.lemmas.Result.{err_from_is_err_and}
use Rattle.std.proofs.lemmas.List.{map-append, append-nil}
use Rattle.dwc_base.specs.Reading.{counted_at}
use Rattle.dwc_base.specs.WasmNames.{local_name_map_at}
use Rattle.dwc_base.specs.TranslationNames.{local_name_view}
use Rattle.dwc_wasm.proofs.VectorLaws.{seen-same, counted-on, counted-fails, counted-done}
use Rattle.dwc_wasm.proofs.name_section.some_local_names.Goals as goal

pub returns-in_err-more : goal.returns-in_err-more
returns-in_err-more c =
    let p = err_from_is_err_and c.from_residual.result c.from_residual.ensures.1 in
    let front = map local_name_view c.loop.names.items in
    rw (p.1, p.2) (counted-fails local_name_map_at c.args.count c.loop.counter c.loop.cursor (λ maps. front ++ flat_map (λ names. names) maps) _ _ c.loop-test.true c.in_err-more.ensures c.loop.invariant)

pub loop-preserved : goal.loop-preserved
loop-preserved c =
    let front = map local_name_view c.loop.names.items in
    let x = map local_name_view c.in_ok-more.more.items in
    let v = c.local_name_map.new.cursor in
    let on = counted-on local_name_map_at c.args.count c.loop.counter c.loop.cursor (λ maps. front ++ flat_map (λ names. names) maps) _ x v c.loop-test.true c.in_ok-more.ensures c.loop.invariant in
    rw (c.in_ok-extend_from_slice.ensures.items, c.deref.ensures.value, map-append)
    (seen-same (λ maps. (front ++ x) ++ flat_map (λ names. names) maps) (λ maps. front ++ flat_map (λ names. names) (x ∷ maps)) (counted_at (c.args.count - (c.loop.counter + 1)) local_name_map_at v) (λ maps. append_assoc front x (flat_map (λ names. names) maps)) ∙ on)

pub returns : goal.returns
returns c =
    let front = map local_name_view c.loop.names.items in
    counted-done local_name_map_at c.args.count c.loop.counter c.loop.cursor (λ maps. front ++ flat_map (λ names. names) maps) _ c.loop-test.false c.loop.invariant ∙ ap (λ ys. Ok (ys, c.loop.cursor)) (append-nil front)
