use Rattle.std.proofs.Common.{◌+◌, ◌∷◌, ◌++◌, ◌∙◌, ap, sym, map, drop, [], arith}
use Rattle.std.proofs.lemmas.Bool.{lt-ltb, le-ltb}
use Rattle.std.proofs.lemmas.List.{append_assoc}
use Rattle.dwc_addr.specs.Runs.{recorded_view, run_starts}
use Rattle.dwc_addr.proofs.RunLaws.{starts-left}
use Rattle.dwc_addr.proofs.transform.later_runs.Goals.{then-wasm-last+in_ok-push, else-wasm-last}
use Rattle.dwc_addr.proofs.transform.later_runs.Goals as goal

pub loop-place-preserved : goal.loop-place-preserved
loop-place-preserved c =
    let xs = c.args.sources.now in
    let place = c.loop-place.place in
    let e = c.at-wasm.result in
    let before = c.loop-place.places.items in
    let rest = run_starts (place + 1) e.wasm (map recorded_view (drop (place + 1) xs)) in
    let step = starts-left xs place c.loop-place.last e (omega (arith, c.loop-place-test.true, c.len-place-end.ensures.count, c.loop-place.auto.place-end)) (c.at-wasm.ensures e) in
    elim c.if-wasm-last.branch [
      | then-wasm-last+in_ok-push w ↦
          let falls = rw (lt-ltb e.wasm c.loop-place.last w.if-wasm-last.true) at step in
          rw (w.places-is, w.in_ok-push.ensures.items) (append_assoc before (place ∷ []) rest ∙ ap (λ more. before ++ more) (sym falls) ∙ c.loop-place.invariant)
      | else-wasm-last w ↦
          let goes = rw (le-ltb e.wasm c.loop-place.last (omega (arith, w.if-wasm-last.false))) at step in
          rw w.places-is (ap (λ more. before ++ more) (sym goes) ∙ c.loop-place.invariant)
    ]
