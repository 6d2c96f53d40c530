use Rattle.std.proofs.Common.{◌≡◌, ℕ, suc, ◌-◌, ◌<◌, ◌∙◌, sym, ap, subst, arith, length}
use Rattle.dwc_addr.specs.PositionPlaces.{IsCountUpTo}
use Rattle.dwc_addr.specs.RunViews.{no_source, positions_in}
use Rattle.dwc_addr.proofs.NativeLaws.{run-seen, run-front, end-in, source-inside, some-behind, end-none, end-some, end-other}
use Rattle.dwc_addr.proofs.positions.end_in.Goals as goal

pub returns-then-count-eq0-clause-end : goal.returns-then-count-eq0-clause-end
returns-then-count-eq0-clause-end c =
    let m = c.args.function.now in
    let r = c.args.run.now in
    let xs = c.sources_of-sources.result in
    let all = c.sources_of-sources.ensures in
    let h = subst (IsCountUpTo (λ e. e.wasm) xs c.args.addr) c.if-count-eq0.true c.sources_up_to-count.ensures in
    c.start_or.ensures.start ∙ sym (end-none (positions_in m r) xs (run-seen m r c.requires xs all.sources) (run-front m r c.requires) c.args.addr all.wasm r.end h)

pub returns-then-from-addr-clause-end : goal.returns-then-from-addr-clause-end
returns-then-from-addr-clause-end c =
    let m = c.args.function.now in
    let r = c.args.run.now in
    let xs = c.sources_of-sources.result in
    let all = c.sources_of-sources.ensures in
    let count : ℕ = c.sources_up_to-count.result in
    let one : count ≡ suc (count - 1) = omega (arith, c.if-count-eq0.false) in
    let h = subst (IsCountUpTo (λ e. e.wasm) xs c.args.addr) one c.sources_up_to-count.ensures in
    let inside : count - 1 < length xs = omega (arith, one, c.sources_up_to-count.ensures.inside) in
    let some = some-behind xs (count - 1) _ _ inside (ap (λ e. e.generated) (c.at-native.ensures no_source)) c.begun_up_to-behind.ensures in
    end-in m r c.requires c.native_end.result c.begun_up_to-behind.result some (omega (arith, c.begun_up_to-behind.ensures.inside, all.size)) c.native_end.ensures.end
    ∙ sym (end-some (positions_in m r) xs (run-seen m r c.requires xs all.sources) (run-front m r c.requires) c.args.addr all.wasm (count - 1) _ _ _ h (ap (λ e. e.generated) (c.at-native.ensures no_source)) c.begun_below-first.ensures c.begun_up_to-behind.ensures r.end (ap (λ e. e.wasm) (sym (c.at.ensures no_source)) ∙ sym c.from.ensures ∙ c.if-from-addr.true))

pub returns-clause-end : goal.returns-clause-end
returns-clause-end c =
    let m = c.args.function.now in
    let r = c.args.run.now in
    let xs = c.sources_of-sources.result in
    let all = c.sources_of-sources.ensures in
    let count : ℕ = c.sources_up_to-count.result in
    let one : count ≡ suc (count - 1) = omega (arith, c.if-count-eq0.false) in
    let h = subst (IsCountUpTo (λ e. e.wasm) xs c.args.addr) one c.sources_up_to-count.ensures in
    c.start_or-2.ensures.start
    ∙ sym (end-other (positions_in m r) xs (run-seen m r c.requires xs all.sources) (run-front m r c.requires) c.args.addr all.wasm (count - 1) _ _ _ h (ap (λ e. e.generated) (c.at-native.ensures no_source)) c.begun_below-first.ensures c.begun_up_to-behind.ensures r.end (subst (λ n. ¬ (n ≡ c.args.addr)) (c.from.ensures ∙ ap (λ e. e.wasm) (c.at.ensures no_source)) c.if-from-addr.false))

pub at-requires : goal.at-requires
at-requires c =
    let xs = c.sources_of-sources.result in
    let k = c.sources_up_to-count.result - 1 in
    let inside : k < length xs = omega (arith, c.sources_up_to-count.ensures.inside, c.if-count-eq0.false) in
    source-inside xs k _ _ inside (ap (λ e. e.generated) (c.at-native.ensures no_source)) c.begun_below-first.ensures

pub overflow_sub-run : goal.overflow_sub-run
overflow_sub-run c =
    let xs = c.sources_of-sources.result in
    let k = c.sources_up_to-count.result - 1 in
    let inside : k < length xs = omega (arith, c.sources_up_to-count.ensures.inside, c.if-count-eq0.false) in
    omega (arith, some-behind xs k _ _ inside (ap (λ e. e.generated) (c.at-native.ensures no_source)) c.begun_up_to-behind.ensures)
