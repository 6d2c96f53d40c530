use Rattle.std.proofs.Common.{◌≡◌, ℕ, suc, ◌-◌, ◌<◌, ◌∙◌, sym, ap, subst, arith, get_or, length}
use Rattle.std.specs.Option.{unwrap_or}
use Rattle.dwc_addr.specs.PositionPlaces.{IsCountBelow}
use Rattle.dwc_addr.specs.RunViews.{no_source, positions_in}
use Rattle.dwc_addr.proofs.PieceLaws.{no_position}
use Rattle.dwc_addr.proofs.NativeLaws.{run-seen, run-front, end-in, some-behind, start-none, start-some}
use Rattle.dwc_addr.proofs.positions.start_in.Goals as goal

pub returns-then-count-eq0-clause-start : goal.returns-then-count-eq0-clause-start
returns-then-count-eq0-clause-start c =
    let m = c.args.function.now in
    let r = c.args.run.now in
    let xs = c.sources_of-sources.result in
    let all = c.sources_of-sources.ensures in
    let h = subst (IsCountBelow (λ e. e.wasm) xs c.args.addr) c.if-count-eq0.true c.sources_below-count.ensures in
    c.unwrap_or.ensures ∙ (ap (λ o. unwrap_or o r.start) c.start_at.ensures.start ∙ sym (start-none (positions_in m r) xs (run-seen m r c.requires xs all.sources) (run-front m r c.requires) c.args.addr all.wasm r.start h))

pub returns-in-Some-clause-start : goal.returns-in-Some-clause-start
returns-in-Some-clause-start c =
    let m = c.args.function.now in
    let r = c.args.run.now in
    let xs = c.sources_of-sources.result in
    let all = c.sources_of-sources.ensures in
    let count : ℕ = c.sources_below-count.result in
    let one : count ≡ suc (count - 1) = omega (arith, c.if-count-eq0.false) in
    let h = subst (IsCountBelow (λ e. e.wasm) xs c.args.addr) one c.sources_below-count.ensures in
    let last = (get_or (positions_in m r) (c.begun_up_to-behind.result - 1) no_position).end in
    ap (λ o. unwrap_or o last) (sym c.in-Some.is ∙ c.start_at-2.ensures.start)
    ∙ sym (start-some (positions_in m r) xs (run-seen m r c.requires xs all.sources) (run-front m r c.requires) c.args.addr all.wasm r.start (count - 1) _ _ all.native h (ap (λ e. e.generated) (c.at-native.ensures no_source)) c.begun_up_to-behind.ensures)

pub returns-in-None-clause-start : goal.returns-in-None-clause-start
returns-in-None-clause-start c =
    let m = c.args.function.now in
    let r = c.args.run.now in
    let xs = c.sources_of-sources.result in
    let all = c.sources_of-sources.ensures in
    let count : ℕ = c.sources_below-count.result in
    let one : count ≡ suc (count - 1) = omega (arith, c.if-count-eq0.false) in
    let h = subst (IsCountBelow (λ e. e.wasm) xs c.args.addr) one c.sources_below-count.ensures in
    let last = (get_or (positions_in m r) (c.begun_up_to-behind.result - 1) no_position).end in
    let inside : count - 1 < length xs = omega (arith, one, c.sources_below-count.ensures.inside) in
    let some = some-behind xs (count - 1) _ _ inside (ap (λ e. e.generated) (c.at-native.ensures no_source)) c.begun_up_to-behind.ensures in
    end-in m r c.requires c.native_end.result c.begun_up_to-behind.result some (omega (arith, c.begun_up_to-behind.ensures.inside, all.size)) c.native_end.ensures.end
    ∙ (ap (λ o. unwrap_or o last) (sym c.in-None.is ∙ c.start_at-2.ensures.start)
    ∙ sym (start-some (positions_in m r) xs (run-seen m r c.requires xs all.sources) (run-front m r c.requires) c.args.addr all.wasm r.start (count - 1) _ _ all.native h (ap (λ e. e.generated) (c.at-native.ensures no_source)) c.begun_up_to-behind.ensures))
