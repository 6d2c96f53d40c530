use Rattle.std.proofs.Common.{◌≡◌, ◌∙◌, ap, subst, sym}
use Rattle.dwc_types.specs.KeyedTypes.{HasCores, NamesAround, turned_name}
use Rattle.dwc_types.specs.TypeRings.{consts_of, spelt_of}
use Rattle.dwc_types.proofs.TypeRingLaws.{names-around}
use Rattle.dwc_types.proofs.ring_key.key_ring.Goals as goal

pub returns-clause-keys : goal.returns-clause-keys
returns-clause-keys c source s texts known keyed =
    let ring = c.in_ok-ring.ring.items in
    let shown = c.deref-5.result.now in
    let same : shown ≡ ring = c.deref-5.ensures.value in
    let around = subst (λ ts. NamesAround source s (consts_of ts) ts) (sym same) (names-around source s c.args.types.now c.args.offset ring known c.in_ok-ring.ensures) in
    let named = subst (λ n. NamesAround source s n shown) (sym (c.consts_in-consts.ensures ∙ ap (λ ts. consts_of ts) (c.deref-3.ensures.value ∙ sym same))) around in
    let has = c.in_ok-first.ensures.cores source s texts keyed (turned_name (spelt_of shown)) in
    c.keep_ring.ensures.keys source s texts keyed.text c.args.keys.now.count
    (subst (λ n. HasCores source s texts keyed.text c.args.keys.now.count c.fresh_cores.new.keys c.in_ok-first.first n (turned_name (spelt_of shown))) (c.len.ensures ∙ sym c.deref-5.ensures.len) has) named
