use Rattle.std.proofs.Common.{◌≡◌, ◌+◌, ◌-◌, ◌<◌, ap, subst, ◌∙◌, arith, drop, map, length, get_or, pos}
use Rattle.std.proofs.Math.Seq.{map-set_same}
use Rattle.std.proofs.lemmas.List.{length-set}
use Rattle.dwc_read.specs.declared.attribute_spec.AttributeSpec.{AttributeSpec}
use Rattle.dwc_read.specs.AttributeSpecs.{spec_view}
use Rattle.dwc_read.specs.Skips.{IsSkip, AreSkips}
use Rattle.dwc_read.proofs.SkipLaws.{noted}
use Rattle.dwc_read.proofs.skips.note_skips.Goals as goal

abbrev none : AttributeSpec
none = record { name = 0; skip = 0; skip_bytes = 0; form = 0; implicit = pos 0 }

pub loop-k-preserved : goal.loop-k-preserved
loop-k-preserved c =
    let specs = c.loop-k.specs in
    let k = c.loop-k.k - 1 in
    let spec = get_or specs k none in
    let skip = c.skip_from-skip.result in
    let inside : k < length specs = omega (arith, c.loop-k.invariant.3) in
    let at : c.loop-k.k ≡ k + 1 = omega arith in
    let skips : AreSkips (drop (k + 1) specs) = subst (λ n. AreSkips (drop n specs)) at c.loop-k.invariant.1 in
    let behind : IsSkip c.loop-k.skip (map spec_view (drop (k + 1) specs)) = subst (λ n. IsSkip c.loop-k.skip (map spec_view (drop n specs))) at c.loop-k.invariant.2 in
    let both = noted specs k skip spec c.noting.result inside c.noting.ensures (c.skip_from-skip.ensures (map spec_view (drop (k + 1) specs)) behind) skips in
    (map-set_same spec_view specs k c.noting.result none (ap spec_view c.noting.ensures) ∙ c.loop-k.invariant.0, both.0, both.1, omega (arith, c.loop-k.invariant.3, length-set specs k c.noting.result))
