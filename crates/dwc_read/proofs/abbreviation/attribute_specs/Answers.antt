use Rattle.std.proofs.Common.{◌≡◌, ◌++◌, map, sym, ap, ◌∙◌, Ok, Some, None}
use Rattle.std.proofs.lemmas.Result.{err_from_is_err_and}
use Rattle.std.proofs.lemmas.List.{map_push, append-nil}
use Rattle.dwc_base.specs.Reading.{seen_as, items_at}
use Rattle.dwc_base.specs.Abbreviations.{attribute_spec_at}
use Rattle.dwc_base.proofs.Items.{items-more, items-end, items-flaw, seen-in_front}
use Rattle.dwc_base.proofs.Takes.{Leaves-at}
use Rattle.dwc_base.proofs.TakesMore.{attribute_spec_at-leaves}
use Rattle.dwc_read.specs.AttributeSpecs.{spec_view}
use Rattle.dwc_read.proofs.abbreviation.attribute_specs.Goals as goal

pub returns-in_err-spec : goal.returns-in_err-spec
returns-in_err-spec c =
    let p = err_from_is_err_and c.from_residual.result c.from_residual.ensures.1 in
    let flaw = items-flaw attribute_spec_at attribute_spec_at-leaves c.loop-specs.cursor _ c.in_err-spec.ensures in
    rw (p.1, p.2) (sym c.loop-specs.invariant ∙ ap (seen_as (λ ys. map spec_view c.loop-specs.specs.items ++ ys)) flaw)

pub loop-specs-smaller : goal.loop-specs-smaller
loop-specs-smaller c = Leaves-at c.in_ok-spec.ensures (attribute_spec_at-leaves c.loop-specs.cursor)

pub loop-specs-preserved : goal.loop-specs-preserved
loop-specs-preserved c =
    let read : attribute_spec_at c.loop-specs.cursor ≡ Ok (Some (spec_view c.in-Some.spec), c.attribute_spec.new.cursor) = rw c.in-Some.is at c.in_ok-spec.ensures in
    let more = items-more attribute_spec_at attribute_spec_at-leaves c.loop-specs.cursor c.attribute_spec.new.cursor (spec_view c.in-Some.spec) read in
    let front = map spec_view c.loop-specs.specs.items in
    rw (c.in_ok-push.ensures.items, map_push)
    (sym (seen-in_front front (spec_view c.in-Some.spec) (items_at attribute_spec_at c.attribute_spec.new.cursor)) ∙ ap (seen_as (λ ys. front ++ ys)) (sym more) ∙ c.loop-specs.invariant)

pub returns : goal.returns
returns c =
    let front = map spec_view c.loop-specs.specs.items in
    let read : attribute_spec_at c.loop-specs.cursor ≡ Ok (None, c.attribute_spec.new.cursor) = rw c.in_default.is at c.in_ok-spec.ensures in
    let rest = items-end attribute_spec_at attribute_spec_at-leaves c.loop-specs.cursor c.attribute_spec.new.cursor read in
    sym c.loop-specs.invariant ∙ ap (seen_as (λ ys. front ++ ys)) rest ∙ ap (λ ys. Ok (ys, c.attribute_spec.new.cursor)) (append-nil front)
