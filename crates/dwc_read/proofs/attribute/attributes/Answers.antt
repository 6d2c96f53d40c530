use Rattle.std.proofs.Common.{◌+◌, ◌++◌, map, get_or, sym, ap, ◌∙◌, arith, pos, List, ℕ, Ok}
use Rattle.std.proofs.lemmas.Result.{err_from_is_err_and}
use Rattle.std.proofs.lemmas.List.{map_push, append-nil}
use Rattle.dwc_base.specs.Reading.{seen_as}
use Rattle.dwc_dwarf.specs.Values.{Value}
use Rattle.dwc_dwarf.specs.Entries.{attributes_at}
use Rattle.dwc_base.proofs.Items.{seen-in_front}
use Rattle.dwc_read.specs.declared.attribute_spec.AttributeSpec.{AttributeSpec}
use Rattle.dwc_read.specs.ValuesSeen.{value_view, attribute_view}
use Rattle.dwc_read.proofs.AttributeLaws.{specs_from, attributes_at-more, attributes_at-flaw, attributes_at-end}
use Rattle.dwc_read.proofs.attribute.attributes.Goals as goal

abbrev none : AttributeSpec
none = record { name = 0; skip = 0; skip_bytes = 0; form = 0; implicit = pos 0 }

pub returns-in_err-value : goal.returns-in_err-value
returns-in_err-value c =
    let p = err_from_is_err_and c.from_residual.result c.from_residual.ensures.1 in
    let unit = c.args.unit.now in
    let specs = c.args.specs.now in
    let front = seen_as {A = List (ℕ × Value)} (λ ys. map attribute_view c.loop-spec.found.items ++ ys) in
    let flaw = attributes_at-flaw unit.sections unit.header specs c.loop-spec.spec-index none c.loop-spec.cursor c.loop-spec.cursor _ (omega arith) c.in_err-value.ensures in
    rw (p.1, p.2) (sym c.loop-spec.invariant ∙ ap front flaw)

pub loop-spec-preserved : goal.loop-spec-preserved
loop-spec-preserved c =
    let unit = c.args.unit.now in
    let specs = c.args.specs.now in
    let i = c.loop-spec.spec-index in
    let found = c.loop-spec.found.items in
    let x : ℕ × Value = ((get_or specs i none).name, value_view c.in_ok-value.value) in
    let rest = attributes_at unit.sections unit.header (specs_from (i + 1) specs) c.next_value.new.cursor in
    let more = attributes_at-more unit.sections unit.header specs i none c.loop-spec.cursor c.next_value.new.cursor (value_view c.in_ok-value.value) (omega arith) c.in_ok-value.ensures in
    rw (c.in_ok-push.ensures.items, map_push)
    (sym (seen-in_front (map attribute_view found) x rest) ∙ ap (seen_as (λ ys. map attribute_view found ++ ys)) (sym more) ∙ c.loop-spec.invariant)

pub returns : goal.returns
returns c =
    let unit = c.args.unit.now in
    let front = map attribute_view c.loop-spec.found.items in
    let end = attributes_at-end unit.sections unit.header c.args.specs.now c.loop-spec.spec-index c.loop-spec.cursor c.loop-spec-test.false in
    sym c.loop-spec.invariant ∙ ap (seen_as (λ ys. front ++ ys)) end ∙ ap (λ ys. Ok (ys, c.loop-spec.cursor)) (append-nil front)
