use Rattle.std.proofs.Common.{◌≡◌, ℕ, suc, ◌+◌, ◌-◌, List, sym, ap, ◌∙◌, arith, pos}
use Rattle.std.specs.Prelude.{slice_get}
use Rattle.dwc_dwarf.specs.ExpressionPlaces.{attribute_ends}
use Rattle.dwc_read.specs.declared.attribute_spec.AttributeSpec.{AttributeSpec}
use Rattle.dwc_read.specs.ValuesSeen.{value_view}
use Rattle.dwc_read.proofs.AttributeLaws.{specs_from}
use Rattle.dwc_read.proofs.ValueEndLaws.{attribute_ends-more, attribute_ends-flaw, attribute_ends-end, slice_get-behind}
use Rattle.dwc_read.proofs.value_end.attribute_end.Goals as goal

abbrev none : AttributeSpec
none = record { name = 0; skip = 0; skip_bytes = 0; form = 0; implicit = pos 0 }

pub returns-in_default : goal.returns-in_default
returns-in_default c =
    let unit = c.args.unit.now in
    let flaw = attribute_ends-flaw unit.sections unit.header c.args.specs.now c.loop-spec.spec-index none c.loop-spec.cursor c.loop-spec.cursor c.in_default.field-0 (omega arith) c.in_default.ensures in
    ap (λ ends. slice_get ends c.loop-spec.before) (sym flaw) ∙ c.loop-spec.invariant

pub returns-then-before-eq0 : goal.returns-then-before-eq0
returns-then-before-eq0 c =
    let unit = c.args.unit.now in
    let more = attribute_ends-more unit.sections unit.header c.args.specs.now c.loop-spec.spec-index none c.loop-spec.cursor c.value.new.cursor (value_view c.in-Ok.field-0) (omega arith) c.in-Ok.ensures in
    let first : c.loop-spec.before ≡ 0 = c.if-before-eq0.true in
    rw (c.place.ensures) (ap (λ ends. slice_get ends 0) (sym more) ∙ (rw first at c.loop-spec.invariant))

pub loop-spec-preserved : goal.loop-spec-preserved
loop-spec-preserved c =
    let unit = c.args.unit.now in
    let i = c.loop-spec.spec-index in
    let rest : List ℕ = attribute_ends unit.sections unit.header (specs_from (i + 1) c.args.specs.now) c.value.new.cursor in
    let more = attribute_ends-more unit.sections unit.header c.args.specs.now i none c.loop-spec.cursor c.value.new.cursor (value_view c.in-Ok.field-0) (omega arith) c.in-Ok.ensures in
    let behind : suc (c.loop-spec.before - 1) ≡ c.loop-spec.before = omega (arith, c.if-before-eq0.false) in
    sym (slice_get-behind (c.value.new.cursor).place rest (c.loop-spec.before - 1) c.loop-spec.before behind) ∙ ap (λ ends. slice_get ends c.loop-spec.before) (sym more) ∙ c.loop-spec.invariant

pub returns : goal.returns
returns c =
    let unit = c.args.unit.now in
    let end = attribute_ends-end unit.sections unit.header c.args.specs.now c.loop-spec.spec-index c.loop-spec.cursor c.loop-spec-test.false in
    ap (λ ends. slice_get ends c.loop-spec.before) (sym end) ∙ c.loop-spec.invariant
