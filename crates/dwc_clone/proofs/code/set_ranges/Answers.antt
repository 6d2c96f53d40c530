use Rattle.std.proofs.Common.{ℕ, ◌<◌, arith, refl, ◌≡◌, sym, ap, subst, ◌∙◌, ◌==◌, ◌∷◌, ◌++◌, [], length, map, OnOk}
use Rattle.std.specs.Prelude.{All, ◌⊎◌}
use Rattle.std.proofs.lemmas.List.Elements.{All-nil}
use Rattle.dwc_base.specs.declared.constants.TheConstants.{DW_AT_ranges, DW_TAG_compile_unit}
use Rattle.dwc_base.specs.declared.records.Address.{Address}
use Rattle.dwc_rules.specs.RangeAttributes.{bounds, list_base, with_base}
use Rattle.dwc_dwarf.specs.Trees.{ranges}
use Rattle.dwc_unit.specs.declared.attributes.AttributeValue.TheVariants.{RangeListRef}
use Rattle.dwc_unit.specs.declared.lists.RangeList.{RangeList}
use Rattle.dwc_unit.specs.RangeLists.{FitsRange, interval_of}
use Rattle.dwc_section.specs.Writers.{FitsField}
use Rattle.dwc_clone.specs.ClonedEntries.{IsGiven}
use Rattle.dwc_clone.proofs.EntryValues.{given-last, given-on, given-value, grows-not, on-ok}
use Rattle.dwc_clone.proofs.CodeLaws.{bounds-said, list-said}
use Rattle.dwc_clone.proofs.code.set_ranges.Goals as goal

pub set_bounds-requires-clause-fits : goal.set_bounds-requires-clause-fits
set_bounds-requires-clause-fits c size =
    let d = c.index.result.now in
    let within : 0 < length c.args.ranges.items = omega (arith, c.if-len-eq1.true, c.len.ensures, c.args.ranges.ok.0, c.args.ranges.ok.1) in
    subst (λ r. FitsField size r.0) (sym c.index.ensures) (c.requires.fits size 0 d within).ends.begin

pub returns-then-tag-ne-DW_TAG_compile_unit-clause-given : goal.returns-then-tag-ne-DW_TAG_compile_unit-clause-given
returns-then-tag-ne-DW_TAG_compile_unit-clause-given c number texts base e last =
    let one : length c.args.ranges.items ≡ 1 = omega (arith, c.if-len-eq1.true, c.len.ensures, c.args.ranges.ok.0, c.args.ranges.ok.1) in
    let said = bounds-said c.args.tag c.args.ranges.items c.index.result.now one c.if-tag-ne-DW_TAG_compile_unit.true c.requires.fits ∙ ap (λ (r : Address × ℕ). bounds r.0 r.1) (sym c.index.ensures) in
    subst (λ values. OnOk c.set_bounds.result (IsGiven number texts texts values base e c.set_bounds.new.unit)) (sym (ap (with_base c.args.output_for (c.args.tag == DW_TAG_compile_unit)) said)) (c.set_bounds.ensures.given number texts base e last)

pub set-requires-clause-fits : goal.set-requires-clause-fits
set-requires-clause-fits c = (refl, subst (λ list. All (FitsRange c.set_base.new.unit.address_size) list.ranges.items) (sym c.new.ensures) (c.requires.fits c.set_base.new.unit.address_size))

pub returns-clause-given : goal.returns-clause-given
returns-clause-given c number texts base e last =
    let list = c.new.result in
    let counted : c.len.result ≡ length c.args.ranges.items = omega (arith, c.len.ensures, c.args.ranges.ok.0, c.args.ranges.ok.1) in
    let is = list-said c.args.tag c.args.ranges.items (subst (λ n. ((n ≡ 1) × (c.args.tag ≡ DW_TAG_compile_unit)) ⊎ (n ≡ 1 → ⊥)) counted c.else-len-eq1.either) in
    let is_root = c.args.tag == DW_TAG_compile_unit in
    let front = list_base c.args.output_for is_root in
    let u = c.set_base.new.unit in
    let first = c.in_ok-set_base.ensures.given number texts base e last in
    let last_then = given-last number texts texts front c.args.id base e c.args.unit.now u last first in
    let second = given-value number texts texts c.args.id base first.given u DW_AT_ranges (RangeListRef list) last_then (grows-not texts) (All-nil (λ n. n < length texts)) in
    let both = given-on number texts texts texts front ((DW_AT_ranges, ranges (map interval_of list.ranges.items)) ∷ []) base e u _ first second in
    let said = ap (λ (l : RangeList). front ++ (DW_AT_ranges, ranges (map interval_of l.ranges.items)) ∷ []) c.new.ensures ∙ ap (with_base c.args.output_for is_root) (sym is) in
    on-ok c.set.result (λ now. subst (λ vs. IsGiven number texts texts vs base e c.set.new.self) said (subst (λ w. IsGiven number texts texts (front ++ (DW_AT_ranges, ranges (map interval_of list.ranges.items)) ∷ []) base e w) (sym now) both)) c.set.ensures.ok
