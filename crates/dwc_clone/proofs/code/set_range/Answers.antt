use Rattle.std.proofs.Common.{◌==◌, ◌∷◌, [], ap, arith, refl, sym, subst, OnOk}
use Rattle.dwc_base.specs.declared.constants.TheConstants.{DW_TAG_compile_unit}
use Rattle.dwc_rules.specs.RangeAttributes.{with_base}
use Rattle.dwc_clone.specs.ClonedEntries.{IsGiven}
use Rattle.dwc_clone.proofs.CodeLaws.{bounds-said}
use Rattle.dwc_clone.proofs.code.set_range.Goals as goal

pub set_bounds-requires-clause-fits : goal.set_bounds-requires-clause-fits
set_bounds-requires-clause-fits c size = (c.requires.fits size 0 (c.args.begin, c.args.length) (omega arith)).ends.begin

pub returns-then-tag-ne-DW_TAG_compile_unit-clause-given : goal.returns-then-tag-ne-DW_TAG_compile_unit-clause-given
returns-then-tag-ne-DW_TAG_compile_unit-clause-given c number texts base e last =
    let said = bounds-said c.args.tag ((c.args.begin, c.args.length) ∷ []) (c.args.begin, c.args.length) refl c.if-tag-ne-DW_TAG_compile_unit.true c.requires.fits in
    subst (λ values. OnOk c.set_bounds.result (IsGiven number texts texts values base e c.set_bounds.new.unit)) (sym (ap (with_base c.args.output_for (c.args.tag == DW_TAG_compile_unit)) said)) (c.set_bounds.ensures.given number texts base e last)

pub returns-clause-given : goal.returns-clause-given
returns-clause-given c number texts base e last = rw c.in_ok-ranges.ensures.items at (c.set_ranges.ensures.given number texts base e last)
