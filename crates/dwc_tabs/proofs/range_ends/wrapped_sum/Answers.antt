use Rattle.std.proofs.Common.{◌+◌, ◌%◌, ◌^◌, pos, ◌+ℤ◌, w64, FitsSigned, ap, sym, ◌∙◌, subst}
use Rattle.std.specs.Int.{cast_signed, cast_unsigned}
use Rattle.std.proofs.lemmas.Int.{to_z-of_z, SFits-int_wrap}
use Rattle.dwc_tabs.proofs.RangeEndLaws.{wrapped-sum}
use Rattle.dwc_tabs.proofs.range_ends.wrapped_sum.Goals as goal

pub returns : goal.returns
returns c =
    let same = to_z-of_z w64 c.args.addend c.ranges.addend in
    let h = c.wrapping_add_unsigned.ensures ∙ ap (λ a. cast_signed w64 ((cast_unsigned w64 a + c.args.distance) % 2 ^ 64)) same ∙ wrapped-sum c.args.addend c.args.distance c.ranges.addend c.ranges.distance.fits in
    to_z-of_z w64 c.wrapping_add_unsigned.result (subst (FitsSigned w64) (sym h) (SFits-int_wrap w64 (c.args.addend +ℤ pos c.args.distance))) ∙ h
