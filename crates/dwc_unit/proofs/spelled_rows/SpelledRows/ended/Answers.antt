use Rattle.std.proofs.Common.{ap, arith}
use Rattle.dwc_unit.specs.GivenLines.{last_offset}
use Rattle.dwc_unit.proofs.ToldLaws.{end-spelled, last-offset}
use Rattle.dwc_unit.proofs.spelled_rows.SpelledRows.ended.Goals as goal

pub put_end-requires : goal.put_end-requires
put_end-requires c = omega (arith, c.requires.behind, last-offset c.self.inside.code.items c.self.inside.last c.self.invariant, ap (last_offset 0) c.self.view_is)

pub invariant_of-result : goal.invariant_of-result
invariant_of-result c =
    let all = rw (c.in_ok-code.ensures.items, c.deref.ensures.value) at c.in_ok-extend_from_slice.ensures.items in
    (end-spelled c.self.inside.code.items _ c.self.inside.last c.args.end_offset c.self.invariant (rw (← c.self.view_is) at c.requires.behind) c.requires.fits (rw (all) at c.in_ok-put_end.ensures)).spelled

pub returns : goal.returns
returns c =
    let all = rw (c.in_ok-code.ensures.items, c.deref.ensures.value) at c.in_ok-extend_from_slice.ensures.items in
    rw (← c.self.view_is)
    (end-spelled c.self.inside.code.items _ c.self.inside.last c.args.end_offset c.self.invariant (rw (← c.self.view_is) at c.requires.behind) c.requires.fits (rw (all) at c.in_ok-put_end.ensures)).told
