use Rattle.std.proofs.Common.{ap, arith}
use Rattle.dwc_unit.specs.GivenLines.{last_offset, row_at}
use Rattle.dwc_unit.proofs.ToldLaws.{last-line, last-offset, row-spelled}
use Rattle.dwc_unit.proofs.spelled_rows.SpelledRows.push.Goals as goal

pub put_row-requires-clause-before : goal.put_row-requires-clause-before
put_row-requires-clause-before c = last-line c.self.inside.code.items c.self.inside.last c.self.invariant

pub put_row-requires-clause-offset : goal.put_row-requires-clause-offset
put_row-requires-clause-offset c = omega (arith, c.requires.behind, last-offset c.self.inside.code.items c.self.inside.last c.self.invariant, ap (last_offset 0) c.self.view_is)

pub invariant_of-self-2 : goal.invariant_of-self-2
invariant_of-self-2 c =
    (row-spelled c.self.inside.code.items _ c.self.inside.last (row_at c.args.offset c.args.row.now) c.self.invariant c.requires.fits (rw (← c.self.view_is) at c.requires.behind) (rw (c.reserve.ensures.items) at c.put_row.ensures)).spelled

pub returns-clause-ok : goal.returns-clause-ok
returns-clause-ok c =
    rw (← c.self.view_is)
    (row-spelled c.self.inside.code.items _ c.self.inside.last (row_at c.args.offset c.args.row.now) c.self.invariant c.requires.fits (rw (← c.self.view_is) at c.requires.behind) (rw (c.reserve.ensures.items) at c.put_row.ensures)).told
