use Rattle.dwc_unit.specs.GivenLines.{row_at}
use Rattle.dwc_unit.proofs.LineLaws.{behind-rows, row-kept}
use Rattle.dwc_unit.proofs.lines.LineProgram.generate_row_at.Goals as goal

pub push-requires-clause-fits : goal.push-requires-clause-fits
push-requires-clause-fits c = record { some_file = c.requires.some_file; offset = c.requires.offset; line = c.requires.line; file = c.know_numbers.ensures.file; column = c.know_numbers.ensures.column; isa = c.know_numbers.ensures.isa; discriminator = c.know_numbers.ensures.discriminator }

pub push-requires-clause-behind : goal.push-requires-clause-behind
push-requires-clause-behind c = behind-rows c.self.inside.start_address c.self.inside.rows c.args.offset (rw (← c.self.view_is) at c.requires).behind

pub invariant_of-self-2 : goal.invariant_of-self-2
invariant_of-self-2 c =
    row-kept _ _ _ _ c.self.inside.start_address c.self.inside.rows _ (row_at c.args.offset c.args.row.now) c.in_ok-push.ensures.ok c.self.invariant (rw (← c.self.view_is) at c.requires)
    (record { some_file = c.requires.some_file; offset = c.requires.offset; line = c.requires.line; file = c.know_numbers.ensures.file; column = c.know_numbers.ensures.column; isa = c.know_numbers.ensures.isa; discriminator = c.know_numbers.ensures.discriminator })
