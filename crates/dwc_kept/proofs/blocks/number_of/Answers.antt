use Rattle.std.proofs.Common.{arith, ◌/◌}
use Rattle.dwc_kept.proofs.BlockLaws.{stands-between}
use Rattle.dwc_kept.proofs.blocks.number_of.Goals as goal

pub number_between-requires-clause-between : goal.number_between-requires-clause-between
number_between-requires-clause-between c k inside is = rw (c.first_of_block-first.ensures, c.first_of_block-end.ensures) (stands-between c.args.entries.now c.args.firsts.now c.args.offset (c.args.offset / 32) k c.requires.firsts (omega arith) (omega arith) inside is)
