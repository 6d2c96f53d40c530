use Rattle.std.proofs.Common.{refl, arith}
use Rattle.std.proofs.lemmas.List.{drop-set}
use Rattle.dwc_cli.proofs.backward.end_section_line.Goals as goal

pub returns-clause-text : goal.returns-clause-text
returns-clause-text c = rw (c.word_before.ensures.text, c.number_before-end.ensures.text, drop-set c.args.line.now 63 10 (omega arith)) refl
