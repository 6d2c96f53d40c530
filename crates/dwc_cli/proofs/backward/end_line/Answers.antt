use Rattle.std.proofs.Common.{refl, arith, to_z-of_z}
use Rattle.std.proofs.lemmas.List.{drop-set}
use Rattle.dwc_cli.proofs.backward.end_line.Goals as goal

pub returns-clause-text : goal.returns-clause-text
returns-clause-text c =
    let back = to_z-of_z c.ranges.addend in
    rw (c.word_before.ensures.text, c.signed_before-end.ensures.text, back, drop-set c.args.line.now 63 10 (omega arith)) refl
