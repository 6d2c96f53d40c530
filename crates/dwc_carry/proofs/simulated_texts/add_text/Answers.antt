use Rattle.dwc_source.proofs.TextLaws.{text-added}
use Rattle.dwc_carry.proofs.simulated_texts.add_text.Goals as goal

pub returns-clause-grows : goal.returns-clause-grows
returns-clause-grows c = (text-added c.args.text.now c.args.strings.now c.add.new.self c.add.result c.add.ensures.ok c.add.ensures.id c.add.ensures.err).0

pub returns-clause-number : goal.returns-clause-number
returns-clause-number c = (text-added c.args.text.now c.args.strings.now c.add.new.self c.add.result c.add.ensures.ok c.add.ensures.id c.add.ensures.err).1
