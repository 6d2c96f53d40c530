use Rattle.std.proofs.Common.{subst, sym}
use Rattle.dwc_unit.specs.TextTables.{AreTexts}
use Rattle.dwc_unit.proofs.TextSets.{texts-with}
use Rattle.dwc_unit.proofs.strings.StringTable.add.Goals as goal

pub invariant_of-self-2 : goal.invariant_of-self-2
invariant_of-self-2 c = subst AreTexts (sym c.in_ok-index.ensures.ok) (texts-with c.args.text.now c.self.inside.texts c.self.invariant c.requires c.in_ok-index.ensures.bytes)
