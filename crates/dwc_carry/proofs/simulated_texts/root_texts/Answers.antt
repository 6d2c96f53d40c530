use Rattle.std.proofs.Common.{subst, sym}
use Rattle.dwc_unit.specs.TextTables.{IsText}
use Rattle.dwc_carry.proofs.SimulatedTexts.{directory-plain}
use Rattle.dwc_carry.proofs.simulated_texts.root_texts.Goals as goal

pub add_text-requires-3 : goal.add_text-requires-3
add_text-requires-3 c = subst IsText (sym c.path_directory.ensures) (directory-plain c.args.path.now c.requires)
