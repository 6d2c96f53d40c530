use Rattle.std.proofs.lemmas.Bool.{ne_eqb}
use Rattle.dwc_base.specs.declared.constants.TheConstants.{DW_AT_ranges}
use Rattle.dwc_read.specs.EntriesSeen.{entry_view}
use Rattle.dwc_read.specs.ValuesSeen.{value_view}
use Rattle.dwc_extents.proofs.BoundLaws.{other-name, own-list}
use Rattle.dwc_extents.proofs.bounds.names_no_other.Goals as goal

pub returns-then-name-eq-DW_AT_ranges : goal.returns-then-name-eq-DW_AT_ranges
returns-then-name-eq-DW_AT_ranges c own s sound = own-list s (entry_view c.args.entry.now) c.args.name (value_view c.args.value) (c.is_own_list.ensures own) sound

pub returns : goal.returns
returns c own s sound = other-name s (entry_view c.args.entry.now) c.args.name (value_view c.args.value) (ne_eqb c.args.name DW_AT_ranges c.if-name-eq-DW_AT_ranges.false)
