use Rattle.dwc_map.proofs.MapKinds.{four_of-another_length}
use Rattle.dwc_map.proofs.json_fields.four.Goals as goal

pub returns-then-items-ne4 : goal.returns-then-items-ne4
returns-then-items-ne4 c = four_of-another_length c.in_ok-items.items.now _ c.in_ok-items.ensures c.if-items-ne4.true
