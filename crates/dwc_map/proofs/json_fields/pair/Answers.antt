use Rattle.dwc_map.proofs.MapKinds.{pair_of-another_length}
use Rattle.dwc_map.proofs.json_fields.pair.Goals as goal

pub returns-then-items-ne2 : goal.returns-then-items-ne2
returns-then-items-ne2 c = pair_of-another_length c.in_ok-items.items.now _ c.in_ok-items.ensures c.if-items-ne2.true
