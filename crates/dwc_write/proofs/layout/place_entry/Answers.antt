use Rattle.dwc_base.specs.declared.records.Endian.TheVariants.{Little}
use Rattle.dwc_write.proofs.layout.place_entry.Goals as goal

pub advanced-requires-2 : goal.advanced-requires-2
advanced-requires-2 c = (c.in_ok-behind_values.ensures.end Little).1
