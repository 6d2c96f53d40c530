use Rattle.dwc_extents.proofs.NativeRangeLaws.{zero-fits}
use Rattle.dwc_extents.proofs.extent.position_of.Goals as goal

pub returns-then-tag-eq-DW_TAG_compile_unit-clause-fits : goal.returns-then-tag-eq-DW_TAG_compile_unit-clause-fits
returns-then-tag-eq-DW_TAG_compile_unit-clause-fits c = zero-fits
