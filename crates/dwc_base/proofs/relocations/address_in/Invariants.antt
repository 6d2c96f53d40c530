use Rattle.std.proofs.Common.{◌≡◌, drop}
use Rattle.dwc_base.specs.Sections.{field_value}
use Rattle.dwc_base.specs.Outputs.{field_relocations}
use Rattle.dwc_base.proofs.relocations.address_in.Given as goal

-- what is left gives what all give
abbrev pub invariant-loop-relocation : goal.invariant-loop-relocation
invariant-loop-relocation l = field_value (field_relocations (drop l.relocation-index l.list)) l.offset l.size l.spelled ≡ field_value (field_relocations l.list) l.offset l.size l.spelled
