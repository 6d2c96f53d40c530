-- Where the lists and the indexed values of a unit begin. (DWARF 5, sections 3.1.1 and 7.26 to 7.29.)
use Rattle.std.specs.Prelude.{◌≡◌, Option, Some, Result}
use Rattle.dwc_base.specs.declared.records.Address.{Address}
use Rattle.dwc_base.specs.declared.section_name.SectionName.TheVariants.{Addr, Info, Loclists, Rnglists, StrOffsets}
use Rattle.dwc_base.specs.declared.faults.What.TheVariants.{AddressValue}
use Rattle.dwc_base.specs.Sections.{Sections, Fault, reported}
use Rattle.dwc_base.specs.Units.{UnitHeader}
use Rattle.dwc_dwarf.specs.Values.{Value}
use Rattle.dwc_dwarf.specs.Indexed.{index_base, address_named}
use Rattle.dwc_dwarf.specs.Lists.{first_base_of}
use Rattle.dwc_read.specs.declared.bases.Bases.{Bases}

-- What was found is where the lists and the indexed values of a unit begin.
pub record AreBases (s : Sections) (h : UnitHeader) (b : Bases) : Type 0 where
  pub texts : index_base s h StrOffsets ≡ Some b.texts
  pub addresses : index_base s h Addr ≡ b.addresses
  pub ranges : index_base s h Rnglists ≡ Some b.ranges
  pub locations : index_base s h Loclists ≡ Some b.locations
  pub lists : first_base_of s h ≡ b.lists

-- The same, kept shut: a unit that is dropped brings its invariant to proofs above, which have no use for it.
unfoldable pub HasBases : Sections → UnitHeader → Bases → Type 0
HasBases s h b = AreBases s h b

-- the address that a value of a unit is, told at the unit where it cannot be read
abbrev pub address_of_value : Sections → UnitHeader → Value → Result (Option Address) Fault
address_of_value s h v = reported AddressValue Info h.offset (address_named s h v)
