use Rattle.dwc_read.specs.Bases.{HasBases}
use Rattle.dwc_read.specs.Headers.{header_view}
use Rattle.dwc_read.proofs.BasesLaws.{index_base-texts, index_base-addresses, index_base-ranges, index_base-locations}
use Rattle.dwc_read.proofs.FirstBaseLaws.{first_base-said}
use Rattle.dwc_read.proofs.bases.bases_of_unit.Goals as goal

pub returns : goal.returns
unfolding HasBases
returns c =
    let s = c.args.sections.now in
    let h = header_view c.args.header.now in
    let says = c.root_values-values.ensures in
    record {
      texts = rw (c.unwrap_or.ensures, c.number_of.ensures, says.str_offsets_base) (index_base-texts s h);
      addresses = rw (c.base_of_addresses-addresses.ensures, says.addr_base) (index_base-addresses s h);
      ranges = rw (c.unwrap_or-2.ensures, c.number_of-2.ensures, says.rnglists_base) (index_base-ranges s h);
      locations = rw (c.unwrap_or-3.ensures, c.number_of-3.ensures, says.loclists_base) (index_base-locations s h);
      lists = rw (c.base_of_lists.ensures, c.base_of_addresses-addresses.ensures, says.addr_base, says.low_pc, ← index_base-addresses s h) (first_base-said s h);
    }
