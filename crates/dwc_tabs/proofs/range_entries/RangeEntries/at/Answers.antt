use Rattle.std.proofs.Common.{subst, IsTrue}
use Rattle.dwc_base.specs.FieldSizes.{is_field_size}
use Rattle.dwc_tabs.proofs.RangeLaws.{entries_left-begin}
use Rattle.dwc_tabs.proofs.range_entries.RangeEntries.at.Goals as goal

pub returns-clause-left : goal.returns-clause-left
returns-clause-left c =
    let u = c.args.unit.now in
    let known = subst (λ l. IsTrue (is_field_size l.address_size)) c.at.ensures.list c.at.ensures.known in
    rw (c.at.ensures.list, c.section_of_lists.ensures) (entries_left-begin c.args.in_pairs u.sections u.header c.args.offset known)
