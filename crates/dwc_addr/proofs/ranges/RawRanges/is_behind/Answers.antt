use Rattle.std.proofs.Common.{◌∙◌, sym}
use Rattle.std.proofs.lemmas.Bool.{leb-true}
use Rattle.dwc_addr.proofs.ranges.RawRanges.is_behind.Goals as goal

pub returns-in-Some : goal.returns-in-Some
returns-in-Some c = λ past.
    let i = c.self.inside in
    sym c.self.view_is ∙ rw (c.in-Some.is) (c.last_number.ensures i.start i.end i.number (leb-true _ _ past))
