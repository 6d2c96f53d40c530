use Rattle.std.proofs.Common.{◌≡◌, rules}
use Rattle.dwc_read.proofs.sections.Sections.bytes.Goals as goal

pub returns-in-Output-clause-length : goal.returns-in-Output-clause-length
returns-in-Output-clause-length c =
    let same : c.all_below_256-in-Output.result.now ≡ c.args.self.now.bytes c.args.name = search rules in
    rw (same, ← c.self.view_is) (c.self.invariant c.args.name)
