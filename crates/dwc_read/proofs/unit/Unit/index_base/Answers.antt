use Rattle.std.proofs.Common.{ap, sym}
use Rattle.std.specs.Option.{unwrap_or}
use Rattle.dwc_read.proofs.BasesLaws.{index_base-other}
use Rattle.dwc_read.proofs.unit.Unit.index_base.Goals as goal

pub returns-in_default : goal.returns-in_default
returns-in_default c =
    let unit = c.args.self.now in
    let other = c.in_default in
    ap (λ o. unwrap_or o 0) (sym (index_base-other unit.sections unit.header c.args.name other.not-StrOffsets other.not-Addr other.not-Rnglists other.not-Loclists))
