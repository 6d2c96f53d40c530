use Rattle.std.proofs.Common.{◌≡◌, suc, add-one, ◌∙◌}
use Rattle.dwc_base.proofs.LebLaws.{uleb_value-ends, uleb_value-none}
use Rattle.dwc_base.proofs.leb128.uleb_front.Goals as goal

pub returns-in_err-count-clause-value : goal.returns-in_err-count-clause-value
returns-in_err-count-clause-value c = rw c.from_residual.ensures (uleb_value-none c.args.bytes.now c.in_err-count.ensures)

pub returns-2-clause-value : goal.returns-2-clause-value
returns-2-clause-value c =
    let ends = c.in_ok-count.ensures in
    let count : c.in_ok-count.count ≡ suc ends.0 = ends.1 ∙ add-one ends.0 in
    (_, rw count (uleb_value-ends c.args.bytes.now ends.0 ends.2 ends.3 ends.4), rw count at c.leb_value.ensures)
