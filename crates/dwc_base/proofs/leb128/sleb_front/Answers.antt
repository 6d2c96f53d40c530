use Rattle.std.proofs.Common.{◌≡◌, suc, add-one, ◌∙◌}
use Rattle.dwc_base.proofs.SlebLaws.{sleb_value-ends, sleb_value-none}
use Rattle.dwc_base.proofs.leb128.sleb_front.Goals as goal

pub returns-in_err-count-clause-value : goal.returns-in_err-count-clause-value
returns-in_err-count-clause-value c = rw c.from_residual.ensures (sleb_value-none c.args.bytes.now c.in_err-count.ensures)

pub returns-2-clause-value : goal.returns-2-clause-value
returns-2-clause-value c =
    let ends = c.in_ok-count.ensures in
    let count : c.in_ok-count.count ≡ suc ends.0 = ends.1 ∙ add-one ends.0 in
    (_, rw count (sleb_value-ends c.args.bytes.now ends.0 ends.2 ends.3 ends.4), rw count at c.signed_leb_value.ensures)
