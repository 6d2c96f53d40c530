use Rattle.std.proofs.Common.{◌≤◌, ◌+◌, ◌*◌, length, arith}
use Rattle.dwc_tabs.proofs.OpenListLaws.{distance-past}
use Rattle.dwc_tabs.proofs.open_list.distance_at.Goals as goal

pub returns-in_default : goal.returns-in_default
returns-in_default c =
    let far = c.in_default.ensures in
    let past : length c.args.bytes.now ≤ c.args.base + 4 * c.args.index = omega (arith, far, c.requires) in
    distance-past c.args.order c.args.bytes.now c.args.base c.args.index past

pub returns-then-bytes-place : goal.returns-then-bytes-place
returns-then-bytes-place c =
    let is = c.in-Some.ensures in
    let past : length c.args.bytes.now ≤ c.args.base + 4 * c.args.index = omega (arith, is, c.if-bytes-place.true) in
    distance-past c.args.order c.args.bytes.now c.args.base c.args.index past
