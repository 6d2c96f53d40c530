use Rattle.std.proofs.Common.{arith, ap}
use Rattle.dwc_addr.specs.RunViews.{no_source}
use Rattle.dwc_addr.proofs.NativeLaws.{all-up-to, front-up-to}
use Rattle.dwc_addr.proofs.positions.begun_up_to.Goals.{else-behind-count-via-then-behind-count+else-at-native, else-behind-count-via-else-behind-count}
use Rattle.dwc_addr.proofs.positions.begun_up_to.Goals as goal

pub returns : goal.returns
returns c =
    let n = c.requires in
    elim c.else-behind-count.branch [
      | else-behind-count-via-then-behind-count+else-at-native w ↦ front-up-to (λ e. e.generated) c.args.sources.now c.args.place c.args.native no_source n.order n.place n.begins (omega (arith, w.if-behind-count.true)) (omega (arith, w.if-at-native.false, ap (λ e. e.generated) (w.at.ensures no_source)))
      | else-behind-count-via-else-behind-count w ↦ all-up-to (λ e. e.generated) c.args.sources.now c.args.place c.args.native n.order n.place n.begins (omega (arith, w.if-behind-count.false))
    ]
