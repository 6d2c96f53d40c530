use Rattle.std.proofs.Common.{arith, ap}
use Rattle.dwc_addr.specs.RunViews.{no_source}
use Rattle.dwc_addr.proofs.NativeLaws.{none-below, front-below}
use Rattle.dwc_addr.proofs.positions.begun_below.Goals.{else-place-gt0-via-then-place-gt0+else-at-native, else-place-gt0-via-else-place-gt0}
use Rattle.dwc_addr.proofs.positions.begun_below.Goals as goal

pub returns : goal.returns
returns c =
    let n = c.requires in
    elim c.else-place-gt0.branch [
      | else-place-gt0-via-then-place-gt0+else-at-native w ↦ front-below (λ e. e.generated) c.args.sources.now c.args.place c.args.native no_source n.order n.place n.begins (omega (arith, w.if-place-gt0.true)) (omega (arith, w.if-at-native.false, ap (λ e. e.generated) (w.at.ensures no_source)))
      | else-place-gt0-via-else-place-gt0 w ↦ none-below (λ e. e.generated) c.args.sources.now c.args.place c.args.native n.order n.place n.begins (omega (arith, w.if-place-gt0.false))
    ]
