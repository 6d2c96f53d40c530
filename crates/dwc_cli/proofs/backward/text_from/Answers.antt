use Rattle.std.proofs.Common.{◌≡◌, ◌+◌, ◌-◌, take, drop, ap, sym, ◌∙◌, arith}
use Rattle.std.proofs.lemmas.List.{drop-take}
use Rattle.dwc_cli.proofs.backward.text_from.Goals as goal

pub returns : goal.returns
returns c =
    let full : c.args.start + (64 - c.args.start) ≡ 64 = omega (arith, c.requires) in
    sym (drop-take c.args.start (64 - c.args.start) c.args.line.now) ∙ ap (λ k. drop c.args.start (take k c.args.line.now)) full
