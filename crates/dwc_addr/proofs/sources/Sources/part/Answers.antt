use Rattle.std.proofs.Common.{◌-◌, ◌∙◌, ap, sym, take, drop}
use Rattle.std.proofs.lemmas.List.{drop-map, take-map}
use Rattle.dwc_addr.specs.Sources.{counted_from}
use Rattle.dwc_addr.proofs.sources.Sources.part.Goals as goal

pub returns : goal.returns
returns c =
    let i = c.self.inside in
    let f = counted_from i.code_offset in
    let n = c.args.to - c.args.from in
    sym (take-map f n (drop c.args.from i.entries.now)) ∙ ap (take n) (sym (drop-map f c.args.from i.entries.now)) ∙ ap (λ xs. take n (drop c.args.from xs)) c.self.view_is
