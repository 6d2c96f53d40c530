use Rattle.std.proofs.Common.{◌≡◌, ◌+◌, ◌-◌, ◌<◌, List, length, map, sym, ap, ◌∙◌, arith, Some}
use Rattle.std.proofs.lemmas.List.{length-map}
use Rattle.dwc_base.specs.Abbreviations.{Declaration}
use Rattle.dwc_read.specs.Codes.{place_from}
use Rattle.dwc_read.specs.Tables.{declaration_view}
use Rattle.dwc_read.proofs.CodeLaws.{place_from-counted}
use Rattle.dwc_read.proofs.chain.Chain.place.Goals as goal

pub returns : goal.returns
returns c =
    let ds : List Declaration = map declaration_view c.self.inside.declarations.items in
    let above : 1 + (c.args.code - 1) ≡ c.args.code = omega arith in
    let inside : c.args.code - 1 < length ds =
    let count : c.len.result ≡ length c.self.inside.declarations.items = c.len.ensures ∙ c.self.inside.declarations.ok.0 in
    omega (arith, above, count, c.if-code-len.false, length-map c.self.inside.declarations.items declaration_view) in
    let none : 0 + (c.args.code - 1) ≡ c.args.code - 1 = omega arith in
    rw (← c.self.view_is) (ap (λ code. place_from 0 ds code) (sym above) ∙ place_from-counted 1 0 (c.args.code - 1) ds (c.self.invariant.counts c.if-not-self.false) inside ∙ ap Some none)
