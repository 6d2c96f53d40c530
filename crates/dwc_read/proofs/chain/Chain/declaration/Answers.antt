use Rattle.std.proofs.Common.{◌≡◌, ◌+◌, ◌-◌, List, map, sym, ap, ◌∙◌, arith, Some, None}
use Rattle.std.specs.Prelude.{slice_get, option_and_then}
use Rattle.dwc_base.specs.Abbreviations.{Declaration, declaration_of}
use Rattle.dwc_read.specs.Codes.{place_from}
use Rattle.dwc_read.specs.Tables.{declaration_view}
use Rattle.dwc_read.proofs.CodeLaws.{place_from-first, declaration_of-below, declaration_of-counted}
use Rattle.dwc_read.proofs.chain.Chain.declaration.Goals as goal

pub returns-in_err-place : goal.returns-in_err-place
returns-in_err-place c =
    let ds : List Declaration = map declaration_view c.self.inside.declarations.items in
    let none : None ≡ place_from 0 ds c.args.code = c.in_err-place.ensures.value ∙ c.self.invariant.places c.if-not-self.true c.args.code in
    rw (c.from_residual.ensures, ← c.self.view_is) (ap (option_and_then (slice_get ds)) none ∙ place_from-first ds c.args.code)

pub returns-then-not-self : goal.returns-then-not-self
returns-then-not-self c =
    let ds : List Declaration = map declaration_view c.self.inside.declarations.items in
    let some : Some c.in_ok-place.place.now ≡ place_from 0 ds c.args.code = c.in_ok-place.ensures.value ∙ c.self.invariant.places c.if-not-self.true c.args.code in
    rw (c.item.ensures, c.deref.ensures.value, ← c.self.view_is) (ap (option_and_then (slice_get ds)) some ∙ place_from-first ds c.args.code)

pub returns-then-code-eq0 : goal.returns-then-code-eq0
returns-then-code-eq0 c =
    let ds : List Declaration = map declaration_view c.self.inside.declarations.items in
    rw (← c.self.view_is) (sym (declaration_of-below 1 c.args.code ds (c.self.invariant.counts c.if-not-self.false) (omega arith)))

pub returns : goal.returns
returns c =
    let ds : List Declaration = map declaration_view c.self.inside.declarations.items in
    let above : 1 + (c.args.code - 1) ≡ c.args.code = omega arith in
    rw (c.item-2.ensures, c.deref-2.ensures.value, ← c.self.view_is) (sym (declaration_of-counted 1 (c.args.code - 1) ds (c.self.invariant.counts c.if-not-self.false)) ∙ ap (λ code. declaration_of code ds) above)
