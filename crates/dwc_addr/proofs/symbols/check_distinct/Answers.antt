use Rattle.std.proofs.Common.{◌∙◌, sym, ap, subst, map, take, get_or, None}
use Rattle.std.specs.Prelude.{Ok}
use Rattle.dwc_addr.specs.Numbers.{symbol_view}
use Rattle.dwc_addr.specs.SymbolIndexes.{IsIndex, Notes}
use Rattle.dwc_addr.proofs.SymbolLaws.{more, count, found-at, new-at}
use Rattle.dwc_addr.proofs.symbols.check_distinct.Goals as goal

pub returns-in-Some : goal.returns-in-Some
returns-in-Some c =
    let ss = c.args.symbols.now in
    let i = c.loop-i.i in
    let before = map symbol_view (take i ss) in
    let noted = c.note.ensures before c.loop-i.invariant.0 (count ss i c.loop-i-test.true) in
    let found = subst (λ r. Notes before (symbol_view (get_or ss i None)) c.note.new.numbers r) (c.in_ok-first.was ∙ ap (λ o. Ok o) c.in-Some.is) noted in
    sym c.loop-i.invariant.1 ∙ found-at ss i c.in-Some.first c.loop-i-test.true found

pub loop-i-preserved : goal.loop-i-preserved
loop-i-preserved c =
    let ss = c.args.symbols.now in
    let i = c.loop-i.i in
    let before = map symbol_view (take i ss) in
    let noted = c.note.ensures before c.loop-i.invariant.0 (count ss i c.loop-i-test.true) in
    let new = subst (λ r. Notes before (symbol_view (get_or ss i None)) c.note.new.numbers r) (c.in_ok-first.was ∙ ap (λ o. Ok o) c.in_default.is) noted in (
      subst (λ b. IsIndex b c.note.new.numbers) (sym (more ss i c.loop-i-test.true)) new.1,
      sym (new-at ss i c.loop-i-test.true new.0) ∙ c.loop-i.invariant.1,
    )
