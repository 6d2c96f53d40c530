use Rattle.std.proofs.Common.{sym, ap, subst, ◌∙◌, [], ◌∷◌, ◌++◌, map, take, Some}
use Rattle.dwc_native.specs.SharedSymbols.{holder_of}
use Rattle.dwc_addr.specs.Numbers.{symbol_view}
use Rattle.dwc_addr.proofs.SymbolLaws.{EndBelow, more, new-at, end-behind, end-pass}
use Rattle.dwc_addr.proofs.symbols.do_rise.Goals as goal

pub loop-i-preserved-in_default : goal.loop-i-preserved-in_default
loop-i-preserved-in_default c =
    let ss = c.args.symbols.now in
    let i = c.loop-i.i in
    let before = map symbol_view (take i ss) in
    let passed = more ss i c.loop-i-test.true ∙ ap (λ s. before ++ (symbol_view s ∷ [])) c.in_default.is in (
      subst (λ b. EndBelow c.loop-i.least b) (sym passed) (end-pass c.loop-i.least before c.loop-i.invariant.0),
      sym (new-at ss i c.loop-i-test.true (ap (λ s. holder_of (symbol_view s) before) c.in_default.is)) ∙ c.loop-i.invariant.1,
    )

pub loop-i-preserved : goal.loop-i-preserved
loop-i-preserved c =
    let ss = c.args.symbols.now in
    let i = c.loop-i.i in
    let k = c.in-Some.symbol.0 in
    let before = map symbol_view (take i ss) in
    let passed = more ss i c.loop-i-test.true ∙ ap (λ s. before ++ (symbol_view s ∷ [])) c.in-Some.is in
    let none = ap (λ s. holder_of (symbol_view s) before) c.in-Some.is ∙ c.loop-i.invariant.0 k c.if-symbol-least.false in (
      subst (λ b. EndBelow c.in-Some-checked_add.next b) (sym passed) (subst (λ n. EndBelow n (before ++ (symbol_view (Some c.in-Some.symbol) ∷ []))) (sym c.in-Some-checked_add.ensures.1) (end-behind c.loop-i.least k before c.loop-i.invariant.0 c.if-symbol-least.false)),
      sym (new-at ss i c.loop-i-test.true none) ∙ c.loop-i.invariant.1,
    )
