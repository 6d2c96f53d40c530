use Rattle.std.proofs.Common.{◌≡◌, ◌∙◌, ◌+◌, ◌∷◌, sym, ap, map, arith, refl, subst, length}
use Rattle.dwc_compiled.specs.Gaps.{source_view, merged, AreGapsOf}
use Rattle.dwc_compiled.proofs.GapLaws.{gap-first, gap-taken, none-left, source-first, source-taken}
use Rattle.dwc_compiled.proofs.instruction_maps.Instructions.next_entry.Goals as goal

pub invariant_of-self : goal.invariant_of-self
invariant_of-self c =
    let i = c.self.inside in
    let es = map source_view i.sources.now in
    record { kept = gap-taken i.before c.in-Some.native es c.in-Some.later.now (subst (AreGapsOf i.before es) c.in-Some.ensures.first c.self.invariant.kept); few = c.self.invariant.few }

pub returns-in-Some : goal.returns-in-Some
returns-in-Some c =
    let i = c.self.inside in
    let es = map source_view i.sources.now in
    sym c.self.view_is ∙ ap (λ gs. merged gs i.before es) c.in-Some.ensures.first ∙ gap-first i.before c.in-Some.native es c.in-Some.later.now

pub returns-in_err-source : goal.returns-in_err-source
returns-in_err-source c =
    let i = c.self.inside in
    let none = c.in_default.ensures.none refl (map source_view i.sources.now) c.self.invariant.kept in
    let nothing = sym c.self.view_is ∙ none-left i.before i.gaps.now none i.sources.now c.in_err-source.ensures.cases in
    rw c.from_residual.ensures (nothing, nothing)

pub invariant_of-self-2 : goal.invariant_of-self-2
invariant_of-self-2 c =
    let i = c.self.inside in
    let s = c.in_ok-source.source.now in
    let ss = c.in_ok-source.later.now in
    let kept = subst (λ es. AreGapsOf i.before (map source_view es) i.gaps.now) c.in_ok-source.ensures.cases.0 c.self.invariant.kept in
    let none = c.in_default.ensures.none refl (map source_view (s ∷ ss)) kept in
    let all : length i.sources.now ≡ length ss + 1 = ap length c.in_ok-source.ensures.cases.0 ∙ omega arith in
    record { kept = source-taken i.before i.gaps.now none (source_view s) (map source_view ss) kept; few = omega (arith, all, c.self.invariant.few) }

pub returns : goal.returns
returns c =
    let i = c.self.inside in
    let s = c.in_ok-source.source.now in
    let ss = c.in_ok-source.later.now in
    let kept = subst (λ es. AreGapsOf i.before (map source_view es) i.gaps.now) c.in_ok-source.ensures.cases.0 c.self.invariant.kept in
    let none = c.in_default.ensures.none refl (map source_view (s ∷ ss)) kept in
    sym c.self.view_is ∙ ap (λ es. merged i.gaps.now i.before (map source_view es)) c.in_ok-source.ensures.cases.0 ∙ source-first i.before i.gaps.now none (source_view s) (map source_view ss)
