-- Statuses that stand in a list.
use Rattle.std.proofs.Common.{◌≡◌, ℕ, List, Bool, true, false, refl, sym, ap, ◌∙◌, subst}
use Rattle.std.specs.Prelude.{◌==◌, not}
use Rattle.std.specs.List.{list_any, list_all}
use Rattle.std.proofs.lemmas.Bool.{true≢false, eqb-true, eq-eqb}
use Rattle.std.proofs.lemmas.List.Folds.{Any-from_list_any, list_any-from_Any, list_all_at}
use Rattle.dwc_cli.specs.RunStatus.{IsOneOf}

-- whether a status stands in a list
abbrev pub is_one_of : List ℕ → ℕ → Bool
is_one_of statuses status = list_any (λ s. s == status) statuses

pub is_one_of-from : (statuses : List ℕ) (status : ℕ) → IsOneOf statuses status → is_one_of statuses status ≡ true
is_one_of-from statuses status h = list_any-from_Any (λ s. s == status) statuses (h.0, h.1, h.2, h.3, eq-eqb h.1 status h.4)

pub IsOneOf-from : (statuses : List ℕ) (status : ℕ) → is_one_of statuses status ≡ true → IsOneOf statuses status
IsOneOf-from statuses status h = let a = Any-from_list_any (λ s. s == status) statuses h in (a.0, a.1, a.2, a.3, eqb-true a.1 status a.4)

-- a longer list
pub IsOneOf-more : (fewer more : List ℕ) (status : ℕ) → list_all (is_one_of more) fewer ≡ true → IsOneOf fewer status → IsOneOf more status
IsOneOf-more fewer more status all h = IsOneOf-from more status (subst (λ s. is_one_of more s ≡ true) h.4 (go (is_one_of more h.1) refl))
  where
    go : (b : Bool) → is_one_of more h.1 ≡ b → is_one_of more h.1 ≡ true
    go true e = e
    go false e = absurd (true≢false (sym all ∙ list_all_at (is_one_of more) fewer h.0 h.1 h.2 (ap (is_one_of more) h.3 ∙ e)))

-- a status that does not stand in a list
pub IsOneOf-other : (statuses : List ℕ) (status other : ℕ) → IsOneOf statuses status → is_one_of statuses other ≡ false → status ≡ other → ⊥
IsOneOf-other statuses status other h not_there same = true≢false (sym (is_one_of-from statuses status h) ∙ ap (is_one_of statuses) same ∙ not_there)

-- a status does not stand in two lists that have none in common
pub IsOneOf-apart : (fewer others : List ℕ) (status : ℕ) → list_all (λ s. not (is_one_of others s)) fewer ≡ true → IsOneOf fewer status → IsOneOf others status → ⊥
IsOneOf-apart fewer others status apart one other =
    let there : is_one_of others one.1 ≡ true = ap (is_one_of others) one.4 ∙ is_one_of-from others status other in
    go (is_one_of others one.1) refl there
  where
    go : (b : Bool) → is_one_of others one.1 ≡ b → is_one_of others one.1 ≡ true → ⊥
    go true e there = true≢false (sym apart ∙ list_all_at (λ s. not (is_one_of others s)) fewer one.0 one.1 one.2 (ap (λ s. not (is_one_of others s)) one.3 ∙ ap not e))
    go false e there = true≢false (sym there ∙ e)
