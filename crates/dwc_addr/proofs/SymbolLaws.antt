-- Functions that have one symbol, found with a map from symbols to numbers.
use Rattle.std.proofs.Common.{◌≡◌, ℕ, suc, ne_eqb, ◌+◌, ◌<◌, ◌≤◌, refl, sym, ap, ◌∙◌, arith, rules, List, [], ◌∷◌, ◌++◌, map, length, take, drop, get_or, Bool, true, false, Option, Some, None, nat_cmp}
use Rattle.std.specs.Prelude.{cond, if◌then◌else◌, option_map, ◌==◌, is_some, Ok}
use Rattle.std.specs.Option.{option_or}
use Rattle.std.specs.Ordering.{is_eq}
use Rattle.std.proofs.lemmas.List.{take_more, at_drop_more, map-append, length-map, length-take}
use Rattle.dwc_base.specs.declared.records.SymbolId.{SymbolId}
use Rattle.dwc_native.specs.SharedSymbols.{has_symbol, holder, holder_of, shared_behind}
use Rattle.std.specs.BTreeMap.{BTreeMap, get}
use Rattle.dwc_addr.specs.Numbers.{symbol_view}
use Rattle.dwc_addr.specs.SymbolIndexes.{IsIndex, Notes}

-- the first function with a symbol, of some functions and one behind them that has a symbol
pub holder-push : (q k : ℕ) (before : List (Option ℕ)) → holder q (before ++ (Some k ∷ [])) ≡ option_or (holder q before) (if k == q then Some (length before) else None)
holder-push q k [] = one (k == q)
  where
    one : (e : Bool) → ◌≡◌ {A = Option ℕ} (if e then Some 0 else None) (if e then Some 0 else None)
    one e = refl
holder-push q k (s ∷ before) = rw (holder-push q k before) (go (has_symbol q s) (holder q before) (k == q))
  where
    go : (b : Bool) (o : Option ℕ) (e : Bool) → ◌≡◌ {A = Option ℕ} (if b then Some 0 else option_map suc (option_or o (if e then Some (length before) else None))) (option_or (if b then Some 0 else option_map suc o) (if e then Some (suc (length before)) else None))
    go true o e = refl
    go false None true = refl
    go false None false = refl
    go false (Some n) e = refl

-- and of one that has none
pub holder-pass : (q : ℕ) (before : List (Option ℕ)) → holder q (before ++ (None ∷ [])) ≡ holder q before
holder-pass q [] = refl
holder-pass q (s ∷ before) = rw (holder-pass q before) refl

-- a symbol that none before has
pub holder-new : (q k : ℕ) (before : List (Option ℕ)) → holder k before ≡ None → holder q (before ++ (Some k ∷ [])) ≡ cond (is_eq (nat_cmp k q)) (Some (length before)) (holder q before)
holder-new q k before none = rw (holder-push q k before) (grind (rules, none))

-- the symbols up to one behind
pub more : (ss : List (Option SymbolId)) (i : ℕ) → i < length ss → map symbol_view (take (i + 1) ss) ≡ map symbol_view (take i ss) ++ (symbol_view (get_or ss i None) ∷ [])
more ss i inside = ap (map symbol_view) (take_more ss i None inside) ∙ map-append symbol_view (take i ss) (get_or ss i None ∷ [])

pub count : (ss : List (Option SymbolId)) (i : ℕ) → i < length ss → length (map symbol_view (take i ss)) ≡ i
count ss i inside = length-map (take i ss) symbol_view ∙ length-take i ss ∙ omega (arith, inside)

-- the functions from one on: its symbol came before, or those behind it decide
pub step : (ss : List (Option SymbolId)) (i : ℕ) → i < length ss
    → shared_behind (map symbol_view (take i ss)) (map symbol_view (drop i ss))
    ≡ option_or (option_map (λ first. (first, i)) (holder_of (symbol_view (get_or ss i None)) (map symbol_view (take i ss)))) (shared_behind (map symbol_view (take (i + 1) ss)) (map symbol_view (drop (i + 1) ss)))
step ss i inside = rw (at_drop_more (λ rest. shared_behind (map symbol_view (take i ss)) (map symbol_view rest)) ss i None inside, count ss i inside, more ss i inside) refl

-- the index of functions and one behind them, whose symbol none of them has
pub index-new : (before : List (Option ℕ)) (k : ℕ) (m n : BTreeMap ℕ ℕ) → IsIndex before m → get nat_cmp m k ≡ None
    → ((q : ℕ) → get nat_cmp n q ≡ cond (is_eq (nat_cmp k q)) (Some (length before)) (get nat_cmp m q)) → IsIndex (before ++ (Some k ∷ [])) n
index-new before k m n index none updates = λ q. updates q ∙ ap (cond (is_eq (nat_cmp k q)) (Some (length before))) (index q) ∙ sym (holder-new q k before (sym (index k) ∙ none))

-- what is noted of a symbol that none has
pub notes-new : (E : Type 0) (o : Option ℕ) (before : List (Option ℕ)) (k number : ℕ) (m n : BTreeMap ℕ ℕ) → is_some o ≡ false → o ≡ get nat_cmp m k → IsIndex before m → length before ≡ number
    → ((q : ℕ) → get nat_cmp n q ≡ cond (is_eq (nat_cmp k q)) (Some number) (get nat_cmp m q)) → Notes {E = E} before (Some k) n (Ok o)
notes-new E None before k number m n h found index len updates =
    (sym (index k) ∙ sym found, index-new before k m n index (sym found) (λ q. updates q ∙ ap (λ x. cond (is_eq (nat_cmp k q)) (Some x) (get nat_cmp m q)) (sym len)))
notes-new E (Some x) before k number m n h found index len updates = absurd (cc)

-- the next function decides where its symbol came before, and else those behind it
pub found-at : (ss : List (Option SymbolId)) (i first : ℕ) → i < length ss → holder_of (symbol_view (get_or ss i None)) (map symbol_view (take i ss)) ≡ Some first
    → shared_behind (map symbol_view (take i ss)) (map symbol_view (drop i ss)) ≡ Some (first, i)
found-at ss i first inside found = rw (step ss i inside, found) refl

pub new-at : (ss : List (Option SymbolId)) (i : ℕ) → i < length ss → holder_of (symbol_view (get_or ss i None)) (map symbol_view (take i ss)) ≡ None
    → shared_behind (map symbol_view (take i ss)) (map symbol_view (drop i ss)) ≡ shared_behind (map symbol_view (take (i + 1) ss)) (map symbol_view (drop (i + 1) ss))
new-at ss i inside none = rw (step ss i inside, none) refl

-- none of some functions has a symbol that is a number or a greater
abbrev pub EndBelow : ℕ → List (Option ℕ) → Type 0
EndBelow least before = (q : ℕ) → least ≤ q → holder q before ≡ None

-- nor has one of them or a further one whose symbol is such, from behind that on
pub end-behind : (least k : ℕ) (before : List (Option ℕ)) → EndBelow least before → least ≤ k → EndBelow (k + 1) (before ++ (Some k ∷ []))
end-behind least k before below reached = λ q more. rw (holder-push q k before, below q (omega (arith, reached, more)), ne_eqb k q (λ same. absurd (omega (arith, same, more)))) refl

pub end-pass : (least : ℕ) (before : List (Option ℕ)) → EndBelow least before → EndBelow least (before ++ (None ∷ []))
end-pass least before below = λ q more. holder-pass q before ∙ below q more
