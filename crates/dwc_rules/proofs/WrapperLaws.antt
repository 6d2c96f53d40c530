-- Wrapped entries that are open while the entries of a unit are made one by one: what is made so far, and behind it what closes
-- them around what is made of the others, is what is made of all.
use Rattle.std.proofs.Common.{◌≡◌, ℕ, suc, ◌<◌, ◌≤◌, List, [], ◌∷◌, ◌++◌, Bool, true, false, Option, Some, None, Result, refl, ap, ap₂, sym, subst, ◌∙◌, arith, append_assoc}
use Rattle.std.specs.Prelude.{nat_lt, All, cond, if◌then◌else◌, option_map, option_to_list, flat_map}
use Rattle.std.proofs.lemmas.Bool.{lt-ltb, ltb-true, ltb-false, le-ltb}
use Rattle.std.proofs.lemmas.List.Elements.{All-head, All-tail, All-nil, All-cons}
use Rattle.std.proofs.lemmas.List.Sums.{take_while-cons}
use Rattle.dwc_rules.specs.Kept.{Placed}
use Rattle.dwc_dwarf.specs.Trees.{Location}
use Rattle.dwc_rules.specs.Drafts.{Draft}
use Rattle.dwc_rules.specs.Clones.{UnitSource}
use Rattle.dwc_native.specs.BuiltExpressions.{BuildRefusal}
use Rattle.dwc_rules.specs.LocationRules.{ExpressionSource}
use Rattle.dwc_rules.specs.ContextVariable.{context_over, context_pointer, context_variable, locations_or_none}
use Rattle.dwc_rules.specs.CarriedDrafts.{draft_told, entry_made}
use Rattle.dwc_rules.specs.Wrappers.{WrapperSource, is_wrapped, wrapper, wrapper_types, inner, outer, with_wrapper, entries_made, closing, types_closed, left_open, made_itself, open_behind, IsBelowOpen, BeginAt, StayInPlace}
use Rattle.dwc_rules.proofs.ForestLaws.{Each}

-- ---- the entries in front that lie below a depth, and those behind them

abbrev inner_or : Bool → ℕ → Draft → List Draft → List Draft
inner_or below depth d ds = cond below (d ∷ inner depth ds) []

pub inner-below : (depth : ℕ) (d : Draft) (ds : List Draft) → depth < d.depth → inner depth (d ∷ ds) ≡ d ∷ inner depth ds
inner-below depth d ds below = take_while-cons (λ x. nat_lt depth x.depth) d ds ∙ ap (λ b. inner_or b depth d ds) (lt-ltb depth d.depth below)

pub inner-none : (depth : ℕ) (d : Draft) (ds : List Draft) → d.depth ≤ depth → inner depth (d ∷ ds) ≡ []
inner-none depth d ds above = take_while-cons (λ x. nat_lt depth x.depth) d ds ∙ ap (λ b. inner_or b depth d ds) (le-ltb depth d.depth above)

pub outer-below : (depth : ℕ) (d : Draft) (ds : List Draft) → depth < d.depth → outer depth (d ∷ ds) ≡ outer depth ds
outer-below depth d ds below = rw (lt-ltb depth d.depth below) refl

pub outer-all : (depth : ℕ) (d : Draft) (ds : List Draft) → d.depth ≤ depth → outer depth (d ∷ ds) ≡ d ∷ ds
outer-all depth d ds above = rw (le-ltb depth d.depth above) refl

-- ---- what lies below all open wrappers is made in front

deeper : (stack : List Placed) (n m : ℕ) → IsBelowOpen stack n → n ≤ m → IsBelowOpen stack m
deeper [] n m below more = tt
deeper (e ∷ stack) n m below more = omega (arith, below, more)

module _ (s : WrapperSource) where
  closing-one : (stack : List Placed) (d : Draft) (ds : List Draft) → IsBelowOpen stack d.depth → closing s stack (d ∷ ds) ≡ d ∷ closing s stack ds
  closing-one [] d ds below = refl
  closing-one (e ∷ stack) d ds below =
      ap₂ (λ xs ys. xs ++ (wrapper_types s e ++ closing s stack ys)) (inner-below e.entry.depth d ds below) (outer-below e.entry.depth d ds below)

  pub closing-front : (stack : List Placed) (front ds : List Draft) → Each (λ d. IsBelowOpen stack d.depth) front → closing s stack (front ++ ds) ≡ front ++ closing s stack ds
  closing-front stack [] ds below = refl
  closing-front stack (d ∷ front) ds below = closing-one stack d (front ++ ds) below.0 ∙ ap (λ xs. d ∷ xs) (closing-front stack front ds below.1)

  -- where entries begin at or above the innermost open wrapper, it is closed in front of them
  closing-close : (e : Placed) (stack : List Placed) (depth : ℕ) (ds : List Draft) → BeginAt depth ds → depth ≤ e.entry.depth → closing s (e ∷ stack) ds ≡ wrapper_types s e ++ closing s stack ds
  closing-close e stack depth [] begin above = absurd begin
  closing-close e stack depth (d ∷ ds) begin above =
      let low : d.depth ≤ e.entry.depth = omega (arith, begin, above) in
      ap₂ (λ xs ys. xs ++ (wrapper_types s e ++ closing s stack ys)) (inner-none e.entry.depth d ds low) (outer-all e.entry.depth d ds low)

  -- ---- the parts of a wrapper

  wrapper-below : (stack : List Placed) (e : Placed) → IsBelowOpen stack e.entry.depth → Each (λ d. IsBelowOpen stack d.depth) (wrapper s e)
  wrapper-below stack e below =
      let one : IsBelowOpen stack (suc e.entry.depth) = deeper stack e.entry.depth (suc e.entry.depth) below (omega arith) in
      let two : IsBelowOpen stack (suc (suc e.entry.depth)) = deeper stack e.entry.depth (suc (suc e.entry.depth)) below (omega arith) in
      (below, (one, (one, (one, (two, (one, (two, (one, (two, tt)))))))))

  types-below : (stack : List Placed) (e : Placed) → IsBelowOpen stack e.entry.depth → Each (λ d. IsBelowOpen stack d.depth) (wrapper_types s e)
  types-below stack e below = (below, (below, (below, tt)))

  inner-all-below : (stack : List Placed) (depth : ℕ) (ds : List Draft) → IsBelowOpen stack depth → Each (λ d. IsBelowOpen stack d.depth) (inner depth ds)
  inner-all-below stack depth [] below = tt
  inner-all-below stack depth (d ∷ ds) below = go (nat_lt depth d.depth) refl (inner-all-below stack depth ds below)
    where
      go : (b : Bool) → nat_lt depth d.depth ≡ b → Each (λ x. IsBelowOpen stack x.depth) (inner depth ds) → Each (λ x. IsBelowOpen stack x.depth) (inner depth (d ∷ ds))
      go true is behind =
          let deep : depth < d.depth = ltb-true depth d.depth is in
          subst (Each (λ x. IsBelowOpen stack x.depth)) (sym (inner-below depth d ds deep)) (deeper stack depth d.depth below (omega (arith, deep)), behind)
      go false is behind = subst (Each (λ x. IsBelowOpen stack x.depth)) (sym (take_while-cons (λ x. nat_lt depth x.depth) d ds ∙ ap (λ b. inner_or b depth d ds) is)) tt

  -- A wrapper in front of entries is open while these are made.
  pub closing-wrapper : (stack : List Placed) (e : Placed) (ds : List Draft) → IsBelowOpen stack e.entry.depth → closing s stack (with_wrapper s e ds) ≡ wrapper s e ++ closing s (e ∷ stack) ds
  closing-wrapper stack e ds below =
      let inside = inner e.entry.depth ds in
      let outside = outer e.entry.depth ds in
      closing-front stack (wrapper s e) (inside ++ (wrapper_types s e ++ outside)) (wrapper-below stack e below)
      ∙ ap (λ xs. wrapper s e ++ xs) (closing-front stack inside (wrapper_types s e ++ outside) (inner-all-below stack e.entry.depth ds below)
      ∙ ap (λ xs. inside ++ xs) (closing-front stack (wrapper_types s e) outside (types-below stack e below)))

-- ---- what is made of a unit's kept entries, one after another

each-all : {A : Type 0} (P : A → Type 0) (Q : A → Type 0) → ((x : A) → P x → Q x) → (xs : List A) → All P xs → Each Q xs
each-all P Q step [] h = tt
each-all P Q step (x ∷ xs) h = (step x (All-head P x xs h), each-all P Q step xs (All-tail P x xs h))

module _ (s : WrapperSource) (clone : Placed → List Draft) (in_place : StayInPlace clone) where
  begins : (x : Placed) (xs : List Placed) → BeginAt x.entry.depth (entries_made s clone (x ∷ xs))
  unfolding entries_made
  begins x xs = go (is_wrapped s.output x) (clone x) (in_place.begin x)
    where
      go : (wrapped : Bool) (ds : List Draft) → BeginAt x.entry.depth ds → BeginAt x.entry.depth (elim wrapped [ true ↦ with_wrapper s x (entries_made s clone xs) | false ↦ ds ++ entries_made s clone xs ])
      go true ds begin = refl
      go false [] begin = absurd begin
      go false (d ∷ ds) begin = begin

  -- Where the next entry lies at or above the innermost wrapper that is open, this is closed.
  pub made-closes : (e : Placed) (stack : List Placed) (x : Placed) (xs : List Placed) → x.entry.depth ≤ e.entry.depth → closing s (e ∷ stack) (entries_made s clone (x ∷ xs)) ≡ wrapper_types s e ++ closing s stack (entries_made s clone (x ∷ xs))
  made-closes e stack x xs above = closing-close s e stack x.entry.depth (entries_made s clone (x ∷ xs)) (begins x xs) above

  -- Where it lies below all that are open and is not wrapped, what it becomes by itself stands there.
  pub made-plain : (stack : List Placed) (x : Placed) (xs : List Placed) → is_wrapped s.output x ≡ false → IsBelowOpen stack x.entry.depth → closing s stack (entries_made s clone (x ∷ xs)) ≡ clone x ++ closing s stack (entries_made s clone xs)
  unfolding entries_made
  made-plain stack x xs plain below =
      let split : entries_made s clone (x ∷ xs) ≡ clone x ++ entries_made s clone xs = rw (plain, entries_made) refl in
      ap (closing s stack) split
      ∙ closing-front s stack (clone x) (entries_made s clone xs) (each-all (λ d. x.entry.depth ≤ d.depth) (λ d. IsBelowOpen stack d.depth) (λ d more. deeper stack x.entry.depth d.depth below more) (clone x) (in_place.within x))

  -- Where it is wrapped, its wrapper stands there and is open.
  pub made-wrapped : (stack : List Placed) (x : Placed) (xs : List Placed) → is_wrapped s.output x ≡ true → IsBelowOpen stack x.entry.depth → closing s stack (entries_made s clone (x ∷ xs)) ≡ wrapper s x ++ closing s (x ∷ stack) (entries_made s clone xs)
  unfolding entries_made
  made-wrapped stack x xs wrapped below =
      let split : entries_made s clone (x ∷ xs) ≡ with_wrapper s x (entries_made s clone xs) = rw (wrapped, entries_made) refl in
      ap (closing s stack) split ∙ closing-wrapper s stack x (entries_made s clone xs) below

  made-below : (stack : List Placed) (x : Placed) (xs : List Placed) → IsBelowOpen stack x.entry.depth → closing s stack (entries_made s clone (x ∷ xs)) ≡ made_itself s clone x ++ closing s (open_behind s.output x stack) (entries_made s clone xs)
  made-below stack x xs below = go (is_wrapped s.output x) refl
    where
      go : (b : Bool) → is_wrapped s.output x ≡ b → closing s stack (entries_made s clone (x ∷ xs)) ≡ (if b then wrapper s x else clone x) ++ closing s (if b then x ∷ stack else stack) (entries_made s clone xs)
      go true is = made-wrapped stack x xs is below
      go false is = made-plain stack x xs is below

  -- One entry after another: in front of each those are closed that it does not lie in; then it is made itself.
  pub made-next : (stack : List Placed) (x : Placed) (xs : List Placed) → closing s stack (entries_made s clone (x ∷ xs)) ≡ types_closed s x.entry.depth stack ++ (made_itself s clone x ++ closing s (open_behind s.output x (left_open x.entry.depth stack)) (entries_made s clone xs))
  made-next [] x xs = made-below [] x xs tt
  made-next (e ∷ stack) x xs = go (nat_lt e.entry.depth x.entry.depth) refl (made-next stack x xs)
    where
      rest : List Placed → List Draft
      rest left = made_itself s clone x ++ closing s (open_behind s.output x left) (entries_made s clone xs)

      go : (b : Bool) → nat_lt e.entry.depth x.entry.depth ≡ b → closing s stack (entries_made s clone (x ∷ xs)) ≡ types_closed s x.entry.depth stack ++ rest (left_open x.entry.depth stack)
          → closing s (e ∷ stack) (entries_made s clone (x ∷ xs)) ≡ (if b then [] else wrapper_types s e ++ types_closed s x.entry.depth stack) ++ rest (if b then e ∷ stack else left_open x.entry.depth stack)
      go true is others = made-below (e ∷ stack) x xs (ltb-true e.entry.depth x.entry.depth is)
      go false is others =
          made-closes e stack x xs (ltb-false e.entry.depth x.entry.depth is)
          ∙ ap (λ ds. wrapper_types s e ++ ds) others
          ∙ sym (append_assoc (wrapper_types s e) (types_closed s x.entry.depth stack) (rest (left_open x.entry.depth stack)))

-- At the end all that are open are closed, one after another.
pub closing-end : (s : WrapperSource) (e : Placed) (stack : List Placed) → closing s (e ∷ stack) [] ≡ wrapper_types s e ++ closing s stack []
closing-end s e stack = refl

pub closing-all : (s : WrapperSource) (stack : List Placed) → closing s stack [] ≡ flat_map (wrapper_types s) stack
closing-all s [] = refl
closing-all s (e ∷ stack) = ap (λ ds. wrapper_types s e ++ ds) (closing-all s stack)

-- ---- carried units

-- The entries of a carried unit become ones in their places.
pub entries-in_place : (c : ExpressionSource) (s : UnitSource) (big_endian : Bool) → StayInPlace (entry_made c s big_endian)
entries-in_place c s big_endian = record { begin = λ e. refl; within = λ e. go e (draft_told c s big_endian e) refl (context_over c e) }
  where
    go : (e : Placed) (d : Draft) → d.depth ≡ e.entry.depth → (o : Option (Result (List Location) BuildRefusal))
        → All (λ x. e.entry.depth ≤ x.depth) (d ∷ option_to_list (option_map (λ located. context_variable (suc e.entry.depth) (context_pointer c) (locations_or_none located)) o))
    go e d same None = All-cons (λ x. e.entry.depth ≤ x.depth) d [] (omega (arith, same)) (All-nil (λ x. e.entry.depth ≤ x.depth))
    go e d same (Some located) =
        let v = context_variable (suc e.entry.depth) (context_pointer c) (locations_or_none located) in
        All-cons (λ x. e.entry.depth ≤ x.depth) d (v ∷ []) (omega (arith, same)) (All-cons (λ x. e.entry.depth ≤ x.depth) v [] (omega arith) (All-nil (λ x. e.entry.depth ≤ x.depth)))
