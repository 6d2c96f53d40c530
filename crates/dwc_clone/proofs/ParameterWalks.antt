-- What functions tell of their parameters, on a stack in a walk over some entries in file order, where the entries are read backward.
use Rattle.std.proofs.Common.{◌≡◌, ℕ, zero, suc, ◌<◌, ◌≤◌, ℤ, ◌≤ℤ◌, int_le, pos, Bool, true, false, cond, List, [], ◌∷◌, ◌++◌, refl, ap, sym, subst, ◌∙◌, arith}
use Rattle.std.specs.Prelude.{◌==◌, ◌&&◌, ◌-ℤ◌, if◌then◌else◌, option_map, Option, Some, None}
use Rattle.std.specs.List.{filter}
use Rattle.std.proofs.lemmas.Bool.{eqb-true, eqb-false, le-leb, lt-leb}
use Rattle.std.proofs.lemmas.Int.{ints}
use Rattle.dwc_base.specs.declared.constants.TheConstants.{DW_TAG_entry_point, DW_TAG_formal_parameter, DW_TAG_inlined_subroutine, DW_TAG_subprogram}
use Rattle.dwc_dwarf.specs.Entries.{Entry}
use Rattle.dwc_rules.specs.Kept.{Placed}
use Rattle.dwc_rules.specs.ObjectPointers.{has_parameters}
use Rattle.dwc_base.specs.Listing.{first_of}
use Rattle.dwc_rules.specs.Scopes.{left_for, top_at}
use Rattle.dwc_dwarf.specs.Values.{is_one_of}
use Rattle.dwc_rules.proofs.StackWalks.{StepsBack, deepest_after, nearest_above}
use Rattle.dwc_clone.specs.declared.object_pointer.SubprogramContext.{SubprogramContext}
use Rattle.dwc_source.specs.declared.source.CloneSource.{CloneSource}
use Rattle.dwc_source.specs.Sources.{placed_entry}
use Rattle.dwc_clone.specs.ParameterContexts.{Contexts, context_given, met, met_at, next_number, with_context}
use Rattle.dwc_clone.proofs.StackDepths.{left-again, left-lower, left-met, left-push-high, left-push-low, met-left, top-left, top-met, top-push}

abbrev pub is_parameter : Entry → Bool
is_parameter e = e.tag == DW_TAG_formal_parameter

-- a parameter has none itself
pub parameter-has-none : (p : Placed) → is_parameter p.entry ≡ true → has_parameters p ≡ false
parameter-has-none p is = ap (λ tag. is_one_of (DW_TAG_subprogram ∷ DW_TAG_inlined_subroutine ∷ DW_TAG_entry_point ∷ []) tag) (eqb-true p.entry.tag DW_TAG_formal_parameter is)

-- ---- one entry

module _ (c : CloneSource) (e : Entry) (stack : Contexts) where
  -- what a stack becomes, by what the entry is
  abbrev pub stack_by : Bool → Bool → Contexts
  stack_by parameter has =
      if parameter then met_at (pos e.depth -ℤ pos 1) (left_for (pos e.depth) stack)
      else (if has then left_for (pos e.depth) stack ++ (pos e.depth, context_given c e) ∷ [] else left_for (pos e.depth) stack)

  -- where it is no parameter
  pub with-other : (has : Bool) → is_parameter e ≡ false → has_parameters (placed_entry c e) ≡ has → with_context c e stack ≡ stack_by false has
  with-other has other is = ap (λ p. stack_by p (has_parameters (placed_entry c e))) other ∙ ap (stack_by false) is

  -- at the entry's own depth
  told-here : top_at (pos e.depth) (left_for (pos (suc e.depth)) (with_context c e stack)) ≡ (if has_parameters (placed_entry c e) then Some (context_given c e) else None)
  told-here = go (is_parameter e) (has_parameters (placed_entry c e)) refl refl
    where
      next : pos e.depth ≤ℤ pos (suc e.depth)
      next = omega (arith, ints)

      go : (p h : Bool) → is_parameter e ≡ p → has_parameters (placed_entry c e) ≡ h → top_at (pos e.depth) (left_for (pos (suc e.depth)) (stack_by p h)) ≡ (if h then Some (context_given c e) else None)
      go true true is has = let none : has_parameters (placed_entry c e) ≡ false = parameter-has-none (placed_entry c e) is in absurd (cc)
      go true false is has =
          ap (λ gs. top_at (pos e.depth) (left_for (pos (suc e.depth)) gs)) (sym (met-left (pos e.depth -ℤ pos 1) (pos e.depth) stack))
          ∙ (ap (top_at (pos e.depth)) (left-again (pos e.depth) (pos (suc e.depth)) (met_at (pos e.depth -ℤ pos 1) (left_for (pos e.depth) stack)) next)
          ∙ top-left (pos e.depth) (met_at (pos e.depth -ℤ pos 1) (left_for (pos e.depth) stack)))
      go false true is has = ap (top_at (pos e.depth)) (left-push-high (pos (suc e.depth)) (left_for (pos e.depth) stack) (pos e.depth, context_given c e) (lt-leb (suc e.depth) e.depth (omega arith))) ∙ top-push e.depth (left_for (pos e.depth) stack) (context_given c e)
      go false false is has = ap (top_at (pos e.depth)) (left-again (pos e.depth) (pos (suc e.depth)) stack next) ∙ top-left (pos e.depth) stack

  -- at a lower depth
  told-past : (m : ℕ) → m < e.depth → top_at (pos m) (left_for (pos (suc m)) (with_context c e stack)) ≡ (if is_parameter e && (e.depth == suc m) then option_map met (top_at (pos m) (left_for (pos (suc m)) stack)) else top_at (pos m) (left_for (pos (suc m)) stack))
  told-past m less = go (is_parameter e) (has_parameters (placed_entry c e)) (e.depth == suc m) refl
    where
      lower : left_for (pos (suc m)) (left_for (pos e.depth) stack) ≡ left_for (pos (suc m)) stack
      lower = left-lower (pos e.depth) (pos (suc m)) stack (omega (arith, ints, less))

      told : Option SubprogramContext
      told = top_at (pos m) (left_for (pos (suc m)) stack)

      go : (p h q : Bool) → (e.depth == suc m) ≡ q → top_at (pos m) (left_for (pos (suc m)) (stack_by p h)) ≡ (if p && q then option_map met told else told)
      go true h true is =
          let depth : e.depth ≡ suc m = eqb-true e.depth (suc m) is in
          let above : pos e.depth -ℤ pos 1 ≡ pos m = omega (arith, ints, depth) in
          ap (λ d. top_at (pos m) (left_for (pos (suc m)) (met_at d (left_for (pos e.depth) stack)))) above
          ∙ (ap (λ n. top_at (pos m) (left_for (pos (suc m)) (met_at (pos m) (left_for (pos n) stack)))) depth
          ∙ (ap (top_at (pos m)) (met-left (pos m) (pos (suc m)) stack) ∙ top-met (pos m) (left_for (pos (suc m)) stack)))
      go true h false is =
          let deep : pos (suc m) ≤ℤ (pos e.depth -ℤ pos 1) = omega (arith, ints, less, eqb-false e.depth (suc m) is) in
          ap (top_at (pos m)) (left-met (pos e.depth -ℤ pos 1) (pos (suc m)) (left_for (pos e.depth) stack) deep ∙ lower)
      go false true q is = ap (top_at (pos m)) (left-push-low (pos (suc m)) (left_for (pos e.depth) stack) (pos e.depth, context_given c e) (le-leb (suc m) e.depth less) ∙ lower)
      go false false q is = ap (top_at (pos m)) lower

  -- nothing is at depth 0 or above it
  told-none : left_for (pos 0) stack ≡ [] → left_for (pos 0) (with_context c e stack) ≡ []
  told-none none = go (is_parameter e) (has_parameters (placed_entry c e))
    where
      lower : left_for (pos 0) (left_for (pos e.depth) stack) ≡ []
      lower = left-lower (pos e.depth) (pos 0) stack (omega (arith, ints)) ∙ none

      parameter : (d : ℕ) → e.depth ≡ d → left_for (pos 0) (met_at (pos e.depth -ℤ pos 1) (left_for (pos e.depth) stack)) ≡ []
      parameter zero is = ap (λ n. left_for (pos 0) (met_at (pos n -ℤ pos 1) (left_for (pos n) stack))) is ∙ ap (λ gs. left_for (pos 0) (met_at (pos 0 -ℤ pos 1) gs)) none
      parameter (suc d) is = left-met (pos e.depth -ℤ pos 1) (pos 0) (left_for (pos e.depth) stack) (omega (arith, ints, is)) ∙ lower

      go : (p h : Bool) → left_for (pos 0) (stack_by p h) ≡ []
      go true h = parameter e.depth refl
      go false true = left-push-low (pos 0) (left_for (pos e.depth) stack) (pos e.depth, context_given c e) (le-leb 0 e.depth (omega arith)) ∙ lower
      go false false = lower

-- ---- entries, read backward

-- What an entry that has parameters tells of them, by whether one was met.
pub record TellsOf (c : CloneSource) (p : Placed) (before : Bool) (told : Option SubprogramContext) : Type 0 where
  pub context : SubprogramContext
  pub is : told ≡ Some context
  pub pointer : context.obj_ptr ≡ (context_given c p.entry).obj_ptr
  pub number : int_le (pos 0) context.param_num ≡ before

-- an entry without parameters tells nothing
abbrev pub TellsIf : CloneSource → Bool → Placed → Bool → Option SubprogramContext → Type 0
TellsIf c true p before told = TellsOf c p before told
TellsIf c false p before told = told ≡ None

abbrev pub Tells : CloneSource → Option Placed → Bool → Option SubprogramContext → Type 0
Tells c None before told = told ≡ None
Tells c (Some p) before told = TellsIf c (has_parameters p) p before told

next-met : (n : ℤ) → int_le (pos 0) (next_number n) ≡ true
next-met n = go (int_le (pos 0) n)
  where
    go : (b : Bool) → int_le (pos 0) (if b then pos 1 else pos 0) ≡ true
    go true = refl
    go false = refl

module _ (c : CloneSource) (test : Placed → Bool) where
  -- the stack behind those that pass a test
  abbrev pub stack_behind : List Placed → Contexts
  stack_behind [] = []
  stack_behind (r ∷ rs) = if test r then with_context c r.entry (stack_behind rs) else stack_behind rs

  pub none-behind : (rs : List Placed) → left_for (pos 0) (stack_behind rs) ≡ []
  none-behind [] = refl
  none-behind (r ∷ rs) = go (test r) (none-behind rs)
    where
      go : (t : Bool) → left_for (pos 0) (stack_behind rs) ≡ [] → left_for (pos 0) (if t then with_context c r.entry (stack_behind rs) else stack_behind rs) ≡ []
      go true none = told-none c r.entry (stack_behind rs) none
      go false none = none

  module _ (m : ℕ) where
    -- whether an entry is met as a parameter of one of a depth
    abbrev pub is_met : Placed → Bool
    is_met r = test r && (is_parameter r.entry && (r.entry.depth == suc m))

    -- whether one was met behind the last of the depth
    abbrev pub met_above : List Placed → Bool
    met_above [] = false
    met_above (r ∷ rs) = if suc r.entry.depth == suc m then false else (if is_met r then true else met_above rs)

    -- what the last of the depth tells
    abbrev pub told_above : List Placed → Option SubprogramContext
    told_above [] = None
    told_above (r ∷ rs) = if suc r.entry.depth == suc m then (if has_parameters r then Some (context_given c r.entry) else None) else (if is_met r then option_map met (told_above rs) else told_above rs)

    abbrev top : Contexts → Option SubprogramContext
    top gs = top_at (pos m) (left_for (pos (suc m)) gs)

    abbrev Passes : List Placed → Type 0
    Passes rs = (p : Placed) → nearest_above (suc m) rs ≡ Some p → test p ≡ true

    -- it is on top of the stack
    pub top-told : (rs : List Placed) → StepsBack rs → suc m ≤ deepest_after rs → ((p : Placed) → nearest_above (suc m) rs ≡ Some p → test p ≡ true) → top_at (pos m) (left_for (pos (suc m)) (stack_behind rs)) ≡ told_above rs
    top-told [] steps near passes = absurd (omega (arith, near))
    top-told (r ∷ rs) steps near passes = go (suc r.entry.depth == suc m) refl (test r) refl (top-told rs steps.1)
      where
        others : List Placed
        others = filter (λ p. suc p.entry.depth == suc m) rs

        found : (b : Bool) → (suc r.entry.depth == suc m) ≡ b → nearest_above (suc m) (r ∷ rs) ≡ first_of (cond b (r ∷ others) others)
        found b is = ap (λ b. first_of (cond b (r ∷ others) others)) is

        past : (t : Bool) → m < r.entry.depth → top (stack_behind rs) ≡ told_above rs → top (if t then with_context c r.entry (stack_behind rs) else stack_behind rs) ≡ (if t && (is_parameter r.entry && (r.entry.depth == suc m)) then option_map met (told_above rs) else told_above rs)
        past true deep same = told-past c r.entry (stack_behind rs) m deep ∙ ap (λ o. if is_parameter r.entry && (r.entry.depth == suc m) then option_map met o else o) same
        past false deep same = same

        go : (b : Bool) → (suc r.entry.depth == suc m) ≡ b → (t : Bool) → test r ≡ t → (suc m ≤ deepest_after rs → Passes rs → top (stack_behind rs) ≡ told_above rs)
            → top (if t then with_context c r.entry (stack_behind rs) else stack_behind rs) ≡ (if b then (if has_parameters r then Some (context_given c r.entry) else None) else (if t && (is_parameter r.entry && (r.entry.depth == suc m)) then option_map met (told_above rs) else told_above rs))
        go true is true kept more =
            let depth : r.entry.depth ≡ m = omega (arith, eqb-true (suc r.entry.depth) (suc m) is) in
            subst (λ n. top_at (pos n) (left_for (pos (suc n)) (with_context c r.entry (stack_behind rs))) ≡ (if has_parameters r then Some (context_given c r.entry) else None)) depth (told-here c r.entry (stack_behind rs))
        go true is false kept more = let pass : test r ≡ true = passes r (found true is) in absurd (cc)
        go false is t kept more =
            let deep : m < r.entry.depth = omega (arith, near, eqb-false (suc r.entry.depth) (suc m) is) in
            past t deep (more (omega (arith, deep, steps.0)) (λ p h. passes p (found false is ∙ h)))

    -- and is what that entry tells of its parameters
    pub tells-above : (rs : List Placed) → Tells c (nearest_above (suc m) rs) (met_above rs) (told_above rs)
    tells-above [] = refl
    tells-above (r ∷ rs) = go (suc r.entry.depth == suc m) (is_met r) (tells-above rs)
      where
        others : List Placed
        others = filter (λ p. suc p.entry.depth == suc m) rs

        here : (has : Bool) → TellsIf c has r false (if has then Some (context_given c r.entry) else None)
        here true = record { context = context_given c r.entry; is = refl; pointer = refl; number = refl }
        here false = refl

        one : (has : Bool) (p : Placed) (before : Bool) (told : Option SubprogramContext) → TellsIf c has p before told → TellsIf c has p true (option_map met told)
        one true p before told h = record { context = met h.context; is = ap (option_map met) h.is; pointer = h.pointer; number = next-met h.context.param_num }
        one false p before told h = ap (option_map met) h

        more : (o : Option Placed) (before : Bool) (told : Option SubprogramContext) → Tells c o before told → Tells c o true (option_map met told)
        more None before told h = ap (option_map met) h
        more (Some p) before told h = one (has_parameters p) p before told h

        go : (b t : Bool) → Tells c (nearest_above (suc m) rs) (met_above rs) (told_above rs)
            → Tells c (first_of (cond b (r ∷ others) others)) (if b then false else (if t then true else met_above rs)) (if b then (if has_parameters r then Some (context_given c r.entry) else None) else (if t then option_map met (told_above rs) else told_above rs))
        go true t h = here (has_parameters r)
        go false true h = more (nearest_above (suc m) rs) (met_above rs) (told_above rs) h
        go false false h = h
