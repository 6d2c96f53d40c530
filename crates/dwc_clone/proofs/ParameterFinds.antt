-- Where an entry stands in a walk, and which parameter of its parent is the first, where the entries before it are read backward.
use Rattle.std.proofs.Common.{◌≡◌, ◌⊎◌, ℕ, suc, ◌<◌, ◌≤◌, Bool, true, false, cond, List, [], ◌∷◌, ◌++◌, refl, ap, sym, subst, ◌∙◌, arith, inl, inr}
use Rattle.std.specs.Prelude.{◌==◌, ◌&&◌, not, if◌then◌else◌, get_or, drop, unwrap_or, Option, Some, None}
use Rattle.std.specs.List.{filter, find}
use Rattle.std.proofs.lemmas.Bool.{and_parts, eq-eqb, eqb-true, ne_eqb}
use Rattle.dwc_base.specs.declared.constants.TheConstants.{DW_TAG_formal_parameter}
use Rattle.dwc_dwarf.specs.Entries.{Entry}
use Rattle.dwc_rules.specs.Kept.{Placed, is_parent, parent_of, same_place}
use Rattle.dwc_rules.specs.ObjectPointers.{first_parameter, is_that}
use Rattle.dwc_base.specs.Listing.{first_of}
use Rattle.dwc_rules.specs.Scopes.{Rises}
use Rattle.dwc_base.proofs.InLists.{IsIn, in-filter}
use Rattle.dwc_rules.proofs.StackWalks.{Falls, low_after, nearest_above, unwind}
use Rattle.dwc_source.specs.declared.source.CloneSource.{CloneSource}
use Rattle.dwc_clone.specs.ClonedUnits.{placed_in}
use Rattle.dwc_clone.specs.ParameterContexts.{Contexts, with_context, with_contexts}
use Rattle.dwc_clone.proofs.BackwardWalks.{falls, falls-below, parent-is}
use Rattle.dwc_clone.proofs.ParameterWalks.{is_met, is_parameter, met_above, stack_behind}

-- ---- where an entry stands

-- An entry of a walk, with the entries before it read backward, and the stack behind those that are walked.
pub record Stands (c : CloneSource) (test : Placed → Bool) (all : List Placed) (e : Placed) (stack : Contexts) : Type 0 where
  pub before : List Placed
  pub others : List Placed
  pub at : all ≡ unwind before (e ∷ others)
  pub is : stack ≡ stack_behind c test before

module _ (c : CloneSource) (test : Placed → Bool) (all : List Placed) (unit : ℕ) (e : Entry) (others : List Entry) where
  abbrev placed : Entry → Placed
  placed x = record { unit = unit; entry = x }

  ends : (es : List Entry) → [] ≡ placed_in unit (es ++ e ∷ others) → ⊥
  ends [] h = cc
  ends (x ∷ es) h = cc

  stands-from : (rs zs : List Placed) (es : List Entry) → all ≡ unwind rs zs → filter test zs ≡ placed_in unit (es ++ e ∷ others) → Stands c test all (placed e) (with_contexts c es (stack_behind c test rs))
  stands-from rs [] es at is = absurd (ends es is)
  stands-from rs (z ∷ zs) es at is = go (test z) refl es is (λ fs h. stands-from (z ∷ rs) zs fs at h)
    where
      Stand : Contexts → Type 0
      Stand stack = Stands c test all (placed e) stack

      go : (t : Bool) → test z ≡ t → (es : List Entry) → cond t (z ∷ filter test zs) (filter test zs) ≡ placed_in unit (es ++ e ∷ others)
          → ((fs : List Entry) → filter test zs ≡ placed_in unit (fs ++ e ∷ others) → Stand (with_contexts c fs (stack_behind c test (z ∷ rs)))) → Stand (with_contexts c es (stack_behind c test rs))
      go true pass [] h more =
          let same : z ≡ placed e = ap (λ (ps : List Placed). get_or ps 0 z) h in
          record { before = rs; others = zs; at = at ∙ ap (λ y. unwind rs (y ∷ zs)) same; is = refl }
      go true pass (x ∷ es) h more =
          let same : z.entry ≡ x = ap (λ (ps : List Placed). (get_or ps 0 z).entry) h in
          let rest : filter test zs ≡ placed_in unit (es ++ e ∷ others) = ap (λ (ps : List Placed). drop 1 ps) h in
          subst (λ stack. Stand (with_contexts c es stack)) (ap (λ t. if t then with_context c z.entry (stack_behind c test rs) else stack_behind c test rs) pass ∙ ap (λ y. with_context c y (stack_behind c test rs)) same) (more es rest)
      go false pass es h more =
          subst (λ stack. Stand (with_contexts c es stack)) (ap (λ t. if t then with_context c z.entry (stack_behind c test rs) else stack_behind c test rs) pass) (more es h)

  -- an entry of a walk does
  pub stands : (es : List Entry) → filter test all ≡ placed_in unit (es ++ e ∷ others) → Stands c test all (placed e) (with_contexts c es [])
  stands es is = stands-from [] all es refl is

-- an entry of a list has others before it
record IsAt (all : List Placed) (g : Placed) : Type 0 where
  pub before : List Placed
  pub others : List Placed
  pub at : all ≡ unwind before (g ∷ others)

is-at : (all rs zs : List Placed) (g : Placed) → all ≡ unwind rs zs → IsIn g zs → IsAt all g
is-at all rs [] g at i = absurd i
is-at all rs (z ∷ zs) g at (inl same) = record { before = rs; others = zs; at = at ∙ ap (λ y. unwind rs (y ∷ zs)) (sym same) }
is-at all rs (z ∷ zs) g at (inr i) = is-at all (z ∷ rs) zs g at i

-- one of those before is one of all
in-unwind : (rs zs : List Placed) (g : Placed) → IsIn g zs → IsIn g (unwind rs zs)
in-unwind [] zs g i = i
in-unwind (r ∷ rs) zs g i = in-unwind rs (r ∷ zs) g (inr i)

pub before-in : (rs zs : List Placed) (g : Placed) → IsIn g rs → IsIn g (unwind rs zs)
before-in [] zs g i = absurd i
before-in (r ∷ rs) zs g (inl same) = in-unwind rs (r ∷ zs) g (inl same)
before-in (r ∷ rs) zs g (inr i) = before-in rs (r ∷ zs) g i

-- entries at one offset are one
rises-above : (low : ℕ) (ps : List Placed) (g : Placed) → Rises low ps → IsIn g ps → low ≤ g.entry.offset
rises-above low [] g h i = absurd i
rises-above low (p ∷ ps) g h (inl same) = let at : g.entry.offset ≡ p.entry.offset = ap (λ (x : Placed). x.entry.offset) same in omega (arith, at, h.0)
rises-above low (p ∷ ps) g h (inr i) = omega (arith, h.0, rises-above (suc p.entry.offset) ps g h.1 i)

pub rises-same : (low : ℕ) (ps : List Placed) (f g : Placed) → Rises low ps → IsIn f ps → IsIn g ps → f.entry.offset ≡ g.entry.offset → f ≡ g
rises-same low [] f g h i j at = absurd i
rises-same low (p ∷ ps) f g h (inl a) (inl b) at = a ∙ sym b
rises-same low (p ∷ ps) f g h (inl a) (inr j) at = let here : f.entry.offset ≡ p.entry.offset = ap (λ (x : Placed). x.entry.offset) a in absurd (omega (arith, here, at, rises-above (suc p.entry.offset) ps g h.1 j))
rises-same low (p ∷ ps) f g h (inr i) (inl b) at = let here : g.entry.offset ≡ p.entry.offset = ap (λ (x : Placed). x.entry.offset) b in absurd (omega (arith, here, at, rises-above (suc p.entry.offset) ps f h.1 i))
rises-same low (p ∷ ps) f g h (inr i) (inr j) at = rises-same (suc p.entry.offset) ps f g h.1 i j at

-- ---- parents

parent-none : (es : List Placed) (e p : Placed) → parent_of es e ≡ None → is_parent es e p ≡ false
parent-none es e p h = rw h refl

parent-some : (es : List Placed) (e p q : Placed) → parent_of es e ≡ Some q → is_parent es e p ≡ same_place p q
parent-some es e p q h = rw h refl

first-in : {A : Type 0} (xs : List A) (y : A) → first_of xs ≡ Some y → IsIn y xs
first-in [] y h = absurd (cc)
first-in (x ∷ xs) y h = inl (sym (ap (λ o. unwrap_or o x) h))

-- A parent stands before its child and is one less deep.
pub record IsAbove (all : List Placed) (g q : Placed) : Type 0 where
  pub among : IsIn q all
  pub before : q.entry.offset < g.entry.offset
  pub depth : suc q.entry.depth ≡ g.entry.depth

-- what is found nearest is among those before
pub near-in : (d : ℕ) (rs : List Placed) (q : Placed) → nearest_above d rs ≡ Some q → IsIn q rs × (suc q.entry.depth ≡ d)
near-in d rs q h =
    let found = in-filter (λ p. suc p.entry.depth == d) rs q (first-in (filter (λ p. suc p.entry.depth == d) rs) q h) in
    (found.0, eqb-true (suc q.entry.depth) d found.1)

module _ (all : List Placed) (rises : Rises 0 all) where
  pub above-at : (g q : Placed) (rs zs : List Placed) → all ≡ unwind rs (g ∷ zs) → parent_of all g ≡ Some q → IsAbove all g q
  above-at g q rs zs at parent =
      let near = near-in g.entry.depth rs q (sym (parent-is all rises g rs zs at) ∙ parent) in
      let fall = falls rs (g ∷ zs) (subst (Rises 0) at rises) in
      record { among = subst (IsIn q) (sym at) (before-in rs (g ∷ zs) q near.0); before = falls-below rs g.entry.offset fall.0 fall.1.0 q near.0; depth = near.1 }

  pub above-is : (g q : Placed) → IsIn g all → parent_of all g ≡ Some q → IsAbove all g q
  above-is g q i parent = let there = is-at all [] all g refl i in above-at g q there.before there.others there.at parent

  -- whose parent stands at the offset of an entry is a child of that
  pub parent-of : (g p : Placed) → IsIn g all → IsIn p all → is_parent all g p ≡ true → parent_of all g ≡ Some p
  parent-of g p i j h = go (parent_of all g) refl
    where
      go : (o : Option Placed) → parent_of all g ≡ o → parent_of all g ≡ Some p
      go None none = let other : is_parent all g p ≡ false = parent-none all g p none in absurd (cc)
      go (Some q) some =
          let same : p.entry.offset ≡ q.entry.offset = eqb-true p.entry.offset q.entry.offset (sym (parent-some all g p q some) ∙ h) in
          some ∙ ap (λ x. Some x) (sym (rises-same 0 all p q rises j (above-is g q i some).among same))

-- ---- the first parameter

-- What a test finds among entries is before one of them.
record IsFoundBefore (t : Placed → Bool) (rs : List Placed) (o : Option Placed) : Type 0 where
  found : Placed
  is : o ≡ Some found
  among : IsIn found rs
  passes : t found ≡ true

find-either : (t : Placed → Bool) (rs zs : List Placed) → IsFoundBefore t rs (find t (unwind rs zs)) ⊎ ((find t (unwind rs zs) ≡ find t zs) × ((x : Placed) → IsIn x rs → t x ≡ false))
find-either t [] zs = inr (refl, λ x i. absurd i)
find-either t (r ∷ rs) zs = go (find-either t rs (r ∷ zs))
  where
    Answer : Type 0
    Answer = IsFoundBefore t (r ∷ rs) (find t (unwind rs (r ∷ zs))) ⊎ ((find t (unwind rs (r ∷ zs)) ≡ find t zs) × ((x : Placed) → IsIn x (r ∷ rs) → t x ≡ false))

    go : IsFoundBefore t rs (find t (unwind rs (r ∷ zs))) ⊎ ((find t (unwind rs (r ∷ zs)) ≡ find t (r ∷ zs)) × ((x : Placed) → IsIn x rs → t x ≡ false)) → Answer
    go (inl f) = inl (record { found = f.found; is = f.is; among = inr f.among; passes = f.passes })
    go (inr h) = here (t r) refl h.0
      where
        here : (b : Bool) → t r ≡ b → find t (unwind rs (r ∷ zs)) ≡ cond b (Some r) (find t zs) → Answer
        here true pass is = inl (record { found = r; is = is; among = inl refl; passes = pass })
        here false fail is = inr (is, each)
          where
            each : (x : Placed) → IsIn x (r ∷ rs) → t x ≡ false
            each x (inl same) = ap t same ∙ fail
            each x (inr i) = h.1 x i

-- A parameter of a function is among entries.
record IsMet (all : List Placed) (p : Placed) (rs : List Placed) : Type 0 where
  found : Placed
  among : IsIn found rs
  parameter : is_parameter found.entry ≡ true
  parent : parent_of all found ≡ Some p

module _ (c : CloneSource) (test : Placed → Bool) (m : ℕ) (p : Placed) where
  -- one that stands behind its function is met
  met-there : (g : Placed) → test g ≡ true → is_parameter g.entry ≡ true → g.entry.depth ≡ suc m → p.entry.offset < g.entry.offset → (rs : List Placed) → Falls rs → nearest_above (suc m) rs ≡ Some p → IsIn g rs → met_above c test m rs ≡ true
  met-there g pass parameter depth later [] fall near i = absurd i
  met-there g pass parameter depth later (r ∷ rs) fall near i = go (suc r.entry.depth == suc m) refl near i (λ near j. met-there g pass parameter depth later rs fall.1 near j)
    where
      others : List Placed
      others = filter (λ p. suc p.entry.depth == suc m) rs

      step : (b : Bool) → met_above c test m rs ≡ true → (if b then true else met_above c test m rs) ≡ true
      step true h = refl
      step false h = h

      go : (b : Bool) → (suc r.entry.depth == suc m) ≡ b → first_of (cond b (r ∷ others) others) ≡ Some p → IsIn g (r ∷ rs) → (nearest_above (suc m) rs ≡ Some p → IsIn g rs → met_above c test m rs ≡ true) → (if b then false else (if is_met c test m r then true else met_above c test m rs)) ≡ true
      go true is near (inl same) more =
          let here : g.entry.depth ≡ r.entry.depth = ap (λ (x : Placed). x.entry.depth) same in
          absurd (omega (arith, here, depth, eqb-true (suc r.entry.depth) (suc m) is))
      go true is near (inr j) more =
          let this : r.entry.offset ≡ p.entry.offset = ap (λ (o : Option Placed). (unwrap_or o r).entry.offset) near in
          absurd (omega (arith, this, later, falls-below rs r.entry.offset fall.1 fall.0 g j))
      go false is near (inl same) more =
          let met : is_met c test m g ≡ true = ap (λ b. b && (is_parameter g.entry && (g.entry.depth == suc m))) pass ∙ (ap (λ b. b && (g.entry.depth == suc m)) parameter ∙ eq-eqb g.entry.depth (suc m) depth) in
          ap (λ b. if b then true else met_above c test m rs) (ap (is_met c test m) (sym same) ∙ met)
      go false is near (inr j) more = step (is_met c test m r) (more near j)

  -- and what is met is one
  met-is : (all : List Placed) (rises : Rises 0 all) (rs zs : List Placed) → all ≡ unwind rs zs → nearest_above (suc m) rs ≡ Some p → met_above c test m rs ≡ true → IsMet all p rs
  met-is all rises [] zs at near h = absurd (cc)
  met-is all rises (r ∷ rs) zs at near h = go (suc r.entry.depth == suc m) near h (λ near h. met-is all rises rs (r ∷ zs) at near h)
    where
      others : List Placed
      others = filter (λ p. suc p.entry.depth == suc m) rs

      later : IsMet all p rs → IsMet all p (r ∷ rs)
      later f = record { found = f.found; among = inr f.among; parameter = f.parameter; parent = f.parent }

      one : (t q d : Bool) → is_parameter r.entry ≡ q → (r.entry.depth == suc m) ≡ d → nearest_above (suc m) rs ≡ Some p → (if t && (q && d) then true else met_above c test m rs) ≡ true → (met_above c test m rs ≡ true → IsMet all p rs) → IsMet all p (r ∷ rs)
      one true true true parameter depth near h more =
          record { found = r; among = inl refl; parameter = parameter; parent = parent-is all rises r rs zs at ∙ (ap (λ d. nearest_above d rs) (eqb-true r.entry.depth (suc m) depth) ∙ near) }
      one true true false parameter depth near h more = later (more h)
      one true false d parameter depth near h more = later (more h)
      one false q d parameter depth near h more = later (more h)

      go : (b : Bool) → first_of (cond b (r ∷ others) others) ≡ Some p → (if b then false else (if is_met c test m r then true else met_above c test m rs)) ≡ true → (nearest_above (suc m) rs ≡ Some p → met_above c test m rs ≡ true → IsMet all p rs) → IsMet all p (r ∷ rs)
      go true near h more = absurd (cc)
      go false near h more = one (test r) (is_parameter r.entry) (r.entry.depth == suc m) refl refl near h (more near)

  module _ (all : List Placed) (rises : Rises 0 all) (e : Placed) (rs zs : List Placed) (at : all ≡ unwind rs (e ∷ zs)) (near : nearest_above (suc m) rs ≡ Some p) (kept : (g : Placed) → IsIn g all → is_parameter g.entry ≡ true → parent_of all g ≡ Some p → test g ≡ true) where
    abbrev is_child : Placed → Bool
    is_child f = (f.entry.tag == DW_TAG_formal_parameter) && is_parent all f p

    fall : Falls rs × Rises (low_after rs) (e ∷ zs)
    fall = falls rs (e ∷ zs) (subst (Rises 0) at rises)

    among : (g : Placed) → IsIn g rs → IsIn g all
    among g i = subst (IsIn g) (sym at) (before-in rs (e ∷ zs) g i)

    child : (f : Placed) → is_parameter f.entry ≡ true → parent_of all f ≡ Some p → is_child f ≡ true
    child f parameter parent = ap (λ b. b && is_parent all f p) parameter ∙ (parent-some all f p p parent ∙ eq-eqb p.entry.offset p.entry.offset refl)

    -- a parameter is the first of its parent exactly where none was met before
    pub first-is : is_parameter e.entry ≡ true → parent_of all e ≡ Some p → is_that e (first_parameter all p) ≡ not (met_above c test m rs)
    first-is parameter parent = go (find-either is_child rs (e ∷ zs))
      where
        first : find is_child all ≡ find is_child (unwind rs (e ∷ zs))
        first = ap (find is_child) at

        this : find is_child (e ∷ zs) ≡ Some e
        this = ap (λ b. cond b (Some e) (find is_child zs)) (child e parameter parent)

        none : (b : Bool) → met_above c test m rs ≡ b → ((x : Placed) → IsIn x rs → is_child x ≡ false) → true ≡ not b
        none true is fails =
            let met = met-is all rises rs (e ∷ zs) at near is in
            let pass : is_child met.found ≡ true = child met.found met.parameter met.parent in
            let fail : is_child met.found ≡ false = fails met.found met.among in
            absurd (cc)
        none false is fails = refl

        go : IsFoundBefore is_child rs (find is_child (unwind rs (e ∷ zs))) ⊎ ((find is_child (unwind rs (e ∷ zs)) ≡ find is_child (e ∷ zs)) × ((x : Placed) → IsIn x rs → is_child x ≡ false)) → is_that e (first_parameter all p) ≡ not (met_above c test m rs)
        go (inl f) =
            let parts = and_parts (is_parameter f.found.entry) (is_parent all f.found p) f.passes in
            let there = among f.found f.among in
            let function = among p (near-in (suc m) rs p near).0 in
            let its = parent-of all rises f.found p there function parts.1 in
            let above = above-is all rises f.found p there its in
            let depth : f.found.entry.depth ≡ suc m = omega (arith, above.depth, (near-in (suc m) rs p near).1) in
            let less = falls-below rs e.entry.offset fall.0 fall.1.0 f.found f.among in
            let met = met-there f.found (kept f.found there parts.0 its) parts.0 depth above.before rs fall.0 near f.among in
            ap (is_that e) (first ∙ f.is) ∙ (ne_eqb e.entry.offset f.found.entry.offset (λ same. absurd (omega (arith, same, less))) ∙ ap not (sym met))
        go (inr h) =
            ap (is_that e) (first ∙ (h.0 ∙ this))
            ∙ (eq-eqb e.entry.offset e.entry.offset refl ∙ (none (met_above c test m rs) refl h.1))
