-- The kept entries of a unit are at the depths of a tree, since each keeps its parent.
use Rattle.std.proofs.Common.{◌≡◌, ℕ, zero, suc, ◌+◌, ◌<◌, ◌≤◌, ◌⊎◌, List, [], ◌∷◌, ◌++◌, take, refl, ap, sym, subst, ◌∙◌, inl, inr, arith, append_assoc, append-nil, one-add, Bool, true, false, cond, Option, Some}
use Rattle.std.specs.Prelude.{◌==◌, ◌||◌, ◌&&◌, not}
use Rattle.std.specs.Option.{unwrap_or}
use Rattle.std.specs.List.{filter, take_while, prefix_len}
use Rattle.std.proofs.lemmas.Bool.{eq-eqb, ne_eqb, not_from_false, cases_eq}
use Rattle.std.proofs.lemmas.List.Elements.{filter-append}
use Rattle.dwc_base.specs.Wasm.{last_of}
use Rattle.dwc_dwarf.specs.Entries.{Entry}
use Rattle.dwc_rules.specs.Carried.{placed_entries}
use Rattle.dwc_dwarf.specs.ReadUnits.{Unit, root}
use Rattle.dwc_rules.specs.Kept.{Placed, same_place, parent_of, is_parent, refers_to, is_part_of, keeps}
use Rattle.dwc_rules.specs.KeptEntries.{has_place}
use Rattle.dwc_rules.specs.KeptModules.{KeptModule}
use Rattle.dwc_kept.specs.KeptUnits.{offsets_kept, stands_at, kept_of_unit, AreBelow, IsTree}
use Rattle.dwc_base.proofs.InLists.{IsIn, append-right}
use Rattle.dwc_kept.proofs.KeptOffsets.{filter-same}
use Rattle.dwc_kept.proofs.KeptDepths.{depths_of}
use Rattle.dwc_kept.proofs.KeptStanding.{placed_at, tree-of}
use Rattle.dwc_kept.proofs.KeptInUnits.{AreKept, Rising, rising-units, kept-at}

-- ---- lists

last-end : {A : Type 0} (xs : List A) (x : A) → last_of (xs ++ x ∷ []) ≡ Some x
last-end [] x = refl
last-end (y ∷ xs) x = ap (λ o. Some (unwrap_or o y)) (last-end xs x)

last-more : {A : Type 0} (t : A → Bool) (xs : List A) (x : A) → last_of (filter t (xs ++ x ∷ [])) ≡ cond (t x) (Some x) (last_of (filter t xs))
last-more {A} t xs x = ap last_of (filter-append t xs (x ∷ [])) ∙ go (t x)
  where
    go : (b : Bool) → last_of (filter t xs ++ cond {A = List A} b (x ∷ []) []) ≡ cond b (Some x) (last_of (filter t xs))
    go true = last-end (filter t xs) x
    go false = ap last_of (append-nil (filter t xs))

-- the first items up to one that a test refuses
front-is : {A : Type 0} (t : A → Bool) (before : List A) (x : A) (after : List A) → ((y : A) → IsIn y before → t y ≡ true) → t x ≡ false → take_while t (before ++ x ∷ after) ≡ before
front-is t [] x after pass stop = ap (λ b. take (cond b (1 + prefix_len t after) 0) (x ∷ after)) stop
front-is t (y ∷ before) x after pass stop =
    ap (λ b. take (cond b (1 + prefix_len t (before ++ x ∷ after)) 0) (y ∷ (before ++ x ∷ after))) (pass y (inl refl))
    ∙ ap (λ n. take n (y ∷ (before ++ x ∷ after))) (one-add (prefix_len t (before ++ x ∷ after)))
    ∙ ap (λ ys. y ∷ ys) (front-is t before x after (λ z i. pass z (inr i)) stop)

-- ---- parents

rising-from : (n : ℕ) (ps : List Placed) (p : Placed) → Rising n ps → IsIn p ps → n ≤ p.entry.offset
rising-from n [] p h i = absurd i
rising-from n (q ∷ ps) p h (inl e) = let same : p.entry.offset ≡ q.entry.offset = ap (λ (x : Placed). x.entry.offset) e in omega (arith, h.0, same)
rising-from n (q ∷ ps) p h (inr i) = omega (arith, h.0, rising-from (suc q.entry.offset) ps p h.1 i)

-- items in front of an entry stand at smaller offsets
rising-before : (n : ℕ) (before : List Placed) (q : Placed) (after : List Placed) (p : Placed) → Rising n (before ++ q ∷ after) → IsIn p before → p.entry.offset < q.entry.offset
rising-before n [] q after p h i = absurd i
rising-before n (x ∷ before) q after p h (inl e) =
    let same : p.entry.offset ≡ x.entry.offset = ap (λ (y : Placed). y.entry.offset) e in
    omega (arith, same, rising-from (suc x.entry.offset) (before ++ q ∷ after) q h.1 (append-right before (q ∷ after) q (inl refl)))
rising-before n (x ∷ before) q after p h (inr i) = rising-before (suc x.entry.offset) before q after p h.1 i

-- the last of some entries at a depth
abbrev last_at : ℕ → List Placed → Option Placed
last_at depth ps = last_of (filter (λ p. suc p.entry.depth == suc depth) ps)

last-new : (depth : ℕ) (ps : List Placed) (q : Placed) → q.entry.depth ≡ depth → last_at depth (ps ++ q ∷ []) ≡ Some q
last-new depth ps q e = last-more (λ p. suc p.entry.depth == suc depth) ps q ∙ ap (λ b. cond b (Some q) (last_at depth ps)) (eq-eqb (suc q.entry.depth) (suc depth) (ap suc e))

last-old : (depth : ℕ) (ps : List Placed) (q : Placed) → (q.entry.depth ≡ depth → ⊥) → last_at depth (ps ++ q ∷ []) ≡ last_at depth ps
last-old depth ps q d = last-more (λ p. suc p.entry.depth == suc depth) ps q ∙ ap (λ b. cond b (Some q) (last_at depth ps)) (ne_eqb (suc q.entry.depth) (suc depth) (λ e. d (omega (arith, e))))

parent-is : (n : ℕ) (before : List Placed) (q : Placed) (after : List Placed) (depth : ℕ) → Rising n (before ++ q ∷ after) → q.entry.depth ≡ suc depth → parent_of (before ++ q ∷ after) q ≡ last_at depth before
parent-is n before q after depth rise is =
    ap (λ ps. last_of (filter (λ p. suc p.entry.depth == q.entry.depth) ps))
    (front-is (λ p. not (same_place q p)) before q after (λ p i. not_from_false _ (ne_eqb q.entry.offset p.entry.offset (λ e. absurd (omega (arith, e, rising-before n before q after p rise i))))) (ap not (eq-eqb q.entry.offset q.entry.offset refl)))
    ∙ ap (λ d. last_of (filter (λ p. suc p.entry.depth == d) before)) is

is-parent : (es : List Placed) (e p : Placed) → parent_of es e ≡ Some p → is_parent es e p ≡ true
is-parent es e p h = rw h (eq-eqb p.entry.offset p.entry.offset refl)

keeps-parent : (es : List Placed) (e p : Placed) → is_parent es e p ≡ true → keeps es e p ≡ true
keeps-parent es e p h = ap (λ b. b || refers_to e p || (is_parent es p e && is_part_of e p)) h

-- ---- what is kept of a unit

module _ (m : KeptModule) (are : AreKept m) where
  abbrev is_kept : Placed → Bool
  is_kept p = has_place m.kept p.entry.offset

  rising : Rising 0 m.entries
  rising = subst (Rising 0) (sym are.entries) (rising-units 0 m.units are.stand)

  -- a kept entry keeps the last entry before it of depth one less
  parent-kept : (before : List Placed) (q : Placed) (after : List Placed) (depth : ℕ) (p : Placed) → before ++ q ∷ after ≡ m.entries → q.entry.depth ≡ suc depth → is_kept q ≡ true → last_at depth before ≡ Some p → IsIn p m.entries → is_kept p ≡ true
  parent-kept before q after depth p all is kept last i =
      are.closed q p (subst (IsIn q) all (append-right before (q ∷ after) q (inl refl))) i kept
      (keeps-parent m.entries q p (is-parent m.entries q p (ap (λ es. parent_of es q) (sym all) ∙ parent-is 0 before q after depth (subst (Rising 0) (sym all) rising) is ∙ last)))

  -- There is a last entry at each depth up to one, and where it is kept, something holds of its depth.
  record HasLasts (before : List Placed) (depth : ℕ) (R : ℕ → Type 0) : Type 0 where
    pub each : (d : ℕ) → d ≤ depth → (p : Placed) × (last_at d before ≡ Some p) × IsIn p m.entries × (is_kept p ≡ true → R d)

  lasts-more : (before : List Placed) (q : Placed) (after : List Placed) (depth : ℕ) (R S : ℕ → Type 0) → before ++ q ∷ after ≡ m.entries → HasLasts before depth R → q.entry.depth ≤ suc depth
      → (is_kept q ≡ true → S q.entry.depth) → ((d : ℕ) → d < q.entry.depth → R d → S d) → HasLasts (before ++ q ∷ []) q.entry.depth S
  lasts-more before q after depth R S all lasts le own others = record { each = λ d low. go d low (cases_eq q.entry.depth d) }
    where
      go : (d : ℕ) → d ≤ q.entry.depth → (q.entry.depth ≡ d) ⊎ (q.entry.depth ≡ d → ⊥) → (p : Placed) × (last_at d (before ++ q ∷ []) ≡ Some p) × IsIn p m.entries × (is_kept p ≡ true → S d)
      go d low (inl e) = (q, last-new d before q e, subst (IsIn q) all (append-right before (q ∷ after) q (inl refl)), λ k. subst S e (own k))
      go d low (inr differs) =
          let less : d < q.entry.depth = omega (arith, low, differs) in
          let found = lasts.each d (omega (arith, less, le)) in
          (found.0, last-old d before q differs ∙ found.1, found.2, λ k. others d less (found.3 k))

  module _ (n : ℕ) (rest : List Placed) where
    abbrev at_unit : Entry → Placed
    at_unit e = record { unit = n; entry = e }

    abbrev kept_among : List Entry → List Entry
    kept_among es = filter (λ e. has_place m.kept e.offset) es

    -- the parent of a kept entry below the root
    kept-above : (before : List Placed) (e : Entry) (es : List Entry) (depth : ℕ) (R : ℕ → Type 0) → before ++ at_unit e ∷ (placed_at n es ++ rest) ≡ m.entries → HasLasts before depth R → 0 < e.depth → e.depth ≤ suc depth → has_place m.kept e.offset ≡ true
        → (d : ℕ) × (e.depth ≡ suc d) × R d
    kept-above before e es depth R all lasts some le kept = go e.depth refl
      where
        go : (k : ℕ) → e.depth ≡ k → (d : ℕ) × (e.depth ≡ suc d) × R d
        go zero is = absurd (omega (arith, is, some))
        go (suc d) is =
            let found = lasts.each d (omega (arith, is, le)) in
            (d, is, found.3 (parent-kept before (at_unit e) (placed_at n es ++ rest) d found.0 all is kept found.1 found.2))

    -- none is kept below a root that is not
    none-below : (before : List Placed) (es : List Entry) (depth : ℕ) → before ++ (placed_at n es ++ rest) ≡ m.entries → HasLasts before depth (λ d. ⊥) → AreBelow depth (depths_of es) → kept_among es ≡ []
    none-below before [] depth all lasts h = refl
    none-below before (e ∷ es) depth all lasts h =
        go (has_place m.kept e.offset) refl (λ k. none-below (before ++ at_unit e ∷ []) es e.depth (append_assoc before (at_unit e ∷ []) (placed_at n es ++ rest) ∙ all) k h.2)
      where
        clash : true ≡ false → ⊥
        clash x = cc

        go : (b : Bool) → has_place m.kept e.offset ≡ b → (HasLasts (before ++ at_unit e ∷ []) e.depth (λ d. ⊥) → kept_among es ≡ []) → cond {A = List Entry} b (e ∷ kept_among es) (kept_among es) ≡ []
        go true is more = absurd ((kept-above before e es depth (λ d. ⊥) all lasts h.0 h.1 is).2)
        go false is more = more (lasts-more before (at_unit e) (placed_at n es ++ rest) depth (λ d. ⊥) (λ d. ⊥) all lasts h.1 (λ k. clash (sym k ∙ is)) (λ d less r. r))

    -- kept entries below a kept one
    kept-below : (before : List Placed) (es : List Entry) (depth last : ℕ) → before ++ (placed_at n es ++ rest) ≡ m.entries → HasLasts before depth (λ d. d ≤ last) → AreBelow depth (depths_of es) → AreBelow last (depths_of (kept_among es))
    kept-below before [] depth last all lasts h = tt
    kept-below before (e ∷ es) depth last all lasts h =
        go (has_place m.kept e.offset) refl (λ l k. kept-below (before ++ at_unit e ∷ []) es e.depth l (append_assoc before (at_unit e ∷ []) (placed_at n es ++ rest) ∙ all) k h.2)
      where
        clash : true ≡ false → ⊥
        clash x = cc

        go : (b : Bool) → has_place m.kept e.offset ≡ b → ((l : ℕ) → HasLasts (before ++ at_unit e ∷ []) e.depth (λ d. d ≤ l) → AreBelow l (depths_of (kept_among es)))
            → AreBelow last (depths_of (cond {A = List Entry} b (e ∷ kept_among es) (kept_among es)))
        go true is more =
            let above = kept-above before e es depth (λ d. d ≤ last) all lasts h.0 h.1 is in
            (h.0, omega (arith, above.1, above.2), more e.depth (lasts-more before (at_unit e) (placed_at n es ++ rest) depth (λ d. d ≤ last) (λ d. d ≤ e.depth) all lasts h.1 (λ k. omega arith) (λ d less r. omega (arith, less))))
        go false is more = more last (lasts-more before (at_unit e) (placed_at n es ++ rest) depth (λ d. d ≤ last) (λ d. d ≤ last) all lasts h.1 (λ k. absurd (clash (sym k ∙ is))) (λ d less r. r))

    -- the entries of a unit
    kept-tree : (before : List Placed) (es : List Entry) → before ++ (placed_at n es ++ rest) ≡ m.entries → IsTree (depths_of es) → IsTree (depths_of (kept_among es))
    kept-tree before [] all h = tt
    kept-tree before (e ∷ es) all h = go (has_place m.kept e.offset) refl
      where
        behind : (before ++ at_unit e ∷ []) ++ (placed_at n es ++ rest) ≡ m.entries
        behind = append_assoc before (at_unit e ∷ []) (placed_at n es ++ rest) ∙ all

        lasts : (R : ℕ → Type 0) → (has_place m.kept e.offset ≡ true → R 0) → HasLasts (before ++ at_unit e ∷ []) 0 R
        lasts R own = record { each = λ d low. let is : 0 ≡ d = omega (arith, low) in (at_unit e, last-new d before (at_unit e) (h.0 ∙ is), subst (IsIn (at_unit e)) all (append-right before (at_unit e ∷ (placed_at n es ++ rest)) (at_unit e) (inl refl)), λ k. subst R is (own k)) }

        clash : true ≡ false → ⊥
        clash x = cc

        go : (b : Bool) → has_place m.kept e.offset ≡ b → IsTree (depths_of (cond {A = List Entry} b (e ∷ kept_among es) (kept_among es)))
        go true is = (h.0, kept-below (before ++ at_unit e ∷ []) es 0 0 behind (lasts (λ d. d ≤ 0) (λ k. omega arith)) h.1)
        go false is = subst (λ xs. IsTree (depths_of xs)) (sym (none-below (before ++ at_unit e ∷ []) es 0 behind (lasts (λ d. ⊥) (λ k. clash (sym k ∙ is))) h.1)) tt

    -- the first kept entry is the first of all
    kept-first : (before : List Placed) (es : List Entry) → before ++ (placed_at n es ++ rest) ≡ m.entries → IsTree (depths_of es) → (first : Entry) (others : List Entry) → kept_among es ≡ first ∷ others → (more : List Entry) × (es ≡ first ∷ more)
    kept-first before [] all h first others is = absurd (cc)
    kept-first before (e ∷ es) all h first others is = go (has_place m.kept e.offset) refl is
      where
        behind : (before ++ at_unit e ∷ []) ++ (placed_at n es ++ rest) ≡ m.entries
        behind = append_assoc before (at_unit e ∷ []) (placed_at n es ++ rest) ∙ all

        lasts : (has_place m.kept e.offset ≡ true → ⊥) → HasLasts (before ++ at_unit e ∷ []) 0 (λ d. ⊥)
        lasts own = record { each = λ d low. let same : 0 ≡ d = omega (arith, low) in (at_unit e, last-new d before (at_unit e) (h.0 ∙ same), subst (IsIn (at_unit e)) all (append-right before (at_unit e ∷ (placed_at n es ++ rest)) (at_unit e) (inl refl)), own) }

        clash : true ≡ false → ⊥
        clash x = cc

        go : (b : Bool) → has_place m.kept e.offset ≡ b → cond {A = List Entry} b (e ∷ kept_among es) (kept_among es) ≡ first ∷ others → (more : List Entry) × (e ∷ es ≡ first ∷ more)
        go true at same = (es, ap (λ x. x ∷ es) (first-same e first (kept_among es) others same))
          where
            first-same : (x y : Entry) (xs ys : List Entry) → x ∷ xs ≡ y ∷ ys → x ≡ y
            first-same x y xs ys k = ap (λ (zs : List Entry). elim zs [ [] ↦ x | z ∷ rest ↦ z ]) k
        go false at same = absurd (no (sym (none-below (before ++ at_unit e ∷ []) es 0 behind (lasts (λ k. clash (sym k ∙ at))) h.1) ∙ same))
          where
            no : [] ≡ first ∷ others → ⊥
            no k = cc

  -- the entries of a unit stand in one piece among those of its module
  split-unit : (us : List Unit) (u : Unit) → IsIn u us → (before : List Placed) × (rest : List Placed) × (before ++ (placed_at u.header.offset u.entries ++ rest) ≡ placed_entries us)
  split-unit [] u i = absurd i
  split-unit (v ∷ vs) u (inl e) = ([], placed_entries vs, ap (λ w. placed_at w.header.offset w.entries ++ placed_entries vs) e)
  split-unit (v ∷ vs) u (inr i) =
      let found = split-unit vs u i in
      (placed_at v.header.offset v.entries ++ found.0, found.1, append_assoc (placed_at v.header.offset v.entries) found.0 (placed_at u.header.offset u.entries ++ found.1) ∙ ap (λ ps. placed_at v.header.offset v.entries ++ ps) found.2)

  kept-same : (u : Unit) → kept_of_unit (offsets_kept m) u ≡ kept_among u.header.offset [] u.entries
  kept-same u = filter-same (stands_at (offsets_kept m)) (λ e. has_place m.kept e.offset) u.entries (λ e j. kept-at m are e.offset)

  -- The kept entries of a unit make a tree.
  pub unit-kept : (u : Unit) → IsIn u m.units → IsTree (depths_of (kept_of_unit (offsets_kept m) u))
  unit-kept u i =
      let split = split-unit m.units u i in
      subst (λ es. IsTree (depths_of es)) (sym (kept-same u)) (kept-tree u.header.offset split.1 split.0 u.entries (split.2 ∙ sym are.entries) (tree-of 0 m.units u are.stand i))

  -- its root is the unit's
  pub root-kept : (u : Unit) → IsIn u m.units → (first : Entry) (others : List Entry) → kept_of_unit (offsets_kept m) u ≡ first ∷ others → root u ≡ Some first
  root-kept u i first others is =
      let split = split-unit m.units u i in
      let found = kept-first u.header.offset split.1 split.0 u.entries (split.2 ∙ sym are.entries) (tree-of 0 m.units u are.stand i) first others (sym (kept-same u) ∙ is) in
      ap (λ (es : List Entry). root (record { header = u.header; entries = es })) found.1
