-- The kept entries of a module are those that are kept with the required ones.
use Rattle.std.proofs.Common.{◌≡◌, ℕ, zero, suc, ◌^◌, ◌<◌, ◌⊎◌, ◌≢◌, List, [], ◌∷◌, ◌++◌, length, get_or, map, refl, ap, ap₂, sym, subst, ◌∙◌, inl, inr, arith, Bool, true, false, cond, All}
use Rattle.std.specs.Prelude.{AllPairs}
use Rattle.std.specs.List.{filter, flat_map}
use Rattle.std.proofs.lemmas.Bool.{cases_order}
use Rattle.std.proofs.lemmas.List.{length-map, length-append, get_or_default}
use Rattle.std.proofs.lemmas.List.Elements.{All-nil, All-cons, All-map}
use Rattle.dwc_base.specs.Sections.{Sections}
use Rattle.dwc_dwarf.specs.Entries.{Entry}
use Rattle.dwc_rules.specs.EntryRules.{is_required}
use Rattle.dwc_native.specs.Functions.{Function}
use Rattle.dwc_rules.specs.Carried.{placed_entries}
use Rattle.dwc_dwarf.specs.ReadUnits.{Unit}
use Rattle.dwc_rules.specs.Kept.{Placed}
use Rattle.dwc_rules.specs.KeptEntries.{has_place, kept_with}
use Rattle.dwc_rules.specs.KeptModules.{entries_passing}
use Rattle.dwc_kept.specs.EntryGraphs.{Node, SayWhich, AreKeptOffsets, marked_of}
use Rattle.dwc_kept.specs.ReadGraphs.{IsModuleGraph, offsets_kept_of, AreLeastOffsets}
use Rattle.dwc_base.proofs.InLists.{IsIn, in-at, contains-in, in-contains}
use Rattle.dwc_kept.proofs.KeptLaws.{place-in, in-place, are-least}
use Rattle.dwc_kept.proofs.MarkLaws.{same-truth}
use Rattle.dwc_kept.proofs.KeptOffsets.{offsets-are-kept}
use Rattle.dwc_kept.proofs.KeptInUnits.{passing-in}

-- ---- items that flags pick

pick : {A : Type 0} → List A → List Bool → List A
pick [] flags = []
pick (x ∷ xs) [] = []
pick {A} (x ∷ xs) (f ∷ flags) = cond {A = List A} f (x ∷ pick xs flags) (pick xs flags)

pick-append : {A : Type 0} (xs ys : List A) (fs gs : List Bool) → length fs ≡ length xs → pick (xs ++ ys) (fs ++ gs) ≡ pick xs fs ++ pick ys gs
unfolding pick
pick-append [] ys [] gs same = refl
pick-append [] ys (f ∷ fs) gs same = absurd (omega (arith, same))
pick-append (x ∷ xs) ys [] gs same = absurd (omega (arith, same))
pick-append {A} (x ∷ xs) ys (f ∷ fs) gs same = ap (λ zs. cond {A = List A} f (x ∷ zs) zs) (pick-append xs ys fs gs (omega (arith, same))) ∙ go f
  where
    go : (b : Bool) → cond {A = List A} b (x ∷ (pick xs fs ++ pick ys gs)) (pick xs fs ++ pick ys gs) ≡ cond {A = List A} b (x ∷ pick xs fs) (pick xs fs) ++ pick ys gs
    go true = refl
    go false = refl

pick-from : {A : Type 0} (xs : List A) (fs : List Bool) (x : A) → IsIn x (pick xs fs) → (j : ℕ) × (j < length xs) × (get_or xs j x ≡ x) × (get_or fs j false ≡ true)
unfolding pick
pick-from [] fs x i = absurd i
pick-from (y ∷ xs) [] x i = absurd i
pick-from {A} (y ∷ xs) (f ∷ fs) x i = go f refl i (λ k. pick-from xs fs x k)
  where
    go : (b : Bool) → f ≡ b → IsIn x (cond {A = List A} b (y ∷ pick xs fs) (pick xs fs)) → (IsIn x (pick xs fs) → (j : ℕ) × (j < length xs) × (get_or xs j x ≡ x) × (get_or fs j false ≡ true))
        → (j : ℕ) × (j < length (y ∷ xs)) × (get_or (y ∷ xs) j x ≡ x) × (get_or (f ∷ fs) j false ≡ true)
    go true is (inl e) rest = (0, omega arith, sym e, is)
    go true is (inr k) rest = let found = rest k in (suc found.0, omega (arith, found.1), found.2, found.3)
    go false is k rest = let found = rest k in (suc found.0, omega (arith, found.1), found.2, found.3)

at-pick : {A : Type 0} (xs : List A) (fs : List Bool) (i : ℕ) (d : A) → i < length xs → get_or fs i false ≡ true → IsIn (get_or xs i d) (pick xs fs)
unfolding pick
at-pick [] fs i d less is = absurd (omega (arith, less))
at-pick (x ∷ xs) [] i d less is = absurd (cc)
at-pick {A} (x ∷ xs) (f ∷ fs) zero d less is = subst (λ b. IsIn x (cond {A = List A} b (x ∷ pick xs fs) (pick xs fs))) (sym is) (inl refl)
at-pick {A} (x ∷ xs) (f ∷ fs) (suc i) d less is = go f (at-pick xs fs i d (omega (arith, less)) is)
  where
    go : (b : Bool) → IsIn (get_or xs i d) (pick xs fs) → IsIn (get_or xs i d) (cond {A = List A} b (x ∷ pick xs fs) (pick xs fs))
    go true k = inr k
    go false k = k

-- flags say which entries they pick
say-which : (es : List Placed) (flags : List Bool) → AllPairs (λ e f. e.entry.offset ≢ f.entry.offset) es → SayWhich es (pick es flags) flags
say-which es flags apart i d less = same-truth _ _ (λ h. in-place (pick es flags) (get_or es i d) _ (at-pick es flags i d less h) refl) there
  where
    there : has_place (pick es flags) (get_or es i d).entry.offset ≡ true → get_or flags i false ≡ true
    there h =
        let found = place-in (pick es flags) (get_or es i d).entry.offset h in
        let from = pick-from es flags found.0 found.1 in
        let at : get_or es from.0 d ≡ found.0 = get_or_default es from.0 d found.0 from.1 ∙ from.2 in
        go from.0 from.1 (ap (λ (p : Placed). p.entry.offset) at ∙ found.2) from.3 (cases_order from.0 i)
      where
        go : (j : ℕ) → j < length es → (get_or es j d).entry.offset ≡ (get_or es i d).entry.offset → get_or flags j false ≡ true → (j ≡ i) ⊎ ((j < i) ⊎ (i < j)) → get_or flags i false ≡ true
        go j inside same is (inl e) = ap (λ k. get_or flags k false) (sym e) ∙ is
        go j inside same is (inr (inl before)) = absurd (apart j i d before less same)
        go j inside same is (inr (inr behind)) = absurd (apart i j d behind inside (sym same))

-- ---- entries of units

module _ (t : Unit → Entry → Bool) where
  flags_of : List Unit → List Bool
  flags_of us = flat_map (λ u. map (t u) u.entries) us

  as-many : (us : List Unit) → length (flags_of us) ≡ length (placed_entries us)
  unfolding flags_of
  as-many [] = refl
  as-many (u ∷ us) = omega (
    arith,
    length-append (map (t u) u.entries) (flat_map (λ v. map (t v) v.entries) us),
    length-append (map (λ e. record { unit = u.header.offset; entry = e }) u.entries) (placed_entries us),
    length-map u.entries (t u),
    length-map {B = Placed} u.entries (λ e. record { unit = u.header.offset; entry = e }),
    as-many us,
  )

  pick-unit : (n : ℕ) (u : Unit) (es : List Entry) → pick {A = Placed} (map (λ e. record { unit = n; entry = e }) es) (map (t u) es) ≡ map (λ e. record { unit = n; entry = e }) (filter (t u) es)
  unfolding pick
  pick-unit n u [] = refl
  pick-unit n u (e ∷ es) = ap (λ (zs : List Placed). cond {A = List Placed} (t u e) (record { unit = n; entry = e } ∷ zs) zs) (pick-unit n u es) ∙ go (t u e)
    where
      go : (b : Bool) → cond {A = List Placed} b (record { unit = n; entry = e } ∷ map (λ f. record { unit = n; entry = f }) (filter (t u) es)) (map (λ f. record { unit = n; entry = f }) (filter (t u) es)) ≡ map (λ f. record { unit = n; entry = f }) (cond {A = List Entry} b (e ∷ filter (t u) es) (filter (t u) es))
      go true = refl
      go false = refl

  passing-picked : (us : List Unit) → pick (placed_entries us) (flags_of us) ≡ entries_passing t us
  unfolding flags_of pick
  passing-picked [] = refl
  passing-picked (u ∷ us) =
      pick-append (map (λ e. record { unit = u.header.offset; entry = e }) u.entries) (placed_entries us) (map (t u) u.entries) (flat_map (λ v. map (t v) v.entries) us) (length-map u.entries (t u) ∙ sym (length-map {B = Placed} u.entries (λ e. record { unit = u.header.offset; entry = e })))
      ∙ ap₂ (λ xs ys. xs ++ ys) (pick-unit u.header.offset u u.entries) (passing-picked us)

-- ---- the module

module _ (fs : List Function) (s : Sections) (us : List Unit) (ns : List Node) (required : List Bool) (m : IsModuleGraph fs s us ns required) where
  -- as many tests as nodes
  pub as-many-required : length required ≡ length ns
  unfolding flags_of
  as-many-required =
      ap length m.required_are ∙ as-many (λ u. is_required fs s u.header) us
      ∙ sym (sym (length-map ns (λ n. n.offset)) ∙ ap length m.graph.offsets ∙ length-map (placed_entries us) (λ e. e.entry.offset))

  pub module-kept : (offsets : List ℕ) → AreKeptOffsets ns required offsets → offsets ≡ offsets_kept_of fs s us
  unfolding flags_of
  module-kept offsets kept =
      let t : Unit → Entry → Bool = λ u. is_required fs s u.header in
      offsets-are-kept (placed_entries us) ns (entries_passing t us) required offsets m.apart
      (λ e c. in-contains (placed_entries us) e (passing-in t us e (contains-in (entries_passing t us) e c))) m.graph
      (λ i d less. ap (λ bs. get_or bs i false) m.required_are
      ∙ say-which (placed_entries us) (flat_map (λ u. map (is_required fs s u.header) u.entries) us) m.apart i d less
      ∙ ap (λ ps. has_place ps (get_or (placed_entries us) i d).entry.offset) (passing-picked t us)) kept

  -- The kept offsets are those of the least set.
  pub least-offsets : (offsets : List ℕ) → offsets ≡ offsets_kept_of fs s us → AreLeastOffsets fs s us offsets
  least-offsets offsets is =
      let t : Unit → Entry → Bool = λ u. is_required fs s u.header in
      record {
        kept = kept_with (placed_entries us) (entries_passing t us);
        offsets_are = is;
        least = are-least (placed_entries us) (entries_passing t us) m.apart (λ e c. in-contains (placed_entries us) e (passing-in t us e (contains-in (entries_passing t us) e c)));
      }

  marked-in : (xs : List ℕ) (marks : List Bool) (x : ℕ) → IsIn x (marked_of xs marks) → IsIn x xs
  marked-in [] marks x i = absurd i
  marked-in (y ∷ xs) [] x i = absurd i
  marked-in (y ∷ xs) (b ∷ marks) x i = go b i (λ k. marked-in xs marks x k)
    where
      go : (c : Bool) → IsIn x (cond {A = List ℕ} c (y ∷ marked_of xs marks) (marked_of xs marks)) → (IsIn x (marked_of xs marks) → IsIn x xs) → IsIn x (y ∷ xs)
      go true (inl e) rest = inl e
      go true (inr k) rest = inr (rest k)
      go false k rest = inr (rest k)

  pub module-small : (offsets : List ℕ) → AreKeptOffsets ns required offsets → All (λ offset. offset < 2 ^ 32) offsets
  module-small offsets kept = subst (All (λ offset. offset < 2 ^ 32)) (sym kept.marked) (all-from (marked_of (map (λ n. n.offset) ns) kept.marks) (λ x i. small x (marked-in (map (λ n. n.offset) ns) kept.marks x i)))
    where
      small : (x : ℕ) → IsIn x (map (λ n. n.offset) ns) → x < 2 ^ 32
      small x i = let at = in-at (map (λ n. n.offset) ns) x i in subst (λ k. k < 2 ^ 32) at.2 (All-map (λ o. o < 2 ^ 32) (λ n. n.offset) ns m.small at.0 x at.1)

      all-from : (xs : List ℕ) → ((x : ℕ) → IsIn x xs → x < 2 ^ 32) → All (λ x. x < 2 ^ 32) xs
      all-from [] h = All-nil (λ x. x < 2 ^ 32)
      all-from (x ∷ xs) h = All-cons (λ x. x < 2 ^ 32) x xs (h x (inl refl)) (all-from xs (λ y i. h y (inr i)))
