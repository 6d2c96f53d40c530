-- Where the entry that is made of a kept one in a role stands in its unit: of entries at places of their own one is made at most, and one is
-- made exactly of those that are kept, the other roles being those of wrapped ones alone.
use Rattle.std.proofs.Common.{◌≡◌, ℕ, suc, ◌+◌, ◌≤◌, List, [], ◌∷◌, ◌++◌, length, Option, Some, None, Bool, true, false, Result, refl, ap, ap₂, sym, subst, ◌∙◌, ◌==◌, arith}
use Rattle.std.specs.Prelude.{◌&&◌, ◌||◌, if◌then◌else◌, cond, nat_lt, option_map, option_to_list, position}
use Rattle.std.specs.List.{position_from}
use Rattle.std.proofs.lemmas.Bool.{eqb-true, false_from_ne_true, ltb-true, ltb-false}
use Rattle.std.proofs.lemmas.Iterator.Adapters.{position_from-zero}
use Rattle.dwc_base.specs.declared.records.OutputFor.{OutputFor}
use Rattle.dwc_rules.specs.Kept.{Placed}
use Rattle.dwc_dwarf.specs.Trees.{Location}
use Rattle.dwc_rules.specs.Drafts.{Role, itself, pointer_to_wrapper, reference_to_target, pointer_to_target, Draft}
use Rattle.dwc_rules.specs.DraftForests.{role_number, is_made_of}
use Rattle.dwc_rules.specs.Clones.{UnitSource}
use Rattle.dwc_native.specs.BuiltExpressions.{BuildRefusal}
use Rattle.dwc_rules.specs.LocationRules.{ExpressionSource}
use Rattle.dwc_rules.specs.Scopes.{Rises}
use Rattle.dwc_rules.specs.Wrappers.{WrapperSource, is_wrapped, wrapper, wrapper_types, inner, outer, with_wrapper, entries_made}
use Rattle.dwc_rules.specs.ContextVariable.{context_over, context_pointer, context_variable, context_entries, locations_or_none}
use Rattle.dwc_rules.specs.EntryRules.{wrappers_of}
use Rattle.dwc_rules.specs.CarriedDrafts.{draft_told, entry_made, unit_drafts}
use Rattle.dwc_rules.proofs.WrapperLaws.{inner-below, inner-none, outer-below, outer-all}

-- ---- how many pass a test

-- one where it passes, and none
abbrev one_if : Bool → ℕ
one_if b = if b then 1 else 0

abbrev pub many : {A : Type 0} → (A → Bool) → List A → ℕ
many p [] = 0
many p (x ∷ xs) = one_if (p x) + many p xs

module _ {A : Type 0} (p : A → Bool) where
  many-both : (xs ys : List A) → many p (xs ++ ys) ≡ many p xs + many p ys
  many-both [] ys = omega arith
  many-both (x ∷ xs) ys = omega (arith, many-both xs ys)

  many-one : (front rest : List A) (x : A) → p x ≡ true → 1 ≤ many p (front ++ x ∷ rest)
  many-one [] rest x passes = rw passes (omega arith)
  many-one (y ∷ front) rest x passes = omega (arith, many-one front rest x passes)

  -- Where one passes at most, one that passes stands at the place that is found.
  place-one : (n : ℕ) (front rest : List A) (x : A) → p x ≡ true → many p (front ++ x ∷ rest) ≤ 1 → position_from p n (front ++ x ∷ rest) ≡ Some (n + length front)
  place-one n [] rest x passes once = ap (λ b. cond {A = Option ℕ} b (Some n) (position_from p (n + 1) rest)) passes ∙ ap Some (omega arith)
  place-one n (y ∷ front) rest x passes once = go (p y) refl (many-one front rest x passes) (place-one (n + 1) front rest x passes)
    where
      go : (b : Bool) → p y ≡ b → 1 ≤ many p (front ++ x ∷ rest) → (many p (front ++ x ∷ rest) ≤ 1 → position_from p (n + 1) (front ++ x ∷ rest) ≡ Some (n + 1 + length front))
          → position_from p n (y ∷ front ++ x ∷ rest) ≡ Some (n + suc (length front))
      go true is some others = let two : one_if true + many p (front ++ x ∷ rest) ≤ 1 = subst (λ b. one_if b + many p (front ++ x ∷ rest) ≤ 1) is once in absurd (omega (arith, some, two))
      go false is some others =
          let left : one_if false + many p (front ++ x ∷ rest) ≤ 1 = subst (λ b. one_if b + many p (front ++ x ∷ rest) ≤ 1) is once in
          ap (λ b. cond {A = Option ℕ} b (Some n) (position_from p (n + 1) (front ++ x ∷ rest))) is ∙ others (omega (arith, left)) ∙ ap Some (omega arith)

  place-none : (n : ℕ) (xs : List A) → many p xs ≡ 0 → position_from p n xs ≡ None
  place-none n [] none = refl
  place-none n (x ∷ xs) none = go (p x) refl (place-none (n + 1) xs)
    where
      go : (b : Bool) → p x ≡ b → (many p xs ≡ 0 → position_from p (n + 1) xs ≡ None) → position_from p n (x ∷ xs) ≡ None
      go true is others = let some : one_if true + many p xs ≡ 0 = subst (λ b. one_if b + many p xs ≡ 0) is none in absurd (omega (arith, some))
      go false is others = let left : one_if false + many p xs ≡ 0 = subst (λ b. one_if b + many p xs ≡ 0) is none in ap (λ b. cond {A = Option ℕ} b (Some n) (position_from p (n + 1) xs)) is ∙ others (omega (arith, left))

-- ---- what is made of kept entries

module _ (p : Draft → Bool) where
  many-cut : (depth : ℕ) (ds : List Draft) → many p (inner depth ds) + many p (outer depth ds) ≡ many p ds
  many-cut depth [] = refl
  many-cut depth (d ∷ ds) = go (nat_lt depth d.depth) refl (many-cut depth ds)
    where
      go : (b : Bool) → nat_lt depth d.depth ≡ b → many p (inner depth ds) + many p (outer depth ds) ≡ many p ds → many p (inner depth (d ∷ ds)) + many p (outer depth (d ∷ ds)) ≡ one_if (p d) + many p ds
      go true is others =
          ap₂ (λ xs ys. many p xs + many p ys) (inner-below depth d ds (ltb-true depth d.depth is)) (outer-below depth d ds (ltb-true depth d.depth is)) ∙ omega (arith, others)
      go false is others = ap₂ (λ xs ys. many p xs + many p ys) (inner-none depth d ds (ltb-false depth d.depth is)) (outer-all depth d ds (ltb-false depth d.depth is)) ∙ omega arith

  module _ (s : WrapperSource) (clone : Placed → List Draft) (q : Placed → Bool)
      (plain : (e : Placed) → is_wrapped s.output e ≡ false → many p (clone e) ≡ one_if (q e))
      (wrapped : (e : Placed) → is_wrapped s.output e ≡ true → many p (wrapper s e) + many p (wrapper_types s e) ≡ one_if (q e)) where
    -- Where of what each entry becomes one passes or none, so many pass as there are entries of which one does.
    many-made : (es : List Placed) → many p (entries_made s clone es) ≡ many q es
    unfolding entries_made
    many-made [] = refl
    many-made (e ∷ es) = go (is_wrapped s.output e) refl (many-made es)
      where
        go : (b : Bool) → is_wrapped s.output e ≡ b → many p (entries_made s clone es) ≡ many q es → many p (elim b [ true ↦ with_wrapper s e (entries_made s clone es) | false ↦ clone e ++ entries_made s clone es ]) ≡ one_if (q e) + many q es
        go false is others = omega (arith, many-both p (clone e) (entries_made s clone es), plain e is, others)
        go true is others =
            let inside = inner e.entry.depth (entries_made s clone es) in
            let outside = outer e.entry.depth (entries_made s clone es) in
            omega (arith, many-both p (wrapper s e) (inside ++ (wrapper_types s e ++ outside)), many-both p inside (wrapper_types s e ++ outside), many-both p (wrapper_types s e) outside, many-cut e.entry.depth (entries_made s clone es), wrapped e is, others)

-- ---- roles

-- whether an entry is made of an entry at an offset in a role: of each itself, and of wrapped ones in all roles
abbrev pub is_source : OutputFor → ℕ → Role → Placed → Bool
is_source output offset role e = (e.entry.offset == offset) && (is_wrapped output e || (role_number role == 0))

-- of entries whose offsets rise one at most is at an offset
sources-above : (output : OutputFor) (low offset : ℕ) (role : Role) (es : List Placed) → Rises low es → suc offset ≤ low → many (is_source output offset role) es ≡ 0
sources-above output low offset role [] rises above = refl
sources-above output low offset role (e ∷ es) rises above =
    let apart : (e.entry.offset == offset) ≡ false = false_from_ne_true (e.entry.offset == offset) (λ same. let is : e.entry.offset ≡ offset = eqb-true e.entry.offset offset same in omega (arith, rises.0, above, is)) in
    let here : one_if (is_source output offset role e) ≡ 0 = ap (λ b. one_if (b && (is_wrapped output e || (role_number role == 0)))) apart in
    omega (arith, here, sources-above output (suc e.entry.offset) offset role es rises.1 (omega (arith, rises.0, above)))

pub sources-once : (output : OutputFor) (low offset : ℕ) (role : Role) (es : List Placed) → Rises low es → many (is_source output offset role) es ≤ 1
sources-once output low offset role [] rises = omega arith
sources-once output low offset role (e ∷ es) rises = go (e.entry.offset == offset) refl (sources-once output (suc e.entry.offset) offset role es rises.1)
  where
    at-most : (b : Bool) → one_if b ≤ 1
    at-most true = omega arith
    at-most false = omega arith

    go : (b : Bool) → (e.entry.offset == offset) ≡ b → many (is_source output offset role) es ≤ 1 → one_if (is_source output offset role e) + many (is_source output offset role) es ≤ 1
    go true is others =
        let same : e.entry.offset ≡ offset = eqb-true e.entry.offset offset is in
        omega (arith, at-most (is_source output offset role e), sources-above output (suc e.entry.offset) offset role es rises.1 (omega (arith, same)))
    go false is others = let here : one_if (is_source output offset role e) ≡ 0 = ap (λ b. one_if (b && (is_wrapped output e || (role_number role == 0)))) is in omega (arith, here, others)

module _ (c : ExpressionSource) (s : UnitSource) (big_endian : Bool) (offset : ℕ) (role : Role) where
  -- by itself an entry becomes one itself, and the variable of the context stems from none
  plain-many : (e : Placed) → is_wrapped c.told.output e ≡ false → many (is_made_of offset role) (entry_made c s big_endian e) ≡ one_if (is_source c.told.output offset role e)
  plain-many e plain = first role ∙ ap (λ b. one_if ((e.entry.offset == offset) && (b || (role_number role == 0)))) (sym plain)
    where
      context : (r : Role) (o : Option (Result (List Location) BuildRefusal)) → many (is_made_of offset r) (option_to_list (option_map (λ located. context_variable (suc e.entry.depth) (context_pointer c) (locations_or_none located)) o)) ≡ 0
      context r None = refl
      context r (Some located) = refl

      none : (b : Bool) → one_if (b && false) ≡ 0
      none true = refl
      none false = refl

      first : (r : Role) → one_if (is_made_of offset r (draft_told c s big_endian e)) + many (is_made_of offset r) (context_entries c e) ≡ one_if ((e.entry.offset == offset) && (role_number r == 0))
      first itself = omega (arith, context itself (context_over c e))
      first pointer_to_wrapper = omega (arith, none (e.entry.offset == offset), context pointer_to_wrapper (context_over c e))
      first reference_to_target = omega (arith, none (e.entry.offset == offset), context reference_to_target (context_over c e))
      first pointer_to_target = omega (arith, none (e.entry.offset == offset), context pointer_to_target (context_over c e))

  wrapped-many : (e : Placed) → is_wrapped c.told.output e ≡ true → many (is_made_of offset role) (wrapper (wrappers_of c) e) + many (is_made_of offset role) (wrapper_types (wrappers_of c) e) ≡ one_if (is_source c.told.output offset role e)
  wrapped-many e wrapped =
      let front : many (is_made_of offset role) (wrapper (wrappers_of c) e) ≡ one_if ((e.entry.offset == offset) && (0 == role_number role)) = omega arith in
      ap (λ n. n + many (is_made_of offset role) (wrapper_types (wrappers_of c) e)) front ∙ go role (e.entry.offset == offset) ∙ ap (λ b. one_if ((e.entry.offset == offset) && (b || (role_number role == 0)))) (sym wrapped)
    where
      go : (r : Role) (b : Bool) → one_if (b && (0 == role_number r)) + (one_if (b && (1 == role_number r)) + (one_if (b && (2 == role_number r)) + (one_if (b && (3 == role_number r)) + 0))) ≡ one_if (b && (true || (role_number r == 0)))
      go itself true = refl
      go itself false = refl
      go pointer_to_wrapper true = refl
      go pointer_to_wrapper false = refl
      go reference_to_target true = refl
      go reference_to_target false = refl
      go pointer_to_target true = refl
      go pointer_to_target false = refl

  -- So many entries are made in a role as there are kept ones at the offset that are made in it.
  pub made-many : (es : List Placed) → many (is_made_of offset role) (unit_drafts c s big_endian es) ≡ many (is_source c.told.output offset role) es
  made-many es = many-made (is_made_of offset role) (wrappers_of c) (entry_made c s big_endian) (is_source c.told.output offset role) plain-many wrapped-many es

  -- The entry that is made stands where it is looked for.
  pub made-place : (es : List Placed) (front rest : List Draft) (d : Draft) → unit_drafts c s big_endian es ≡ front ++ d ∷ rest → is_made_of offset role d ≡ true → many (is_source c.told.output offset role) es ≤ 1
      → position (is_made_of offset role) (unit_drafts c s big_endian es) ≡ Some (length front)
  made-place es front rest d are made once =
      ap (position (is_made_of offset role)) are
      ∙ position_from-zero (is_made_of offset role) (front ++ d ∷ rest)
      ∙ place-one (is_made_of offset role) 0 front rest d made (subst (λ n. n ≤ 1) (sym (made-many es) ∙ ap (many (is_made_of offset role)) are) once)
      ∙ ap Some (omega arith)

  -- Where there is none at the offset, or it is not wrapped, none is found.
  pub made-nowhere : (es : List Placed) → many (is_source c.told.output offset role) es ≡ 0 → position (is_made_of offset role) (unit_drafts c s big_endian es) ≡ None
  made-nowhere es none = position_from-zero (is_made_of offset role) (unit_drafts c s big_endian es) ∙ place-none (is_made_of offset role) 0 (unit_drafts c s big_endian es) (made-many es ∙ none)
