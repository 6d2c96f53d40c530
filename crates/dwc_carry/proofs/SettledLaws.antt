-- Entries that say the numbers of their goals say the places of these, where the numbers are put to places.
use Rattle.std.proofs.Common.{◌≡◌, ℕ, refl, ap, ap₂, sym, ◌∙◌, arith, List, [], ◌∷◌, map, Bool, true, false, cond, Option, Some, None}
use Rattle.std.specs.Prelude.{◌==◌, option_map, option_and_then}
use Rattle.std.specs.Option.{is_some}
use Rattle.std.specs.List.{cons_option, filter_map, fold}
use Rattle.std.proofs.lemmas.Bool.{true≢false, ltb-true}
use Rattle.dwc_dwarf.specs.Trees.{TreeValue, address, constant, flag, block, expression, text, line_table, ranges, locations, entry, nothing, TreeEntry, Tree, set_attribute, set_in_order}
use Rattle.dwc_dwarf.specs.TreeLaws.{goes_somewhere}
use Rattle.dwc_output.specs.TreeReading.{entry_or_nothing}
use Rattle.dwc_rules.specs.Drafts.{Goal, DraftValue, done, goes_to, Draft}
use Rattle.dwc_rules.specs.DraftForests.{settled, settled_entry, settled_unit}
use Rattle.dwc_rules.proofs.ForestLaws.{Each, SaysNoPlace, EntrySaysNoPlace, UnitSaysNoPlace}
use Rattle.dwc_unit.specs.Renumbered.{renumbered, renumbered_attribute, renumbered_entry}

-- A goal has a number exactly where it has a place, which is that of the number.
abbrev pub IsPutAt : (ℕ → ℕ → Option (ℕ × ℕ)) → (Goal → Option (ℕ × ℕ)) → (Goal → Option (ℕ × ℕ)) → Goal → Type 0
IsPutAt at numbers places goal = (is_some (places goal) ≡ is_some (numbers goal)) × (option_and_then (λ p. at p.0 p.1) (numbers goal) ≡ places goal)

module _ (at : ℕ → ℕ → Option (ℕ × ℕ)) where
  abbrev put : ℕ × TreeValue → ℕ × TreeValue
  put a = renumbered_attribute at a

  -- ---- attributes by name

  set-put : (a : ℕ × TreeValue) (bs : List (ℕ × TreeValue)) → map put (set_attribute a bs) ≡ set_attribute (put a) (map put bs)
  set-put a [] = refl
  set-put a (b ∷ bs) = go (a.0 == b.0) (set-put a bs)
    where
      go : (same : Bool) → map put (set_attribute a bs) ≡ set_attribute (put a) (map put bs)
          → map put (cond {A = List (ℕ × TreeValue)} same (a ∷ bs) (b ∷ set_attribute a bs)) ≡ cond {A = List (ℕ × TreeValue)} same (put a ∷ map put bs) (put b ∷ set_attribute (put a) (map put bs))
      go true h = refl
      go false h = ap (λ xs. put b ∷ xs) h

  fold-put : (before xs : List (ℕ × TreeValue)) → map put (fold (λ so_far a. set_attribute a so_far) before xs) ≡ fold (λ so_far a. set_attribute a so_far) (map put before) (map put xs)
  fold-put before [] = refl
  fold-put before (x ∷ xs) = fold-put (set_attribute x before) xs ∙ ap (λ ys. fold (λ so_far a. set_attribute a so_far) ys (map put xs)) (set-put x before)

  -- ---- values

  done-put : (v : TreeValue) → goes_somewhere [] v ≡ true → renumbered at v ≡ v
  done-put (address a) h = refl
  done-put (constant form n) h = refl
  done-put (flag b) h = refl
  done-put (block bytes) h = refl
  done-put (expression bytes) h = refl
  done-put (text bytes) h = refl
  done-put line_table h = refl
  done-put (ranges is) h = refl
  done-put (locations ls) h = refl
  done-put (entry unit place) h = absurd (omega (arith, ltb-true place 0 h))
  done-put nothing h = absurd (true≢false (sym h))

  module _ (numbers places : Goal → Option (ℕ × ℕ)) where
    goal-put : (name : ℕ) (n p : Option (ℕ × ℕ)) → is_some p ≡ is_some n → option_and_then (λ x. at x.0 x.1) n ≡ p
        → option_map put (option_map {T = TreeValue} (λ v. (name, v)) (option_map {T = ℕ × ℕ} (λ x. entry x.0 x.1) n)) ≡ option_map {T = TreeValue} (λ v. (name, v)) (option_map {T = ℕ × ℕ} (λ x. entry x.0 x.1) p)
    goal-put name None None some is = refl
    goal-put name None (Some p) some is = absurd (true≢false some)
    goal-put name (Some n) None some is = absurd (true≢false (sym some))
    goal-put name (Some n) (Some p) some is = ap (λ o. Some (name, entry_or_nothing o)) is

    value-put : (a : ℕ × DraftValue) → SaysNoPlace (IsPutAt at numbers places) a → option_map put (settled numbers a) ≡ settled places a
    value-put (name, done v) h = ap (λ w. Some (name, w)) (done-put v h)
    value-put (name, goes_to goal) h = goal-put name (numbers goal) (places goal) h.0 h.1

    attributes-put : (xs : List (ℕ × DraftValue)) → Each (SaysNoPlace (IsPutAt at numbers places)) xs → map put (filter_map (settled numbers) xs) ≡ filter_map (settled places) xs
    attributes-put [] h = refl
    attributes-put (x ∷ xs) h = go (settled numbers x) (settled places x) (value-put x h.0) (attributes-put xs h.1)
      where
        go : (n p : Option (ℕ × TreeValue)) → option_map put n ≡ p → map put (filter_map (settled numbers) xs) ≡ filter_map (settled places) xs
            → map put (cons_option n (filter_map (settled numbers) xs)) ≡ cons_option p (filter_map (settled places) xs)
        go None None is h = h
        go None (Some y) is h = absurd (cc)
        go (Some x) None is h = absurd (cc)
        go (Some x) (Some y) is h = ap₂ (λ (z : ℕ × TreeValue) (zs : List (ℕ × TreeValue)). z ∷ zs) (cc) h

    entry-put : (d : Draft) → EntrySaysNoPlace (IsPutAt at numbers places) d → renumbered_entry at (settled_entry numbers d) ≡ settled_entry places d
    entry-put d h =
        ap (λ (xs : List (ℕ × TreeValue)). record { depth = d.depth; tag = d.tag; attributes = xs })
        (fold-put [] (filter_map (settled numbers) d.attributes) ∙ ap (λ (xs : List (ℕ × TreeValue)). set_in_order xs) (attributes-put d.attributes h))

    -- A unit that says the numbers of goals says their places.
    pub unit-put : (ds : List Draft) → UnitSaysNoPlace (IsPutAt at numbers places) ds → map (renumbered_entry at) (settled_unit numbers ds) ≡ settled_unit places ds
    unit-put [] h = refl
    unit-put (d ∷ ds) h = ap₂ (λ (e : TreeEntry) (es : Tree). e ∷ es) (entry-put d h.0) (unit-put ds h.1)
