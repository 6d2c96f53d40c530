-- Numbers that are put to places: nothing changes where they are the places (`renumbered-same`), and a value that is set is set
-- (`set-renumbered`).
use Rattle.std.proofs.Common.{◌≡◌, ℕ, refl, sym, ap, ◌∙◌, List, [], ◌∷◌, map, Bool, true, false, Option, Some}
use Rattle.std.specs.Prelude.{◌==◌, nat_lt, if◌then◌else◌}
use Rattle.std.specs.List.{list_all}
use Rattle.std.proofs.lemmas.Bool.{and_parts}
use Rattle.std.proofs.lemmas.List.Folds.{list_all-append}
use Rattle.dwc_dwarf.specs.Trees.{TreeValue, address, constant, flag, block, expression, text, line_table, ranges, locations, entry, nothing, TreeEntry, Tree, set_attribute}
use Rattle.dwc_dwarf.specs.TreeLaws.{HasAllTargets, goes_somewhere, size_of_unit, values_of}
use Rattle.dwc_output.specs.TreeReading.{entry_or_nothing}
use Rattle.dwc_unit.specs.Renumbered.{renumbered, renumbered_attribute, renumbered_entry, renumbered_trees}

-- ---- numbers that are places

-- The entries of some trees have their places as numbers.
abbrev pub ArePlaces : (ℕ → ℕ → Option (ℕ × ℕ)) → List Tree → Type 0
ArePlaces places all = (unit number : ℕ) → nat_lt number (size_of_unit all unit) ≡ true → places unit number ≡ Some (unit, number)

module _ (places : ℕ → ℕ → Option (ℕ × ℕ)) (all : List Tree) (are : ArePlaces places all) where
  value-same : (v : TreeValue) → goes_somewhere all v ≡ true → renumbered places v ≡ v
  value-same (address a) goes = refl
  value-same (constant form bits) goes = refl
  value-same (flag b) goes = refl
  value-same (block bytes) goes = refl
  value-same (expression bytes) goes = refl
  value-same (text bytes) goes = refl
  value-same line_table goes = refl
  value-same (ranges rs) goes = refl
  value-same (locations ls) goes = refl
  value-same (entry unit number) goes = ap entry_or_nothing (are unit number goes)
  value-same nothing goes = refl

  attributes-same : (xs : List (ℕ × TreeValue)) → list_all (goes_somewhere all) (map (λ a. a.1) xs) ≡ true → map (renumbered_attribute places) xs ≡ xs
  attributes-same [] goes = refl
  attributes-same (x ∷ xs) goes =
      let both = and_parts _ _ goes in
      ap (λ v. (x.0, v) ∷ map (renumbered_attribute places) xs) (value-same x.1 both.0) ∙ ap (λ ys. x ∷ ys) (attributes-same xs both.1)

  tree-same : (t : Tree) → list_all (goes_somewhere all) (values_of t) ≡ true → map (renumbered_entry places) t ≡ t
  tree-same [] goes = refl
  tree-same (e ∷ es) goes =
      let both = and_parts _ _ (sym (list_all-append (goes_somewhere all) (map (λ a. a.1) e.attributes) (values_of es)) ∙ goes) in
      let E : List (ℕ × TreeValue) → TreeEntry = λ attributes. record { depth = e.depth; tag = e.tag; attributes = attributes } in
      ap (λ xs. E xs ∷ map (renumbered_entry places) es) (attributes-same e.attributes both.0) ∙ ap (λ ys. e ∷ ys) (tree-same es both.1)

  trees-same : (ts : List Tree) → list_all (λ t. list_all (goes_somewhere all) (values_of t)) ts ≡ true → renumbered_trees places ts ≡ ts
  trees-same [] goes = refl
  trees-same (t ∷ ts) goes =
      let both = and_parts _ _ goes in
      ap (λ u. u ∷ renumbered_trees places ts) (tree-same t both.0) ∙ ap (λ us. t ∷ us) (trees-same ts both.1)

-- Numbers that are the places of entries stay, where each reference goes to an entry that is there.
pub renumbered-same : (places : ℕ → ℕ → Option (ℕ × ℕ)) (ts : List Tree) → ArePlaces places ts → HasAllTargets ts → renumbered_trees places ts ≡ ts
renumbered-same places ts are goes = trees-same places ts are ts goes

-- ---- a value that is set

pub set-renumbered : (places : ℕ → ℕ → Option (ℕ × ℕ)) (a : ℕ × TreeValue) (xs : List (ℕ × TreeValue)) → map (renumbered_attribute places) (set_attribute a xs) ≡ set_attribute (renumbered_attribute places a) (map (renumbered_attribute places) xs)
set-renumbered places a [] = refl
set-renumbered places a (x ∷ xs) = go (a.0 == x.0) (set-renumbered places a xs)
  where
    go : (b : Bool) → map (renumbered_attribute places) (set_attribute a xs) ≡ set_attribute (renumbered_attribute places a) (map (renumbered_attribute places) xs)
        → map (renumbered_attribute places) (if b then a ∷ xs else x ∷ set_attribute a xs)
        ≡ (if b then renumbered_attribute places a ∷ map (renumbered_attribute places) xs else renumbered_attribute places x ∷ set_attribute (renumbered_attribute places a) (map (renumbered_attribute places) xs))
    go true rest = refl
    go false rest = ap (λ ys. renumbered_attribute places x ∷ ys) rest
