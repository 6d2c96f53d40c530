-- Names in the order of their numbers.
use Rattle.std.proofs.Common.{◌≡◌, ℕ, List, [], ◌∷◌, map, nat_cmp, refl, sym, ap, ◌∙◌}
use Rattle.std.specs.Borrow.{Bor}
use Rattle.dwc_base.specs.SortedEntries.{sorted_entries, pair_cmp}
use Rattle.dwc_wasm.specs.NamesRead.{keyed_by_function, keyed_by_local}
use Rattle.dwc_base.specs.TranslationNames.{function_name_view, local_name_view}
use Rattle.dwc_wasm.proofs.SortedEntryLaws.{sorted_entries-seen}

-- a key and the bytes of a name
abbrev spelled : {K : Type 0} → K × Bor (List ℕ) → K × List ℕ
spelled e = (e.0, (e.1).now)

map_map : {A B C : Type 0} (g : B → C) (f : A → B) (xs : List A) → map g (map f xs) ≡ map (λ x. g (f x)) xs
map_map g f [] = refl
map_map g f (x ∷ xs) = ap (λ ys. g (f x) ∷ ys) (map_map g f xs)

-- names of functions in order are so when they are seen as bytes
pub functions_in_order : (said named : List (ℕ × Bor (List ℕ))) → named ≡ sorted_entries nat_cmp (map keyed_by_function said) → map function_name_view named ≡ sorted_entries nat_cmp (map function_name_view said)
functions_in_order said named h =
    ap (map function_name_view) h
    ∙ sorted_entries-seen nat_cmp (λ (t : Bor (List ℕ)). t.now) (map keyed_by_function said)
    ∙ ap (sorted_entries nat_cmp) (map_map spelled keyed_by_function said)

-- and so are those of locals
pub locals_in_order : (said named : List (ℕ × ℕ × Bor (List ℕ))) → map keyed_by_local named ≡ sorted_entries pair_cmp (map keyed_by_local said) → map local_name_view named ≡ sorted_entries pair_cmp (map local_name_view said)
locals_in_order said named h =
    sym (map_map spelled keyed_by_local named)
    ∙ ap (map spelled) h
    ∙ sorted_entries-seen pair_cmp (λ (t : Bor (List ℕ)). t.now) (map keyed_by_local said)
    ∙ ap (sorted_entries pair_cmp) (map_map spelled keyed_by_local said)
