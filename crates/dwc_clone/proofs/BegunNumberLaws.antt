-- How the numbers of the functions that entries begin in are noted, one after another.
use Rattle.std.proofs.Common.{◌≡◌, ℕ, List, [], ◌∷◌, ◌++◌, ap, sym, refl, ◌∙◌, Bool, true, false, Option, Some, None, filter_map, option_to_list}
use Rattle.std.specs.Prelude.{◌||◌, ◌==◌}
use Rattle.std.specs.List.{cons_option, list_any}
use Rattle.std.specs.BTreeMap.{is_at}
use Rattle.std.specs.BTreeSet.{BTreeSet, IsEmpty}
use Rattle.std.specs.Ordering.{nat_cmp}
use Rattle.std.proofs.lemmas.List.Folds.{list_any-append}
use Rattle.dwc_native.specs.Functions.{Function}
use Rattle.dwc_clone.specs.BegunNumbers.{is_noted, NotesFunctions}
use Rattle.dwc_rules.specs.RangeAttributes.{is_number_of}

or-false : (a : Bool) → (a || false) ≡ a
or-false true = refl
or-false false = refl

or-three : (a b c : Bool) → ((a || b) || c) ≡ (a || (b || c))
or-three true b c = refl
or-three false b c = refl

-- whether a number is noted before, or is that of one of some functions
abbrev pub noted_beside : BTreeSet ℕ → List Function → ℕ → Bool
noted_beside old fs n = is_noted old n || is_number_of fs n

-- The numbers noted so far, and those of the functions that are left, are all that are to be noted.
pub record AreNotedSoFar (left : List Function) (all : ℕ → Bool) (now : BTreeSet ℕ) : Type 0 where
  pub noted : (n : ℕ) → noted_beside now left n ≡ all n

-- before the first
pub noted-begin : (fs : List Function) (old : BTreeSet ℕ) → AreNotedSoFar fs (noted_beside old fs) old
noted-begin fs old = record { noted = λ n. refl }

-- before the first, where none is noted
pub none-noted : (old : BTreeSet ℕ) → IsEmpty old → (fs : List Function) → AreNotedSoFar fs (is_number_of fs) old
none-noted old empty fs = record { noted = λ n. ap (λ (ks : List ℕ). list_any (is_at (nat_cmp n)) ks || is_number_of fs n) empty }

-- some more
pub noted-more : (fs left : List Function) (all : ℕ → Bool) (now next : BTreeSet ℕ) → NotesFunctions fs now next → AreNotedSoFar (fs ++ left) all now → AreNotedSoFar left all next
noted-more fs left all now next notes h = record {
  noted = λ n.
      ap (λ b. b || is_number_of left n) (notes n)
      ∙ or-three (is_noted now n) (is_number_of fs n) (is_number_of left n)
      ∙ ap (λ b. is_noted now n || b) (sym (list_any-append (λ (f : Function). f.number == n) fs left))
      ∙ h.noted n;
}

-- behind the last
pub noted-done : (all : ℕ → Bool) (now : BTreeSet ℕ) → AreNotedSoFar [] all now → (n : ℕ) → is_noted now n ≡ all n
noted-done all now h n = sym (or-false (is_noted now n)) ∙ h.noted n

-- The functions of an element, and those of the elements behind it.
pub begun-first : {A : Type 0} (h : A → Option Function) (x : A) (xs : List A) → filter_map h (x ∷ xs) ≡ option_to_list (h x) ++ filter_map h xs
begun-first h x xs = go (h x)
  where
    go : (o : Option Function) → cons_option o (filter_map h xs) ≡ option_to_list o ++ filter_map h xs
    go None = refl
    go (Some f) = refl
