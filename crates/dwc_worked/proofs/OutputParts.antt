-- What holds of each of some things that are written out in full, and that the names of sections differ.
use Rattle.std.proofs.Common.{◌≡◌, ◌+◌, ◌*◌, List, [], ◌∷◌, get_or, true, false, refl, sym, ap, ◌∙◌, true≢false}
use Rattle.std.specs.Prelude.{ℕ, ◌==◌, ◌&&◌, not, Bool, All}
use Rattle.std.proofs.lemmas.Bool.{eq-eqb, and_parts}
use Rattle.std.proofs.lemmas.List.Elements.{All-cons, All-nil}
use Rattle.std.proofs.lemmas.List.Kept.{AllPairs-cons}
use Rattle.dwc_base.specs.Outputs.{OutputSection}
use Rattle.dwc_output.specs.OutputForm.{HasDistinctNames}
use Rattle.dwc_rules.proofs.ForestLaws.{Each}
use Rattle.dwc_worked.proofs.OutputSmall.{Differ, none-differ}

abbrev pub no_section : OutputSection
no_section = record { name = []; body = []; relocations = [] }

-- what is shown of each holds of all
pub all-from : {A : Type 0} (P : A → Type 0) (xs : List A) → Each P xs → All P xs
all-from P [] each = All-nil P
all-from P (x ∷ xs) each = All-cons P x xs each.0 (all-from P xs each.1)

-- the eighth letter of a name and the next
abbrev letters : OutputSection → ℕ
letters s = 256 * get_or s.name 7 0 + get_or s.name 8 0

differ : (x y : OutputSection) → (letters x == letters y) ≡ false → Differ x y
differ x y apart = λ same. true≢false (sym (eq-eqb (letters x) (letters y) (ap (λ name. 256 * get_or name 7 0 + get_or name 8 0) same)) ∙ apart)

-- whether the letters of a section are none of those of others
abbrev differs_from : OutputSection → List OutputSection → Bool
differs_from s [] = true
differs_from s (t ∷ ts) = not (letters s == letters t) && differs_from s ts

-- whether those of some sections are apart
abbrev pub all_differ : List OutputSection → Bool
all_differ [] = true
all_differ (s ∷ ss) = differs_from s ss && all_differ ss

not-true : (b : Bool) → not b ≡ true → b ≡ false
not-true true e = sym e
not-true false e = refl

from-differs : (s : OutputSection) (ts : List OutputSection) → differs_from s ts ≡ true → All (Differ s) ts
from-differs s [] h = All-nil (Differ s)
from-differs s (t ∷ ts) h =
    let parts = and_parts (not (letters s == letters t)) (differs_from s ts) h in
    All-cons (Differ s) t ts (differ s t (not-true (letters s == letters t) parts.0)) (from-differs s ts parts.1)

pub names-from : (ss : List OutputSection) → all_differ ss ≡ true → HasDistinctNames ss
names-from [] h = none-differ
names-from (s ∷ ss) h =
    let parts = and_parts (differs_from s ss) (all_differ ss) h in
    AllPairs-cons Differ s ss (from-differs s ss parts.0) (names-from ss parts.1)
