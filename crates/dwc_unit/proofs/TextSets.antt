-- Texts of a table with one more among them.
use Rattle.std.proofs.Common.{◌≡◌, ◌≢◌, ℕ, ◌<◌, refl, ap, ◌∙◌, List, [], ◌∷◌, ◌++◌, length, get_or, Bool, true, false}
use Rattle.std.specs.Prelude.{if◌then◌else◌, ◌&&◌}
use Rattle.std.specs.List.{All, list_any}
use Rattle.std.specs.Str.{bytes_eq}
use Rattle.std.proofs.lemmas.Bool.{eq-eqb}
use Rattle.std.proofs.lemmas.List.{get_or_default}
use Rattle.std.proofs.lemmas.List.Elements.{All-push}
use Rattle.std.proofs.lemmas.List.Folds.{list_any_at}
use Rattle.std.proofs.lemmas.List.Quantifiers.{all_pairs_push}
use Rattle.dwc_dwarf.specs.TreeLaws.{with_new_text}
use Rattle.dwc_unit.specs.TextTables.{IsText, AreTexts}

-- the text at a place
pub text-found : (ts : List (List ℕ)) (i : ℕ) (t : List ℕ) → i < length ts → t ≡ get_or ts i t → t ≡ get_or ts i []
text-found ts i t within is = is ∙ get_or_default ts i t [] within

bytes-same : (t : List ℕ) → bytes_eq t t ≡ true
bytes-same [] = refl
bytes-same (b ∷ bs) = ap (λ c. c && bytes_eq bs bs) (eq-eqb b b refl) ∙ bytes-same bs

are-texts : (t : List ℕ) (ts : List (List ℕ)) → AreTexts ts → IsText t → All (λ b. b < 256) t → list_any (bytes_eq t) ts ≡ false → AreTexts (ts ++ t ∷ [])
are-texts t ts texts plain bytes absent = record {
  plain = All-push IsText ts t texts.plain plain;
  bytes = All-push (λ s. All (λ b. b < 256) s) ts t texts.bytes bytes;
  distinct = all_pairs_push (λ r s. r ≢ s) ts t texts.distinct (λ k d within same. absurd (differ k d within same));
}
  where
    differ : (k : ℕ) (d : List ℕ) → k < length ts → get_or ts k d ≡ t → ⊥
    differ k d within same = let yes : list_any (bytes_eq t) ts ≡ true = list_any_at (bytes_eq t) ts k d within (ap (bytes_eq t) same ∙ bytes-same t) in absurd (cc)

-- Texts with one more, which may be among them, are texts of a table.
pub texts-with : (t : List ℕ) (ts : List (List ℕ)) → AreTexts ts → IsText t → All (λ b. b < 256) t → AreTexts (with_new_text ts t)
texts-with t ts texts plain bytes = go (list_any (bytes_eq t) ts) refl
  where
    go : (b : Bool) → list_any (bytes_eq t) ts ≡ b → AreTexts (if b then ts else ts ++ t ∷ [])
    go true is = texts
    go false is = are-texts t ts texts plain bytes is
