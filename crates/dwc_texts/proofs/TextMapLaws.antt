-- What a map from texts has once a text more is in it.
use Rattle.std.proofs.Common.{◌≡◌, ℕ, refl, sym, ap, ◌∙◌, List, [], ◌∷◌, Bool, true, false, cond, Some}
use Rattle.std.specs.Prelude.{if◌then◌else◌}
use Rattle.std.specs.Str.{bytes_eq}
use Rattle.std.specs.Cmp.{both_ways}
use Rattle.std.specs.Cmp.Lexicographic.{bytes_decides, slice_cmp, texts_ties}
use Rattle.std.specs.Ordering.{is_eq, match_ordering, nat_cmp}
use Rattle.std.specs.declared.cmp.Ordering.{Ordering}
use Rattle.std.specs.declared.cmp.Ordering.TheVariants.{Less, Equal, Greater}
use Rattle.std.specs.Map.{lookup}
use Rattle.std.specs.BTreeMap.{insert_entry}

cond-same : {A : Type 0} (x y z : A) (a b : Bool) → a ≡ b → cond b x z ≡ cond a x (cond b y z)
cond-same x y z true true is = refl
cond-same x y z false false is = refl
cond-same x y z true false is = absurd (cc)
cond-same x y z false true is = absurd (cc)

cond-turned : {A : Type 0} (x y z : A) (a b : Bool) → (a ≡ true → b ≡ true → ⊥) → cond b y (cond a x z) ≡ cond a x (cond b y z)
cond-turned x y z true true apart = absurd (apart refl refl)
cond-turned x y z true false apart = refl
cond-turned x y z false true apart = refl
cond-turned x y z false false apart = refl

module _ {K : Type 0} (text : K → List ℕ) (t : List ℕ) (k : K) (v : ℕ) where
  -- whether a key is the text that is looked for
  abbrev is_sought : K → Bool
  is_sought x = is_eq (slice_cmp nat_cmp t (text x))

  abbrev compared : K → K → Ordering
  compared x y = slice_cmp nat_cmp (text x) (text y)

  sought-same : (x : K) → is_sought x ≡ bytes_eq (text x) t
  sought-same x = sym (texts_ties t (text x)) ∙ both_ways (bytes_eq t (text x)) (bytes_eq (text x) t) (λ e. (bytes_decides (text x) t).1 (sym ((bytes_decides t (text x)).0 e))) (λ e. (bytes_decides t (text x)).1 (sym ((bytes_decides (text x) t).0 e)))

  key-same : (x y : K) → is_eq (compared x y) ≡ true → text x ≡ text y
  key-same x y e = (bytes_decides (text x) (text y)).0 (texts_ties (text x) (text y) ∙ e)

  one-key : (x y : K) → is_sought x ≡ true → is_sought y ≡ true → is_eq (compared x y) ≡ true
  one-key x y a b = sym (texts_ties (text x) (text y)) ∙ (bytes_decides (text x) (text y)).1 ((bytes_decides (text x) t).0 (sym (sought-same x) ∙ a) ∙ sym ((bytes_decides (text y) t).0 (sym (sought-same y) ∙ b)))

  inserted : (es : List (K × ℕ)) → lookup is_sought (insert_entry compared es k v) ≡ cond (is_sought k) (Some v) (lookup is_sought es)
  inserted [] = refl
  inserted (e ∷ es) = by (inserted es) (compared k e.0) refl
    where
      by : lookup is_sought (insert_entry compared es k v) ≡ cond (is_sought k) (Some v) (lookup is_sought es) → (o : Ordering) → compared k e.0 ≡ o → lookup is_sought (match_ordering o ((k, v) ∷ e ∷ es) ((e.0, v) ∷ es) (e ∷ insert_entry compared es k v)) ≡ cond (is_sought k) (Some v) (cond (is_sought e.0) (Some e.1) (lookup is_sought es))
      by rest Less is = refl
      by rest Equal is = cond-same (Some v) (Some e.1) (lookup is_sought es) (is_sought k) (is_sought e.0) (ap (λ r. is_eq (slice_cmp nat_cmp t r)) (key-same k e.0 (ap is_eq is)))
      by rest Greater is = ap (λ r. cond (is_sought e.0) (Some e.1) r) rest ∙ cond-turned (Some v) (Some e.1) (lookup is_sought es) (is_sought k) (is_sought e.0) (λ a b. let one : is_eq Greater ≡ true = sym (ap is_eq is) ∙ one-key k e.0 a b in absurd (cc))

  -- what is found for a text once another is in the map
  pub found-inserted : (es : List (K × ℕ)) → lookup is_sought (insert_entry compared es k v) ≡ (if bytes_eq (text k) t then Some v else lookup is_sought es)
  found-inserted es = inserted es ∙ ap (λ b. cond b (Some v) (lookup is_sought es)) (sought-same k)
