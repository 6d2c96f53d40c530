-- Shapes that are found by their words: one shape has them, and what is found once a shape more is kept.
use Rattle.std.proofs.Common.{◌≡◌, ◌∙◌, ℕ, suc, ◌<◌, ◌≤◌, refl, sym, ap, arith, List, [], ◌∷◌, ◌++◌, length, length-append, Bool, true, false, ltb, Option, Some, None, map, Result, Ok, Err}
use Rattle.std.specs.Prelude.{if◌then◌else◌, IfOk}
use Rattle.std.specs.List.{flat_map}
use Rattle.std.specs.Str.{bytes_eq}
use Rattle.std.specs.Global.{Vec}
use Rattle.std.specs.Cmp.Lexicographic.{bytes_decides}
use Rattle.std.proofs.lemmas.List.{length-map}
use Rattle.std.proofs.lemmas.Bool.{le-ltb, lt-ltb, ltb-false, ltb-true}
use Rattle.dwc_unit.specs.SpelledTables.{flag_of}
use Rattle.dwc_unit.specs.declared.attributes.AttributeForm.{AttributeForm}
use Rattle.dwc_unit.specs.GivenUnits.{EntryShape, place_in, same_shape, with_use}
use Rattle.dwc_write.specs.declared.shapes.Shape.{Shape}
use Rattle.dwc_write.specs.ShapeViews.{form_words, place_among, shape_view, shape_words}
use Rattle.dwc_write.proofs.EntriesLaws.{place-more, place-most, place-new}
use Rattle.dwc_write.proofs.ShapeLaws.{same_shape-equal, with_use-known, with_use-new}

-- ---- one shape has some words

forms-one : (xs ys : List AttributeForm) → flat_map form_words xs ≡ flat_map form_words ys → xs ≡ ys
forms-one [] [] same = refl
forms-one [] (y ∷ ys) same = absurd (cc)
forms-one (x ∷ xs) [] same = absurd (cc)
forms-one (x ∷ xs) (y ∷ ys) same =
    let name : x.name ≡ y.name = cc in
    let form : x.form ≡ y.form = cc in
    let rest : flat_map form_words xs ≡ flat_map form_words ys = cc in
    let both : x ≡ y = λ i. record { name = name i; form = form i } in
    λ i. both i ∷ forms-one xs ys rest i

flags-one : (a b : Bool) → flag_of a ≡ flag_of b → a ≡ b
flags-one true true same = refl
flags-one false false same = refl
flags-one true false same = absurd (omega (arith, same))
flags-one false true same = absurd (omega (arith, same))

pub words-one : (s t : EntryShape) → shape_words s ≡ shape_words t → s ≡ t
words-one s t same =
    let tag : s.tag ≡ t.tag = cc in
    let flag : flag_of s.has_children ≡ flag_of t.has_children = cc in
    let forms : flat_map form_words s.attributes ≡ flat_map form_words t.attributes = cc in
    let children = flags-one s.has_children t.has_children flag in
    let attributes = forms-one s.attributes t.attributes forms in
    λ i. record { tag = tag i; has_children = children i; attributes = attributes i }

-- ---- the place of a shape among others with one more behind them

place-passed : (s t : EntryShape) (known : List EntryShape) → same_shape s t ≡ false → length known ≤ place_in t known → place_in t (known ++ s ∷ []) ≡ suc (length known)
place-passed s t [] other past = ap (λ b. if b then 0 else suc 0) other
place-passed s t (k ∷ known) other past = go (same_shape k t) past (place-passed s t known other)
  where
    go : (b : Bool) → suc (length known) ≤ (if b then 0 else suc (place_in t known)) → (length known ≤ place_in t known → place_in t (known ++ s ∷ []) ≡ suc (length known)) → (if b then 0 else suc (place_in t (known ++ s ∷ []))) ≡ suc (suc (length known))
    go true past rest = absurd (omega (arith, past))
    go false past rest = ap suc (rest (omega (arith, past)))

-- by the place and the number of all
abbrev at : ℕ → ℕ → Option ℕ
at place many = if ltb place many then Some place else None

pub among-here : (s : EntryShape) (known : List EntryShape) → length known ≤ place_in s known → place_among s (known ++ s ∷ []) ≡ Some (length known)
among-here s known past =
    let longer = length-append known (s ∷ []) in
    ap (λ p. at p (length (known ++ s ∷ []))) (place-new s known past) ∙ ap (λ b. if b then Some (length known) else None) (lt-ltb (length known) (length (known ++ s ∷ [])) (omega (arith, longer)))

pub among-passed : (s t : EntryShape) (known : List EntryShape) → same_shape s t ≡ false → place_among t (known ++ s ∷ []) ≡ place_among t known
among-passed s t known other = go (ltb (place_in t known) (length known)) refl
  where
    go : (b : Bool) → ltb (place_in t known) (length known) ≡ b → place_among t (known ++ s ∷ []) ≡ (if b then Some (place_in t known) else None)
    go true is =
        let inside = ltb-true _ _ is in
        let longer = length-append known (s ∷ []) in
        ap (λ p. at p (length (known ++ s ∷ []))) (place-more t known (s ∷ []) inside) ∙ ap (λ b. if b then Some (place_in t known) else None) (lt-ltb (place_in t known) (length (known ++ s ∷ [])) (omega (arith, longer, inside)))
    go false is =
        let past = ltb-false _ _ is in
        let longer = length-append known (s ∷ []) in
        ap (λ p. at p (length (known ++ s ∷ []))) (place-passed s t known other past) ∙ ap (λ b. if b then Some (suc (length known)) else None) (le-ltb (suc (length known)) (length (known ++ s ∷ [])) (omega (arith, longer)))

-- ---- what is found once a shape more is kept

pub found-more : (before after : Vec ℕ → Option ℕ) (known : List EntryShape) (s : EntryShape) (words : List ℕ) → words ≡ shape_words s → length known ≤ place_in s known
    → ((q : Vec ℕ) (t : EntryShape) → q.items ≡ shape_words t → before q ≡ place_among t known) → ((q : Vec ℕ) → after q ≡ (if bytes_eq words q.items then Some (length known) else before q))
    → (q : Vec ℕ) (t : EntryShape) → q.items ≡ shape_words t → after q ≡ place_among t (known ++ s ∷ [])
found-more before after known s words is past found kept q t of = kept q ∙ go (bytes_eq words q.items) refl
  where
    go : (b : Bool) → bytes_eq words q.items ≡ b → (if b then Some (length known) else before q) ≡ place_among t (known ++ s ∷ [])
    go true same =
        let one : s ≡ t = words-one s t (sym is ∙ (bytes_decides words q.items).0 same ∙ of) in
        sym (ap (λ r. place_among r (known ++ s ∷ [])) (sym one) ∙ among-here s known past)
    go false apart = found q t of ∙ sym (among-passed s t known (other (same_shape s t) refl))
      where
        other : (b : Bool) → same_shape s t ≡ b → b ≡ false
        other true same =
            let one : s ≡ t = same_shape-equal s t same in
            let met : bytes_eq words q.items ≡ true = (bytes_decides words q.items).1 (is ∙ ap shape_words one ∙ sym of) in
            absurd (cc)
        other false same = refl

-- ---- a shape that is found, and one that is new

pub among-some : (s : EntryShape) (known : List EntryShape) (place : ℕ) → Some place ≡ place_among s known → (place_in s known ≡ place) × (place < length known)
among-some s known place found = go (ltb (place_in s known) (length known)) refl found
  where
    go : (b : Bool) → ltb (place_in s known) (length known) ≡ b → Some place ≡ (if b then Some (place_in s known) else None) → (place_in s known ≡ place) × (place < length known)
    go true is found =
        let same : place_in s known ≡ place = cc in
        (same, omega (arith, ltb-true _ _ is, same))
    go false is found = absurd (cc)

pub among-none : (s : EntryShape) (known : List EntryShape) → None ≡ place_among s known → length known ≤ place_in s known
among-none s known none = go (ltb (place_in s known) (length known)) refl none
  where
    go : (b : Bool) → ltb (place_in s known) (length known) ≡ b → None ≡ (if b then Some (place_in s known) else None) → length known ≤ place_in s known
    go true is found = absurd (cc)
    go false is found = ltb-false _ _ is

pub known-use : (s : EntryShape) (known : List EntryShape) (place : ℕ) → Some place ≡ place_among s known → with_use s known ≡ known
known-use s known place found =
    let at = among-some s known place found in
    with_use-known s known (omega (arith, at.0, at.1))

pub new-placed : {E : Type 0} (s : EntryShape) (ks : List Shape) → None ≡ place_among s (map shape_view ks) → (r : Result ℕ E) → IfOk r (λ place. place ≡ length ks) → IfOk r (λ place. place ≡ place_in s (map shape_view ks))
new-placed s ks none (Ok place) is = omega (arith, is, among-none s (map shape_view ks) none, place-most s (map shape_view ks), length-map ks shape_view)
new-placed s ks none (Err e) is = is

pub new-use : (s : EntryShape) (known : List EntryShape) → None ≡ place_among s known → known ++ s ∷ [] ≡ with_use s known
new-use s known none = sym (with_use-new s known (among-none s known none))
