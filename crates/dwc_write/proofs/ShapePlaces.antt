-- Shapes stand first at their places (`own-more`), so that one that is met at a place has the code of that place (`guessed`).
use Rattle.std.proofs.Common.{◌≡◌, ◌≢◌, ◌∙◌, ◌<◌, ◌≤◌, ℕ, zero, suc, refl, sym, ap, arith, List, [], ◌∷◌, ◌++◌, length, length-append, map, get_or, Bool, true, false, ltb}
use Rattle.std.specs.Prelude.{if◌then◌else◌, ◌==◌, ◌&&◌}
use Rattle.std.proofs.lemmas.Bool.{ltb-false, ltb-true}
use Rattle.std.proofs.lemmas.List.{get_or-map, length-map}
use Rattle.dwc_unit.specs.declared.attributes.AttributeForm.{AttributeForm}
use Rattle.dwc_write.specs.declared.shapes.Shape.{Shape}
use Rattle.dwc_unit.specs.declared.attributes.Attribute.{Attribute}
use Rattle.dwc_unit.specs.GivenUnits.{AreOwn, EntryShape, form_of, forms_of, place_in, same_forms, same_shape, with_use}
use Rattle.dwc_write.specs.ShapeViews.{StandsAt, shape_view}
use Rattle.dwc_write.proofs.EntriesLaws.{place-more, place-new}
use Rattle.dwc_write.proofs.ShapeLaws.{same_shape-equal}

front : (ks more : List EntryShape) (i : ℕ) (d : EntryShape) → i < length ks → get_or (ks ++ more) i d ≡ get_or ks i d
front [] more i d within = absurd (omega arith)
front (k ∷ ks) more zero d within = refl
front (k ∷ ks) more (suc i) d within = front ks more i d (omega arith)

last : (ks : List EntryShape) (s d : EntryShape) → get_or (ks ++ s ∷ []) (length ks) d ≡ s
last [] s d = refl
last (k ∷ ks) s d = last ks s d

pub own-more : (s : EntryShape) (ks : List EntryShape) → AreOwn ks → AreOwn (with_use s ks)
own-more s ks own = go (ltb (place_in s ks) (length ks)) refl
  where
    old-or-new : (b : Bool) (i : ℕ) (d : EntryShape) → ltb i (length ks) ≡ b → i < length (ks ++ s ∷ []) → length ks ≤ place_in s ks → place_in (get_or (ks ++ s ∷ []) i d) (ks ++ s ∷ []) ≡ i
    old-or-new true i d e within past =
        let inside = ltb-true _ _ e in
        let here = own i d inside in
        ap (λ t. place_in t (ks ++ s ∷ [])) (front ks (s ∷ []) i d inside) ∙ place-more (get_or ks i d) ks (s ∷ []) (omega (arith, here, inside)) ∙ here
    old-or-new false i d e within past =
        let behind = ltb-false _ _ e in
        let at : length ks ≡ i = omega (arith, behind, within, length-append ks (s ∷ [])) in
        ap (λ n. place_in (get_or (ks ++ s ∷ []) n d) (ks ++ s ∷ [])) (sym at) ∙ ap (λ t. place_in t (ks ++ s ∷ [])) (last ks s d) ∙ place-new s ks past ∙ at

    go : (b : Bool) → ltb (place_in s ks) (length ks) ≡ b → AreOwn (if b then ks else ks ++ s ∷ [])
    go true e = own
    go false e = λ i d within. old-or-new (ltb i (length ks)) i d refl within (ltb-false _ _ e)

-- a shape that is met at a place stands first there
pub guessed : (s : EntryShape) (ks : List Shape) (k : Shape) (place : ℕ) → AreOwn (map shape_view ks) → place < length ks → k ≡ get_or ks place k → same_shape (shape_view k) s ≡ true → place_in s (map shape_view ks) ≡ place
guessed s ks k place own within is same =
    let at = get_or-map shape_view ks place k (shape_view k) within in
    let met : get_or (map shape_view ks) place (shape_view k) ≡ s = at ∙ ap shape_view (sym is) ∙ same_shape-equal (shape_view k) s same in
    ap (λ t. place_in t (map shape_view ks)) (sym met) ∙ own place (shape_view k) (omega (arith, within, length-map ks shape_view))

pub guessed-stands : (s : EntryShape) (ks : List Shape) (k : Shape) (place : ℕ) → AreOwn (map shape_view ks) → place < length ks → k ≡ get_or ks place k → same_shape (shape_view k) s ≡ true → StandsAt s (map shape_view ks) place
guessed-stands s ks k place own within is same = record { is = guessed s ks k place own within is same; inside = omega (arith, within, length-map ks shape_view) }

-- forms of which there are others many are others
pub forms-differ : (xs : List AttributeForm) (ys : List Attribute) → length xs ≢ length ys → false ≡ same_forms xs (forms_of ys)
forms-differ [] [] other = absurd (other refl)
forms-differ [] (y ∷ ys) other = refl
forms-differ (x ∷ xs) [] other = refl
forms-differ (x ∷ xs) (y ∷ ys) other = rw (sym (forms-differ xs ys (λ same. other (ap suc same)))) (go (x.name == y.name) (x.form == (form_of y).form))
  where
    go : (a b : Bool) → false ≡ (a && (b && false))
    go true true = refl
    go true false = refl
    go false b = refl
