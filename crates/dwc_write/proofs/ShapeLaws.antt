-- Shapes of entries as code keeps them, and the tables that declare them.
use Rattle.std.proofs.Common.{◌≡◌, ℕ, zero, suc, ◌<◌, ◌≤◌, refl, sym, ap, ◌∙◌, arith, List, [], ◌∷◌, ◌++◌, append_assoc, length, map, drop, get_or, Bool, true, false, eqb, ltb}
use Rattle.std.specs.Prelude.{◌==◌, ◌&&◌}
use Rattle.std.specs.List.{All, flat_map}
use Rattle.std.proofs.lemmas.Bool.{eqb-true, lt-ltb, le-ltb}
use Rattle.std.proofs.lemmas.List.Elements.{All-head, All-tail}
use Rattle.dwc_base.specs.declared.constants.TheConstants.{DW_FORM_implicit_const}
use Rattle.dwc_base.specs.NumberBytes.{uleb_bytes}
use Rattle.dwc_unit.specs.SpelledTables.{spec_bytes, declaration_bytes}
use Rattle.dwc_unit.specs.declared.attributes.AttributeForm.{AttributeForm}
use Rattle.dwc_write.specs.declared.shapes.Shape.{Shape}
use Rattle.dwc_write.specs.ShapeViews.{shape_view}
use Rattle.dwc_unit.specs.GivenUnits.{EntryShape, IsPlainShape, same_flag, same_forms, same_shape, place_in, with_use, form_bytes, shape_bytes, spec_of_form, numbered}
use Rattle.dwc_section.proofs.WritesLaws.{all-seen}

pub with_use-known : (s : EntryShape) (known : List EntryShape) → place_in s known < length known → with_use s known ≡ known
with_use-known s known within = let is : ltb (place_in s known) (length known) ≡ true = lt-ltb _ _ within in rw (is) refl

pub with_use-new : (s : EntryShape) (known : List EntryShape) → length known ≤ place_in s known → with_use s known ≡ known ++ s ∷ []
with_use-new s known past = let is : ltb (place_in s known) (length known) ≡ false = le-ltb _ _ past in rw (is) refl

-- ---- equal shapes

same_forms-equal : (xs ys : List AttributeForm) → same_forms xs ys ≡ true → xs ≡ ys
same_forms-equal [] [] h = refl
same_forms-equal [] (y ∷ ys) h = absurd (cc)
same_forms-equal (x ∷ xs) [] h = absurd (cc)
same_forms-equal (x ∷ xs) (y ∷ ys) h = go (x.name == y.name) refl (x.form == y.form) refl (same_forms xs ys) refl h (same_forms-equal xs ys)
  where
    go : (a : Bool) → (x.name == y.name) ≡ a → (b : Bool) → (x.form == y.form) ≡ b → (c : Bool) → same_forms xs ys ≡ c → (a && (b && c)) ≡ true → (same_forms xs ys ≡ true → xs ≡ ys) → x ∷ xs ≡ y ∷ ys
    go true n true f true s h others =
        let name : x.name ≡ y.name = eqb-true _ _ n in
        let form : x.form ≡ y.form = eqb-true _ _ f in
        let both : x ≡ y = rw (name, form) refl in
        rw (both) (ap (λ zs. y ∷ zs) (others s))
    go true n true f false s h others = absurd (cc)
    go true n false f c s h others = absurd (cc)
    go false n b f c s h others = absurd (cc)

same_flag-equal : (a b : Bool) → same_flag a b ≡ true → a ≡ b
same_flag-equal true true h = refl
same_flag-equal true false h = absurd (cc)
same_flag-equal false true h = absurd (cc)
same_flag-equal false false h = refl

-- shapes that are the same are one
pub same_shape-equal : (s t : EntryShape) → same_shape s t ≡ true → s ≡ t
same_shape-equal s t h = go (s.tag == t.tag) refl (same_flag s.has_children t.has_children) refl (same_forms s.attributes t.attributes) refl h
  where
    go : (a : Bool) → (s.tag == t.tag) ≡ a → (b : Bool) → same_flag s.has_children t.has_children ≡ b → (c : Bool) → same_forms s.attributes t.attributes ≡ c → (a && (b && c)) ≡ true → s ≡ t
    go true n true f true m h =
        let tag : s.tag ≡ t.tag = eqb-true _ _ n in
        let flag : s.has_children ≡ t.has_children = same_flag-equal s.has_children t.has_children f in
        let forms : s.attributes ≡ t.attributes = same_forms-equal s.attributes t.attributes m in
        rw (tag, flag, forms) refl
    go true n true f false m h = absurd (cc)
    go true n false f c m h = absurd (cc)
    go false n b f c m h = absurd (cc)

-- ---- declarations

plain-specs : (xs : List AttributeForm) → All (λ f. (f.form == DW_FORM_implicit_const) ≡ false) xs → flat_map spec_bytes (map spec_of_form xs) ≡ flat_map form_bytes xs
plain-specs [] plain = refl
plain-specs (x ∷ xs) plain =
    let here : eqb x.form DW_FORM_implicit_const ≡ false = All-head (λ (f : AttributeForm). (f.form == DW_FORM_implicit_const) ≡ false) x xs plain in
    let others = plain-specs xs (All-tail (λ (f : AttributeForm). (f.form == DW_FORM_implicit_const) ≡ false) x xs plain) in
    rw (here, others) (ap (λ bytes. (uleb_bytes x.name ++ bytes) ++ flat_map form_bytes xs) (append-none (uleb_bytes x.form)))
  where
    append-none : (bytes : List ℕ) → bytes ++ [] ≡ bytes
    append-none [] = refl
    append-none (b ∷ bytes) = ap (λ bs. b ∷ bs) (append-none bytes)

-- a declaration is a code and a shape
pub declaration-parts : (code : ℕ) (s : EntryShape) → IsPlainShape s → declaration_bytes (record { code = code; tag = s.tag; has_children = s.has_children; attributes = map spec_of_form s.attributes }) ≡ uleb_bytes code ++ shape_bytes s
declaration-parts code s plain = rw (plain-specs s.attributes plain) refl

-- a declaration more
pub table-more : (shapes : List Shape) (i : ℕ) (d : Shape) (out coded now whole : List ℕ) → i < length shapes → All IsPlainShape (map shape_view shapes) → coded ≡ out ++ uleb_bytes (suc i) → now ≡ coded ++ shape_bytes (shape_view (get_or shapes i d))
    → out ++ flat_map declaration_bytes (numbered (suc i) (map shape_view (drop i shapes))) ≡ whole → now ++ flat_map declaration_bytes (numbered (suc (suc i)) (map shape_view (drop (suc i) shapes))) ≡ whole
table-more shapes i d out coded now whole within plain first second invariant =
    let s = shape_view (get_or shapes i d) in
    let rest = flat_map declaration_bytes (numbered (suc (suc i)) (map shape_view (drop (suc i) shapes))) in
    let here = rw (drop-one shapes i d within) at invariant in
    let parts = declaration-parts (suc i) s (all-seen IsPlainShape shape_view shapes i d within plain) in
    rw (second, first) (ap (λ bytes. bytes ++ rest) (append_assoc out (uleb_bytes (suc i)) (shape_bytes s)) ∙ ap (λ bytes. (out ++ bytes) ++ rest) (sym parts) ∙ append_assoc out _ rest ∙ here)
  where
    drop-one : {A : Type 0} (xs : List A) (i : ℕ) (d : A) → i < length xs → drop i xs ≡ get_or xs i d ∷ drop (suc i) xs
    drop-one [] i d within = absurd (omega arith)
    drop-one (x ∷ xs) zero d within = refl
    drop-one (x ∷ xs) (suc i) d within = drop-one xs i d (omega arith)
