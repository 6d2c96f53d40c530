-- The names of the types of a ring, put together from the tags of the others, are the same text where the tags are the same.
use Rattle.std.proofs.Common.{◌≡◌, ℕ, suc, ◌+◌, refl, sym, ap, ◌∙◌, arith, List, [], ◌∷◌, ◌++◌, map, get_or, drop, length, Bool, true, false, append_assoc, append-nil}
use Rattle.std.specs.Prelude.{◌==◌, if◌then◌else◌, codes}
use Rattle.std.proofs.lemmas.Bool.{eqb-true}
use Rattle.dwc_base.specs.declared.constants.TheConstants.{DW_TAG_const_type}
use Rattle.dwc_types.specs.declared.known_type.DerivedType.{DerivedType}
use Rattle.dwc_types.specs.TypeChains.{behind, behind_name, in_front, named_chain}
use Rattle.dwc_types.specs.KeyedTypes.{consts_front}
use Rattle.dwc_types.specs.TypeRings.{consts_of, spelt_of}

abbrev pub tags_in : List DerivedType → List ℕ
tags_in ts = map (λ t. t.tag) ts

pub tags-append : (xs ys : List DerivedType) → tags_in (xs ++ ys) ≡ tags_in xs ++ tags_in ys
tags-append [] ys = refl
tags-append (x ∷ xs) ys = ap (λ zs. x.tag ∷ zs) (tags-append xs ys)

-- ---- what stands in front of a name

abbrev front_if : Bool → List ℕ
front_if b = if b then codes "const " else []

front-append : (xs ys : List ℕ) → in_front (xs ++ ys) ≡ in_front xs ++ in_front ys
front-append [] ys = refl
front-append (x ∷ xs) ys = ap (λ zs. front_if (x == DW_TAG_const_type) ++ zs) (front-append xs ys) ∙ sym (append_assoc (front_if (x == DW_TAG_const_type)) (in_front xs) (in_front ys))

front-word : (b : Bool) (ys : List ℕ) → front_if b ++ in_front ys ≡ in_front ys ++ front_if b
front-word false ys = sym (append-nil (in_front ys))
front-word true [] = append-nil (codes "const ")
front-word true (y ∷ ys) = go (y == DW_TAG_const_type) (front-word true ys)
  where
    go : (b : Bool) → codes "const " ++ in_front ys ≡ in_front ys ++ codes "const " → codes "const " ++ (front_if b ++ in_front ys) ≡ (front_if b ++ in_front ys) ++ codes "const "
    go true same = ap (λ zs. codes "const " ++ zs) same ∙ sym (append_assoc (codes "const ") (in_front ys) (codes "const "))
    go false same = same

fronts-turned : (xs ys : List ℕ) → in_front xs ++ in_front ys ≡ in_front ys ++ in_front xs
fronts-turned [] ys = sym (append-nil (in_front ys))
fronts-turned (x ∷ xs) ys =
    let word = front_if (x == DW_TAG_const_type) in
    append_assoc word (in_front xs) (in_front ys)
    ∙ ap (λ zs. word ++ zs) (fronts-turned xs ys)
    ∙ sym (append_assoc word (in_front ys) (in_front xs))
    ∙ ap (λ zs. zs ++ in_front xs) (front-word (x == DW_TAG_const_type) ys)
    ∙ append_assoc (in_front ys) word (in_front xs)

-- It hangs on no order.
front-turned : (xs ys : List DerivedType) → in_front (tags_in (xs ++ ys)) ≡ in_front (tags_in (ys ++ xs))
front-turned xs ys =
    ap in_front (tags-append xs ys) ∙ front-append (tags_in xs) (tags_in ys) ∙ fronts-turned (tags_in xs) (tags_in ys) ∙ sym (front-append (tags_in ys) (tags_in xs)) ∙ sym (ap in_front (tags-append ys xs))

front-other : (t : DerivedType) (ts : List DerivedType) → (t.tag == DW_TAG_const_type) ≡ false → in_front (tags_in (t ∷ ts)) ≡ in_front (tags_in ts)
front-other t ts other = ap (λ b. front_if b ++ in_front (tags_in ts)) other

-- ---- what stands behind it

-- It hangs on no constant.
behind-spelt : (ts : List DerivedType) → behind (tags_in ts) ≡ behind (spelt_of ts)
behind-spelt [] = refl
behind-spelt (t ∷ ts) = go (t.tag == DW_TAG_const_type) refl (behind-spelt ts)
  where
    go : (b : Bool) → (t.tag == DW_TAG_const_type) ≡ b → behind (tags_in ts) ≡ behind (spelt_of ts) → behind (tags_in ts) ++ behind_name t.tag ≡ behind (if b then spelt_of ts else t.tag ∷ spelt_of ts)
    go true is same = ap (λ tag. behind (tags_in ts) ++ behind_name tag) (eqb-true t.tag DW_TAG_const_type is) ∙ append-nil (behind (tags_in ts)) ∙ same
    go false is same = ap (λ bs. bs ++ behind_name t.tag) same

pub spelt-other : (t : DerivedType) (ts : List DerivedType) → (t.tag == DW_TAG_const_type) ≡ false → spelt_of (t ∷ ts) ≡ t.tag ∷ spelt_of ts
spelt-other t ts other = ap (λ b. if b then spelt_of ts else t.tag ∷ spelt_of ts) other

-- ---- the whole name

-- Of two types that are no constants, the types behind the first and those behind the second tell the same name, where the tags from each on
-- are the same.
pub turned-named : (h t : DerivedType) (rest front left : List DerivedType) → h ∷ rest ≡ front ++ t ∷ left → (h.tag == DW_TAG_const_type) ≡ false → (t.tag == DW_TAG_const_type) ≡ false → spelt_of (t ∷ (left ++ front)) ≡ spelt_of (h ∷ rest) → (last : List ℕ)
    → (t.tag ≡ h.tag) × (named_chain (tags_in (left ++ front)) last ≡ named_chain (tags_in rest) last)
turned-named h t rest front left is first other same last =
    let tags = sym (spelt-other t (left ++ front) other) ∙ same ∙ spelt-other h rest first in
    let fronts : in_front (tags_in (left ++ front)) ≡ in_front (tags_in rest) = sym (front-other t (left ++ front) other) ∙ front-turned (t ∷ left) front ∙ ap (λ ts. in_front (tags_in ts)) (sym is) ∙ front-other h rest first in
    let behinds : behind (tags_in (left ++ front)) ≡ behind (tags_in rest) = behind-spelt (left ++ front) ∙ ap (λ ns. behind (drop 1 ns)) tags ∙ sym (behind-spelt rest) in
    (ap (λ ns. get_or ns 0 0) tags, ap (λ xs. xs ++ (last ++ behind (tags_in (left ++ front)))) fronts ∙ ap (λ xs. in_front (tags_in rest) ++ (last ++ xs)) behinds)

-- ---- constants, and the other tags

consts-front : (ts : List DerivedType) → in_front (tags_in ts) ≡ consts_front (consts_of ts)
consts-front [] = refl
consts-front (t ∷ ts) = go (t.tag == DW_TAG_const_type) (consts-front ts)
  where
    go : (b : Bool) → in_front (tags_in ts) ≡ consts_front (consts_of ts) → front_if b ++ in_front (tags_in ts) ≡ consts_front (if b then suc (consts_of ts) else consts_of ts)
    go true same = ap (λ zs. codes "const " ++ zs) same
    go false same = same

-- Each type is a constant, or has a tag that is spelt.
pub consts-and-spelt : (ts : List DerivedType) → length ts ≡ consts_of ts + length (spelt_of ts)
consts-and-spelt [] = refl
consts-and-spelt (t ∷ ts) = go (t.tag == DW_TAG_const_type) (consts-and-spelt ts)
  where
    go : (b : Bool) → length ts ≡ consts_of ts + length (spelt_of ts) → suc (length ts) ≡ (if b then suc (consts_of ts) else consts_of ts) + length (if b then spelt_of ts else t.tag ∷ spelt_of ts)
    go true same = omega (arith, same)
    go false same = omega (arith, same)

-- The name by the types from one on has the constants of all of them in front, and behind it the other tags from that one on.
pub named-around : (t : DerivedType) (ring front left : List DerivedType) → ring ≡ front ++ t ∷ left → (last : List ℕ) → named_chain (tags_in (t ∷ (left ++ front))) last ≡ consts_front (consts_of ring) ++ (last ++ behind (spelt_of (t ∷ (left ++ front))))
named-around t ring front left is last =
    let all = t ∷ (left ++ front) in
    let fronts : in_front (tags_in all) ≡ consts_front (consts_of ring) = front-turned (t ∷ left) front ∙ ap (λ ts. in_front (tags_in ts)) (sym is) ∙ consts-front ring in
    ap (λ xs. xs ++ (last ++ behind (tags_in all))) fronts ∙ ap (λ xs. consts_front (consts_of ring) ++ (last ++ xs)) (behind-spelt all)
