-- What is known of each of some parts: that the label that it needs has a place on a range, and the landing pad to which it jumps.
use Rattle.std.proofs.Common.{◌≡◌, ℕ, ◌==◌, List, [], ◌∷◌, map, All, Bool, true, false, if◌then◌else◌, Option, Some, None, IfSome, IsSome, is_some, filter_map, unwrap_or, pos, ◌-ℤ◌, ◌+◌, refl, ap, sym, subst, ◌∙◌, inl, true≢false}
use Rattle.std.specs.List.{list_any}
use Rattle.std.proofs.lemmas.Bool.{eqb-true, eq-eqb}
use Rattle.std.proofs.lemmas.List.Elements.{All-nil, All-weaker}
use Rattle.dwc_native.specs.Built.{Setting, distance_of, jump_length}
use Rattle.dwc_native.specs.Parts.{Part, code, local, dereference, jump, landing_pad, is_jump}
use Rattle.dwc_native.specs.Placed.{label_needed}
use Rattle.dwc_base.proofs.InLists.{IsIn, any-in, in-any, append-left, append-right, map-in, filter_map-in}
use Rattle.dwc_expr.specs.declared.ranges.cached_range.CachedValueLabelRange.{CachedValueLabelRange}
use Rattle.dwc_expr.specs.declared.build.pads.Pads.{Pads}
use Rattle.dwc_expr.specs.declared.build.parts_to_build.PartsToBuild.{PartsToBuild}
use Rattle.dwc_expr.specs.Jumps.{pad_in, distance_by, KnowsPad, FindsPads, KnowsPads}
use Rattle.dwc_expr.specs.LabelRanges.{location_in, IsPlacedOn, HasPlaces}
use Rattle.dwc_expr.specs.NeededLabels.{HaveSameFirsts}
use Rattle.dwc_expr.specs.PartViews.{part_view}
use Rattle.dwc_expr.specs.PartsToBuild.{all_parts, labels_needed}
use Rattle.dwc_expr.specs.WholeParts.{jump_place, has_pad, JumpsLand}
use Rattle.dwc_expr.proofs.FirstLaws.{same-member}
use Rattle.dwc_expr.proofs.PairLaws.{all-in, in-all, filter-none}

-- what holds of all that a function gives holds of what it gives of each
each-given : {A B : Type 0} (f : A → Option B) (P : B → Type 0) (xs : List A) → All P (filter_map f xs) → (x : A) → IsIn x xs → IfSome (f x) P
each-given {A} {B} f P xs all x i = go (f x) refl
  where
    go : (o : Option B) → f x ≡ o → IfSome o P
    go None is = tt
    go (Some y) is = all-in P (filter_map f xs) all y (filter_map-in f xs x y i is)

-- ---- the places of labels

module _ (r : CachedValueLabelRange) (p : PartsToBuild) (h : HasPlaces (labels_needed p) r) where
  abbrev last : List Part
  last = if p.then_dereference then dereference ∷ [] else []

  placed-in : (x : Part) → IsIn x (all_parts p) → IsPlacedOn r x
  placed-in x i = each-given label_needed (λ label. IsSome (location_in r label)) (all_parts p) h x i

  pub parts-placed : All (λ x. IsPlacedOn r (part_view x)) p.parts.now
  parts-placed = in-all (λ x. IsPlacedOn r (part_view x)) p.parts.now (λ x i. placed-in (part_view x) (append-left (map part_view p.parts.now) last (part_view x) (map-in part_view p.parts.now x i)))

  pub last-placed : p.then_dereference ≡ true → IsPlacedOn r dereference
  last-placed wanted = placed-in dereference (append-right (map part_view p.parts.now) last dereference (subst (λ b. IsIn dereference (if b then dereference ∷ [] else [])) (sym wanted) (inl refl)))

-- labels with the same firsts are the same labels
same-places : (ms ns : List ℕ) (r : CachedValueLabelRange) → HaveSameFirsts ms ns → HasPlaces ms r → HasPlaces ns r
same-places ms ns r same h = in-all (λ label. IsSome (location_in r label)) ns at
  where
    at : (label : ℕ) → IsIn label ns → IsSome (location_in r label)
    at label i =
        let found = any-in (λ l. l == label) ms (same-member ms ns same label ∙ in-any (λ l. l == label) ns label i (eq-eqb label label refl)) in
        subst (λ l. IsSome (location_in r l)) (eqb-true found.0 label found.2) (all-in (λ l. IsSome (location_in r l)) ms h found.0 found.1)

pub each-place : (ms ns : List ℕ) (ranges : List CachedValueLabelRange) → HaveSameFirsts ms ns → All (HasPlaces ms) ranges → All (HasPlaces ns) ranges
each-place ms ns ranges same all = All-weaker (HasPlaces ms) (HasPlaces ns) (λ r. same-places ms ns r same) ranges all

-- ---- landing pads

module _ (s : Setting) (all : List Part) (pads : Pads) where
  no-place : (p : Part) → is_jump p ≡ false → jump_place p ≡ None
  no-place (code c) none = refl
  no-place (local label trailing) none = refl
  no-place dereference none = refl
  no-place (jump conditionally place) none = absurd (true≢false none)
  no-place (landing_pad place) none = refl

  -- where nothing jumps all is known
  pub no-jumps : (parts : List Part) → list_any is_jump parts ≡ false → KnowsPads s all parts pads
  no-jumps parts none = subst (All (KnowsPad s all pads)) (sym (filter-none jump_place parts (λ p i. no-place p (stands (is_jump p) (in-any is_jump parts p i))))) (All-nil (KnowsPad s all pads))
    where
      stands : (b : Bool) → (b ≡ true → list_any is_jump parts ≡ true) → b ≡ false
      stands true any = absurd (true≢false (sym (any refl) ∙ none))
      stands false any = refl

  -- where all landing pads are found, those to which parts jump that land are known
  pub found-known : (parts : List Part) → JumpsLand parts → FindsPads s all parts pads → KnowsPads s all parts pads
  found-known parts lands found = All-weaker (λ place. has_pad parts place ≡ true) (KnowsPad s all pads) found (filter_map jump_place parts) lands

  pub part-known : (parts : List Part) → KnowsPads s all parts pads → (p : Part) → IsIn p parts → IfSome (jump_place p) (KnowsPad s all pads)
  part-known parts known p i = each-given jump_place (KnowsPad s all pads) parts known p i

  pub pad-known : (p : Part) → IfSome (jump_place p) (KnowsPad s all pads) → IfSome (jump_place p) (λ place. IsSome (pad_in pads place))
  pad-known (jump conditionally place) known = ap is_some known
  pad-known (code c) known = tt
  pad-known (local label trailing) known = tt
  pad-known dereference known = tt
  pad-known (landing_pad place) known = tt

  pub distance-known : (offset : ℕ) (p : Part) → IfSome (jump_place p) (KnowsPad s all pads) → distance_by pads offset p ≡ distance_of s all offset p
  distance-known offset (jump conditionally place) known = ap (λ o. pos (unwrap_or o 0) -ℤ pos (offset + jump_length)) known
  distance-known offset (code c) known = refl
  distance-known offset (local label trailing) known = refl
  distance-known offset dereference known = refl
  distance-known offset (landing_pad place) known = refl
