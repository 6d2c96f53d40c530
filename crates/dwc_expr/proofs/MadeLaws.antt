-- Ranges that are made of parts of others, and put behind more.
use Rattle.std.proofs.Common.{◌≡◌, ℕ, ◌<◌, ◌≤◌, min, max, Some, None, List, [], ◌∷◌, ◌++◌, get_or, sym, ap, subst, ◌∙◌, inl, inr, refl, append_assoc, append-nil}
use Rattle.std.specs.Prelude.{Bool, if◌then◌else◌, option_to_list}
use Rattle.std.specs.List.{AllZip}
use Rattle.std.proofs.lemmas.Bool.{le-ltb, lt-ltb}
use Rattle.dwc_native.specs.Compiled.{LabelRange}
use Rattle.dwc_native.specs.Placed.{NativeRange}
use Rattle.dwc_base.proofs.InLists.{IsIn}
use Rattle.dwc_expr.specs.declared.ranges.cached_range.CachedValueLabelRange.{CachedValueLabelRange}
use Rattle.dwc_expr.specs.NarrowedRanges.{Appends, IsMadeOf, IsMadeBy, IsMadeIn}
use Rattle.dwc_expr.specs.LabelRanges.{bounds_of}
use Rattle.dwc_expr.specs.PlacedParts.{PlacedPart, cut_by}

zip-append : {A B : Type 0} (R : A → B → Type 0) (xs zs : List A) (ys ws : List B) → AllZip R xs ys → AllZip R zs ws → AllZip R (xs ++ zs) (ys ++ ws)
zip-append R [] zs [] ws h g = g
zip-append R [] zs (y ∷ ys) ws h g = absurd h
zip-append R (x ∷ xs) zs [] ws h g = absurd h
zip-append R (x ∷ xs) zs (y ∷ ys) ws h g = (h.0, zip-append R xs zs ys ws h.1 g)

zip-weaker : {A B : Type 0} (R S : A → B → Type 0) (xs : List A) (ys : List B) → ((x : A) (y : B) → IsIn x xs → R x y → S x y) → AllZip R xs ys → AllZip S xs ys
zip-weaker R S [] [] f h = h
zip-weaker R S [] (y ∷ ys) f h = absurd h
zip-weaker R S (x ∷ xs) [] f h = absurd h
zip-weaker R S (x ∷ xs) (y ∷ ys) f h = (f x y (inl refl) h.0, zip-weaker R S xs ys (λ z w i. f z w (inr i)) h.1)

module _ (R : PlacedPart → CachedValueLabelRange → Type 0) where
  pub appends-none : (old : List CachedValueLabelRange) → Appends R [] old old
  appends-none old = record { more = []; is = sym (append-nil old); zip = tt }

  pub appends-one : (x : PlacedPart) (y : CachedValueLabelRange) (old new : List CachedValueLabelRange) → new ≡ old ++ y ∷ [] → R x y → Appends R (x ∷ []) old new
  appends-one x y old new put is = record { more = y ∷ []; is = put; zip = (is, tt) }

  appends-then : (xs ys : List PlacedPart) (a b c : List CachedValueLabelRange) → Appends R xs a b → Appends R ys b c → Appends R (xs ++ ys) a c
  appends-then xs ys a b c p q = record { more = p.more ++ q.more; is = q.is ∙ ap (λ zs. zs ++ q.more) p.is ∙ append_assoc a p.more q.more; zip = zip-append R xs ys p.more q.more p.zip q.zip }

  -- Whatever is put for the parts that are left, all is put with it.
  abbrev pub Leads : List PlacedPart → List PlacedPart → List CachedValueLabelRange → List CachedValueLabelRange → Type 0
  Leads left all now old = (new : List CachedValueLabelRange) → Appends R left now new → Appends R all old new

  pub leads-more : (xs rest left all : List PlacedPart) (old now next : List CachedValueLabelRange) → left ≡ xs ++ rest → Appends R xs now next → Leads left all now old → Leads rest all next old
  leads-more xs rest left all old now next split put leads = λ new a. leads new (subst (λ ps. Appends R ps now new) (sym split) (appends-then xs rest now next new put a))

  pub leads-end : (left all : List PlacedPart) (old now : List CachedValueLabelRange) → left ≡ [] → Leads left all now old → Appends R all old now
  leads-end left all old now none leads = leads now (subst (λ ps. Appends R ps now now) (sym none) (appends-none now))

-- the part in a piece, if there is one
module _ (label : ℕ) (range : CachedValueLabelRange) (index : ℕ) (p : LabelRange) where
  abbrev bytes : NativeRange
  bytes = record { function = range.func_index; start = max range.start p.start; end = min range.end p.end }

  abbrev Puts : Bool → List CachedValueLabelRange → List CachedValueLabelRange → Type 0
  Puts b = Appends (IsMadeBy label range) (option_to_list (if b then Some (record { index = index; bytes = bytes; place = p.place }) else None))

  pub appends-cut : (y : CachedValueLabelRange) (old new : List CachedValueLabelRange) → max range.start p.start < min range.end p.end → new ≡ old ++ y ∷ [] → IsMadeOf label range bytes p.place y
      → Appends (IsMadeBy label range) (option_to_list (cut_by index (bounds_of range) p)) old new
  appends-cut y old new some put made = subst (λ b. Puts b old new) (sym (lt-ltb (max range.start p.start) (min range.end p.end) some)) (appends-one (IsMadeBy label range) (record { index = index; bytes = bytes; place = p.place }) y old new put made)

  pub appends-uncut : (old : List CachedValueLabelRange) → min range.end p.end ≤ max range.start p.start → Appends (IsMadeBy label range) (option_to_list (cut_by index (bounds_of range) p)) old old
  appends-uncut old none = subst (λ b. Puts b old old) (sym (le-ltb (max range.start p.start) (min range.end p.end) none)) (appends-none (IsMadeBy label range) old)

-- parts of the range at a number
pub appends-in :
    (label : ℕ) (ranges : List CachedValueLabelRange) (n : ℕ) (range : CachedValueLabelRange) (parts : List PlacedPart) (old new : List CachedValueLabelRange) → ((d : CachedValueLabelRange) → range ≡ get_or ranges n d) → ((x : PlacedPart) → IsIn x parts → x.index ≡ n)
    → Appends (IsMadeBy label range) parts old new → Appends (IsMadeIn label ranges) parts old new
appends-in label ranges n range parts old new read number a = record {
  more = a.more;
  is = a.is;
  zip = zip-weaker (IsMadeBy label range) (IsMadeIn label ranges) parts a.more (λ x y i made d. subst (λ r. IsMadeBy label r x y) (read d ∙ ap (λ k. get_or ranges k d) (sym (number x i))) made) a.zip;
}
