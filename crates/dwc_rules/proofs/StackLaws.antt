-- What is left of a stack for a depth is below that depth, where the depths of the stack rise.
use Rattle.std.proofs.Common.{◌≡◌, true, false, Bool, if◌then◌else◌, ℤ, ◌<ℤ◌, int_le, List, [], ◌∷◌, All, arith, refl, ap, ◌∙◌, pos, reverse, Option, Some, None, option_map}
use Rattle.std.proofs.lemmas.List.{reverse-append}
use Rattle.std.specs.List.{cons_option, filter_map}
use Rattle.dwc_dwarf.specs.Entries.{Entry}
use Rattle.dwc_base.specs.Listing.{first_of}
use Rattle.dwc_base.specs.Wasm.{last_of}
use Rattle.dwc_base.proofs.LastOf.{last_of-push}
use Rattle.std.proofs.lemmas.Int.{ints}
use Rattle.std.proofs.lemmas.List.Elements.{All-nil, All-cons, All-head, All-tail}
use Rattle.dwc_rules.specs.Scopes.{DepthsRise, Given, LeftBelow, TopInForce, left_for, left_under}

-- what is not at or above a depth is below it
below-from : (depth item : ℤ) → int_le depth item ≡ false → item <ℤ depth
below-from depth item test = omega (arith, ints, test)

module _ {X : Type 0} where
  -- what holds of all of a stack holds of what is left of it
  left-all : (P : Given X → Type 0) (depth : ℤ) (gs : List (Given X)) → All P gs → All P (left_for depth gs)
  left-all P depth [] all = All-nil P
  left-all P depth (g ∷ gs) all = go (left_for depth gs) (left-all P depth gs (All-tail P g gs all))
    where
      one : (b : Bool) → All P (if b then [] else g ∷ [])
      one true = All-nil P
      one false = All-cons P g [] (All-head P g gs all) (All-nil P)

      go : (rest : List (Given X)) → All P rest → All P (left_under depth g rest)
      go [] h = one (int_le depth g.0)
      go (r ∷ rest) h = All-cons P g (r ∷ rest) (All-head P g gs all) h

  -- one law's answer for a stack and a depth
  abbrev pub IsBelow : ℤ → List (Given X) → Type 0
  IsBelow depth gs = All (λ g. g.0 <ℤ depth) gs × DepthsRise gs

  -- the law of a stack
  pub left-below : (gs : List (Given X)) → LeftBelow gs
  left-below [] rise depth = (All-nil (λ h. h.0 <ℤ depth), tt)
  left-below (g ∷ gs) rise depth = go (left_for depth gs) (left-below gs rise.1 depth) (left-all (λ h. g.0 <ℤ h.0) depth gs rise.0)
    where
      one : (b : Bool) → int_le depth g.0 ≡ b → IsBelow depth (if b then [] else g ∷ [])
      one true test = (All-nil (λ h. h.0 <ℤ depth), tt)
      one false test = (All-cons (λ h. h.0 <ℤ depth) g [] (below-from depth g.0 test) (All-nil (λ h. h.0 <ℤ depth)), (All-nil (λ h. g.0 <ℤ h.0), tt))

      go : (rest : List (Given X)) → IsBelow depth rest → All (λ h. g.0 <ℤ h.0) rest → IsBelow depth (left_under depth g rest)
      go [] below above = one (int_le depth g.0) refl
      go (r ∷ rest) below above =
          let before : g.0 <ℤ r.0 = All-head (λ h. g.0 <ℤ h.0) r rest above in
          let under : r.0 <ℤ depth = All-head (λ h. h.0 <ℤ depth) r rest below.0 in
          (All-cons (λ h. h.0 <ℤ depth) g (r ∷ rest) (omega (arith, ints, before, under)) below.0, (above, below.1))

-- ---- what is in force

last-reverse : {A : Type 0} (xs : List A) → last_of (reverse xs) ≡ first_of xs
last-reverse [] = refl
last-reverse (x ∷ xs) = ap last_of (reverse-append (x ∷ []) xs) ∙ last_of-push (reverse xs) x

module _ {X : Type 0} (gives : Entry → Option X) where
  first-given : (es : List Entry) → option_map (λ (g : Given X). g.1) (first_of (filter_map (λ e. option_map (λ x. (pos e.depth, x)) (gives e)) es)) ≡ first_of (filter_map gives es)
  first-given [] = refl
  first-given (e ∷ es) = go (gives e) (first-given es)
    where
      rest : List (Given X)
      rest = filter_map (λ e. option_map (λ x. (pos e.depth, x)) (gives e)) es

      go : (o : Option X) → option_map (λ (g : Given X). g.1) (first_of rest) ≡ first_of (filter_map gives es) → option_map (λ (g : Given X). g.1) (first_of (cons_option (option_map (λ x. (pos e.depth, x)) o) rest)) ≡ first_of (cons_option o (filter_map gives es))
      go None h = h
      go (Some x) h = refl

  -- the top of a lineage's stack is what is in force
  pub top-in-force : (es : List Entry) → TopInForce gives es
  top-in-force es = ap (option_map (λ (g : Given X). g.1)) (last-reverse (filter_map (λ e. option_map (λ x. (pos e.depth, x)) (gives e)) es)) ∙ first-given es
