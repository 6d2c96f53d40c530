-- A walk over parts that puts their bytes, one part more.
use Rattle.std.proofs.Common.{◌≡◌, ℕ, ◌+◌, ◌<◌, Bool, true, false, ◌&&◌, ℤ, List, ◌∷◌, ◌++◌, length, map, drop, get_or, append_assoc, IfSome, IsSome, Ok, Err, refl, ap, sym, subst, ◌∙◌}
use Rattle.std.proofs.lemmas.List.{at_drop_more, length-append}
use Rattle.dwc_native.specs.Built.{Setting, part_bytes, part_length, distance_of, bytes_from, is_16_bit, jumps_fit_from}
use Rattle.dwc_native.specs.Parts.{Part, code, local, dereference, jump, landing_pad}
use Rattle.dwc_base.proofs.InLists.{IsIn, at-in, map-in}
use Rattle.dwc_expr.specs.declared.error.ExprError.{ExprError}
use Rattle.dwc_expr.specs.declared.build.pads.Pads.{Pads}
use Rattle.dwc_expr.specs.declared.part.CompiledExpressionPart.{CompiledExpressionPart}
use Rattle.dwc_expr.specs.Jumps.{pad_in, distance_by, unless_fit, KnowsPad, KnowsPads, GivesDistance}
use Rattle.dwc_expr.specs.PartViews.{part_view}
use Rattle.dwc_expr.specs.Refusals.{TellsFirst}
use Rattle.dwc_expr.specs.WholeParts.{jump_place}
use Rattle.dwc_expr.proofs.KnownLaws.{part-known, pad-known, distance-known}

-- a part is as long whatever its distance is
length-same : (s : Setting) (distance : ℤ) (p : Part) → length (part_bytes s distance p) ≡ part_length s p
length-same s distance (code c) = refl
length-same s distance (local label true) = refl
length-same s distance (local label false) = refl
length-same s distance dereference = refl
length-same s distance (jump conditionally place) = refl
length-same s distance (landing_pad place) = refl

module _ (s : Setting) (all : List Part) (pads : Pads) (parts : List CompiledExpressionPart) (known : KnowsPads s all (map part_view parts) pads) (i : ℕ) (x : CompiledExpressionPart) (inside : i < length parts) (is : x ≡ get_or parts i x) where
  abbrev part : Part
  part = part_view x

  abbrev rest : List Part
  rest = map part_view (drop (i + 1) parts)

  here : IfSome (jump_place part) (KnowsPad s all pads)
  here = part-known s all pads (map part_view parts) known part (map-in part_view parts x (subst (λ y. IsIn y parts) (sym is) (at-in parts i x inside)))

  -- its landing pad is known, if it jumps
  pub pad-there : IfSome (jump_place part) (λ place. IsSome (pad_in pads place))
  pad-there = pad-known s all pads part here

  left : {A : Type 0} (f : List Part → A) → f (map part_view (drop i parts)) ≡ f (part ∷ rest)
  left f = at_drop_more (λ xs. f (map part_view xs)) parts i x inside ∙ ap (λ y. f (part_view y ∷ rest)) (sym is)

  module _ (old : List ℕ) (offset : ℕ) (at : offset ≡ length old) where
    distance-is : distance_by pads offset part ≡ distance_of s all (length old) part
    distance-is = distance-known s all pads offset part here ∙ ap (λ n. distance_of s all n part) at

    -- a jump that goes too far is told
    pub too-far : (e : ExprError) (fit : Bool) → GivesDistance (distance_by pads offset part) (Err e) → jumps_fit_from s all (length old) (map part_view (drop i parts)) ≡ fit → TellsFirst (unless_fit fit) e
    too-far e fit told same =
        let short : is_16_bit (distance_of s all (length old) part) ≡ false = ap is_16_bit (sym distance-is) ∙ told.0 in
        let none : fit ≡ false = sym same ∙ left (jumps_fit_from s all (length old)) ∙ ap (λ b. b && jumps_fit_from s all (length old + part_length s part) rest) short in
        rw (told.1, none) refl

    module _ (new : List ℕ) (distance put_over : ℤ) (given : GivesDistance (distance_by pads offset part) (Ok distance)) (over : put_over ≡ distance) (put : new ≡ old ++ part_bytes s put_over part) where
      longer : length new ≡ length old + part_length s part
      longer = ap length put ∙ length-append old (part_bytes s put_over part) ∙ ap (λ n. length old + n) (length-same s put_over part)

      -- one that does not leaves it to the others
      fits-more : (fit : Bool) → jumps_fit_from s all (length old) (map part_view (drop i parts)) ≡ fit → jumps_fit_from s all (length new) rest ≡ fit
      fits-more fit same =
          ap (λ n. jumps_fit_from s all n rest) longer
          ∙ sym (left (jumps_fit_from s all (length old)) ∙ ap (λ b. b && jumps_fit_from s all (length old + part_length s part) rest) (ap is_16_bit (sym distance-is) ∙ given.0))
          ∙ same

      -- its bytes stand behind those in front of it
      bytes-more : (whole : List ℕ) → old ++ bytes_from s all (length old) (map part_view (drop i parts)) ≡ whole → new ++ bytes_from s all (length new) rest ≡ whole
      bytes-more whole same =
          ap (λ n. new ++ bytes_from s all n rest) longer
          ∙ ap (λ bytes. bytes ++ bytes_from s all (length old + part_length s part) rest) (put ∙ ap (λ d. old ++ part_bytes s d part) (over ∙ given.1 ∙ distance-is))
          ∙ append_assoc old (part_bytes s (distance_of s all (length old) part) part) (bytes_from s all (length old + part_length s part) rest)
          ∙ sym (left (λ ps. old ++ bytes_from s all (length old) ps))
          ∙ same

      -- both, of a walk that began behind some bytes
      pub walk-more :
          (first : List ℕ) → old ++ bytes_from s all (length old) (map part_view (drop i parts)) ≡ first ++ bytes_from s all (length first) (map part_view parts)
          → jumps_fit_from s all (length old) (map part_view (drop i parts)) ≡ jumps_fit_from s all (length first) (map part_view parts)
          → (new ++ bytes_from s all (length new) rest ≡ first ++ bytes_from s all (length first) (map part_view parts)) × (jumps_fit_from s all (length new) rest ≡ jumps_fit_from s all (length first) (map part_view parts))
      walk-more first bytes fits = (bytes-more (first ++ bytes_from s all (length first) (map part_view parts)) bytes, fits-more (jumps_fit_from s all (length first) (map part_view parts)) fits)
