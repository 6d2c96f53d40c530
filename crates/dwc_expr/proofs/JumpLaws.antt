-- Distances of jumps, and walks over parts that have jumps.
use Rattle.std.proofs.Common.{◌≡◌, ℕ, ◌+◌, Bool, true, false, ◌&&◌, if◌then◌else◌, ℤ, pos, List, [], ◌∷◌, ◌++◌, length, append-nil, append_assoc, Option, Some, None, Result, ok_or, refl, ap, sym, subst, ◌∙◌}
use Rattle.dwc_native.specs.Built.{Setting, part_bytes, part_length, distance_of, bytes_from, built_bytes, is_16_bit, jumps_fit_from, jumps_fit}
use Rattle.dwc_native.specs.Parts.{Part, dereference}
use Rattle.dwc_expr.specs.declared.error.ExprError.{ExprError}
use Rattle.dwc_expr.specs.declared.error.ExprError.TheVariants.{TooLarge}
use Rattle.dwc_expr.specs.Jumps.{fitting, GivesDistance}

-- a distance that is answered, or told to be too large
pub distance-given : (d : ℤ) (o : Option ℤ) (r : Result ℤ ExprError) → o ≡ fitting d → r ≡ ok_or o TooLarge → GivesDistance d r
distance-given d o r fitted answered = subst (GivesDistance d) (sym (answered ∙ ap (λ p. ok_or p TooLarge) fitted)) (go (is_16_bit d) refl)
  where
    go : (b : Bool) → is_16_bit d ≡ b → GivesDistance d (ok_or (if b then Some d else None) TooLarge)
    go true fits = (fits, refl)
    go false fits = (fits, refl)

-- ---- parts, behind which there may be an address to be made of the result

-- the last part, if there is one, and its bytes
abbrev last_part : Bool → List Part
last_part wanted = if wanted then dereference ∷ [] else []

abbrev last_bytes : Setting → Bool → List ℕ
last_bytes s wanted = if wanted then part_bytes s (pos 0) dereference else []

module _ (s : Setting) (all : List Part) (wanted : Bool) where
  bytes-behind : (offset : ℕ) (parts : List Part) → bytes_from s all offset (parts ++ last_part wanted) ≡ bytes_from s all offset parts ++ last_bytes s wanted
  bytes-behind offset [] = go wanted
    where
      go : (b : Bool) → bytes_from s all offset (last_part b) ≡ last_bytes s b
      go true = append-nil (part_bytes s (pos 0) dereference)
      go false = refl
  bytes-behind offset (part ∷ parts) =
      ap (λ bytes. part_bytes s (distance_of s all offset part) part ++ bytes) (bytes-behind (offset + part_length s part) parts)
      ∙ sym (append_assoc (part_bytes s (distance_of s all offset part) part) (bytes_from s all (offset + part_length s part) parts) (last_bytes s wanted))

  fits-behind : (offset : ℕ) (parts : List Part) → jumps_fit_from s all offset (parts ++ last_part wanted) ≡ jumps_fit_from s all offset parts
  fits-behind offset [] = go wanted
    where
      go : (b : Bool) → jumps_fit_from s all offset (last_part b) ≡ true
      go true = refl
      go false = refl
  fits-behind offset (part ∷ parts) = ap (λ b. is_16_bit (distance_of s all offset part) && b) (fits-behind (offset + part_length s part) parts)

-- what is put into an empty buffer
module _ (s : Setting) (parts : List Part) (wanted : Bool) (empty : List ℕ) (is : empty ≡ []) where
  pub fits-whole : jumps_fit_from s (parts ++ last_part wanted) (length empty) parts ≡ jumps_fit s (parts ++ last_part wanted)
  fits-whole = ap (λ bytes. jumps_fit_from s (parts ++ last_part wanted) (length bytes) parts) is ∙ sym (fits-behind s (parts ++ last_part wanted) wanted 0 parts)

  pub bytes-whole : (bytes final : List ℕ) → bytes ≡ empty ++ bytes_from s (parts ++ last_part wanted) (length empty) parts → final ≡ bytes ++ last_bytes s wanted → final ≡ built_bytes s (parts ++ last_part wanted)
  unfolding built_bytes
  bytes-whole bytes final put last =
      last
      ∙ ap (λ bs. bs ++ last_bytes s wanted) (put ∙ ap (λ old. old ++ bytes_from s (parts ++ last_part wanted) (length old) parts) is)
      ∙ sym (bytes-behind s (parts ++ last_part wanted) wanted 0 parts)
