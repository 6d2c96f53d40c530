-- What is found among the entries of a map holds of them as they are counted from the code section.
use Rattle.std.proofs.Common.{◌≡◌, ℕ, ◌<◌, arith, List, map, length, get_or, ap}
use Rattle.std.specs.List.Sorted.{IsNonDecreasingBy}
use Rattle.std.proofs.lemmas.List.{get_or-map, length-map}
use Rattle.dwc_compiled.specs.declared.instruction_maps.InstructionSource.{InstructionSource}
use Rattle.dwc_addr.specs.PositionPlaces.{IsCountBelow, IsCountUpTo}

-- what stands past the end of entries
abbrev pub no_entry : InstructionSource
no_entry = record { code_offset = 0; source = 0 }

module _ {X Y : Type 0} (f : X → Y) (n : Y → ℕ) (none : X) (xs : List X) where
  seen-at : (i : ℕ) (d : Y) → i < length xs → n (get_or (map f xs) i d) ≡ n (f (get_or xs i none))
  seen-at i d less = ap n (get_or-map f xs i none d less)

  -- they rise as they are seen
  pub rise-seen : IsNonDecreasingBy n (map f xs) → IsNonDecreasingBy (λ x. n (f x)) xs
  rise-seen h i j d low less =
      omega (arith, h i j (f d) low (omega (arith, less, length-map xs f)), ap n (get_or-map f xs i d (f d) (omega (arith, low, less))), ap n (get_or-map f xs j d (f d) less))

  pub below-seen : (a count : ℕ) → IsCountBelow (λ x. n (f x)) xs a count → IsCountBelow n (map f xs) a count
  below-seen a count h = record {
    inside = omega (arith, h.inside, length-map xs f);
    below = λ i d less. omega (arith, h.below i none less, seen-at i d (omega (arith, less, h.inside)));
    above = λ i d low less. omega (arith, h.above i none low (omega (arith, less, length-map xs f)), seen-at i d (omega (arith, less, length-map xs f)));
  }

  pub up_to-seen : (a count : ℕ) → IsCountUpTo (λ x. n (f x)) xs a count → IsCountUpTo n (map f xs) a count
  up_to-seen a count h = record {
    inside = omega (arith, h.inside, length-map xs f);
    below = λ i d less. omega (arith, h.below i none less, seen-at i d (omega (arith, less, h.inside)));
    above = λ i d low less. omega (arith, h.above i none low (omega (arith, less, length-map xs f)), seen-at i d (omega (arith, less, length-map xs f)));
  }
