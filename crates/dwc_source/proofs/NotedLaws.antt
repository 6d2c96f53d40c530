-- The slots of offsets once all of them are made.
use Rattle.std.proofs.Common.{◌≡◌, ℕ, zero, suc, ◌%◌, ◌≤◌, ◌++◌, [], ◌∷◌, refl, ap, ◌∙◌, List, get_or, length, replicate, take}
use Rattle.std.proofs.lemmas.List.{take_all}
use Rattle.dwc_source.specs.declared.noted_offsets.Slot.{Slot}
use Rattle.dwc_source.specs.NotedOffsets.{free_slot, slot_count, slot_in}

free-all : (count i : ℕ) → get_or (replicate count free_slot) i free_slot ≡ free_slot
free-all zero i = refl
free-all (suc count) zero = refl
free-all (suc count) (suc i) = free-all count i

free-behind : (slots : List Slot) (count k : ℕ) → get_or (slots ++ replicate count free_slot) k free_slot ≡ get_or slots k free_slot
free-behind [] count k = free-all count k
free-behind (s ∷ slots) count zero = refl
free-behind (s ∷ slots) count (suc k) = free-behind slots count k

-- free slots behind those that there were say nothing
pub slots-made : (old new : List Slot) (count n : ℕ) → length old ≤ slot_count → new ≡ take slot_count old ++ replicate count free_slot → slot_in new n ≡ slot_in old n
slots-made old new count n less made = ap (λ xs. get_or xs (n % slot_count) free_slot) (made ∙ ap (λ xs. xs ++ replicate count free_slot) (take_all slot_count old less)) ∙ free-behind old count (n % slot_count)
