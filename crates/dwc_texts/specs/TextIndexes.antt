-- The index of a list of texts: where it says that a text stands.
use Rattle.std.specs.Prelude.{◌≡◌, ◌≢◌, ◌<◌, ◌+◌, ◌-◌, ◌%◌, ◌==◌, ℕ, List, [], length, get_or, Option, Some, None, IfSome, if◌then◌else◌}
use Rattle.std.specs.List.{position}
use Rattle.std.specs.Str.{bytes_eq}
use Rattle.std.specs.BTreeMap.{BTreeMap, get, get_by}
use Rattle.std.specs.Global.{Vec}
use Rattle.std.specs.Cmp.Lexicographic.{slice_cmp}
use Rattle.std.specs.Ordering.{nat_cmp}
use Rattle.std.specs.Hash.FoldHasher as folding
use Rattle.dwc_texts.specs.declared.index.TextIndex.{TextIndex}
use Rattle.dwc_texts.specs.declared.index.Slot.{Slot}
use Rattle.dwc_texts.specs.declared.index.Known.{Known}
use Rattle.dwc_texts.specs.declared.index.Known.TheVariants.{Nothing, First, Elsewhere}

-- The number of a text is its hash. Texts may be chosen that have one number.
unfoldable pub text_number : List ℕ → ℕ
text_number t = folding.finish (folding.write folding.initial t)

-- Where a text stands, if the first text of its number stands at a place: there, or else at the place that is kept for its bytes.
abbrev pub place_behind : (List ℕ → Option ℕ) → List (List ℕ) → List ℕ → Option ℕ → Option ℕ
place_behind others ts t None = None
place_behind others ts t (Some i) = if bytes_eq (get_or ts i []) t then Some i else others t

-- The places that are kept for numbers and for bytes lead each text to its place, and all others nowhere.
pub record ArePlaces (firsts : ℕ → Option ℕ) (others : List ℕ → Option ℕ) (ts : List (List ℕ)) : Type 0 where
  pub found : (t : List ℕ) → place_behind others ts t (firsts (text_number t)) ≡ position (bytes_eq t) ts
  -- a place is kept for bytes only where there is one for their number
  pub first : (t : List ℕ) → firsts (text_number t) ≡ None → others t ≡ None
  pub inside : (n : ℕ) → IfSome (firsts n) (λ i. i < length ts)

-- the place that a map has for the bytes of a text
abbrev pub place_by_bytes : BTreeMap (Vec ℕ) ℕ → List ℕ → Option ℕ
place_by_bytes m t = get_by (λ k. slice_cmp nat_cmp t k.items) m

-- ---- the slots of numbers

abbrev pub slot_count : ℕ
slot_count = 8192

-- a slot that is free, and one of a number whose first text stands at a place
abbrev pub free_slot : Slot
free_slot = record { number = 0; behind = 0 }

abbrev pub taken : ℕ → ℕ → Slot
taken number place = record { number = number; behind = place + 1 }

-- the slot of a number
abbrev pub slot_in : List Slot → ℕ → Slot
slot_in slots n = get_or slots (n % slot_count) free_slot

-- where the first text of a number stands, by its slot, and by a map of numbers where another has the slot
abbrev pub first_by : Slot → Option ℕ → ℕ → Option ℕ
first_by slot spare n = if slot.behind == 0 then None else (if slot.number == n then Some (slot.behind - 1) else spare)

abbrev pub first_in : List Slot → (ℕ → Option ℕ) → ℕ → Option ℕ
first_in slots spare n = first_by (slot_in slots n) (spare n) n

-- the map has numbers alone whose slot is taken
abbrev pub AreSpare : List Slot → (ℕ → Option ℕ) → Type 0
AreSpare slots spare = (n : ℕ) → (slot_in slots n).behind ≡ 0 → spare n ≡ None

-- there are no slots yet, or all of them
abbrev pub AreSized : List Slot → Type 0
AreSized slots = 0 < length slots → length slots ≡ slot_count

-- there are all slots, as they were before
pub record HasAllSlots (old new : List Slot) : Type 0 where
  pub all : length new ≡ slot_count
  pub same : (n : ℕ) → slot_in new n ≡ slot_in old n

-- no place is known for a number, whose slot another has
pub record IsElsewhere (slots : List Slot) (spare : ℕ → Option ℕ) (n : ℕ) : Type 0 where
  pub is_taken : (slot_in slots n).behind ≢ 0
  pub is_other : (slot_in slots n).number ≢ n
  pub none : spare n ≡ None

-- what is known of a number
abbrev pub IsKnown : List Slot → (ℕ → Option ℕ) → ℕ → Known → Type 0
IsKnown slots spare n Nothing = (slot_in slots n).behind ≡ 0
IsKnown slots spare n (First place) = first_in slots spare n ≡ Some place
IsKnown slots spare n Elsewhere = IsElsewhere slots spare n

abbrev pub known_place : Known → Option ℕ
known_place Nothing = None
known_place (First place) = Some place
known_place Elsewhere = None

-- ---- an index

-- An index is that of texts, which are all different.
pub record AreIndexed (index : TextIndex) (ts : List (List ℕ)) : Type 0 where
  pub places : ArePlaces (first_in index.slots.items (get nat_cmp index.spare)) (place_by_bytes index.others) ts
  pub spare : AreSpare index.slots.items (get nat_cmp index.spare)
  pub sized : AreSized index.slots.items
