-- What slots and a map say of numbers, and what they say once a text more is noted.
use Rattle.std.proofs.Common.{◌≡◌, ◌≢◌, ℕ, ◌+◌, ◌-◌, ◌%◌, ◌<◌, ◌==◌, length, refl, sym, ap, subst, ◌∙◌, arith, List, get_or, Bool, true, false, eqb, Option, Some, None}
use Rattle.std.specs.Prelude.{if◌then◌else◌, IfSome}
use Rattle.std.proofs.lemmas.Bool.{eq-eqb, eqb-false, eqb-true}
use Rattle.dwc_texts.specs.declared.index.Slot.{Slot}
use Rattle.dwc_texts.specs.declared.index.Known.{Known}
use Rattle.dwc_texts.specs.declared.index.Known.TheVariants.{Nothing, First, Elsewhere}
use Rattle.std.specs.BTreeMap.{get}
use Rattle.std.specs.List.{position}
use Rattle.std.specs.Ordering.{nat_cmp}
use Rattle.std.specs.Str.{bytes_eq}
use Rattle.dwc_texts.specs.declared.index.TextIndex.{TextIndex}
use Rattle.dwc_texts.specs.TextIndexes.{AreIndexed, AreSpare, IsElsewhere, IsKnown, first_by, first_in, free_slot, known_place, place_behind, place_by_bytes, slot_count, slot_in, taken, text_number}

ne-eqb : (a b : ℕ) → a ≢ b → eqb a b ≡ false
ne-eqb a b apart = go (eqb a b) refl
  where
    go : (c : Bool) → eqb a b ≡ c → c ≡ false
    go true is = absurd (apart (eqb-true a b is))
    go false is = refl

-- what a slot says of a number
pub free-says : (slot : Slot) (o : Option ℕ) (n : ℕ) → slot.behind ≡ 0 → first_by slot o n ≡ None
free-says slot o n free = ap (λ b. if b then None else (if eqb slot.number n then Some (slot.behind - 1) else o)) (eq-eqb slot.behind 0 free)

pub own-says : (slot : Slot) (o : Option ℕ) (n : ℕ) → slot.behind ≢ 0 → slot.number ≡ n → first_by slot o n ≡ Some (slot.behind - 1)
own-says slot o n some is = ap (λ b. if b then None else (if eqb slot.number n then Some (slot.behind - 1) else o)) (ne-eqb slot.behind 0 some) ∙ ap (λ b. if b then Some (slot.behind - 1) else o) (eq-eqb slot.number n is)

pub other-says : (slot : Slot) (o : Option ℕ) (n : ℕ) → slot.behind ≢ 0 → slot.number ≢ n → first_by slot o n ≡ o
other-says slot o n some apart = ap (λ b. if b then None else (if eqb slot.number n then Some (slot.behind - 1) else o)) (ne-eqb slot.behind 0 some) ∙ ap (λ b. if b then Some (slot.behind - 1) else o) (ne-eqb slot.number n apart)

taken-says : (number place : ℕ) (o : Option ℕ) (n : ℕ) → first_by (taken number place) o n ≡ (if eqb number n then Some place else o)
taken-says number place o n =
    let less : (place + 1) - 1 ≡ place = omega arith in
    ap (λ b. if b then None else (if eqb number n then Some ((place + 1) - 1) else o)) (ne-eqb (place + 1) 0 (λ e. omega (arith, e))) ∙ ap (λ p. if eqb number n then Some p else o) less

-- what is known of a number is where its first text stands
pub known-first : (slots : List Slot) (spare : ℕ → Option ℕ) (n : ℕ) (known : Known) → IsKnown slots spare n known → first_in slots spare n ≡ known_place known
known-first slots spare n Nothing is = free-says (slot_in slots n) (spare n) n is
known-first slots spare n (First place) is = is
known-first slots spare n Elsewhere is = other-says (slot_in slots n) (spare n) n is.is_taken is.is_other ∙ is.none

-- so a text is where the index leads
pub found-known : (index : TextIndex) (ts : List (List ℕ)) (t : List ℕ) (number : ℕ) (known : Known) → AreIndexed index ts → number ≡ text_number t → IsKnown index.slots.items (get nat_cmp index.spare) number known → place_behind (place_by_bytes index.others) ts t (known_place known) ≡ position (bytes_eq t) ts
found-known index ts t number known indexed is says =
    let first = subst (λ m. first_in index.slots.items (get nat_cmp index.spare) m ≡ known_place known) is (known-first index.slots.items (get nat_cmp index.spare) number known says) in
    ap (place_behind (place_by_bytes index.others) ts t) (sym first) ∙ indexed.places.found t

-- and where it leads is inside
pub inside-known : (index : TextIndex) (ts : List (List ℕ)) (number : ℕ) (known : Known) → AreIndexed index ts → IsKnown index.slots.items (get nat_cmp index.spare) number known → IfSome (known_place known) (λ place. place < length ts)
inside-known index ts number known indexed says = subst (λ o. IfSome o (λ place. place < length ts)) (known-first index.slots.items (get nat_cmp index.spare) number known says) (indexed.places.inside number)

-- a number whose slot was free
module _ (old new : List Slot) (spare : ℕ → Option ℕ) (number place : ℕ) (is_spare : AreSpare old spare) (free : (slot_in old number).behind ≡ 0) (noted : (n : ℕ) → slot_in new n ≡ (if n % slot_count == number % slot_count then taken number place else slot_in old n)) where
  free-then : (n : ℕ) → (n % slot_count == number % slot_count) ≡ true → (slot_in old n).behind ≡ 0
  free-then n is = ap (λ k. (get_or old k free_slot).behind) (eqb-true (n % slot_count) (number % slot_count) is) ∙ free

  pub slot-noted : (n : ℕ) → first_in new spare n ≡ (if eqb number n then Some place else first_in old spare n)
  slot-noted n = ap (λ s. first_by s (spare n) n) (noted n) ∙ go (n % slot_count == number % slot_count) refl (eqb number n) refl
    where
      go : (b : Bool) → (n % slot_count == number % slot_count) ≡ b → (c : Bool) → eqb number n ≡ c → first_by (if b then taken number place else slot_in old n) (spare n) n ≡ (if c then Some place else first_in old spare n)
      go true is true same = taken-says number place (spare n) n ∙ ap (λ c. if c then Some place else spare n) same
      go true is false apart = taken-says number place (spare n) n ∙ ap (λ c. if c then Some place else spare n) apart ∙ is_spare n (free-then n is) ∙ sym (free-says (slot_in old n) (spare n) n (free-then n is))
      go false is true same = absurd (eqb-false (n % slot_count) (number % slot_count) is (ap (λ m. m % slot_count) (sym (eqb-true number n same))))
      go false is false apart = refl

  pub spare-kept : AreSpare new spare
  spare-kept n free_now = go (n % slot_count == number % slot_count) refl
    where
      go : (b : Bool) → (n % slot_count == number % slot_count) ≡ b → spare n ≡ None
      go true is =
          let full : (slot_in new n).behind ≡ place + 1 = ap (λ s. s.behind) (noted n ∙ ap (λ b. if b then taken number place else slot_in old n) is) in
          absurd (omega (arith, full, free_now))
      go false is = is_spare n (sym (ap (λ s. s.behind) (noted n ∙ ap (λ b. if b then taken number place else slot_in old n) is)) ∙ free_now)

-- a number whose slot another has
module _ (slots : List Slot) (spare now : ℕ → Option ℕ) (number place : ℕ) (is_spare : AreSpare slots spare) (elsewhere : IsElsewhere slots spare number) (noted : (n : ℕ) → now n ≡ (if eqb number n then Some place else spare n)) where
  pub spare-noted : (n : ℕ) → first_in slots now n ≡ (if eqb number n then Some place else first_in slots spare n)
  spare-noted n = ap (λ o. first_by (slot_in slots n) o n) (noted n) ∙ go (eqb number n) refl
    where
      go : (c : Bool) → eqb number n ≡ c → first_by (slot_in slots n) (if c then Some place else spare n) n ≡ (if c then Some place else first_in slots spare n)
      go true same = let at = subst (λ m. IsElsewhere slots spare m) (eqb-true number n same) elsewhere in other-says (slot_in slots n) (Some place) n at.is_taken at.is_other
      go false apart = refl

  pub spare-still : AreSpare slots now
  spare-still n free = go (eqb number n) refl
    where
      go : (c : Bool) → eqb number n ≡ c → now n ≡ None
      go true same = let at = subst (λ m. IsElsewhere slots spare m) (eqb-true number n same) elsewhere in absurd (at.is_taken free)
      go false apart = noted n ∙ ap (λ c. if c then Some place else spare n) apart ∙ is_spare n free

-- slots that are as they were say the same
pub same-slots : (old new : List Slot) (spare : ℕ → Option ℕ) → ((n : ℕ) → slot_in new n ≡ slot_in old n) → (n : ℕ) → first_in new spare n ≡ first_in old spare n
same-slots old new spare same n = ap (λ s. first_by s (spare n) n) (same n)

pub same-spare : (slots : List Slot) (spare now : ℕ → Option ℕ) → ((n : ℕ) → now n ≡ spare n) → (n : ℕ) → first_in slots now n ≡ first_in slots spare n
same-spare slots spare now same n = ap (λ o. first_by (slot_in slots n) o n) (same n)
