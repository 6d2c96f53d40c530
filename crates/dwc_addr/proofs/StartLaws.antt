-- A search by halves in the keys of some functions finds the owner of an address.
use Rattle.std.proofs.Common.{◌≡◌, ℕ, zero, suc, ◌+◌, ◌-◌, ◌/◌, ◌%◌, ◌^◌, ◌<◌, ◌≤◌, refl, ap, ◌∙◌, arith, List, [], ◌∷◌, length, get_or}
use Rattle.std.specs.Prelude.{nat_le, true, false, None, All, ◌⊎◌}
use Rattle.std.specs.List.Sorted.{IsNonDecreasingBy, IsPartitionPoint}
use Rattle.std.proofs.Common.{inl, inr}
use Rattle.std.proofs.lemmas.Bool.{leb-true, leb-false, le-leb, lt-leb, cases_lt}
use Rattle.std.proofs.lemmas.List.Elements.{All-get_or, All-from_get_or, Contains-get_or, at_from_Contains}
use Rattle.std.proofs.lemmas.List.Sorted.{All-permutation, Contains-permutation}
use Rattle.std.proofs.lemmas.Nat.{shr_high, mod_low}
use Rattle.dwc_base.specs.declared.records.OutputFor.TheVariants.{Default}
use Rattle.dwc_native.specs.Functions.{Function}
use Rattle.dwc_addr.specs.PositionPlaces.{IsCountUpTo}
use Rattle.dwc_addr.specs.Starts.{start_key, start_keys, IsStartTable, IsOwnerPlace}

-- there are as many keys as functions
pub length-start_keys : (place : ℕ) (fs : List Function) → length (start_keys place fs) ≡ length fs
length-start_keys place [] = refl
length-start_keys place (f ∷ fs) = ap suc (length-start_keys (suc place) fs)

-- the key at a place
pub start_keys-at : (place : ℕ) (fs : List Function) (k e : ℕ) (d : Function) → k < length fs → get_or (start_keys place fs) k e ≡ start_key (get_or fs k d).start (place + k)
start_keys-at place [] k e d h = absurd (omega arith)
start_keys-at place (f ∷ fs) zero e d h = omega arith
start_keys-at place (f ∷ fs) (suc k) e d h = start_keys-at (suc place) fs k e d (omega arith) ∙ omega arith

-- a key of a table names a function: which one, and where it begins
record IsKeyOf (fs : List Function) (key : ℕ) : Type 0 where
  place : ℕ
  inside : place < length fs
  is : (d : Function) → key ≡ start_key (get_or fs place d).start place

keys-of : (fs : List Function) → All (IsKeyOf fs) (start_keys 0 fs)
keys-of fs = All-from_get_or (IsKeyOf fs) (start_keys 0 fs) 0 (λ i h.
    let inside : i < length fs = omega (arith, length-start_keys 0 fs) in
    record { place = i; inside = inside; is = λ d. start_keys-at 0 fs i 0 d inside ∙ omega arith })

-- a function's key is in the table
record Holds (keys : List ℕ) (key : ℕ) : Type 0 where
  at : ℕ
  inside : at < length keys
  is : get_or keys at 0 ≡ key

key-held : (fs : List Function) (keys : List ℕ) (k : ℕ) (d : Function) → IsStartTable fs keys → k < length fs → Holds keys (start_key (get_or fs k d).start k)
key-held fs keys k d t h =
    let some : k < length (start_keys 0 fs) = omega (arith, length-start_keys 0 fs) in
    let w = at_from_Contains keys _ (Contains-permutation _ keys _ t.moved (Contains-get_or (start_keys 0 fs) k 0 some)) in
    record { at = w.0; inside = w.1; is = w.2 0 ∙ (start_keys-at 0 fs k 0 d h ∙ omega arith) }

-- what stands past the end of a list
no_function : Function
no_function = record { output = Default; number = 0; symbol = None; start = 0; end = 0; length = 0; entries = [] }

-- the halves of a key
start_of_key : (start place : ℕ) → place < 2 ^ 32 → start_key start place / 2 ^ 32 ≡ start
start_of_key start place low = shr_high start 32 place low

place_of_key : (start place : ℕ) → place < 2 ^ 32 → start_key start place % 2 ^ 32 ≡ place
place_of_key start place low = mod_low start 32 place low

-- of the functions at or below an address, the keys stand before the partition point, none above the last of them
key_before : (fs : List Function) (keys : List ℕ) (a count j : ℕ) (d : Function) → IsStartTable fs keys → count ≤ length keys → 0 < count → IsPartitionPoint (λ y. nat_le (y / 2 ^ 32) a ≡ true) (λ y. nat_le (y / 2 ^ 32) a ≡ false) keys count → j < length fs → (get_or fs j d).start ≤ a → start_key (get_or fs j d).start j ≤ get_or keys (count - 1) 0
key_before fs keys a count j d t le some h inside low = go held.at held.inside held.is (cases_lt held.at count)
  where
    held : Holds keys (start_key (get_or fs j d).start j)
    held = key-held fs keys j d t inside

    go : (p : ℕ) → p < length keys → get_or keys p 0 ≡ start_key (get_or fs j d).start j → (p < count) ⊎ (count ≤ p) → start_key (get_or fs j d).start j ≤ get_or keys (count - 1) 0
    go p within is (inl before) = rw (← is) (t.rises p (count - 1) 0 (omega arith) (omega arith))
    go p within is (inr behind) =
        let above : a < get_or keys p 0 / 2 ^ 32 = leb-false _ a (h.1 p 0 behind within) in
        let start : get_or keys p 0 / 2 ^ 32 ≡ (get_or fs j d).start = ap (λ n. n / 2 ^ 32) is ∙ start_of_key _ j (omega (arith, t.few)) in
        absurd (omega arith)

-- The key before the partition point names the owner.
found_at : (fs : List Function) (keys : List ℕ) (a count : ℕ) → IsStartTable fs keys → count ≤ length keys → 0 < count → IsPartitionPoint (λ y. nat_le (y / 2 ^ 32) a ≡ true) (λ y. nat_le (y / 2 ^ 32) a ≡ false) keys count → (named : IsKeyOf fs (get_or keys (count - 1) 0)) → IsOwnerPlace fs a named.place
found_at fs keys a count t le some h named = record {
  inside = named.inside;
  below = λ d.
      let start : get_or keys (count - 1) 0 / 2 ^ 32 ≡ (get_or fs named.place d).start = ap (λ n. n / 2 ^ 32) (named.is d) ∙ start_of_key _ named.place low in
      omega (arith, leb-true _ a (h.0 (count - 1) 0 (omega arith) (omega arith)));
  greatest = λ j d inside under. omega (arith, key_before fs keys a count j d t le some h inside under, named.is d, low, t.few);
  last = λ j d behind inside under. omega (arith, key_before fs keys a count j d t le some h inside under, named.is d, low, t.few);
}
  where
    low : named.place < 2 ^ 32
    low = omega (arith, t.few, named.inside)

pub owner_place-found : (fs : List Function) (keys : List ℕ) (a count : ℕ) → IsStartTable fs keys → count ≤ length keys → 0 < count → IsPartitionPoint (λ y. nat_le (y / 2 ^ 32) a ≡ true) (λ y. nat_le (y / 2 ^ 32) a ≡ false) keys count → IsOwnerPlace fs a (get_or keys (count - 1) 0 % 2 ^ 32)
owner_place-found fs keys a count t le some h = go (All-get_or (IsKeyOf fs) keys (count - 1) 0 (omega arith) (All-permutation (IsKeyOf fs) _ keys t.moved (keys-of fs)))
  where
    go : IsKeyOf fs (get_or keys (count - 1) 0) → IsOwnerPlace fs a (get_or keys (count - 1) 0 % 2 ^ 32)
    go named =
        let place : get_or keys (count - 1) 0 % 2 ^ 32 ≡ named.place = ap (λ n. n % 2 ^ 32) (named.is no_function) ∙ place_of_key _ named.place (omega (arith, t.few, named.inside)) in
        rw place (found_at fs keys a count t le some h named)

-- Where that point is the first place, all functions begin above the address.
pub owner_place-none : (fs : List Function) (keys : List ℕ) (a : ℕ) → IsStartTable fs keys → IsPartitionPoint (λ y. nat_le (y / 2 ^ 32) a ≡ true) (λ y. nat_le (y / 2 ^ 32) a ≡ false) keys 0 → All (λ f. a < f.start) fs
owner_place-none fs keys a t h = λ k d inside.
    let held : Holds keys (start_key (get_or fs k d).start k) = key-held fs keys k d t inside in
    let above : a < get_or keys held.at 0 / 2 ^ 32 = leb-false _ a (h.1 held.at 0 (omega arith) held.inside) in
    let start : get_or keys held.at 0 / 2 ^ 32 ≡ (get_or fs k d).start = ap (λ n. n / 2 ^ 32) held.is ∙ start_of_key _ k (omega (arith, t.few)) in
    omega arith

-- so many keys part a table
pub begun-parts : (keys : List ℕ) (count a : ℕ) → IsCountUpTo (λ y. y / 2 ^ 32) keys a count → IsPartitionPoint (λ y. nat_le (y / 2 ^ 32) a ≡ true) (λ y. nat_le (y / 2 ^ 32) a ≡ false) keys count
begun-parts keys count a h = ((λ k d from less. le-leb _ a (h.below k d less)), (λ k d past less. lt-leb _ a (h.above k d past less)))

-- the starts in a table do not fall
pub starts-rise : (fs : List Function) (keys : List ℕ) → IsStartTable fs keys → IsNonDecreasingBy (λ y. y / 2 ^ 32) keys
starts-rise fs keys t = λ i j d le inside. div_rises _ _ (t.rises i j d le inside)
  where
    div_rises : (m n : ℕ) → m ≤ n → m / 2 ^ 32 ≤ n / 2 ^ 32
    div_rises m n le = omega arith
