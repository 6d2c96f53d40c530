-- What an error tells of a part is told of the whole, and the first of several lists of refusals.
use Rattle.std.proofs.Common.{◌≡◌, List, [], ◌∷◌, ◌++◌, refl, sym, subst, Option, Some, None}
use Rattle.std.specs.Prelude.{option_map}
use Rattle.std.proofs.lemmas.Option.{none-some}
use Rattle.dwc_rules.specs.Refusals.{Refusal}
use Rattle.dwc_base.specs.Listing.{first_of}
use Rattle.dwc_carry.specs.declared.error.DebugError.{DebugError}
use Rattle.dwc_carry.specs.Refusals.{InputRefusal, in_reading, Told, refused, limit, memory, told, IsCause, Refuses, RefusesReading}

pub unmapped : {A B : Type 0} (f : A → B) (o : Option A) → option_map f o ≡ None → o ≡ None
unmapped f None h = refl
unmapped f (Some x) h = absurd (cc)

-- a list without a first has nothing
pub no-first : {A : Type 0} (xs : List A) → first_of xs ≡ None → xs ≡ []
no-first [] h = refl
no-first (x ∷ xs) h = absurd (cc)

pub first-behind : {A : Type 0} (xs ys : List A) (r : A) → first_of xs ≡ Some r → first_of (xs ++ ys) ≡ Some r
first-behind [] ys r h = absurd (cc)
first-behind (x ∷ xs) ys r h = h

-- a refusal that is that of a larger place too
pub refuses-more : (part whole : Option InputRefusal) (e : DebugError) → ((r : InputRefusal) → part ≡ Some r → whole ≡ Some r) → Refuses part e → Refuses whole e
refuses-more part whole e more = go (told e)
  where
    go : (t : Told) → IsCause (λ what. ⊥) part t → IsCause (λ what. ⊥) whole t
    go (refused r) h = more r h
    go (limit what) h = absurd h.1
    go memory h = tt

pub reading-more : (part whole : Option Refusal) (e : DebugError) → ((r : Refusal) → part ≡ Some r → whole ≡ Some r) → RefusesReading part e → RefusesReading whole e
reading-more None whole e more h = refuses-more None (option_map in_reading whole) e (λ r is. absurd (none-some r is)) h
reading-more (Some x) whole e more h = subst (λ o. RefusesReading o e) (sym (more x refl)) h
