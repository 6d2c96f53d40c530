-- Fields of addresses that rise hold what their relocations say: `rising-held` gives the premise `All (IsHeld ..)` of the other
-- laws. Lists by places rise where each part does (`rise-places`).
use Rattle.std.proofs.Common.{◌≡◌, ℕ, suc, ◌+◌, ◌<◌, ◌≤◌, refl, arith, List, [], ◌∷◌, ◌++◌, length, length-append, None, false, eqb}
use Rattle.std.specs.Prelude.{◌==◌, ◌&&◌}
use Rattle.std.specs.List.{All, find, flat_map}
use Rattle.std.proofs.lemmas.Bool.{ne_eqb, eq-eqb}
use Rattle.std.proofs.lemmas.List.Elements.{All-nil, All-cons, All-weaker}
use Rattle.dwc_base.specs.declared.records.Address.{Address}
use Rattle.dwc_base.specs.declared.records.Address.TheVariants.{Constant, Symbol}
use Rattle.dwc_section.specs.Spelled.{at_places}
use Rattle.dwc_section.specs.SpelledAddresses.{AddressField, relocation_for, relocations_of, IsHeld, RiseWithin}

-- a relocation of a later field is none at a place before
none-before : (low high offset size : ℕ) (fs : List AddressField) → offset < low → RiseWithin low high fs → find (λ r. (r.offset == offset) && (r.size == size)) (relocations_of fs) ≡ None
none-before low high offset size [] before rise = refl
none-before low high offset size (f ∷ fs) before rise = go f.address (none-before (suc f.offset) high offset size fs (omega (arith, rise.0)) rise.1)
  where
    go : (a : Address) → find (λ r. (r.offset == offset) && (r.size == size)) (relocations_of fs) ≡ None → find (λ r. (r.offset == offset) && (r.size == size)) (relocations_of (record { offset = f.offset; size = f.size; address = a } ∷ fs)) ≡ None
    go (Constant n) others = others
    go (Symbol function addend) others =
        let apart : eqb f.offset offset ≡ false = ne_eqb _ _ (λ e. absurd (omega (arith, e, rise.0))) in
        rw (apart) others

-- what stands behind a field is held beside it too
held-behind : (low high : ℕ) (f g : AddressField) (fs : List AddressField) → f.offset < g.offset → IsHeld (relocations_of fs) g → IsHeld (relocations_of (f ∷ fs)) g
held-behind low high f g fs apart held = record { held = go f.address held.held }
  where
    go : (a : Address) → find (λ r. (r.offset == g.offset) && (r.size == g.size)) (relocations_of fs) ≡ relocation_for g → find (λ r. (r.offset == g.offset) && (r.size == g.size)) (relocations_of (record { offset = f.offset; size = f.size; address = a } ∷ fs)) ≡ relocation_for g
    go (Constant n) others = others
    go (Symbol function addend) others =
        let other : eqb f.offset g.offset ≡ false = ne_eqb _ _ (λ e. absurd (omega (arith, e, apart))) in
        rw (other) others

first-held : (low high : ℕ) (f : AddressField) (fs : List AddressField) → RiseWithin low high (f ∷ fs) → IsHeld (relocations_of (f ∷ fs)) f
first-held low high f fs rise = record { held = go f.address (none-before (suc f.offset) high f.offset f.size fs (omega arith) rise.1) }
  where
    go : (a : Address) → find (λ r. (r.offset == f.offset) && (r.size == f.size)) (relocations_of fs) ≡ None
        → find (λ r. (r.offset == f.offset) && (r.size == f.size)) (relocations_of (record { offset = f.offset; size = f.size; address = a } ∷ fs)) ≡ relocation_for (record { offset = f.offset; size = f.size; address = a })
    go (Constant n) none = none
    go (Symbol function addend) none = rw (eq-eqb f.offset f.offset refl, eq-eqb f.size f.size refl) refl

all-above : (low high : ℕ) (fs : List AddressField) → RiseWithin low high fs → All (λ g. low ≤ g.offset) fs
all-above low high [] rise = All-nil _
all-above low high (f ∷ fs) rise = All-cons (λ g. low ≤ g.offset) f fs rise.0 (All-weaker (λ g. suc f.offset ≤ g.offset) (λ g. low ≤ g.offset) (λ g above. omega (arith, above, rise.0)) fs (all-above (suc f.offset) high fs rise.1))

-- Fields that rise are held by their own relocations.
pub rising-held : (low high : ℕ) (fs : List AddressField) → RiseWithin low high fs → All (IsHeld (relocations_of fs)) fs
rising-held low high [] rise = All-nil _
rising-held low high (f ∷ fs) rise =
    All-cons (IsHeld (relocations_of (f ∷ fs))) f fs (first-held low high f fs rise)
    (both fs (all-above (suc f.offset) high fs rise.1) (rising-held (suc f.offset) high fs rise.1))
  where
    both : (gs : List AddressField) → All (λ g. suc f.offset ≤ g.offset) gs → All (IsHeld (relocations_of fs)) gs → All (IsHeld (relocations_of (f ∷ fs))) gs
    both gs above held = λ k d within. held-behind low high f _ fs (above k d within) (held k d within)

-- ---- what rises

pub rise-below : (lower low high : ℕ) (fs : List AddressField) → lower ≤ low → RiseWithin low high fs → RiseWithin lower high fs
rise-below lower low high [] less rise = omega (arith, rise)
rise-below lower low high (f ∷ fs) less rise = (omega (arith, rise.0), rise.1)

pub rise-above : (low high higher : ℕ) (fs : List AddressField) → high ≤ higher → RiseWithin low high fs → RiseWithin low higher fs
rise-above low high higher [] less rise = omega (arith, rise)
rise-above low high higher (f ∷ fs) less rise = (rise.0, rise-above (suc f.offset) high higher fs less rise.1)

pub rise-append : (low middle high : ℕ) (fs gs : List AddressField) → RiseWithin low middle fs → RiseWithin middle high gs → RiseWithin low high (fs ++ gs)
rise-append low middle high [] gs rise on = rise-below low middle high gs rise on
rise-append low middle high (f ∷ fs) gs rise on = (rise.0, rise-append (suc f.offset) middle high fs gs rise.1 on)

-- what is one behind another rises where each does
pub rise-places : {A : Type 0} (spell : A → List ℕ) (at : ℕ → A → List AddressField) (xs : List A) (place : ℕ) → ((p : ℕ) (x : A) → RiseWithin p (p + length (spell x)) (at p x))
    → RiseWithin place (place + length (flat_map spell xs)) (at_places spell at place xs)
rise-places spell at [] place each = omega arith
rise-places spell at (x ∷ xs) place each =
    let on = rise-places spell at xs (place + length (spell x)) each in
    let end : (place + length (spell x)) + length (flat_map spell xs) ≡ place + length (spell x ++ flat_map spell xs) = omega (arith, length-append (spell x) (flat_map spell xs)) in
    rise-append place (place + length (spell x)) _ (at place x) _ (each place x) (rw (end) at on)
