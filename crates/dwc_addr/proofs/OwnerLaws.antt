-- Which function of a list is the owner of an address.
use Rattle.std.proofs.Common.{◌≡◌, ℕ, zero, suc, ◌<◌, ◌≤◌, refl, ap, ◌∙◌, sym, arith, List, [], ◌∷◌, map, get_or, Option, Some, None, slice_get}
use Rattle.std.specs.Prelude.{nat_le, nat_lt, if◌then◌else◌, option_map, Bool, true, false, is_some, All, ◌&&◌}
use Rattle.std.proofs.lemmas.Bool.{leb-true, le-leb, lt-leb, le-ltb, lt-ltb, ne_eqb}
use Rattle.std.proofs.lemmas.List.Elements.{All-head, All-tail}
use Rattle.std.proofs.lemmas.Option.{slice_get-get_or}
use Rattle.std.proofs.Math.ListN.{get_or-map}
use Rattle.dwc_native.specs.Functions.{Function, owner, owner_with, function_at, with_symbol, is_unlinked}
use Rattle.dwc_addr.specs.declared.function_map.FunctionMap.{FunctionMap}
use Rattle.dwc_addr.specs.Transforms.{function_view}
use Rattle.dwc_addr.specs.Starts.{IsOwnerPlace}

-- the owner of an address is among the functions
pub owner-among : (P : Function → Type 0) (fs : List Function) (a : ℕ) (f : Function) → All P fs → owner fs a ≡ Some f → P f
owner-among P [] a f all = λ h. absurd (cc)
owner-among P (g ∷ gs) a f all = go (owner gs a) (owner-among P gs a f (All-tail P g gs all)) (All-head P g gs all)
  where
    same : (x y : Function) → x ≡ y → P x → P y
    same x y e h = rw (← e) h

    go : (o : Option Function) → (o ≡ Some f → P f) → P g → owner_with g a o ≡ Some f → P f
    go None more first h = one (nat_le g.start a) h
      where
        one : (b : Bool) → (if b then Some g else None) ≡ Some f → P f
        one true h = same g f (cc) first
        one false h = absurd (cc)
    go (Some x) more first h = one (nat_le g.start a && nat_lt x.start g.start) h
      where
        one : (b : Bool) → (if b then Some g else Some x) ≡ Some f → P f
        one true h = same g f (cc) first
        one false h = more h

-- the same of the function that an address is in
pub function_at-among : (P : Function → Type 0) (fs : List Function) (a : ℕ) (f : Function) → All P fs → function_at fs a ≡ Some f → P f
function_at-among P fs a f all h = go (is_unlinked a) (owner fs a) (owner-among P fs a f all) h
  where
    go : (b : Bool) (o : Option Function) → (o ≡ Some f → P f) → ◌≡◌ {A = Option Function} (if b then None else with_symbol o) (Some f) → P f
    go true o more h = absurd (cc)
    go false None more h = absurd (cc)
    go false (Some g) more h = one (is_some g.symbol) h
      where
        one : (c : Bool) → ◌≡◌ {A = Option Function} (if c then Some g else None) (Some f) → P f
        one true h = more h
        one false h = absurd (cc)

-- the owner begins at or below the address
owner-below : (fs : List Function) (a : ℕ) (g : Function) → owner fs a ≡ Some g → g.start ≤ a
owner-below [] a g = λ h. absurd (cc)
owner-below (f ∷ fs) a g = go (owner fs a) (owner-below fs a g)
  where
    one : (x : Function) → (b : Bool) → nat_le f.start a ≡ b → ◌≡◌ {A = Option Function} (if b then Some f else None) (Some g) → g.start ≤ a
    one x true e h = let same : f ≡ g = cc in rw (← same) (leb-true f.start a e)
    one x false e h = absurd (cc)

    two : (x : Function) (b c : Bool) → nat_le f.start a ≡ b → (x ≡ g → g.start ≤ a) → ◌≡◌ {A = Option Function} (if b && c then Some f else Some x) (Some g) → g.start ≤ a
    two x true true e more h = let same : f ≡ g = cc in rw (← same) (leb-true f.start a e)
    two x true false e more h = more (cc)
    two x false c e more h = more (cc)

    go : (o : Option Function) → (o ≡ Some g → g.start ≤ a) → owner_with f a o ≡ Some g → g.start ≤ a
    go None more h = one f (nat_le f.start a) refl h
    go (Some x) more h = two x (nat_le f.start a) (nat_lt x.start f.start) refl (λ e. more (ap Some e)) h

-- the function at the owner's place is the owner
pub owner-at_place : (fs : List Function) (a k : ℕ) (d : Function) → IsOwnerPlace fs a k → owner fs a ≡ Some (get_or fs k d)
owner-at_place [] a k d h = absurd (omega (arith, h.inside))
owner-at_place (f ∷ fs) a zero d h = go (owner fs a) (owner-below fs a) (λ g is. owner-among (λ (x : Function). x.start ≤ a → x.start < f.start) fs a g (λ j e less le. h.last (suc j) e (omega arith) (omega arith) le) is)
  where
    first : f.start ≤ a
    first = h.below f

    go : (o : Option Function) → ((g : Function) → o ≡ Some g → g.start ≤ a) → ((g : Function) → o ≡ Some g → g.start ≤ a → g.start < f.start) → owner_with f a o ≡ Some f
    go None below lower = rw (le-leb f.start a first) refl
    go (Some g) below lower = let less : g.start < f.start = lower g refl (below g refl) in rw (le-leb f.start a first, lt-ltb g.start f.start less) refl
owner-at_place (f ∷ fs) a (suc k) d h =
    rw (owner-at_place fs a k d rest) (go (nat_le f.start a) refl)
  where
    rest : IsOwnerPlace fs a k
    rest = record {
      inside = omega (arith, h.inside);
      below = h.below;
      greatest = λ j e less le. h.greatest (suc j) e (omega arith) le;
      last = λ j e more less le. h.last (suc j) e (omega arith) (omega arith) le;
    }

    go : (b : Bool) → nat_le f.start a ≡ b → (if b && nat_lt (get_or fs k d).start f.start then Some f else Some (get_or fs k d)) ≡ Some (get_or fs k d)
    go false e = refl
    go true e = let le : f.start ≤ (get_or fs k d).start = h.greatest 0 d (omega arith) (leb-true f.start a e) in rw (le-ltb (get_or fs k d).start f.start le) refl

-- where all functions begin above an address, it has no owner
pub owner-none : (fs : List Function) (a : ℕ) → All (λ f. a < f.start) fs → owner fs a ≡ None
owner-none [] a h = refl
owner-none (f ∷ fs) a h =
    let above : a < f.start = All-head (λ (x : Function). a < x.start) f fs h in
    rw (owner-none fs a (All-tail (λ (x : Function). a < x.start) f fs h), lt-leb f.start a above) refl

-- the owner by its place, as a look-up in the list
pub owner-place : (fs : List Function) (a k : ℕ) → IsOwnerPlace fs a k → ◌≡◌ {A = Option (Option Function)} (Some (slice_get fs k)) (option_map (λ f. Some f) (owner fs a))
owner-place [] a k h = absurd (omega (arith, h.inside))
owner-place (f ∷ fs) a k h = rw (owner-at_place (f ∷ fs) a k f h, slice_get-get_or (f ∷ fs) k f h.inside) refl

-- an address that is no mark of code that was not linked
pub linked-from : (a : ℕ) → (a ≡ 0 → ⊥) → (a ≡ 0xFFFFFFFF → ⊥) → is_unlinked a ≡ false
linked-from a first last = rw (ne_eqb a 0 first, ne_eqb a 0xFFFFFFFF last) refl

-- the function that a linked address is in: none where it has no owner
pub function_at-none : (fs : List Function) (a : ℕ) → is_unlinked a ≡ false → All (λ f. a < f.start) fs → function_at fs a ≡ None
function_at-none fs a linked above = rw (linked, owner-none fs a above) refl

-- else that at the owner's place, where it has a symbol
pub function_at-place : (ms : List FunctionMap) (a k : ℕ) (m : FunctionMap) → is_unlinked a ≡ false → m ≡ get_or ms k m → IsOwnerPlace (map function_view ms) a k → function_at (map function_view ms) a ≡ with_symbol (Some (function_view m))
function_at-place ms a k m linked is at =
    let there : get_or (map function_view ms) k (function_view m) ≡ function_view m = get_or-map function_view ms k m ∙ ap function_view (sym is) in
    rw (linked, owner-at_place (map function_view ms) a k (function_view m) at, there) refl
