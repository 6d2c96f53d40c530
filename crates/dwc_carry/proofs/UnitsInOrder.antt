-- The units that were read of a module stand one behind another, and so do the offsets of their kept entries.
use Rattle.std.proofs.Common.{◌≡◌, ℕ, zero, suc, ◌<◌, ◌≤◌, List, [], ◌∷◌, ◌++◌, length, map, get_or, refl, ap, sym, subst, arith, Bool, true, false, cond}
use Rattle.std.specs.Prelude.{◌&&◌, nat_lt, nat_le, if◌then◌else◌, AllPairs}
use Rattle.std.specs.List.{filter, AllZip}
use Rattle.std.specs.List.Sorted.{IsNonDecreasingBy}
use Rattle.std.proofs.lemmas.Bool.{leb-true, ltb-true, and_parts}
use Rattle.dwc_base.specs.Sections.{Sections}
use Rattle.dwc_base.specs.Units.{UnitHeader, unit_headers}
use Rattle.dwc_rules.specs.Carried.{Module}
use Rattle.dwc_rules.specs.EntryRules.{is_required}
use Rattle.dwc_kept.specs.declared.read_unit.ReadUnit.{ReadUnit}
use Rattle.dwc_kept.specs.declared.kept_units.KeptModule.{KeptModule}
use Rattle.dwc_kept.specs.KeptUnits.{is_in_unit}
use Rattle.dwc_dwarf.specs.UnitOffsets.{StandFrom}
use Rattle.dwc_kept.specs.ReadUnits.{IsReadUnit, IsKeptModule, is_carried_read}
use Rattle.dwc_dwarf.proofs.UnitOffsets.{units-stand}
use Rattle.dwc_kept.proofs.KeptUnitLaws.{kept-rise}
use Rattle.dwc_kept.proofs.KeptModuleLaws.{read-kept}
use Rattle.dwc_carry.specs.ModulePlaces.{carried_offsets, has_some, emitted}

-- the offsets of kept entries that lie in a unit
abbrev pub inside : List ℕ → ReadUnit → List ℕ
inside kept r = filter (is_in_unit r.unit.header) kept

-- ---- units

-- units stand one behind another, from a place on
abbrev pub UnitsFrom : ℕ → List ReadUnit → Type 0
UnitsFrom from [] = Prim.Unit {0}
UnitsFrom from (r ∷ rs) = (from ≤ r.unit.header.offset) × (r.unit.header.offset < r.unit.header.end) × UnitsFrom r.unit.header.end rs

read-from : (s : Sections) (from : ℕ) (hs : List UnitHeader) (rs : List ReadUnit) → StandFrom s from hs → AllZip (IsReadUnit s) hs rs → UnitsFrom from rs
read-from s from [] [] stand zip = tt
read-from s from [] (r ∷ rs) stand zip = absurd zip
read-from s from (h ∷ hs) [] stand zip = absurd zip
read-from s from (h ∷ hs) (r ∷ rs) stand zip =
    let start : r.unit.header.offset ≡ h.offset = ap (λ (k : UnitHeader). k.offset) (zip.0).header in
    let end : r.unit.header.end ≡ h.end = ap (λ (k : UnitHeader). k.end) (zip.0).header in
    (omega (arith, start, stand.0), omega (arith, start, end, stand.1), read-from s r.unit.header.end hs rs (subst (λ n. StandFrom s n hs) (sym end) stand.3) zip.1)

-- The lists of those that are carried, in order.
emitted-step : (kept : List ℕ) (r : ReadUnit) (rs : List ReadUnit) (xs : List (List ℕ)) (b : Bool) → filter has_some xs ≡ map (inside kept) rs
    → filter has_some ((if b then inside kept r else []) ∷ xs) ≡ map (inside kept) (cond {A = List ReadUnit} (b && nat_lt 0 (length (inside kept r))) (r ∷ rs) rs)
emitted-step kept r rs xs false h = h
emitted-step kept r rs xs true h = go (nat_lt 0 (length (inside kept r)))
  where
    go : (b : Bool) → cond {A = List (List ℕ)} b (inside kept r ∷ filter has_some xs) (filter has_some xs) ≡ map (inside kept) (cond {A = List ReadUnit} b (r ∷ rs) rs)
    go true = ap (λ ys. inside kept r ∷ ys) h
    go false = h

pub emitted-carried : (kept : List ℕ) (rs : List ReadUnit) → emitted kept rs ≡ map (inside kept) (filter (is_carried_read kept) rs)
emitted-carried kept [] = refl
emitted-carried kept (r ∷ rs) = emitted-step kept r (filter (is_carried_read kept) rs) (map (carried_offsets kept) rs) r.is_compile_unit (emitted-carried kept rs)

-- ---- numbers that rise

abbrev pub RisesFrom : ℕ → List ℕ → Type 0
RisesFrom n [] = Prim.Unit {0}
RisesFrom n (x ∷ xs) = (n ≤ x) × RisesFrom x xs

-- up to another number
abbrev RisesIn : ℕ → ℕ → List ℕ → Type 0
RisesIn n m [] = n ≤ m
RisesIn n m (x ∷ xs) = (n ≤ x) × RisesIn x m xs

rises-weaker : (n low : ℕ) (xs : List ℕ) → low ≤ n → RisesFrom n xs → RisesFrom low xs
rises-weaker n low [] le h = tt
rises-weaker n low (x ∷ xs) le h = (omega (arith, le, h.0), h.1)

rises-behind : (n m : ℕ) (xs ys : List ℕ) → RisesIn n m xs → RisesFrom m ys → RisesFrom n (xs ++ ys)
rises-behind n m [] ys h k = rises-weaker m n ys h k
rises-behind n m (x ∷ xs) ys h k = (h.0, rises-behind x m xs ys h.1 k)

rises-at : (n : ℕ) (xs : List ℕ) (j d : ℕ) → RisesFrom n xs → j < length xs → n ≤ get_or xs j d
rises-at n [] j d h less = absurd (omega (arith, less))
rises-at n (x ∷ xs) zero d h less = h.0
rises-at n (x ∷ xs) (suc j) d h less = let more = rises-at x xs j d h.1 (omega (arith, less)) in omega (arith, more, h.0)

pub rises-order : (n : ℕ) (xs : List ℕ) → RisesFrom n xs → IsNonDecreasingBy (λ x. x) xs
rises-order n [] h i j d le less = absurd (omega (arith, less))
rises-order n (x ∷ xs) h zero zero d le less = omega arith
rises-order n (x ∷ xs) h zero (suc j) d le less = rises-at x xs j d h.1 (omega (arith, less))
rises-order n (x ∷ xs) h (suc i) zero d le less = absurd (omega (arith, le))
rises-order n (x ∷ xs) h (suc i) (suc j) d le less = rises-order x xs h.1 i j d (omega (arith, le)) (omega (arith, less))

-- those in front of others that rise with them
pub rises-front : (n : ℕ) (xs ys : List ℕ) → RisesFrom n (xs ++ ys) → RisesFrom n xs
rises-front n [] ys h = tt
rises-front n (x ∷ xs) ys h = (h.0, rises-front x xs ys h.1)

pairs-rise : (n : ℕ) (xs : List ℕ) → AllPairs (λ a b. a < b) xs → ((i : ℕ) → i < length xs → n ≤ get_or xs i 0) → RisesFrom n xs
pairs-rise n [] pairs low = tt
pairs-rise n (x ∷ xs) pairs low = (low 0 (omega arith), pairs-rise x xs (λ i j d below less. pairs (suc i) (suc j) d (omega (arith, below)) (omega (arith, less))) (λ i less. let step = pairs 0 (suc i) 0 (omega arith) (omega (arith, less)) in omega (arith, step)))

-- ---- offsets in units

module _ (h : UnitHeader) where
  pub in-parts : (x : ℕ) → is_in_unit h x ≡ true → (h.offset ≤ x) × (x < h.end)
  in-parts x is = let both = and_parts (nat_le h.offset x) (nat_lt x h.end) is in (leb-true h.offset x both.0, ltb-true x h.end both.1)

  rises-within : (low n : ℕ) (xs : List ℕ) → RisesFrom low xs → n ≤ low → n ≤ h.end → RisesIn n h.end (filter (is_in_unit h) xs)
  rises-within low n [] rises le below = below
  rises-within low n (x ∷ xs) rises le below = go (is_in_unit h x) refl (λ k. rises-within x k xs rises.1)
    where
      go : (b : Bool) → is_in_unit h x ≡ b → ((k : ℕ) → k ≤ x → k ≤ h.end → RisesIn k h.end (filter (is_in_unit h) xs)) → RisesIn n h.end (cond {A = List ℕ} b (x ∷ filter (is_in_unit h) xs) (filter (is_in_unit h) xs))
      go true is others = let inner = in-parts x is in (omega (arith, le, rises.0), others x (omega arith) (omega (arith, inner.1)))
      go false is others = others n (omega (arith, le, rises.0)) below

  inside-rises : (low : ℕ) (xs : List ℕ) → h.offset ≤ h.end → RisesFrom low xs → RisesIn h.offset h.end (filter (is_in_unit h) xs)
  inside-rises low [] some rises = some
  inside-rises low (x ∷ xs) some rises = go (is_in_unit h x) refl (inside-rises x xs some rises.1)
    where
      go : (b : Bool) → is_in_unit h x ≡ b → RisesIn h.offset h.end (filter (is_in_unit h) xs) → RisesIn h.offset h.end (cond {A = List ℕ} b (x ∷ filter (is_in_unit h) xs) (filter (is_in_unit h) xs))
      go true is others = let inner = in-parts x is in (inner.0, rises-within x x xs rises.1 (omega arith) (omega (arith, inner.1)))
      go false is others = others

-- lists one behind another
abbrev pub joined : List (List ℕ) → List ℕ
joined [] = []
joined (xs ∷ xss) = xs ++ joined xss

carried-rise : (kept : List ℕ) → RisesFrom 0 kept → (from : ℕ) (rs : List ReadUnit) → UnitsFrom from rs → RisesFrom from (joined (map (inside kept) (filter (is_carried_read kept) rs)))
carried-rise kept rises from [] stand = tt
carried-rise kept rises from (r ∷ rs) stand = go (is_carried_read kept r) (carried-rise kept rises r.unit.header.end rs stand.2)
  where
    go : (b : Bool) → RisesFrom r.unit.header.end (joined (map (inside kept) (filter (is_carried_read kept) rs))) → RisesFrom from (joined (map (inside kept) (cond {A = List ReadUnit} b (r ∷ filter (is_carried_read kept) rs) (filter (is_carried_read kept) rs))))
    go true rest = rises-weaker r.unit.header.offset from _ stand.0 (rises-behind r.unit.header.offset r.unit.header.end (inside kept r) _ (inside-rises r.unit.header 0 kept (omega (arith, stand.1)) rises) rest)
    go false rest = rises-weaker r.unit.header.end from _ (omega (arith, stand.0, stand.1)) rest

-- ---- a module

module _ (c : Module) (m : KeptModule) (is : IsKeptModule c.functions c.sections m) where
  pub module-stand : UnitsFrom 0 m.units.items
  module-stand = read-from c.sections 0 (unit_headers c.sections).items m.units.items (units-stand c.sections) is.units

  kept-from : RisesFrom 0 m.kept
  kept-from = pairs-rise 0 m.kept (subst (AllPairs (λ a b. a < b)) (sym (read-kept c m is)) (kept-rise (λ u. is_required c.functions c.sections u.header) c is.whole)) (λ i less. omega arith)

  pub module-rises : RisesFrom 0 (joined (emitted m.kept m.units.items))
  module-rises = subst (λ xss. RisesFrom 0 (joined xss)) (sym (emitted-carried m.kept m.units.items)) (carried-rise m.kept kept-from 0 m.units.items module-stand)
