-- The entries of a module stand in order, each in its unit.
use Rattle.std.proofs.Common.{◌≡◌, ℕ, zero, suc, ◌<◌, ◌≤◌, ◌⊎◌, List, [], ◌∷◌, ◌++◌, length, get_or, map, refl, ap, sym, subst, ◌∙◌, inl, inr, arith, Option, Some, None}
use Rattle.std.proofs.lemmas.Bool.{cases_order}
use Rattle.std.proofs.lemmas.List.{map-append}
use Rattle.dwc_base.specs.Listing.{Listing}
use Rattle.dwc_base.specs.Sections.{Sections, Fault}
use Rattle.dwc_base.specs.Units.{UnitHeader}
use Rattle.dwc_dwarf.specs.Entries.{Entry, entries}
use Rattle.dwc_rules.specs.Carried.{placed_entries}
use Rattle.dwc_dwarf.specs.ReadUnits.{Unit, units_of_headers}
use Rattle.dwc_rules.specs.Kept.{Placed}
use Rattle.dwc_dwarf.specs.UnitOffsets.{RiseIn, StandFrom}
use Rattle.dwc_kept.specs.ReadGraphs.{Standing, standing, placed}
use Rattle.dwc_base.proofs.InLists.{IsIn, at-in, in-append}
use Rattle.dwc_kept.proofs.ReadLaws.{first-unit, first-fault}

-- ---- their units

-- where units have no fault, their entries are those that stand there
pub placed-units : (s : Sections) (hs : List UnitHeader) (last : Option Fault) → (units_of_headers s hs last).fault ≡ None → placed_entries (units_of_headers s hs last).items ≡ map placed (standing s hs)
placed-units s [] last none = refl
placed-units s (h ∷ hs) last none = go (entries s h).fault refl (λ k. placed-units s hs last k)
  where
    placed-map : (es : List Entry) → map (λ e. record { unit = h.offset; entry = e }) es ≡ map placed (map (λ e. record { header = h; entry = e }) es)
    placed-map [] = refl
    placed-map (e ∷ es) = ap (λ (ps : List Placed). record { unit = h.offset; entry = e } ∷ ps) (placed-map es)

    go : (o : Option Fault) → (entries s h).fault ≡ o → ((units_of_headers s hs last).fault ≡ None → placed_entries (units_of_headers s hs last).items ≡ map placed (standing s hs)) → placed_entries (units_of_headers s (h ∷ hs) last).items ≡ map placed (standing s (h ∷ hs))
    go (Some fault) is rest = absurd (clash (sym (ap (λ (l : Listing Fault Unit). l.fault) (first-fault s h hs last fault is)) ∙ none))
      where
        clash : Some fault ≡ None → ⊥
        clash e = cc
    go None is rest =
        let first = first-unit s h hs last is in
        ap (λ (l : Listing Fault Unit). placed_entries l.items) first
        ∙ ap (λ ps. map (λ e. record { unit = h.offset; entry = e }) (entries s h).items ++ ps) (rest (sym (ap (λ (l : Listing Fault Unit). l.fault) first) ∙ none))
        ∙ ap (λ ps. ps ++ map placed (standing s hs)) (placed-map (entries s h).items)
        ∙ sym (map-append placed (map (λ e. record { header = h; entry = e }) (entries s h).items) (standing s hs))

-- ---- their order

-- an entry stands in its unit
pub record IsInside (q : Standing) : Type 0 where
  pub low : q.header.offset ≤ q.entry.offset
  pub high : q.entry.offset < q.header.end

-- an entry stands in front of another, in the same unit or in one in front of it
pub record IsFirst (p q : Standing) : Type 0 where
  pub offsets : p.entry.offset < q.entry.offset
  pub units : ((p.header.offset ≡ q.header.offset) × (p.header.end ≡ q.header.end)) ⊎ (p.header.end ≤ q.header.offset)

Ordered : List Standing → Type 0
Ordered [] = Prim.Unit {0}
Ordered (q ∷ qs) = IsInside q × ((p : Standing) → IsIn p qs → IsFirst q p) × Ordered qs

-- entries that stand from a place on
StandBehind : ℕ → List Standing → Type 0
StandBehind from qs = (p : Standing) → IsIn p qs → (from ≤ p.header.offset) × IsInside p

module _ (u : UnitHeader) where
  stand : List Entry → List Standing
  stand es = map (λ e. record { header = u; entry = e }) es

  -- entries of a unit from a place on
  rise-in : (from : ℕ) (es : List Entry) (p : Standing) → RiseIn from u.end es → IsIn p (stand es) → (from ≤ p.entry.offset) × (p.entry.offset < u.end) × (p.header.offset ≡ u.offset) × (p.header.end ≡ u.end)
  unfolding stand
  rise-in from [] p h i = absurd i
  rise-in from (e ∷ es) p h (inl same) =
      let here : p.entry.offset ≡ e.offset = ap (λ (q : Standing). q.entry.offset) same in
      (omega (arith, here, h.0), omega (arith, here, h.1), ap (λ (q : Standing). q.header.offset) same, ap (λ (q : Standing). q.header.end) same)
  rise-in from (e ∷ es) p h (inr i) = let found = rise-in (suc e.offset) es p h.2 i in (omega (arith, found.0, h.0), found.1, found.2, found.3)

  ordered-unit : (from : ℕ) (es : List Entry) (rest : List Standing) → u.offset ≤ from → RiseIn from u.end es → StandBehind u.end rest → Ordered rest → Ordered (stand es ++ rest)
  unfolding stand Ordered StandBehind
  ordered-unit from [] rest low h behind ordered = ordered
  ordered-unit from (e ∷ es) rest low h behind ordered = (
    record { low = omega (arith, low, h.0); high = h.1 },
    λ p i. first p (in-append (stand es) rest p i),
    ordered-unit (suc e.offset) es rest (omega (arith, low, h.0)) h.2 behind ordered,
  )
    where
      first : (p : Standing) → IsIn p (stand es) ⊎ IsIn p rest → IsFirst (record { header = u; entry = e }) p
      first p (inl i) = let found = rise-in (suc e.offset) es p h.2 i in record { offsets = omega (arith, found.0); units = inl (sym found.2, sym found.3) }
      first p (inr i) = let found = behind p i in record { offsets = omega (arith, h.1, found.0, (found.1).low); units = inr found.0 }

standing-behind : (s : Sections) (from : ℕ) (hs : List UnitHeader) → StandFrom s from hs → StandBehind from (standing s hs)
unfolding StandBehind stand
standing-behind s from [] h p i = absurd i
standing-behind s from (u ∷ us) h p i = go (in-append (stand u (entries s u).items) (standing s us) p i) (standing-behind s u.end us h.3)
  where
    go : IsIn p (stand u (entries s u).items) ⊎ IsIn p (standing s us) → ((q : Standing) → IsIn q (standing s us) → (u.end ≤ q.header.offset) × IsInside q) → (from ≤ p.header.offset) × IsInside p
    go (inl i) rest = let found = rise-in u u.offset (entries s u).items p h.2 i in (omega (arith, found.2, h.0), record { low = omega (arith, found.0, found.2); high = omega (arith, found.1, found.3) })
    go (inr i) rest = let found = rest p i in (omega (arith, h.0, h.1, found.0), found.1)

standing-ordered : (s : Sections) (from : ℕ) (hs : List UnitHeader) → StandFrom s from hs → Ordered (standing s hs)
unfolding Ordered stand
standing-ordered s from [] h = tt
standing-ordered s from (u ∷ us) h = ordered-unit u u.offset (entries s u).items (standing s us) (omega arith) h.2 (standing-behind s u.end us h.3) (standing-ordered s u.end us h.3)

-- The same by their numbers.
pub record InOrder (qs : List Standing) : Type 0 where
  pub inside : (i : ℕ) (d : Standing) → i < length qs → IsInside (get_or qs i d)
  pub first : (i j : ℕ) (d : Standing) → i < j → j < length qs → IsFirst (get_or qs i d) (get_or qs j d)

ordered-inside : (qs : List Standing) → Ordered qs → (i : ℕ) (d : Standing) → i < length qs → IsInside (get_or qs i d)
unfolding Ordered
ordered-inside [] h i d less = absurd (omega (arith, less))
ordered-inside (q ∷ qs) h zero d less = h.0
ordered-inside (q ∷ qs) h (suc i) d less = ordered-inside qs h.2 i d (omega (arith, less))

ordered-first : (qs : List Standing) → Ordered qs → (i j : ℕ) (d : Standing) → i < j → j < length qs → IsFirst (get_or qs i d) (get_or qs j d)
unfolding Ordered
ordered-first [] h i j d below less = absurd (omega (arith, less))
ordered-first (q ∷ qs) h i zero d below less = absurd (omega (arith, below))
ordered-first (q ∷ qs) h zero (suc j) d below less = h.1 (get_or qs j d) (at-in qs j d (omega (arith, less)))
ordered-first (q ∷ qs) h (suc i) (suc j) d below less = ordered-first qs h.2 i j d (omega (arith, below)) (omega (arith, less))

pub in-order : (s : Sections) (hs : List UnitHeader) → StandFrom s 0 hs → InOrder (standing s hs)
in-order s hs stands =
    let ordered = standing-ordered s 0 hs stands in
    record { inside = ordered-inside (standing s hs) ordered; first = ordered-first (standing s hs) ordered }

-- ---- units by offsets

module _ (qs : List Standing) (order : InOrder qs) where
  -- an entry is in the unit of another where it stands between that unit's ends
  pub unit-offsets : (i j : ℕ) (d : Standing) → i < length qs → j < length qs → (get_or qs j d).header.offset ≡ (get_or qs i d).header.offset → ((get_or qs i d).header.offset ≤ (get_or qs j d).entry.offset) × ((get_or qs j d).entry.offset < (get_or qs i d).header.end)
  unit-offsets i j d a b same = (omega (arith, same, (order.inside j d b).low), go (cases_order i j))
    where
      own : IsInside (get_or qs i d)
      own = order.inside i d a

      other : IsInside (get_or qs j d)
      other = order.inside j d b

      later : i < j → ((get_or qs i d).header.offset ≡ (get_or qs j d).header.offset) × ((get_or qs i d).header.end ≡ (get_or qs j d).header.end) ⊎ ((get_or qs i d).header.end ≤ (get_or qs j d).header.offset) → (get_or qs j d).entry.offset < (get_or qs i d).header.end
      later less (inl u) = omega (arith, u.1, other.high)
      later less (inr u) = absurd (omega (arith, u, same, own.low, own.high))

      earlier : j < i → ((get_or qs j d).header.offset ≡ (get_or qs i d).header.offset) × ((get_or qs j d).header.end ≡ (get_or qs i d).header.end) ⊎ ((get_or qs j d).header.end ≤ (get_or qs i d).header.offset) → (get_or qs j d).entry.offset < (get_or qs i d).header.end
      earlier less (inl u) = omega (arith, u.1, other.high)
      earlier less (inr u) = absurd (omega (arith, u, same, other.low, other.high))

      go : (i ≡ j) ⊎ ((i < j) ⊎ (j < i)) → (get_or qs j d).entry.offset < (get_or qs i d).header.end
      go (inl e) = subst (λ k. (get_or qs k d).entry.offset < (get_or qs i d).header.end) e own.high
      go (inr (inl less)) = later less (order.first i j d less b).units
      go (inr (inr less)) = earlier less (order.first j i d less a).units

  pub offsets-unit : (i j : ℕ) (d : Standing) → i < length qs → j < length qs → (get_or qs i d).header.offset ≤ (get_or qs j d).entry.offset → (get_or qs j d).entry.offset < (get_or qs i d).header.end → (get_or qs j d).header.offset ≡ (get_or qs i d).header.offset
  offsets-unit i j d a b low high = go (cases_order i j)
    where
      other : IsInside (get_or qs j d)
      other = order.inside j d b

      later : ((get_or qs i d).header.offset ≡ (get_or qs j d).header.offset) × ((get_or qs i d).header.end ≡ (get_or qs j d).header.end) ⊎ ((get_or qs i d).header.end ≤ (get_or qs j d).header.offset) → (get_or qs j d).header.offset ≡ (get_or qs i d).header.offset
      later (inl u) = sym u.0
      later (inr u) = absurd (omega (arith, u, other.low, high))

      earlier : ((get_or qs j d).header.offset ≡ (get_or qs i d).header.offset) × ((get_or qs j d).header.end ≡ (get_or qs i d).header.end) ⊎ ((get_or qs j d).header.end ≤ (get_or qs i d).header.offset) → (get_or qs j d).header.offset ≡ (get_or qs i d).header.offset
      earlier (inl u) = u.0
      earlier (inr u) = absurd (omega (arith, u, other.high, low))

      go : (i ≡ j) ⊎ ((i < j) ⊎ (j < i)) → (get_or qs j d).header.offset ≡ (get_or qs i d).header.offset
      go (inl e) = ap (λ k. (get_or qs k d).header.offset) (sym e)
      go (inr (inl less)) = later (order.first i j d less b).units
      go (inr (inr less)) = earlier (order.first j i d less a).units
