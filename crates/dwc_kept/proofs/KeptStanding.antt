-- Units that were read: where they and their entries stand, and the depths of these.
use Rattle.std.proofs.Common.{◌≡◌, ℕ, suc, ◌<◌, ◌≤◌, ◌⊎◌, List, [], ◌∷◌, map, refl, ap, sym, subst, ◌∙◌, inl, inr, arith, Option, Some, None}
use Rattle.std.specs.Prelude.{◌==◌, nat_le}
use Rattle.std.proofs.lemmas.Bool.{eq-eqb, eqb-true, le-leb, lt-ltb, leb-true, ltb-true, and_from, and_parts}
use Rattle.dwc_base.specs.Listing.{Listing}
use Rattle.dwc_base.specs.Sections.{Sections, Fault}
use Rattle.dwc_base.specs.Units.{UnitHeader, unit_headers}
use Rattle.dwc_dwarf.specs.Entries.{Entry, entries}
use Rattle.dwc_rules.specs.Carried.{placed_entries}
use Rattle.dwc_dwarf.specs.ReadUnits.{Unit, units_of_headers, units}
use Rattle.dwc_rules.specs.Kept.{Placed}
use Rattle.dwc_dwarf.specs.UnitOffsets.{RiseIn, StandFrom}
use Rattle.dwc_kept.specs.KeptUnits.{is_in_unit, IsTree}
use Rattle.dwc_base.proofs.InLists.{IsIn, in-append}
use Rattle.dwc_kept.proofs.MarkLaws.{same-truth}
use Rattle.dwc_kept.proofs.ReadLaws.{first-unit, first-fault}
use Rattle.dwc_dwarf.proofs.UnitOffsets.{units-stand}
use Rattle.dwc_kept.proofs.KeptDepths.{depths_of, unit-tree}

-- Units one behind another, from a place on, each with entries that stand in it at the depths of a tree.
abbrev pub UnitsStand : ℕ → List Unit → Type 0
UnitsStand from [] = Prim.Unit {0}
UnitsStand from (u ∷ us) = (from ≤ u.header.offset) × (u.header.offset < u.header.end) × RiseIn u.header.offset u.header.end u.entries × IsTree (depths_of u.entries) × UnitsStand u.header.end us

headers-units : (s : Sections) (from : ℕ) (hs : List UnitHeader) (last : Option Fault) → StandFrom s from hs → (units_of_headers s hs last).fault ≡ None → UnitsStand from (units_of_headers s hs last).items
headers-units s from [] last stand none = tt
headers-units s from (h ∷ hs) last stand none = go (entries s h).fault refl (λ k. headers-units s h.end hs last stand.3 k)
  where
    go : (o : Option Fault) → (entries s h).fault ≡ o → ((units_of_headers s hs last).fault ≡ None → UnitsStand h.end (units_of_headers s hs last).items) → UnitsStand from (units_of_headers s (h ∷ hs) last).items
    go (Some fault) is rest = absurd (clash (sym (ap (λ (l : Listing Fault Unit). l.fault) (first-fault s h hs last fault is)) ∙ none))
      where
        clash : Some fault ≡ None → ⊥
        clash e = cc
    go None is rest =
        let first = first-unit s h hs last is in
        subst (λ (l : Listing Fault Unit). UnitsStand from l.items) (sym first)
        (stand.0, stand.1, stand.2, unit-tree s h, rest (sym (ap (λ (l : Listing Fault Unit). l.fault) first) ∙ none))

-- The units of a section that are read without a fault stand so.
pub read-stand : (s : Sections) → (units s).fault ≡ None → UnitsStand 0 (units s).items
unfolding units
read-stand s none = headers-units s 0 (unit_headers s).items (unit_headers s).fault (units-stand s) none

-- ---- one unit among others

pub unit-from : (from : ℕ) (us : List Unit) (u : Unit) → UnitsStand from us → IsIn u us → from ≤ u.header.offset
unit-from from [] u h i = absurd i
unit-from from (v ∷ vs) u h (inl e) = let same : u.header.offset ≡ v.header.offset = ap (λ w. w.header.offset) e in omega (arith, same, h.0)
unit-from from (v ∷ vs) u h (inr i) = omega (arith, h.0, h.1, unit-from v.header.end vs u h.4 i)

pub tree-of : (from : ℕ) (us : List Unit) (u : Unit) → UnitsStand from us → IsIn u us → IsTree (depths_of u.entries)
tree-of from [] u h i = absurd i
tree-of from (v ∷ vs) u h (inl e) = subst (λ w. IsTree (depths_of w.entries)) (sym e) h.3
tree-of from (v ∷ vs) u h (inr i) = tree-of v.header.end vs u h.4 i

pub unit-some : (from : ℕ) (us : List Unit) (u : Unit) → UnitsStand from us → IsIn u us → u.header.offset < u.header.end
unit-some from [] u h i = absurd i
unit-some from (v ∷ vs) u h (inl e) = subst (λ w. w.header.offset < w.header.end) (sym e) h.1
unit-some from (v ∷ vs) u h (inr i) = unit-some v.header.end vs u h.4 i

-- a unit is another one, or stands in front of it or behind it
unit-order : (from : ℕ) (us : List Unit) (u v : Unit) → UnitsStand from us → IsIn u us → IsIn v us → (u ≡ v) ⊎ ((u.header.end ≤ v.header.offset) ⊎ (v.header.end ≤ u.header.offset))
unit-order from [] u v h i j = absurd i
unit-order from (w ∷ ws) u v h (inl e) (inl f) = inl (e ∙ sym f)
unit-order from (w ∷ ws) u v h (inl e) (inr j) = let same : u.header.end ≡ w.header.end = ap (λ x. x.header.end) e in inr (inl (omega (arith, same, unit-from w.header.end ws v h.4 j)))
unit-order from (w ∷ ws) u v h (inr i) (inl f) = let same : v.header.end ≡ w.header.end = ap (λ x. x.header.end) f in inr (inr (omega (arith, same, unit-from w.header.end ws u h.4 i)))
unit-order from (w ∷ ws) u v h (inr i) (inr j) = unit-order w.header.end ws u v h.4 i j

-- ---- entries

-- entries with the offset of their unit
abbrev pub placed_at : ℕ → List Entry → List Placed
placed_at n es = map (λ e. record { unit = n; entry = e }) es

-- an entry stands in a unit
pub record StandsIn (u : Unit) (p : Placed) : Type 0 where
  pub unit_is : p.unit ≡ u.header.offset
  pub low : u.header.offset ≤ p.entry.offset
  pub high : p.entry.offset < u.header.end

in-placed : (u : Unit) (from : ℕ) (es : List Entry) (p : Placed) → u.header.offset ≤ from → RiseIn from u.header.end es → IsIn p (placed_at u.header.offset es) → StandsIn u p
in-placed u from [] p low rise i = absurd i
in-placed u from (e ∷ es) p low rise (inl same) =
    let at : p.entry.offset ≡ e.offset = ap (λ (q : Placed). q.entry.offset) same in
    record { unit_is = ap (λ (q : Placed). q.unit) same; low = omega (arith, low, rise.0, at); high = omega (arith, rise.1, at) }
in-placed u from (e ∷ es) p low rise (inr i) = in-placed u (suc e.offset) es p (omega (arith, low, rise.0)) rise.2 i

-- each entry stands in a unit
pub placed-unit : (from : ℕ) (us : List Unit) (p : Placed) → UnitsStand from us → IsIn p (placed_entries us) → (u : Unit) × IsIn u us × StandsIn u p
placed-unit from [] p h i = absurd i
placed-unit from (u ∷ us) p h i = go (in-append (placed_at u.header.offset u.entries) (placed_entries us) p i) (placed-unit u.header.end us p h.4)
  where
    go : IsIn p (placed_at u.header.offset u.entries) ⊎ IsIn p (placed_entries us) → (IsIn p (placed_entries us) → (v : Unit) × IsIn v us × StandsIn v p) → (v : Unit) × IsIn v (u ∷ us) × StandsIn v p
    go (inl j) rest = (u, inl refl, in-placed u u.header.offset u.entries p (omega arith) h.2 j)
    go (inr j) rest = let found = rest j in (found.0, inr found.1, found.2)

-- an entry is one of a unit where it stands between that unit's ends
pub in-unit-same : (from : ℕ) (us : List Unit) (u : Unit) (p : Placed) → UnitsStand from us → IsIn u us → IsIn p (placed_entries us) → is_in_unit u.header p.entry.offset ≡ (p.unit == u.header.offset)
in-unit-same from us u p h i j = go found.0 found.2 (unit-order from us u found.0 h i found.1)
  where
    found : (v : Unit) × IsIn v us × StandsIn v p
    found = placed-unit from us p h j

    go : (v : Unit) → StandsIn v p → (u ≡ v) ⊎ ((u.header.end ≤ v.header.offset) ⊎ (v.header.end ≤ u.header.offset)) → is_in_unit u.header p.entry.offset ≡ (p.unit == u.header.offset)
    go v k (inl e) =
        let start : u.header.offset ≡ v.header.offset = ap (λ w. w.header.offset) e in
        let end : u.header.end ≡ v.header.end = ap (λ w. w.header.end) e in
        and_from _ _ (le-leb u.header.offset p.entry.offset (omega (arith, start, k.low))) (lt-ltb p.entry.offset u.header.end (omega (arith, end, k.high)))
        ∙ sym (eq-eqb p.unit u.header.offset (k.unit_is ∙ sym start))
    go v k (inr (inl before)) = same-truth _ _ (λ t. let parts = and_parts (nat_le u.header.offset p.entry.offset) _ t in absurd (omega (arith, before, k.low, ltb-true p.entry.offset u.header.end parts.1)))
        (λ t. absurd (omega (arith, before, k.unit_is, eqb-true p.unit u.header.offset t, (unit-some from us u h i))))
    go v k (inr (inr behind)) = same-truth _ _ (λ t. let parts = and_parts (nat_le u.header.offset p.entry.offset) _ t in absurd (omega (arith, behind, k.high, leb-true u.header.offset p.entry.offset parts.0)))
        (λ t. absurd (omega (arith, behind, k.low, k.high, k.unit_is, eqb-true p.unit u.header.offset t)))
