-- The kept entries of a carried unit have places in it, one behind another.
use Rattle.std.proofs.Common.{◌≡◌, ℕ, zero, suc, ◌+◌, ◌<◌, ◌≤◌, List, [], ◌∷◌, map, refl, ap, sym, subst, ◌∙◌, inl, inr, arith, Bool, true, false, cond, Option, Some}
use Rattle.std.specs.Prelude.{◌==◌, if◌then◌else◌, option_map, position, slice_get}
use Rattle.std.specs.List.{filter, list_any, position_from}
use Rattle.std.specs.Option.{is_some}
use Rattle.std.proofs.lemmas.Bool.{true≢false, eq-eqb, ne_eqb}
use Rattle.std.proofs.lemmas.Iterator.Adapters.{position_from-zero}
use Rattle.dwc_dwarf.specs.Entries.{Entry, entries}
use Rattle.dwc_rules.specs.EntryRules.{is_required}
use Rattle.dwc_rules.specs.Carried.{Module}
use Rattle.dwc_dwarf.specs.ReadUnits.{Unit}
use Rattle.dwc_rules.specs.CarriedUnits.{kept_of}
use Rattle.dwc_rules.specs.Kept.{Placed}
use Rattle.dwc_dwarf.specs.Trees.{place_among}
use Rattle.dwc_dwarf.specs.UnitOffsets.{RiseIn}
use Rattle.dwc_base.proofs.InLists.{IsIn, in-any, filter-in, map-in}
use Rattle.dwc_kept.specs.declared.kept_units.KeptModule.{KeptModule}
use Rattle.dwc_kept.specs.declared.read_unit.ReadUnit.{ReadUnit}
use Rattle.dwc_kept.specs.KeptUnits.{kept_of_unit, stands_at}
use Rattle.dwc_kept.specs.ReadUnits.{unit_read, IsKeptModule}
use Rattle.dwc_kept.proofs.KeptAlone.{entry-in}
use Rattle.dwc_kept.proofs.KeptGoals.{OneHas, first_with, carried, inside, stands_in, one-stands, offset-place}
use Rattle.dwc_kept.proofs.KeptInUnits.{are-kept}
use Rattle.dwc_kept.proofs.KeptModuleLaws.{read-in, read-within}
use Rattle.dwc_kept.proofs.KeptStanding.{UnitsStand}
use Rattle.dwc_kept.proofs.KeptTypes.{place-kept}

-- ---- lists

-- the first of some units that has something, where one of them has it
first-in : {R : Type 0} (has : R → Bool) (place : R → Option ℕ) (number : ℕ) (rs : List R) (r : R) → OneHas has rs → IsIn r rs → has r ≡ true → (n : ℕ) × (first_with has place number rs ≡ option_map (λ p. (n, p)) (place r))
first-in has place number [] r one i is = absurd i
first-in has place number (x ∷ rs) r one (inl e) is =
    (number, ap (λ b. if b then option_map (λ p. (number, p)) (place x) else first_with has place (suc number) rs) (ap has (sym e) ∙ is) ∙ ap (λ y. option_map (λ p. (number, p)) (place y)) (sym e))
first-in has place number (x ∷ rs) r one (inr i) is =
    let rest = first-in has place (suc number) rs r one.1 i is in
    (rest.0, ap (λ b. if b then option_map (λ p. (number, p)) (place x) else first_with has place (suc number) rs) (go (has x) refl) ∙ rest.1)
  where
    go : (b : Bool) → has x ≡ b → b ≡ false
    go true h = absurd (true≢false (sym is ∙ one.0 h r i))
    go false h = refl

-- ---- entries in file order

rise-weaker : (from low end : ℕ) (es : List Entry) → low ≤ from → RiseIn from end es → RiseIn low end es
rise-weaker from low end [] le h = tt
rise-weaker from low end (e ∷ es) le h = (omega (arith, le, h.0), h.1, h.2)

rise-filter : (t : Entry → Bool) (from end : ℕ) (es : List Entry) → RiseIn from end es → RiseIn from end (filter t es)
rise-filter t from end [] h = tt
rise-filter t from end (e ∷ es) h = go (t e) (rise-filter t (suc e.offset) end es h.2)
  where
    go : (b : Bool) → RiseIn (suc e.offset) end (filter t es) → RiseIn from end (cond {A = List Entry} b (e ∷ filter t es) (filter t es))
    go true k = (h.0, h.1, k)
    go false k = rise-weaker (suc e.offset) from end (filter t es) (omega (arith, h.0)) k

-- the entry at a place is there
at-place : (es : List Entry) (i : ℕ) (e : Entry) → slice_get es i ≡ Some e → IsIn e es
at-place [] i e at = absurd (cc)
at-place (x ∷ es) zero e at = inl (same at)
  where
    same : ◌≡◌ {A = Option Entry} (Some x) (Some e) → e ≡ x
    same k = cc
at-place (x ∷ es) (suc i) e at = inr (at-place es i e at)

between : (from end : ℕ) (es : List Entry) (e : Entry) → RiseIn from end es → IsIn e es → (from ≤ e.offset) × (e.offset < end)
between from end [] e h i = absurd i
between from end (x ∷ es) e h (inl same) = let at : e.offset ≡ x.offset = ap (λ (y : Entry). y.offset) same in (omega (arith, at, h.0), omega (arith, at, h.1))
between from end (x ∷ es) e h (inr i) = let more = between (suc x.offset) end es e h.2 i in (omega (arith, more.0, h.0), more.1)

-- and is found there by its offset
position-at : (from end n : ℕ) (es : List Entry) (i : ℕ) (e : Entry) → RiseIn from end es → slice_get es i ≡ Some e → position_from (λ k. k == e.offset) n (map (λ (x : Entry). x.offset) es) ≡ Some (n + i)
position-at from end n [] i e h at = absurd (cc)
position-at from end n (x ∷ es) zero e h at =
    ap (λ b. cond {A = Option ℕ} b (Some n) (position_from (λ k. k == e.offset) (n + 1) (map (λ (y : Entry). y.offset) es))) (eq-eqb x.offset e.offset (same at)) ∙ ap Some (omega arith)
  where
    same : ◌≡◌ {A = Option Entry} (Some x) (Some e) → x.offset ≡ e.offset
    same k = cc
position-at from end n (x ∷ es) (suc i) e h at =
    let behind : suc x.offset ≤ e.offset = (between (suc x.offset) end es e h.2 (at-place es i e at)).0 in
    ap (λ b. cond {A = Option ℕ} b (Some n) (position_from (λ k. k == e.offset) (n + 1) (map (λ (y : Entry). y.offset) es))) (ne_eqb x.offset e.offset (λ same. absurd (omega (arith, same, behind))))
    ∙ position-at (suc x.offset) end (n + 1) es i e h.2 at
    ∙ ap Some (omega arith)

unit-rises : (from : ℕ) (us : List Unit) (u : Unit) → UnitsStand from us → IsIn u us → RiseIn u.header.offset u.header.end u.entries
unit-rises from [] u h i = absurd i
unit-rises from (v ∷ vs) u h (inl e) = subst (λ w. RiseIn w.header.offset w.header.end w.entries) (sym e) h.2
unit-rises from (v ∷ vs) u h (inr i) = unit-rises v.header.end vs u h.4 i

-- ---- a module

module _ (c : Module) (m : KeptModule) (is : IsKeptModule c.functions c.sections m) (r : ReadUnit) (i : IsIn r m.units.items) where
  abbrev unit : Unit
  unit = unit_read c.sections r.unit.header

  -- The entries of a unit that was read rise.
  pub read-rises : RiseIn r.unit.header.offset r.unit.header.end (entries c.sections r.unit.header).items
  read-rises = unit-rises 0 (kept_of c).units unit (are-kept (λ u. is_required c.functions c.sections u.header) c is.whole).stand (read-in c m is r i)

  kept-rises : RiseIn r.unit.header.offset r.unit.header.end (kept_of_unit m.kept unit)
  kept-rises = rise-filter (stands_at m.kept) r.unit.header.offset r.unit.header.end (entries c.sections r.unit.header).items read-rises

  -- Its kept entries stand in it.
  pub kept-between : (n : ℕ) (e : Entry) → slice_get (kept_of_unit m.kept unit) n ≡ Some e → (r.unit.header.offset ≤ e.offset) × (e.offset < r.unit.header.end)
  kept-between n e at = between r.unit.header.offset r.unit.header.end (kept_of_unit m.kept unit) e kept-rises (at-place (kept_of_unit m.kept unit) n e at)

  -- the place of an offset in a unit
  abbrev place_in : ℕ → ReadUnit → Option ℕ
  place_in offset x = position (λ k. k == offset) (inside m.kept x)

  -- Each kept entry of a carried unit is at its place among them, in the unit of a number.
  pub kept-emitted : IsIn r (carried m) → (first n : ℕ) (e : Entry) → slice_get (kept_of_unit m.kept unit) n ≡ Some e
      → (number : ℕ) × (place_among (λ k. k == e.offset) first (map (inside m.kept) (carried m)) ≡ Some (number, n))
  kept-emitted j first n e at = (found.0, offset-place c m is e.offset first ∙ found.1 ∙ ap (option_map (λ p. (found.0, p))) placed)
    where
      stands : stands_in m.kept e.offset r ≡ true
      stands =
          ap (list_any (λ k. k == e.offset)) (read-within c m is r i)
          ∙ in-any (λ k. k == e.offset) (map (λ (x : Entry). x.offset) (kept_of_unit m.kept unit)) e.offset (map-in (λ (x : Entry). x.offset) (kept_of_unit m.kept unit) e (at-place (kept_of_unit m.kept unit) n e at)) (eq-eqb e.offset e.offset refl)

      placed : place_in e.offset r ≡ Some n
      placed =
          ap (position (λ k. k == e.offset)) (read-within c m is r i)
          ∙ position_from-zero (λ k. k == e.offset) (map (λ (x : Entry). x.offset) (kept_of_unit m.kept unit))
          ∙ position-at r.unit.header.offset r.unit.header.end 0 (kept_of_unit m.kept unit) n e kept-rises at
          ∙ ap Some (omega arith)

      found : (number : ℕ) × (first_with (stands_in m.kept e.offset) (place_in e.offset) first (carried m) ≡ option_map (λ p. (number, p)) (place_in e.offset r))
      found = first-in (stands_in m.kept e.offset) (place_in e.offset) first (carried m) r (one-stands c m is e.offset) j stands

  -- An entry of the unit with a place is one of its kept ones.
  pub emitted-kept : (number : ℕ) (f : Placed) → IsIn f (kept_of c).entries → f.unit ≡ r.unit.header.offset → is_some (place_among (λ k. k == f.entry.offset) number (map (inside m.kept) (carried m))) ≡ true
      → IsIn f.entry (kept_of_unit m.kept unit)
  emitted-kept number f among own placed = filter-in (stands_at m.kept) (entries c.sections r.unit.header).items f.entry (entry-in c m is r i f among own) (place-kept c m is f.entry.offset number placed)
