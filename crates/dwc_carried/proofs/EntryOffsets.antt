-- An entry of a section is known by its offset.
use Rattle.std.proofs.Common.{◌≡◌, ℕ, zero, suc, ◌≤◌, List, [], ◌∷◌, ◌++◌, refl, ap, sym, subst, ◌∙◌, inl, inr, arith, Option, Some, None}
use Rattle.std.specs.Prelude.{map, Bool, ◌||◌, ◌==◌}
use Rattle.std.specs.List.{filter, flat_map, list_any}
use Rattle.dwc_base.specs.Sections.{Sections, Fault}
use Rattle.dwc_base.specs.Units.{UnitHeader, unit_headers}
use Rattle.dwc_dwarf.specs.Entries.{Entry, entries}
use Rattle.dwc_rules.specs.Kept.{Placed, is_among, keeps, steps_of}
use Rattle.dwc_rules.specs.KeptEntries.{kept_with}
use Rattle.dwc_rules.specs.KeptModules.{entries_passing, kept_module, carried_in, kept_in}
use Rattle.dwc_rules.specs.Carried.{Module, placed_entries, is_carried_unit}
use Rattle.dwc_dwarf.specs.ReadUnits.{Unit, units_of_headers, units}
use Rattle.dwc_rules.specs.EntryRules.{is_required}
use Rattle.dwc_rules.specs.CarriedUnits.{kept_of}
use Rattle.dwc_dwarf.specs.UnitOffsets.{RiseIn, StandFrom}
use Rattle.dwc_base.proofs.InLists.{IsIn, in-filter, in-map, map-in, in-flat_map, flat_map-in}
use Rattle.dwc_dwarf.proofs.UnitOffsets.{units-stand}

-- ---- entries whose offsets rise

-- offsets of entries rise, from a place on
Rise : ℕ → List Entry → Type 0
Rise from [] = Prim.Unit {0}
Rise from (e ∷ es) = (from ≤ e.offset) × Rise (suc e.offset) es

rise-weaker : (from low : ℕ) (es : List Entry) → low ≤ from → Rise from es → Rise low es
unfolding Rise
rise-weaker from low [] le h = tt
rise-weaker from low (e ∷ es) le h = (omega (arith, le, h.0), h.1)

-- entries that rise in a unit, and behind it others
rise-both : (from end : ℕ) (es fs : List Entry) → from ≤ end → RiseIn from end es → Rise end fs → Rise from (es ++ fs)
unfolding Rise
rise-both from end [] fs le h k = rise-weaker end from fs le k
rise-both from end (e ∷ es) fs le h k = (h.0, rise-both (suc e.offset) end es fs (omega (arith, h.1)) h.2 k)

rise-above : (from : ℕ) (es : List Entry) (e : Entry) → Rise from es → IsIn e es → from ≤ e.offset
unfolding Rise
rise-above from [] e h i = absurd i
rise-above from (f ∷ es) e h (inl same) = let at : e.offset ≡ f.offset = ap (λ (x : Entry). x.offset) same in omega (arith, at, h.0)
rise-above from (f ∷ es) e h (inr i) = omega (arith, h.0, rise-above (suc f.offset) es e h.1 i)

-- two of them at one offset are one
rise-same : (from : ℕ) (es : List Entry) (e f : Entry) → Rise from es → IsIn e es → IsIn f es → e.offset ≡ f.offset → e ≡ f
unfolding Rise
rise-same from [] e f h i j at = absurd i
rise-same from (g ∷ es) e f h (inl a) (inl b) at = a ∙ sym b
rise-same from (g ∷ es) e f h (inl a) (inr j) at = let here : e.offset ≡ g.offset = ap (λ (x : Entry). x.offset) a in absurd (omega (arith, here, at, rise-above (suc g.offset) es f h.1 j))
rise-same from (g ∷ es) e f h (inr i) (inl b) at = let here : f.offset ≡ g.offset = ap (λ (x : Entry). x.offset) b in absurd (omega (arith, here, at, rise-above (suc g.offset) es e h.1 i))
rise-same from (g ∷ es) e f h (inr i) (inr j) at = rise-same (suc g.offset) es e f h.1 i j at

-- ---- the entries of a section

-- the entries of some units, unit by unit
abbrev all_of : List Unit → List Entry
all_of us = flat_map (λ u. u.entries) us

headers-rise : (s : Sections) (from : ℕ) (hs : List UnitHeader) (last : Option Fault) → StandFrom s from hs → Rise from (all_of (units_of_headers s hs last).items)
unfolding Rise
headers-rise s from [] last stand = tt
headers-rise s from (h ∷ hs) last stand = go (entries s h).fault refl (headers-rise s h.end hs last stand.3)
  where
    go : (o : Option Fault) → (entries s h).fault ≡ o → Rise h.end (all_of (units_of_headers s hs last).items) → Rise from (all_of (units_of_headers s (h ∷ hs) last).items)
    go (Some fault) is others = rw is tt
    go None is others =
        rw is (rise-weaker h.offset from ((entries s h).items ++ all_of (units_of_headers s hs last).items) stand.0
        (rise-both h.offset h.end (entries s h).items (all_of (units_of_headers s hs last).items) (omega (arith, stand.1)) stand.2 others))

section-rises : (s : Sections) → Rise 0 (all_of (units s).items)
unfolding units
section-rises s = headers-rise s 0 (unit_headers s).items (unit_headers s).fault (units-stand s)

-- an entry with the offset of its unit
abbrev in_unit : Unit → Entry → Placed
in_unit u e = record { unit = u.header.offset; entry = e }

placed-all : (us : List Unit) (p : Placed) → IsIn p (placed_entries us) → IsIn p.entry (all_of us)
placed-all us p i =
    let unit = in-flat_map (λ (u : Unit). map (in_unit u) u.entries) us p i in
    let entry = in-map (in_unit unit.0) unit.0.entries p unit.2 in
    flat_map-in (λ (u : Unit). u.entries) us unit.0 p.entry unit.1 (subst (λ (x : Entry). IsIn x unit.0.entries) (sym (ap (λ (q : Placed). q.entry) entry.2)) entry.1)

-- An entry of a unit at the offset of another one of the section is that one.
pub same-entry : (s : Sections) (u : Unit) (p : Placed) (e : Entry) → IsIn u (units s).items → IsIn p (placed_entries (units s).items) → IsIn e u.entries → p.entry.offset ≡ e.offset → p.entry ≡ e
same-entry s u p e i j k at = rise-same 0 (all_of (units s).items) p.entry e (section-rises s) (placed-all (units s).items p j) (flat_map-in (λ (v : Unit). v.entries) (units s).items u e i k) at

-- ---- kept entries

required-placed : (test : Unit → Entry → Bool) (us : List Unit) (p : Placed) → IsIn p (entries_passing test us) → IsIn p (placed_entries us)
required-placed test us p i =
    let unit = in-flat_map (λ (u : Unit). map (in_unit u) (filter (test u) u.entries)) us p i in
    let entry = in-map (in_unit unit.0) (filter (test unit.0) unit.0.entries) p unit.2 in
    flat_map-in (λ (u : Unit). map (in_unit u) u.entries) us unit.0 p unit.1
    (subst (λ (x : Placed). IsIn x (map (in_unit unit.0) unit.0.entries)) (sym entry.2) (map-in (in_unit unit.0) unit.0.entries entry.0 (in-filter (test unit.0) unit.0.entries entry.0 entry.1).0))

steps-among : (n : ℕ) (es required : List Placed) → ((p : Placed) → IsIn p required → IsIn p es) → (p : Placed) → IsIn p (steps_of n es required) → IsIn p es
steps-among zero es required within p i = within p i
steps-among (suc n) es required within p i = (in-filter (λ f. is_among (steps_of n es required) f || list_any (λ e. keeps es e f) (steps_of n es required)) es p i).0

-- a kept entry is an entry of its section
pub kept-placed : (m : Module) (u : Unit) (p : Placed) → IsIn p (kept_in (kept_of m) u) → IsIn p (placed_entries (units m.sections).items)
unfolding kept_module kept_with
kept-placed m u p i =
    let us = (units m.sections).items in
    let test = λ (v : Unit). is_required m.functions m.sections v.header in
    steps-among _ (placed_entries us) (entries_passing test us) (required-placed test us) p (in-filter (λ (e : Placed). e.unit == u.header.offset) (kept_of m).kept p i).0

-- and a carried unit one of its units
pub carried-read : (m : Module) (u : Unit) → IsIn u (carried_in (kept_of m)) → IsIn u (units m.sections).items
unfolding kept_module
carried-read m u i = (in-filter (is_carried_unit (kept_of m).kept) (kept_of m).units u i).0
