-- The type of a kept entry is kept, and stands where the entry does: in its unit.
use Rattle.std.proofs.Common.{◌≡◌, ℕ, suc, ◌+◌, List, [], ◌∷◌, map, refl, ap, ap₂, sym, ◌∙◌, Bool, true, false, cond, eq-eqb, Option, Some, None}
use Rattle.std.specs.Prelude.{◌==◌, ◌&&◌, ◌||◌, not, option_map, position}
use Rattle.std.specs.List.{find, list_any}
use Rattle.std.specs.Option.{is_some}
use Rattle.std.proofs.lemmas.Bool.{true≢false, eqb-true, and_parts}
use Rattle.std.proofs.lemmas.Iterator.Adapters.{position_from-zero}
use Rattle.dwc_base.specs.declared.constants.TheConstants.{DW_AT_sibling, DW_AT_type}
use Rattle.dwc_dwarf.specs.Entries.{attribute}
use Rattle.dwc_dwarf.specs.Values.{Value, address, address_index, block, constant, dropped, expression, flag, info_reference, line_reference, location_index, location_reference, range_index, range_reference, text, text_reference, unit_reference}
use Rattle.dwc_rules.specs.Kept.{Placed, names_entry, is_parent, refers_to, is_part_of, keeps}
use Rattle.dwc_rules.specs.Targets.{target_of}
use Rattle.dwc_rules.specs.TypeNames.{target_in_unit, type_of}
use Rattle.dwc_rules.specs.EntryRules.{is_required}
use Rattle.dwc_rules.specs.Carried.{Module}
use Rattle.dwc_rules.specs.CarriedUnits.{kept_of}
use Rattle.dwc_dwarf.specs.Trees.{place_among}
use Rattle.dwc_rules.specs.KeptEntries.{has_place}
use Rattle.dwc_base.proofs.InLists.{IsIn, any-in, in-any, in-filter, filter-in}
use Rattle.dwc_kept.specs.declared.kept_units.KeptModule.{KeptModule}
use Rattle.dwc_kept.specs.declared.read_unit.ReadUnit.{ReadUnit}
use Rattle.dwc_kept.specs.KeptUnits.{is_in_unit}
use Rattle.dwc_kept.specs.ReadUnits.{IsKeptModule}
use Rattle.dwc_kept.proofs.KeptGoals.{first_with, carried, inside, stands_in, offset-place, position-some}
use Rattle.dwc_kept.proofs.KeptInUnits.{are-kept, kept-at}
use Rattle.dwc_kept.proofs.KeptModuleLaws.{read-inside, read-kept}
use Rattle.dwc_kept.proofs.KeptReferences.{found-in}

-- where an attribute but a sibling names an entry, that is referred to
module _ (e f : Placed) where
  abbrev names : ℕ × Value → Bool
  names a = not (a.0 == DW_AT_sibling) && names_entry e f a.1

  type-names : (attributes : List (ℕ × Value)) (v : Value) → option_map (λ a. a.1) (find (λ a. a.0 == DW_AT_type) attributes) ≡ Some v → names_entry e f v ≡ true → list_any names attributes ≡ true
  type-names [] v h is = absurd (cc)
  type-names (a ∷ attributes) v h is = go (a.0 == DW_AT_type) refl h (λ g. type-names attributes v g is)
    where
      first : (x : ℕ × Value) → x.0 ≡ DW_AT_type → x.1 ≡ v → names x ≡ true
      first x name value = ap₂ (λ (n : ℕ) (w : Value). not (n == DW_AT_sibling) && names_entry e f w) name value ∙ is

      or-left : (b c : Bool) → b ≡ true → (b || c) ≡ true
      or-left true c h = refl
      or-left false c h = absurd (cc)

      or-right : (b c : Bool) → c ≡ true → (b || c) ≡ true
      or-right true c h = refl
      or-right false c h = h

      go : (b : Bool) → (a.0 == DW_AT_type) ≡ b → option_map (λ x. x.1) (cond {A = Option (ℕ × Value)} b (Some a) (find (λ x. x.0 == DW_AT_type) attributes)) ≡ Some v
          → (option_map (λ x. x.1) (find (λ x. x.0 == DW_AT_type) attributes) ≡ Some v → list_any names attributes ≡ true) → (names a || list_any names attributes) ≡ true
      go true at found rest = or-left (names a) (list_any names attributes) (first a (eqb-true a.0 DW_AT_type at) (cc))
      go false at found rest = or-right (names a) (list_any names attributes) (rest found)

  kept-with : (es : List Placed) → refers_to e f ≡ true → keeps es e f ≡ true
  kept-with es refers = go (is_parent es e f) (refers_to e f) refers
    where
      go : (a b : Bool) → b ≡ true → (a || b || (is_parent es f e && is_part_of e f)) ≡ true
      go true b h = refl
      go false true h = refl
      go false false h = absurd (cc)

-- The type of an entry is one of the entries, in the unit of the entry, which keeps it.
pub record IsTypeOf (es : List Placed) (e f : Placed) : Type 0 where
  pub among : IsIn f es
  pub unit : f.unit ≡ e.unit
  pub kept : keeps es e f ≡ true

pub type-is : (es : List Placed) (e f : Placed) → type_of es e ≡ Some f → IsTypeOf es e f
unfolding target_of
type-is es e f h = go (attribute DW_AT_type e.entry) refl h
  where
    none : None ≡ Some f → ⊥
    none x = cc

    within : (n : ℕ) → names_entry e f (unit_reference n) ≡ true → f.unit ≡ e.unit
    within n is = eqb-true f.unit e.unit (and_parts (f.unit == e.unit) (f.entry.offset == e.unit + n) is).0

    go : (v : Option Value) → attribute DW_AT_type e.entry ≡ v → target_in_unit es e v ≡ Some f → IsTypeOf es e f
    go (Some (unit_reference n)) at h =
        let found = found-in (λ g. names_entry e g (unit_reference n)) es f h in
        record { among = found.0; unit = within n found.1; kept = kept-with e f es (type-names e f e.entry.attributes (unit_reference n) at found.1) }
    go None at h = absurd (none h)
    go (Some (address a)) at h = absurd (none h)
    go (Some (address_index n)) at h = absurd (none h)
    go (Some (constant form n)) at h = absurd (none h)
    go (Some (flag b)) at h = absurd (none h)
    go (Some (block bytes)) at h = absurd (none h)
    go (Some (expression bytes)) at h = absurd (none h)
    go (Some (text bytes)) at h = absurd (none h)
    go (Some (text_reference form n)) at h = absurd (none h)
    go (Some (line_reference n)) at h = absurd (none h)
    go (Some (range_reference n)) at h = absurd (none h)
    go (Some (range_index n)) at h = absurd (none h)
    go (Some (location_reference n)) at h = absurd (none h)
    go (Some (location_index n)) at h = absurd (none h)
    go (Some (info_reference n)) at h = absurd (none h)
    go (Some dropped) at h = absurd (none h)

-- What an entry of a module whose offset is kept keeps is such an entry too.
pub keeps-kept : (c : Module) (m : KeptModule) → IsKeptModule c.functions c.sections m → (e f : Placed) → IsIn e (kept_of c).entries → IsIn f (kept_of c).entries → list_any (λ o. o == e.entry.offset) m.kept ≡ true
    → keeps (kept_of c).entries e f ≡ true → list_any (λ o. o == f.entry.offset) m.kept ≡ true
keeps-kept c m is e f i j kept keep =
    let are = are-kept (λ u. is_required c.functions c.sections u.header) c is.whole in
    let at : (offset : ℕ) → list_any (λ o. o == offset) m.kept ≡ has_place (kept_of c).kept offset = λ offset. ap (list_any (λ o. o == offset)) (read-kept c m is) ∙ kept-at (kept_of c) are offset in
    at f.entry.offset ∙ are.closed e f i j (sym (at e.entry.offset) ∙ kept) keep

-- ---- places

-- Of units something has a place exactly where one of them has it.
module _ {R : Type 0} (has : R → Bool) (place : R → Option ℕ) where
  pub with-any : (number : ℕ) (rs : List R) → is_some (first_with has place number rs) ≡ true → list_any has rs ≡ true
  with-any number [] some = absurd (true≢false (sym some))
  with-any number (r ∷ rs) some = go (has r) some (with-any (suc number) rs)
    where
      go : (b : Bool) → is_some (cond {A = Option (ℕ × ℕ)} b (option_map (λ p. (number, p)) (place r)) (first_with has place (suc number) rs)) ≡ true → (is_some (first_with has place (suc number) rs) ≡ true → list_any has rs ≡ true) → (b || list_any has rs) ≡ true
      go true some others = refl
      go false some others = others some

  any-with : ((r : R) → has r ≡ true → is_some (place r) ≡ true) → (number : ℕ) (rs : List R) → list_any has rs ≡ true → is_some (first_with has place number rs) ≡ true
  any-with placed number [] some = absurd (true≢false (sym some))
  any-with placed number (r ∷ rs) some = go (has r) refl some (any-with placed (suc number) rs)
    where
      mapped : (o : Option ℕ) → is_some o ≡ true → is_some {T = ℕ × ℕ} (option_map (λ p. (number, p)) o) ≡ true
      mapped (Some p) is = refl
      mapped None is = absurd (true≢false (sym is))

      go : (b : Bool) → has r ≡ b → (b || list_any has rs) ≡ true → (list_any has rs ≡ true → is_some (first_with has place (suc number) rs) ≡ true) → is_some (cond {A = Option (ℕ × ℕ)} b (option_map (λ p. (number, p)) (place r)) (first_with has place (suc number) rs)) ≡ true
      go true is some others = mapped (place r) (placed r is)
      go false is some others = others some

module _ (c : Module) (m : KeptModule) (is : IsKeptModule c.functions c.sections m) where
  -- An offset with a place is that of a kept entry,
  pub place-kept : (offset number : ℕ) → is_some (place_among (λ k. k == offset) number (map (inside m.kept) (carried m))) ≡ true → list_any (λ k. k == offset) m.kept ≡ true
  place-kept offset number some =
      let found = any-in (stands_in m.kept offset) (carried m) (with-any (stands_in m.kept offset) (λ r. position (λ k. k == offset) (inside m.kept r)) number (carried m) (sym (ap is_some (offset-place c m is offset number)) ∙ some)) in
      let at = any-in (λ k. k == offset) (inside m.kept found.0) found.2 in
      in-any (λ k. k == offset) m.kept at.0 (in-filter (is_in_unit (found.0).unit.header) m.kept at.0 at.1).0 at.2

  -- and one of a kept entry of a carried unit has a place.
  kept-place : (offset number : ℕ) (r : ReadUnit) → IsIn r (carried m) → is_in_unit r.unit.header offset ≡ true → list_any (λ k. k == offset) m.kept ≡ true → is_some (place_among (λ k. k == offset) number (map (inside m.kept) (carried m))) ≡ true
  kept-place offset number r i within kept =
      let at = any-in (λ k. k == offset) m.kept kept in
      let same : at.0 ≡ offset = eqb-true at.0 offset at.2 in
      let there = filter-in (is_in_unit r.unit.header) m.kept at.0 at.1 (ap (is_in_unit r.unit.header) same ∙ within) in
      ap is_some (offset-place c m is offset number)
      ∙ any-with (stands_in m.kept offset) (λ x. position (λ k. k == offset) (inside m.kept x))
      (λ x some. ap is_some (position_from-zero (λ k. k == offset) (inside m.kept x)) ∙ position-some (λ k. k == offset) 0 (inside m.kept x) some) number (carried m)
      (in-any (stands_in m.kept offset) (carried m) r i (in-any (λ k. k == offset) (inside m.kept r) at.0 there at.2))

  -- What an entry with a place keeps has one, if it is an entry of a carried unit.
  pub keeps-placed : (r : ReadUnit) → IsIn r (carried m) → IsIn r m.units.items → (number : ℕ) (e f : Placed) → IsIn e (kept_of c).entries → IsIn f (kept_of c).entries → f.unit ≡ r.unit.header.offset
      → is_some (place_among (λ k. k == e.entry.offset) number (map (inside m.kept) (carried m))) ≡ true → keeps (kept_of c).entries e f ≡ true
      → is_some (place_among (λ k. k == f.entry.offset) number (map (inside m.kept) (carried m))) ≡ true
  keeps-placed r i j number e f among there own placed keep =
      kept-place f.entry.offset number r i (sym (read-inside c m is r j f there) ∙ eq-eqb f.unit r.unit.header.offset own)
      (keeps-kept c m is e f among there (place-kept e.entry.offset number placed) keep)

  -- The type of an entry of a carried unit has a place where the entry has one, and is an entry of that unit.
  pub type-placed : (r : ReadUnit) → IsIn r (carried m) → IsIn r m.units.items → (number : ℕ) (e f : Placed) → IsIn e (kept_of c).entries → e.unit ≡ r.unit.header.offset
      → is_some (place_among (λ k. k == e.entry.offset) number (map (inside m.kept) (carried m))) ≡ true → type_of (kept_of c).entries e ≡ Some f
      → IsIn f (kept_of c).entries × (f.unit ≡ r.unit.header.offset) × (is_some (place_among (λ k. k == f.entry.offset) number (map (inside m.kept) (carried m))) ≡ true)
  type-placed r i j number e f among own placed type =
      let t = type-is (kept_of c).entries e f type in
      let unit : f.unit ≡ r.unit.header.offset = t.unit ∙ own in
      (t.among, unit, keeps-placed r i j number e f among t.among unit placed t.kept)
