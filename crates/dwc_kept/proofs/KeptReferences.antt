-- The entry that a reference goes to, by the offset that it names.
use Rattle.std.proofs.Common.{◌≡◌, ℕ, suc, ◌+◌, ◌-◌, ◌^◌, ◌<◌, ◌⊎◌, List, [], ◌∷◌, length, refl, ap, ap₂, sym, subst, ◌∙◌, inl, inr, arith, one-add, Bool, true, false, cond, Option, Some, None, All}
use Rattle.std.specs.Prelude.{◌==◌, ◌&&◌, nat_le, nat_lt, not, if◌then◌else◌, option_map, option_and_then}
use Rattle.std.specs.Option.{option_or}
use Rattle.std.specs.List.{find, position, prefix_len}
use Rattle.std.proofs.lemmas.Bool.{eq-eqb, ne_eqb, eqb-true, lt-ltb, le-ltb, le-leb, ltb-true, ltb-false, not_from_false, and_from, and_parts, false_from_ne_true}
use Rattle.std.proofs.lemmas.List.Elements.{All-weaker}
use Rattle.dwc_dwarf.specs.Trees.{place_among}
use Rattle.dwc_dwarf.specs.Values.{Value, address, address_index, constant, flag, block, expression, text, text_reference, line_reference, range_reference, range_index, location_reference, location_index, unit_reference, info_reference, dropped}
use Rattle.dwc_dwarf.specs.ReadUnits.{Unit}
use Rattle.dwc_rules.specs.Kept.{Placed, names_entry}
use Rattle.dwc_rules.specs.KeptEntries.{has_place}
use Rattle.dwc_rules.specs.KeptModules.{KeptModule}
use Rattle.dwc_rules.specs.Targets.{target_of}
use Rattle.dwc_kept.specs.ReadEntries.{small_offset, named_offset}
use Rattle.dwc_kept.specs.KeptUnits.{is_in_unit, AreEntryOffsets}
use Rattle.dwc_base.proofs.InLists.{IsIn}
use Rattle.dwc_kept.proofs.KeptLaws.{place-in}
use Rattle.dwc_kept.proofs.MarkLaws.{same-truth}
use Rattle.dwc_kept.proofs.KeptStanding.{in-unit-same}
use Rattle.dwc_kept.proofs.KeptInUnits.{AreKept}

-- ---- lists

find-same : {A : Type 0} (s t : A → Bool) (xs : List A) → ((x : A) → IsIn x xs → s x ≡ t x) → find s xs ≡ find t xs
find-same s t [] h = refl
find-same {A} s t (x ∷ xs) h = ap (λ b. cond b (Some x) (find s xs)) (h x (inl refl)) ∙ ap (λ o. cond (t x) (Some x) o) (find-same s t xs (λ y i. h y (inr i)))

find-none : {A : Type 0} (t : A → Bool) (xs : List A) → ((x : A) → IsIn x xs → t x ≡ false) → find t xs ≡ None
find-none t [] h = refl
find-none t (x ∷ xs) h = ap (λ b. cond b (Some x) (find t xs)) (h x (inl refl)) ∙ find-none t xs (λ y i. h y (inr i))

-- What is found passes the test, and is there.
pub found-in : {A : Type 0} (t : A → Bool) (xs : List A) (x : A) → find t xs ≡ Some x → IsIn x xs × (t x ≡ true)
found-in t [] x h = absurd (cc)
found-in {A} t (y ∷ xs) x h = go (t y) refl h (found-in t xs x)
  where
    go : (b : Bool) → t y ≡ b → cond {A = Option A} b (Some y) (find t xs) ≡ Some x → (find t xs ≡ Some x → IsIn x xs × (t x ≡ true)) → IsIn x (y ∷ xs) × (t x ≡ true)
    go true is found rest = let same : y ≡ x = cc in (inl (sym same), subst (λ z. t z ≡ true) same is)
    go false is found rest = (inr (rest found).0, (rest found).1)

-- what is found, or that nothing is there
found-or : {A : Type 0} (t : A → Bool) (xs : List A) → ((x : A) × (find t xs ≡ Some x) × (t x ≡ true)) ⊎ ((find t xs ≡ None) × ((x : A) → IsIn x xs → t x ≡ false))
found-or t [] = inr (refl, λ x i. absurd i)
found-or {A} t (x ∷ xs) = go (t x) refl (found-or t xs)
  where
    go : (b : Bool) → t x ≡ b → ((y : A) × (find t xs ≡ Some y) × (t y ≡ true)) ⊎ ((find t xs ≡ None) × ((y : A) → IsIn y xs → t y ≡ false))
        → ((y : A) × (cond b (Some x) (find t xs) ≡ Some y) × (t y ≡ true)) ⊎ ((cond b (Some x) (find t xs) ≡ None) × ((y : A) → IsIn y (x ∷ xs) → t y ≡ false))
    go true is rest = inl (x, refl, is)
    go false is (inl found) = inl found
    go false is (inr none) = inr (none.0, each)
      where
        each : (y : A) → IsIn y (x ∷ xs) → t y ≡ false
        each y (inl e) = ap t e ∙ is
        each y (inr i) = none.1 y i

-- where no item passes, none has a position
position-none : {A : Type 0} (t : A → Bool) (xs : List A) → All (λ x. t x ≡ false) xs → position t xs ≡ None
position-none {A} t xs h = ap (λ k. cond (nat_lt k (length xs)) (Some k) None) (all-pass xs h) ∙ ap (λ b. cond b (Some (length xs)) None) (le-ltb (length xs) (length xs) (omega arith))
  where
    all-pass : (ys : List A) → All (λ x. t x ≡ false) ys → prefix_len (λ x. not (t x)) ys ≡ length ys
    all-pass [] k = refl
    all-pass (y ∷ ys) k =
        ap (λ b. cond b (1 + prefix_len (λ x. not (t x)) ys) 0) (not_from_false (t y) (k 0 y (omega arith)))
        ∙ one-add (prefix_len (λ x. not (t x)) ys)
        ∙ ap suc (all-pass ys (λ i d less. k (suc i) d (omega (arith, less))))

among-none : {A : Type 0} (t : A → Bool) (n : ℕ) (lists : List (List A)) → All (All (λ x. t x ≡ false)) lists → place_among t n lists ≡ None
among-none t n [] h = refl
among-none {A} t n (xs ∷ lists) h =
    ap₂ (λ (a : Option ℕ) (b : Option (ℕ × ℕ)). option_or (option_map (λ place. (n, place)) a) b) (position-none t xs (h 0 [] (omega arith)))
    (among-none t (suc n) lists (λ i d less. h (suc i) d (omega (arith, less))))

-- ---- what a reference names

-- the offset that a value names, however large
abbrev wanted : ℕ → ℕ → Value → Option ℕ
wanted unit end (unit_reference n) = if nat_lt n (end - unit) then Some (unit + n) else None
wanted unit end (info_reference n) = Some n
wanted unit end _ = None

-- whether an entry stands at an offset, if there is one
abbrev stands_there : Option ℕ → Placed → Bool
stands_there None f = false
stands_there (Some offset) f = f.entry.offset == offset

named-small : (unit end : ℕ) (v : Value) → named_offset unit end v ≡ option_and_then small_offset (wanted unit end v)
named-small unit end (address a) = refl
named-small unit end (address_index n) = refl
named-small unit end (constant a n) = refl
named-small unit end (flag b) = refl
named-small unit end (block b) = refl
named-small unit end (expression b) = refl
named-small unit end (text b) = refl
named-small unit end (text_reference a n) = refl
named-small unit end (line_reference n) = refl
named-small unit end (range_reference n) = refl
named-small unit end (range_index n) = refl
named-small unit end (location_reference n) = refl
named-small unit end (location_index n) = refl
named-small unit end (unit_reference n) = go (nat_lt n (end - unit))
  where
    go : (b : Bool) → (if b then small_offset (unit + n) else None) ≡ option_and_then small_offset (if b then Some (unit + n) else None)
    go true = refl
    go false = refl
named-small unit end (info_reference n) = refl
named-small unit end dropped = refl

module _ (u : Unit) (e f : Placed) (own : e.unit ≡ u.header.offset) (in_unit : is_in_unit u.header f.entry.offset ≡ (f.unit == u.header.offset)) where
  unit-wanted : (n : ℕ) → names_entry e f (unit_reference n) ≡ stands_there (wanted u.header.offset u.header.end (unit_reference n)) f
  unit-wanted n = go (nat_lt n (u.header.end - u.header.offset)) refl
    where
      go : (b : Bool) → nat_lt n (u.header.end - u.header.offset) ≡ b → ((f.unit == e.unit) && (f.entry.offset == e.unit + n)) ≡ stands_there (if b then Some (u.header.offset + n) else None) f
      go true less = same-truth _ _ there back
        where
          there : ((f.unit == e.unit) && (f.entry.offset == e.unit + n)) ≡ true → (f.entry.offset == u.header.offset + n) ≡ true
          there t = let parts = and_parts (f.unit == e.unit) _ t in eq-eqb f.entry.offset (u.header.offset + n) (omega (arith, own, eqb-true f.entry.offset (e.unit + n) parts.1))

          back : (f.entry.offset == u.header.offset + n) ≡ true → ((f.unit == e.unit) && (f.entry.offset == e.unit + n)) ≡ true
          back t =
              let at : f.entry.offset ≡ u.header.offset + n = eqb-true f.entry.offset (u.header.offset + n) t in
              let inside : is_in_unit u.header f.entry.offset ≡ true = and_from _ _ (le-leb u.header.offset f.entry.offset (omega (arith, at))) (lt-ltb f.entry.offset u.header.end (omega (arith, at, ltb-true n (u.header.end - u.header.offset) less))) in
              and_from _ _ (eq-eqb f.unit e.unit (eqb-true f.unit u.header.offset (sym in_unit ∙ inside) ∙ sym own)) (eq-eqb f.entry.offset (e.unit + n) (omega (arith, at, own)))
      go false most = false_from_ne_true _ none
        where
          none : ((f.unit == e.unit) && (f.entry.offset == e.unit + n)) ≡ true → ⊥
          none t =
              let parts = and_parts (f.unit == e.unit) _ t in
              let inside : is_in_unit u.header f.entry.offset ≡ true = in_unit ∙ eq-eqb f.unit u.header.offset (eqb-true f.unit e.unit parts.0 ∙ own) in
              let low = and_parts (nat_le u.header.offset f.entry.offset) _ inside in
              absurd (omega (arith, own, eqb-true f.entry.offset (e.unit + n) parts.1, ltb-true f.entry.offset u.header.end low.1, ltb-false n (u.header.end - u.header.offset) most))

  value-wanted : (v : Value) → names_entry e f v ≡ stands_there (wanted u.header.offset u.header.end v) f
  value-wanted (address a) = refl
  value-wanted (address_index n) = refl
  value-wanted (constant a n) = refl
  value-wanted (flag b) = refl
  value-wanted (block b) = refl
  value-wanted (expression b) = refl
  value-wanted (text b) = refl
  value-wanted (text_reference a n) = refl
  value-wanted (line_reference n) = refl
  value-wanted (range_reference n) = refl
  value-wanted (range_index n) = refl
  value-wanted (location_reference n) = refl
  value-wanted (location_index n) = refl
  value-wanted (unit_reference n) = unit-wanted n
  value-wanted (info_reference n) = refl
  value-wanted dropped = refl

-- what stands at a wanted offset tells it, if it is small
there-named : (o : Option ℕ) (f : Placed) → stands_there o f ≡ true → f.entry.offset < 2 ^ 32 → option_and_then small_offset o ≡ Some f.entry.offset
there-named None f is small = absurd (cc)
there-named (Some offset) f is small =
    let same : f.entry.offset ≡ offset = eqb-true f.entry.offset offset is in
    ap small_offset (sym same) ∙ ap (λ b. if b then Some f.entry.offset else None) (lt-ltb f.entry.offset (2 ^ 32) small)

-- A value that goes from an entry of a unit to one at a small offset names that offset.
pub target-named : (m : KeptModule) → AreKept m → (u : Unit) → IsIn u m.units → (e f : Placed) → e.unit ≡ u.header.offset → (v : Value) → target_of m.entries e v ≡ Some f → f.entry.offset < 2 ^ 32
    → named_offset u.header.offset u.header.end v ≡ Some f.entry.offset
unfolding target_of
target-named m are u i e f own v at small =
    let found = found-in (λ g. names_entry e g v) m.entries f at in
    named-small u.header.offset u.header.end v
    ∙ there-named (wanted u.header.offset u.header.end v) f (sym (value-wanted u e f own (in-unit-same 0 m.units u f are.stand i (subst (IsIn f) are.entries found.0)) v) ∙ found.1) small

-- ---- where it is found

module _ (m : KeptModule) (are : AreKept m) (lists : List (List ℕ)) (offsets : AreEntryOffsets m lists) (number : ℕ) where
  abbrev place_of : ℕ → Option (ℕ × ℕ)
  place_of offset = place_among (λ k. k == offset) number lists

  -- no list has an offset at which no entry of the module stands, and none that is not small
  nowhere : (offset : ℕ) → ((f : Placed) → IsIn f m.entries → (f.entry.offset == offset) ≡ false) → place_of offset ≡ None
  nowhere offset none = among-none (λ k. k == offset) number lists (All-weaker _ _ (λ os h. All-weaker _ _ other os h) lists offsets.of_entries)
    where
      other : (k : ℕ) → has_place m.entries k ≡ true → (k == offset) ≡ false
      other k h = let found = place-in m.entries k h in ap (λ o. o == offset) (sym found.2) ∙ none found.0 found.1

  too-large : (offset : ℕ) → nat_lt offset (2 ^ 32) ≡ false → place_of offset ≡ None
  too-large offset large = among-none (λ k. k == offset) number lists (All-weaker _ _ (λ os h. All-weaker _ _ other os h) lists offsets.small)
    where
      other : (k : ℕ) → k < 2 ^ 32 → (k == offset) ≡ false
      other k h = ne_eqb k offset (λ e. absurd (omega (arith, h, e, ltb-false offset (2 ^ 32) large)))

  small-place : (offset : ℕ) → place_of offset ≡ option_and_then place_of (small_offset offset)
  small-place offset = go (nat_lt offset (2 ^ 32)) refl
    where
      go : (b : Bool) → nat_lt offset (2 ^ 32) ≡ b → place_of offset ≡ option_and_then place_of (if b then Some offset else None)
      go true small = refl
      go false large = too-large offset large

  found-there : (o : Option ℕ) → option_and_then (λ f. place_of f.entry.offset) (find (stands_there o) m.entries) ≡ option_and_then place_of (option_and_then small_offset o)
  found-there None = ap (option_and_then (λ f. place_of f.entry.offset)) (find-none (stands_there None) m.entries (λ f i. refl))
  found-there (Some offset) = go (found-or (λ (f : Placed). f.entry.offset == offset) m.entries) ∙ small-place offset
    where
      go : ((f : Placed) × (find (λ g. g.entry.offset == offset) m.entries ≡ Some f) × ((f.entry.offset == offset) ≡ true)) ⊎ ((find (λ g. g.entry.offset == offset) m.entries ≡ None) × ((f : Placed) → IsIn f m.entries → (f.entry.offset == offset) ≡ false))
          → option_and_then (λ f. place_of f.entry.offset) (find (λ g. g.entry.offset == offset) m.entries) ≡ place_of offset
      go (inl found) = ap (option_and_then (λ f. place_of f.entry.offset)) found.1 ∙ ap place_of (eqb-true found.0.entry.offset offset found.2)
      go (inr none) = ap (option_and_then (λ f. place_of f.entry.offset)) none.0 ∙ sym (nowhere offset none.1)

  -- The place of the entry that a value of a unit's entry goes to is that of the offset that the value names.
  pub target-place : (u : Unit) → IsIn u m.units → (e : Placed) → e.unit ≡ u.header.offset → (v : Value)
      → option_and_then (λ f. place_among (λ k. k == f.entry.offset) number lists) (target_of m.entries e v) ≡ option_and_then (λ offset. place_among (λ k. k == offset) number lists) (named_offset u.header.offset u.header.end v)
  unfolding target_of
  target-place u i e own v =
      ap (option_and_then (λ f. place_of f.entry.offset)) (find-same (λ f. names_entry e f v) (stands_there (wanted u.header.offset u.header.end v)) m.entries same)
      ∙ found-there (wanted u.header.offset u.header.end v)
      ∙ ap (option_and_then place_of) (sym (named-small u.header.offset u.header.end v))
    where
      same : (f : Placed) → IsIn f m.entries → names_entry e f v ≡ stands_there (wanted u.header.offset u.header.end v) f
      same f j = value-wanted u e f own (in-unit-same 0 m.units u f are.stand i (subst (IsIn f) are.entries j)) v
