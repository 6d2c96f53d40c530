-- Tables that end alike: what is read of one from a declaration on is the table there.
use Rattle.std.proofs.Common.{◌≡◌, ℕ, zero, suc, ◌+◌, ◌≤◌, refl, ap, sym, subst, ◌∙◌, arith, List, [], ◌∷◌, ◌++◌, length, length-append, append-nil, drop, Bool, true, false, Option, Some, None, Ok, Err}
use Rattle.std.specs.Prelude.{ℤ, pos, if◌then◌else◌, ◌==◌, nat_lt, slice_get}
use Rattle.std.proofs.lemmas.List.{drop-append-le, drop_all}
use Rattle.std.proofs.lemmas.Option.{slice_get_within}
use Rattle.dwc_base.specs.declared.faults.Flaw.{Flaw}
use Rattle.dwc_base.specs.declared.faults.Flaw.TheVariants.{Malformed}
use Rattle.dwc_base.specs.declared.records.Endian.{Endian}
use Rattle.dwc_base.specs.declared.constants.TheConstants.{DW_FORM_implicit_const}
use Rattle.dwc_base.specs.Reading.{Unread, Read, ◌>>=◌, seen_as, number_at, uleb_at, sleb_at, items_at, items_up_to}
use Rattle.dwc_base.specs.Abbreviations.{Declaration, implicit_at, attribute_spec_at, declaration_behind, declaration_at}
use Rattle.dwc_base.proofs.Items.{items-more, items-end, items-flaw, seen-in_front}
use Rattle.dwc_base.proofs.ReadValuesParts.{Holds, Holds-bind, Holds-tested, Holds-at}
use Rattle.dwc_base.proofs.TakesMore.{declaration_at-leaves}
use Rattle.dwc_dwarf.proofs.UnitBytes.{from_place, IsOf, number_at-of, uleb_at-of, sleb_at-of}
use Rattle.dwc_read.specs.KnownTables.{table_told, told_as}

-- ---- a declaration leaves the same bytes from a later place on

module _ (order : Endian) (bytes : List ℕ) where
  abbrev Of : {A : Type 0} → A × Unread → Type 0
  Of x = IsOf order bytes x.1

  items_up_to-of : {A : Type 0} (item : Unread → Read (Option A)) → ((v : Unread) → IsOf order bytes v → Holds Of (item v)) → (most : ℕ) (u : Unread) → IsOf order bytes u → Holds Of (items_up_to most item u)
  unfolding items_up_to
  items_up_to-of item each zero u i = record { held = tt }
  items_up_to-of {A} item each (suc most) u i = Holds-bind (item u) _ (each u i) (λ first j. go first.0 first.1 j (items_up_to-of item each most first.1 j))
    where
      go : (o : Option A) (v : Unread) → IsOf order bytes v → Holds Of (items_up_to most item v)
          → Holds {A = List A × Unread} Of (elim o [ None ↦ Ok ([], v) | Some x ↦ (items_up_to most item v >>= λ others. Ok (x ∷ others.0, others.1)) ])
      go None v j rest = record { held = j }
      go (Some x) v j rest = Holds-bind (items_up_to most item v) _ rest (λ others k. record { held = k })

  items_at-of : {A : Type 0} (item : Unread → Read (Option A)) → ((v : Unread) → IsOf order bytes v → Holds Of (item v)) → (u : Unread) → IsOf order bytes u → Holds Of (items_at item u)
  unfolding items_at
  items_at-of item each u i = items_up_to-of item each (suc (length u.left)) u i

  implicit_at-of : (form : ℕ) (u : Unread) → IsOf order bytes u → Holds Of (implicit_at form u)
  unfolding implicit_at
  implicit_at-of form u i = go (form == DW_FORM_implicit_const)
    where
      go : (b : Bool) → Holds {A = ℤ × Unread} Of (if b then sleb_at u else Ok (pos 0, u))
      go true = sleb_at-of order bytes u i
      go false = record { held = i }

  attribute_spec_at-of : (u : Unread) → IsOf order bytes u → Holds Of (attribute_spec_at u)
  unfolding attribute_spec_at
  attribute_spec_at-of u i =
      Holds-bind (uleb_at u) _ (uleb_at-of order bytes u i) (λ name j.
      Holds-bind (uleb_at name.1) _ (uleb_at-of order bytes name.1 j) (λ form k.
      Holds-tested (nat_lt 65535 name.0) Malformed _ (λ small.
      Holds-bind (implicit_at form.0 form.1) _ (implicit_at-of form.0 form.1 k) (λ implicit m.
      record { held = m }))))

  declaration_behind-of : (code : ℕ) (u : Unread) → IsOf order bytes u → Holds Of (declaration_behind code u)
  unfolding declaration_behind
  declaration_behind-of code u i =
      Holds-bind (uleb_at u) _ (uleb_at-of order bytes u i) (λ tag j.
      Holds-tested (nat_lt 65535 tag.0) Malformed _ (λ small.
      Holds-bind (number_at 1 tag.1) _ (number_at-of order bytes 1 tag.1 j) (λ children k.
      Holds-tested (nat_lt 1 children.0) Malformed _ (λ flag.
      Holds-bind (items_at attribute_spec_at children.1) _ (items_at-of attribute_spec_at attribute_spec_at-of children.1 k) (λ attributes m.
      record { held = m })))))

  declaration_at-of : (u : Unread) → IsOf order bytes u → Holds Of (declaration_at u)
  unfolding declaration_at
  declaration_at-of u i = Holds-bind (uleb_at u) _ (uleb_at-of order bytes u i) (λ code j. go (code.0 == 0) code.0 code.1 j)
    where
      go : (b : Bool) (code : ℕ) (v : Unread) → IsOf order bytes v → Holds {A = Option Declaration × Unread} Of (elim b [ true ↦ Ok (None, v) | false ↦ declaration_behind code v ])
      go true code v j = record { held = j }
      go false code v j = declaration_behind-of code v j

-- ---- lists

-- what holds of each item by its number, and of one behind them
get-last : {A : Type 0} (P : ℕ → A → Type 0) (xs : List A) (x : A) → ((n : ℕ) (y : A) → slice_get xs n ≡ Some y → P n y) → P (length xs) x → (n : ℕ) (y : A) → slice_get (xs ++ x ∷ []) n ≡ Some y → P n y
get-last P [] x front last zero y h = let same : x ≡ y = cc in subst (P 0) same last
get-last P [] x front last (suc n) y h = absurd (cc)
get-last P (z ∷ xs) x front last zero y h = front 0 y h
get-last P (z ∷ xs) x front last (suc n) y h = get-last (λ m. P (suc m)) xs x (λ m. front (suc m)) last n y h

seen-none : {A : Type 0} (r : Read (List A)) → seen_as (λ ys. [] ++ ys) r ≡ r
seen-none (Ok read) = refl
seen-none (Err flaw) = refl

-- ---- declarations that are read one behind another

-- What was read so far, from the number of each place on, and what is still unread, is what stands at the place.
pub record AreSoFar (order : Endian) (bytes starts : List ℕ) (ds : List Declaration) (u : Unread) : Type 0 where
  pub counts : length starts ≡ length ds
  pub whole : IsOf order bytes u
  pub told : (number place : ℕ) → slice_get starts number ≡ Some place → seen_as (λ ys. drop number ds ++ ys) (items_at declaration_at u) ≡ items_at declaration_at (from_place order bytes place)

pub so_far-begin : (u : Unread) (bytes : List ℕ) → u.left ≡ drop u.place bytes → AreSoFar u.order bytes [] [] u
so_far-begin u bytes is = record {
  counts = refl;
  whole = record { same = ap (λ left. record { order = u.order; place = u.place; left = left }) is };
  told = λ number place at. absurd (cc);
}

module _ (order : Endian) (bytes starts : List ℕ) (ds : List Declaration) (u : Unread) (so : AreSoFar order bytes starts ds u) where
  -- the place of what is unread is one more
  told-here : (number place : ℕ) → slice_get (starts ++ u.place ∷ []) number ≡ Some place → seen_as (λ ys. drop number ds ++ ys) (items_at declaration_at u) ≡ items_at declaration_at (from_place order bytes place)
  told-here = get-last (λ number place. seen_as (λ ys. drop number ds ++ ys) (items_at declaration_at u) ≡ items_at declaration_at (from_place order bytes place)) starts u.place so.told last
    where
      none : drop (length starts) ds ≡ []
      none = ap (λ n. drop n ds) so.counts ∙ drop_all (length ds) ds (omega arith)

      last : seen_as (λ ys. drop (length starts) ds ++ ys) (items_at declaration_at u) ≡ items_at declaration_at (from_place order bytes u.place)
      last = ap (λ (front : List Declaration). seen_as (λ ys. front ++ ys) (items_at declaration_at u)) none ∙ seen-none (items_at declaration_at u) ∙ ap (items_at declaration_at) so.whole.same

  pub so_far-more : (d : Declaration) (v : Unread) → declaration_at u ≡ Ok (Some d, v) → AreSoFar order bytes (starts ++ u.place ∷ []) (ds ++ d ∷ []) v
  so_far-more d v read = record {
    counts = omega (arith, so.counts, length-append starts (u.place ∷ []), length-append ds (d ∷ []));
    whole = Holds-at (Some d, v) (declaration_at-of order bytes u so.whole) read;
    told = λ number place at.
        let inside = slice_get_within (starts ++ u.place ∷ []) number place at in
        let less : number ≤ length ds = omega (arith, inside, so.counts, length-append starts (u.place ∷ [])) in
        ap (λ (front : List Declaration). seen_as (λ ys. front ++ ys) (items_at declaration_at v)) (drop-append-le number ds (d ∷ []) less)
        ∙ sym (seen-in_front (drop number ds) d (items_at declaration_at v))
        ∙ ap (seen_as (λ ys. drop number ds ++ ys)) (sym (items-more declaration_at declaration_at-leaves u v d read))
        ∙ told-here number place at;
  }

  pub so_far-end : (v : Unread) → declaration_at u ≡ Ok (None, v) → (number place : ℕ) → slice_get (starts ++ u.place ∷ []) number ≡ Some place → table_told (items_at declaration_at (from_place order bytes place)) ≡ told_as None (drop number ds)
  so_far-end v read number place at =
      ap table_told (sym (told-here number place at))
      ∙ ap (λ r. table_told (seen_as (λ ys. drop number ds ++ ys) r)) (items-end declaration_at declaration_at-leaves u v read)
      ∙ ap Ok (append-nil (drop number ds))

  pub so_far-flaw : (flaw : Flaw) → declaration_at u ≡ Err flaw → (number place : ℕ) → slice_get (starts ++ u.place ∷ []) number ≡ Some place → table_told (items_at declaration_at (from_place order bytes place)) ≡ told_as (Some flaw) (drop number ds)
  so_far-flaw flaw read number place at =
      ap table_told (sym (told-here number place at))
      ∙ ap (λ r. table_told (seen_as (λ ys. drop number ds ++ ys) r)) (items-flaw declaration_at declaration_at-leaves u flaw read)
