-- The bound on the steps of a chain of types plays no part: there are as many steps as entries that are not met yet, at most.
use Rattle.std.proofs.Common.{◌≡◌, ℕ, zero, suc, ◌<◌, ◌≤◌, List, [], ◌∷◌, length, Bool, true, false, Option, Some, None, Result, Ok, refl, ap, sym, subst, ◌∙◌, arith}
use Rattle.dwc_base.specs.Reading.{◌>>=◌}
use Rattle.std.specs.Prelude.{not, cond}
use Rattle.std.specs.Option.{unwrap_or}
use Rattle.std.specs.List.{filter, find}
use Rattle.std.proofs.lemmas.Bool.{eq-eqb}
use Rattle.std.proofs.lemmas.List.Filters.{length-filter_both}
use Rattle.dwc_base.specs.Sections.{Fault}
use Rattle.dwc_dwarf.specs.Values.{Value, address, address_index, constant, flag, block, expression, text, text_reference, line_reference, range_reference, range_index, location_reference, location_index, unit_reference, info_reference, dropped}
use Rattle.dwc_dwarf.specs.Entries.{attribute}
use Rattle.dwc_rules.specs.Kept.{Placed, same_place, names_entry}
use Rattle.dwc_base.specs.declared.constants.TheConstants.{DW_AT_type}
use Rattle.dwc_dwarf.specs.Texts.{TextSource}
use Rattle.dwc_rules.specs.Targets.{target_of}
use Rattle.dwc_rules.proofs.ForestLaws.{none_is}
use Rattle.dwc_rules.specs.TypeNames.{target_in_unit, type_of, name_of, derived_name, unknown, without, name_along, type_name}

-- ---- each entry that is met leaves fewer

filtered-fewer : (p : Placed → Bool) (es : List Placed) → length (filter p es) ≤ length es
filtered-fewer p es = omega (arith, length-filter_both p (λ x. not (p x)) (λ x. refl) es)

-- an entry that is found among some leaves fewer
found-fewer : (p : Placed → Bool) (es : List Placed) (f : Placed) → find p es ≡ Some f → length (without f es) < length es
found-fewer p [] f h = absurd (none_is f h)
found-fewer p (x ∷ xs) f h = go (p x) h (found-fewer p xs f)
  where
    first : x ≡ f → length (without f (x ∷ xs)) < length (x ∷ xs)
    first same = subst (λ y. length (without y (x ∷ xs)) < length (x ∷ xs)) same (rw (eq-eqb x.entry.offset x.entry.offset refl) (omega (arith, filtered-fewer (λ g. not (same_place x g)) xs)))

    later : (test : Bool) → same_place f x ≡ test → length (without f xs) < length xs → length (without f (x ∷ xs)) < length (x ∷ xs)
    later true e fewer = rw e (omega (arith, fewer))
    later false e fewer = rw e (omega (arith, fewer))

    go : (test : Bool) → cond test (Some x) (find p xs) ≡ Some f → (find p xs ≡ Some f → length (without f xs) < length xs) → length (without f (x ∷ xs)) < length (x ∷ xs)
    go true h others = first (ap (λ o. unwrap_or o x) h)
    go false h others = later (same_place f x) refl (others h)

-- so does the type of an entry
pub type-fewer : (es : List Placed) (e f : Placed) → type_of es e ≡ Some f → length (without f es) < length es
unfolding target_of
type-fewer es e f h = go (attribute DW_AT_type e.entry) h
  where
    go : (v : Option Value) → target_in_unit es e v ≡ Some f → length (without f es) < length es
    go (Some (unit_reference n)) h = found-fewer (λ g. names_entry e g (unit_reference n)) es f h
    go None h = absurd (none_is f h)
    go (Some (address a)) h = absurd (none_is f h)
    go (Some (address_index n)) h = absurd (none_is f h)
    go (Some (constant form n)) h = absurd (none_is f h)
    go (Some (flag b)) h = absurd (none_is f h)
    go (Some (block bytes)) h = absurd (none_is f h)
    go (Some (expression bytes)) h = absurd (none_is f h)
    go (Some (text bytes)) h = absurd (none_is f h)
    go (Some (text_reference form n)) h = absurd (none_is f h)
    go (Some (line_reference n)) h = absurd (none_is f h)
    go (Some (range_reference n)) h = absurd (none_is f h)
    go (Some (range_index n)) h = absurd (none_is f h)
    go (Some (location_reference n)) h = absurd (none_is f h)
    go (Some (location_index n)) h = absurd (none_is f h)
    go (Some (info_reference n)) h = absurd (none_is f h)
    go (Some dropped) h = absurd (none_is f h)

-- ---- the bound

-- the name of a type by that of its own type
abbrev pub named_by : TextSource → Placed → Result (List ℕ) Fault → Result (List ℕ) Fault
named_by texts f others = name_of texts f >>= λ name. elim name [
  | Some n ↦ Ok n
  | None ↦ elim (derived_name f.entry.tag) [ None ↦ Ok unknown | Some derived ↦ (others >>= λ n. Ok (derived n)) ]
]

-- a step, by what the chain gives from the type on
abbrev pub stepped : TextSource → (Placed → Result (List ℕ) Fault) → Option Placed → Result (List ℕ) Fault
stepped texts others o = elim o [ None ↦ Ok unknown | Some f ↦ named_by texts f (others f) ]

pub stepped-agree : (texts : TextSource) (r s : Placed → Result (List ℕ) Fault) (o : Option Placed) → ((f : Placed) → o ≡ Some f → r f ≡ s f) → stepped texts r o ≡ stepped texts s o
stepped-agree texts r s None agree = refl
stepped-agree texts r s (Some f) agree = ap (named_by texts f) (agree f refl)

pub name_along-step : (texts : TextSource) (unmet : List Placed) (e : Placed) (n : ℕ) → name_along (suc n) texts unmet e ≡ stepped texts (λ f. name_along n texts (without f unmet) f) (type_of unmet e)
unfolding name_along
name_along-step texts unmet e n = refl

-- with none left, it is unknown
none-left : (texts : TextSource) (unmet : List Placed) (e : Placed) (n : ℕ) → length unmet ≤ 0 → name_along n texts unmet e ≡ Ok unknown
unfolding name_along
none-left texts unmet e zero none = refl
none-left texts unmet e (suc n) none = go (type_of unmet e) (λ f found. type-fewer unmet e f found)
  where
    go : (o : Option Placed) → ((f : Placed) → o ≡ Some f → length (without f unmet) < length unmet) → stepped texts (λ f. name_along n texts (without f unmet) f) o ≡ Ok unknown
    go None fewer = refl
    go (Some f) fewer = absurd (omega (arith, none, fewer f refl))

-- Two bounds that are enough for the entries that are not met yet give the same name.
pub name_along-bound : (texts : TextSource) (n m : ℕ) (unmet : List Placed) (e : Placed) → length unmet ≤ n → length unmet ≤ m → name_along n texts unmet e ≡ name_along m texts unmet e
name_along-bound texts zero m unmet e low high = none-left texts unmet e zero low ∙ sym (none-left texts unmet e m low)
name_along-bound texts (suc n) zero unmet e low high = none-left texts unmet e (suc n) high ∙ sym (none-left texts unmet e zero high)
name_along-bound texts (suc n) (suc m) unmet e low high =
    name_along-step texts unmet e n
    ∙ stepped-agree texts (λ f. name_along n texts (without f unmet) f) (λ f. name_along m texts (without f unmet) f) (type_of unmet e)
    (λ f found. name_along-bound texts n m (without f unmet) f (omega (arith, low, type-fewer unmet e f found)) (omega (arith, high, type-fewer unmet e f found)))
    ∙ sym (name_along-step texts unmet e m)

-- The name of an entry's type is that of its chain with a bound for each entry that is left.
pub type_name-unbounded : (texts : TextSource) (es : List Placed) (e : Placed) → type_name texts es e ≡ name_along (length (without e es)) texts (without e es) e
unfolding type_name
type_name-unbounded texts es e = name_along-bound texts (length es) (length (without e es)) (without e es) e (filtered-fewer (λ f. not (same_place e f)) es) (omega arith)
