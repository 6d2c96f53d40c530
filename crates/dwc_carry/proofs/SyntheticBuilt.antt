-- A module's synthetic unit is built step by step.
use Rattle.std.proofs.Common.{◌≡◌, ℕ, zero, suc, ◌+◌, ◌<◌, List, [], ◌∷◌, ◌++◌, length, map, get_or, refl, ap, ap₂, sym, ◌∙◌, subst, arith, true, false, None, All, Bor}
use Rattle.std.specs.Prelude.{if◌then◌else◌, option_map, nat_lt, Option}
use Rattle.std.specs.List.{list_all}
use Rattle.std.proofs.lemmas.List.{length-map}
use Rattle.std.proofs.lemmas.List.Elements.{All-nil, All-cons}
use Rattle.dwc_base.specs.declared.records.Encoding.{Encoding}
use Rattle.dwc_rules.proofs.ForestLaws.{Each}
use Rattle.dwc_rules.specs.Carried.{synthetic_unit}
use Rattle.dwc_native.specs.Compiled.{Memory, no_memory, defined, imported}
use Rattle.dwc_rules.specs.SyntheticUnit as Synthetic
use Rattle.dwc_rules.specs.SyntheticUnit.{place_of_context_pointer, place_of_wasm_pointer}
use Rattle.dwc_carried.specs.Forests.{synthetic_refusals}
use Rattle.dwc_rules.specs.Refusals.{far_memory}
use Rattle.dwc_base.specs.Listing.{first_of}
use Rattle.dwc_unit.specs.declared.attributes.DebugInfoRef.{DebugInfoRef}
use Rattle.dwc_unit.specs.declared.attributes.DebugInfoRef.TheVariants.{Entry}
use Rattle.dwc_unit.specs.declared.strings.StringId.{StringId}
use Rattle.dwc_unit.specs.declared.units.UnitId.{UnitId}
use Rattle.dwc_unit.specs.GivenLines.{no_lines}
use Rattle.dwc_unit.specs.GivenUnits.{GivenUnit, new_unit, places_from}
use Rattle.dwc_unit.specs.TextTables.{IsText}
use Rattle.dwc_unit.specs.UsedTexts.{text_numbered}
use Rattle.dwc_carry.specs.declared.synthetic_entries.SyntheticTexts.{SyntheticTexts}
use Rattle.dwc_carry.specs.Refusals.{in_reading}
use Rattle.dwc_carry.specs.MadeUnits.{LeadsTo, IsMadeOf}
use Rattle.dwc_carry.specs.MadeEntries.{IsDense, number_of, numbers_added, texts_added, with_additions, with_attributes}
use Rattle.dwc_carry.specs.SyntheticAdditions.{context_additions, first_additions, last_additions, synthetic_given, synthetic_numbers, synthetic_texts, place_of_set, root_addition, root_attributes}
use Rattle.dwc_carry.specs.SyntheticUnits.{entry_of, synthetic_tree}
use Rattle.dwc_carry.proofs.MadeTexts.{numbers-inside, numbers-named, plain-text}
use Rattle.dwc_carry.proofs.SyntheticMade.{synthetic-made}

-- ---- entries

-- the unit up to its context
abbrev front_given : Encoding → SyntheticTexts → Memory → GivenUnit
front_given encoding t m = record {
  version = encoding.version;
  address_size = encoding.address_size;
  lines = no_lines None;
  places = places_from 0 (root_addition t ∷ (first_additions t ++ context_additions t m));
  additions = root_addition t ∷ (first_additions t ++ context_additions t m);
}

three : (encoding : Encoding) (t : SyntheticTexts) (m : Memory) → with_additions (context_additions t m) (with_additions (first_additions t) (with_attributes 0 (root_attributes t) (new_unit encoding.version encoding.address_size (no_lines None)))) ≡ front_given encoding t m
three encoding t (defined offset) = refl
three encoding t no_memory = refl
three encoding t (imported definition base) = refl

four : (encoding : Encoding) (t : SyntheticTexts) (m : Memory) → with_additions (last_additions t (place_of_set m)) (front_given encoding t m) ≡ synthetic_given encoding t m
four encoding t (defined offset) = refl
four encoding t no_memory = refl
four encoding t (imported definition base) = refl

pub front-is : (encoding : Encoding) (t : SyntheticTexts) (m : Memory) (u0 u1 u2 u3 : GivenUnit) → u0 ≡ new_unit encoding.version encoding.address_size (no_lines None) → u1 ≡ with_attributes 0 (root_attributes t) u0 → u2 ≡ with_additions (first_additions t) u1 → u3 ≡ with_additions (context_additions t m) u2
    → u3 ≡ front_given encoding t m
front-is encoding t m u0 u1 u2 u3 e0 e1 e2 e3 =
    e3 ∙ ap (with_additions (context_additions t m)) (e2 ∙ ap (with_additions (first_additions t)) (e1 ∙ ap (with_attributes 0 (root_attributes t)) e0)) ∙ three encoding t m

pub front-dense : (encoding : Encoding) (t : SyntheticTexts) (m : Memory) (u : GivenUnit) → u ≡ front_given encoding t m → IsDense u
front-dense encoding t m u is = subst (λ v. IsDense v) (sym is) refl

pub front-length : (encoding : Encoding) (t : SyntheticTexts) (m : Memory) (u : GivenUnit) → u ≡ front_given encoding t m → length u.additions ≡ place_of_set m
front-length encoding t m u is = ap (λ (v : GivenUnit). length v.additions) is ∙ counted m
  where
    counted : (m : Memory) → length (root_addition t ∷ (first_additions t ++ context_additions t m)) ≡ place_of_set m
    counted (defined offset) = refl
    counted no_memory = refl
    counted (imported definition base) = refl

pub synthetic-built : (encoding : Encoding) (t : SyntheticTexts) (m : Memory) (place : ℕ) (u3 u4 : GivenUnit) → u3 ≡ front_given encoding t m → place ≡ place_of_set m → u4 ≡ with_additions (last_additions t place) u3 → u4 ≡ synthetic_given encoding t m
synthetic-built encoding t m place u3 u4 front at is = is ∙ ap₂ (λ p u. with_additions (last_additions t p) u) at front ∙ four encoding t m

-- ---- texts

-- a text that is read as bytes is plain
pub one-plain : (t : Bor (List ℕ)) (x : List ℕ) → t.now ≡ x → list_all (λ b. nat_lt 0 b) x ≡ true → IsText t.now
one-plain t x is plain = subst IsText (sym is) (plain-text x plain)

pub all-plain : (ts : List (Bor (List ℕ))) → Each (λ (t : Bor (List ℕ)). IsText t.now) ts → All (λ (t : Bor (List ℕ)). IsText t.now) ts
all-plain [] h = All-nil (λ (t : Bor (List ℕ)). IsText t.now)
all-plain (t ∷ ts) h = All-cons (λ (t : Bor (List ℕ)). IsText t.now) t ts h.0 (all-plain ts h.1)

-- the number at a place among some
number-at : (ids : List StringId) (k : ℕ) (d : StringId) → k < length ids → number_of (get_or ids k d) ≡ get_or (map number_of ids) k 0
number-at [] k d less = absurd (omega (arith, less))
number-at (id ∷ ids) zero d less = refl
number-at (id ∷ ids) (suc k) d less = number-at ids k d (omega (arith, less))

pub indexed : (ids : List StringId) (ns : List ℕ) (k : ℕ) (a : StringId) → map number_of ids ≡ ns → k < length ns → a ≡ get_or ids k a → a.index ≡ get_or ns k 0
indexed ids ns k a same less is =
    ap number_of is
    ∙ number-at ids k a (omega (arith, less, ap length same, length-map ids number_of))
    ∙ ap (λ xs. get_or xs k 0) same

-- ---- the whole

-- the texts of the unit have their numbers in the table
pub synthetic-added : (encoding : Encoding) (number : ℕ) (old table : List (List ℕ)) (t : SyntheticTexts) (set_memory : List ℕ) (m : Memory) → table ≡ texts_added old (synthetic_texts set_memory) → synthetic_numbers t ≡ numbers_added old (synthetic_texts set_memory)
    → (at : ℕ → ℕ → Option (ℕ × ℕ)) → LeadsTo at number (synthetic_given encoding t m ∷ []) → IsMadeOf at encoding table number synthetic_unit (synthetic_tree number set_memory m) (synthetic_given encoding t m)
synthetic-added encoding number old table t set_memory m texts numbers =
    synthetic-made encoding number table t set_memory (ap₂ (λ x ns. map (text_numbered x) ns) texts numbers ∙ numbers-named old (synthetic_texts set_memory))
    (subst (λ x. All (λ n. n < length x) (synthetic_numbers t)) (sym texts) (subst (λ ns. All (λ n. n < length (texts_added old (synthetic_texts set_memory))) ns) (sym numbers) (numbers-inside old (synthetic_texts set_memory)))) m

-- a memory that is near is not refused
pub near-accepted : (m : Memory) → Synthetic.is_too_far m ≡ false → option_map in_reading (first_of (synthetic_refusals m)) ≡ None
near-accepted m near = ap (λ b. option_map in_reading (first_of (if b then far_memory ∷ [] else []))) near

-- the two types that others refer to
pub pointer-is : (m : Memory) (place number : ℕ) (id : UnitId) (r : DebugInfoRef) → place ≡ place_of_set m → id ≡ record { index = number } → r ≡ Entry id (record { index = place + 2 }) → r ≡ entry_of number (place_of_context_pointer m)
pointer-is m place number id r at is made = let same : place + 2 ≡ place_of_context_pointer m = omega (arith, at) in made ∙ ap₂ (λ u n. Entry u (record { index = n })) is same

pub wasm-is : (m : Memory) (place number : ℕ) (id : UnitId) (r : DebugInfoRef) → place ≡ place_of_set m → id ≡ record { index = number } → r ≡ Entry id (record { index = place + 2 + 1 }) → r ≡ entry_of number (place_of_wasm_pointer m)
wasm-is m place number id r at is made = let same : place + 2 + 1 ≡ place_of_wasm_pointer m = omega (arith, at) in made ∙ ap₂ (λ u n. Entry u (record { index = n })) is same
