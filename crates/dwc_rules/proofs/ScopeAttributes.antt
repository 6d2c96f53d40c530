-- What an entry of the output covers is said by its range attributes alone, and is what its extent is translated to.
use Rattle.std.proofs.Common.{◌≡◌, ℕ, pos, ◌≤◌, List, [], ◌∷◌, ◌++◌, map, append_assoc, Option, Some, None, Bool, true, false, Result, Ok, Err, refl, sym, ap, subst, ◌∙◌, inl, inr, ◌==◌, arith}
use Rattle.std.specs.Prelude.{◌&&◌, if◌then◌else◌, option_map, filter_map, fold, cond, All, nat_abs, ◌+ℤ◌, ◌-ℤ◌}
use Rattle.std.specs.List.{find}
use Rattle.std.proofs.lemmas.Bool.{false≢true, false_from_ne_true, eq-eqb, eqb-true}
use Rattle.std.proofs.lemmas.Int.{ints}
use Rattle.std.proofs.lemmas.List.Elements.{All-head, filter_map-append}
use Rattle.dwc_base.specs.declared.constants.TheConstants.{DW_AT_endianity, DW_AT_high_pc, DW_AT_low_pc, DW_AT_ranges, DW_AT_stmt_list, DW_FORM_data1, DW_END_little, DW_TAG_base_type, DW_TAG_compile_unit}
use Rattle.dwc_base.specs.declared.records.Address.TheVariants.{Symbol}
use Rattle.dwc_dwarf.specs.Entries.{Entry}
use Rattle.dwc_native.specs.Functions.{Function}
use Rattle.dwc_rules.specs.Kept.{Placed}
use Rattle.dwc_dwarf.specs.RawLists.{ListSource}
use Rattle.dwc_base.specs.Reading.{◌>>=◌}
use Rattle.dwc_rules.specs.Refusals.{Refusal}
use Rattle.dwc_dwarf.specs.Values.{Value}
use Rattle.dwc_dwarf.specs.Trees.{Interval, TreeValue, constant, ranges, TreeEntry, set_attribute, set_in_order, entry}
use Rattle.dwc_rules.specs.Drafts.{Goal, DraftValue, done, goes_to}
use Rattle.dwc_rules.specs.DraftForests.{settled}
use Rattle.dwc_rules.specs.Clones.{kept_unless, CodeRules, UnitSource, is_dropped_name, is_bound_name, value_becomes, nothing_unless, bound_becomes, text_becomes, table_becomes, attribute_becomes, attributes_become, if_made, endianity, attributes_made}
use Rattle.dwc_rules.specs.RangeAttributes.{begun_function, intervals, extent, bounds, length_of, said_intervals, said_extent, range_attributes}
use Rattle.dwc_native.specs.ScopesKept.{native_of_intervals}
use Rattle.dwc_rules.specs.ScopesCarried.{value_of_entry, bounded, behind, listed_or, covered_intervals}
use Rattle.dwc_native.specs.ScopesKept.{IsInOneOf}
use Rattle.dwc_rules.proofs.ForestLaws.{some_same, none_is, Each, each_both, each_filter_map}
use Rattle.dwc_base.proofs.InLists.{IsIn, in-any}

-- ---- names

-- a value under a name that does not bound code
abbrev pub IsOther : {A : Type 0} → ℕ × A → Type 0
IsOther a = is_bound_name a.0 ≡ false

abbrev bound_names : List ℕ
bound_names = DW_AT_low_pc ∷ DW_AT_high_pc ∷ DW_AT_ranges ∷ []

-- such a name is none of the three
not-bound : (name bound : ℕ) → IsIn bound bound_names → is_bound_name name ≡ false → (name == bound) ≡ false
not-bound name bound i other = false_from_ne_true (name == bound) (λ same. false≢true (sym other ∙ in-any (λ b. b == name) bound_names bound i (eq-eqb bound name (sym (eqb-true name bound same)))))

module _ {A : Type 0} (bound : ℕ) (is : IsIn bound bound_names) where
  -- what is set under another name leaves the value of a bound as it is
  found-set : (a : ℕ × A) (bs : List (ℕ × A)) → IsOther a → find (λ b. b.0 == bound) (set_attribute a bs) ≡ find (λ b. b.0 == bound) bs
  found-set a [] other = rw (not-bound a.0 bound is other) refl
  found-set a (b ∷ bs) other = go (a.0 == b.0) refl (found-set a bs other)
    where
      go : (t : Bool) → (a.0 == b.0) ≡ t → find (λ b. b.0 == bound) (set_attribute a bs) ≡ find (λ b. b.0 == bound) bs
          → find (λ b. b.0 == bound) (if t then a ∷ bs else b ∷ set_attribute a bs) ≡ cond (b.0 == bound) (Some b) (find (λ b. b.0 == bound) bs)
      go true same others =
          let first : (a.0 == bound) ≡ false = not-bound a.0 bound is other in
          let second : (b.0 == bound) ≡ false = subst (λ n. (n == bound) ≡ false) (eqb-true a.0 b.0 same) first in
          rw (first, second) refl
      go false apart others = ap (λ o. cond (b.0 == bound) (Some b) o) others

  -- and so do all that are set behind others
  found-others : (before others : List (ℕ × A)) → Each IsOther others → find (λ b. b.0 == bound) (fold (λ so_far a. set_attribute a so_far) before others) ≡ find (λ b. b.0 == bound) before
  found-others before [] h = refl
  found-others before (a ∷ others) h = found-others (set_attribute a before) others h.1 ∙ found-set a before h.0

  found-behind : (before front others : List (ℕ × A)) → Each IsOther others
      → find (λ b. b.0 == bound) (fold (λ so_far a. set_attribute a so_far) before (front ++ others)) ≡ find (λ b. b.0 == bound) (fold (λ so_far a. set_attribute a so_far) before front)
  found-behind before [] others h = found-others before others h
  found-behind before (a ∷ front) others h = found-behind (set_attribute a before) front others h

-- ---- what the attributes of a kept entry become

-- what something becomes, if it becomes something, is under another name
abbrev MakesOther : ℕ → Result (Option DraftValue) Refusal → Type 0
MakesOther name r = (y : ℕ × DraftValue) → if_made name r ≡ Some y → IsOther y

other-made : (name : ℕ) (r : Result (Option DraftValue) Refusal) → is_bound_name name ≡ false → MakesOther name r
other-made name (Ok (Some v)) other y is = some_same IsOther (name, v) y is other
other-made name (Ok None) other y is = absurd (none_is y is)
other-made name (Err refusal) other y is = absurd (none_is y is)

-- a bound becomes nothing where it stands
bound-made : (name : ℕ) (read : Result (Option DraftValue) Refusal) (refused : Option Refusal) → MakesOther name (read >>= λ v. nothing_unless refused)
bound-made name (Err refusal) refused y is = absurd (none_is y is)
bound-made name (Ok v) None y is = absurd (none_is y is)
bound-made name (Ok v) (Some refusal) y is = absurd (none_is y is)

module _ (rules : CodeRules Refusal) (s : UnitSource) (e : Placed) where
  attribute-other : (before : List (ℕ × Value)) (a : ℕ × Value) → MakesOther a.0 (attribute_becomes rules s e before a)
  unfolding attribute_becomes bound_becomes
  attribute-other before a = go (is_dropped_name a.0) (a.0 == DW_AT_stmt_list) refl (is_bound_name a.0) refl
    where
      go : (dropped lines : Bool) → (a.0 == DW_AT_stmt_list) ≡ lines → (bound : Bool) → is_bound_name a.0 ≡ bound → MakesOther a.0 (elim dropped [
        | true ↦ Ok None
        | false ↦ elim lines [
          | true ↦ Ok (table_becomes s e)
          | false ↦ elim bound [ true ↦ bound_becomes rules s e before a | false ↦ kept_unless (rules.goes e a.0) (value_becomes rules s e before a.0 a.1) ]
        ]
      ])
      go true lines named bound is = λ y made. absurd (none_is y made)
      go false true named bound is = other-made a.0 (Ok (table_becomes s e)) (ap is_bound_name (eqb-true a.0 DW_AT_stmt_list named))
      go false false named true is = bound-made a.0 (text_becomes rules s e a.1) (rules.refused_bound e before a)
      go false false named false is = other-made a.0 (kept_unless (rules.goes e a.0) (value_becomes rules s e before a.0 a.1)) is

  attributes-other : (before others : List (ℕ × Value)) → Each (λ a. (y : ℕ × DraftValue) → if_made a.0 a.1 ≡ Some y → IsOther y) (attributes_become rules s e before others)
  unfolding attributes_become
  attributes-other before [] = tt
  attributes-other before (a ∷ others) = (attribute-other before a, attributes-other (before ++ (a ∷ [])) others)

  endianity-other : (big_endian : Bool) → Each IsOther (endianity big_endian e)
  endianity-other big_endian = go (big_endian && (e.entry.tag == DW_TAG_base_type))
    where
      go : (b : Bool) → Each IsOther (if b then (DW_AT_endianity, done (constant DW_FORM_data1 DW_END_little)) ∷ [] else [])
      go true = (refl, tt)
      go false = tt

-- ---- settled attributes

settled-other : (places : Goal → Option (ℕ × ℕ)) (a : ℕ × DraftValue) → IsOther a → (y : ℕ × TreeValue) → settled places a ≡ Some y → IsOther y
settled-other places (name, done v) other y is = some_same IsOther (name, v) y is other
settled-other places (name, goes_to goal) other y is = go (places goal) is
  where
    go : (o : Option (ℕ × ℕ)) → option_map (λ v. (name, v)) (option_map (λ p. entry p.0 p.1) o) ≡ Some y → IsOther y
    go None h = absurd (none_is y h)
    go (Some p) h = some_same IsOther (name, entry p.0 p.1) y h other

all-settled-other : (places : Goal → Option (ℕ × ℕ)) (attributes : List (ℕ × DraftValue)) → Each IsOther attributes → Each IsOther (filter_map (settled places) attributes)
all-settled-other places attributes h = each_filter_map (settled places) IsOther attributes (go attributes h)
  where
    go : (rest : List (ℕ × DraftValue)) → Each IsOther rest → Each (λ a. (y : ℕ × TreeValue) → settled places a ≡ Some y → IsOther y) rest
    go [] k = tt
    go (a ∷ rest) k = (settled-other places a k.0, go rest k.1)

-- attributes that refer to nothing are settled already
settled-done : (places : Goal → Option (ℕ × ℕ)) (attributes : List (ℕ × TreeValue)) → filter_map (settled places) (map (λ a. (a.0, done a.1)) attributes) ≡ attributes
settled-done places [] = refl
settled-done places (a ∷ attributes) = ap (λ as'. a ∷ as') (settled-done places attributes)

-- The attributes of an entry of the output: the range attributes, and behind them others of other names.
pub record IsBehind (front all : List (ℕ × TreeValue)) : Type 0 where
  pub others : List (ℕ × TreeValue)
  pub same : all ≡ front ++ others
  pub other : Each IsOther others

module _ (rules : CodeRules Refusal) (s : UnitSource) (big_endian : Bool) (e : Placed) (places : Goal → Option (ℕ × ℕ)) where
  pub attributes-behind : (front : List (ℕ × TreeValue)) → rules.bounds e ≡ map (λ a. (a.0, done a.1)) front → IsBehind front (filter_map (settled places) (attributes_made rules s big_endian e))
  unfolding attributes_made
  attributes-behind front bounds_are = record { others = filter_map (settled places) rest; same = is; other = all-settled-other places rest rest-other }
    where
      values : List (ℕ × DraftValue)
      values = filter_map (λ a. if_made a.0 a.1) (attributes_become rules s e [] e.entry.attributes)

      rest : List (ℕ × DraftValue)
      rest = values ++ endianity big_endian e

      rest-other : Each IsOther rest
      rest-other =
          each_both IsOther values (endianity big_endian e)
          (each_filter_map (λ a. if_made a.0 a.1) IsOther (attributes_become rules s e [] e.entry.attributes) (attributes-other rules s e [] e.entry.attributes))
          (endianity-other rules s e big_endian)

      is : filter_map (settled places) (attributes_made rules s big_endian e) ≡ front ++ filter_map (settled places) rest
      is =
          ap (filter_map (settled places)) (append_assoc (rules.bounds e) values (endianity big_endian e))
          ∙ filter_map-append (settled places) (rules.bounds e) rest
          ∙ ap (λ bs. filter_map (settled places) bs ++ filter_map (settled places) rest) bounds_are
          ∙ ap (λ bs. bs ++ filter_map (settled places) rest) (settled-done places front)

-- ---- what is covered

abbrev pub entry_with : TreeEntry → List (ℕ × TreeValue) → TreeEntry
entry_with e attributes = record { depth = e.depth; tag = e.tag; attributes = set_in_order attributes }

-- behind some attributes those of other names change nothing of what is covered
pub covered-behind : (e : TreeEntry) (front all : List (ℕ × TreeValue)) → IsBehind front all → covered_intervals (entry_with e all) ≡ covered_intervals (entry_with e front)
covered-behind e front all h =
    ap (λ as'. covered_intervals (entry_with e as')) h.same
    ∙ ap (λ o. listed_or o (bounded (value DW_AT_low_pc (front ++ h.others)) (value DW_AT_high_pc (front ++ h.others)))) (same DW_AT_ranges (inr (inr (inl refl))))
    ∙ ap (λ o. listed_or (value DW_AT_ranges front) (bounded o (value DW_AT_high_pc (front ++ h.others)))) (same DW_AT_low_pc (inl refl))
    ∙ ap (λ o. listed_or (value DW_AT_ranges front) (bounded (value DW_AT_low_pc front) o)) (same DW_AT_high_pc (inr (inl refl)))
  where
    value : ℕ → List (ℕ × TreeValue) → Option TreeValue
    value name attributes = value_of_entry name (entry_with e attributes)

    same : (bound : ℕ) → IsIn bound bound_names → value bound (front ++ h.others) ≡ value bound front
    same bound is = ap (option_map (λ a. a.1)) (found-behind bound is [] front h.others h.other)

-- bounds that are made of an interval give it back
bounds-back : (a b : ℕ) → a ≤ b → pos a +ℤ pos (nat_abs (pos b -ℤ pos a)) ≡ pos b
bounds-back a b le = omega (arith, ints, le)

interval-back : (fs : List Function) (i : Interval) → IsInOneOf fs i → record { begin = i.begin; end = behind (length_of i) i.begin } ≡ i
interval-back fs i h =
    subst (λ (j : Interval). record { begin = j.begin; end = behind (length_of j) j.begin } ≡ j) (sym h.told)
    (ap (λ z. record { begin = Symbol h.function.number (pos h.range.0); end = Symbol h.function.number z }) (bounds-back h.range.0 h.range.1 h.within.0))

module _ (fs : List Function) (e : TreeEntry) where
  covered-said : (tag : ℕ) (is : List Interval) → All (IsInOneOf fs) is → covered_intervals (entry_with e (said_intervals tag is)) ≡ is
  covered-said tag [] h = refl
  covered-said tag (i ∷ j ∷ is) h = refl
  covered-said tag (i ∷ []) h = go (tag == DW_TAG_compile_unit)
    where
      go : (b : Bool) → covered_intervals (entry_with e (if b then (DW_AT_ranges, ranges (i ∷ [])) ∷ [] else bounds i.begin (length_of i))) ≡ i ∷ []
      go true = refl
      go false = ap (λ j. j ∷ []) (interval-back fs i (All-head (IsInOneOf fs) i [] h))

  pub covered-extent : (tag : ℕ) (is : List Interval) → All (IsInOneOf fs) (native_of_intervals fs is) → covered_intervals (entry_with e (said_extent fs tag (intervals is))) ≡ native_of_intervals fs is
  unfolding native_of_intervals
  covered-extent tag [] h = refl
  covered-extent tag (i ∷ is) h = covered-said tag (native_of_intervals fs (i ∷ is)) h

-- Of an entry that has intervals, and is no subprogram that begins in a function, the range attributes cover what these are translated to.
pub extent-said : (s : ListSource) (fs : List Function) (e : Entry) (is : List Interval) → begun_function s fs e ≡ None → extent s e ≡ intervals is → range_attributes s fs e ≡ said_extent fs e.tag (intervals is)
unfolding range_attributes
extent-said s fs e is none has = rw (none, has, range_attributes) refl
