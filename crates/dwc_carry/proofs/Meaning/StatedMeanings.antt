-- What is built of an expression over a scope is what the output states, and means what it should.
use Rattle.std.proofs.Common.{◌≡◌, ℕ, ◌⊎◌, inl, inr, List, [], ◌∷◌, map, Option, Some, None, Result, Ok, Err, Bool, true, false, refl, sym, ap, subst, ◌∙◌, true≢false}
use Rattle.std.specs.Prelude.{◌&&◌, if◌then◌else◌, is_some}
use Rattle.std.specs.Str.{bytes_eq}
use Rattle.std.proofs.lemmas.Slice.Eq.{bytes_eq-Decides}
use Rattle.dwc_base.specs.Listing.{first_of}
use Rattle.std.proofs.lemmas.Bool.{and_parts}
use Rattle.dwc_dwarf.specs.Trees as Trees
use Rattle.dwc_dwarf.specs.Trees.{Location, TreeValue, locations}
use Rattle.dwc_dwarf.specs.Values.{is_location_name}
use Rattle.dwc_native.specs.Parts.{Part, CompiledParts, single_code, is_simple}
use Rattle.dwc_native.specs.Placed.{needed_labels, NativeRange, is_byte_of, scope_ranges, scope_intervals}
use Rattle.dwc_native.specs.LabelRanges.{all_bytes_placed}
use Rattle.dwc_native.specs.BuiltExpressions.{Surroundings, BuiltExpressions, BuildRefusal, build_refusals, ranges_built, built_on, built_over, built_on_ranges, copied, IsBounded}
use Rattle.dwc_rules.specs.LocationAttributes.{are_equal_to, value_of_locations_built, value_of_built}
use Rattle.dwc_base.proofs.InLists.{IsIn}
use Rattle.dwc_native.specs.Runs.{interval_of}
use Rattle.dwc_expr.specs.WholeParts.{IsWhole}
use Rattle.dwc_expr.specs.BuiltMeanings.{MeansOn, ranges_meant}
use Rattle.dwc_expr.proofs.Meaning.BuiltMeaningLaws.{built-expressions-mean}
use Rattle.dwc_carry.specs.MeaningsCarried.{MeansAtByte}
use Rattle.dwc_carry.proofs.Meaning.PlacedBytes.{all-of, in-ranges, zip-left, zip-right}

-- ---- what is built

-- parts that are not simple are not bytes alone
pub not-code : (ps : List Part) (d : Bool) → is_simple (record { parts = ps; need_deref = d }) ≡ false → single_code ps ≡ None
not-code [] d h = absurd (true≢false h)
not-code (p ∷ ps) d h = go (single_code (p ∷ ps)) h
  where
    go : (o : Option (List ℕ)) → is_some o ≡ false → o ≡ None
    go None k = refl
    go (Some c) k = absurd (true≢false k)

abbrev pub covers_of : Bool → Result BuiltExpressions BuildRefusal → Bool
covers_of none (Ok b) = b.covers_entire_scope
covers_of none (Err e) = none

-- what covers the entire scope has places on each byte of it
covers-all : (s : Surroundings) (scope : List (ℕ × ℕ)) (x : CompiledParts) (built : BuiltExpressions) → single_code x.parts ≡ None → built_over s scope x ≡ Ok built → built.covers_entire_scope ≡ true
    → all_bytes_placed s.frame (needed_labels x) (scope_ranges s.functions scope) ≡ true
unfolding built_over
covers-all s [] x built none h covers = absurd (true≢false (sym covers ∙ ap (covers_of false) (sym h)))
covers-all s (i ∷ is) x built none h covers = go (first_of (build_refusals s scope x)) (sym (ap over none) ∙ h)
  where
    scope : List NativeRange
    scope = scope_ranges s.functions (i ∷ is)

    over : Option (List ℕ) → Result BuiltExpressions BuildRefusal
    over o = elim o [ Some bytes ↦ Ok (copied (scope_intervals s.functions (i ∷ is)) bytes) | None ↦ built_on_ranges s (scope_ranges s.functions (i ∷ is)) x ]

    go : (o : Option BuildRefusal)
        → ◌≡◌ {A = Result BuiltExpressions BuildRefusal} (elim o [ Some refusal ↦ Err refusal | None ↦ Ok (record { expressions = map (built_on s x) (ranges_built s scope x); covers_entire_scope = all_bytes_placed s.frame (needed_labels x) scope }) ]) (Ok built)
        → all_bytes_placed s.frame (needed_labels x) scope ≡ true
    go (Some refusal) e = absurd (cc)
    go None e = ap (covers_of false) e ∙ covers

module _ (s : Surroundings) (bounded : IsBounded s) (x : CompiledParts) (whole : IsWhole x) where
  abbrev pub Means : NativeRange → Location → Type 0
  Means r l = (l.over ≡ interval_of r.function (r.start, r.end)) × MeansOn s x r l.bytes

  -- each location that is built
  pub stated : (scope : List (ℕ × ℕ)) (built : BuiltExpressions) → built_over s scope x ≡ Ok built → (l : Location) → IsIn l built.expressions → (r : NativeRange) × IsIn r (ranges_meant s scope x) × Means r l
  stated scope built h l i = zip-right Means (ranges_meant s scope x) built.expressions l (built-expressions-mean s scope x built bounded whole h) i

  -- one expression in place of all, where they cover the scope
  pub covering : (scope : List (ℕ × ℕ)) (built : BuiltExpressions) → single_code x.parts ≡ None → built_over s scope x ≡ Ok built → built.covers_entire_scope ≡ true
      → (bytes : List ℕ) → ((l : Location) → IsIn l built.expressions → l.bytes ≡ bytes) → (function byte : ℕ) → is_byte_of (scope_ranges s.functions scope) function byte ≡ true → MeansAtByte s x bytes function byte
  covering scope built none h covers bytes same function byte among =
      let r = in-ranges s.frame (needed_labels x) (scope_ranges s.functions scope) (covers-all s scope x built none h covers) function byte among in
      let ranges : ranges_meant s scope x ≡ ranges_built s (scope_ranges s.functions scope) x = ap (λ o. ranges o) none in
      let l = zip-left Means (ranges_meant s scope x) built.expressions r.0 (built-expressions-mean s scope x built bounded whole h) (subst (IsIn r.0) (sym ranges) r.1) in
      record { range = r.0; of_function = r.2; has = r.3; means = subst (MeansOn s x r.0) (same l.0 l.1) l.2.1 }
    where
      ranges : Option (List ℕ) → List NativeRange
      ranges o = elim o [ Some bytes ↦ scope_ranges s.functions scope | None ↦ ranges_built s (scope_ranges s.functions scope) x ]

-- ---- what becomes of it

-- A value is the locations that were built, or one expression in place of all of them, which cover the scope.
abbrev pub IsBuiltValue : BuiltExpressions → TreeValue → Type 0
IsBuiltValue built v =
    (v ≡ locations built.expressions) ⊎ ((bytes : List ℕ) × (v ≡ Trees.expression bytes) × (built.covers_entire_scope ≡ true) × ((l : Location) → IsIn l built.expressions → l.bytes ≡ bytes))

same-bytes : (bytes : List ℕ) (ls : List Location) → are_equal_to bytes ls ≡ true → (l : Location) → IsIn l ls → l.bytes ≡ bytes
same-bytes bytes ls h l i = (bytes_eq-Decides l.bytes bytes).0 (all-of (λ l. bytes_eq l.bytes bytes) ls l h i)

abbrev pub value_in : TreeValue → Option TreeValue → TreeValue
value_in none (Some v) = v
value_in none None = none

pub built-value : (name : ℕ) (built : BuiltExpressions) (v : TreeValue) → value_of_built name built ≡ Some v → IsBuiltValue built v
built-value name built v h = go built.expressions refl h
  where
    go : (ls : List Location) → built.expressions ≡ ls → value_of_locations_built name built.covers_entire_scope ls ≡ Some v → IsBuiltValue built v
    go [] e k = absurd (cc)
    go (l ∷ ls) e k = all (built.covers_entire_scope && are_equal_to l.bytes ls) refl k
      where
        listed : (b : Bool) → (if b then Some (locations (l ∷ ls)) else None) ≡ Some v → IsBuiltValue built v
        listed true q = inl (sym (ap (value_in v) q) ∙ ap locations (sym e))
        listed false q = absurd (cc)

        all : (b : Bool) → (built.covers_entire_scope && are_equal_to l.bytes ls) ≡ b → (if b then Some (Trees.expression l.bytes) else (if is_location_name name then Some (locations (l ∷ ls)) else None)) ≡ Some v → IsBuiltValue built v
        all true b q =
            let both = and_parts built.covers_entire_scope (are_equal_to l.bytes ls) b in
            inr (l.bytes, sym (ap (value_in v) q), both.0, λ m i. same m (subst (IsIn m) e i) both.1)
          where
            same : (m : Location) → IsIn m (l ∷ ls) → are_equal_to l.bytes ls ≡ true → m.bytes ≡ l.bytes
            same m (inl is) equal = ap (λ (y : Location). y.bytes) is
            same m (inr j) equal = same-bytes l.bytes ls equal m j
        all false b q = listed (is_location_name name) q
