-- What is built of an expression over a scope means what it should.
use Rattle.std.proofs.Common.{◌≡◌, ℕ, ◌<◌, refl, sym, ap, subst, ◌∙◌, arith, List, [], ◌∷◌, ◌++◌, map, Option, Some, None, Result, Ok, Err, true}
use Rattle.std.specs.List.{filter_map, flat_map, AllZip}
use Rattle.std.proofs.lemmas.List.{map-append}
use Rattle.std.proofs.lemmas.Simd.{map-map}
use Rattle.dwc_dwarf.specs.Trees.{Interval, Location}
use Rattle.dwc_native.specs.Parts.{code, CompiledParts, single_code}
use Rattle.dwc_native.specs.Placed.{all_placed, needed_labels, NativeRange, ranges_in_function, scope_ranges, scope_intervals}
use Rattle.dwc_native.specs.LabelRanges.{AtEachByte, AreLabelRanges, ranges_among}
use Rattle.dwc_native.specs.Functions.{Function}
use Rattle.dwc_native.specs.Runs.{interval_of, native_in_function, as_intervals, native}
use Rattle.dwc_native.specs.BuiltExpressions.{BuildRefusal, Surroundings, setting_at, ranges_built, label_refusal, place_refusals, jump_refusals, BuiltExpressions, built_on, built_on_ranges, copied, built_over, IsBounded}
use Rattle.dwc_native.proofs.LabelRangeLaws.{label-ranges}
use Rattle.dwc_expr.specs.WholeParts.{IsWhole}
use Rattle.dwc_expr.specs.BuiltMeanings.{MeansOn, BuiltExpressionsMean}
use Rattle.dwc_expr.proofs.Meaning.OperationActs.{Each}
use Rattle.dwc_expr.proofs.Meaning.RunnableParts.{built-is, each-all, each-both, empty-flat, empty-parts, zip-map}
use Rattle.dwc_expr.proofs.Meaning.BuiltKinds.{code-mean, code-of, placed-mean}

-- ---- the scope

-- native ranges of a scope are its intervals
intervals-of : (fs : List Function) (scope : List (ℕ × ℕ)) → scope_intervals fs scope ≡ map (λ (r : NativeRange). interval_of r.function (r.start, r.end)) (scope_ranges fs scope)
unfolding native
intervals-of fs [] = refl
intervals-of fs (i ∷ is) =
    ap (λ xs. native fs i.0 i.1 ++ xs) (intervals-of fs is)
    ∙ ap (λ xs. xs ++ map told (scope_ranges fs is)) (one (native_in_function fs i.0 i.1))
    ∙ sym (map-append told (ranges_in_function (native_in_function fs i.0 i.1)) (scope_ranges fs is))
  where
    told : NativeRange → Interval
    told r = interval_of r.function (r.start, r.end)

    many : (number : ℕ) (rs : List (ℕ × ℕ)) → map (interval_of number) rs ≡ map told (map (λ r. record { function = number; start = r.0; end = r.1 }) rs)
    many number [] = refl
    many number (r ∷ rs) = ap (λ xs. interval_of number r ∷ xs) (many number rs)

    one : (o : Option (ℕ × List (ℕ × ℕ))) → as_intervals o ≡ map told (ranges_in_function o)
    one None = refl
    one (Some n) = many n.0 n.1

-- over no interval there is no range
none-over : (s : Surroundings) (x : CompiledParts) → ranges_built s [] x ≡ []
unfolding ranges_among
none-over s x = refl

abbrev pub Means : Surroundings → CompiledParts → NativeRange → Location → Type 0
Means s x r e = (e.over ≡ interval_of r.function (r.start, r.end)) × MeansOn s x r e.bytes

module _ (s : Surroundings) (bounded : IsBounded s) (x : CompiledParts) (whole : IsWhole x) where
  -- on each range on which values lie at unchanged places, where nothing is refused
  ranges-mean : (scope : List NativeRange) (built : BuiltExpressions) → built_on_ranges s scope x ≡ Ok built → AllZip (Means s x) (ranges_built s scope x) built.expressions
  ranges-mean scope built given =
      let made = built-is s scope x built given in
      let parts = empty-parts (filter_map (label_refusal s.frame) (needed_labels x)) (flat_map (λ r. place_refusals x (setting_at s r)) (ranges_built s scope x) ++ flat_map (λ r. jump_refusals x (setting_at s r)) (ranges_built s scope x)) made.0 in
      let rest = empty-parts (flat_map (λ r. place_refusals x (setting_at s r)) (ranges_built s scope x)) (flat_map (λ r. jump_refusals x (setting_at s r)) (ranges_built s scope x)) parts.1 in
      let ranges : AreLabelRanges s.frame (needed_labels x) scope (ranges_built s scope x) = label-ranges s.frame (needed_labels x) scope in
      let starts : Each (λ r. all_placed s.frame (needed_labels x) r.function r.start ≡ true) (ranges_built s scope x) =
      each-both (λ r. r.start < r.end) (λ r. AtEachByte (λ byte. all_placed s.frame (needed_labels x) r.function byte ≡ true) r) (λ r. all_placed s.frame (needed_labels x) r.function r.start ≡ true) (ranges_built s scope x) (λ r some at. at r.start (omega arith) some)
      (each-all (λ r. r.start < r.end) (ranges_built s scope x) ranges.nonempty)
      (each-all (λ r. AtEachByte (λ byte. all_placed s.frame (needed_labels x) r.function byte ≡ true) r) (ranges_built s scope x) ranges.placed) in
      let clear : Each (λ r. (place_refusals x (setting_at s r) ≡ []) × (jump_refusals x (setting_at s r) ≡ [])) (ranges_built s scope x) =
      each-both (λ r. place_refusals x (setting_at s r) ≡ []) (λ r. jump_refusals x (setting_at s r) ≡ []) (λ r. (place_refusals x (setting_at s r) ≡ []) × (jump_refusals x (setting_at s r) ≡ [])) (ranges_built s scope x) (λ r a b. (a, b))
      (empty-flat (λ r. place_refusals x (setting_at s r)) (ranges_built s scope x) rest.0) (empty-flat (λ r. jump_refusals x (setting_at s r)) (ranges_built s scope x) rest.1) in
      subst (AllZip (Means s x) (ranges_built s scope x)) (sym made.1)
      (zip-map (Means s x) (built_on s x) (ranges_built s scope x)
      (each-both (λ r. all_placed s.frame (needed_labels x) r.function r.start ≡ true) (λ r. (place_refusals x (setting_at s r) ≡ []) × (jump_refusals x (setting_at s r) ≡ [])) (λ r. Means s x r (built_on s x r)) (ranges_built s scope x)
      (λ r all none. (refl, placed-mean s bounded x whole r all none)) starts clear))

  -- and on each native range of the scope, of bytes alone
  copies-mean : (c : List ℕ) → x.parts ≡ code c ∷ [] → (scope : List (ℕ × ℕ)) → AllZip (Means s x) (scope_ranges s.functions scope) (copied (scope_intervals s.functions scope) c).expressions
  copies-mean c is scope =
      subst (λ is. AllZip (Means s x) (scope_ranges s.functions scope) (copied is c).expressions) (sym (intervals-of s.functions scope))
      (subst (AllZip (Means s x) (scope_ranges s.functions scope)) (sym (map-map (λ i. record { over = i; bytes = c }) (λ (r : NativeRange). interval_of r.function (r.start, r.end)) (scope_ranges s.functions scope)))
      (zip-map (Means s x) (λ r. record { over = interval_of r.function (r.start, r.end); bytes = c }) (scope_ranges s.functions scope) (each-of (scope_ranges s.functions scope))))
    where
      each-of : (rs : List NativeRange) → Each (λ r. Means s x r (record { over = interval_of r.function (r.start, r.end); bytes = c })) rs
      each-of [] = tt
      each-of (r ∷ rs) = ((refl, code-mean s bounded x whole c is r), each-of rs)

abbrev pub expressions_of : List Location → Result BuiltExpressions BuildRefusal → List Location
expressions_of none (Ok b) = b.expressions
expressions_of none (Err e) = none

pub built-expressions-mean : BuiltExpressionsMean
unfolding built_over
built-expressions-mean s [] x built bounded whole h = subst (λ rs. AllZip (Means s x) rs built.expressions) (sym (none (single_code x.parts))) (subst (AllZip (Means s x) []) (ap (expressions_of []) h) tt)
  where
    none : (o : Option (List ℕ)) → ◌≡◌ {A = List NativeRange} (elim o [ Some bytes ↦ [] | None ↦ ranges_built s [] x ]) []
    none (Some bytes) = refl
    none None = none-over s x
built-expressions-mean s (i ∷ is) x built bounded whole h = go (single_code x.parts) refl h
  where
    go : (o : Option (List ℕ)) → single_code x.parts ≡ o
        → ◌≡◌ {A = Result BuiltExpressions BuildRefusal} (elim o [ Some bytes ↦ Ok (copied (scope_intervals s.functions (i ∷ is)) bytes) | None ↦ built_on_ranges s (scope_ranges s.functions (i ∷ is)) x ]) (Ok built)
        → AllZip (Means s x) (elim o [ Some bytes ↦ scope_ranges s.functions (i ∷ is) | None ↦ ranges_built s (scope_ranges s.functions (i ∷ is)) x ]) built.expressions
    go (Some c) e k = subst (AllZip (Means s x) (scope_ranges s.functions (i ∷ is))) (ap (expressions_of []) k) (copies-mean s bounded x whole c (code-of x.parts c e) (i ∷ is))
    go None e k = ranges-mean s bounded x whole (scope_ranges s.functions (i ∷ is)) built k
