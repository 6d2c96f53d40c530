-- What is built over a scope holds on intervals that are not empty, whose ends addends can say.
use Rattle.std.proofs.Common.{◌≡◌, ℕ, suc, ◌-◌, ◌<◌, ◌≤◌, pos, List, [], ◌∷◌, map, Bool, true, false, Option, Some, None, Result, Ok, Err, refl, sym, ap, subst, arith, inl, inr, true≢false}
use Rattle.std.specs.Prelude.{All, FitsSigned, IfSome, ◌+ℤ◌, ◌==◌, ◌&&◌, ◌⊎◌, if◌then◌else◌, nat_lt, nat_le, option_map}
use Rattle.std.specs.Int.{w32}
use Rattle.std.specs.Option.{unwrap_or}
use Rattle.std.proofs.lemmas.Bool.{and_parts, ltb-true, or_cases}
use Rattle.std.proofs.lemmas.Int.{ints}
use Rattle.std.proofs.lemmas.List.Elements.{All-append, All-cons, All-head, All-map, All-nil, All-tail}
use Rattle.dwc_base.specs.declared.records.Address.{Address}
use Rattle.dwc_base.specs.declared.records.Address.TheVariants.{Constant, Symbol}
use Rattle.dwc_base.specs.declared.constants.TheConstants.{DW_AT_frame_base}
use Rattle.dwc_native.specs.Addends.{AreSaid, TranslationsAreSaid}
use Rattle.dwc_native.specs.BuiltExpressions.{BuildRefusal, BuiltExpressions, Surroundings, build_refusals, built_on, built_on_ranges, built_over, copied, ranges_built}
use Rattle.dwc_native.specs.Functions.{Function, function_at}
use Rattle.dwc_native.specs.LabelRanges.{all_bytes_placed, label_ranges}
use Rattle.dwc_dwarf.specs.Lists.{ListRefusal}
use Rattle.dwc_rules.specs.LocationAttributes.{InForce, GivenExpression, ListedExpression, LocationRefusal, are_equal_to, base_for, built_at, built_for, built_for_each, compiled_at, output_frame_base, value_of_attribute, value_of_code, value_of_expression, value_of_listed, value_of_locations, value_of_locations_built, value_of_parts, value_over, with_locations}
use Rattle.dwc_native.specs.Parts.{CompiledParts, is_simple, single_code}
use Rattle.dwc_native.specs.Placed.{Frame, NativeRange, is_between, is_byte_of, needed_labels, ranges_in_function, scope_intervals, scope_ranges}
use Rattle.dwc_rules.specs.RangeRules.{told_as}
use Rattle.dwc_dwarf.specs.RawLists.{ListSource}
use Rattle.dwc_base.specs.Reading.{◌>>=◌}
use Rattle.dwc_base.specs.Listing.{first_of}
use Rattle.dwc_native.specs.Runs as runs
use Rattle.dwc_native.specs.Runs.{as_intervals, is_range, native, native_in_function, native_ranges}
use Rattle.dwc_dwarf.specs.Trees.{Interval, Location, TreeValue, expression, locations}
use Rattle.dwc_dwarf.specs.Values.{Value, is_location_name}
use Rattle.dwc_native.proofs.LabelRangeLaws.{label-ranges}
use Rattle.dwc_unit.specs.declared.attributes.AttributeValue.{AttributeValue}
use Rattle.dwc_unit.specs.declared.attributes.AttributeValue.TheVariants as output
use Rattle.dwc_unit.specs.declared.attributes.DebugInfoRef.TheVariants as reference
use Rattle.dwc_unit.specs.declared.expressions.Expression.{Expression}
use Rattle.dwc_unit.specs.LocationLists.{LocationList}
use Rattle.dwc_unit.specs.AddedInOrder.{value_meant}
use Rattle.dwc_unit.specs.GivenUnits.{FitsValue}
use Rattle.dwc_unit.specs.Lists.{FitsLocation, location_of}
use Rattle.dwc_unit.specs.RangeLists.{interval_of}
use Rattle.dwc_extents.specs.declared.location_value.LocationValue.{LocationValue}
use Rattle.dwc_extents.specs.LocationListValues.{listed_in, value_of_list, of_expression, of_list}
use Rattle.dwc_extents.specs.LocationValues.{location_value_view}
use Rattle.dwc_extents.proofs.NativeRangeLaws.{ranges-have_bytes}

-- ---- intervals

-- An interval of a function is not empty, and both its ends can be said.
pub record Spans (i : Interval) : Type 0 where
  pub number : ℕ
  pub range : ℕ × ℕ
  pub is : i ≡ runs.interval_of number range
  pub some : range.0 < range.1
  pub said : AreSaid (runs.interval_of number range)

abbrev pub AreSpans : List Location → Type 0
AreSpans ls = All (λ l. Spans l.over) ls

spans-of : (number : ℕ) (rs : List (ℕ × ℕ)) → All (λ r. is_range r ≡ true) rs → All AreSaid (map (runs.interval_of number) rs) → All Spans (map (runs.interval_of number) rs)
spans-of number [] some said = All-nil Spans
spans-of number (r ∷ rs) some said =
    All-cons Spans (runs.interval_of number r) (map (runs.interval_of number) rs)
    (record {
      number = number;
      range = r;
      is = refl;
      some = ltb-true r.0 r.1 (All-head (λ q. is_range q ≡ true) r rs some);
      said = All-head AreSaid (runs.interval_of number r) (map (runs.interval_of number) rs) said;
    })
    (spans-of number rs (All-tail (λ q. is_range q ≡ true) r rs some) (All-tail AreSaid (runs.interval_of number r) (map (runs.interval_of number) rs) said))

-- ---- ranges of native code

-- whether the end of a range can be said
abbrev EndIsSaid : NativeRange → Type 0
EndIsSaid r = FitsSigned w32 (pos r.end)

ends-said : (number : ℕ) (rs : List (ℕ × ℕ)) → All AreSaid (map (runs.interval_of number) rs) → All EndIsSaid (map (λ (r : ℕ × ℕ). record { function = number; start = r.0; end = r.1 }) rs)
ends-said number [] said = All-nil EndIsSaid
ends-said number (r ∷ rs) said =
    All-cons EndIsSaid (record { function = number; start = r.0; end = r.1 }) (map (λ (r : ℕ × ℕ). record { function = number; start = r.0; end = r.1 }) rs)
    (All-head AreSaid (runs.interval_of number r) (map (runs.interval_of number) rs) said).1
    (ends-said number rs (All-tail AreSaid (runs.interval_of number r) (map (runs.interval_of number) rs) said))

-- A byte of some ranges stands below an end of one.
below-end : (function byte : ℕ) (rs : List NativeRange) → All EndIsSaid rs → is_byte_of rs function byte ≡ true → FitsSigned w32 (pos (suc byte))
below-end function byte [] said held = absurd (true≢false (sym held))
below-end function byte (r ∷ rs) said held = go (or_cases ((r.function == function) && is_between r.start r.end byte) (is_byte_of rs function byte) held) (below-end function byte rs (All-tail EndIsSaid r rs said))
  where
    go : (((r.function == function) && is_between r.start r.end byte) ≡ true) ⊎ (is_byte_of rs function byte ≡ true) → (is_byte_of rs function byte ≡ true → FitsSigned w32 (pos (suc byte))) → FitsSigned w32 (pos (suc byte))
    go (inl here) behind =
        let between = (and_parts (r.function == function) (is_between r.start r.end byte) here).1 in
        let below : byte < r.end = ltb-true byte r.end (and_parts (nat_le r.start byte) (nat_lt byte r.end) between).1 in
        let end : EndIsSaid r = All-head EndIsSaid r rs said in
        omega (arith, ints, below, end)
    go (inr there) behind = behind there

module _ (fs : List Function) (said : TranslationsAreSaid fs) where
  native-spans : (start end : ℕ) → All Spans (native fs start end)
  unfolding native native_in_function
  native-spans start end = go (function_at fs start) (said.intervals start end)
    where
      go : (o : Option Function) → All AreSaid (as_intervals (option_map (λ f. (f.number, native_ranges f start end)) o)) → All Spans (as_intervals (option_map (λ f. (f.number, native_ranges f start end)) o))
      go None said = All-nil Spans
      go (Some f) said = spans-of f.number (native_ranges f start end) (ranges-have_bytes f start end) said

  native-ends : (start end : ℕ) → All EndIsSaid (ranges_in_function (native_in_function fs start end))
  unfolding native
  native-ends start end = go (native_in_function fs start end) (said.intervals start end)
    where
      go : (o : Option (ℕ × List (ℕ × ℕ))) → All AreSaid (as_intervals o) → All EndIsSaid (ranges_in_function o)
      go None said = All-nil EndIsSaid
      go (Some n) said = ends-said n.0 n.1 said

  scope-spans : (scope : List (ℕ × ℕ)) → All Spans (scope_intervals fs scope)
  scope-spans [] = All-nil Spans
  scope-spans (i ∷ is) = All-append Spans (native fs i.0 i.1) (scope_intervals fs is) (native-spans i.0 i.1) (scope-spans is)

  scope-ends : (scope : List (ℕ × ℕ)) → All EndIsSaid (scope_ranges fs scope)
  scope-ends [] = All-nil EndIsSaid
  scope-ends (i ∷ is) = All-append EndIsSaid (ranges_in_function (native_in_function fs i.0 i.1)) (scope_ranges fs is) (native-ends i.0 i.1) (scope-ends is)

-- The label ranges of a scope whose ends can be said.
label-spans : (frame : Option Frame) (labels : List ℕ) (scope : List NativeRange) → All EndIsSaid scope → All (λ r. Spans (runs.interval_of r.function (r.start, r.end))) (label_ranges frame labels scope)
label-spans frame labels scope said = λ k d inside.
    let are = label-ranges frame labels scope in
    spans-one _ (are.nonempty k d inside) (are.inside k d inside)
  where
    spans-one : (r : NativeRange) → r.start < r.end → ((byte : ℕ) → r.start ≤ byte → byte < r.end → is_byte_of scope r.function byte ≡ true) → Spans (runs.interval_of r.function (r.start, r.end))
    spans-one r some inside =
        let last : suc (r.end - 1) ≡ r.end = omega (arith, some) in
        let held : is_byte_of scope r.function (r.end - 1) ≡ true = inside (r.end - 1) (omega (arith, some)) (omega (arith, some)) in
        let end : FitsSigned w32 (pos r.end) = subst (λ n. FitsSigned w32 (pos n)) last (below-end r.function (r.end - 1) scope said held) in
        record { number = r.function; range = (r.start, r.end); is = refl; some = some; said = (omega (arith, ints, some, end), end) }

-- ---- what is built

-- what is so of what is answered, if something is
abbrev pub OfAnswered : {A E : Type 0} → (A → Type 0) → Result A E → Type 0
OfAnswered P (Ok x) = P x
OfAnswered P (Err e) = Unit {0}

module _ (fs : List Function) (said : TranslationsAreSaid fs) (s : Surroundings) (own : s.functions ≡ fs) where
  built-on-ranges : (scope : List NativeRange) (x : CompiledParts) → All EndIsSaid scope → OfAnswered (λ b. AreSpans b.expressions) (built_on_ranges s scope x)
  built-on-ranges scope x ends = go (first_of (build_refusals s scope x))
    where
      go : (o : Option BuildRefusal) → OfAnswered (λ (b : BuiltExpressions). AreSpans b.expressions) (elim o [ Some refusal ↦ Err refusal | None ↦ Ok (record { expressions = map (built_on s x) (ranges_built s scope x); covers_entire_scope = all_bytes_placed s.frame (needed_labels x) scope }) ])
      go None = All-map (λ (l : Location). Spans l.over) (built_on s x) (ranges_built s scope x) (label-spans s.frame (needed_labels x) scope ends)
      go (Some refusal) = tt

  -- What is built over a scope holds on such intervals.
  pub built-spans : (scope : List (ℕ × ℕ)) (x : CompiledParts) → OfAnswered (λ b. AreSpans b.expressions) (built_over s scope x)
  unfolding built_over
  built-spans [] x = All-nil (λ (l : Location). Spans l.over)
  built-spans (i ∷ is) x = go (single_code x.parts)
    where
      go : (o : Option (List ℕ)) → OfAnswered (λ (b : BuiltExpressions). AreSpans b.expressions) (elim o [ Some bytes ↦ Ok (copied (scope_intervals s.functions (i ∷ is)) bytes) | None ↦ built_on_ranges s (scope_ranges s.functions (i ∷ is)) x ])
      go None = built-on-ranges (scope_ranges s.functions (i ∷ is)) x (subst (λ gs. All EndIsSaid (scope_ranges gs (i ∷ is))) (sym own) (scope-ends fs said (i ∷ is)))
      go (Some bytes) =
          All-map (λ (l : Location). Spans l.over) (λ j. record { over = j; bytes = bytes }) (scope_intervals s.functions (i ∷ is))
          (subst (λ gs. All Spans (scope_intervals gs (i ∷ is))) (sym own) (scope-spans fs said (i ∷ is)))

  built_at-spans : (scope : List (ℕ × ℕ)) (x : CompiledParts) → OfAnswered (λ b. AreSpans b.expressions) (built_at s scope x)
  unfolding built_at
  built_at-spans scope x = go (built_over s scope x) refl (built-spans scope x)
    where
      go : (r : Result BuiltExpressions BuildRefusal) → built_over s scope x ≡ r → OfAnswered (λ (b : BuiltExpressions). AreSpans b.expressions) r → OfAnswered (λ (b : BuiltExpressions). AreSpans b.expressions) (built_at s scope x)
      go (Ok built) is spans = rw (is, built_at) spans
      go (Err refusal) is spans = rw (is, built_at) tt

-- ---- what an attribute becomes

-- An expression fits a name; a location list fits one that may have it, where its intervals do.
abbrev pub FitsLocationValue : ℕ → TreeValue → Type 0
FitsLocationValue name (expression bytes) = Unit {0}
FitsLocationValue name (locations ls) = (is_location_name name ≡ true) × AreSpans ls
FitsLocationValue name _ = ⊥

abbrev pub FitsSeen : {E : Type 0} → ℕ → Result (Option TreeValue) E → Type 0
FitsSeen name r = OfAnswered (λ v. IfSome v (FitsLocationValue name)) r

module _ (name : ℕ) where
  fits-built : (covers : Bool) (ls : List Location) → AreSpans ls → IfSome (value_of_locations_built name covers ls) (FitsLocationValue name)
  fits-built covers [] spans = tt
  fits-built covers (l ∷ ls) spans = go (covers && are_equal_to l.bytes ls) (is_location_name name) refl
    where
      go : (same may : Bool) → is_location_name name ≡ may → IfSome (if same then Some (expression l.bytes) else (if may then Some (locations (l ∷ ls)) else None)) (FitsLocationValue name)
      go true may named = tt
      go false true named = (named, spans)
      go false false named = tt

  fits-code : (bytes : List ℕ) → IfSome (value_of_code bytes) (FitsLocationValue name)
  fits-code [] = tt
  fits-code (b ∷ bs) = tt

  module _ (fs : List Function) (said : TranslationsAreSaid fs) (e : InForce) (own : e.surroundings.functions ≡ fs) where
    fits-over : (x : CompiledParts) (scope : Option (List (ℕ × ℕ))) → FitsSeen name (value_over name e.surroundings x scope)
    fits-over x None = tt
    fits-over x (Some scope) = go (built_at e.surroundings scope x) (built_at-spans fs said e.surroundings own scope x)
      where
        go : (r : Result BuiltExpressions LocationRefusal) → OfAnswered (λ (b : BuiltExpressions). AreSpans b.expressions) r → FitsSeen name (r >>= λ b. Ok (value_of_locations_built name b.covers_entire_scope b.expressions))
        go (Ok built) spans = fits-built built.covers_entire_scope built.expressions spans
        go (Err refusal) spans = tt

    fits-parts : (parts : Option CompiledParts) → FitsSeen name (value_of_parts name e parts)
    fits-parts None = tt
    fits-parts (Some x) = go (is_simple x)
      where
        go : (simple : Bool) → FitsSeen name (if simple then Ok (value_of_code (unwrap_or (single_code x.parts) [])) else value_over name e.surroundings x e.scope)
        go true = fits-code (unwrap_or (single_code x.parts) [])
        go false = fits-over x e.scope

    fits-attribute : (parts : Option CompiledParts) → FitsSeen name (value_of_attribute name e parts)
    fits-attribute parts = go (name == DW_AT_frame_base)
      where
        go : (base : Bool) → FitsSeen name (if base then Ok (Some (expression output_frame_base)) else value_of_parts name e parts)
        go true = tt
        go false = fits-parts parts

    -- What an expression becomes fits the name of its attribute.
    pub fits-expression : (x : GivenExpression) → FitsSeen name (value_of_expression name e x)
    unfolding value_of_expression
    fits-expression x = go (compiled_at (base_for name e) x)
      where
        go : (r : Result (Option CompiledParts) LocationRefusal) → FitsSeen name (r >>= value_of_attribute name e)
        go (Ok parts) = fits-attribute parts
        go (Err refusal) = tt

-- ---- location lists

module _ (fs : List Function) (said : TranslationsAreSaid fs) (e : InForce) (own : e.surroundings.functions ≡ fs) where
  abbrev AreBuilt : Result (Option (List Location)) LocationRefusal → Type 0
  AreBuilt r = OfAnswered (λ ls. IfSome ls AreSpans) r

  for-one : (x : ListedExpression) → AreBuilt (built_for e x)
  unfolding built_for
  for-one x = go (compiled_at e.base x.given)
    where
      built : (r : Result BuiltExpressions LocationRefusal) → OfAnswered (λ (b : BuiltExpressions). AreSpans b.expressions) r → AreBuilt (r >>= λ b. Ok (Some b.expressions))
      built (Ok b) spans = spans
      built (Err refusal) spans = tt

      go : (r : Result (Option CompiledParts) LocationRefusal) → AreBuilt (r >>= λ parts. elim parts [ None ↦ Ok None | Some p ↦ (built_at e.surroundings ((x.start, x.end) ∷ []) p >>= λ built. Ok (Some built.expressions)) ])
      go (Ok None) = tt
      go (Ok (Some p)) = built (built_at e.surroundings ((x.start, x.end) ∷ []) p) (built_at-spans fs said e.surroundings own ((x.start, x.end) ∷ []) p)
      go (Err refusal) = tt

  joined : (first others : Option (List Location)) → IfSome first AreSpans → IfSome others AreSpans → IfSome (with_locations first others) AreSpans
  joined None others f o = o
  joined (Some ls) None f o = All-append (λ (l : Location). Spans l.over) ls [] f (All-nil (λ (l : Location). Spans l.over))
  joined (Some ls) (Some ms) f o = All-append (λ (l : Location). Spans l.over) ls ms f o

  for-each : (xs : List ListedExpression) → AreBuilt (built_for_each e xs)
  unfolding built_for_each
  for-each [] = tt
  for-each (x ∷ xs) = go (built_for e x) (built_for_each e xs) (for-one x) (for-each xs)
    where
      go : (first others : Result (Option (List Location)) LocationRefusal) → AreBuilt first → AreBuilt others → AreBuilt (first >>= λ f. others >>= λ o. Ok (with_locations f o))
      go (Ok f) (Ok o) first others = joined f o first others
      go (Ok f) (Err refusal) first others = tt
      go (Err refusal) others first after = tt

  fits-values : (name : ℕ) → is_location_name name ≡ true → (xs : List ListedExpression) → FitsSeen name (value_of_locations e xs)
  unfolding value_of_locations
  fits-values name named xs = go (built_for_each e xs) (for-each xs)
    where
      go : (r : Result (Option (List Location)) LocationRefusal) → AreBuilt r → FitsSeen name (r >>= λ ls. Ok (value_of_listed ls))
      go (Ok None) are = tt
      go (Ok (Some ls)) are = (named, are)
      go (Err refusal) are = tt

  -- What a location list becomes fits a name that may have one.
  pub fits-list : (name : ℕ) → is_location_name name ≡ true → (s : ListSource) (offset : ℕ) (v : Value) → FitsSeen name (value_of_list s e offset v)
  fits-list name named s offset v = go (listed_in _)
    where
      values : (r : Result (Option TreeValue) LocationRefusal) → FitsSeen name r → FitsSeen name (told_as of_expression r)
      values (Ok t) fits = fits
      values (Err refusal) fits = tt

      go : (r : Result (List ListedExpression) ListRefusal) → FitsSeen name (told_as of_list r >>= λ xs. told_as of_expression (value_of_locations e xs))
      go (Ok xs) = values (value_of_locations e xs) (fits-values name named xs)
      go (Err refusal) = tt

-- ---- values of the output

-- An address with a length spells an interval of a function that is not empty.
fits-location : (size : ℕ) (l : Address × ℕ × Expression) → Spans (interval_of (l.0, l.1)) → FitsLocation size l
fits-location size (Constant n, extent, x) spans =
    let begin : ◌≡◌ {A = Address} (Constant n) (Symbol spans.number (pos spans.range.0)) = ap (λ (i : Interval). i.begin) spans.is in
    absurd (cc)
fits-location size (Symbol f addend, extent, x) spans =
    let first : ◌≡◌ {A = Address} (Symbol f addend) (Symbol spans.number (pos spans.range.0)) = ap (λ (i : Interval). i.begin) spans.is in
    let last : ◌≡◌ {A = Address} (Symbol f (addend +ℤ pos extent)) (Symbol spans.number (pos spans.range.1)) = ap (λ (i : Interval). i.end) spans.is in
    let begin : addend ≡ pos spans.range.0 = cc in
    let end : addend +ℤ pos extent ≡ pos spans.range.1 = cc in
    let some = spans.some in
    record {
      symbol = refl;
      some = omega (arith, ints, begin, end, some);
      ends = record { begin = subst (FitsSigned w32) (sym begin) spans.said.0; end = subst (FitsSigned w32) (sym end) spans.said.1 };
    }

fit-locations : (size : ℕ) (ls : List (Address × ℕ × Expression)) → AreSpans (map location_of ls) → All (FitsLocation size) ls
fit-locations size [] spans = All-nil (FitsLocation size)
fit-locations size (l ∷ ls) spans =
    All-cons (FitsLocation size) l ls (fits-location size l (All-head (λ (m : Location). Spans m.over) (location_of l) (map location_of ls) spans)) (fit-locations size ls (All-tail (λ (m : Location). Spans m.over) (location_of l) (map location_of ls) spans))

-- A value of the output fits a name where what it says does.
pub fits-value : (texts : List (List ℕ)) (number size name : ℕ) (v : AttributeValue) → FitsLocationValue name (value_meant texts number v) → FitsValue size name v
fits-value texts number size name (output.Exprloc e) fits = tt
fits-value texts number size name (output.LocationListRef list) fits = (fits.0, fit-locations size list.locations.items fits.1)
fits-value texts number size name (output.Address a) fits = absurd fits
fits-value texts number size name (output.Constant form bits) fits = absurd fits
fits-value texts number size name (output.Flag b) fits = absurd fits
fits-value texts number size name (output.Block bytes) fits = absurd fits
fits-value texts number size name (output.StringRef id) fits = absurd fits
fits-value texts number size name output.LineProgramRef fits = absurd fits
fits-value texts number size name (output.RangeListRef list) fits = absurd fits
fits-value texts number size name (output.UnitRef id) fits = absurd fits
fits-value texts number size name (output.DebugInfoRef (reference.Entry unit id)) fits = absurd fits

-- The same where it is made of what is located.
pub fits-located : (size name : ℕ) (location_value : LocationValue) (v : AttributeValue) → ((texts : List (List ℕ)) (number : ℕ) → value_meant texts number v ≡ location_value_view location_value) → FitsLocationValue name (location_value_view location_value) → FitsValue size name v
fits-located size name location_value v means fits = fits-value [] 0 size name v (subst (FitsLocationValue name) (sym (means [] 0)) fits)

-- What is built over a scope fits a location list of a name that may have one.
pub fits-built-over : (fs : List Function) (said : TranslationsAreSaid fs) (s : Surroundings) (own : s.functions ≡ fs) (scope : List (ℕ × ℕ)) (x : CompiledParts) (built : BuiltExpressions) (size name : ℕ) (list : LocationList)
    → is_location_name name ≡ true → built_over s scope x ≡ Ok built → map location_of list.locations.items ≡ built.expressions → FitsValue size name (output.LocationListRef list)
fits-built-over fs said s own scope x built size name list named is same =
    let spans = subst (λ r. OfAnswered (λ (b : BuiltExpressions). AreSpans b.expressions) r) is (built-spans fs said s own scope x) in
    fits-value [] 0 size name (output.LocationListRef list) (named, subst AreSpans (sym same) spans)
