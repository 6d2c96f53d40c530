-- What intervals and range lists of the input are in the native code.
use Rattle.std.proofs.Common.{◌≡◌, ℕ, ◌+◌, ◌-◌, ◌^◌, ◌<◌, zero, suc, pos, List, [], ◌∷◌, ◌++◌, refl, ap, ap₂, sym, subst, ◌∙◌, arith, append_assoc, append-nil, Bool, true, false, Option, Some, None, Result, Ok, Err}
use Rattle.std.specs.Prelude.{ℤ, map, All, OnOk, nat_lt, ◌||◌, is_some, if◌then◌else◌, option_map}
use Rattle.std.specs.List.{filter, flat_map, filter_map}
use Rattle.std.proofs.lemmas.Bool.{lt-ltb, ltb-true}
use Rattle.std.proofs.lemmas.List.{map-append}
use Rattle.std.proofs.lemmas.List.Elements.{All-append, All-cons, All-head, All-nil, All-tail, filter_map-append, filter_passes}
use Rattle.std.proofs.lemmas.Grind.{flat_map-append}
use Rattle.dwc_base.specs.declared.records.Address.{Address}
use Rattle.dwc_base.specs.declared.records.Address.TheVariants.{Constant, Symbol}
use Rattle.dwc_base.specs.declared.records.OutputFor.{OutputFor}
use Rattle.dwc_base.specs.declared.records.OutputFor.TheVariants.{Default, Debugger}
use Rattle.dwc_base.specs.declared.section_name.SectionName.{SectionName}
use Rattle.dwc_base.specs.declared.section_name.SectionName.TheVariants.{Info}
use Rattle.dwc_base.specs.declared.faults.What.{What}
use Rattle.dwc_base.specs.declared.faults.What.TheVariants.{RangeList}
use Rattle.dwc_base.specs.declared.faults.Flaw.{Flaw}
use Rattle.dwc_base.specs.declared.faults.Flaw.TheVariants.{EndsEarly, TooWide, Malformed, Refused}
use Rattle.dwc_native.specs.Addends.{AreSaid, IsSaid, TranslationsAreSaid}
use Rattle.dwc_native.specs.Functions.{Function, function_at}
use Rattle.dwc_base.specs.Listing.{Listing, only_fault, with_first, first_of}
use Rattle.dwc_native.specs.ShownSources.{Apart, exact_ranges}
use Rattle.dwc_native.specs.Runs as runs
use Rattle.dwc_native.specs.Runs.{start_in, end_in, meets, is_range, native, native_in_function, native_ranges, as_intervals}
use Rattle.dwc_base.specs.Sections.{Sections, Fault, fault_of, reported}
use Rattle.dwc_dwarf.specs.Trees.{Interval}
use Rattle.dwc_base.specs.Units.{UnitHeader}
use Rattle.dwc_dwarf.specs.Values.{Value}
use Rattle.dwc_dwarf.specs.RawLists.{ListSource, ListPlace, list_named}
use Rattle.dwc_dwarf.specs.Lists.{ListRefusal, of_place, list_source, list_of_value, ranges_at, ranges_of_value}
use Rattle.dwc_native.specs.ScopesKept.{native_of_intervals, wasm_interval}
use Rattle.dwc_addr.proofs.ShownLaws.{maximal}
use Rattle.dwc_addr.specs.Translations.{with_length, with_lengths}
use Rattle.dwc_read.specs.Faults.{fault_at}
use Rattle.dwc_tabs.specs.declared.list_fault.ListFault.{ListFault}
use Rattle.dwc_tabs.specs.RangeLists.{Tells, range_list_named}
use Rattle.dwc_tabs.specs.RangeEnds.{interval_view, refusal_view}
use Rattle.dwc_unit.specs.RangeLists.{FitsRange, interval_of}
use Rattle.dwc_section.specs.Writers.{FitsField}
use Rattle.dwc_extents.specs.declared.ranges.NativeRanges.{NativeRanges}
use Rattle.dwc_extents.specs.NativeExtents.{AreRanges, IsNative, ranges_of_offsets}

-- ---- addresses

pub zero-fits : (size : ℕ) → 0 < 256 ^ size
zero-fits zero = omega arith
zero-fits (suc size) = let h = zero-fits size in omega (arith, h)

-- An address that addends can say fits the fields of each size.
pub said-fits : (a : Address) → IsSaid a → (size : ℕ) → FitsField size a
said-fits (Constant n) said size = absurd said
said-fits (Symbol f addend) said size = said

-- ---- one interval, translated

module _ (number : ℕ) where
  -- a range with a byte, by its begin and its length
  said-with_length : (r : ℕ × ℕ) → r.0 < r.1 → interval_of (with_length number r) ≡ runs.interval_of number r
  said-with_length r less =
      let whole : r.0 + (r.1 - r.0) ≡ r.1 = omega (arith, less) in
      ap (λ (n : ℕ). record { begin = Symbol number (pos r.0); end = Symbol number (pos n) }) whole

  fits-with_length : (r : ℕ × ℕ) → r.0 < r.1 → AreSaid (runs.interval_of number r) → (size : ℕ) → FitsRange size (with_length number r)
  fits-with_length r less said size =
      let whole : r.0 + (r.1 - r.0) ≡ r.1 = omega (arith, less) in
      record {
        symbol = refl;
        some = omega (arith, less);
        ends = record { begin = said.0; end = subst (λ n. FitsField size (Symbol number (pos n))) (sym whole) said.1 };
      }

  abbrev HaveBytes : List (ℕ × ℕ) → Type 0
  HaveBytes rs = All (λ r. is_range r ≡ true) rs

  said-ranges : (rs : List (ℕ × ℕ)) → HaveBytes rs → map interval_of (map (with_length number) rs) ≡ map (runs.interval_of number) rs
  said-ranges [] h = refl
  said-ranges (r ∷ rs) h = ap₂ (λ x xs. x ∷ xs) (said-with_length r (ltb-true r.0 r.1 (All-head (λ q. is_range q ≡ true) r rs h))) (said-ranges rs (All-tail (λ q. is_range q ≡ true) r rs h))

  fit-ranges : (size : ℕ) (rs : List (ℕ × ℕ)) → HaveBytes rs → All AreSaid (map (runs.interval_of number) rs) → All (FitsRange size) (map (with_length number) rs)
  fit-ranges size [] h said = All-nil (FitsRange size)
  fit-ranges size (r ∷ rs) h said =
      All-cons (FitsRange size) (with_length number r) (map (with_length number) rs)
      (fits-with_length r (ltb-true r.0 r.1 (All-head (λ q. is_range q ≡ true) r rs h)) (All-head AreSaid (runs.interval_of number r) (map (runs.interval_of number) rs) said) size)
      (fit-ranges size rs (All-tail (λ q. is_range q ≡ true) r rs h) (All-tail AreSaid (runs.interval_of number r) (map (runs.interval_of number) rs) said))

-- ranges that are apart have bytes
apart-have_bytes : (from to : ℕ) (rs : List (ℕ × ℕ)) → Apart from to rs → All (λ r. is_range r ≡ true) rs
apart-have_bytes from to [] apart = All-nil (λ r. is_range r ≡ true)
apart-have_bytes from to (r ∷ rs) apart = All-cons (λ r. is_range r ≡ true) r rs (lt-ltb r.0 r.1 apart.1) (apart-have_bytes (suc r.1) to rs apart.3)

-- The native ranges of an interval have bytes, for any output.
pub ranges-have_bytes : (f : Function) (start end : ℕ) → All (λ r. is_range r ≡ true) (native_ranges f start end)
unfolding native_ranges
ranges-have_bytes f start end = go f.output (nat_lt start end) (map (λ r. (start_in start r, end_in end r)) (filter (meets start end) (runs.runs f)))
  where
    go : (o : OutputFor) (b : Bool) (rs : List (ℕ × ℕ)) → All (λ r. is_range r ≡ true) (elim o [ Default ↦ (if b then filter is_range rs else []) | Debugger ↦ exact_ranges f start end ])
    go Default true rs = filter_passes is_range rs
    go Default false rs = All-nil (λ r. is_range r ≡ true)
    go Debugger b rs = apart-have_bytes 0 f.length (exact_ranges f start end) (maximal f start end)

-- What an interval is translated to is said by ranges.
are-translated : (fs : List Function) (start end : ℕ) → All AreSaid (native fs start end) → AreRanges (with_lengths (native_in_function fs start end)) (native fs start end)
unfolding native native_in_function
are-translated fs start end said = go (function_at fs start) said
  where
    go : (o : Option Function) → All AreSaid (as_intervals (option_map (λ f. (f.number, native_ranges f start end)) o))
        → AreRanges (with_lengths (option_map (λ f. (f.number, native_ranges f start end)) o)) (as_intervals (option_map (λ f. (f.number, native_ranges f start end)) o))
    go None said = record { say = refl; fit = λ size. All-nil (FitsRange size) }
    go (Some f) said =
        let bytes = ranges-have_bytes f start end in
        record { say = said-ranges f.number (native_ranges f start end) bytes; fit = λ size. fit-ranges f.number size (native_ranges f start end) bytes said }

-- Ranges behind others say what they say behind what those say.
are-behind : (rs qs : List (Address × ℕ)) (is js : List Interval) → AreRanges rs is → AreRanges qs js → AreRanges (rs ++ qs) (is ++ js)
are-behind rs qs is js first second = record {
  say = map-append interval_of rs qs ∙ ap₂ (λ xs ys. xs ++ ys) first.say second.say;
  fit = λ size. All-append (FitsRange size) rs qs (first.fit size) (second.fit size);
}

pub none-said : (rs : List (Address × ℕ)) → rs ≡ [] → AreRanges rs []
none-said rs none = subst (λ xs. AreRanges xs []) (sym none) (record { say = refl; fit = λ size. All-nil (FitsRange size) })

-- What intervals of wasm offsets are translated to is said by ranges.
pub offsets-said : (fs : List Function) → TranslationsAreSaid fs → (is : List (ℕ × ℕ)) → AreRanges (ranges_of_offsets fs is) (flat_map (λ i. native fs i.0 i.1) is)
offsets-said fs said [] = none-said [] refl
offsets-said fs said (i ∷ is) =
    are-behind (with_lengths (native_in_function fs i.0 i.1)) (ranges_of_offsets fs is) (native fs i.0 i.1) (flat_map (λ j. native fs j.0 j.1) is) (are-translated fs i.0 i.1 (said.intervals i.0 i.1)) (offsets-said fs said is)

module _ (fs : List Function) where
  native-one : (start end : ℕ) → native_of_intervals fs (interval_view (Constant start, Constant end) ∷ []) ≡ native fs start end
  unfolding native_of_intervals
  native-one start end = append-nil (native fs start end)

  added-ranges : TranslationsAreSaid fs → (start end : ℕ) (rs qs : List (Address × ℕ)) (is : List Interval) → qs ≡ rs ++ with_lengths (native_in_function fs start end) → AreRanges rs is
      → AreRanges qs (is ++ native_of_intervals fs (interval_view (Constant start, Constant end) ∷ []))
  added-ranges said start end rs qs is pushed are =
      subst (λ xs. AreRanges xs (is ++ native_of_intervals fs (interval_view (Constant start, Constant end) ∷ []))) (sym pushed)
      (subst (λ js. AreRanges (rs ++ with_lengths (native_in_function fs start end)) (is ++ js)) (sym (native-one start end))
      (are-behind rs (with_lengths (native_in_function fs start end)) is (native fs start end) are (are-translated fs start end (said.intervals start end))))

  -- An interval of two numbers adds its translation.
  pub added-native : {E : Type 0} (r : Result (Unit {0}) E) → TranslationsAreSaid fs → (start end : ℕ) (low high : Address) (rs qs : List (Address × ℕ)) → low ≡ Constant start → high ≡ Constant end
      → OnOk r (qs ≡ rs ++ with_lengths (native_in_function fs start end)) → (is : List Interval) → AreRanges rs is → OnOk r (AreRanges qs (is ++ native_of_intervals fs (interval_view (low, high) ∷ [])))
  added-native (Ok done) said start end low high rs qs low-is high-is pushed is are =
      subst (λ a. AreRanges qs (is ++ native_of_intervals fs (interval_view (a, high) ∷ []))) (sym low-is)
      (subst (λ a. AreRanges qs (is ++ native_of_intervals fs (interval_view (Constant start, a) ∷ []))) (sym high-is)
      (added-ranges said start end rs qs is pushed are))
  added-native (Err e) said start end low high rs qs low-is high-is pushed is are = tt

  -- Another adds nothing.
  pub symbol-begins : (f : ℕ) (addend : ℤ) (low high : Address) → low ≡ Symbol f addend → (rs : List (Address × ℕ)) (is : List Interval) → AreRanges rs is → AreRanges rs (is ++ native_of_intervals fs (interval_view (low, high) ∷ []))
  unfolding native_of_intervals
  symbol-begins f addend low high low-is rs is are = subst (λ a. AreRanges rs (is ++ native_of_intervals fs (interval_view (a, high) ∷ []))) (sym low-is) (subst (AreRanges rs) (sym (append-nil is)) are)

  pub symbol-ends : (start f : ℕ) (addend : ℤ) (low high : Address) → low ≡ Constant start → high ≡ Symbol f addend → (rs : List (Address × ℕ)) (is : List Interval) → AreRanges rs is
      → AreRanges rs (is ++ native_of_intervals fs (interval_view (low, high) ∷ []))
  unfolding native_of_intervals
  symbol-ends start f addend low high low-is high-is rs is are =
      subst (λ a. AreRanges rs (is ++ native_of_intervals fs (interval_view (a, high) ∷ []))) (sym low-is)
      (subst (λ a. AreRanges rs (is ++ native_of_intervals fs (interval_view (Constant start, a) ∷ []))) (sym high-is) (subst (AreRanges rs) (sym (append-nil is)) are))

  native-behind : (is js : List Interval) → native_of_intervals fs (is ++ js) ≡ native_of_intervals fs is ++ native_of_intervals fs js
  unfolding native_of_intervals
  native-behind is js = ap (flat_map (λ w. native fs w.0 w.1)) (filter_map-append wasm_interval is js) ∙ flat_map-append (λ w. native fs w.0 w.1) (filter_map wasm_interval is) (filter_map wasm_interval js)

  -- ---- a list, interval by interval

  -- What was translated so far, with what is left of a list, makes what all of it is in the native code.
  pub record NativeSoFar (all left : Listing ListRefusal Interval) (seen : Bool) (rs : List (Address × ℕ)) : Type 0 where
    pub some : (seen || is_some (first_of left.items)) ≡ is_some (first_of all.items)
    pub told : List Interval
    pub ranges : AreRanges rs told
    pub whole : told ++ native_of_intervals fs left.items ≡ native_of_intervals fs all.items
    pub fault : left.fault ≡ all.fault

  pub native-begin : (all : Listing ListRefusal Interval) → NativeSoFar all all false []
  native-begin all = record { some = refl; told = []; ranges = record { say = refl; fit = λ size. All-nil (FitsRange size) }; whole = refl; fault = refl }

  or-some : (b : Bool) → (b || true) ≡ true
  or-some true = refl
  or-some false = refl

  or-none : (b : Bool) → (b || false) ≡ b
  or-none true = refl
  or-none false = refl

  module _ (all left : Listing ListRefusal Interval) (seen : Bool) (rs : List (Address × ℕ)) (so_far : NativeSoFar all left seen rs) where
    pub native-more : (i : Interval) (rest : Listing ListRefusal Interval) (qs : List (Address × ℕ)) → left ≡ with_first i rest → AreRanges qs (so_far.told ++ native_of_intervals fs (i ∷ [])) → NativeSoFar all rest true qs
    native-more i rest qs is added = record {
      some = sym (or-some seen) ∙ ap (λ (l : Listing ListRefusal Interval). seen || is_some (first_of l.items)) (sym is) ∙ so_far.some;
      told = so_far.told ++ native_of_intervals fs (i ∷ []);
      ranges = added;
      whole =
          append_assoc so_far.told (native_of_intervals fs (i ∷ [])) (native_of_intervals fs rest.items)
          ∙ ap (λ xs. so_far.told ++ xs) (sym (native-behind (i ∷ []) rest.items))
          ∙ ap (λ (l : Listing ListRefusal Interval). so_far.told ++ native_of_intervals fs l.items) (sym is) ∙ so_far.whole;
      fault = ap (λ (l : Listing ListRefusal Interval). l.fault) (sym is) ∙ so_far.fault;
    }

    pub native-whole : (r : NativeRanges) → r.listed ≡ seen → r.ranges.items ≡ rs → left.items ≡ [] → option_map refusal_view r.fault ≡ left.fault → IsNative fs all r
    unfolding native_of_intervals
    native-whole r listed ranges none fault = record {
      some = listed ∙ sym (or-none seen) ∙ ap (λ is. seen || is_some (first_of is)) (sym none) ∙ so_far.some;
      ranges = subst (λ xs. AreRanges xs (native_of_intervals fs all.items)) (sym ranges) (subst (AreRanges rs) (sym (append-nil so_far.told) ∙ ap (λ is. so_far.told ++ native_of_intervals fs is) (sym none) ∙ so_far.whole) so_far.ranges);
      fault = fault ∙ so_far.fault;
    }

  -- A list of which nothing can be read.
  pub native-refused : (all : Listing ListRefusal Interval) (r : NativeRanges) (fault : ListFault) → r.listed ≡ false → r.ranges.items ≡ [] → r.fault ≡ Some fault → all ≡ only_fault (refusal_view fault) → IsNative fs all r
  native-refused all r fault listed ranges fault-is is =
      native-whole all all false [] (native-begin all) r listed ranges (ap (λ (l : Listing ListRefusal Interval). l.items) is) (ap (option_map refusal_view) fault-is ∙ sym (ap (λ (l : Listing ListRefusal Interval). l.fault) is))

-- ---- where a list is

pub moved-to-entry : (what : What) (section : SectionName) (offset place : ℕ) (flaw : Flaw) → fault_at offset (fault_of what section place flaw) ≡ fault_of what section offset flaw
moved-to-entry what section offset place EndsEarly = refl
moved-to-entry what section offset place TooWide = refl
moved-to-entry what section offset place Malformed = refl
moved-to-entry what section offset place (Refused kind) = refl

module _ (s : Sections) (h : UnitHeader) (v : Value) where
  abbrev src : ListSource
  src = list_source s h

  -- a list that cannot be found, told at its entry
  pub list-refused : (offset : ℕ) (o : Option Fault) (told : ListRefusal) → Tells (range_list_named s h v) o → ((f : Fault) → o ≡ Some f → told ≡ of_place (fault_at offset f)) → ranges_of_value src offset v ≡ only_fault told
  unfolding ranges_of_value
  list-refused offset None told tells is = absurd tells
  list-refused offset (Some f) told tells is = go (list_named src v) tells
    where
      go : (o : Option (Result ListPlace Flaw)) → option_map (reported RangeList Info h.offset) o ≡ Some (Err f) → list_of_value RangeList offset (ranges_at src) o ≡ only_fault told
      go None e = absurd (cc)
      go (Some (Err flaw)) e =
          let same : fault_of RangeList Info h.offset flaw ≡ f = cc in
          ap only_fault (ap of_place (sym (moved-to-entry RangeList Info offset h.offset flaw) ∙ ap (fault_at offset) same) ∙ sym (is f refl))
      go (Some (Ok p)) e = absurd (cc)
