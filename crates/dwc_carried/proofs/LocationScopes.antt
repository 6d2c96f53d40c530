-- What is built for an expression over a scope says where its value lies, where translations keep scopes.
use Rattle.std.proofs.Common.{◌≡◌, ℕ, zero, suc, pos, ◌<◌, ◌≤◌, ◌+◌, List, [], ◌∷◌, ◌++◌, map, Option, Some, None, Ok, Err, true, false, refl, ap, sym, ◌∙◌, subst, arith, inl, inr, true≢false}
use Rattle.std.specs.Prelude.{Bool, Result, ◌&&◌, ◌||◌, ◌-◌, ◌⊎◌, ◌==◌, int_le, int_lt, is_some, All, Contains, if◌then◌else◌}
use Rattle.std.specs.List.{filter_map, flat_map, list_all, range_with_len}
use Rattle.std.proofs.lemmas.Bool.{cases_lt, and_parts, and_from, or_cases}
use Rattle.std.proofs.lemmas.List.Elements.{All-head, All-tail, All-nil, All-cons}
use Rattle.dwc_base.specs.declared.records.Address.TheVariants.{Constant}
use Rattle.dwc_native.specs.Functions.{Function}
use Rattle.dwc_base.specs.Listing.{first_of}
use Rattle.dwc_native.specs.Runs.{interval_of, native_in_function, native, as_intervals}
use Rattle.dwc_base.specs.Reading.{◌>>=◌}
use Rattle.dwc_dwarf.specs.Trees.{Interval, Location, expression, locations}
use Rattle.dwc_dwarf.specs.Values.{is_location_name}
use Rattle.dwc_native.specs.ScopesKept.{wasm_interval, native_of_intervals}
use Rattle.dwc_native.specs.Parts.{Part, code, local, dereference, jump, landing_pad, CompiledParts, label_alone, single_code, is_simple}
use Rattle.dwc_native.specs.Placed.{Frame, NativeRange, needed_labels, is_byte_of, all_placed, ranges_in_function, scope_ranges, scope_intervals}
use Rattle.dwc_native.specs.LabelRanges.{AtEachByte, bytes_of, is_wanted, all_bytes_placed, label_ranges}
use Rattle.dwc_native.specs.BuiltExpressions.{Surroundings, BuildRefusal, BuiltExpressions, built_on, ranges_built, build_refusals, copied, built_on_ranges, built_over, label_over}
use Rattle.dwc_rules.specs.LocationAttributes.{are_equal_to, value_of_built}
use Rattle.dwc_native.specs.ScopesKept.{is_shown_in}
use Rattle.dwc_native.specs.ScopesKept.{cover_byte, is_at_or_below, is_behind, IsInOneOf, KeepsScope, TranslationsKeepScopes, AreNumbered}
use Rattle.dwc_carried.specs.LocationsCarried.{SaysWhere, said_over}
use Rattle.dwc_native.proofs.LabelRangeLaws.{label-ranges}
use Rattle.dwc_native.proofs.LabelRangeCoverage.{holds, held, label-ranges-complete}

-- ---- the bytes of a scope, as ranges and as intervals

-- a range as an interval
abbrev pub as_interval : NativeRange → Interval
as_interval r = interval_of r.function (r.start, r.end)

-- whether an interval covers a byte of a function
abbrev covers : ℕ → ℕ → Interval → Bool
covers function byte i = is_at_or_below function byte i.begin && is_behind function byte i.end

covers-held : (function byte : ℕ) (r : NativeRange) → covers function byte (as_interval r) ≡ holds function byte r
covers-held function byte r = go (r.function == function) (int_le (pos r.start) (pos byte)) (int_lt (pos byte) (pos r.end))
  where
    go : (same from to : Bool) → ((same && from) && (same && to)) ≡ (same && (from && to))
    go true from to = refl
    go false from to = refl

pub intervals-cover : (rs : List NativeRange) (function byte : ℕ) → cover_byte (map as_interval rs) function byte ≡ is_byte_of rs function byte
intervals-cover [] function byte = refl
intervals-cover (r ∷ rs) function byte = ap (λ b. b || cover_byte (map as_interval rs) function byte) (covers-held function byte r) ∙ ap (λ b. holds function byte r || b) (intervals-cover rs function byte)

interval-of-ranges : (o : Option (ℕ × List (ℕ × ℕ))) → as_intervals o ≡ map as_interval (ranges_in_function o)
interval-of-ranges None = refl
interval-of-ranges (Some n) = go n.1
  where
    go : (rs : List (ℕ × ℕ)) → map (interval_of n.0) rs ≡ map as_interval (map (λ r. record { function = n.0; start = r.0; end = r.1 }) rs)
    go [] = refl
    go (r ∷ rs) = ap (λ is. interval_of n.0 r ∷ is) (go rs)

map-both : {A B : Type 0} (f : A → B) (xs ys : List A) → map f (xs ++ ys) ≡ map f xs ++ map f ys
map-both f [] ys = refl
map-both f (x ∷ xs) ys = ap (λ zs. f x ∷ zs) (map-both f xs ys)

-- the intervals of a scope are its ranges
pub scope-is : (fs : List Function) (scope : List (ℕ × ℕ)) → scope_intervals fs scope ≡ map as_interval (scope_ranges fs scope)
unfolding native
scope-is fs [] = refl
scope-is fs (i ∷ is) =
    ap (λ front. front ++ scope_intervals fs is) (interval-of-ranges (native_in_function fs i.0 i.1))
    ∙ ap (λ others. map as_interval (ranges_in_function (native_in_function fs i.0 i.1)) ++ others) (scope-is fs is)
    ∙ sym (map-both as_interval (ranges_in_function (native_in_function fs i.0 i.1)) (scope_ranges fs is))

pub scope-covers : (fs : List Function) (scope : List (ℕ × ℕ)) (function byte : ℕ) → cover_byte (scope_intervals fs scope) function byte ≡ is_byte_of (scope_ranges fs scope) function byte
scope-covers fs scope function byte = ap (λ is. cover_byte is function byte) (scope-is fs scope) ∙ intervals-cover (scope_ranges fs scope) function byte

-- ---- translations keep a scope

abbrev as_constants : List (ℕ × ℕ) → List Interval
as_constants scope = map (λ w. record { begin = Constant w.0; end = Constant w.1 }) scope

constants-back : (scope : List (ℕ × ℕ)) → filter_map wasm_interval (as_constants scope) ≡ scope
constants-back [] = refl
constants-back (w ∷ ws) = ap (λ vs. w ∷ vs) (constants-back ws)

pub scope-kept : (fs : List Function) → TranslationsKeepScopes fs → AreNumbered fs → (scope : List (ℕ × ℕ)) → KeepsScope fs scope (scope_intervals fs scope)
unfolding native_of_intervals
scope-kept fs keep numbered scope =
    let law = keep numbered (as_constants scope) in
    subst (λ ws. KeepsScope fs ws (flat_map (λ w. native fs w.0 w.1) ws)) (constants-back scope) law

-- ---- intervals with exactly the wanted bytes say where

-- Ranges hold exactly the bytes of a scope where labels have places.
pub record Exactly (fs : List Function) (frame : Option Frame) (scope : List (ℕ × ℕ)) (labels : List ℕ) (rs : List NativeRange) : Type 0 where
  pub wanted : (function byte : ℕ) → is_byte_of rs function byte ≡ true → is_wanted frame labels (scope_ranges fs scope) function byte ≡ true
  pub there : (function byte : ℕ) → is_wanted frame labels (scope_ranges fs scope) function byte ≡ true → is_byte_of rs function byte ≡ true

-- what follow from each other are the same
both-true : (a b : Bool) → (a ≡ true → b ≡ true) → (b ≡ true → a ≡ true) → a ≡ b
both-true true b there back = sym (there refl)
both-true false true there back = back refl
both-true false false there back = refl

module _ (fs : List Function) (frame : Option Frame) (scope : List (ℕ × ℕ)) (labels : List ℕ) (kept : KeepsScope fs scope (scope_intervals fs scope)) where
  abbrev in_scope : ℕ → ℕ → Bool
  in_scope function byte = is_byte_of (scope_ranges fs scope) function byte

  pub says : (rs : List NativeRange) → Exactly fs frame scope labels rs → All (IsInOneOf fs) (map as_interval rs) → SaysWhere fs frame scope labels (map as_interval rs)
  says rs just inside =
      let back : (function byte : ℕ) → cover_byte (map as_interval rs) function byte ≡ true → is_wanted frame labels (scope_ranges fs scope) function byte ≡ true = λ function byte h. just.wanted function byte (sym (intervals-cover rs function byte) ∙ h) in
      record {
        inside = inside;
        no_more = λ f byte source among named distinct h has.
            kept.no_more f byte source among named distinct (scope-covers fs scope f.number byte ∙ (and_parts (in_scope f.number byte) (all_placed frame labels f.number byte) (back f.number byte h)).0) has;
        have_places = λ function byte h. (and_parts (in_scope function byte) (all_placed frame labels function byte) (back function byte h)).1;
        no_less = λ interval f byte source among at distinct within has from to placed.
            let covered = kept.no_less interval f byte source among at distinct within has from to in
            intervals-cover rs f.number byte ∙ just.there f.number byte (and_from (in_scope f.number byte) (all_placed frame labels f.number byte) (sym (scope-covers fs scope f.number byte) ∙ covered) placed);
        exact = λ f byte for_debugger among named within.
            let shown : in_scope f.number byte ≡ is_shown_in fs scope f byte = sym (scope-covers fs scope f.number byte) ∙ kept.exact f byte for_debugger among named within in
            intervals-cover rs f.number byte ∙ both-true (is_byte_of rs f.number byte) (is_wanted frame labels (scope_ranges fs scope) f.number byte) (just.wanted f.number byte) (just.there f.number byte)
            ∙ ap (λ b. b && all_placed frame labels f.number byte) shown;
      }

  -- ---- the label ranges

  -- what is so at each byte of some ranges
  at-byte : (q : ℕ → ℕ → Bool) (rs : List NativeRange) (function byte : ℕ) → All (λ r. AtEachByte (λ b. q r.function b ≡ true) r) rs → is_byte_of rs function byte ≡ true → q function byte ≡ true
  at-byte q [] function byte h is = absurd (true≢false (sym is))
  at-byte q (r ∷ rs) function byte h is = go (or_cases (holds function byte r) (is_byte_of rs function byte) is) (λ there. at-byte q rs function byte (All-tail (λ r. AtEachByte (λ b. q r.function b ≡ true) r) r rs h) there)
    where
      go : (holds function byte r ≡ true) ⊎ (is_byte_of rs function byte ≡ true) → (is_byte_of rs function byte ≡ true → q function byte ≡ true) → q function byte ≡ true
      go (inl here) behind = let l = held function byte r here in subst (λ f. q f byte ≡ true) l.same (All-head (λ r. AtEachByte (λ b. q r.function b ≡ true) r) r rs h byte l.from l.to)
      go (inr there) behind = behind there

  abbrev built : List NativeRange
  built = label_ranges frame labels (scope_ranges fs scope)

  built-exactly : Exactly fs frame scope labels built
  built-exactly =
      let law = label-ranges frame labels (scope_ranges fs scope) in
      record {
        wanted = λ function byte h. and_from (in_scope function byte) (all_placed frame labels function byte) (at-byte in_scope built function byte law.inside h) (at-byte (all_placed frame labels) built function byte law.placed h);
        there = λ function byte h. label-ranges-complete frame labels (scope_ranges fs scope) function byte h;
      }

  -- a byte of the scope is one of a function with a symbol
  record IsOfFunction (function byte : ℕ) : Type 0 where
    of : Function
    among : Contains fs of
    named : is_some of.symbol ≡ true
    number : of.number ≡ function
    within : byte < of.length

  of-function : (function byte : ℕ) (is : List Interval) → All (IsInOneOf fs) is → cover_byte is function byte ≡ true → IsOfFunction function byte
  of-function function byte [] all h = absurd (true≢false (sym h))
  of-function function byte (i ∷ is) all h = go (or_cases (covers function byte i) (cover_byte is function byte) h) (λ there. of-function function byte is (All-tail (IsInOneOf fs) i is all) there)
    where
      first : IsInOneOf fs i
      first = All-head (IsInOneOf fs) i is all

      go : (covers function byte i ≡ true) ⊎ (cover_byte is function byte ≡ true) → (cover_byte is function byte ≡ true → IsOfFunction function byte) → IsOfFunction function byte
      go (inr there) behind = behind there
      go (inl here) behind =
          let r : NativeRange = record { function = first.function.number; start = first.range.0; end = first.range.1 } in
          let l = held function byte r (sym (covers-held function byte r) ∙ subst (λ j. covers function byte j ≡ true) first.told here) in
          record { of = first.function; among = first.among; named = first.named; number = l.same; within = omega (arith, l.to, first.within.1) }

  inside-one : (r : NativeRange) → r.start < r.end → AtEachByte (λ byte. in_scope r.function byte ≡ true) r → IsInOneOf fs (as_interval r)
  inside-one r some each =
      let last : ℕ = r.end - 1 in
      let o = of-function r.function last (scope_intervals fs scope) kept.inside (scope-covers fs scope r.function last ∙ each last (omega (arith, some)) (omega (arith, some))) in
      record {
        function = o.of;
        among = o.among;
        named = o.named;
        range = (r.start, r.end);
        told = ap (λ n. interval_of n (r.start, r.end)) (sym o.number);
        within = (omega (arith, some), omega (arith, some, o.within));
      }

  all-inside : (rs : List NativeRange) → All (λ r. r.start < r.end) rs → All (λ r. AtEachByte (λ byte. in_scope r.function byte ≡ true) r) rs → All (IsInOneOf fs) (map as_interval rs)
  all-inside [] some each = All-nil (IsInOneOf fs)
  all-inside (r ∷ rs) some each =
      All-cons (IsInOneOf fs) (as_interval r) (map as_interval rs) (inside-one r (All-head (λ r. r.start < r.end) r rs some) (All-head (λ r. AtEachByte (λ byte. in_scope r.function byte ≡ true) r) r rs each))
      (all-inside rs (All-tail (λ r. r.start < r.end) r rs some) (All-tail (λ r. AtEachByte (λ byte. in_scope r.function byte ≡ true) r) r rs each))

  -- The ranges on which labels have places say where.
  pub ranges-say : SaysWhere fs frame scope labels (map as_interval built)
  ranges-say = let law = label-ranges frame labels (scope_ranges fs scope) in says built built-exactly (all-inside built law.nonempty law.inside)

  -- ---- the whole scope

  -- a test that all numbers from one on pass, as many as said
  in-range : (p : ℕ → Bool) (n count k : ℕ) → list_all p (range_with_len n count) ≡ true → n ≤ k → k < n + count → p k ≡ true
  in-range p n zero k h from to = absurd (omega (arith, from, to))
  in-range p n (suc count) k h from to = go (cases_lt n k) (λ below. in-range p (n + 1) count k (and_parts (p n) (list_all p (range_with_len (n + 1) count)) h).1 (omega (arith, below)) (omega (arith, to)))
    where
      go : (n < k) ⊎ (k ≤ n) → (n < k → p k ≡ true) → p k ≡ true
      go (inl below) behind = behind below
      go (inr above) behind = let same : k ≡ n = omega (arith, from, above) in subst (λ m. p m ≡ true) (sym same) (and_parts (p n) (list_all p (range_with_len (n + 1) count)) h).0

  whole-placed : (rs : List NativeRange) (function byte : ℕ) → all_bytes_placed frame labels rs ≡ true → is_byte_of rs function byte ≡ true → all_placed frame labels function byte ≡ true
  whole-placed [] function byte h is = absurd (true≢false (sym is))
  whole-placed (r ∷ rs) function byte h is =
      let parts = and_parts (list_all (all_placed frame labels r.function) (bytes_of r)) (all_bytes_placed frame labels rs) h in
      go parts.0 (or_cases (holds function byte r) (is_byte_of rs function byte) is) (λ there. whole-placed rs function byte parts.1 there)
    where
      go : list_all (all_placed frame labels r.function) (bytes_of r) ≡ true → (holds function byte r ≡ true) ⊎ (is_byte_of rs function byte ≡ true) → (is_byte_of rs function byte ≡ true → all_placed frame labels function byte ≡ true) → all_placed frame labels function byte ≡ true
      go all (inl here) behind =
          let l = held function byte r here in
          subst (λ f. all_placed frame labels f byte ≡ true) l.same (in-range (all_placed frame labels r.function) r.start (r.end - r.start) byte all l.from (omega (arith, l.from, l.to)))
      go all (inr there) behind = behind there

  -- The whole scope says where, if each of its bytes has a place for each label.
  pub whole-says : all_bytes_placed frame labels (scope_ranges fs scope) ≡ true → SaysWhere fs frame scope labels (scope_intervals fs scope)
  whole-says covers_all =
      let exact : Exactly fs frame scope labels (scope_ranges fs scope) = record {
        wanted = λ function byte h. and_from (in_scope function byte) (all_placed frame labels function byte) h (whole-placed (scope_ranges fs scope) function byte covers_all h);
        there = λ function byte h. (and_parts (in_scope function byte) (all_placed frame labels function byte) h).0;
      } in
      subst (λ is. SaysWhere fs frame scope labels is) (sym (scope-is fs scope)) (says (scope_ranges fs scope) exact (subst (λ is. All (IsInOneOf fs) is) (scope-is fs scope) kept.inside))

-- ---- bytes alone need no label

code-needs-nothing : (ps : List Part) (d : Bool) (c : List ℕ) → single_code ps ≡ Some c → needed_labels (record { parts = ps; need_deref = d }) ≡ []
code-needs-nothing [] d c e = let no : ◌≡◌ {A = Option (List ℕ)} None (Some c) = e in absurd cc
code-needs-nothing (code b ∷ []) true c e = refl
code-needs-nothing (code b ∷ []) false c e = refl
code-needs-nothing (code b ∷ q ∷ qs) d c e = let no : ◌≡◌ {A = Option (List ℕ)} None (Some c) = e in absurd cc
code-needs-nothing (local l t ∷ ps) d c e = let no : ◌≡◌ {A = Option (List ℕ)} None (Some c) = e in absurd cc
code-needs-nothing (dereference ∷ ps) d c e = let no : ◌≡◌ {A = Option (List ℕ)} None (Some c) = e in absurd cc
code-needs-nothing (jump k p ∷ ps) d c e = let no : ◌≡◌ {A = Option (List ℕ)} None (Some c) = e in absurd cc
code-needs-nothing (landing_pad p ∷ ps) d c e = let no : ◌≡◌ {A = Option (List ℕ)} None (Some c) = e in absurd cc

nothing-covers : (frame : Option Frame) (rs : List NativeRange) → all_bytes_placed frame [] rs ≡ true
nothing-covers frame [] = refl
nothing-covers frame (r ∷ rs) = and_from (list_all (all_placed frame [] r.function) (bytes_of r)) (all_bytes_placed frame [] rs) (go r.start (r.end - r.start)) (nothing-covers frame rs)
  where
    go : (n count : ℕ) → list_all (all_placed frame [] r.function) (range_with_len n count) ≡ true
    go n zero = refl
    go n (suc count) = go (n + 1) count

code-is-simple : (ps : List Part) (d : Bool) (c : List ℕ) → single_code ps ≡ Some c → is_simple (record { parts = ps; need_deref = d }) ≡ true
code-is-simple [] d c e = refl
code-is-simple (p ∷ ps) d c e = ap (λ o. is_some o) e

-- ---- what is built

built-over : (s : Surroundings) (x : CompiledParts) (rs : List NativeRange) → map (λ l. l.over) (map (built_on s x) rs) ≡ map as_interval rs
built-over s x [] = refl
built-over s x (r ∷ rs) = ap (λ is. as_interval r ∷ is) (built-over s x rs)

copied-over : (is : List Interval) (c : List ℕ) → map (λ l. l.over) (copied is c).expressions ≡ is
copied-over [] c = refl
copied-over (i ∷ is) c = ap (λ js. i ∷ js) (copied-over is c)

abbrev built_or : Result BuiltExpressions BuildRefusal → BuiltExpressions → BuiltExpressions
built_or (Ok b) d = b
built_or (Err r) d = d

over-code : (s : Surroundings) (i : ℕ × ℕ) (is : List (ℕ × ℕ)) (x : CompiledParts) (c : List ℕ) (built : BuiltExpressions) → single_code x.parts ≡ Some c → built_over s (i ∷ is) x ≡ Ok built → built ≡ copied (scope_intervals s.functions (i ∷ is)) c
unfolding built_over
over-code s i is x c built is_code e =
    let known : built_over s (i ∷ is) x ≡ Ok (copied (scope_intervals s.functions (i ∷ is)) c) = rw (is_code, built_over) refl in
    ap (λ r. built_or r built) (sym e ∙ known)

abbrev on_ranges : Surroundings → List NativeRange → CompiledParts → BuiltExpressions
on_ranges s scope x = record { expressions = map (built_on s x) (ranges_built s scope x); covers_entire_scope = all_bytes_placed s.frame (needed_labels x) scope }

over-ranges : (s : Surroundings) (i : ℕ × ℕ) (is : List (ℕ × ℕ)) (x : CompiledParts) (built : BuiltExpressions) → single_code x.parts ≡ None → built_over s (i ∷ is) x ≡ Ok built → built ≡ on_ranges s (scope_ranges s.functions (i ∷ is)) x
unfolding built_over
over-ranges s i is x built no_code e =
    let scope = scope_ranges s.functions (i ∷ is) in
    let known : built_over s (i ∷ is) x ≡ built_on_ranges s scope x = rw (no_code, built_over) refl in
    go scope (first_of (build_refusals s scope x)) (sym known ∙ e)
  where
    go : (scope : List NativeRange) (o : Option BuildRefusal) → ◌≡◌ {A = Result BuiltExpressions BuildRefusal} (elim o [ Some refusal ↦ Err refusal | None ↦ Ok (on_ranges s scope x) ]) (Ok built) → built ≡ on_ranges s scope x
    go scope None h = ap (λ r. built_or r built) (sym h)
    go scope (Some refusal) h = let no : ◌≡◌ {A = Result BuiltExpressions BuildRefusal} (Err refusal) (Ok built) = h in absurd cc

module _ (s : Surroundings) (scope : List (ℕ × ℕ)) (x : CompiledParts) (kept : KeepsScope s.functions scope (scope_intervals s.functions scope)) where
  -- the locations on the ranges that are built
  abbrev Says : List Interval → Type 0
  Says is = SaysWhere s.functions s.frame scope (needed_labels x) is

  ranges-built-say : (rs : List NativeRange) → ranges_built s (scope_ranges s.functions scope) x ≡ rs → Says (map (λ l. l.over) (map (built_on s x) rs))
  ranges-built-say rs is =
      subst Says (sym (built-over s x rs)) (subst (λ ps. Says (map as_interval ps)) is (ranges-say s.functions s.frame scope (needed_labels x) kept))

  code-says : (c : List ℕ) → single_code x.parts ≡ Some c → Says (scope_intervals s.functions scope)
  code-says c is_code =
      whole-says s.functions s.frame scope (needed_labels x) kept
      (subst (λ ls. all_bytes_placed s.frame ls (scope_ranges s.functions scope) ≡ true) (sym (code-needs-nothing x.parts x.need_deref c is_code)) (nothing-covers s.frame (scope_ranges s.functions scope)))

  -- what built expressions become says where, under a name that may have a location list
  value-says : (name : ℕ) → is_location_name name ≡ true → (rs : List NativeRange) → ranges_built s (scope_ranges s.functions scope) x ≡ rs →
      Says (said_over s.functions scope (value_of_built name (record { expressions = map (built_on s x) rs; covers_entire_scope = all_bytes_placed s.frame (needed_labels x) (scope_ranges s.functions scope) })))
  value-says name named [] is = ranges-built-say [] is
  value-says name named (r ∷ rs) is = go (all_bytes_placed s.frame (needed_labels x) (scope_ranges s.functions scope) && are_equal_to (built_on s x r).bytes (map (built_on s x) rs)) refl
    where
      go : (one : Bool) → (all_bytes_placed s.frame (needed_labels x) (scope_ranges s.functions scope) && are_equal_to (built_on s x r).bytes (map (built_on s x) rs)) ≡ one →
          Says (said_over s.functions scope (if one then Some (expression (built_on s x r).bytes) else (if is_location_name name then Some (locations (map (built_on s x) (r ∷ rs))) else None)))
      go true h = whole-says s.functions s.frame scope (needed_labels x) kept (and_parts (all_bytes_placed s.frame (needed_labels x) (scope_ranges s.functions scope)) (are_equal_to (built_on s x r).bytes (map (built_on s x) rs)) h).0
      go false h = subst (λ b. Says (said_over s.functions scope (if b then Some (locations (map (built_on s x) (r ∷ rs))) else None))) (sym named) (ranges-built-say (r ∷ rs) is)

-- What an expression becomes that needs more than its own bytes says where, under a name that may have a location list.
pub expression-says : (s : Surroundings) (i : ℕ × ℕ) (is : List (ℕ × ℕ)) (x : CompiledParts) (name : ℕ) (built : BuiltExpressions) → KeepsScope s.functions (i ∷ is) (scope_intervals s.functions (i ∷ is)) → is_location_name name ≡ true → is_simple x ≡ false
    → built_over s (i ∷ is) x ≡ Ok built → SaysWhere s.functions s.frame (i ∷ is) (needed_labels x) (said_over s.functions (i ∷ is) (value_of_built name built))
expression-says s i is x name built kept named not_simple e = go (single_code x.parts) refl
  where
    go : (o : Option (List ℕ)) → single_code x.parts ≡ o → SaysWhere s.functions s.frame (i ∷ is) (needed_labels x) (said_over s.functions (i ∷ is) (value_of_built name built))
    go (Some c) is_code = absurd (true≢false (sym (code-is-simple x.parts x.need_deref c is_code) ∙ not_simple))
    go None no_code =
        let same = over-ranges s i is x built no_code e in
        subst (λ b. SaysWhere s.functions s.frame (i ∷ is) (needed_labels x) (said_over s.functions (i ∷ is) (value_of_built name b))) (sym same)
        (value-says s (i ∷ is) x kept name named (ranges_built s (scope_ranges s.functions (i ∷ is)) x) refl)

-- So do the locations for one interval of a list.
pub interval-says : (s : Surroundings) (i : ℕ × ℕ) (x : CompiledParts) (built : BuiltExpressions) → KeepsScope s.functions (i ∷ []) (scope_intervals s.functions (i ∷ [])) → built_over s (i ∷ []) x ≡ Ok built
    → SaysWhere s.functions s.frame (i ∷ []) (needed_labels x) (map (λ l. l.over) built.expressions)
interval-says s i x built kept e = go (single_code x.parts) refl
  where
    go : (o : Option (List ℕ)) → single_code x.parts ≡ o → SaysWhere s.functions s.frame (i ∷ []) (needed_labels x) (map (λ l. l.over) built.expressions)
    go (Some c) is_code =
        let over : map (λ l. l.over) built.expressions ≡ scope_intervals s.functions (i ∷ []) = ap (λ (b : BuiltExpressions). map (λ l. l.over) b.expressions) (over-code s i [] x c built is_code e) ∙ copied-over (scope_intervals s.functions (i ∷ [])) c in
        subst (λ is. SaysWhere s.functions s.frame (i ∷ []) (needed_labels x) is) (sym over) (code-says s (i ∷ []) x kept c is_code)
    go None no_code =
        let over : map (λ l. l.over) built.expressions ≡ map (λ l. l.over) (map (built_on s x) (ranges_built s (scope_ranges s.functions (i ∷ [])) x)) = ap (λ (b : BuiltExpressions). map (λ l. l.over) b.expressions) (over-ranges s i [] x built no_code e) in
        subst (λ is. SaysWhere s.functions s.frame (i ∷ []) (needed_labels x) is) (sym over) (ranges-built-say s (i ∷ []) x kept (ranges_built s (scope_ranges s.functions (i ∷ [])) x) refl)

-- ---- one label

-- the locations, or some others where they are refused
abbrev locations_or : Result (List Location) BuildRefusal → List Location → List Location
locations_or (Ok ls) others = ls
locations_or (Err refusal) others = others

-- over no scope no locations say where
nothing-says : (fs : List Function) (frame : Option Frame) (labels : List ℕ) → SaysWhere fs frame [] labels []
nothing-says fs frame labels = record {
  inside = All-nil (IsInOneOf fs);
  no_more = λ f byte source among named distinct covered told. absurd (true≢false (sym covered));
  have_places = λ function byte covered. absurd (true≢false (sym covered));
  no_less = λ interval f byte source among found distinct inside told from to placed. absurd (omega (arith, among.1));
  exact = λ f byte for_debugger among named within. refl;
}

-- The list of a label says where it lies, over any scope.
pub label-says : (s : Surroundings) (scope : List (ℕ × ℕ)) (label : ℕ) (ls : List Location) → KeepsScope s.functions scope (scope_intervals s.functions scope) → label_over s scope label ≡ Ok ls
    → SaysWhere s.functions s.frame scope (label ∷ []) (map (λ l. l.over) ls)
unfolding built_over
label-says s [] label ls kept e =
    let none : ls ≡ [] = ap (λ r. locations_or r ls) (sym e) in
    subst (λ xs. SaysWhere s.functions s.frame [] (label ∷ []) (map (λ l. l.over) xs)) (sym none) (nothing-says s.functions s.frame (label ∷ []))
label-says s (i ∷ is) label ls kept e = go (built_over s (i ∷ is) (label_alone label)) refl e
  where
    x : CompiledParts
    x = label_alone label

    go : (r : Result BuiltExpressions BuildRefusal) → built_over s (i ∷ is) (label_alone label) ≡ r → (r >>= λ built. Ok built.expressions) ≡ Ok ls → SaysWhere s.functions s.frame (i ∷ is) (label ∷ []) (map (λ l. l.over) ls)
    go (Err refusal) built h = let no : ◌≡◌ {A = Result (List Location) BuildRefusal} (Err refusal) (Ok ls) = h in absurd cc
    go (Ok b) built h =
        let are : ls ≡ map (built_on s x) (ranges_built s (scope_ranges s.functions (i ∷ is)) x) = ap (λ r. locations_or r ls) (sym h) ∙ ap (λ (y : BuiltExpressions). y.expressions) (over-ranges s i is x b refl built) in
        subst (λ xs. SaysWhere s.functions s.frame (i ∷ is) (label ∷ []) (map (λ l. l.over) xs)) (sym are) (ranges-built-say s (i ∷ is) x kept (ranges_built s (scope_ranges s.functions (i ∷ is)) x) refl)
