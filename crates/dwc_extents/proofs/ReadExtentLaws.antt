-- Extents as they are read: intervals of wasm offsets, and whether nothing is refused of them.
use Rattle.std.proofs.Common.{◌≡◌, ℕ, List, [], ◌++◌, refl, ap, sym, subst, ◌∙◌, append_assoc, append-nil, Bool, true, false, Option, Some, None, Result, Ok, Err}
use Rattle.std.specs.Prelude.{IfOk, option_and_then, option_to_list, filter_map}
use Rattle.std.specs.List.{cons_option}
use Rattle.dwc_base.specs.declared.records.Address.{Address}
use Rattle.dwc_base.specs.declared.constants.TheConstants.{DW_AT_high_pc, DW_AT_low_pc}
use Rattle.dwc_dwarf.specs.Entries.{Entry, attribute}
use Rattle.dwc_base.specs.Listing.{Listing, only_fault, with_first}
use Rattle.dwc_dwarf.specs.Lists.{ListRefusal, ranges_of_value}
use Rattle.dwc_rules.specs.RangeAttributes.{address_said, extent, interval_to, intervals, range_list_of}
use Rattle.dwc_native.specs.ScopesKept.{wasm_interval}
use Rattle.dwc_rules.specs.RangeRefusals.{bounds_refusal}
use Rattle.dwc_dwarf.specs.RawLists.{ListSource}
use Rattle.dwc_rules.specs.Scopes.{scope_of_extent}
use Rattle.dwc_dwarf.specs.Trees.{Interval}
use Rattle.dwc_dwarf.specs.Values.{Value}
use Rattle.dwc_extents.specs.BoundRefusals.{IsSound}
use Rattle.dwc_extents.specs.ReadExtents.{AreReadOf}
use Rattle.dwc_extents.specs.declared.wasm_intervals.ReadIntervals.{ReadIntervals}

-- ---- a list, interval by interval

-- What was found, with what is left of a list, is the whole.
pub record ReadSoFar (all left : Listing ListRefusal Interval) (found : List (ℕ × ℕ)) : Type 0 where
  pub whole : found ++ filter_map wasm_interval left.items ≡ filter_map wasm_interval all.items
  pub fault : left.fault ≡ all.fault

pub read-begin : (all : Listing ListRefusal Interval) (found : List (ℕ × ℕ)) → found ≡ [] → ReadSoFar all all found
read-begin all found none = record { whole = ap (λ is. is ++ filter_map wasm_interval all.items) none; fault = refl }

module _ (all left : Listing ListRefusal Interval) (found : List (ℕ × ℕ)) (so_far : ReadSoFar all left found) where
  pub read-more : (i : Interval) (rest : Listing ListRefusal Interval) (now : List (ℕ × ℕ)) → left ≡ with_first i rest → now ≡ found ++ option_to_list (wasm_interval i) → ReadSoFar all rest now
  read-more i rest now is added = record {
    whole =
        ap (λ is. is ++ filter_map wasm_interval rest.items) added
        ∙ append_assoc found (option_to_list (wasm_interval i)) (filter_map wasm_interval rest.items)
        ∙ ap (λ is. found ++ is) (one (wasm_interval i))
        ∙ ap (λ (l : Listing ListRefusal Interval). found ++ filter_map wasm_interval l.items) (sym is) ∙ so_far.whole;
    fault = ap (λ (l : Listing ListRefusal Interval). l.fault) (sym is) ∙ so_far.fault;
  }
    where
      one : (o : Option (ℕ × ℕ)) → option_to_list o ++ filter_map wasm_interval rest.items ≡ cons_option o (filter_map wasm_interval rest.items)
      one None = refl
      one (Some w) = refl

  pub read-whole : (r : ReadIntervals) → r.intervals.items ≡ found → left.items ≡ [] → (r.is_sound ≡ true → left.fault ≡ None) → AreReadOf all r
  read-whole r are none sound = record {
    intervals = are ∙ sym (append-nil found) ∙ ap (λ is. found ++ filter_map wasm_interval is) (sym none) ∙ so_far.whole;
    sound = λ yes. sym so_far.fault ∙ sound yes;
  }

  pub read-cut : (r : ReadIntervals) → r.intervals.items ≡ found → left.items ≡ [] → r.is_sound ≡ false → AreReadOf all r
  read-cut r are none unsound = read-whole r are none (λ yes. absurd (cc))

-- A list of which nothing can be read.
pub read-none : (listed : Listing ListRefusal Interval) (refusal : ListRefusal) (r : ReadIntervals) → listed ≡ only_fault refusal → r.intervals.items ≡ [] → r.is_sound ≡ false → AreReadOf listed r
read-none listed refusal r is none unsound = record {
  intervals = none ∙ ap (λ (l : Listing ListRefusal Interval). filter_map wasm_interval l.items) (sym is);
  sound = λ yes. absurd (cc);
}

-- ---- extents of which nothing is refused

module _ (s : ListSource) (e : Entry) where
  module _ {E : Type 0} (r : Result ReadIntervals E) where
    -- what is read of the range list of an entry
    pub listed-scope : (v : Value) → intervals (ranges_of_value s e.offset v).items ≡ extent s e → IfOk r (AreReadOf (ranges_of_value s e.offset v)) → IfOk r (λ q. q.intervals.items ≡ scope_of_extent (extent s e))
    listed-scope v said read = go r read
      where
        go : (r : Result ReadIntervals E) → IfOk r (AreReadOf (ranges_of_value s e.offset v)) → IfOk r (λ q. q.intervals.items ≡ scope_of_extent (extent s e))
        go (Ok q) read = read.intervals ∙ ap scope_of_extent said
        go (Err error) read = tt

    pub listed-known : (v : Value) → ((ranges_of_value s e.offset v).fault ≡ None → IsSound s e) → IfOk r (AreReadOf (ranges_of_value s e.offset v)) → IfOk r (λ q. q.is_sound ≡ true → IsSound s e)
    listed-known v sound read = go r read
      where
        go : (r : Result ReadIntervals E) → IfOk r (AreReadOf (ranges_of_value s e.offset v)) → IfOk r (λ q. q.is_sound ≡ true → IsSound s e)
        go (Ok q) read = λ yes. sound (read.sound yes)
        go (Err error) read = tt

    -- and of its bounds
    pub bounded-known : (b : Bool) → (b ≡ true → IsSound s e) → IfOk r (λ q. q.is_sound ≡ b) → IfOk r (λ q. q.is_sound ≡ true → IsSound s e)
    bounded-known b sound read = go r read
      where
        go : (r : Result ReadIntervals E) → IfOk r (λ q. q.is_sound ≡ b) → IfOk r (λ q. q.is_sound ≡ true → IsSound s e)
        go (Ok q) read = λ yes. sound (sym read ∙ yes)
        go (Err error) read = tt

  -- A range list that is read to its end leaves nothing to refuse.
  pub listed-sound : (v : Value) → Some v ≡ range_list_of e → (ranges_of_value s e.offset v).fault ≡ None → IsSound s e
  listed-sound v is whole =
      let named : range_list_of e ≡ Some v = sym is in
      record {
        listed = λ w other. let same : v ≡ w = cc in subst (λ x. (ranges_of_value s e.offset x).fault ≡ None) same whole;
        bounded = rw (named, bounds_refusal) refl;
      }

  -- Nor do bounds that make an interval.
  pub bounded-sound : (low : Address) (i : Option Interval) → None ≡ range_list_of e → Some low ≡ address_said s DW_AT_low_pc e → Some (Ok i) ≡ option_and_then (interval_to s low) (attribute DW_AT_high_pc e) → IsSound s e
  bounded-sound low i none said high =
      let unlisted : range_list_of e ≡ None = sym none in
      record {
        listed = λ v named. absurd (cc);
        bounded = rw (unlisted, ← said, ← high, bounds_refusal) refl;
      }
