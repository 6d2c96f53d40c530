-- The recorded sources of a function whose map is good rise and lie in it.
use Rattle.std.proofs.Common.{◌≡◌, ℕ, ◌+◌, ◌≤◌, refl, List, [], ◌∷◌, map, Option, Some, None}
use Rattle.std.specs.List.{filter_map, cons_option}
use Rattle.std.specs.Prelude.{nat_lt, ◌==◌, if◌then◌else◌, option_map, Bool, true, false, All}
use Rattle.std.proofs.lemmas.Bool.{ltb-false}
use Rattle.std.proofs.lemmas.List.Elements.{All-nil, All-cons, All-head, All-tail}
use Rattle.dwc_base.specs.declared.records.MapFault.{MapFault}
use Rattle.dwc_base.specs.declared.records.OutputFor.{OutputFor}
use Rattle.dwc_base.specs.declared.records.MapFault.TheVariants.{BodyOffset, BeforeCodeSection, Reversed, CodeFalls, CodePastBody, SourceOutside}
use Rattle.dwc_native.specs.Functions.{AddressMap, Function, Recorded, recorded_entry, wasm_entry, map_fault, bounds_fault, entry_fault, is_source_within, function_of, functions_of}
use Rattle.dwc_addr.proofs.EntryLaws.{all-good}
use Rattle.dwc_image.specs.ImageRows.{RisesFrom, IsOrdered}
use Rattle.dwc_image.specs.CarriedLines.{AreKept}
use Rattle.dwc_addr.proofs.RisingLaws.{RisesFrom-weaker}

-- entries without a fault, and with their sources seen in another way
record EntriesOrdered (len code : ℕ) (es : List (ℕ × Option ℕ)) : Type 0 where
  rises : RisesFrom (λ e. e.0) code es
  within : All (λ e. e.0 ≤ len) es

entry_fault-ordered : (start end len code : ℕ) (es : List (ℕ × Option ℕ)) → entry_fault start end len code es ≡ None → EntriesOrdered len code es
entry_fault-ordered start end len code [] = λ h. record { rises = tt; within = All-nil (λ (e : ℕ × Option ℕ). e.0 ≤ len) }
entry_fault-ordered start end len code (e ∷ es) = go (nat_lt e.0 code) (nat_lt len e.0) (is_source_within start end e.1) refl refl (entry_fault-ordered start end len e.0 es)
  where
    go : (a b c : Bool) → nat_lt e.0 code ≡ a → nat_lt len e.0 ≡ b → (entry_fault start end len e.0 es ≡ None → EntriesOrdered len e.0 es)
        → ◌≡◌ {A = Option MapFault} (if a then Some CodeFalls else (if b then Some CodePastBody else (if c then entry_fault start end len e.0 es else Some SourceOutside))) None
        → EntriesOrdered len code (e ∷ es)
    go true b c ea eb more h = absurd (cc)
    go false true c ea eb more h = absurd (cc)
    go false false false ea eb more h = absurd (cc)
    go false false true ea eb more h =
        let rest : EntriesOrdered len e.0 es = more h in
        record { rises = (ltb-false e.0 code ea, rest.rises); within = All-cons (λ (d : ℕ × Option ℕ). d.0 ≤ len) e es (ltb-false len e.0 eb) rest.within }

sources-rise : (code : ℕ) (es : List (ℕ × Option ℕ)) → RisesFrom (λ e. e.0) code es → RisesFrom (λ e. e.native) code (filter_map recorded_entry es)
sources-rise code [] h = tt
sources-rise code (e ∷ es) h = go e.1 (sources-rise e.0 es h.1)
  where
    go : (o : Option ℕ) → RisesFrom (λ e. e.native) e.0 (filter_map recorded_entry es) → RisesFrom (λ e. e.native) code (cons_option (option_map (λ wasm. record { native = e.0; wasm = wasm }) o) (filter_map recorded_entry es))
    go None more = RisesFrom-weaker _ _ _ _ h.0 more
    go (Some source) more = (h.0, more)

sources-within : (len : ℕ) (es : List (ℕ × Option ℕ)) → All (λ e. e.0 ≤ len) es → All (λ e. e.native ≤ len) (filter_map recorded_entry es)
sources-within len [] h = All-nil (λ (e : Recorded). e.native ≤ len)
sources-within len (e ∷ es) h = go e.1 (sources-within len es (All-tail (λ (d : ℕ × Option ℕ). d.0 ≤ len) e es h))
  where
    go : (o : Option ℕ) → All (λ e. e.native ≤ len) (filter_map recorded_entry es) → All (λ e. e.native ≤ len) (cons_option (option_map (λ wasm. record { native = e.0; wasm = wasm }) o) (filter_map recorded_entry es))
    go None more = more
    go (Some source) more = All-cons (λ (d : Recorded). d.native ≤ len) _ _ (All-head (λ (d : ℕ × Option ℕ). d.0 ≤ len) e es h) more

entries-ordered : (code_offset len code : ℕ) (es : List (ℕ × Option ℕ)) → EntriesOrdered len code es → EntriesOrdered len code (map (wasm_entry code_offset) es)
entries-ordered code_offset len code [] h = record { rises = tt; within = All-nil (λ (e : ℕ × Option ℕ). e.0 ≤ len) }
entries-ordered code_offset len code (e ∷ es) h =
    let rest : EntriesOrdered len e.0 (map (wasm_entry code_offset) es) = entries-ordered code_offset len e.0 es (record { rises = h.rises.1; within = All-tail (λ (d : ℕ × Option ℕ). d.0 ≤ len) e es h.within }) in
    record { rises = (h.rises.0, rest.rises); within = All-cons (λ (d : ℕ × Option ℕ). d.0 ≤ len) _ _ (All-head (λ (d : ℕ × Option ℕ). d.0 ≤ len) e es h.within) rest.within }

map_fault-ordered : (code_offset : ℕ) (m : AddressMap) → map_fault code_offset m ≡ None → EntriesOrdered m.body_len 0 m.entries
map_fault-ordered code_offset m h = go (m.body_offset == 0) m.start m.end h
  where
    inner : (start end : ℕ) (a b : Bool) → ◌≡◌ {A = Option MapFault} (if a then Some BeforeCodeSection else (if b then Some Reversed else entry_fault start end m.body_len 0 m.entries)) None → EntriesOrdered m.body_len 0 m.entries
    inner start end true b h = absurd (cc)
    inner start end false true h = absurd (cc)
    inner start end false false h = entry_fault-ordered start end m.body_len 0 m.entries h

    go : (a : Bool) (start end : Option ℕ) → ◌≡◌ {A = Option MapFault} (if a then bounds_fault code_offset m start end else Some BodyOffset) None → EntriesOrdered m.body_len 0 m.entries
    go false start end h = absurd (cc)
    go true None end h = absurd (cc)
    go true (Some start) None h = absurd (cc)
    go true (Some start) (Some end) h = inner start end (nat_lt start code_offset) (nat_lt end start) h

-- the function of a map that is good
function_of-ordered : (output : OutputFor) (code_offset number : ℕ) (m : AddressMap) → map_fault code_offset m ≡ None → IsOrdered (function_of output code_offset number m)
function_of-ordered output code_offset number m h =
    let es : EntriesOrdered m.body_len 0 (function_of output code_offset number m).entries = entries-ordered code_offset m.body_len 0 m.entries (map_fault-ordered code_offset m h) in
    record { rises = sources-rise 0 _ es.rises; within = sources-within m.body_len _ es.within }

functions_of-ordered : (output : OutputFor) (code_offset number : ℕ) (ms : List AddressMap) → All (λ m. map_fault code_offset m ≡ None) ms → All IsOrdered (functions_of output code_offset number ms)
functions_of-ordered output code_offset number [] h = All-nil IsOrdered
functions_of-ordered output code_offset number (m ∷ ms) h = All-cons IsOrdered _ _ (function_of-ordered output code_offset number m (All-head (λ (a : AddressMap). map_fault code_offset a ≡ None) m ms h)) (functions_of-ordered output code_offset (number + 1) ms (All-tail (λ (a : AddressMap). map_fault code_offset a ≡ None) m ms h))

-- The functions of a transform whose maps are good are ordered.
pub kept-ordered : (fs : List Function) → AreKept fs → All IsOrdered fs
kept-ordered fs h =
    let maps : List AddressMap = h.maps in
    rw h.kept (functions_of-ordered h.output h.code_offset h.first_number maps (all-good h.code_offset 0 maps h.good))
