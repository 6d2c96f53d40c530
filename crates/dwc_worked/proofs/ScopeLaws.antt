-- That an output which keeps the scopes of an input is none of some wrong ones.
use Rattle.std.proofs.Common.{◌≡◌, ◌≢◌, ℕ, List, [], ◌∷◌, get_or, map, Some, None, true, false, ◌<◌, zero, suc, refl, ap, arith}
use Rattle.std.specs.Prelude.{Contains}
use Rattle.std.specs.List.{slice_index_or}
use Rattle.std.proofs.lemmas.List.Elements.{All-cons, All-nil}
use Rattle.std.proofs.lemmas.List.Kept.{AllPairs-cons}
use Rattle.dwc_base.specs.declared.records.OutputFor.TheVariants.{Default}
use Rattle.dwc_base.specs.declared.constants.TheConstants.{DW_TAG_lexical_block, DW_TAG_pointer_type, DW_TAG_subprogram}
use Rattle.dwc_dwarf.specs.Values.{Value}
use Rattle.dwc_dwarf.specs.Entries.{Entry}
use Rattle.dwc_native.specs.Functions.{Function, Recorded}
use Rattle.dwc_rules.specs.ScopesCarried.{CarriesScope, scope_to_keep}
use Rattle.dwc_native.specs.ScopesKept.{HasDistinctSources, IsInSome, KeepsScope, cover_byte, source_of_byte}
use Rattle.dwc_worked.proofs.OnLists.{ranges_on_literals}
use Rattle.dwc_worked.proofs.RunCases.{a_function}
use Rattle.dwc_worked.proofs.RangeCases.{an_entry, in_small, listed, long, low, said_high, said_low, small_functions, small_source}
use Rattle.dwc_worked.proofs.ScopeCases.{said_entry}

-- a function whose native bytes 5 to 8 have the source 12
abbrev pub one_source : Function
one_source = a_function 0 (Some 0) 10 20 30 ((5, Some 12) ∷ (8, None) ∷ [])

one_source-distinct : HasDistinctSources one_source
one_source-distinct = λ i j d before inside same. omega (arith, before, inside)

one_source-among : Contains (one_source ∷ []) one_source
one_source-among = (0, omega arith, refl)

-- a source below a single closed interval is not in it
below-one : (a b source : ℕ) → source < a → IsInSome ((a, b) ∷ []) source → ⊥
below-one a b source below i = go i.among.0 i.among.1 i.among.2
  where
    go : (k : ℕ) → k < 1 → slice_index_or ((a, b) ∷ []) k i.interval ≡ i.interval → ⊥
    go zero inside same = omega (arith, below, i.from, ap (λ r. r.0) same)
    go (suc k) inside same = omega (arith, inside)

-- nor is one above it
above-one : (a b source : ℕ) → b < source → IsInSome ((a, b) ∷ []) source → ⊥
above-one a b source above i = go i.among.0 i.among.1 i.among.2
  where
    go : (k : ℕ) → k < 1 → slice_index_or ((a, b) ∷ []) k i.interval ≡ i.interval → ⊥
    go zero inside same = omega (arith, above, i.to, ap (λ r. r.1) same)
    go (suc k) inside same = omega (arith, inside)

-- the whole function is no scope that leaves a source out
whole-refused : KeepsScope (one_source ∷ []) ((13, 20) ∷ []) (in_small 0 30 ∷ []) → ⊥
whole-refused k = below-one 13 20 12 (omega arith) (k.no_more one_source 5 12 one_source-among refl one_source-distinct refl refl)

-- and nothing is none of one that has it
nothing-refused : KeepsScope (one_source ∷ []) ((12, 20) ∷ []) [] → ⊥
nothing-refused k = let missing : false ≡ true = k.no_less (12, 20) one_source 5 12 (0, omega arith, refl) refl one_source-distinct (omega arith) refl (omega arith) (omega arith) in cc

-- A function without a symbol, whose number says nothing: its bytes 5 to 8 have a source that is in no scope of the function with
-- that number, and would be covered by what covers that one's. So nothing is said of it.
abbrev pub unnamed : Function
unnamed = a_function 0 None 20 30 30 ((5, Some 22) ∷ (8, None) ∷ [])

unnamed-covered : cover_byte (in_small 5 8 ∷ []) unnamed.number 5 ≡ true
unnamed-covered = refl

unnamed-source : source_of_byte unnamed 5 ≡ Some 22
unnamed-source = refl

-- ---- the scopes of entries

abbrev block : List (ℕ × Value) → Entry
block attributes = an_entry DW_TAG_lexical_block attributes

-- By its bounds, by its list, and by an empty list; not at a position alone or with nothing, and not of a pointer. A subprogram that
-- begins in a function has none; one that begins in none has that of its list.
scopes-to_keep :
    map (λ e. scope_to_keep Default small_source small_functions (record { unit = 0; entry = e }))
    (block (low 5 ∷ long 5 ∷ []) ∷ block (listed 0 ∷ []) ∷ block (listed 24 ∷ []) ∷ block (low 6 ∷ []) ∷ block [] ∷ an_entry DW_TAG_pointer_type (low 5 ∷ long 5 ∷ []) ∷ an_entry DW_TAG_subprogram (low 5 ∷ long 5 ∷ [])
    ∷ an_entry DW_TAG_subprogram (low 0 ∷ listed 0 ∷ []) ∷ [])
    ≡ Some ((5, 10) ∷ []) ∷ Some ((5, 6) ∷ (10, 11) ∷ []) ∷ Some [] ∷ None ∷ None ∷ None ∷ None ∷ Some ((5, 6) ∷ (10, 11) ∷ []) ∷ []
unfolding ranges_on_literals
scopes-to_keep = refl

abbrev small_function : Function
small_function = get_or small_functions 0 unnamed

small-distinct : HasDistinctSources small_function
small-distinct =
    let first : Recorded = record { native = 5; wasm = 5 } in
    let second : Recorded = record { native = 15; wasm = 10 } in
    let Apart : Recorded → Recorded → Type 0 = λ e g. e.native ≢ g.native in
    AllPairs-cons Apart first (second ∷ []) (All-cons (Apart first) second [] (λ e. apart e) (All-nil (Apart first))) (λ i j d before inside same. omega (arith, before, inside))
  where
    apart : ◌≡◌ {A = ℕ} 5 15 → ⊥
    apart e = omega (arith, e)

small-among : Contains small_functions small_function
small-among = (0, omega arith, refl)

-- An entry that has the first of two sources does not carry its scope by the whole function, in which the second one is, nor by nothing.
block-whole-refused : CarriesScope Default small_source small_functions (record { unit = 0; entry = block (low 5 ∷ long 1 ∷ []) }) (said_entry (said_low 0 ∷ said_high 30 ∷ [])) → ⊥
unfolding ranges_on_literals
block-whole-refused carries = above-one 5 6 10 (omega arith) ((carries ((5, 6) ∷ []) refl).no_more small_function 15 10 small-among refl small-distinct refl refl)

block-nothing-refused : CarriesScope Default small_source small_functions (record { unit = 0; entry = block (low 5 ∷ long 1 ∷ []) }) (said_entry []) → ⊥
unfolding ranges_on_literals
block-nothing-refused carries = let missing : false ≡ true = (carries ((5, 6) ∷ []) refl).no_less (5, 6) small_function 5 5 (0, omega arith, refl) refl small-distinct (omega arith) refl (omega arith) (omega arith) in cc
