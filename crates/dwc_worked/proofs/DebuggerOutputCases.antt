-- What differs in an output for a debugger: scopes, the base of lists, what goes, what is wrapped; and that some wrong ones are refused.
use Rattle.std.proofs.Common.{◌≡◌, ℕ, List, [], ◌∷◌, Some, None, true, false, refl, arith}
use Rattle.std.specs.Prelude.{Bool, Option, Result, Ok, Err, map, Contains}
use Rattle.dwc_base.specs.declared.constants.TheConstants.{DW_AT_containing_type, DW_AT_low_pc, DW_AT_name, DW_AT_ranges, DW_AT_vtable_elem_location, DW_TAG_structure_type, DW_TAG_ptr_to_member_type, DW_TAG_subprogram}
use Rattle.dwc_base.specs.declared.records.Address.TheVariants.{Constant}
use Rattle.dwc_base.specs.declared.records.OutputFor.{OutputFor}
use Rattle.dwc_base.specs.declared.records.OutputFor.TheVariants.{Default, Debugger}
use Rattle.dwc_native.specs.Functions.{Function}
use Rattle.dwc_dwarf.specs.Trees.{TreeValue, address, ranges}
use Rattle.dwc_rules.specs.Drafts.{DraftValue}
use Rattle.dwc_rules.specs.Clones.{kept_unless}
use Rattle.dwc_rules.specs.RangeAttributes.{with_base}
use Rattle.dwc_rules.specs.EntryRules.{is_gone}
use Rattle.dwc_rules.specs.Wrappers.{is_wrapped}
use Rattle.dwc_rules.specs.Scopes.{source_range}
use Rattle.dwc_native.specs.Runs.{native_ranges}
use Rattle.dwc_native.specs.ScopesKept.{KeepsScope}
use Rattle.dwc_worked.proofs.RunCases.{a_function, one_run}
use Rattle.dwc_worked.proofs.RangeCases.{in_small}
use Rattle.dwc_worked.proofs.SmallLists.{at_unit}
use Rattle.dwc_worked.proofs.ShownCases.{shown_on_literals}

-- ---- scopes

abbrev for_debugger : Function → Function
for_debugger f = record f { output = Debugger }

-- one function, whose sources are 12 up to its byte 15 and then 17
abbrev shown : Function
shown = for_debugger one_run

-- The same interval in both outputs: closed to the end of the source at its end, and exact.
both-ranges : native_ranges one_run 12 17 ∷ native_ranges shown 12 17 ∷ [] ≡ ((5, 23) ∷ []) ∷ ((0, 15) ∷ []) ∷ []
unfolding shown_on_literals
both-ranges = refl

-- the source range of a function is all of it, also with a source at its end
abbrev at_end : Function
at_end = a_function 0 (Some 0) 10 20 8 ((0, Some 10) ∷ (6, Some 20) ∷ [])

whole-source : map (λ (w : ℕ × ℕ). native_ranges (for_debugger at_end) w.0 w.1) (source_range (for_debugger at_end)) ≡ ((0, 8) ∷ []) ∷ []
unfolding shown_on_literals
whole-source = refl

shown-among : Contains (shown ∷ []) shown
shown-among = (0, omega arith, refl)

-- an end that is taken in
end-refused : KeepsScope (shown ∷ []) ((12, 17) ∷ []) (in_small 0 23 ∷ []) → ⊥
unfolding shown_on_literals
end-refused k = let said : true ≡ false = k.exact shown 15 refl shown-among refl (omega arith) in absurd (cc)

-- a gap without a source that is left out
gap-refused : KeepsScope (shown ∷ []) ((12, 17) ∷ []) (in_small 0 8 ∷ []) → ⊥
unfolding shown_on_literals
gap-refused k = let said : false ≡ true = k.exact shown 8 refl shown-among refl (omega arith) in absurd (cc)

-- the bytes before the first source left out
front-refused : KeepsScope (shown ∷ []) ((12, 17) ∷ []) (in_small 5 15 ∷ []) → ⊥
unfolding shown_on_literals
front-refused k = let said : false ≡ true = k.exact shown 0 refl shown-among refl (omega arith) in absurd (cc)

-- ---- a base

abbrev said : List (ℕ × TreeValue)
said = (DW_AT_ranges, ranges (in_small 0 23 ∷ [])) ∷ []

bases : with_base Default true said ∷ with_base Debugger false said ∷ with_base Debugger true said ∷ with_base Debugger true [] ∷ [] ≡ said ∷ said ∷ ((DW_AT_low_pc, address (Constant 0)) ∷ said) ∷ [] ∷ []
bases = refl

-- ---- what goes

abbrev goes : OutputFor → ℕ → List Bool
goes output tag = map (is_gone output (at_unit 0 20 1 tag []).entry) (DW_AT_containing_type ∷ DW_AT_vtable_elem_location ∷ DW_AT_name ∷ [])

gone : goes Default DW_TAG_structure_type ∷ goes Debugger DW_TAG_structure_type ∷ goes Debugger DW_TAG_subprogram ∷ goes Debugger DW_TAG_ptr_to_member_type ∷ []
    ≡ (false ∷ false ∷ false ∷ []) ∷ (true ∷ true ∷ false ∷ []) ∷ (true ∷ true ∷ false ∷ []) ∷ (false ∷ true ∷ false ∷ []) ∷ []
gone = refl

-- it is refused as ever
read-first : (refusal : ℕ) → kept_unless true (Err refusal) ≡ Err refusal
read-first refusal = refl

read-gone : (v : Option DraftValue) → ◌≡◌ {A = Result (Option DraftValue) ℕ} (kept_unless true (Ok v)) (Ok None)
read-gone v = refl

-- ---- what is wrapped

abbrev wrapped : OutputFor → List Bool
wrapped output = map (λ tag. is_wrapped output (at_unit 0 20 1 tag [])) (0x0F ∷ 0x10 ∷ 0x42 ∷ 0x1F ∷ 0x26 ∷ [])

wrapped-both : wrapped Default ∷ wrapped Debugger ∷ [] ≡ (true ∷ true ∷ false ∷ false ∷ false ∷ []) ∷ (true ∷ true ∷ true ∷ false ∷ false ∷ []) ∷ []
wrapped-both = refl
