-- A base in front of the list of a root: there is one or none, and it changes nothing of what is covered.
use Rattle.std.proofs.Common.{◌≡◌, ℕ, List, [], ◌∷◌, true, false, refl, inl, inr}
use Rattle.std.specs.Prelude.{Bool, ◌⊎◌, ◌==◌, if◌then◌else◌}
use Rattle.dwc_base.specs.declared.constants.TheConstants.{DW_AT_low_pc, DW_AT_ranges, DW_TAG_compile_unit}
use Rattle.dwc_base.specs.declared.records.Address.TheVariants.{Constant}
use Rattle.dwc_base.specs.declared.records.OutputFor.{OutputFor}
use Rattle.dwc_base.specs.declared.records.OutputFor.TheVariants.{Default, Debugger}
use Rattle.dwc_native.specs.Functions.{Function}
use Rattle.dwc_dwarf.specs.Trees.{Interval, TreeValue, TreeEntry, address, constant, flag, block, text, line_table, expression, ranges, locations, entry, nothing}
use Rattle.dwc_rules.specs.RangeAttributes.{bounds, intervals, length_of, said_extent, said_intervals, with_base}
use Rattle.dwc_native.specs.ScopesKept.{native_of_intervals}
use Rattle.dwc_rules.specs.ScopesCarried.{covered_intervals}
use Rattle.dwc_rules.proofs.ScopeAttributes.{entry_with}

abbrev pub BaseOrNone : List (ℕ × TreeValue) → List (ℕ × TreeValue) → Type 0
BaseOrNone bs as' = (bs ≡ as') ⊎ (bs ≡ (DW_AT_low_pc, address (Constant 0)) ∷ as')

pub base-or-none : (output : OutputFor) (is_root : Bool) (as' : List (ℕ × TreeValue)) → BaseOrNone (with_base output is_root as') as'
base-or-none output is_root [] = inl refl
base-or-none output is_root ((name, address a) ∷ others) = inl refl
base-or-none output is_root ((name, constant form bits) ∷ others) = inl refl
base-or-none output is_root ((name, flag b) ∷ others) = inl refl
base-or-none output is_root ((name, block bytes) ∷ others) = inl refl
base-or-none output is_root ((name, text bytes) ∷ others) = inl refl
base-or-none output is_root ((name, line_table) ∷ others) = inl refl
base-or-none output is_root ((name, expression bytes) ∷ others) = inl refl
base-or-none output is_root ((name, locations ls) ∷ others) = inl refl
base-or-none output is_root ((name, entry number place) ∷ others) = inl refl
base-or-none output is_root ((name, nothing) ∷ others) = inl refl
base-or-none Default is_root ((name, ranges is) ∷ others) = inl refl
base-or-none Debugger true ((name, ranges is) ∷ others) = inr refl
base-or-none Debugger false ((name, ranges is) ∷ others) = inl refl

-- what is covered stays the same
pub covered-based : (out : TreeEntry) (output : OutputFor) (fs : List Function) (tag : ℕ) (over : List Interval)
    → covered_intervals (entry_with out (with_base output (tag == DW_TAG_compile_unit) (said_extent fs tag (intervals over)))) ≡ covered_intervals (entry_with out (said_extent fs tag (intervals over)))
covered-based out output fs tag [] = refl
covered-based out output fs tag (i ∷ is) = go (native_of_intervals fs (i ∷ is))
  where
    list : (o : OutputFor) (b : Bool) (js : List Interval) → covered_intervals (entry_with out (with_base o b ((DW_AT_ranges, ranges js) ∷ []))) ≡ covered_intervals (entry_with out ((DW_AT_ranges, ranges js) ∷ []))
    list Default b js = refl
    list Debugger true js = refl
    list Debugger false js = refl

    one : (o : OutputFor) (b : Bool) (j : Interval)
        → covered_intervals (entry_with out (with_base o b (if b then (DW_AT_ranges, ranges (j ∷ [])) ∷ [] else bounds j.begin (length_of j)))) ≡ covered_intervals (entry_with out (if b then (DW_AT_ranges, ranges (j ∷ [])) ∷ [] else bounds j.begin (length_of j)))
    one o true j = list o true (j ∷ [])
    one o false j = refl

    go : (js : List Interval) → covered_intervals (entry_with out (with_base output (tag == DW_TAG_compile_unit) (said_intervals tag js))) ≡ covered_intervals (entry_with out (said_intervals tag js))
    go [] = list output (tag == DW_TAG_compile_unit) []
    go (j ∷ []) = one output (tag == DW_TAG_compile_unit) j
    go (j ∷ k ∷ js) = list output (tag == DW_TAG_compile_unit) (j ∷ k ∷ js)
