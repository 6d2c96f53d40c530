-- Labels that are needed, each once, and what processing them answers.
use Rattle.std.specs.Prelude.{◌≡◌, ℕ, List, ◌++◌, map, Bool, None, Result, Ok, Err}
use Rattle.std.specs.BTreeSet.{BTreeSet, contains}
use Rattle.std.specs.List.{find, filter_map}
use Rattle.std.specs.Ordering.{nat_cmp}
use Rattle.dwc_dwarf.specs.Values.{is_one_of}
use Rattle.dwc_native.specs.BuiltExpressions.{label_refusal}
use Rattle.dwc_base.specs.Listing.{first_of}
use Rattle.dwc_isa.specs.declared.value_label.ValueLabel.{ValueLabel}
use Rattle.dwc_expr.specs.declared.error.ExprError.{ExprError}
use Rattle.dwc_expr.specs.declared.ranges.label_ranges.BuiltValueLabelRanges.{BuiltValueLabelRanges}
use Rattle.dwc_expr.specs.LabelRanges.{Gathered, gathered_frame, GivesRanges}
use Rattle.dwc_expr.specs.Refusals.{TellsFirst}

-- labels as numbers
abbrev pub numbers : List ValueLabel → List ℕ
numbers labels = map (λ l. l.0) labels

-- The first label that passes a test is the same in two lists, whatever the test: so they have the same labels, in the same order of
-- first places.
abbrev pub HaveSameFirsts : List ℕ → List ℕ → Type 0
HaveSameFirsts ms ns = (test : ℕ → Bool) → find test ms ≡ find test ns

-- A set has the labels of a list, and no other.
abbrev pub IsSetOf : List ValueLabel → BTreeSet ℕ → Type 0
IsSetOf labels set = (label : ℕ) → contains nat_cmp set label ≡ is_one_of (numbers labels) label

-- with more labels
abbrev pub with_labels : List ℕ → Gathered → Gathered
with_labels labels g = record g { labels = g.labels ++ labels }

-- Labels are processed, none of them is refused, and the ranges on which they all have places are answered; or the first refusal is
-- told.
abbrev pub GivesLabelRanges : Gathered → List ℕ → Result BuiltValueLabelRanges ExprError → Type 0
GivesLabelRanges g labels (Ok built) = (first_of (filter_map (label_refusal (gathered_frame g)) labels) ≡ None) × GivesRanges (with_labels labels g) built.ranges.items built.covers_entire_scope
GivesLabelRanges g labels (Err e) = TellsFirst (filter_map (label_refusal (gathered_frame g)) labels) e
