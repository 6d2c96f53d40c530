-- A simulated function, label by label, and a module, function by function.
use Rattle.std.proofs.Common.{◌≡◌, ℕ, refl, sym, ap, subst, ◌∙◌, List, [], ◌∷◌, map, true, false, Option, Some, None, Result, Ok, Err}
use Rattle.std.specs.Prelude.{◌==◌, option_map}
use Rattle.std.proofs.lemmas.Bool.{eqb-true}
use Rattle.dwc_native.specs.BuiltExpressions.{label_over}
use Rattle.dwc_rules.specs.Carried.{Module}
use Rattle.dwc_carried.specs.DefinedFunctions.{DefinedFunction}
use Rattle.dwc_rules.specs.Drafts.{Draft}
use Rattle.dwc_native.specs.Parts.{context_label}
use Rattle.dwc_rules.specs.Refusals.{Refusal}
use Rattle.dwc_base.specs.Listing.{first_of}
use Rattle.dwc_carried.specs.SimulatedUnit.{label_locations, local_name, local_tag, type_place}
use Rattle.dwc_dwarf.specs.Trees.{TreeValue}
use Rattle.dwc_isa.specs.Registers.{Registers}
use Rattle.dwc_isa.specs.declared.value_label.ValueLabel.{ValueLabel}
use Rattle.dwc_expr.specs.Builds.{location_view, surroundings}
use Rattle.dwc_unit.specs.LocationLists.{LocationList}
use Rattle.dwc_unit.specs.declared.strings.StringId.{StringId}
use Rattle.dwc_unit.specs.AddedInOrder.{with_entry}
use Rattle.dwc_unit.specs.GivenUnits.{GivenUnit}
use Rattle.dwc_clone.specs.ContextPlaces.{HasContext}
use Rattle.dwc_source.specs.KnownTexts.{IsNumbered}
use Rattle.dwc_source.specs.MadeValues.{Grows}
use Rattle.dwc_carry.specs.declared.error.DebugError.{DebugError}
use Rattle.dwc_carry.specs.declared.simulated_functions.SimulatedModule.{SimulatedModule}
use Rattle.dwc_carry.specs.declared.simulated_variables.SimulatedFunction.{SimulatedFunction}
use Rattle.dwc_carry.specs.SimulatedVariables.{AddsContextOr, GivesVariable, GivesVariables, IsSimulatedFunction, LeftVariables, label_refusals, local_tag_of, refused_in}
use Rattle.dwc_carry.specs.SyntheticUnits.{reference_meant}
use Rattle.dwc_carry.specs.Refusals.{RefusesReading, in_reading}
use Rattle.dwc_carry.specs.SimulatedAdditions.{local_addition}
use Rattle.dwc_carry.proofs.VariableLaws.{context-refusals, simulated-located, simulated-refused, nothing-first, typed-refusals, untyped-refusals}
use Rattle.dwc_carry.proofs.SimulatedSteps.{variables-context, variables-local, variables-none}

-- ---- labels

module _ (registers : Registers) (m : Module) (d : DefinedFunction) (l : SimulatedModule) (f : SimulatedFunction) (simulated : IsSimulatedFunction registers m d l f) (number : ℕ) (before : List Draft) (left : List ℕ) (total : Option Refusal) where
  -- the type of a pointer to the context
  abbrev pointer : TreeValue
  pointer = reference_meant l.vmctx_ptr

  -- the context is added
  pub left-context : (old new : List (List ℕ)) (label : ℕ) (u v : GivenUnit) → Grows old new → (label == context_label) ≡ true → LeftVariables number pointer m d before (label ∷ left) f.entry.index total old u
      → HasContext (label_over (surroundings l.transform.now (Some f.frame) registers) (f.scope ∷ []) context_label) f.entry.index l.vmctx_ptr new u v
      → LeftVariables number pointer m d before left f.entry.index total new v
  left-context old new label u v grows is has context =
      let there : HasContext (label_locations m d.function context_label) f.entry.index l.vmctx_ptr new u v =
      subst (λ r. HasContext r f.entry.index l.vmctx_ptr new u v) (simulated-located registers m d l f simulated context_label) context in
      let none : label_refusals m d label ≡ [] =
      context-refusals m d label is
      ∙ ap (λ n. refused_in m.told.place (label_locations m d.function n)) (eqb-true label context_label is)
      ∙ ap (refused_in m.told.place) there.located in
      record {
        made = variables-context number pointer m d before old new label left f.entry.index l.vmctx_ptr u v grows refl has.made is there;
        first = nothing-first m d label left total none has.first;
      }

  -- a local of a type that has an entry is added
  pub left-typed : (old new : List (List ℕ)) (label type : ℕ) (u v : GivenUnit) (bytes : List ℕ) (tag : ℕ) (name : StringId) (list : LocationList) → Grows old new → (label == context_label) ≡ false → type_place m d label ≡ Some type
      → LeftVariables number pointer m d before (label ∷ left) f.entry.index total old u → bytes ≡ local_name m d label → IsNumbered new bytes name → tag ≡ local_tag_of f.locals.now label
      → label_over (surroundings l.transform.now (Some f.frame) registers) (f.scope ∷ []) label ≡ Ok (map location_view list.locations.items)
      → v ≡ with_entry (local_addition f.entry.index tag name type list) u
      → LeftVariables number pointer m d before left f.entry.index total new v
  left-typed old new label type u v bytes tag name list grows other typed has named known tagged located is =
      let there : label_locations m d.function label ≡ Ok (map location_view list.locations.items) = sym (simulated-located registers m d l f simulated label) ∙ located in
      let none : label_refusals m d label ≡ [] = typed-refusals m d label other type typed ∙ ap (refused_in m.told.place) there in
      let same : tag ≡ local_tag m d label = tagged ∙ ap (λ locals. local_tag_of locals label) simulated.locals in
      record {
        made = variables-local number pointer m d before old new label left f.entry.index type u v name list grows has.made other typed (subst (λ text. IsNumbered new text name) named known) there (is ∙ ap (λ t. with_entry (local_addition f.entry.index t name type list) u) same);
        first = nothing-first m d label left total none has.first;
      }

  -- nothing is added for another label
  pub left-none : (texts : List (List ℕ)) (label : ℕ) (u : GivenUnit) → (label == context_label) ≡ false → type_place m d label ≡ None → LeftVariables number pointer m d before (label ∷ left) f.entry.index total texts u
      → LeftVariables number pointer m d before left f.entry.index total texts u
  left-none texts label u other untyped has = record {
    made = variables-none number pointer m d before texts label left f.entry.index u has.made other untyped;
    first = nothing-first m d label left total (untyped-refusals m d label other untyped) has.first;
  }

  -- what is answered to the context
  pub context-gives : (old new : List (List ℕ)) (label : ℕ) (u v : GivenUnit) (r : Result (Unit {0}) DebugError) → Grows old new → (label == context_label) ≡ true → LeftVariables number pointer m d before (label ∷ left) f.entry.index total old u
      → AddsContextOr l.compiled.now.place (label_over (surroundings l.transform.now (Some f.frame) registers) (f.scope ∷ []) context_label) f.entry.index l.vmctx_ptr new u v r
      → GivesVariable number pointer m d before left f.entry.index total new v r
  context-gives old new label u v (Ok done) grows is has h = left-context old new label u v grows is has h
  context-gives old new label u v (Err e) grows is has h =
      simulated-refused registers m d l f simulated label left total e (context-refusals m d label is) has.first
      (subst (λ n. RefusesReading (first_of (refused_in l.compiled.now.place (label_over (surroundings l.transform.now (Some f.frame) registers) (f.scope ∷ []) n))) e) (sym (eqb-true label context_label is)) h)

-- What is left stands as the first label and those behind it.
pub left-first : (number : ℕ) (pointer : TreeValue) (m : Module) (d : DefinedFunction) (before : List Draft) (place : ℕ) (total : Option Refusal) (texts : List (List ℕ)) (u : GivenUnit) (xs : List ℕ) (label : ℕ) (rest : List ℕ) → xs ≡ label ∷ rest → LeftVariables number pointer m d before xs place total texts u
    → LeftVariables number pointer m d before (label ∷ rest) place total texts u
left-first number pointer m d before place total texts u xs label rest is left = subst (λ ls. LeftVariables number pointer m d before ls place total texts u) is left

-- Where no label is left, nothing is refused and all are added.
pub left-done : (number : ℕ) (pointer : TreeValue) (m : Module) (d : DefinedFunction) (before : List Draft) (place : ℕ) (total : Option Refusal) (texts : List (List ℕ)) (u : GivenUnit) (xs : List ℕ) → xs ≡ [] → LeftVariables number pointer m d before xs place total texts u
    → GivesVariables number pointer m d before place total texts u (Ok tt)
left-done number pointer m d before place total texts u xs is left =
    let none = subst (λ ls. LeftVariables number pointer m d before ls place total texts u) is left in
    (ap (option_map in_reading) (sym none.first), none.made)

-- The labels that an iterator has are the one that it gives and those behind it.
numbers-back : (xs : List ℕ) → map (λ (v : ValueLabel). v.0) (map (λ n. record { 0 = n }) xs) ≡ xs
numbers-back [] = refl
numbers-back (x ∷ xs) = ap (λ ys. x ∷ ys) (numbers-back xs)

pub labels-next : (old new : List ℕ) (label : ValueLabel) → map (λ n. record { 0 = n }) old ≡ label ∷ map (λ n. record { 0 = n }) new → old ≡ label.0 ∷ new
labels-next old new label is = sym (numbers-back old) ∙ ap (map (λ (v : ValueLabel). v.0)) is ∙ ap (λ xs. label.0 ∷ xs) (numbers-back new)

-- An iterator that gives none has no labels.
pub labels-end : (xs : List ℕ) → ◌≡◌ {A = List ValueLabel} (map (λ n. record { 0 = n }) xs) [] → xs ≡ []
labels-end xs is = sym (numbers-back xs) ∙ ap (map (λ (v : ValueLabel). v.0)) is
