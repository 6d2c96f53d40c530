-- The variable of the context, and what is told where it is refused.
use Rattle.std.proofs.Common.{◌≡◌, ◌∷◌, [], inl, inr, ℕ, refl, sym, ap, subst, ◌∙◌, List, map, Option, Some, None, Result, Ok, Err}
use Rattle.std.specs.Prelude.{◌≢◌, OnErr, OnOk, option_map, true, false}
use Rattle.std.proofs.lemmas.Bool.{eq-eqb, ne_eqb}
use Rattle.dwc_base.specs.declared.constants.TheConstants.{DW_AT_location, DW_AT_name, DW_AT_type, DW_TAG_subprogram, DW_TAG_variable}
use Rattle.dwc_native.specs.BuiltExpressions.{BuildRefusal}
use Rattle.dwc_rules.specs.ContextVariable.{context_in, context_over, location_refusals}
use Rattle.dwc_rules.specs.EntryRules.{of_build, of_location}
use Rattle.dwc_rules.specs.Kept.{Placed}
use Rattle.dwc_rules.specs.LocationAttributes.{InForce}
use Rattle.dwc_rules.specs.LocationRules.{ExpressionSource, in_force_at}
use Rattle.dwc_rules.specs.Refusals.{Refusal}
use Rattle.dwc_dwarf.specs.Trees.{Location}
use Rattle.dwc_expr.specs.declared.error.ExprError.{ExprError}
use Rattle.dwc_expr.specs.declared.error.ExprError.TheVariants.{Read, TooLarge, BadLabelRange, InvalidAttributeValue, UnmappedRegister, OutOfMemory}
use Rattle.dwc_expr.specs.Builds.{location_view}
use Rattle.dwc_expr.specs.Errors.{refusal_told}
use Rattle.dwc_unit.specs.declared.attributes.AttributeValue.TheVariants.{LocationListRef}
use Rattle.dwc_unit.specs.declared.attributes.DebugInfoRef.{DebugInfoRef}
use Rattle.dwc_section.specs.declared.error.WriteError.{WriteError}
use Rattle.dwc_unit.specs.LocationLists.{LocationList}
use Rattle.dwc_unit.specs.GivenUnits.{FitsValue, GivenUnit}
use Rattle.dwc_clone.specs.ClonedUnits.{TellsFirst}
use Rattle.dwc_clone.specs.ContextPlaces.{AddsContext, HasPartOfVariable, IsRefused, IsVariable, OfWritten}
use Rattle.dwc_clone.specs.MadeAttributes.{HasPart, with_made_entry}
use Rattle.dwc_clone.specs.declared.made.MadeValue.TheVariants.{AnyEntry, Text}
use Rattle.dwc_unit.specs.declared.strings.StringId.{StringId}
use Rattle.dwc_extents.specs.LocationValues.{told}

-- Where the context lies at places that fit a list, the variable that is added with that list is as is expected.
pub context-added : (expected : Result (List Location) BuildRefusal) (parent : ℕ) (type : DebugInfoRef) (texts : List (List ℕ)) (u0 u : GivenUnit) (list : LocationList) (written : Result (Unit {0}) WriteError) (r : Result (Unit {0}) ExprError)
    → expected ≡ Ok (map location_view list.locations.items) → ((size : ℕ) → FitsValue size DW_AT_location (LocationListRef list)) → OnOk written (IsVariable list parent type texts u0 u) → OfWritten written r → AddsContext expected parent type texts u0 u r
context-added expected parent type texts u0 u list written (Ok x) located fits has is =
    let added = subst (λ w. OnOk w (IsVariable list parent type texts u0 u)) is has in
    record { list = list; located = located; fits = fits; name = added.name; named = added.named; is = added.is }
context-added expected parent type texts u0 u list written (Err e) located fits has is = subst (λ x. IsRefused expected x (refusal_told x)) (sym is.0) refl

-- What holds where the writer refuses holds where its answer is passed on.
pub refused-passed : (P : Type 0) (written : Result (Unit {0}) WriteError) (r : Result (Unit {0}) ExprError) → OfWritten written r → OnErr written P → OnErr r P
refused-passed P written (Ok x) is holds = tt
refused-passed P (Ok x) (Err e) is holds = absurd is.1
refused-passed P (Err w) (Err e) is holds = holds

-- An entry with its name and its type alone is a part of the variable.
pub part-without-place : (parent : ℕ) (type : DebugInfoRef) (name : StringId) (u0 u v : GivenUnit) (r : Result (Unit {0}) WriteError) → v ≡ with_made_entry parent DW_TAG_variable ((DW_AT_name, Text name) ∷ (DW_AT_type, AnyEntry type) ∷ []) u0 → OnErr r (u ≡ v) → OnErr r (HasPartOfVariable parent type u0 u)
part-without-place parent type name u0 u v (Ok x) made same = tt
part-without-place parent type name u0 u v (Err e) made same = inr (name, 2, same ∙ made)

-- A part of the entry without its place is a part of the variable.
pub part-of-made : (parent : ℕ) (type : DebugInfoRef) (name : StringId) (u0 u : GivenUnit) → HasPart parent DW_TAG_variable ((DW_AT_name, Text name) ∷ (DW_AT_type, AnyEntry type) ∷ []) u0 u → HasPartOfVariable parent type u0 u
part-of-made parent type name u0 u (inl same) = inl same
part-of-made parent type name u0 u (inr (count, is)) = inr (name, count, is)

-- What an error tells of the context is the first refusal.
pub context-refused : (place : ℕ) (expected : Result (List Location) BuildRefusal) (e : ExprError) (o : Option Refusal) → IsRefused expected e (refusal_told e) → o ≡ option_map (of_location place) (told e) → TellsFirst (map (of_build place) (location_refusals (Some expected))) o
context-refused place expected e o refused is = subst (TellsFirst (map (of_build place) (location_refusals (Some expected)))) (sym is) (go e refused)
  where
    one : (refusal : BuildRefusal) → expected ≡ Err refusal → TellsFirst (map (of_build place) (location_refusals (Some expected))) (Some (of_build place refusal))
    one refusal same = subst (λ r. TellsFirst (map (of_build place) (location_refusals (Some r))) (Some (of_build place refusal))) (sym same) refl

    go : (e : ExprError) → IsRefused expected e (refusal_told e) → TellsFirst (map (of_build place) (location_refusals (Some expected))) (option_map (of_location place) (told e))
    go (Read what section offset) same = absurd (cc)
    go TooLarge same = one _ same
    go (BadLabelRange label) same = one _ same
    go InvalidAttributeValue same = one _ same
    go (UnmappedRegister register) same = one _ same
    go OutOfMemory same = tt

-- ---- where the context lies at an entry

module _ (c : ExpressionSource) (e : Placed) where
  -- of a subprogram, by what is in force
  pub context-over : (f : InForce) → e.entry.tag ≡ DW_TAG_subprogram → f ≡ in_force_at c e → context_over c e ≡ context_in f
  unfolding context_over
  context-over f tag is = ap (λ b. elim b [ true ↦ context_in (in_force_at c e) | false ↦ None ]) (eq-eqb e.entry.tag DW_TAG_subprogram tag) ∙ ap context_in (sym is)

  -- of another entry that is not asked
  pub context-other : e.entry.tag ≢ DW_TAG_subprogram → context_over c e ≡ None
  unfolding context_over
  context-other tag = ap (λ b. elim b [ true ↦ context_in (in_force_at c e) | false ↦ None ]) (ne_eqb e.entry.tag DW_TAG_subprogram tag)
