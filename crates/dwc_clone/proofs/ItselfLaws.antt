-- What is refused of an entry that is not wrapped, and what is made of it.
use Rattle.std.proofs.Common.{◌≡◌, ℕ, refl, sym, ap, subst, ◌∙◌, List, [], ◌∷◌, ◌++◌, map, true, false, Option, Some, None, Result, Ok, Err}
use Rattle.dwc_native.specs.BuiltExpressions.{BuildRefusal}
use Rattle.dwc_rules.specs.Kept.{Placed}
use Rattle.dwc_dwarf.specs.Trees.{Location}
use Rattle.dwc_rules.specs.Clones.{UnitSource, entry_refusals}
use Rattle.dwc_rules.specs.ContextVariable.{context_over, location_refusals}
use Rattle.dwc_rules.specs.EntryRules.{of_build, wrappers_of}
use Rattle.dwc_rules.specs.Refusals.{Refusal, of_place}
use Rattle.dwc_rules.specs.TypeNames.{type_name}
use Rattle.dwc_rules.specs.Wrappers.{is_wrapped, name_fault, wrapper_refusals}
use Rattle.dwc_isa.specs.Registers.{Registers}
use Rattle.std.specs.Prelude.{take}
use Rattle.dwc_rules.specs.Drafts.{Goal}
use Rattle.dwc_unit.specs.declared.units.UnitEntryId.{UnitEntryId}
use Rattle.dwc_unit.specs.GivenUnits.{Addition, GivenUnit}
use Rattle.dwc_clone.specs.declared.entry.PlacedEntry.{PlacedEntry}
use Rattle.dwc_source.specs.declared.error.CloneError.{CloneError}
use Rattle.dwc_source.specs.Errors.{refusal_told}
use Rattle.dwc_source.specs.MadeValues.{Grows}
use Rattle.dwc_clone.specs.ContextPlaces.{AddsVariable, HasVariable}
use Rattle.dwc_clone.specs.PlainEntries.{GivesItself, values_whole}
use Rattle.dwc_source.specs.declared.source.CloneSource.{CloneSource}
use Rattle.dwc_clone.specs.ClonedUnits.{TellsFirst}
use Rattle.dwc_extents.specs.CodeSources.{clone_rules, source_with}
use Rattle.dwc_clone.specs.ClonedEntries.{IsGiven, values_refused}

pub tells-front : (xs ys : List Refusal) (told : Option Refusal) → TellsFirst xs told → TellsFirst (xs ++ ys) told
tells-front xs ys None first = tt
tells-front [] ys (Some refusal) first = absurd (cc)
tells-front (x ∷ xs) ys (Some refusal) first = first

module _ (registers : Registers) (c : CloneSource) (s : UnitSource) (p : Placed) (plain : is_wrapped c.module.output_for p ≡ false) where
  abbrev located : List Refusal
  located = map (of_build c.module.place) (location_refusals (context_over (source_with registers c s) p))

  -- The refusals of its attributes, and then that of the variable.
  pub refused-plain : entry_refusals (clone_rules registers c s) s p ≡ values_refused registers c s p [] p.entry.attributes ++ located
  unfolding entry_refusals wrapper_refusals
  refused-plain =
      let w = wrappers_of (source_with registers c s) in
      ap (λ b. values_refused registers c s p [] p.entry.attributes ++ (map of_place (elim b [ true ↦ name_fault (type_name w.texts w.entries p) | false ↦ [] ]) ++ located)) plain

  pub attributes-refused : (told : Option Refusal) → TellsFirst (values_refused registers c s p [] p.entry.attributes) told → TellsFirst (entry_refusals (clone_rules registers c s) s p) told
  attributes-refused told first = subst (λ xs. TellsFirst xs told) (sym refused-plain) (tells-front (values_refused registers c s p [] p.entry.attributes) located told first)

  pub variable-refused : (told : Option Refusal) → values_refused registers c s p [] p.entry.attributes ≡ [] → TellsFirst located told → TellsFirst (entry_refusals (clone_rules registers c s) s p) told
  variable-refused told none first = subst (λ xs. TellsFirst xs told) (sym (refused-plain ∙ ap (λ xs. xs ++ located) none)) first

  -- Where the variable is there or is not asked for, nothing is refused.
  pub accepted-plain : values_refused registers c s p [] p.entry.attributes ≡ [] → location_refusals (context_over (source_with registers c s) p) ≡ [] → entry_refusals (clone_rules registers c s) s p ≡ []
  accepted-plain none free = refused-plain ∙ ap (λ xs. xs ++ located) none ∙ ap (map (of_build c.module.place)) free

  free : (o : Option (Result (List Location) BuildRefusal)) (parent : ℕ) (texts : List (List ℕ)) (u v : GivenUnit) → HasVariable o parent c.vmctx_ptr texts u v → location_refusals o ≡ []
  free None parent texts u v has = refl
  free (Some expected) parent texts u v has = ap (λ r. location_refusals (Some r)) has.located

  -- What a call answers that adds the variable behind what the entry was given.
  pub gives-itself : (goals : Goal → Option (ℕ × ℕ)) (number : ℕ) (old texts new : List (List ℕ)) (parents path : List UnitEntryId) (placed : PlacedEntry) (base : GivenUnit) (e : Addition) (middle u : GivenUnit)
      → IsGiven number old texts (values_whole registers c s p goals) base e middle → Grows texts new → values_refused registers c s p [] p.entry.attributes ≡ [] → path ≡ take p.entry.depth parents ++ placed.id ∷ []
      → (r : Result (Unit {0}) CloneError) → AddsVariable c.module.place (context_over (source_with registers c s) p) placed.id.index c.vmctx_ptr new middle u r → GivesItself goals registers c number s p old new parents path placed base e u r
  gives-itself goals number old texts new parents path placed base e middle u given grows none path_is (Ok done) has = record {
    texts = texts;
    middle = middle;
    given = given;
    grows = grows;
    variable = has;
    accepted = accepted-plain none (free (context_over (source_with registers c s) p) placed.id.index new middle u has);
    path_is = path_is;
  }
  gives-itself goals number old texts new parents path placed base e middle u given grows none path_is (Err error) refused = variable-refused (refusal_told error) none refused
