-- The name of a wrapper, which is read behind the attributes of its entry.
use Rattle.std.proofs.Common.{◌≡◌, ℕ, refl, sym, ap, subst, ◌∙◌, append-nil, List, [], ◌∷◌, ◌++◌, map, Bool, true, false, Option, Some, None, Result, Ok, Err}
use Rattle.std.specs.Prelude.{◌==◌, ◌||◌, IfErr, OnOk}
use Rattle.std.proofs.lemmas.Bool.{eqb-true}
use Rattle.dwc_base.specs.declared.constants.TheConstants.{DW_TAG_pointer_type, DW_TAG_reference_type, DW_TAG_rvalue_reference_type, DW_TAG_subprogram}
use Rattle.dwc_base.specs.declared.records.OutputFor.{OutputFor}
use Rattle.dwc_base.specs.declared.records.OutputFor.TheVariants.{Default, Debugger}
use Rattle.dwc_base.specs.Sections.{Fault}
use Rattle.dwc_rules.specs.Kept.{Placed}
use Rattle.dwc_rules.specs.Refusals.{Refusal, of_place}
use Rattle.dwc_base.specs.Listing.{first_of}
use Rattle.dwc_rules.specs.Clones.{UnitSource, entry_refusals}
use Rattle.dwc_rules.specs.ContextVariable.{context_in, context_over, location_refusals}
use Rattle.dwc_rules.specs.EntryRules.{of_build}
use Rattle.dwc_rules.specs.LocationRules.{in_force_at}
use Rattle.dwc_rules.specs.TypeNames.{type_name}
use Rattle.dwc_rules.specs.Wrappers.{is_wrapped, is_wrapped_too, name_fault, name_or_unknown, wrapper_name, wrapper_refusals}
use Rattle.dwc_isa.specs.Registers.{Registers}
use Rattle.dwc_unit.specs.declared.strings.StringId.{StringId}
use Rattle.dwc_unit.specs.declared.units.UnitEntryId.{UnitEntryId}
use Rattle.dwc_unit.specs.GivenUnits.{GivenUnit}
use Rattle.dwc_source.specs.declared.error.CloneError.{CloneError}
use Rattle.dwc_source.specs.declared.error.CloneError.TheVariants.{OutOfMemory}
use Rattle.dwc_source.specs.declared.source.CloneSource.{CloneSource}
use Rattle.dwc_clone.specs.declared.wrapper.OpenWrapper.{OpenWrapper}
use Rattle.dwc_clone.specs.declared.wrapper.WrapperTexts.{WrapperTexts}
use Rattle.dwc_source.specs.Errors.{refusal_told}
use Rattle.dwc_types.specs.KnownNames.{GivesNumber}
use Rattle.dwc_source.specs.KnownTexts.{IsNumbered}
use Rattle.dwc_source.specs.MadeValues.{Grows, RefusesSo}
use Rattle.dwc_clone.specs.ClonedUnits.{TellsFirst}
use Rattle.dwc_extents.specs.CodeSources.{clone_rules, source_with}
use Rattle.dwc_clone.specs.ClonedEntries.{values_refused}
use Rattle.dwc_source.specs.Sources.{IsSource}
use Rattle.dwc_types.specs.TypeChains.{GivesRead}
use Rattle.dwc_clone.specs.OpenWrappers.{HasWrapperTexts}
use Rattle.dwc_clone.specs.WrappedEntries.{AddsWrapper, AreChecked, GivesWrapped, GivesWrapperName, IsWrapperNamed}
use Rattle.dwc_clone.proofs.EntryValues.{grows-on}

-- ---- what is refused of an entry that is wrapped

-- It is no subprogram.
other-tag : (output : OutputFor) (tag : ℕ) → ((tag == DW_TAG_pointer_type) || (tag == DW_TAG_reference_type) || is_wrapped_too output tag) ≡ true → (tag == DW_TAG_subprogram) ≡ false
other-tag output tag wrapped = go (tag == DW_TAG_pointer_type) refl (tag == DW_TAG_reference_type) refl wrapped
  where
    too : (o : OutputFor) → is_wrapped_too o tag ≡ true → (tag == DW_TAG_subprogram) ≡ false
    too Default is = absurd (cc)
    too Debugger is = ap (λ n. n == DW_TAG_subprogram) (eqb-true tag DW_TAG_rvalue_reference_type is)

    go : (a : Bool) → (tag == DW_TAG_pointer_type) ≡ a → (b : Bool) → (tag == DW_TAG_reference_type) ≡ b → (a || b || is_wrapped_too output tag) ≡ true → (tag == DW_TAG_subprogram) ≡ false
    go true pointer b reference wrapped = ap (λ n. n == DW_TAG_subprogram) (eqb-true tag DW_TAG_pointer_type pointer)
    go false pointer true reference wrapped = ap (λ n. n == DW_TAG_subprogram) (eqb-true tag DW_TAG_reference_type reference)
    go false pointer false reference wrapped = too output wrapped

module _ (registers : Registers) (c : CloneSource) (number : ℕ) (s : UnitSource) (p : Placed) (source : IsSource c number s) (wrapped : is_wrapped c.module.output_for p ≡ true) where
  -- The refusals of its attributes, and then why its name is not read.
  refused-wrapped : entry_refusals (clone_rules registers c s) s p ≡ values_refused registers c s p [] p.entry.attributes ++ map of_place (name_fault (type_name s.texts s.entries p))
  unfolding entry_refusals wrapper_refusals context_over
  refused-wrapped =
      let values = values_refused registers c s p [] p.entry.attributes in
      let src = source_with registers c s in
      let located : Bool → List Refusal = λ b. map (of_build src.told.place) (location_refusals (elim b [ true ↦ context_in (in_force_at src p) | false ↦ None ])) in
      let unread : Bool → List Fault = λ b. elim b [ true ↦ name_fault (type_name s.texts s.entries p) | false ↦ [] ] in
      ap (λ texts. values ++ (map of_place (elim (is_wrapped c.module.output_for p) [ true ↦ name_fault (type_name texts s.entries p) | false ↦ [] ]) ++ located (p.entry.tag == DW_TAG_subprogram))) (sym source.texts)
      ∙ ap (λ b. values ++ (map of_place (unread b) ++ located (p.entry.tag == DW_TAG_subprogram))) wrapped
      ∙ ap (λ b. values ++ (map of_place (name_fault (type_name s.texts s.entries p)) ++ located b)) (other-tag c.module.output_for p.entry.tag wrapped)
      ∙ ap (λ xs. values ++ xs) (append-nil (map of_place (name_fault (type_name s.texts s.entries p))))

  -- The first refusal of the attributes is the first of the entry.
  pub attributes-refused : (told : Option Refusal) → TellsFirst (values_refused registers c s p [] p.entry.attributes) told → TellsFirst (entry_refusals (clone_rules registers c s) s p) told
  attributes-refused None first = tt
  attributes-refused (Some refusal) first = ap first_of refused-wrapped ∙ in-front (values_refused registers c s p [] p.entry.attributes) (map of_place (name_fault (type_name s.texts s.entries p))) first
    where
      in-front : (xs ys : List Refusal) → first_of xs ≡ Some refusal → first_of (xs ++ ys) ≡ Some refusal
      in-front [] ys is = absurd (cc)
      in-front (x ∷ xs) ys is = is

  -- Where nothing is refused of them, the fault of the name is.
  name-refused : (e : CloneError) → values_refused registers c s p [] p.entry.attributes ≡ [] → GivesRead {X = List ℕ} (λ name. name) (type_name s.texts s.entries p) (Err e) → TellsFirst (entry_refusals (clone_rules registers c s) s p) (refusal_told e)
  name-refused e accepted read =
      subst (λ xs. TellsFirst xs (refusal_told e)) (sym (refused-wrapped ∙ ap (λ xs. xs ++ map of_place (name_fault (type_name s.texts s.entries p))) accepted)) (go (type_name s.texts s.entries p) read)
    where
      no : (name : List ℕ) (told : Option Refusal) → RefusesSo {A = List ℕ} (Ok name) told → TellsFirst [] told
      no name None refuses = tt
      no name (Some refusal) refuses = absurd (cc)

      one : (fault : Fault) (told : Option Refusal) → RefusesSo {A = List ℕ} (Err (of_place fault)) told → TellsFirst (of_place fault ∷ []) told
      one fault None refuses = tt
      one fault (Some refusal) refuses = cc

      go : (r : Result (List ℕ) Fault) → GivesRead {X = List ℕ} (λ name. name) r (Err e) → TellsFirst (map of_place (name_fault r)) (refusal_told e)
      go (Ok name) read = no name (refusal_told e) read
      go (Err fault) read = one fault (refusal_told e) read

  -- The wrapper has its name; or the first refusal is told.
  pub gives-name : (old middle new : List (List ℕ)) (r : Result StringId CloneError) → AreChecked registers c s p old middle → Grows middle new → GivesNumber s new p r → GivesWrapperName registers c s p old new r
  gives-name old middle new (Ok id) checked grows named = record {
    grows = grows-on old middle new checked.grows grows;
    accepted = refused-wrapped ∙ ap (λ xs. xs ++ map of_place (name_fault (type_name s.texts s.entries p))) checked.accepted ∙ ap (λ r. map of_place (name_fault r)) named.read;
    is = subst (λ r. IsNumbered new (wrapper_name p.entry.tag (name_or_unknown r)) id) (sym named.read) named.number;
  }
  gives-name old middle new (Err e) checked grows refused = name-refused e checked.accepted refused

-- ---- the whole entry

-- What a call gives that adds the wrapper which was named.
pub gives-wrapped : (registers : Registers) (c : CloneSource) (s : UnitSource) (p : Placed) (old middle new : List (List ℕ)) (name : StringId) (texts : WrapperTexts) (parents path : List UnitEntryId) (id : UnitEntryId) (before behind : List OpenWrapper) (u0 u : GivenUnit) (r : Result (Unit {0}) CloneError)
    → IsWrapperNamed registers c s p old middle name → Grows middle new → ((wrapper : List ℕ) → IsNumbered middle wrapper name → HasWrapperTexts new c.module.names.resolve_memory.now wrapper texts) → IfErr r (λ e. e ≡ OutOfMemory) → OnOk r (AddsWrapper c p texts parents path id before behind u0 u)
    → GivesWrapped registers c s p old new parents path id before behind u0 u r
gives-wrapped registers c s p old middle new name texts parents path id before behind u0 u (Ok done) named grows has memory adds = record {
  grows = grows-on old middle new named.grows grows;
  accepted = named.accepted;
  placed = adds.placed;
  bare = adds.bare;
  added = adds.added;
  texts = texts;
  named = has (wrapper_name p.entry.tag (name_or_unknown (type_name s.texts s.entries p))) named.is;
  wrapper = adds.wrapper;
  opened = adds.opened;
  is = adds.is;
  path_is = adds.path_is;
  opens = adds.opens;
}
gives-wrapped registers c s p old middle new name texts parents path id before behind u0 u (Err e) named grows has memory adds = subst (λ f. TellsFirst (entry_refusals (clone_rules registers c s) s p) (refusal_told f)) (sym memory) tt
