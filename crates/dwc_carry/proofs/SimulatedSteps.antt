-- The unit for functions without debugging information, label by label and function by function.
use Rattle.std.proofs.Common.{◌≡◌, ℕ, ◌+◌, refl, sym, ap, subst, ◌∙◌, List, [], ◌∷◌, ◌++◌, length, map, cond, Bool, true, false, Option, Some, None, Ok}
use Rattle.std.specs.Prelude.{◌==◌, option_map}
use Rattle.std.specs.List.{cons_option, filter_map, flat_map}
use Rattle.std.proofs.lemmas.List.{append-nil, append_assoc}
use Rattle.dwc_rules.specs.Carried.{Module}
use Rattle.dwc_carried.specs.DefinedFunctions.{DefinedFunction}
use Rattle.dwc_rules.specs.Drafts.{Draft}
use Rattle.dwc_carried.specs.SimulatedFunctions.{simulated_functions}
use Rattle.dwc_native.specs.Parts.{context_label}
use Rattle.dwc_carried.specs.SimulatedUnit.{base_types, context_entry, first_source, function_entries, function_entry, function_index, function_name, label_entry, label_locations, local_entry, local_name, local_tag, modules_entries, output_of, simulated_root, simulated_unit, type_place, whole_intervals}
use Rattle.dwc_dwarf.specs.Trees.{TreeValue}
use Rattle.dwc_unit.specs.declared.attributes.DebugInfoRef.{DebugInfoRef}
use Rattle.dwc_unit.specs.LocationLists.{LocationList}
use Rattle.dwc_unit.specs.declared.strings.StringId.{StringId}
use Rattle.dwc_unit.specs.AddedInOrder.{with_entry}
use Rattle.dwc_unit.specs.GivenUnits.{GivenUnit}
use Rattle.dwc_unit.specs.Lists.{location_of}
use Rattle.dwc_clone.specs.ContextPlaces.{HasContext}
use Rattle.dwc_source.specs.KnownTexts.{IsNumbered}
use Rattle.dwc_source.specs.MadeValues.{Grows}
use Rattle.dwc_carry.specs.SyntheticUnits.{reference_meant}
use Rattle.dwc_carry.specs.SimulatedAdditions.{local_addition, subprogram_addition}
use Rattle.dwc_carry.specs.SimulatedDrafts.{HasFunction, HasFunctions, HasModules, HasVariables, IsSimulated}
use Rattle.dwc_carry.proofs.SimulatedLaws.{context-simulated, function-simulated, local-simulated}

module _ (number : ℕ) (pointer : TreeValue) (m : Module) (d : DefinedFunction) (before : List Draft) where
  -- ---- labels

  -- A function is begun: all its labels are left.
  pub variables-begun : (old new : List (List ℕ)) (u v : GivenUnit) (name : StringId) (symbol size line : ℕ) → Grows old new → IsSimulated number old before u → IsNumbered new (function_name m (function_index m d)) name → symbol ≡ d.function.number → size ≡ d.function.length
      → line ≡ m.file.code_offset + first_source d.function → v ≡ with_entry (subprogram_addition name symbol size line) u → HasVariables number pointer m d new before (m.told.labels d.function.number) (length u.additions) v
  variables-begun old new u v name symbol size line grows so known symbol_is size_is line_is is = record {
    ds = before ++ function_entry m d ∷ [];
    made = function-simulated number old new grows before m d u v name symbol size line so known symbol_is size_is line_is is;
    whole = append_assoc before (function_entry m d ∷ []) (filter_map (label_entry number pointer m d) (m.told.labels d.function.number));
  }

  -- One label more, which has an entry, that was added.
  one-more : (old new : List (List ℕ)) (label : ℕ) (left : List ℕ) (place : ℕ) (u v : GivenUnit) (y : Draft) (has : HasVariables number pointer m d old before (label ∷ left) place u) → label_entry number pointer m d label ≡ Some y → HasFunction number new (has.ds ++ y ∷ []) place v
      → HasVariables number pointer m d new before left place v
  one-more old new label left place u v y has is made = record {
    ds = has.ds ++ y ∷ [];
    made = made;
    whole = append_assoc has.ds (y ∷ []) (filter_map (label_entry number pointer m d) left)
        ∙ ap (λ o. has.ds ++ cons_option o (filter_map (label_entry number pointer m d) left)) (sym is)
        ∙ has.whole;
  }

  -- that of the context
  pub variables-context : (old new : List (List ℕ)) (label : ℕ) (left : List ℕ) (place : ℕ) (type : DebugInfoRef) (u v : GivenUnit) → Grows old new → reference_meant type ≡ pointer → HasVariables number pointer m d old before (label ∷ left) place u → (label == context_label) ≡ true
      → HasContext (label_locations m d.function context_label) place type new u v → HasVariables number pointer m d new before left place v
  variables-context old new label left place type u v grows meant has context added =
      one-more old new label left place u v (context_entry pointer m d) has
      (ap (λ (b : Bool). cond {A = Option Draft} b (Some (context_entry pointer m d)) (option_map (local_entry number m d label) (type_place m d label))) context)
      (subst (λ p. HasFunction number new (has.ds ++ context_entry p m d ∷ []) place v) meant (context-simulated number old new grows has.ds m d u v place type has.made added))

  -- that of a local of one of the four types
  pub variables-local : (old new : List (List ℕ)) (label : ℕ) (left : List ℕ) (place type : ℕ) (u v : GivenUnit) (name : StringId) (list : LocationList) → Grows old new → HasVariables number pointer m d old before (label ∷ left) place u → (label == context_label) ≡ false → type_place m d label ≡ Some type
      → IsNumbered new (local_name m d label) name → label_locations m d.function label ≡ Ok (map location_of list.locations.items) → v ≡ with_entry (local_addition place (local_tag m d label) name type list) u → HasVariables number pointer m d new before left place v
  variables-local old new label left place type u v name list grows has other typed known located is =
      one-more old new label left place u v (local_entry number m d label type) has
      (ap (λ (b : Bool). cond {A = Option Draft} b (Some (context_entry pointer m d)) (option_map (local_entry number m d label) (type_place m d label))) other ∙ ap (option_map (local_entry number m d label)) typed)
      (local-simulated number old new grows has.ds m d u v label type place name list has.made known located is)

  -- One label more, which has no entry.
  pub variables-none : (texts : List (List ℕ)) (label : ℕ) (left : List ℕ) (place : ℕ) (u : GivenUnit) → HasVariables number pointer m d texts before (label ∷ left) place u → (label == context_label) ≡ false → type_place m d label ≡ None → HasVariables number pointer m d texts before left place u
  variables-none texts label left place u has other untyped =
      let none : label_entry number pointer m d label ≡ None = ap (λ (b : Bool). cond {A = Option Draft} b (Some (context_entry pointer m d)) (option_map (local_entry number m d label) (type_place m d label))) other ∙ ap (option_map (local_entry number m d label)) untyped in
      record {
        ds = has.ds;
        made = has.made;
        whole = ap (λ o. has.ds ++ cons_option o (filter_map (label_entry number pointer m d) left)) (sym none) ∙ has.whole;
      }

  -- No label is left.
  pub variables-done : (texts : List (List ℕ)) (place : ℕ) (u : GivenUnit) → HasVariables number pointer m d texts before [] place u → IsSimulated number texts (before ++ function_entries number pointer m d) u
  variables-done texts place u has = subst (λ ds. IsSimulated number texts ds u) (sym (append-nil has.ds) ∙ has.whole) has.made.simulated

-- ---- functions

module _ (number : ℕ) (pointer : TreeValue) (m : Module) (behind whole : List Draft) where
  -- One function more, with its labels.
  pub functions-more : (old new : List (List ℕ)) (d : DefinedFunction) (left : List DefinedFunction) (u v : GivenUnit) (has : HasFunctions number pointer m old behind whole (d ∷ left) u) → IsSimulated number new (has.ds ++ function_entries number pointer m d) v → HasFunctions number pointer m new behind whole left v
  functions-more old new d left u v has made = record {
    ds = has.ds ++ function_entries number pointer m d;
    made = made;
    all = append_assoc has.ds (function_entries number pointer m d) (flat_map (function_entries number pointer m) left ++ behind)
        ∙ ap (λ ds. has.ds ++ ds) (sym (append_assoc (function_entries number pointer m d) (flat_map (function_entries number pointer m) left) behind))
        ∙ has.all;
  }

-- ---- modules

-- Behind the root and the types all modules are left.
pub modules-begun : (translated : ℕ → Bool) (number : ℕ) (pointers : List TreeValue) (texts : List (List ℕ)) (path : List ℕ) (ms : List Module) (u : GivenUnit) → IsSimulated number texts (simulated_root (output_of ms) path (flat_map (whole_intervals translated) ms) ∷ base_types) u
    → HasModules translated number pointers texts (simulated_unit translated path number pointers ms) ms u
unfolding simulated_unit
modules-begun translated number pointers texts path ms u made = record { ds = simulated_root (output_of ms) path (flat_map (whole_intervals translated) ms) ∷ base_types; made = made; all = refl }

module _ (translated : ℕ → Bool) (number : ℕ) (pointer : TreeValue) (pointers : List TreeValue) (m : Module) (ms : List Module) (whole : List Draft) (texts : List (List ℕ)) (u : GivenUnit) where
  -- A module is begun: all its simulated functions are left.
  pub functions-begun : HasModules translated number (pointer ∷ pointers) texts whole (m ∷ ms) u → HasFunctions number pointer m texts (modules_entries translated number pointers ms) whole (simulated_functions translated m) u
  functions-begun has = record { ds = has.ds; made = has.made; all = has.all }

  -- No function of it is left.
  pub functions-done : HasFunctions number pointer m texts (modules_entries translated number pointers ms) whole [] u → HasModules translated number pointers texts whole ms u
  functions-done has = record { ds = has.ds; made = has.made; all = has.all }

-- No module is left.
pub modules-done : (translated : ℕ → Bool) (number : ℕ) (pointers : List TreeValue) (texts : List (List ℕ)) (whole : List Draft) (u : GivenUnit) → HasModules translated number pointers texts whole [] u → IsSimulated number texts whole u
modules-done translated number pointers texts whole u has = subst (λ ds. IsSimulated number texts ds u) (sym (append-nil has.ds) ∙ has.all) has.made
