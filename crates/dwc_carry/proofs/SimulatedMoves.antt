-- Where numbers of entries are put to places, the unit for functions without debugging information has the references that it was given put
-- to places, and all else as it was.
use Rattle.std.proofs.Common.{◌≡◌, ℕ, ◌<◌, refl, ap, ap₂, sym, ◌∙◌, lit<, List, [], ◌∷◌, ◌++◌, map, cond, Bool, true, false, Option, Some, None}
use Rattle.std.specs.Prelude.{◌==◌, codes, IfSome, option_map, option_and_then}
use Rattle.std.specs.List.{cons_option, filter_map, flat_map}
use Rattle.std.proofs.lemmas.List.{map-append}
use Rattle.dwc_rules.specs.Carried.{Module}
use Rattle.dwc_rules.specs.ContextVariable.{locations_or_none}
use Rattle.dwc_carried.specs.DefinedFunctions.{DefinedFunction, types_at}
use Rattle.dwc_rules.specs.DraftForests.{settled_entry, settled_unit}
use Rattle.dwc_rules.specs.Drafts.{Draft, Goal, done}
use Rattle.dwc_carried.specs.SimulatedFunctions.{simulated_functions}
use Rattle.dwc_rules.specs.MadeEntries.{made, named}
use Rattle.dwc_native.specs.Parts.{context_label}
use Rattle.dwc_carried.specs.SimulatedUnit.{base_types, context_entry, function_entries, function_entry, label_entry, label_locations, local_entry, local_name, local_tag, modules_entries, output_of, place_of_type, simulated_root, simulated_unit, type_place, whole_intervals}
use Rattle.dwc_base.specs.ToldFiles.{type_of_local}
use Rattle.dwc_output.specs.TreeReading.{entry_or_nothing}
use Rattle.dwc_dwarf.specs.Trees.{Location, TreeEntry, TreeValue, locations, text, Interval}
use Rattle.dwc_base.specs.declared.constants.TheConstants.{DW_AT_location, DW_AT_name, DW_AT_type, DW_TAG_variable}
use Rattle.dwc_base.specs.declared.translation.ValType.{ValType}
use Rattle.dwc_base.specs.declared.translation.ValType.TheVariants.{I32, I64, F32, F64, Other}
use Rattle.dwc_base.specs.declared.records.OutputFor.{OutputFor}
use Rattle.dwc_base.specs.declared.records.OutputFor.TheVariants.{Debugger, Default}
use Rattle.dwc_unit.specs.Renumbered.{renumbered, renumbered_entry}

module _ (at : ℕ → ℕ → Option (ℕ × ℕ)) where
  -- an entry says what another does with numbers put to places
  abbrev Moves : Draft → Draft → Type 0
  Moves d e = renumbered_entry at (settled_entry (λ (goal : Goal). None) d) ≡ settled_entry (λ (goal : Goal). None) e

  -- so do entries one to one
  abbrev AllMove : List Draft → List Draft → Type 0
  AllMove ds es = map (renumbered_entry at) (settled_unit (λ goal. None) ds) ≡ settled_unit (λ goal. None) es

  one-more : (d e : Draft) (ds es : List Draft) → Moves d e → AllMove ds es → AllMove (d ∷ ds) (e ∷ es)
  one-more d e ds es one more = ap₂ (λ (x : TreeEntry) (xs : List TreeEntry). x ∷ xs) one more

  both-move : (ds es more others : List Draft) → AllMove ds es → AllMove more others → AllMove (ds ++ more) (es ++ others)
  both-move ds es more others h k =
      ap (map (renumbered_entry at)) (map-append (settled_entry (λ (goal : Goal). None)) ds more)
      ∙ map-append (renumbered_entry at) (settled_unit (λ goal. None) ds) (settled_unit (λ goal. None) more)
      ∙ ap₂ (λ (xs ys : List TreeEntry). xs ++ ys) h k
      ∙ sym (map-append (settled_entry (λ (goal : Goal). None)) es others)

  -- an entry below a function, with a name, a type and a list of locations
  variable-moves : (tag : ℕ) (name : List ℕ) (located : List Location) (type : TreeValue)
      → Moves (made 2 tag (named DW_AT_name (text name) ∷ (DW_AT_type, done type) ∷ named DW_AT_location (locations located) ∷ [])) (made 2 tag (named DW_AT_name (text name) ∷ (DW_AT_type, done (renumbered at type)) ∷ named DW_AT_location (locations located) ∷ []))
  variable-moves tag name located type = refl

  -- what is found for each of some things moves to what is found otherwise
  some-move : {A : Type 0} (f g : A → Option Draft) → ((x : A) (more others : List Draft) → AllMove more others → AllMove (cons_option (f x) more) (cons_option (g x) others)) → (xs : List A) → AllMove (filter_map f xs) (filter_map g xs)
  some-move f g move [] = refl
  some-move f g move (x ∷ xs) = move x (filter_map f xs) (filter_map g xs) (some-move f g move xs)

  lists-move : {A : Type 0} (f g : A → List Draft) → ((x : A) → AllMove (f x) (g x)) → (xs : List A) → AllMove (flat_map f xs) (flat_map g xs)
  lists-move f g move [] = refl
  lists-move f g move (x ∷ xs) = both-move (f x) (g x) (flat_map f xs) (flat_map g xs) (move x) (lists-move f g move xs)

  module _ (unit : ℕ) (types : (place : ℕ) → place < 5 → at unit place ≡ Some (unit, place)) where
    -- the types of numbers stay
    abbrev IsThere : ℕ → Type 0
    IsThere place = at unit place ≡ Some (unit, place)

    type-there : (t : ValType) → IfSome (place_of_type t) IsThere
    type-there I32 = types 1 (lit< tt)
    type-there I64 = types 2 (lit< tt)
    type-there F32 = types 3 (lit< tt)
    type-there F64 = types 4 (lit< tt)
    type-there Other = tt

    local-there : (o : Option ValType) → IfSome (option_and_then place_of_type o) IsThere
    local-there None = tt
    local-there (Some t) = type-there t

    module _ (pointer : TreeValue) (m : Module) (d : DefinedFunction) where
      local-moves : (n place : ℕ) → IsThere place → Moves (local_entry unit m d n place) (local_entry unit m d n place)
      local-moves n place there =
          ap (λ (o : Option (ℕ × ℕ)). record { depth = 2; tag = local_tag m d n; attributes = (DW_AT_name, text (local_name m d n)) ∷ (DW_AT_type, entry_or_nothing o) ∷ (DW_AT_location, locations (locations_or_none (label_locations m d.function n))) ∷ [] }) there

      local-more : (n : ℕ) (o : Option ℕ) → IfSome o IsThere → (more others : List Draft) → AllMove more others → AllMove (cons_option (option_map (local_entry unit m d n) o) more) (cons_option (option_map (local_entry unit m d n) o) others)
      local-more n None there more others h = h
      local-more n (Some place) there more others h = one-more (local_entry unit m d n place) (local_entry unit m d n place) more others (local-moves n place there) h

      -- the context's type moves
      context-moves : Moves (context_entry pointer m d) (context_entry (renumbered at pointer) m d)
      context-moves = variable-moves DW_TAG_variable (codes "__vmctx") (locations_or_none (label_locations m d.function context_label)) pointer

      label-more : (label : ℕ) (more others : List Draft) → AllMove more others → AllMove (cons_option (label_entry unit pointer m d label) more) (cons_option (label_entry unit (renumbered at pointer) m d label) others)
      label-more label more others h = go (label == context_label)
        where
          go : (b : Bool)
              → AllMove (cons_option (cond {A = Option Draft} b (Some (context_entry pointer m d)) (option_map (local_entry unit m d label) (type_place m d label))) more)
              (cons_option (cond {A = Option Draft} b (Some (context_entry (renumbered at pointer) m d)) (option_map (local_entry unit m d label) (type_place m d label))) others)
          go true = one-more (context_entry pointer m d) (context_entry (renumbered at pointer) m d) more others context-moves h
          go false = local-more label (type_place m d label) (local-there (type_of_local (types_at m d) label)) more others h

      function-moves : AllMove (function_entries unit pointer m d) (function_entries unit (renumbered at pointer) m d)
      function-moves =
          one-more (function_entry m d) (function_entry m d) (filter_map (label_entry unit pointer m d) (m.told.labels d.function.number)) (filter_map (label_entry unit (renumbered at pointer) m d) (m.told.labels d.function.number)) refl
          (some-move (label_entry unit pointer m d) (label_entry unit (renumbered at pointer) m d) label-more (m.told.labels d.function.number))

    modules-move : (translated : ℕ → Bool) (pointers : List TreeValue) (ms : List Module) → AllMove (modules_entries translated unit pointers ms) (modules_entries translated unit (map (renumbered at) pointers) ms)
    modules-move translated pointers [] = refl
    modules-move translated [] (m ∷ ms) = refl
    modules-move translated (pointer ∷ pointers) (m ∷ ms) =
        both-move (flat_map (function_entries unit pointer m) (simulated_functions translated m)) (flat_map (function_entries unit (renumbered at pointer) m) (simulated_functions translated m)) (modules_entries translated unit pointers ms) (modules_entries translated unit (map (renumbered at) pointers) ms)
        (lists-move (function_entries unit pointer m) (function_entries unit (renumbered at pointer) m) (λ d. function-moves pointer m d) (simulated_functions translated m))
        (modules-move translated pointers ms)

  -- the root and the types name no entry
  front-moves : (output : OutputFor) (path : List ℕ) (whole : List Interval) → AllMove (simulated_root output path whole ∷ base_types) (simulated_root output path whole ∷ base_types)
  front-moves Default path whole = refl
  front-moves Debugger path whole = refl

  -- The unit has the types of pointers to contexts put to places, where the types of numbers stay.
  pub unit-moves : (translated : ℕ → Bool) (path : List ℕ) (unit : ℕ) (pointers : List TreeValue) (ms : List Module) → ((place : ℕ) → place < 5 → at unit place ≡ Some (unit, place))
      → map (renumbered_entry at) (settled_unit (λ goal. None) (simulated_unit translated path unit pointers ms)) ≡ settled_unit (λ goal. None) (simulated_unit translated path unit (map (renumbered at) pointers) ms)
  unfolding simulated_unit
  unit-moves translated path unit pointers ms types =
      let root = simulated_root (output_of ms) path (flat_map (whole_intervals translated) ms) in
      let front : List Draft = root ∷ base_types in
      both-move front front (modules_entries translated unit pointers ms) (modules_entries translated unit (map (renumbered at) pointers) ms) (front-moves (output_of ms) path (flat_map (whole_intervals translated) ms)) (modules-move unit types translated pointers ms)
