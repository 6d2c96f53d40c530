-- The simulated unit says where the values of its functions lie, where nothing of them is refused.
use Rattle.std.proofs.Common.{◌≡◌, ℕ, ◌+◌, refl, ap, sym, ◌∙◌, subst, List, [], ◌∷◌, ◌++◌, map, Bool, true, false, Option, Some, None, Ok, Err, All}
use Rattle.std.specs.Prelude.{◌==◌, ◌||◌, if◌then◌else◌, is_some, option_map, Result, sum_by}
use Rattle.std.specs.List.{AllZip, cons_option, filter, filter_map, flat_map}
use Rattle.std.proofs.lemmas.Bool.{eqb-true}
use Rattle.std.proofs.lemmas.List.{map-append}
use Rattle.std.proofs.lemmas.List.Elements.{filter-append, All-head, All-tail}
use Rattle.dwc_native.specs.BuiltExpressions.{BuildRefusal}
use Rattle.dwc_rules.specs.Carried.{Module, Compilation, CarriedUnit}
use Rattle.dwc_rules.specs.ContextVariable.{location_refusals}
use Rattle.dwc_carried.specs.DefinedFunctions.{DefinedFunction}
use Rattle.dwc_rules.specs.DraftForests.{settled_entry, settled_unit}
use Rattle.dwc_rules.specs.Drafts.{Draft, Goal}
use Rattle.dwc_rules.specs.EntryRules.{of_build}
use Rattle.dwc_carried.specs.Forests.{first_refusal, function_refusals, module_refusals, refused_frames, refusals}
use Rattle.dwc_native.specs.Functions.{Function}
use Rattle.dwc_carried.specs.SimulatedUnitRules.{simulated_unit_refusals, path_refusals}
use Rattle.dwc_carried.specs.SimulatedFunctions.{is_begun, simulated_functions}
use Rattle.dwc_carried.specs.LocationsCarried.{UnitHasLocations}
use Rattle.dwc_rules.specs.SyntheticUnit.{place_of_context_pointer}
use Rattle.dwc_native.specs.Parts.{context_label}
use Rattle.dwc_native.specs.ScopesKept.{native_of_intervals}
use Rattle.dwc_rules.specs.Refusals.{Refusal}
use Rattle.dwc_rules.specs.Scopes.{source_end}
use Rattle.dwc_base.specs.Listing.{first_of}
use Rattle.dwc_native.specs.ScopesKept.{AreNumbered, TranslationsKeepScopes}
use Rattle.dwc_carried.specs.SimulatedLocations.{LabelUse, uses_in_function, label_uses, IsLabelLocated, LocatesLabels}
use Rattle.dwc_carried.specs.SimulatedUnit.{context_entry, context_pointers, function_entries, has_entry, label_entry, label_locations, local_entry, modules_entries, simulated_refusals, simulated_unit, type_place, unit_count, variable_refusals}
use Rattle.dwc_dwarf.specs.Trees.{Location, TreeEntry, TreeValue, Tree, entry}
use Rattle.dwc_base.specs.declared.records.Address.TheVariants.{Constant}
use Rattle.dwc_carried.proofs.LocationForest.{both-none}
use Rattle.dwc_carried.proofs.SimulatedLocationLaws.{KeepsSource, local-located, context-located}
use Rattle.dwc_carried.proofs.UnitsMade.{SimulatedIs}

-- an entry says its places already
abbrev settled_there : Draft → TreeEntry
settled_there d = settled_entry (λ (goal : Goal). None) d

-- the entries below functions
abbrev below : List Draft → Tree
below ds = filter (λ (out : TreeEntry). out.depth == 2) (map settled_there ds)

below-both : (xs ys : List Draft) → below (xs ++ ys) ≡ below xs ++ below ys
below-both xs ys = ap (filter (λ (out : TreeEntry). out.depth == 2)) (map-append settled_there xs ys) ∙ filter-append (λ (out : TreeEntry). out.depth == 2) (map settled_there xs) (map settled_there ys)

zip-both : {A B : Type 0} (R : A → B → Type 0) (xs : List A) (ys : List B) (zs : List A) (ws : List B) → AllZip R xs ys → AllZip R zs ws → AllZip R (xs ++ zs) (ys ++ ws)
zip-both R [] [] zs ws h k = k
zip-both R [] (y ∷ ys) zs ws h k = absurd h
zip-both R (x ∷ xs) [] zs ws h k = absurd h
zip-both R (x ∷ xs) (y ∷ ys) zs ws h k = (h.0, zip-both R xs ys zs ws h.1 k)

-- what is not refused is located
located-where : (f : BuildRefusal → Refusal) (r : Result (List Location) BuildRefusal) → map f (location_refusals (Some r)) ≡ [] → (ls : List Location) × (r ≡ Ok ls)
located-where f (Ok ls) h = (ls, refl)
located-where f (Err e) h = absurd (cc)

-- the translation of a function's source keeps it as a scope
keeps-source : (m : Module) (f : Function) → AreNumbered m.functions → TranslationsKeepScopes m.functions → KeepsSource m f
unfolding native_of_intervals
keeps-source m f numbered keep = keep numbered (record { begin = Constant f.start; end = Constant (source_end f) } ∷ [])

module _ (m : Module) (numbered : AreNumbered m.functions) (keep : TranslationsKeepScopes m.functions) (unit : ℕ) (pointer : TreeValue) where
  module _ (d : DefinedFunction) where
    -- the use of a label
    abbrev use_of_label : ℕ → LabelUse
    use_of_label label = record { module_of = m; function = d.function; label = label }

    abbrev refused_label : ℕ → List Refusal
    refused_label label = map (of_build m.told.place) (location_refusals (Some (label_locations m d.function label)))

    module _ (kept : KeepsSource m d.function) where
      label-located : (label : ℕ) (labels : List ℕ) (b : Bool) (o : Option ℕ) → (label == context_label) ≡ b
          → flat_map refused_label (if b || is_some o then label ∷ filter (has_entry m d) labels else filter (has_entry m d) labels) ≡ []
          → (flat_map refused_label (filter (has_entry m d) labels) ≡ [] → AllZip IsLabelLocated (map use_of_label (filter (has_entry m d) labels)) (below (filter_map (label_entry unit pointer m d) labels)))
          → AllZip IsLabelLocated (map use_of_label (if b || is_some o then label ∷ filter (has_entry m d) labels else filter (has_entry m d) labels))
          (below (cons_option (if b then Some (context_entry pointer m d) else option_map (local_entry unit m d label) o) (filter_map (label_entry unit pointer m d) labels)))
      label-located label labels true o is h behind =
          let two = both-none (refused_label label) (flat_map refused_label (filter (has_entry m d) labels)) h in
          let same : label ≡ context_label = eqb-true label context_label is in
          let found = located-where (of_build m.told.place) (label_locations m d.function label) two.0 in (
            subst (λ n. IsLabelLocated (use_of_label n) (settled_there (context_entry pointer m d))) (sym same) (context-located pointer m d found.0 kept (ap (label_locations m d.function) (sym same) ∙ found.1)),
            behind two.1,
          )
      label-located label labels false (Some place) is h behind =
          let two = both-none (refused_label label) (flat_map refused_label (filter (has_entry m d) labels)) h in
          let found = located-where (of_build m.told.place) (label_locations m d.function label) two.0 in (
            local-located unit m d label place found.0 kept found.1,
            behind two.1,
          )
      label-located label labels false None is h behind = behind h

      labels-located : (labels : List ℕ) → flat_map refused_label (filter (has_entry m d) labels) ≡ [] → AllZip IsLabelLocated (map use_of_label (filter (has_entry m d) labels)) (below (filter_map (label_entry unit pointer m d) labels))
      labels-located [] h = tt
      labels-located (label ∷ labels) h = label-located label labels (label == context_label) (type_place m d label) refl h (λ k. labels-located labels k)

  functions-located : (ds : List DefinedFunction) → flat_map (variable_refusals m) ds ≡ [] → AllZip IsLabelLocated (flat_map (uses_in_function m) ds) (below (flat_map (function_entries unit pointer m) ds))
  functions-located [] h = tt
  functions-located (d ∷ ds) h =
      let two = both-none (variable_refusals m d) (flat_map (variable_refusals m) ds) h in
      subst (AllZip IsLabelLocated (uses_in_function m d ++ flat_map (uses_in_function m) ds)) (sym (below-both (function_entries unit pointer m d) (flat_map (function_entries unit pointer m) ds)))
      (zip-both IsLabelLocated (uses_in_function m d) (below (function_entries unit pointer m d)) (flat_map (uses_in_function m) ds) (below (flat_map (function_entries unit pointer m) ds))
      (labels-located d (keeps-source m d.function numbered keep) (m.told.labels d.function.number) two.0)
      (functions-located ds two.1))

-- the functions of a module have numbers of their own
abbrev HasNumbers : Module → Type 0
HasNumbers m = AreNumbered m.functions

modules-located : (translated : ℕ → Bool) (unit synthetic : ℕ) (ms : List Module) → All HasNumbers ms → ((fs : List Function) → TranslationsKeepScopes fs) → flat_map (λ m. flat_map (variable_refusals m) (simulated_functions translated m)) ms ≡ []
    → AllZip IsLabelLocated (label_uses translated ms) (below (modules_entries translated unit (context_pointers synthetic ms) ms))
modules-located translated unit synthetic [] numbered keep h = tt
modules-located translated unit synthetic (m ∷ ms) numbered keep h =
    let ds = simulated_functions translated m in
    let pointer : TreeValue = entry synthetic (place_of_context_pointer m.told.memory) in
    let rest = modules_entries translated unit (context_pointers (synthetic + unit_count m) ms) ms in
    let two = both-none (flat_map (variable_refusals m) ds) (flat_map (λ n. flat_map (variable_refusals n) (simulated_functions translated n)) ms) h in
    subst (AllZip IsLabelLocated (flat_map (uses_in_function m) ds ++ label_uses translated ms)) (sym (below-both (flat_map (function_entries unit pointer m) ds) rest))
    (zip-both IsLabelLocated (flat_map (uses_in_function m) ds) (below (flat_map (function_entries unit pointer m) ds)) (label_uses translated ms) (below rest)
    (functions-located m (All-head HasNumbers m ms numbered) (keep m.functions) unit pointer ds two.0)
    (modules-located translated unit (synthetic + unit_count m) ms (All-tail HasNumbers m ms numbered) keep two.1))

unit-located : (translated : ℕ → Bool) (path : List ℕ) (ms : List Module) → All HasNumbers ms → ((fs : List Function) → TranslationsKeepScopes fs) → simulated_refusals translated ms ≡ []
    → LocatesLabels translated ms (settled_unit (λ goal. None) (simulated_unit translated path (sum_by unit_count ms) (context_pointers 0 ms) ms))
unfolding simulated_unit simulated_refusals
unit-located translated path ms numbered keep h = modules-located translated (sum_by unit_count ms) 0 ms numbered keep h

-- without a first there is none
no-first : {A : Type 0} (xs : List A) → first_of xs ≡ None → xs ≡ []
no-first [] h = refl
no-first (x ∷ xs) h = absurd (cc)

-- of an input of which nothing is refused nothing is of the variables of the simulated unit
none-refused : (c : Compilation) → first_refusal c ≡ None → simulated_refusals (is_begun c.modules) c.modules ≡ []
none-refused c accepted =
    let last = simulated_unit_refusals (is_begun c.modules) c.next_id c.modules ++ refused_frames c in
    let behind = (both-none (flat_map (λ (n : Module). function_refusals n.functions) c.modules) (flat_map module_refusals c.modules ++ last) (no-first (refusals c) accepted)).1 in
    let ends = (both-none (flat_map module_refusals c.modules) last behind).1 in
    (both-none (path_refusals c.next_id c.modules) (simulated_refusals (is_begun c.modules) c.modules) (both-none (simulated_unit_refusals (is_begun c.modules) c.next_id c.modules) (refused_frames c) ends).0).1

-- The simulated unit of an input of which nothing is refused, whose functions have good maps and numbers of their own, has its locations.
pub simulated_unit-located : (drafted : CarriedUnit → List Draft) (c : Compilation) → All HasNumbers c.modules → ((fs : List Function) → TranslationsKeepScopes fs) → first_refusal c ≡ None → SimulatedIs (UnitHasLocations drafted) (is_begun c.modules) c.next_id c.modules
simulated_unit-located drafted c numbered keep accepted = go (is_begun c.modules) c.modules numbered (none-refused c accepted)
  where
    go : (translated : ℕ → Bool) (ms : List Module) → All HasNumbers ms → simulated_refusals translated ms ≡ [] → SimulatedIs (UnitHasLocations drafted) translated c.next_id ms
    go translated [] numbered h = tt
    go translated (m ∷ ms) numbered h = (unit-located translated _ (m ∷ ms) numbered keep h, tt)
