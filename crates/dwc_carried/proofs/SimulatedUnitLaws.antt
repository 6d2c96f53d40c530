-- The unit for functions without debugging information stands behind all others, and is in file order.
use Rattle.std.proofs.Common.{◌≡◌, ℕ, suc, ◌+◌, List, [], ◌∷◌, ◌≤◌, map, Some, None, true, false, refl, ap, sym, ◌∙◌, arith}
use Rattle.std.specs.Prelude.{◌==◌, length, sum_by, flat_map, Bool, IsTrue, if◌then◌else◌, Option, option_map}
use Rattle.std.proofs.lemmas.List.{length-append, length-map}
use Rattle.std.proofs.lemmas.List.Sums.{sum_by-cons}
use Rattle.dwc_rules.specs.Carried.{Module, carried_unit}
use Rattle.dwc_dwarf.specs.ReadUnits.{Unit}
use Rattle.dwc_rules.specs.Drafts.{Draft}
use Rattle.dwc_dwarf.specs.Trees.{TreeValue}
use Rattle.dwc_rules.specs.DraftForests.{ModuleDrafts, units_drafted, settled_unit, place_of_goal, trees_from}
use Rattle.dwc_rules.specs.KeptModules.{kept_in, carried_in}
use Rattle.dwc_rules.specs.CarriedDrafts.{source_of, unit_drafts, carried_drafts}
use Rattle.dwc_rules.specs.ModuleDrafts.{expressions_of, module_drafts}
use Rattle.dwc_rules.specs.CarriedUnits.{kept_of, carried_units_of}
use Rattle.dwc_carried.specs.DefinedFunctions.{DefinedFunction}
use Rattle.dwc_carried.specs.SimulatedFunctions.{simulated_functions}
use Rattle.dwc_rules.specs.DraftOrder.{go_on_below, IsInFileOrder}
use Rattle.dwc_native.specs.Parts.{context_label}
use Rattle.dwc_rules.proofs.ForestLaws.{some_same, none_is, Each, each_filter_map, each_both}
use Rattle.std.proofs.lemmas.Bool.{lt-ltb, le-leb}
use Rattle.dwc_carried.specs.SimulatedUnit.{type_place, local_entry, context_entry, label_entry, function_entries, unit_count, modules_entries, simulated_unit}

-- the drafts of modules
abbrev drafts_of_modules : Bool → List Module → List ModuleDrafts
drafts_of_modules big_endian ms = map (λ m. module_drafts big_endian m) ms

-- Units are counted as they are made.
pub units-counted : (big_endian : Bool) (m : Module) → length (units_drafted (module_drafts big_endian m)) ≡ unit_count m
unfolding carried_drafts
units-counted big_endian m =
    let k = kept_of m in
    let us : List Unit = carried_in k in
    ap suc (length-map us (λ u. unit_drafts (expressions_of m u) (source_of k u) big_endian (kept_in k u))
    ∙ sym (length-map us (λ u. record { module_of = m; unit = u }))
    ∙ sym (length-map (carried_units_of m) carried_unit))

-- So many trees stand before the simulated unit as its number says.
pub last-number : (big_endian : Bool) (number : ℕ) (ms : List Module) → length (trees_from number (drafts_of_modules big_endian ms)) ≡ sum_by unit_count ms
last-number big_endian number [] = refl
last-number big_endian number (m ∷ ms) =
    let d = module_drafts big_endian m in
    let behind = trees_from (number + length (units_drafted d)) (drafts_of_modules big_endian ms) in
    length-append (map (settled_unit (place_of_goal number d)) (units_drafted d)) behind
    ∙ ap (λ n. n + length behind) (length-map (units_drafted d) (settled_unit (place_of_goal number d)) ∙ units-counted big_endian m)
    ∙ ap (λ n. unit_count m + n) (last-number big_endian (number + length (units_drafted d)) ms)
    ∙ sym (sum_by-cons unit_count m ms)

-- ---- file order

-- an entry lies one or two below the root
abbrev Shallow : Draft → Type 0
Shallow d = (1 ≤ d.depth) × (d.depth ≤ 2)

-- such entries, one after another, go on below the root
goes-on : (before : ℕ) (ds : List Draft) → 1 ≤ before → Each Shallow ds → IsTrue (go_on_below 0 before (map (λ d. d.depth) ds))
goes-on before [] le h = refl
goes-on before (d ∷ ds) le h =
    let low = h.0.0 in
    let high = h.0.1 in
    rw (lt-ltb 0 d.depth (omega (arith, low)), le-leb d.depth (suc before) (omega (arith, le, high))) (goes-on d.depth ds low h.1)

-- what is chosen for a label is such an entry, where both that can be chosen are
chosen-shallow : (test : Bool) (c : Draft) (f : ℕ → Draft) (o : Option ℕ) (y : Draft) → Shallow c → ((place : ℕ) → Shallow (f place)) → (if test then Some c else option_map f o) ≡ Some y → Shallow y
chosen-shallow true c f o y first others is = some_same Shallow c y is first
chosen-shallow false c f None y first others is = absurd (none_is y is)
chosen-shallow false c f (Some place) y first others is = some_same Shallow (f place) y is (others place)

labels-shallow : (unit : ℕ) (pointer : TreeValue) (m : Module) (d : DefinedFunction) (labels : List ℕ) → Each (λ label. (y : Draft) → label_entry unit pointer m d label ≡ Some y → Shallow y) labels
labels-shallow unit pointer m d [] = tt
labels-shallow unit pointer m d (label ∷ labels) =
    (λ y is. chosen-shallow (label == context_label) (context_entry pointer m d) (local_entry unit m d label) (type_place m d label) y (omega arith, omega arith) (λ place. (omega arith, omega arith)) is, labels-shallow unit pointer m d labels)

functions-shallow : (unit : ℕ) (pointer : TreeValue) (m : Module) (ds : List DefinedFunction) → Each Shallow (flat_map (function_entries unit pointer m) ds)
functions-shallow unit pointer m [] = tt
functions-shallow unit pointer m (d ∷ ds) =
    each_both Shallow (function_entries unit pointer m d) (flat_map (function_entries unit pointer m) ds)
    ((omega arith, omega arith), each_filter_map (label_entry unit pointer m d) Shallow (m.told.labels d.function.number) (labels-shallow unit pointer m d (m.told.labels d.function.number)))
    (functions-shallow unit pointer m ds)

modules-shallow : (translated : ℕ → Bool) (unit : ℕ) (pointers : List TreeValue) (ms : List Module) → Each Shallow (modules_entries translated unit pointers ms)
modules-shallow translated unit pointers [] = tt
modules-shallow translated unit [] (m ∷ ms) = tt
modules-shallow translated unit (pointer ∷ pointers) (m ∷ ms) =
    each_both Shallow (flat_map (function_entries unit pointer m) (simulated_functions translated m)) (modules_entries translated unit pointers ms) (functions-shallow unit pointer m (simulated_functions translated m)) (modules-shallow translated unit pointers ms)

-- The unit is in file order.
pub simulated-in_order : (translated : ℕ → Bool) (path : List ℕ) (unit : ℕ) (pointers : List TreeValue) (ms : List Module) → IsInFileOrder (simulated_unit translated path unit pointers ms)
unfolding simulated_unit
simulated-in_order translated path unit pointers ms = goes-on 1 (modules_entries translated unit pointers ms) (omega arith) (modules-shallow translated unit pointers ms)
