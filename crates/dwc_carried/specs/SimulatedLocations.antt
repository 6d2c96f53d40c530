-- What it means that the unit for functions without debugging information says where their values lie. (A law on the definitions of built
-- expressions and of translation. DWARF 4 and 5, sections 2.6 and 4.1.)
use Rattle.std.specs.Prelude.{◌≡◌, ℕ, ◌==◌, List, [], ◌∷◌, map, Bool, Some}
use Rattle.std.specs.List.{AllZip, filter, flat_map}
use Rattle.dwc_base.specs.declared.constants.TheConstants.{DW_AT_location}
use Rattle.dwc_native.specs.Functions.{Function}
use Rattle.dwc_rules.specs.Carried.{Module}
use Rattle.dwc_dwarf.specs.Trees.{Location, locations, TreeEntry, Tree}
use Rattle.dwc_rules.specs.LocationRules.{frame_told}
use Rattle.dwc_rules.specs.Scopes.{source_range}
use Rattle.dwc_rules.specs.ScopesCarried.{value_of_entry}
use Rattle.dwc_carried.specs.PlacesSaid.{SaysWhere}
use Rattle.dwc_carried.specs.DefinedFunctions.{DefinedFunction}
use Rattle.dwc_carried.specs.SimulatedFunctions.{simulated_functions}
use Rattle.dwc_carried.specs.SimulatedUnit.{has_entry}

-- a label of a function of a module that has an entry
pub record LabelUse : Type 0 where
  pub module_of : Module
  pub function : Function
  pub label : ℕ

-- those of a simulated function, by rising labels
abbrev pub uses_in_function : Module → DefinedFunction → List LabelUse
uses_in_function m d = map (λ label. record { module_of = m; function = d.function; label = label }) (filter (has_entry m d) (m.told.labels d.function.number))

-- those of the simulated functions of all modules, in order
abbrev pub label_uses : (ℕ → Bool) → List Module → List LabelUse
label_uses translated ms = flat_map (λ m. flat_map (uses_in_function m) (simulated_functions translated m)) ms

-- An entry of an output says where the value of a label lies over all of its function's source.
pub record IsLabelLocated (u : LabelUse) (out : TreeEntry) : Type 0 where
  pub located : List Location
  pub lies : value_of_entry DW_AT_location out ≡ Some (locations located)
  pub says : SaysWhere u.module_of.functions (Some (frame_told u.module_of.told u.function)) (source_range u.function) (u.label ∷ []) (map (λ l. l.over) located)

-- The entries below the functions of the unit say so, one for each label with an entry, in order.
abbrev pub LocatesLabels : (ℕ → Bool) → List Module → Tree → Type 0
LocatesLabels translated ms tree = AllZip IsLabelLocated (label_uses translated ms) (filter (λ out. out.depth == 2) tree)
