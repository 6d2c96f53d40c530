-- The entries of labels in the unit for functions without debugging information say where these lie.
use Rattle.std.proofs.Common.{◌≡◌, ℕ, List, [], ◌∷◌, Some, None, Ok, ap}
use Rattle.dwc_rules.specs.Scopes.{source_range}
use Rattle.dwc_dwarf.specs.Trees.{Location, TreeValue, locations}
use Rattle.dwc_rules.specs.Drafts.{Goal}
use Rattle.dwc_rules.specs.DraftForests.{settled_entry}
use Rattle.dwc_native.specs.Functions.{Function}
use Rattle.dwc_rules.specs.Carried.{Module}
use Rattle.dwc_native.specs.Parts.{context_label}
use Rattle.dwc_native.specs.Placed.{scope_intervals}
use Rattle.dwc_rules.specs.ContextVariable.{locations_or_none}
use Rattle.dwc_native.specs.ScopesKept.{KeepsScope}
use Rattle.dwc_carried.specs.DefinedFunctions.{DefinedFunction}
use Rattle.dwc_carried.specs.SimulatedUnit.{surroundings_of, label_locations, local_entry, context_entry}
use Rattle.dwc_carried.specs.SimulatedLocations.{IsLabelLocated}
use Rattle.dwc_carried.proofs.LocationScopes.{label-says}

-- the translation of a function's source keeps it as a scope
abbrev pub KeepsSource : Module → Function → Type 0
KeepsSource m f = KeepsScope m.functions (source_range f) (scope_intervals m.functions (source_range f))

-- A local says where it lies, unless that is refused.
pub local-located : (unit : ℕ) (m : Module) (d : DefinedFunction) (label place : ℕ) (ls : List Location) → KeepsSource m d.function → label_locations m d.function label ≡ Ok ls
    → IsLabelLocated (record { module_of = m; function = d.function; label = label }) (settled_entry (λ (goal : Goal). None) (local_entry unit m d label place))
unfolding label_locations
local-located unit m d label place ls kept e = record { located = ls; lies = ap (λ r. Some (locations (locations_or_none r))) e; says = label-says (surroundings_of m d.function) (source_range d.function) label ls kept e }

-- And so does the context.
pub context-located : (pointer : TreeValue) (m : Module) (d : DefinedFunction) (ls : List Location) → KeepsSource m d.function → label_locations m d.function context_label ≡ Ok ls
    → IsLabelLocated (record { module_of = m; function = d.function; label = context_label }) (settled_entry (λ (goal : Goal). None) (context_entry pointer m d))
unfolding label_locations
context-located pointer m d ls kept e = record { located = ls; lies = ap (λ r. Some (locations (locations_or_none r))) e; says = label-says (surroundings_of m d.function) (source_range d.function) context_label ls kept e }
