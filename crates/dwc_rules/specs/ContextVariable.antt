-- The variable that leads a debugger to the context of a module, and so to its linear memory. (This project's own entry; DWARF 4 and 5,
-- section 4.1.)
use Rattle.std.specs.Prelude.{ℕ, suc, ◌==◌, List, [], ◌∷◌, true, false, Option, Some, None, option_map, option_to_list, Result, Ok, Err, codes}
use Rattle.dwc_base.specs.declared.constants.TheConstants.{DW_AT_location, DW_AT_name, DW_AT_type, DW_TAG_subprogram, DW_TAG_variable}
use Rattle.dwc_rules.specs.Kept.{Placed}
use Rattle.dwc_dwarf.specs.Trees.{Location, text, locations}
use Rattle.dwc_rules.specs.Drafts.{synthetic_entry, DraftValue, goes_to, Draft}
use Rattle.dwc_rules.specs.MadeEntries.{named, made}
use Rattle.dwc_rules.specs.SyntheticUnit.{place_of_context_pointer}
use Rattle.dwc_native.specs.Parts.{context_label}
use Rattle.dwc_native.specs.BuiltExpressions.{BuildRefusal, label_over}
use Rattle.dwc_rules.specs.LocationAttributes.{InForce}
use Rattle.dwc_rules.specs.LocationRules.{ExpressionSource, in_force_at}

-- ---- where the context lies

-- where it lies over the scope in force, if one is
abbrev pub context_in : InForce → Option (Result (List Location) BuildRefusal)
context_in f = option_map (λ scope. label_over f.surroundings scope context_label) f.scope

-- Where the context lies over the scope in force at a subprogram, if one is; of another entry that is not asked.
unfoldable pub context_over : ExpressionSource → Placed → Option (Result (List Location) BuildRefusal)
context_over c e = elim (e.entry.tag == DW_TAG_subprogram) [ true ↦ context_in (in_force_at c e) | false ↦ None ]

-- the locations, none where they are refused
abbrev pub locations_or_none : Result (List Location) BuildRefusal → List Location
locations_or_none (Ok ls) = ls
locations_or_none (Err refusal) = []

-- why they are refused
abbrev pub location_refusals : Option (Result (List Location) BuildRefusal) → List BuildRefusal
location_refusals None = []
location_refusals (Some (Ok ls)) = []
location_refusals (Some (Err refusal)) = refusal ∷ []

-- ---- the variable

-- The variable at a depth, by its type, which is a pointer to the context, and where it lies, which may be nowhere.
abbrev pub context_variable : ℕ → DraftValue → List Location → Draft
context_variable depth type located = made depth DW_TAG_variable (named DW_AT_name (text (codes "__vmctx")) ∷ (DW_AT_type, type) ∷ named DW_AT_location (locations located) ∷ [])

-- the type of a pointer to the context of the module
abbrev pub context_pointer : ExpressionSource → DraftValue
context_pointer c = goes_to (synthetic_entry (place_of_context_pointer c.told.memory))

-- What an entry gets before its kept children: a subprogram with a scope in force the variable, and all others nothing.
abbrev pub context_entries : ExpressionSource → Placed → List Draft
context_entries c e = option_to_list (option_map (λ located. context_variable (suc e.entry.depth) (context_pointer c) (locations_or_none located)) (context_over c e))
