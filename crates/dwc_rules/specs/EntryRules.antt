-- What of the code of a unit's entries is carried: which entries are required, what is refused to know that, and what the
-- attributes of the kept ones become. (DWARF 4 and 5, section 2.17; this project's own rules.)
use Rattle.std.specs.Prelude.{ℕ, ◌==◌, List, ◌++◌, map, Bool, false, not, ◌&&◌, ◌||◌, Option, option_map, Result}
use Rattle.dwc_base.specs.declared.records.OutputFor.{OutputFor}
use Rattle.dwc_base.specs.declared.records.OutputFor.TheVariants.{Default, Debugger}
use Rattle.dwc_base.specs.declared.constants.TheConstants.{DW_AT_containing_type, DW_AT_vtable_elem_location, DW_TAG_compile_unit, DW_TAG_ptr_to_member_type}
use Rattle.dwc_base.specs.Sections.{Sections, Fault}
use Rattle.dwc_base.specs.Units.{UnitHeader}
use Rattle.dwc_dwarf.specs.Values.{Value, expression, location_reference, location_index}
use Rattle.dwc_dwarf.specs.Entries.{Entry}
use Rattle.dwc_rules.specs.Kept.{Placed}
use Rattle.dwc_native.specs.Functions.{Function}
use Rattle.dwc_native.specs.Compiled.{ToldModule}
use Rattle.dwc_rules.specs.Drafts.{DraftValue, done}
use Rattle.dwc_dwarf.specs.Lists.{list_source, ListRefusal}
use Rattle.dwc_dwarf.specs.Lists as Lists
use Rattle.dwc_rules.specs.RangeKept as RangeKept
use Rattle.dwc_rules.specs.RangeAttributes.{range_attributes, with_base}
use Rattle.dwc_rules.specs.RangeRefusals.{subprogram_faults, bound_refusal}
use Rattle.dwc_rules.specs.RangeRules.{code_becomes, told_as}
use Rattle.dwc_native.specs.BuiltExpressions.{BuildRefusal, bad_label_range, without_memory, jump_too_large}
use Rattle.dwc_native.specs.BuiltExpressions as Builds
use Rattle.dwc_rules.specs.LocationAttributes.{LocationRefusal}
use Rattle.dwc_rules.specs.LocationAttributes as Locations
use Rattle.dwc_rules.specs.LocationRules.{ExpressionSource, lists_of, expression_becomes, expression_refused, locations_become}
use Rattle.dwc_dwarf.specs.Indexed.{texts_of_unit}
use Rattle.dwc_rules.specs.SyntheticUnit.{place_of_wasm_pointer}
use Rattle.dwc_rules.specs.Wrappers.{WrapperSource, wrapper_refusals}
use Rattle.dwc_rules.specs.ContextVariable.{context_over, location_refusals}
use Rattle.dwc_rules.specs.Refusals.{Refusal, of_place, long_range, bad_label, lacks_memory, unmapped_register, long_jump}
use Rattle.dwc_rules.specs.Clones.{CodeRules}

-- whether an entry of a unit is required, by its begin or by its range list
abbrev pub is_required : List Function → Sections → UnitHeader → Entry → Bool
is_required fs s h e = RangeKept.is_required (list_source s h) fs e

-- What an entry of a unit names that cannot be read, when it is read to know which entries are required.
unfoldable pub named_faults : Sections → UnitHeader → Entry → List Fault
named_faults s h e = subprogram_faults (list_source s h) e

-- what a list, or an interval, is refused for
abbrev pub of_list : ListRefusal → Refusal
of_list (Lists.of_place fault) = of_place fault
of_list Lists.long_range = long_range

-- what an expression is refused for that is built for the module at a place
abbrev pub of_build : ℕ → BuildRefusal → Refusal
of_build place (bad_label_range label) = bad_label label
of_build place without_memory = lacks_memory place
of_build place (Builds.unmapped_register r) = unmapped_register r
of_build place jump_too_large = long_jump

-- what one is refused for that is read and built
abbrev pub of_location : ℕ → LocationRefusal → Refusal
of_location place (Locations.of_place fault) = of_place fault
of_location place (Locations.of_build refusal) = of_build place refusal

-- What an attribute becomes that speaks of code and is no bound, behind some others: an expression, a location list, an address or
-- a range list.
abbrev pub code_value_becomes : ExpressionSource → Placed → List (ℕ × Value) → ℕ → Value → Result (Option DraftValue) Refusal
code_value_becomes c e before name (expression bytes) = told_as (of_location c.told.place) (expression_becomes c e before name bytes)
code_value_becomes c e before name (location_reference n) = locations_become of_list (of_location c.told.place) c e (location_reference n)
code_value_becomes c e before name (location_index i) = locations_become of_list (of_location c.told.place) c e (location_index i)
code_value_becomes c e before name v = told_as of_list (code_becomes (lists_of c) c.functions e.entry.offset v)

-- what is refused of a bound behind some others; an expression in its place is read, and nothing becomes of it
abbrev pub bound_value_refused : ExpressionSource → Placed → List (ℕ × Value) → ℕ → Value → Option Refusal
bound_value_refused c e before name (expression bytes) = option_map (of_location c.told.place) (expression_refused c e before name bytes)
bound_value_refused c e before name v = option_map of_list (bound_refusal (lists_of c) c.functions e.entry before (name, v))

-- what the wrappers of a unit are made with
abbrev pub wrappers_of : ExpressionSource → WrapperSource
wrappers_of c = record { output = c.told.output; texts = texts_of_unit c.sections c.header; entries = c.entries; resolve_memory = c.told.names.resolve_memory; wasm_pointer = place_of_wasm_pointer c.told.memory }

-- What is refused of a kept entry behind its attributes: the name of its wrapper, or the place of the context.
abbrev pub refused_behind : ExpressionSource → Placed → List Refusal
refused_behind c e = map of_place (wrapper_refusals (wrappers_of c) e) ++ map (of_build c.told.place) (location_refusals (context_over c e))

-- What leads a debugger to take a wrapper for a pointer goes for it: the type that virtual functions are found by, but not the class of a
-- pointer to a member; and the place of a virtual function.
abbrev pub is_gone : OutputFor → Entry → ℕ → Bool
is_gone Default e name = false
is_gone Debugger e name = ((name == DW_AT_containing_type) && not (e.tag == DW_TAG_ptr_to_member_type)) || (name == DW_AT_vtable_elem_location)

-- The rules for the code of a unit's entries, of which the module has some.
abbrev pub rules_of_source : ExpressionSource → CodeRules Refusal
rules_of_source c = record {
  of_fault = of_place;
  bounds = λ e. map (λ a. (a.0, done a.1)) (with_base c.told.output (e.entry.tag == DW_TAG_compile_unit) (range_attributes (lists_of c) c.functions e.entry));
  refused_bound = λ e before a. bound_value_refused c e before a.0 a.1;
  other = λ e before a. code_value_becomes c e before a.0 a.1;
  goes = λ e name. is_gone c.told.output e.entry name;
  behind = λ e. refused_behind c e;
}

abbrev pub code_rules : ToldModule → List Function → Sections → UnitHeader → List Placed → CodeRules Refusal
code_rules told fs s h es = rules_of_source (record { sections = s; header = h; functions = fs; told = told; entries = es })
