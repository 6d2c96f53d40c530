-- The definitions that stay shut, as a set: a proof that computes on literals names it on its `unfolding` line.
use Rattle.std.proofs.Common.{ℕ}
use Rattle.std.specs.Int.{int_wrap}
use Rattle.std.specs.Str.{is_utf8, chars}
use lib.Utf8.{encode}
use Rattle.std.specs.Fmt.{digits}
use Rattle.dwc_carried.specs.SimulatedFunctions.{simulated_functions}
use Rattle.dwc_carried.specs.SimulatedUnit.{label_locations, simulated_unit, simulated_refusals}
use Rattle.dwc_worked.proofs.OnLiterals.{lines_on_literals}
use Rattle.dwc_dwarf.specs.Texts.{text_elsewhere, text_named, path_text}
use Rattle.dwc_dwarf.specs.Indexed.{root_offsets, offset_of_root, index_base, address_from, address_named, texts_of_unit}
use Rattle.dwc_rules.specs.Targets.{target_of, entry_begun_at}
use Rattle.dwc_rules.specs.KeptEntries.{kept_with}
use Rattle.dwc_rules.specs.KeptModules.{kept_module}
use Rattle.dwc_rules.specs.Clones.{value_becomes, bound_becomes, attribute_becomes, attributes_become, attributes_made, entry_refusals}
use Rattle.dwc_rules.specs.CarriedDrafts.{source_of, carried_drafts}
use Rattle.dwc_rules.specs.ReachedEntries.{info_faults, kept_refusals, module_refusals}
use Rattle.dwc_dwarf.specs.RawLists.{list_named, pair_at, entry_of_kind_at, kind_and_entry_at, raw_entry_at, raw_ranges}
use Rattle.dwc_dwarf.specs.Lists.{first_base_of, list_source, interval_given, base_behind, intervals_given, ranges_at, ranges_of_value}
use Rattle.dwc_native.specs.Runs.{runs, native_offset, translated, native_ranges, native_in_function, native}
use Rattle.dwc_rules.specs.RangeAttributes.{begun_function, extent, range_attributes}
use Rattle.dwc_native.specs.ScopesKept.{native_of_intervals}
use Rattle.dwc_rules.specs.RangeRefusals.{bound_refusal}
use Rattle.dwc_rules.specs.RangeRules.{code_becomes}
use Rattle.dwc_rules.specs.RangeKept.{list_shows_code, is_required}
use Rattle.dwc_dwarf.specs.RawLists.{raw_locations, raw_location_at}
use Rattle.dwc_dwarf.specs.Lists.{locations_of_value, locations_at}
use Rattle.dwc_rules.specs.Scopes.{lineage, scope_in_force, frame_in_force}
use Rattle.dwc_dwarf.specs.ExpressionPlaces.{attribute_ends, entry_ends, value_ends}
use Rattle.dwc_rules.specs.LocationRules.{frame_at, in_force_at, expression_becomes, expression_refused, locations_become}
use Rattle.dwc_rules.specs.EntryRules.{named_faults}
use Rattle.dwc_worked.proofs.OnExpressions.{attributes_on_literals}
use Rattle.dwc_rules.specs.DraftForests.{forest}
use Rattle.dwc_rules.specs.SyntheticUnit.{synthetic_unit}
use Rattle.dwc_rules.specs.TypeNames.{name_along, type_name}
use Rattle.dwc_rules.specs.Wrappers.{wrapper_refusals, entries_made}
use Rattle.dwc_rules.specs.ObjectPointers.{is_object_pointer, pointers_changed}
use Rattle.dwc_rules.specs.ContextVariable.{context_over}
use Rattle.dwc_output.specs.TreeReading.{locations_read, value_said, unit_said, trees}

-- what runs and translations are made of
unfoldable pub runs_on_literals : ℕ
unfolding runs native_offset translated native_ranges native_in_function native
runs_on_literals = 0

-- and what is made of range lists
unfoldable pub ranges_given_on_literals : ℕ
unfolding runs_on_literals interval_given base_behind intervals_given ranges_at ranges_of_value begun_function extent native_of_intervals range_attributes bound_refusal code_becomes int_wrap
ranges_given_on_literals = 0

-- and what is made of wrapped entries, object pointers and contexts
unfoldable pub wrappers_on_literals : ℕ
unfolding lines_on_literals is_utf8 chars encode text_elsewhere text_named target_of name_along type_name wrapper_refusals entries_made is_object_pointer pointers_changed context_over
wrappers_on_literals = 0

unfoldable pub drafts_on_literals : ℕ
unfolding digits simulated_functions label_locations simulated_unit simulated_refusals wrappers_on_literals ranges_given_on_literals attributes_on_literals path_text root_offsets offset_of_root index_base address_from address_named texts_of_unit entry_begun_at kept_with kept_module value_becomes bound_becomes attribute_becomes attributes_become attributes_made entry_refusals source_of carried_drafts info_faults kept_refusals module_refusals synthetic_unit list_named pair_at entry_of_kind_at kind_and_entry_at raw_entry_at raw_ranges first_base_of list_source list_shows_code is_required named_faults locations_of_value locations_at raw_locations raw_location_at lineage scope_in_force frame_in_force frame_at in_force_at attribute_ends entry_ends value_ends expression_becomes expression_refused locations_become forest locations_read value_said unit_said trees
drafts_on_literals = 0
