-- What the attributes of a kept entry become that speak of code, but for expressions and location lists. (This project's own rules.)
use Rattle.std.specs.Prelude.{ℕ, List, [], map, false, Option, Some, None, option_map, Result, Ok, Err}
use Rattle.dwc_base.specs.declared.faults.What.TheVariants.{AddressValue}
use Rattle.dwc_base.specs.declared.section_name.SectionName.TheVariants.{Info}
use Rattle.dwc_base.specs.Listing.{Listing}
use Rattle.dwc_base.specs.Sections.{fault_of}
use Rattle.dwc_dwarf.specs.Values.{Value, address, address_index, range_reference, range_index}
use Rattle.dwc_native.specs.Functions.{Function}
use Rattle.dwc_dwarf.specs.Trees.{Interval, TreeValue}
use Rattle.dwc_rules.specs.Drafts.{DraftValue, done}
use Rattle.dwc_dwarf.specs.RawLists.{ListSource}
use Rattle.dwc_dwarf.specs.Lists.{ListRefusal, of_place, ranges_of_value}
use Rattle.dwc_rules.specs.RangeAttributes.{carried_address, carried_ranges, range_attributes}
use Rattle.dwc_rules.specs.RangeRefusals.{bound_refusal}
use Rattle.dwc_rules.specs.Clones.{CodeRules}

-- ---- rules

-- all items of a listing, where it has no fault
abbrev pub all_items : {F A : Type 0} → Listing F A → Result (List A) F
all_items xs = elim xs.fault [ None ↦ Ok xs.items | Some fault ↦ Err fault ]

-- a value that something becomes, as one of an entry whose references still go to goals
abbrev pub drafted : TreeValue → Option DraftValue
drafted v = Some (done v)

-- what the intervals of a list become
abbrev pub list_becomes : List Function → Result (List Interval) ListRefusal → Result (Option DraftValue) ListRefusal
list_becomes fs (Ok is) = Ok (drafted (carried_ranges fs is))
list_becomes fs (Err refusal) = Err refusal

-- What an address, or a range list, becomes of an entry at an offset; what says nothing of code becomes nothing.
unfoldable pub code_becomes : ListSource → List Function → ℕ → Value → Result (Option DraftValue) ListRefusal
code_becomes s fs offset (address a) = Ok (drafted (carried_address fs a))
code_becomes s fs offset (address_index i) = elim (s.indexed i) [ Ok a ↦ Ok (drafted (carried_address fs a)) | Err flaw ↦ Err (of_place (fault_of AddressValue Info offset flaw)) ]
code_becomes s fs offset (range_reference n) = list_becomes fs (all_items (ranges_of_value s offset (range_reference n)))
code_becomes s fs offset (range_index i) = list_becomes fs (all_items (ranges_of_value s offset (range_index i)))
code_becomes s fs offset v = Ok None

-- a result whose refusal is told as another
abbrev pub told_as : {A E F : Type 0} → (E → F) → Result A E → Result A F
told_as told (Ok x) = Ok x
told_as told (Err refusal) = Err (told refusal)

-- The rules for the code of a unit's entries, but for expressions and location lists, `told` being what a refusal is told as.
abbrev pub range_rules : {E : Type 0} → (ListRefusal → E) → ListSource → List Function → CodeRules E
range_rules told s fs = record {
  of_fault = λ fault. told (of_place fault);
  bounds = λ e. map (λ a. (a.0, done a.1)) (range_attributes s fs e.entry);
  refused_bound = λ e before a. option_map told (bound_refusal s fs e.entry before a);
  other = λ e before a. told_as told (code_becomes s fs e.entry.offset a.1);
  goes = λ e name. false;
  behind = λ e. [];
}
