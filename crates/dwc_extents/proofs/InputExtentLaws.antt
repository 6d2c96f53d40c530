-- What the input says of the code of an entry, by its range list or by its bounds.
use Rattle.std.proofs.Common.{◌≡◌, refl, ap, Option, Some, None}
use Rattle.std.specs.Prelude.{option_map, option_and_then}
use Rattle.dwc_base.specs.declared.records.Address.{Address}
use Rattle.dwc_base.specs.declared.constants.TheConstants.{DW_AT_high_pc, DW_AT_low_pc}
use Rattle.dwc_dwarf.specs.Entries.{Entry, attribute}
use Rattle.dwc_rules.specs.EntryRules.{of_list}
use Rattle.dwc_dwarf.specs.Lists.{ranges_of_value}
use Rattle.dwc_rules.specs.RangeAttributes.{intervals, position, address_said, extent, extent_of_bounds, interval_to, range_list_of}
use Rattle.dwc_rules.specs.RangeRefusals.{bounds_refusal}
use Rattle.dwc_dwarf.specs.RawLists.{ListSource}
use Rattle.dwc_dwarf.specs.Values.{Value}

module _ (s : ListSource) (e : Entry) where
  pub listed-is : (v : Value) → Some v ≡ range_list_of e → intervals (ranges_of_value s e.offset v).items ≡ extent s e
  unfolding extent
  listed-is v is = ap (λ (o : Option Value). elim (option_map (λ w. (ranges_of_value s e.offset w).items) o) [ Some is ↦ intervals is | None ↦ extent_of_bounds s e ]) is

  pub bounded-is : None ≡ range_list_of e → extent_of_bounds s e ≡ extent s e
  unfolding extent
  bounded-is is = ap (λ (o : Option Value). elim (option_map (λ w. (ranges_of_value s e.offset w).items) o) [ Some is ↦ intervals is | None ↦ extent_of_bounds s e ]) is

  module _ (low : Address) (said : Some low ≡ address_said s DW_AT_low_pc e) where
    pub position-is : None ≡ option_and_then (interval_to s low) (attribute DW_AT_high_pc e) → position low ≡ extent_of_bounds s e
    position-is high = rw (← said, ← high) refl

    -- A low_pc alone is not refused.
    pub unrefused-alone : None ≡ option_and_then (interval_to s low) (attribute DW_AT_high_pc e) → option_map of_list (bounds_refusal s e) ≡ None
    unrefused-alone high = go (range_list_of e) refl
      where
        go : (o : Option Value) → range_list_of e ≡ o → option_map of_list (bounds_refusal s e) ≡ None
        go None is = rw (is, ← said, ← high, bounds_refusal) refl
        go (Some v) is = rw (is, bounds_refusal) refl
