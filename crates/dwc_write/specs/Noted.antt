-- What a writer notes of entries while they are laid out: those that have lists of a kind.
use Rattle.std.specs.Prelude.{List, [], ◌∷◌, Bool, true, false, if◌then◌else◌}
use Rattle.std.specs.List.{flat_map, list_all}
use Rattle.dwc_unit.specs.declared.attributes.Attribute.{Attribute}
use Rattle.dwc_unit.specs.declared.attributes.AttributeValue.{AttributeValue}
use Rattle.dwc_unit.specs.declared.attributes.AttributeValue.TheVariants.{RangeListRef, LocationListRef}
use Rattle.dwc_unit.specs.declared.lists.ListKind.{ListKind}
use Rattle.dwc_unit.specs.declared.lists.ListKind.TheVariants.{Ranges, Locations}
use Rattle.dwc_unit.specs.GivenUnits.{GivenEntry}

-- whether a value is no range list, and no location list
abbrev pub has_no_ranges : AttributeValue → Bool
has_no_ranges (RangeListRef list) = false
has_no_ranges _ = true

abbrev pub has_no_locations : AttributeValue → Bool
has_no_locations (LocationListRef list) = false
has_no_locations _ = true

-- the same by the kind of list
abbrev pub is_free : ListKind → AttributeValue → Bool
is_free Ranges = has_no_ranges
is_free Locations = has_no_locations

abbrev pub are_free : ListKind → List Attribute → Bool
are_free kind xs = list_all (λ a. is_free kind a.value) xs

-- what has these attributes, where one of them is a list of a kind
abbrev pub if_listed : {A : Type 0} → ListKind → List Attribute → A → List A
if_listed kind xs x = if are_free kind xs then [] else x ∷ []

-- the entries that have such lists
abbrev pub listed_among : ListKind → List GivenEntry → List GivenEntry
listed_among kind es = flat_map (λ e. if_listed kind e.attributes e) es
