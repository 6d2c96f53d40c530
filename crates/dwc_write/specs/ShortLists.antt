-- Whether the expressions of location lists are short enough for lengths of two bytes, as they are given. (DWARF 4, section 2.6.2.)
use Rattle.std.specs.Prelude.{ℕ, ◌^◌, List, length, Bool, true, nat_lt, if◌then◌else◌}
use Rattle.std.specs.List.{list_all}
use Rattle.dwc_base.specs.declared.records.Address.{Address}
use Rattle.dwc_unit.specs.declared.attributes.Attribute.{Attribute}
use Rattle.dwc_unit.specs.declared.attributes.AttributeValue.{AttributeValue}
use Rattle.dwc_unit.specs.declared.attributes.AttributeValue.TheVariants.{LocationListRef}
use Rattle.dwc_unit.specs.declared.expressions.Expression.{Expression}
use Rattle.dwc_output.specs.Versions.{is_old}
use Rattle.dwc_unit.specs.GivenUnits.{GivenUnit, OrderedUnit, ordered}

abbrev pub is_short_location : Address × ℕ × Expression → Bool
is_short_location l = nat_lt (length l.2) (2 ^ 16)

abbrev pub is_short_value : AttributeValue → Bool
is_short_value (LocationListRef list) = list_all is_short_location list.locations.items
is_short_value _ = true

abbrev pub are_short_values : List Attribute → Bool
are_short_values xs = list_all (λ a. is_short_value a.value) xs

abbrev pub is_short_unit : OrderedUnit → Bool
is_short_unit u = list_all (λ e. are_short_values e.attributes) u.entries

-- those of units; only up to version 4 their lengths have two bytes
abbrev pub are_short_units : ℕ → List GivenUnit → Bool
are_short_units version us = if is_old version then list_all (λ u. is_short_unit (ordered u)) us else true
