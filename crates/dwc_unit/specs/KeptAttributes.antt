-- Attributes as they are kept, and as they are given.
use Rattle.std.specs.Prelude.{[], ◌∷◌}
use Rattle.dwc_base.specs.declared.records.Address.TheVariants as address
use Rattle.dwc_unit.specs.declared.attributes.Attribute.{Attribute}
use Rattle.dwc_unit.specs.declared.attributes.AttributeValue.{AttributeValue}
use Rattle.dwc_unit.specs.declared.attributes.AttributeValue.TheVariants as value
use Rattle.dwc_unit.specs.declared.attributes.DebugInfoRef.TheVariants as reference
use Rattle.dwc_unit.specs.declared.attributes.Held.{Held}
use Rattle.dwc_unit.specs.declared.attributes.Held.TheVariants as held
use Rattle.dwc_unit.specs.declared.attributes.Kept.{Kept}
use Rattle.dwc_unit.specs.declared.attributes.Kept.TheVariants as kept

-- the attribute that is kept
abbrev pub given : Kept → Attribute
given (kept.Constant name form bits) = record { name = name; value = value.Constant form bits }
given (kept.Flag name flag) = record { name = name; value = value.Flag flag }
given (kept.Text name id) = record { name = name; value = value.StringRef id }
given (kept.Lines name) = record { name = name; value = value.LineProgramRef }
given (kept.Entry name id) = record { name = name; value = value.UnitRef id }
given (kept.Symbol name symbol addend) = record { name = name; value = value.Address (address.Symbol symbol addend) }
given (kept.UnitEntry name unit id) = record { name = name; value = value.DebugInfoRef (reference.Entry (record { index = unit }) id) }
given (kept.Short name bytes) = record { name = name; value = value.Exprloc bytes }
given (kept.Expression name bytes) = record { name = name; value = value.Exprloc bytes.value.items }
given (kept.Ranges name list) = record { name = name; value = value.RangeListRef list.value }
given (kept.NoLocations name) = record { name = name; value = value.LocationListRef (record { locations = record { items = [] } }) }
given (kept.Location name location) = record { name = name; value = value.LocationListRef (record { locations = record { items = location.value ∷ [] } }) }
given (kept.Locations name list) = record { name = name; value = value.LocationListRef list.value }
given (kept.Block name bytes) = record { name = name; value = value.Block bytes.value }
given (kept.Address name address) = record { name = name; value = value.Address address.value }
given (kept.Reference name reference) = record { name = name; value = value.DebugInfoRef reference.value }

-- the value that is held
abbrev pub value_of_held : Held → AttributeValue
value_of_held (held.Address address) = value.Address address
value_of_held (held.Constant form bits) = value.Constant form bits
value_of_held (held.Flag flag) = value.Flag flag
value_of_held (held.Block bytes) = value.Block bytes.now
value_of_held (held.Exprloc bytes) = value.Exprloc bytes.now
value_of_held (held.StringRef id) = value.StringRef id
value_of_held held.LineProgramRef = value.LineProgramRef
value_of_held (held.RangeListRef list) = value.RangeListRef list.now
value_of_held (held.LocationListRef locations) = value.LocationListRef (record { locations = record { items = locations.now } })
value_of_held (held.UnitRef id) = value.UnitRef id
value_of_held (held.DebugInfoRef reference) = value.DebugInfoRef reference
