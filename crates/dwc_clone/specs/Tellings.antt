-- How the attributes of entries are told: which are object pointers, and which have parameters.
use Rattle.std.specs.Prelude.{ℕ, if◌then◌else◌, Bool, false, List, Option, Some, None}
use Rattle.dwc_rules.specs.Kept.{Placed}
use Rattle.dwc_dwarf.specs.Texts.{TextSource}
use Rattle.dwc_dwarf.specs.Values.{Value}
use Rattle.dwc_rules.specs.ObjectPointers.{has_parameters, is_object_pointer, names_no_pointer, unlike_this}
use Rattle.dwc_kept.specs.ReadEntries.{named_offset}
use Rattle.dwc_source.specs.declared.source.CloneSource.{CloneSource}
use Rattle.dwc_clone.specs.declared.object_pointer.Telling.{Telling}
use Rattle.dwc_clone.specs.declared.object_pointer.Telling.TheVariants.{Plain, Function, ObjectPointer}
use Rattle.dwc_clone.specs.ClonedEntries.{Tell}
use Rattle.dwc_source.specs.Sources.{is_within}

-- how the attributes of an entry are told, among those of its section
abbrev pub telling_of : TextSource → List Placed → Placed → Telling
telling_of texts es e = if is_object_pointer texts es e then ObjectPointer else (if has_parameters e then Function else Plain)

-- what becomes of an attribute that was made of an entry
abbrev pub tell_of : Telling → List Placed → Placed → Tell
tell_of Plain es e = Some
tell_of Function es e = names_no_pointer es e
tell_of ObjectPointer es e = unlike_this

-- whether an offset is in the unit, if there is one
abbrev pub is_in_unit : CloneSource → Option ℕ → Bool
is_in_unit c None = false
is_in_unit c (Some offset) = is_within c offset

-- whether what a value names is in the unit
abbrev pub names_within : CloneSource → Value → Bool
names_within c v = is_in_unit c (named_offset c.unit.now.header.offset c.unit.now.header.end v)
