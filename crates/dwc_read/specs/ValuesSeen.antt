-- What contracts see of the values of attributes.
use Rattle.std.specs.Prelude.{◌≡◌, ℕ, ◌==◌, List, Option, Some, None, Ok, option_map}
use Rattle.std.specs.List.{find}
use Rattle.dwc_base.specs.Reading.{Unread, Read}
use Rattle.dwc_dwarf.specs.Values as value
use Rattle.dwc_read.specs.declared.value.AttributeValue.{AttributeValue}
use Rattle.dwc_read.specs.declared.value.AttributeValue.TheVariants.{Addr, AddrIndex, Constant, Flag, Block, Exprloc, Text, TextRef, LineRef, RangeRef, RangeIndex, LocRef, LocIndex, UnitRef, InfoRef, Dropped}

abbrev pub value_view : AttributeValue → value.Value
value_view (Addr a) = value.address a
value_view (AddrIndex n) = value.address_index n
value_view (Constant form bits) = value.constant form bits
value_view (Flag b) = value.flag b
value_view (Block bytes) = value.block bytes.now
value_view (Exprloc bytes) = value.expression bytes.now
value_view (Text bytes) = value.text bytes.now
value_view (TextRef form bits) = value.text_reference form bits
value_view (LineRef n) = value.line_reference n
value_view (RangeRef n) = value.range_reference n
value_view (RangeIndex n) = value.range_index n
value_view (LocRef n) = value.location_reference n
value_view (LocIndex n) = value.location_index n
value_view (UnitRef n) = value.unit_reference n
value_view (InfoRef n) = value.info_reference n
value_view Dropped = value.dropped

-- an attribute of an entry: its name and its value
abbrev pub attribute_view : ℕ × AttributeValue → ℕ × value.Value
attribute_view a = (a.0, value_view a.1)

-- the first value of a name
abbrev pub first_value : ℕ → List (ℕ × value.Value) → Option value.Value
first_value name attributes = option_map (λ a. a.1) (find (λ a. a.0 == name) attributes)

-- A reader of some values only gives what reading gives, its value seen by `view`, and goes on behind it; or it gives nothing, and
-- stays where it is.
abbrev pub GivesOrStays : {A B : Type 0} → (A → B) → Read B → Unread → Unread → Option A → Type 0
GivesOrStays view read old new None = new ≡ old
GivesOrStays view read old new (Some x) = read ≡ Ok (view x, new)
