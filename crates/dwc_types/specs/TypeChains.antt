-- Types that are derived from one another, as they are read, and the names that they have.
use Rattle.std.specs.Prelude.{◌≡◌, ℕ, List, [], ◌∷◌, ◌++◌, ◌==◌, if◌then◌else◌, Option, Some, None, option_map, option_and_then, Result, Ok, Err, codes}
use Rattle.dwc_base.specs.declared.constants.TheConstants.{DW_AT_type, DW_TAG_array_type, DW_TAG_const_type, DW_TAG_pointer_type, DW_TAG_reference_type}
use Rattle.dwc_dwarf.specs.Entries.{Entry, attribute}
use Rattle.dwc_base.specs.Sections.{Fault}
use Rattle.dwc_rules.specs.Refusals.{of_place}
use Rattle.dwc_dwarf.specs.Values.{Value, unit_reference}
use Rattle.dwc_kept.specs.ReadEntries.{named_offset}
use Rattle.dwc_source.specs.declared.error.CloneError.{CloneError}
use Rattle.dwc_source.specs.declared.source.CloneSource.{CloneSource}
use Rattle.dwc_types.specs.declared.type_entry.TypeEntry.{TypeEntry}
use Rattle.dwc_source.specs.Errors.{refusal_told}
use Rattle.dwc_source.specs.MadeValues.{RefusesSo}
use Rattle.dwc_source.specs.OutputPlaces.{place_of}

-- ---- the type of an entry

-- an offset, and a number in the unit of the output
abbrev pub type_view : TypeEntry → ℕ × ℕ
type_view t = (t.offset, t.id.index)

-- the offset that a value names, if it is a reference within the unit
abbrev pub offset_in_unit : CloneSource → Option Value → Option ℕ
offset_in_unit c (Some (unit_reference n)) = named_offset c.unit.now.header.offset c.unit.now.header.end (unit_reference n)
offset_in_unit c _ = None

-- the type of an entry, where the output has it
abbrev pub type_found : CloneSource → Entry → Option (ℕ × ℕ)
type_found c e = option_and_then (λ offset. option_map (λ p. (offset, p.1)) (place_of c.places.now offset)) (offset_in_unit c (attribute DW_AT_type e))

-- ---- names

-- what stands in front of a name for types of some tags, the outermost first
abbrev pub in_front : List ℕ → List ℕ
in_front [] = []
in_front (tag ∷ tags) = (if tag == DW_TAG_const_type then codes "const " else []) ++ in_front tags

-- what stands behind a name for a type of a tag
abbrev pub behind_name : ℕ → List ℕ
behind_name tag = if tag == DW_TAG_pointer_type then codes "*" else (if tag == DW_TAG_reference_type then codes "&" else (if tag == DW_TAG_array_type then codes "[]" else []))

-- and for types of some tags
abbrev pub behind : List ℕ → List ℕ
behind [] = []
behind (tag ∷ tags) = behind tags ++ behind_name tag

-- the name of a chain of types of some tags, by the name of the last
abbrev pub named_chain : List ℕ → List ℕ → List ℕ
named_chain tags last = in_front tags ++ (last ++ behind tags)

-- ---- answers

-- A call gives what is read; or it wants memory, or tells the fault that reading meets.
abbrev pub GivesRead : {A X : Type 0} → (X → A) → Result A Fault → Result X CloneError → Type 0
GivesRead view read (Ok x) = read ≡ Ok (view x)
GivesRead {A} view (Ok a) (Err e) = RefusesSo {A = A} (Ok a) (refusal_told e)
GivesRead {A} view (Err fault) (Err e) = RefusesSo {A = A} (Err (of_place fault)) (refusal_told e)
