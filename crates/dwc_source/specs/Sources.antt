-- What the entries of a unit are cloned with.
use Rattle.std.specs.Prelude.{◌≡◌, ℕ, ◌≤◌, ◌<◌, ◌==◌, ◌&&◌, nat_le, nat_lt, Bool, List, length, slice_get, true, is_some, Option, Some, None, option_and_then, Contains, Ok}
use Rattle.dwc_base.specs.declared.constants.TheConstants.{DW_TAG_formal_parameter}
use Rattle.dwc_dwarf.specs.Values.{Value}
use Rattle.dwc_dwarf.specs.LineRows.{LineTable}
use Rattle.dwc_rules.specs.Kept.{Placed, parent_of}
use Rattle.dwc_dwarf.specs.Entries as entries
use Rattle.dwc_rules.specs.Targets.{target_of}
use Rattle.dwc_rules.specs.TypeNames.{type_of}
use Rattle.dwc_rules.specs.SyntheticUnit.{place_of_context_pointer, place_of_wasm_pointer}
use Rattle.dwc_dwarf.specs.Indexed.{texts_of_unit}
use Rattle.dwc_rules.specs.Clones.{UnitSource}
use Rattle.dwc_read.specs.Lone.{lone_entry, unread_from}
use Rattle.dwc_isa.specs.ToldModules.{memory_view}
use Rattle.dwc_kept.specs.ReadEntries.{named_offset}
use Rattle.dwc_unit.specs.declared.attributes.DebugInfoRef.{DebugInfoRef}
use Rattle.dwc_unit.specs.declared.attributes.DebugInfoRef.TheVariants.{Entry}
use Rattle.dwc_source.specs.declared.files.UnitFiles.{UnitFiles}
use Rattle.dwc_source.specs.declared.source.CloneSource.{CloneSource}
use Rattle.dwc_source.specs.OutputPlaces.{place_of}

-- the files of a unit of a version, by its line table, for an output of a version
abbrev pub AreFiles : UnitFiles → ℕ → ℕ → Option LineTable → Type 0
AreFiles files output version None = (files.output_version ≡ output) × (files.version ≡ version) × (files.count ≡ None)
AreFiles files output version (Some t) = (files.output_version ≡ output) × (files.version ≡ t.header.version) × (files.count ≡ Some (length t.files))

-- the unit of an entry that a reference names
abbrev pub unit_of : DebugInfoRef → ℕ
unit_of (Entry unit entry) = unit.index

-- the number of the module's own unit
abbrev pub synthetic_unit_of : CloneSource → ℕ
synthetic_unit_of c = unit_of c.vmctx_ptr

-- a reference to the entry at a place of that unit
abbrev pub synthetic_place : CloneSource → ℕ → DebugInfoRef
synthetic_place c place = Entry (record { index = synthetic_unit_of c }) (record { index = place })

-- An entry of the unit is in the output.
pub record IsEmitted (c : CloneSource) (s : UnitSource) (e : Placed) : Type 0 where
  pub among : Contains s.entries e
  pub unit : e.unit ≡ c.unit.now.header.offset
  pub kept : is_some (place_of c.places.now e.entry.offset) ≡ true

-- An entry of the unit is read alone as it is, but for its depth.
pub record IsReadAlone (c : CloneSource) (e : entries.Entry) : Type 0 where
  pub read : entries.Entry
  pub is : lone_entry c.unit.now (unread_from c.unit.now e.offset) ≡ Ok read
  pub offset : read.offset ≡ e.offset
  pub tag : read.tag ≡ e.tag
  pub attributes : read.attributes ≡ e.attributes

-- whether an offset is in the unit
abbrev pub is_within : CloneSource → ℕ → Bool
is_within c offset = nat_le c.unit.now.header.offset offset && nat_lt offset c.unit.now.header.end

-- What the attributes of a unit's entries are read with is as the definitions have it, for the unit of a number of the output: texts and
-- files, of each reference the entry of the output that its target becomes, by its offset, that the unit's own entries are in that unit, and
-- which those are; which entries of the module's own unit are meant; of types that they are in the output, and read alone as they are; and
-- that parameters are in the output with their functions.
pub record IsSource (c : CloneSource) (number : ℕ) (s : UnitSource) : Type 0 where
  pub version : s.version ≡ c.unit.now.header.version
  pub texts : s.texts ≡ texts_of_unit c.unit.now.sections c.unit.now.header
  pub files : AreFiles c.files s.output_version s.version s.table
  pub targets : (e : Placed) (v : Value) → e.unit ≡ c.unit.now.header.offset → option_and_then (λ f. place_of c.places.now f.entry.offset) (target_of s.entries e v) ≡ option_and_then (place_of c.places.now) (named_offset c.unit.now.header.offset c.unit.now.header.end v)
  pub named : (e f : Placed) (v : Value) → e.unit ≡ c.unit.now.header.offset → target_of s.entries e v ≡ Some f → is_some (place_of c.places.now f.entry.offset) ≡ true → named_offset c.unit.now.header.offset c.unit.now.header.end v ≡ Some f.entry.offset
  pub inside : (f : Placed) → Contains s.entries f → (f.unit == c.unit.now.header.offset) ≡ is_within c f.entry.offset
  pub own : (offset : ℕ) (p : ℕ × ℕ) → c.unit.now.header.offset ≤ offset → offset < c.unit.now.header.end → place_of c.places.now offset ≡ Some p → p.0 ≡ number
  pub context : c.vmctx_ptr ≡ synthetic_place c (place_of_context_pointer (memory_view c.module.memory))
  pub address : c.wasm_ptr ≡ synthetic_place c (place_of_wasm_pointer (memory_view c.module.memory))
  pub types : (e f : Placed) → IsEmitted c s e → type_of s.entries e ≡ Some f → IsEmitted c s f
  pub alone : (e : Placed) → IsEmitted c s e → IsReadAlone c e.entry
  pub parameters : (e p : Placed) → IsEmitted c s p → Contains s.entries e → e.entry.tag ≡ DW_TAG_formal_parameter → parent_of s.entries e ≡ Some p → IsEmitted c s e

-- The entries of the unit that are in the output are some, in file order, with numbers from 0 on.
pub record AreEmitted (c : CloneSource) (s : UnitSource) (number : ℕ) (es : List entries.Entry) : Type 0 where
  pub each : (i : ℕ) (e : entries.Entry) → slice_get es i ≡ Some e → place_of c.places.now e.offset ≡ Some (number, i)
  pub all : (f : Placed) → IsEmitted c s f → Contains es f.entry

-- an entry of the unit that is cloned
abbrev pub placed_entry : CloneSource → entries.Entry → Placed
placed_entry c e = record { unit = c.unit.now.header.offset; entry = e }
