-- Which units and segments of an input are carried, and what it means that an output carries the lines.
use Rattle.std.specs.Prelude.{ℕ, ◌==◌, List, map, Bool, false, ◌&&◌, Option, Some, None}
use Rattle.std.specs.List.{list_any, flat_map}
use Rattle.dwc_base.specs.declared.records.Endian.{Endian}
use Rattle.dwc_base.specs.Sections.{Sections}
use Rattle.dwc_dwarf.specs.Entries.{Entry}
use Rattle.dwc_native.specs.Functions.{Function}
use Rattle.dwc_native.specs.CallFrames.{CommonEntry}
use Rattle.dwc_native.specs.Compiled.{ToldModule}
use Rattle.dwc_base.specs.ToldFiles.{ToldFile}
use Rattle.dwc_dwarf.specs.ReadUnits.{Unit, root}
use Rattle.dwc_rules.specs.Kept.{Placed}
use Rattle.dwc_base.specs.declared.constants.TheConstants.{DW_TAG_compile_unit}

-- a module of an input: its sections, its defined functions, what its code generator and what its file tell of it beside them, the
-- place of its first compressed section, and the version of DWARF that is written for it, 4 or 5
pub record Module : Type 0 where
  pub sections : Sections
  pub functions : List Function
  pub told : ToldModule
  pub file : ToldFile
  pub compressed : Option ℕ
  pub version : ℕ

-- an input, the byte order and address size of the target, the number of the next generated name, what the frames of all functions
-- share, if the target has frames of this kind, and the version of DWARF that is written, 4 or 5
pub record Compilation : Type 0 where
  pub order : Endian
  pub pointer_bytes : ℕ
  pub modules : List Module
  pub next_id : ℕ
  pub common_entry : Option CommonEntry
  pub version : ℕ

-- the entries of some units, with the offset of their unit
abbrev pub placed_entries : List Unit → List Placed
placed_entries us = flat_map (λ u. map (λ e. record { unit = u.header.offset; entry = e }) u.entries) us

-- whether a unit's root has a tag
abbrev pub has_root_tag : ℕ → Unit → Bool
has_root_tag tag u = go (root u)
  where
    go : Option Entry → Bool
    go None = false
    go (Some e) = e.tag == tag

-- a unit is carried where its root is a compile_unit and an entry of it is kept
abbrev pub is_carried_unit : List Placed → Unit → Bool
is_carried_unit kept u = has_root_tag DW_TAG_compile_unit u && list_any (λ p. p.unit == u.header.offset) kept

-- a carried unit with its module
pub record CarriedUnit : Type 0 where
  pub module_of : Module
  pub unit : Unit

-- What a unit of an output is to be: a module's synthetic one, one for a carried unit, or the simulated one, with a file of a name, for the
-- functions of modules that are simulated, since their numbers are none of those that are translated.
pub data WantedUnit : Type 0 where
  synthetic_unit : WantedUnit
  carried_unit : CarriedUnit → WantedUnit
  unit_of_simulated : List ℕ → (ℕ → Bool) → List Module → WantedUnit
