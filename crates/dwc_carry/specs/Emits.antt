-- The answers of emitting DWARF for a compilation: of what is carried before it is written, and of its sections.
use Rattle.std.specs.Prelude.{◌≡◌, ◌⊎◌, ℕ, ◌^◌, ◌<◌, ◌≤◌, List, length, map, true, false, Option, None, IfSome, Result, Ok, Err, Vec, All}
use Rattle.std.specs.Global.{Global}
use Rattle.dwc_base.specs.declared.faults.Limit.{Limit}
use Rattle.dwc_base.specs.declared.faults.Limit.TheVariants.{Section, Expression}
use Rattle.dwc_base.specs.declared.records.Endian.{Endian}
use Rattle.dwc_base.specs.declared.output.DwarfSection.{DwarfSection}
use Rattle.dwc_base.specs.Outputs.{OutputSection, section_view}
use Rattle.dwc_rules.specs.Carried.{Compilation}
use Rattle.dwc_native.specs.CallFrames.{CommonEntry, is_sound_if}
use Rattle.dwc_carried.specs.Forests.{trees_made}
use Rattle.dwc_carried.specs.OutputCarried.{OutputCarried, widest}
use Rattle.dwc_output.specs.Versions.{are_short_in}
use Rattle.dwc_isa.specs.Registers.{Registers}
use Rattle.dwc_addr.specs.Compilations.{CompilationValue}
use Rattle.dwc_frames.specs.Frames.{common_given, descriptions_given}
use Rattle.dwc_unit.specs.GivenUnits.{AreWritable, ordered}
use Rattle.dwc_write.specs.SpelledOutput.{AreSpelled}
use Rattle.dwc_unit.specs.UsedTexts.{HaveTexts}
use Rattle.dwc_section.specs.Writers.{IsSound}
use Rattle.dwc_carry.specs.declared.emit.CarriedDwarf.{CarriedDwarf}
use Rattle.dwc_carry.specs.declared.error.DebugError.{DebugError}
use Rattle.dwc_carry.specs.CompiledFrames.{DescribesAll}
use Rattle.dwc_carry.specs.Refusals.{GivesWithin, Refuses}
use Rattle.dwc_carry.specs.Inputs.{input_of, refusal_of}
use Rattle.dwc_carry.specs.Transformed.{IsTransformed}

-- Sections carry an input, and are sound and spelled; no expression of a location list is too long for their version.
pub record IsEmitted (c : Compilation) (sections : List OutputSection) : Type 0 where
  pub output : OutputCarried c sections
  pub sound : All (IsSound c.order) sections
  pub spelled : AreSpelled c.order sections
  pub short : are_short_in c.version (trees_made c) ≡ true

-- The output of an input passes a limit: an expression of a location list is longer than it can be in the output's version; or where none is,
-- a section could be.
abbrev pub PassesLimit : Compilation → Limit → Type 0
PassesLimit c (Section name) = (are_short_in c.version (trees_made c) ≡ true) × (2 ^ 31 ≤ widest name c)
PassesLimit c Expression = are_short_in c.version (trees_made c) ≡ false
PassesLimit c _ = ⊥

-- Sections are emitted where nothing is refused; or there is a cause: the first refusal; where nothing is refused a limit that the
-- output passes; or want of memory.
abbrev pub Emits : Endian → ℕ → Registers → Option CommonEntry → CompilationValue → Result (Vec DwarfSection Global) DebugError → Type 0
Emits order size registers entry c result =
    GivesWithin (PassesLimit (input_of order size registers entry c)) (λ (s : Vec DwarfSection Global). IsEmitted (input_of order size registers entry c) (map section_view s.items)) (refusal_of order size registers entry c) result

-- What is carried can be written.
pub record IsReady (carried : CarriedDwarf) : Type 0 where
  pub units : AreWritable (map ordered carried.dwarf.units.units.items)
  pub texts : HaveTexts carried.dwarf.strings (map ordered carried.dwarf.units.units.items)
  pub sound : is_sound_if (common_given carried.frames) ≡ true
  pub unit : 0 < length (descriptions_given carried.frames) → 0 < length carried.dwarf.units.units.items

-- It is of a compilation and a target, in version 4 or 5: the units of its input, of which nothing is refused, and the frames of its functions.
pub record IsCarried (order : Endian) (size : ℕ) (registers : Registers) (entry : Option CommonEntry) (c : CompilationValue) (carried : CarriedDwarf) : Type 0 where
  pub order_is : carried.order ≡ order
  pub asked : (c.tunables.dwarf_version ≡ 4) ⊎ (c.tunables.dwarf_version ≡ 5)
  pub accepted : refusal_of order size registers None c ≡ None
  pub units : IsTransformed (input_of order size registers None c) carried.dwarf.strings carried.dwarf.units.units.items
  pub common : common_given carried.frames ≡ entry
  pub frames : IfSome carried.frames (λ table. DescribesAll c table)

-- The DWARF of a compilation is carried where nothing is refused but in its frames; or there is a cause: the first other refusal, or want
-- of memory.
abbrev pub Carries : Endian → ℕ → Registers → Option CommonEntry → CompilationValue → Result CarriedDwarf DebugError → Type 0
Carries order size registers entry c (Ok carried) = IsCarried order size registers entry c carried
Carries order size registers entry c (Err e) = Refuses (refusal_of order size registers None c) e

-- What writing answers: of whatever compilation and target it is carried, the sections are emitted.
abbrev pub Writes : CarriedDwarf → Result (Vec DwarfSection Global) DebugError → Type 0
Writes carried result = (order : Endian) (size : ℕ) (registers : Registers) (entry : Option CommonEntry) (c : CompilationValue) → IsCarried order size registers entry c carried → Emits order size registers entry c result
