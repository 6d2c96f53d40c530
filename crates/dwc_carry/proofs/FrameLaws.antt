-- The frame descriptions of the input that a compilation is are those of its compiled functions.
use Rattle.std.proofs.Common.{◌≡◌, ℕ, suc, ◌+◌, refl, ap₂, arith, List, [], ◌∷◌, ◌++◌, length, Option}
use Rattle.std.specs.List.{flat_map}
use Rattle.dwc_base.specs.declared.records.Endian.{Endian}
use Rattle.dwc_base.specs.declared.records.OutputFor.{OutputFor}
use Rattle.dwc_base.specs.declared.translation.ModuleTranslation.{ModuleTranslation}
use Rattle.dwc_native.specs.CallFrames.{CommonEntry}
use Rattle.dwc_native.specs.Compiled.{LinkageNames}
use Rattle.dwc_carried.specs.Forests.{frame_descriptions}
use Rattle.dwc_output.specs.FramesCarried.{descriptions}
use Rattle.dwc_isa.specs.Registers.{Registers}
use Rattle.dwc_isa.specs.declared.memory_offset.ModuleMemoryOffset.{ModuleMemoryOffset}
use Rattle.dwc_addr.specs.Numbers.{Compiled}
use Rattle.dwc_addr.specs.Compilations.{CompilationValue, IsCounted}
use Rattle.dwc_carry.specs.CompiledFrames.{all_frames}
use Rattle.dwc_carry.specs.Inputs.{input_of, modules_from, names_of, told_from}
use Rattle.dwc_carry.proofs.CompiledFrameLaws.{module-frames}
use Rattle.dwc_carry.proofs.CompiledLaws.{counted-length}

-- modules, whose functions are numbered over all of them from a number on
modules-frames : (output : OutputFor) (version : ℕ) (registers : Registers) (names : LinkageNames) (place number : ℕ) (ts : List ModuleTranslation) (fss : List (List Compiled)) (offsets : List ModuleMemoryOffset)
    → length fss ≡ length ts → length offsets ≡ length ts
    → flat_map (λ m. descriptions m.told.frames m.functions) (modules_from output version number ts fss (told_from output registers names place number fss offsets)) ≡ all_frames number fss
modules-frames output version registers names place number [] [] offsets same given = refl
modules-frames output version registers names place number [] (fs ∷ fss) offsets same given = absurd (omega (arith, same))
modules-frames output version registers names place number (t ∷ ts) [] offsets same given = absurd (omega (arith, same))
modules-frames output version registers names place number (t ∷ ts) (fs ∷ fss) [] same given = absurd (omega (arith, given))
modules-frames output version registers names place number (t ∷ ts) (fs ∷ fss) (o ∷ offsets) same given =
    ap₂ ◌++◌ (module-frames output number t.code_section_offset fs) (modules-frames output version registers names (suc place) (number + length fs) ts fss offsets (omega (arith, same)) (omega (arith, given)))

-- The frame descriptions of the input that a compilation is are those of its compiled functions.
pub compilation-frames : (order : Endian) (pointer_bytes : ℕ) (registers : Registers) (entry : Option CommonEntry) (c : CompilationValue) → IsCounted c.translations c.functions c.memory_offsets
    → frame_descriptions (input_of order pointer_bytes registers entry c) ≡ all_frames 0 c.functions
compilation-frames order pointer_bytes registers entry c counted =
    modules-frames c.tunables.output_for c.tunables.dwarf_version registers (names_of c) 0 0 c.translations c.functions c.memory_offsets (counted-length c.translations c.functions c.memory_offsets counted) counted.offsets_given
