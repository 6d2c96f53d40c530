-- The call frames of a compiled function (DWARF 5, section 6.4).
use Rattle.std.specs.Prelude.{Option, option_map}
use Rattle.dwc_native.specs.CallFrames.{FrameDescription}
use Rattle.dwc_native.specs.UnwindRecords.{description_told}
use Rattle.dwc_isa.specs.CallFrames.{description_view, unwind_view}
use Rattle.dwc_compiled.specs.declared.metadata.CompiledFunctionMetadata.{CompiledFunctionMetadata}

-- A function's frame description.
abbrev pub description_of_metadata : CompiledFunctionMetadata → Option FrameDescription
description_of_metadata m = description_told (option_map unwind_view m.unwind_info) (option_map description_view m.cfa_unwind_info)
