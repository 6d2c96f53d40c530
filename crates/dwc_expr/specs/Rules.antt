-- What becomes of operations by their codes, as the definitions have it.
use Rattle.std.specs.Prelude.{}
use Rattle.dwc_native.specs.Parts as definitions
use Rattle.dwc_expr.specs.declared.compile.rule.Rule.{Rule}
use Rattle.dwc_expr.specs.declared.compile.rule.Rule.TheVariants.{LoadsLocal, AddsToFrameBase, Jumps, ReadsMemory, ShiftsRight, Stays}

-- a rule
abbrev pub rule_view : Rule → definitions.Rule
rule_view LoadsLocal = definitions.loads_local
rule_view AddsToFrameBase = definitions.adds_to_frame_base
rule_view (Jumps conditionally) = definitions.jumps conditionally
rule_view ReadsMemory = definitions.reads_memory
rule_view ShiftsRight = definitions.shifts_right
rule_view Stays = definitions.stays
