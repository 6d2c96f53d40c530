-- Compiled expressions, as the definitions have them.
use Rattle.std.specs.Prelude.{}
use Rattle.dwc_native.specs.Parts as definitions
use Rattle.dwc_expr.specs.declared.part.CompiledExpressionPart.{CompiledExpressionPart}
use Rattle.dwc_expr.specs.declared.part.CompiledExpressionPart.TheVariants.{Code, Local, Deref, Jump, LandingPad}

-- a part
abbrev pub part_view : CompiledExpressionPart → definitions.Part
part_view (Code bytes) = definitions.code bytes.items
part_view (Local label trailing) = definitions.local label.0 trailing
part_view Deref = definitions.dereference
part_view (Jump conditionally target) = definitions.jump conditionally target
part_view (LandingPad place) = definitions.landing_pad place
