-- The errors of expressions, and what they tell.
use Rattle.std.specs.Prelude.{Option, Some, None}
use Rattle.dwc_native.specs.BuiltExpressions.{BuildRefusal, bad_label_range, without_memory, unmapped_register, jump_too_large}
use Rattle.dwc_expr.specs.declared.error.ExprError.{ExprError}
use Rattle.dwc_expr.specs.declared.error.ExprError.TheVariants.{Read, TooLarge, BadLabelRange, InvalidAttributeValue, UnmappedRegister, OutOfMemory}

-- why an expression is not built, if an error tells it
abbrev pub refusal_told : ExprError → Option BuildRefusal
refusal_told (Read what section offset) = None
refusal_told TooLarge = Some jump_too_large
refusal_told (BadLabelRange label) = Some (bad_label_range label.0)
refusal_told InvalidAttributeValue = Some without_memory
refusal_told (UnmappedRegister register) = Some (unmapped_register register.0)
refusal_told OutOfMemory = None
