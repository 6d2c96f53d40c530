-- What building an expression over a scope answers.
use Rattle.std.specs.Prelude.{◌≡◌, ℕ, List, map, Option, Some, None, Result, Ok, Err}
use Rattle.std.specs.FinMap as finite
use Rattle.dwc_base.specs.declared.records.Address.{Address}
use Rattle.dwc_native.specs.Functions.{Function}
use Rattle.dwc_dwarf.specs.Trees.{Location}
use Rattle.dwc_native.specs.BuiltExpressions.{BuildRefusal, Surroundings, BuiltExpressions}
use Rattle.dwc_isa.specs.Registers.{Registers}
use Rattle.dwc_unit.specs.declared.expressions.Expression.{Expression}
use Rattle.dwc_unit.specs.RangeLists.{interval_of}
use Rattle.dwc_expr.specs.declared.build.built.BuiltCompiledExpression.{BuiltCompiledExpression}
use Rattle.dwc_expr.specs.declared.error.ExprError.{ExprError}
use Rattle.dwc_expr.specs.declared.error.ExprError.TheVariants.{OutOfMemory}
use Rattle.dwc_expr.specs.declared.frame.FunctionFrameInfo.{FunctionFrameInfo}
use Rattle.dwc_expr.specs.Errors.{refusal_told}
use Rattle.dwc_expr.specs.Frames.{frame_view}

-- what surrounds an expression
abbrev pub surroundings : List Function → Option FunctionFrameInfo → Registers → Surroundings
surroundings fs frame registers = record { functions = fs; frame = frame_view frame; register = λ r. finite.get registers r }

-- a built expression: an address, the length of what it holds for, and its bytes
abbrev pub location_view : Address × ℕ × Expression → Location
location_view e = record { over = interval_of (e.0, e.1); bytes = e.2 }

abbrev pub built_view : BuiltCompiledExpression → BuiltExpressions
built_view b = record { expressions = map location_view b.expressions.items; covers_entire_scope = b.covers_entire_scope }

-- a refusal is the one that is told, and want of memory tells nothing; no other error comes
abbrev pub IsTold : Result BuiltExpressions BuildRefusal → ExprError → Option BuildRefusal → Type 0
IsTold expected e (Some refusal) = expected ≡ Err refusal
IsTold expected e None = e ≡ OutOfMemory

-- A call answers what is built, or why not; or it wants memory.
abbrev pub Builds : Result BuiltExpressions BuildRefusal → Result BuiltCompiledExpression ExprError → Type 0
Builds expected (Ok built) = expected ≡ Ok (built_view built)
Builds expected (Err e) = IsTold expected e (refusal_told e)
