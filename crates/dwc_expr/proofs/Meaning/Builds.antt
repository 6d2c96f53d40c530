-- What a builder answers means what it should.
use Rattle.std.proofs.Common.{ℕ, List, Result, Ok, Err, IfOk}
use Rattle.dwc_native.specs.Parts.{CompiledParts}
use Rattle.dwc_native.specs.BuiltExpressions.{Surroundings, built_over, IsBounded}
use Rattle.dwc_expr.specs.declared.build.built.BuiltCompiledExpression.{BuiltCompiledExpression}
use Rattle.dwc_expr.specs.declared.error.ExprError.{ExprError}
use Rattle.dwc_expr.specs.Builds.{built_view, Builds}
use Rattle.dwc_expr.specs.BuiltMeanings.{BuiltMean}
use Rattle.dwc_expr.specs.WholeParts.{IsWhole}
use Rattle.dwc_expr.proofs.Meaning.BuiltMeaningLaws.{built-expressions-mean}

pub builds-mean : (s : Surroundings) (scope : List (ℕ × ℕ)) (x : CompiledParts) (r : Result BuiltCompiledExpression ExprError) → IsWhole x → Builds (built_over s scope x) r → IfOk r (λ b. IsBounded s → BuiltMean s scope x (built_view b))
builds-mean s scope x (Ok b) whole is = λ bounded. built-expressions-mean s scope x (built_view b) bounded whole is
builds-mean s scope x (Err e) whole is = tt
