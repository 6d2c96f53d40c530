-- What an expression compiles to is whole.
use Rattle.std.proofs.Common.{ℕ, List, Option, Some, None, Result, Ok, Err, IfOk, IfSome}
use Rattle.dwc_native.specs.Parts.{CompiledParts, compiled}
use Rattle.dwc_expr.specs.WholeParts.{IsWhole, IsWholeBase, CompiledPartsAreWhole}
use Rattle.dwc_expr.specs.declared.error.ExprError.{ExprError}
use Rattle.dwc_expr.specs.Compiles.{Compiles}
use Rattle.dwc_expr.proofs.WholeLaws.{compiled-land}
use Rattle.dwc_expr.proofs.Meaning.WholeLaws.{parts-are-whole}

pub compiled-parts-are-whole : CompiledPartsAreWhole
compiled-parts-are-whole base bytes x whole is = parts-are-whole base bytes x whole is (compiled-land base bytes x is)

-- and so is what a compiler answers
pub compiles-whole : (base : Option CompiledParts) (bytes : List ℕ) (r : Result (Option CompiledParts) ExprError) → IsWholeBase base → Compiles (compiled base bytes) r → IfOk r (λ x. IfSome x (λ (c : CompiledParts). IsWhole c))
compiles-whole base bytes (Ok (Some x)) whole is = compiled-parts-are-whole base bytes x whole is
compiles-whole base bytes (Ok None) whole is = tt
compiles-whole base bytes (Err e) whole is = tt
