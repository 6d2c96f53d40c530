-- What calls answer that put what an expression becomes behind other locations.
use Rattle.std.specs.Prelude.{◌≡◌, ℕ, List, [], ◌∷◌, ◌++◌, map, Bool, true, false, Option, Some, None, Result, Ok, Err}
use Rattle.dwc_base.specs.declared.records.Address.{Address}
use Rattle.dwc_native.specs.BuiltExpressions.{BuildRefusal, BuiltExpressions, Surroundings, built_over}
use Rattle.dwc_native.specs.Parts.{CompiledParts, code}
use Rattle.dwc_base.specs.Reading.{◌>>=◌}
use Rattle.dwc_dwarf.specs.Trees.{Location}
use Rattle.dwc_unit.specs.declared.expressions.Expression.{Expression}
use Rattle.dwc_expr.specs.declared.error.ExprError.{ExprError}
use Rattle.dwc_expr.specs.declared.error.ExprError.TheVariants.{OutOfMemory}
use Rattle.dwc_expr.specs.Builds.{IsTold, location_view}
use Rattle.dwc_expr.specs.Compiles.{TellsPlace}
use Rattle.dwc_expr.specs.Errors.{refusal_told}

-- A list stands in front of another, with whatever is behind it.
pub record IsFront {A : Type 0} (old new : List A) : Type 0 where
  pub rest : List A
  pub is : new ≡ old ++ rest

-- what is built, behind other locations
abbrev pub put_behind : List Location → Result BuiltExpressions BuildRefusal → Result (List Location) BuildRefusal
put_behind old expected = expected >>= λ built. Ok (old ++ built.expressions)

-- A call puts what is built behind others, or tells why it is not built; or it wants memory.
abbrev pub PutsBuilt : Result BuiltExpressions BuildRefusal → List (Address × ℕ × Expression) → List (Address × ℕ × Expression) → Result (Unit {0}) ExprError → Type 0
PutsBuilt expected old new (Ok done) = put_behind (map location_view old) expected ≡ Ok (map location_view new)
PutsBuilt expected old new (Err e) = IsTold expected e (refusal_told e)

-- The same by what the expression compiles to, with whether it is supported. Of one that is not nothing is put; and of one that cannot be
-- read the place is told.
abbrev pub Puts : Surroundings → List (ℕ × ℕ) → List (Address × ℕ × Expression) → List (Address × ℕ × Expression) → Result (Option CompiledParts) ℕ → Result Bool ExprError → Type 0
Puts s scope old new (Ok (Some x)) (Ok supported) = (supported ≡ true) × PutsBuilt (built_over s scope x) old new (Ok tt)
Puts s scope old new (Ok (Some x)) (Err e) = PutsBuilt (built_over s scope x) old new (Err e)
Puts s scope old new (Ok None) (Ok supported) = (supported ≡ false) × (new ≡ old)
Puts s scope old new (Ok None) (Err e) = e ≡ OutOfMemory
Puts s scope old new (Err place) (Ok supported) = ⊥
Puts s scope old new (Err place) (Err e) = TellsPlace {A = Option CompiledParts} (Err place) e

-- operations that stay as they are alone, whose result is a value
abbrev pub constant : List ℕ → CompiledParts
constant bytes = record { parts = code bytes ∷ []; need_deref = false }
