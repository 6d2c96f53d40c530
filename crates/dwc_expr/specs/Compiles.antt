-- What compiling an expression answers.
use Rattle.std.specs.Prelude.{◌≡◌, ℕ, ⊤, Option, Result, Ok, Err}
use Rattle.dwc_base.specs.declared.faults.What.TheVariants.{Expression}
use Rattle.dwc_base.specs.declared.section_name.SectionName.TheVariants.{Info}
use Rattle.dwc_native.specs.Parts.{CompiledParts}
use Rattle.dwc_expr.specs.declared.error.ExprError.{ExprError}
use Rattle.dwc_expr.specs.declared.error.ExprError.TheVariants.{Read, TooLarge, BadLabelRange, InvalidAttributeValue, UnmappedRegister, OutOfMemory}

-- An error tells the place of the operation that cannot be read, or want of memory.
abbrev pub TellsPlace : {A : Type 0} → Result A ℕ → ExprError → Type 0
TellsPlace expected (Read what section offset) = (what ≡ Expression) × (section ≡ Info) × (expected ≡ Err offset)
TellsPlace expected TooLarge = ⊥
TellsPlace expected (BadLabelRange label) = ⊥
TellsPlace expected InvalidAttributeValue = ⊥
TellsPlace expected (UnmappedRegister register) = ⊥
TellsPlace expected OutOfMemory = ⊤

-- A call answers what an expression compiles to, or the place of the operation that cannot be read; or it wants memory.
abbrev pub Compiles : Result (Option CompiledParts) ℕ → Result (Option CompiledParts) ExprError → Type 0
Compiles expected (Ok x) = expected ≡ Ok x
Compiles expected (Err e) = TellsPlace expected e
