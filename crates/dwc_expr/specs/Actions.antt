-- What becomes of an operation that is supported, as the definitions have it.
use Rattle.std.specs.Prelude.{◌≡◌, ◌≤◌, ℕ, ℤ, pos, int_lt, int_le, Bool, true, false, not, ◌&&◌, Option, Some, None}
use Rattle.dwc_dwarf.specs.Operations.{Operation, target}
use Rattle.dwc_native.specs.Parts.{Rule, loads_local, adds_to_frame_base, jumps, reads_memory, shifts_right, stays, is_supported_by}
use Rattle.dwc_expr.specs.declared.compile.action.Action.{Action}
use Rattle.dwc_expr.specs.declared.compile.action.Action.TheVariants.{LoadLocal, AddToFrameBase, Jump, ReadMemory, ShiftRight, Stay}

-- An action is what a rule makes of an operation, with the operation's local and with where it jumps to.
abbrev pub IsActionOf : Option Rule → Operation → Action → Type 0
IsActionOf rule o (LoadLocal label) = (rule ≡ Some loads_local) × (label.0 ≡ o.second)
IsActionOf rule o AddToFrameBase = rule ≡ Some adds_to_frame_base
IsActionOf rule o (Jump conditionally place) = (rule ≡ Some (jumps conditionally)) × (target o ≡ pos place)
IsActionOf rule o ReadMemory = rule ≡ Some reads_memory
IsActionOf rule o ShiftRight = rule ≡ Some shifts_right
IsActionOf rule o Stay = rule ≡ Some stays

-- An operation is supported by its rule and has an action, or it is not supported.
abbrev pub GivesAction : Option Rule → Bool → ℕ → Operation → Option Action → Type 0
GivesAction rule has_base size o (Some action) = (is_supported_by rule has_base size o ≡ true) × IsActionOf rule o action
GivesAction rule has_base size o None = is_supported_by rule has_base size o ≡ false

-- A place is told, or it would stand before the first one.
abbrev pub IsReached : ℤ → Option ℕ → Type 0
IsReached to (Some place) = to ≡ pos place
IsReached to None = int_lt to (pos 0) ≡ true

-- A jump to some place stays in an expression of a length, where it is told, or leaves it.
abbrev pub JumpsTo : ℕ → ℤ → Option ℕ → Type 0
JumpsTo size to (Some place) = (to ≡ pos place) × (place ≤ size)
JumpsTo size to None = (not (int_lt to (pos 0)) && int_le to (pos size)) ≡ false
