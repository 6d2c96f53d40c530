-- Scopes over which no one expression holds for each byte.
use Rattle.std.specs.Prelude.{◌≡◌, ℕ, List, [], ◌∷◌, Bool, false, ◌&&◌, if◌then◌else◌, Option, Some, Result, Ok, Err}
use Rattle.std.specs.List.{list_all}
use Rattle.std.specs.Str.{bytes_eq}
use Rattle.dwc_dwarf.specs.Trees.{Location}
use Rattle.dwc_native.specs.Built.{location_bytes, value_bytes}
use Rattle.dwc_native.specs.BuiltExpressions.{BuildRefusal, BuiltExpressions}
use Rattle.dwc_native.specs.Compiled.{LabelRange, Place}
use Rattle.dwc_native.specs.Placed.{NativeRange}
use Rattle.dwc_isa.specs.Registers.{Registers}
use Rattle.dwc_expr.specs.PlacedParts.{PlacedPart, cut_by}
use Rattle.dwc_expr.specs.RangeSettings.{with_registers}

-- whether some expressions, of which it is known whether they cover a scope, are one that holds for each byte of it
abbrev pub is_one : Bool → List Location → Bool
is_one covers [] = false
is_one covers (l ∷ ls) = covers && list_all (λ m. bytes_eq m.bytes l.bytes) ls

-- Nothing of what is built is refused, and no one expression of it holds for each byte of the scope.
abbrev pub Varies : Result BuiltExpressions BuildRefusal → Type 0
Varies (Ok built) = is_one built.covers_entire_scope built.expressions ≡ false
Varies (Err refusal) = ⊥

-- the expression of a local at a place
abbrev pub place_expression : Bool → Registers → Place → List ℕ
place_expression trailing registers place = if trailing then location_bytes (with_registers registers) (Some place) else value_bytes (with_registers registers) (Some place)

-- A range has bytes in two pieces, and the expressions of a local there differ.
pub record DifferOn (trailing : Bool) (registers : Registers) (r : NativeRange) (p q : LabelRange) : Type 0 where
  pub one : PlacedPart
  pub other : PlacedPart
  pub is_one : cut_by 0 r p ≡ Some one
  pub is_other : cut_by 0 r q ≡ Some other
  pub differ : bytes_eq (place_expression trailing registers one.place) (place_expression trailing registers other.place) ≡ false
