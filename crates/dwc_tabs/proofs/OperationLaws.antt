-- The operations of an expression, one by one.
use Rattle.std.proofs.Common.{◌≡◌, ℕ, zero, suc, ◌<◌, ◌≤◌, refl, arith, lit<, length, take, Option, Some, None, Ok, Err, Bool, true, false}
use Rattle.std.specs.Prelude.{◌==◌, nat_lt, if◌then◌else◌}
use Rattle.std.proofs.lemmas.Bool.{eqb-true}
use Rattle.dwc_base.specs.declared.faults.Flaw.{Flaw}
use Rattle.dwc_base.specs.declared.faults.Flaw.TheVariants.{EndsEarly}
use Rattle.dwc_base.specs.Reading.{Unread, Read, coded, number_at, bytes_at, seen_as, number, passed}
use Rattle.dwc_base.specs.Listing.{at_end, no_items, only_fault, with_first}
use Rattle.dwc_dwarf.specs.Values.{fixed, variable, sized_number_at}
use Rattle.dwc_dwarf.specs.Operations.{Operand, unsigned, signed, Operands, one, two, wasm_location, operands_of, index_table, operand_at, index_at, wasm_location_at, operands_at, Operation, operation_at, met_operation, next_operation, operations_from}
use Rattle.dwc_base.proofs.Items.{Leaves, LeavesFewer}
use Rattle.dwc_base.proofs.Takes.{Leaves-bind, Leaves-same, number_at-leaves}
use Rattle.dwc_base.proofs.TakesMore.{Leaves-more, Leaves-seen, uleb_at-leaves, sleb_at-leaves}
use Rattle.dwc_base.proofs.Walks.{GoesOn, walk-end, walk-fault, walk-item}

-- ---- each operation takes a byte at least

number-keeps : (size : ℕ) (u : Unread) → Leaves (number_at size u) (suc (length u.left))
unfolding number_at bytes_at
number-keeps zero u = go (nat_lt (length u.left) 0)
  where
    go : (short : Bool) → Leaves (seen_as (number u.order) (if short then Err EndsEarly else Ok (take 0 u.left, passed 0 u))) (suc (length u.left))
    go true = record { fewer = tt }
    go false = record { fewer = omega arith }
number-keeps (suc n) u = Leaves-more _ _ (number_at-leaves (suc n) u (omega arith))

operand-keeps : (o : Operand) (u : Unread) → Leaves (operand_at o u) (suc (length u.left))
unfolding operand_at sized_number_at
operand-keeps (unsigned (fixed size)) u = number-keeps size u
operand-keeps (unsigned variable) u = Leaves-more _ _ (uleb_at-leaves u)
operand-keeps (signed (fixed size)) u = Leaves-seen _ _ _ (number-keeps size u)
operand-keeps (signed variable) u = Leaves-seen _ _ _ (Leaves-more _ _ (sleb_at-leaves u))

index-keeps : (kind : ℕ) (o : Option Operand) (u : Unread) → Leaves (index_at kind o u) (suc (length u.left))
unfolding index_at
index-keeps kind None u = Leaves-same _ _
index-keeps kind (Some operand) u = Leaves-seen _ _ _ (operand-keeps operand u)

location-keeps : (u : Unread) → Leaves (wasm_location_at u) (suc (length u.left))
unfolding wasm_location_at
location-keeps u = Leaves-bind _ _ _ (number-keeps 1 u) (λ kind. index-keeps kind.0 (coded index_table kind.0) kind.1)

pub operands-keep : (o : Option Operands) (u : Unread) → Leaves (operands_at o u) (suc (length u.left))
unfolding operands_at
operands-keep None u = Leaves-same _ _
operands-keep (Some (one operand)) u = Leaves-seen _ _ _ (operand-keeps operand u)
operands-keep (Some (two operand other)) u = Leaves-bind _ _ _ (operand-keeps operand u) (λ first. Leaves-seen _ _ _ (operand-keeps other first.1))
operands-keep (Some wasm_location) u = location-keeps u

operation-leaves : (u : Unread) → Leaves (operation_at u) (length u.left)
unfolding operation_at
operation-leaves u = Leaves-bind _ _ _ (number_at-leaves 1 u (lit< tt)) (λ opcode. Leaves-bind _ _ _ (operands-keep (operands_of opcode.0) opcode.1) (λ operands. Leaves-same _ _))

-- what is left behind an operation is no more than there was
fewer-of : {A : Type 0} (r : Read A) (n : ℕ) (x : A) (v : Unread) → Leaves r n → r ≡ Ok (x, v) → length v.left < n
fewer-of r n x v h e = let fewer = h.fewer in rw e at fewer

pub left-behind : (u v w : Unread) (opcode : ℕ) (o : Option Operands) (x : ℕ × ℕ) → number_at 1 u ≡ Ok (opcode, v) → operands_at o v ≡ Ok (x, w) → length w.left ≤ length u.left
left-behind u v w opcode o x is are =
    omega (arith, fewer-of (number_at 1 u) (length u.left) opcode v (number_at-leaves 1 u (lit< tt)) is, fewer-of (operands_at o v) (suc (length v.left)) x w (operands-keep o v) are)

-- ---- the walk

next-shrinks : (u v : Unread) → GoesOn (next_operation u) v → length v.left < length u.left
unfolding next_operation
next-shrinks u v goes = go (length u.left == 0) (operation_at u) (operation-leaves u).fewer goes
  where
    go : (empty : Bool) (r : Read Operation) → LeavesFewer r (length u.left) → GoesOn {S = Unread} {F = ℕ} {A = Operation} (elim empty [ true ↦ at_end | false ↦ met_operation u.place r ]) v → length v.left < length u.left
    go true r fewer g = absurd g
    go false (Err flaw) fewer g = absurd g
    go false (Ok x) fewer g = rw g at fewer

-- there is something where an operation stands
is-some : (u : Unread) → 0 < length u.left → length u.left == 0 ≡ false
is-some u some = go (length u.left == 0) refl
  where
    go : (empty : Bool) → length u.left == 0 ≡ empty → empty ≡ false
    go true e = absurd (omega (arith, some, eqb-true (length u.left) 0 e))
    go false e = refl

-- at an operation, at the end, and at one that cannot be read
pub operations-more : (u v : Unread) (o : Operation) → operation_at u ≡ Ok (o, v) → operations_from u ≡ with_first o (operations_from v)
unfolding operations_from next_operation
operations-more u v o h =
    let some : length u.left == 0 ≡ false = is-some u (omega (arith, fewer-of (operation_at u) (length u.left) o v (operation-leaves u) h)) in
    walk-item (λ w. length w.left) next_operation next-shrinks u v o (rw (some, h, next_operation) refl)

pub operations-end : (u : Unread) → length u.left ≡ 0 → operations_from u ≡ no_items
unfolding operations_from next_operation
operations-end u none = walk-end (λ w. length w.left) next_operation next-shrinks u (rw (none, next_operation) refl)

pub operations-flaw : (u : Unread) (flaw : Flaw) → 0 < length u.left → operation_at u ≡ Err flaw → operations_from u ≡ only_fault u.place
unfolding operations_from next_operation
operations-flaw u flaw left h = walk-fault (λ w. length w.left) next_operation next-shrinks u u.place (rw (is-some u left, h, next_operation) refl)
