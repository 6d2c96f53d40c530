-- The operations of native code, one by one.
use Rattle.std.proofs.Common.{◌≡◌, ℕ, ◌<◌, refl, ◌+◌, arith, lit<, List, ◌++◌, length, length-append, Ok, Err, Bool, true, false}
use Rattle.std.specs.Prelude.{◌==◌}
use Rattle.std.proofs.lemmas.Bool.{ne_eqb}
use Rattle.dwc_base.specs.declared.faults.Flaw.{Flaw}
use Rattle.dwc_base.specs.Reading.{Unread, Read}
use Rattle.dwc_base.specs.Listing.{at_end, no_items, only_fault, with_first}
use Rattle.dwc_dwarf.specs.Operations.{Operation, met_operation}
use Rattle.dwc_base.specs.declared.records.Endian.TheVariants.{Little}
use Rattle.dwc_base.specs.Spelling.{unread_at}
use Rattle.dwc_base.proofs.Items.{Leaves, LeavesFewer}
use Rattle.dwc_base.proofs.Takes.{Leaves-bind, Leaves-same, number_at-leaves}
use Rattle.dwc_base.proofs.Walks.{GoesOn, walk-end, walk-fault, walk-item}
use Rattle.dwc_tabs.proofs.OperationLaws.{operands-keep}
use Rattle.dwc_machines.specs.ByteMachine.{native_operands, native_operation_at, next_native_operation, native_operations_from}
use Rattle.dwc_expr.proofs.Meaning.TakenNumbers.{operation_of}
use Rattle.dwc_expr.proofs.Meaning.TakenOperations.{IsOperation}

native-leaves : (u : Unread) → Leaves (native_operation_at u) (length u.left)
unfolding native_operation_at
native-leaves u = Leaves-bind _ _ _ (number_at-leaves 1 u (lit< tt)) (λ opcode. Leaves-bind _ _ _ (operands-keep (native_operands opcode.0) opcode.1) (λ operands. Leaves-same _ _))

-- ---- the walk

native-shrinks : (u v : Unread) → GoesOn (next_native_operation u) v → length v.left < length u.left
unfolding next_native_operation
native-shrinks u v goes = go (length u.left == 0) (native_operation_at u) (native-leaves u).fewer goes
  where
    go : (empty : Bool) (r : Read Operation) → LeavesFewer r (length u.left) → GoesOn {S = Unread} {F = ℕ} {A = Operation} (elim empty [ true ↦ at_end | false ↦ met_operation u.place r ]) v → length v.left < length u.left
    go true r fewer g = absurd g
    go false (Err flaw) fewer g = absurd g
    go false (Ok x) fewer g = rw g at fewer

-- there is something where an operation stands
is-some : (n : ℕ) → 0 < n → n == 0 ≡ false
is-some n some = ne_eqb n 0 (λ e. omega (arith, e))

pub native-more : (u v : Unread) (o : Operation) → 0 < length u.left → native_operation_at u ≡ Ok (o, v) → native_operations_from u ≡ with_first o (native_operations_from v)
unfolding native_operations_from next_native_operation
native-more u v o left h =
    let some : length u.left == 0 ≡ false = is-some (length u.left) left in
    walk-item (λ w. length w.left) next_native_operation native-shrinks u v o (rw (some, h, next_native_operation) refl)

pub native-end : (u : Unread) → length u.left == 0 ≡ true → native_operations_from u ≡ no_items
unfolding native_operations_from next_native_operation
native-end u none = walk-end (λ w. length w.left) next_native_operation native-shrinks u (rw (none, next_native_operation) refl)

pub native-flaw : (u : Unread) (flaw : Flaw) → 0 < length u.left → native_operation_at u ≡ Err flaw → native_operations_from u ≡ only_fault u.place
unfolding native_operations_from next_native_operation
native-flaw u flaw left h = let some : length u.left == 0 ≡ false = is-some (length u.left) left in walk-fault (λ w. length w.left) next_native_operation native-shrinks u u.place (rw (some, h, next_native_operation) refl)

-- an operation that bytes spell, in front of others
pub native-spelled : (bytes : List ℕ) (n : ℕ × ℕ × ℕ) → IsOperation bytes n → (p : ℕ) (more : List ℕ) → native_operations_from (unread_at Little p (bytes ++ more)) ≡ with_first (operation_of p bytes n) (native_operations_from (unread_at Little (p + length bytes) more))
native-spelled bytes n w p more = native-more (unread_at Little p (bytes ++ more)) (unread_at Little (p + length bytes) more) (operation_of p bytes n) (omega (arith, w.some, length-append bytes more)) (w.reads p more)
