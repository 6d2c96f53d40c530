-- The bytes of a label and of a read of linear memory run as these parts.
use Rattle.std.proofs.Common.{◌≡◌, ℕ, ◌+◌, refl, sym, ap, subst, List, [], ◌∷◌, ◌++◌, append_assoc, Some, Result, Ok, Err, Bool, true}
use Rattle.dwc_base.specs.declared.records.Endian.TheVariants.{Little}
use Rattle.dwc_base.specs.Reading.{◌>>=◌, seen_as}
use Rattle.dwc_base.specs.Spelling.{unread_at}
use Rattle.dwc_dwarf.specs.Values.{fixed, sized_number_at}
use Rattle.dwc_dwarf.specs.Operations.{unsigned, one, operand_at, operands_at}
use Rattle.dwc_native.specs.Parts.{context_label}
use Rattle.dwc_native.specs.Built.{Setting, value_bytes, base_place_bytes, base_added}
use Rattle.dwc_base.specs.declared.constants.TheConstants.{DW_OP_deref, DW_OP_const4u, DW_OP_swap, DW_OP_and, DW_OP_plus}
use Rattle.dwc_base.proofs.Spellings.{Spells-number}
use Rattle.dwc_machines.specs.StackOperations.{Stop, wrapped}
use Rattle.dwc_machines.specs.NativeStates.{NativeState, Piece, Evaluation, pushed, popping}
use Rattle.dwc_machines.specs.PartMachine.{value_of_label, memory_base, native_address}
use Rattle.dwc_expr.specs.RunsAlike.{has_place, has_memory, count_operations}
use Rattle.dwc_expr.proofs.Meaning.MachineSteps.{does}
use Rattle.dwc_expr.proofs.Meaning.Simulations.{Simulates, simulates-one, simulates-both, simulates-as, simulates-count}
use Rattle.dwc_expr.proofs.Meaning.RegisterOperations.{coded-operation, alone-operation}
use Rattle.dwc_expr.proofs.Meaning.ImageOperations.{then_push}
use Rattle.dwc_expr.proofs.Meaning.AddressNumbers.{IsSize, mask}
use Rattle.dwc_expr.proofs.Meaning.LabelImages.{PushesSome, base-some, value-some}

-- ---- the address under the base

-- swap, const4u 0xFFFFFFFF, and, plus
abbrev pub masked : List ℕ
masked = DW_OP_swap ∷ DW_OP_const4u ∷ 0xFF ∷ 0xFF ∷ 0xFF ∷ 0xFF ∷ DW_OP_and ∷ DW_OP_plus ∷ []

mask-reads : (p : ℕ) (more : List ℕ) → operands_at (Some (one (unsigned (fixed 4)))) (unread_at Little p ((0xFF ∷ 0xFF ∷ 0xFF ∷ 0xFF ∷ []) ++ more)) ≡ Ok ((4294967295, 0), unread_at Little (p + 4) more)
unfolding operands_at operand_at sized_number_at
mask-reads p more = ap (seen_as (λ first. (first, 0))) ((Spells-number Little (0xFF ∷ 0xFF ∷ 0xFF ∷ 0xFF ∷ [])).reads p more)

masked-simulates : (n : NativeState) → Simulates n masked (λ v. does n (DW_OP_swap, 0, 0) v >>= λ v. does n (DW_OP_const4u, 4294967295, 0) v >>= λ v. does n (DW_OP_and, 0, 0) v >>= does n (DW_OP_plus, 0, 0)) 4
masked-simulates n =
    simulates-both n (DW_OP_swap ∷ []) (DW_OP_const4u ∷ 0xFF ∷ 0xFF ∷ 0xFF ∷ 0xFF ∷ DW_OP_and ∷ DW_OP_plus ∷ []) (does n (DW_OP_swap, 0, 0)) (λ v. does n (DW_OP_const4u, 4294967295, 0) v >>= λ v. does n (DW_OP_and, 0, 0) v >>= does n (DW_OP_plus, 0, 0)) 1 3
    (simulates-one n (DW_OP_swap ∷ []) (DW_OP_swap, 0, 0) (alone-operation DW_OP_swap refl) refl)
    (simulates-both n (DW_OP_const4u ∷ 0xFF ∷ 0xFF ∷ 0xFF ∷ 0xFF ∷ []) (DW_OP_and ∷ DW_OP_plus ∷ []) (does n (DW_OP_const4u, 4294967295, 0)) (λ v. does n (DW_OP_and, 0, 0) v >>= does n (DW_OP_plus, 0, 0)) 1 2
    (simulates-one n (DW_OP_const4u ∷ 0xFF ∷ 0xFF ∷ 0xFF ∷ 0xFF ∷ []) (DW_OP_const4u, 4294967295, 0) (coded-operation DW_OP_const4u (Some (one (unsigned (fixed 4)))) (0xFF ∷ 0xFF ∷ 0xFF ∷ 0xFF ∷ []) 4294967295 0 refl mask-reads) refl)
    (simulates-both n (DW_OP_and ∷ []) (DW_OP_plus ∷ []) (does n (DW_OP_and, 0, 0)) (does n (DW_OP_plus, 0, 0)) 1 1
    (simulates-one n (DW_OP_and ∷ []) (DW_OP_and, 0, 0) (alone-operation DW_OP_and refl) refl)
    (simulates-one n (DW_OP_plus ∷ []) (DW_OP_plus, 0, 0) (alone-operation DW_OP_plus refl) refl)))

-- what becomes of an address under the base
abbrev pub rebased : NativeState → Result ℕ Stop → Evaluation → Result Evaluation Stop
rebased n base v = base >>= λ b. popping v (λ address rest. Ok (pushed rest (native_address n b address)))

rebases : (n : NativeState) → IsSize n.pointer_bytes → (base : Result ℕ Stop) (v : Evaluation)
    → (then_push base v >>= λ v. does n (DW_OP_swap, 0, 0) v >>= λ v. does n (DW_OP_const4u, 4294967295, 0) v >>= λ v. does n (DW_OP_and, 0, 0) v >>= does n (DW_OP_plus, 0, 0)) ≡ rebased n base v
rebases n k (Err stop) v = refl
rebases n k (Ok base) v = go v.stack v.pieces v.is_value
  where
    go : (stack : List ℕ) (pieces : List Piece) (is_value : Bool)
        → (then_push (Ok base) (record { stack = stack; pieces = pieces; is_value = is_value }) >>= λ v. does n (DW_OP_swap, 0, 0) v >>= λ v. does n (DW_OP_const4u, 4294967295, 0) v >>= λ v. does n (DW_OP_and, 0, 0) v >>= does n (DW_OP_plus, 0, 0))
        ≡ rebased n (Ok base) (record { stack = stack; pieces = pieces; is_value = is_value })
    go [] pieces is_value = refl
    go (address ∷ stack) pieces is_value = ap (λ a. Ok (record { stack = wrapped n.pointer_bytes (base + a) ∷ stack; pieces = pieces; is_value = is_value })) (mask n.pointer_bytes k address)

-- ---- the images

-- bytes that run as an action in as many operations as they are
abbrev pub Runs : NativeState → List ℕ → (Evaluation → Result Evaluation Stop) → Type 0
Runs n bytes action = Simulates n bytes action (count_operations bytes)

counted : (n : NativeState) (bytes : List ℕ) (f : Evaluation → Result Evaluation Stop) (a : ℕ) → Simulates n bytes f a → Runs n bytes f
counted n bytes f a w = subst (λ c. Simulates n bytes f c) (sym (simulates-count n bytes f a w)) w

pub value-runs : (n : NativeState) (s : Setting) (label : ℕ) → IsSize n.pointer_bytes → has_place s label ≡ true → Runs n (value_bytes s (s.place label)) (λ v. value_of_label n s label >>= λ value. Ok (pushed v value))
value-runs n s label k has =
    let w : PushesSome n (value_bytes s (s.place label)) (value_of_label n s label) = value-some n k s (s.place label) has in
    counted n (value_bytes s (s.place label)) (λ v. then_push (value_of_label n s label) v) w.count w.pushes

pub memory-runs : (n : NativeState) (s : Setting) → IsSize n.pointer_bytes → has_memory s.memory ≡ true → has_place s context_label ≡ true → Runs n (base_place_bytes s s.memory (s.place context_label) ++ base_added) (rebased n (memory_base n s))
memory-runs n s k memory context =
    let front : List ℕ = base_place_bytes s s.memory (s.place context_label) in
    let w : PushesSome n (front ++ DW_OP_deref ∷ []) (memory_base n s) = base-some n k s s.memory (s.place context_label) memory context in
    let both : Simulates n ((front ++ DW_OP_deref ∷ []) ++ masked) (rebased n (memory_base n s)) (w.count + 4) =
    simulates-as n ((front ++ DW_OP_deref ∷ []) ++ masked) (λ v. then_push (memory_base n s) v >>= λ v. does n (DW_OP_swap, 0, 0) v >>= λ v. does n (DW_OP_const4u, 4294967295, 0) v >>= λ v. does n (DW_OP_and, 0, 0) v >>= does n (DW_OP_plus, 0, 0)) (rebased n (memory_base n s)) (w.count + 4) (rebases n k (memory_base n s))
    (simulates-both n (front ++ DW_OP_deref ∷ []) masked (λ v. then_push (memory_base n s) v) (λ v. does n (DW_OP_swap, 0, 0) v >>= λ v. does n (DW_OP_const4u, 4294967295, 0) v >>= λ v. does n (DW_OP_and, 0, 0) v >>= does n (DW_OP_plus, 0, 0)) w.count 4 w.pushes (masked-simulates n)) in
    counted n (front ++ base_added) (rebased n (memory_base n s)) (w.count + 4) (subst (λ bs. Simulates n bs (rebased n (memory_base n s)) (w.count + 4)) (append_assoc front (DW_OP_deref ∷ []) masked) both)
