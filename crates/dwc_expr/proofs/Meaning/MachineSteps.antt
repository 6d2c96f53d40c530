-- Steps of the machine on bytes, one after another.
use Rattle.std.proofs.Common.{◌≡◌, ℕ, zero, suc, ◌+◌, refl, ap, ◌∙◌, arith, List, ◌++◌, length, drop, Option, Some, None, Result, Ok, Err, Bool, true, false, true≢false}
use Rattle.std.specs.Prelude.{if◌then◌else◌, ok_or}
use Rattle.std.proofs.Math.Seq.{drop-append_seam}
use Rattle.dwc_base.specs.declared.records.Endian.TheVariants.{Little}
use Rattle.dwc_base.specs.Reading.{Unread, ◌>>=◌}
use Rattle.dwc_base.specs.Spelling.{unread_at}
use Rattle.dwc_dwarf.specs.Operations.{Operation}
use Rattle.dwc_machines.specs.StackOperations.{Stop, not_known}
use Rattle.dwc_machines.specs.NativeStates.{NativeState, Evaluation}
use Rattle.dwc_machines.specs.ByteMachine.{NativeRule, on_stack_alone, from_register, from_any_register, from_frame, reads_address, reads_bytes, jumps, marks_value, makes_piece, makes_bit_piece, native_rule, is_known, decoded, performed, by_native_rule, byte_step, stepped}
use Rattle.dwc_expr.specs.WholeParts.{is_jump_rule}
use Rattle.dwc_expr.proofs.Meaning.TakenNumbers.{operation_of}
use Rattle.dwc_expr.proofs.Meaning.TakenOperations.{IsOperation, decoded-as}

-- ---- steps

-- steps behind steps
pub stepped-more : {S : Type 0} (step : S → Result S Stop) (a b : ℕ) (s : S) → stepped step (a + b) s ≡ (stepped step a s >>= stepped step b)
stepped-more {S} step a zero s = let e : a + zero ≡ a = omega arith in ap (λ k. stepped step k s) e ∙ go (stepped step a s)
  where
    go : (r : Result S Stop) → r ≡ (r >>= stepped step zero)
    go (Ok t) = refl
    go (Err stop) = refl
stepped-more {S} step a (suc b) s = let e : a + suc b ≡ suc (a + b) = omega arith in ap (λ k. stepped step k s) e ∙ ap (λ r. r >>= step) (stepped-more step a b s) ∙ go (stepped step a s)
  where
    go : (r : Result S Stop) → ((r >>= stepped step b) >>= step) ≡ (r >>= stepped step (suc b))
    go (Ok t) = refl
    go (Err stop) = refl

-- the same, from where the first steps lead
pub stepped-on : {S : Type 0} (step : S → Result S Stop) (a b : ℕ) (s t : S) (r : Result S Stop) → stepped step a s ≡ Ok t → stepped step b t ≡ r → stepped step (a + b) s ≡ r
stepped-on step a b s t r first second = stepped-more step a b s ∙ ap (λ q. q >>= stepped step b) first ∙ second

-- ---- what an operation does to an evaluation

abbrev pub does : NativeState → ℕ × ℕ × ℕ → Evaluation → Result Evaluation Stop
does n o v = if is_known o.0 o.1 then (ok_or (native_rule o.0) not_known >>= λ rule. performed n rule o.1 o.2 v) else Err not_known

-- an operation that does not jump makes what it does, and goes on behind it
pub by-rule : (n : NativeState) (size : ℕ) (v : Evaluation) (o : Operation × Unread) (rule : Option NativeRule) → is_jump_rule rule ≡ false
    → by_native_rule n size v o rule ≡ ((ok_or rule not_known >>= λ r. performed n r o.0.first o.0.second v) >>= λ made. Ok (record { place = o.1.place; made = made }))
by-rule n size v o None free = refl
by-rule n size v o (Some (jumps conditionally)) free = absurd (true≢false free)
by-rule n size v o (Some (on_stack_alone rule)) free = refl
by-rule n size v o (Some (from_register r)) free = refl
by-rule n size v o (Some from_any_register) free = refl
by-rule n size v o (Some from_frame) free = refl
by-rule n size v o (Some reads_address) free = refl
by-rule n size v o (Some reads_bytes) free = refl
by-rule n size v o (Some marks_value) free = refl
by-rule n size v o (Some makes_piece) free = refl
by-rule n size v o (Some makes_bit_piece) free = refl

pub drop-front : (front bytes : List ℕ) → drop (length front) (front ++ bytes) ≡ bytes
drop-front front bytes = drop-append_seam front bytes

-- One step at an operation that does not jump, which stands behind some bytes and in front of others.
pub step-at : (n : NativeState) (bytes : List ℕ) (o : ℕ × ℕ × ℕ) → IsOperation bytes o → is_jump_rule (native_rule o.0) ≡ false → (front rest : List ℕ) (v : Evaluation)
    → byte_step n (front ++ (bytes ++ rest)) (record { place = length front; made = v }) ≡ (does n o v >>= λ made. Ok (record { place = length front + length bytes; made = made }))
unfolding byte_step
step-at n bytes o w free front rest v =
    ap (λ bs. decoded (unread_at Little (length front) bs) >>= λ p. by_native_rule n (length (front ++ (bytes ++ rest))) v p (native_rule p.0.opcode)) (drop-front front (bytes ++ rest))
    ∙ ap (λ r. r >>= λ p. by_native_rule n (length (front ++ (bytes ++ rest))) v p (native_rule p.0.opcode)) (decoded-as bytes o w (length front) rest)
    ∙ go (is_known o.0 o.1)
  where
    go : (known : Bool)
        → (if◌then◌else◌ {A = Result (Operation × Unread) Stop} known (Ok (operation_of (length front) bytes o, unread_at Little (length front + length bytes) rest)) (Err not_known) >>= λ p. by_native_rule n (length (front ++ (bytes ++ rest))) v p (native_rule p.0.opcode))
        ≡ (if◌then◌else◌ {A = Result Evaluation Stop} known (ok_or (native_rule o.0) not_known >>= λ rule. performed n rule o.1 o.2 v) (Err not_known) >>= λ made. Ok (record { place = length front + length bytes; made = made }))
    go true = by-rule n (length (front ++ (bytes ++ rest))) v (operation_of (length front) bytes o, unread_at Little (length front + length bytes) rest) (native_rule o.0) free
    go false = refl
