-- Operations are read from a front of the bytes.
use Rattle.std.proofs.Common.{◌≡◌, ℕ, ◌+◌, ◌-◌, ◌<◌, refl, sym, ap, ◌∙◌, arith, List, [], ◌∷◌, ◌++◌, length, length-append, take, Option, Ok, Err}
use Rattle.std.specs.Prelude.{if◌then◌else◌}
use Rattle.std.proofs.Math.Seq.{take-append_seam}
use Rattle.dwc_base.specs.declared.records.Endian.TheVariants.{Little}
use Rattle.dwc_base.specs.Reading.{Unread, Read, number_at, bytes_at}
use Rattle.dwc_base.specs.Spelling.{unread_at}
use Rattle.dwc_dwarf.specs.Operations.{Operands, operands_of, Operation, bytes_read as bytes_taken, operation_at}
use Rattle.dwc_machines.specs.StackOperations.{not_known}
use Rattle.dwc_machines.specs.ByteMachine.{native_operands, native_operation_at, is_known, met, decoded}
use Rattle.dwc_expr.proofs.Meaning.TakenBytes.{Took, ok-value, ok-rest}
use Rattle.dwc_expr.proofs.Meaning.TakenNumbers.{input-made, made, native-made, numbers_at, operation_of, takes-numbers}

-- ---- an operation that was read

-- An operation was taken from the front: these are its bytes, and its numbers are read from them anywhere.
pub record TookOperation (table : ℕ → Option Operands) (place : ℕ) (bytes : List ℕ) (o : Operation) (v : Unread) : Type 0 where
  pub taken : List ℕ
  pub rest : List ℕ
  pub whole : bytes ≡ taken ++ rest
  pub behind : v ≡ unread_at Little (place + length taken) rest
  pub is : o ≡ operation_of place taken (o.opcode, o.first, o.second)
  pub some : 0 < length taken
  pub again : (p : ℕ) (more : List ℕ) → numbers_at table (unread_at Little p (taken ++ more)) ≡ Ok ((o.opcode, o.first, o.second), unread_at Little (p + length taken) more)

taken-again : (p q : ℕ) (taken more : List ℕ) → bytes_taken (unread_at Little p (taken ++ more)) (unread_at Little q more) ≡ taken
taken-again p q taken more =
    let long : length (taken ++ more) - length more ≡ length taken = omega (arith, length-append taken more) in
    ap (λ k. take k (taken ++ more)) long ∙ take-append_seam taken more

nonempty : (table : ℕ → Option Operands) (taken : List ℕ) (n : ℕ × ℕ × ℕ) → numbers_at table (unread_at Little 0 (taken ++ [])) ≡ Ok (n, unread_at Little (0 + length taken) []) → 0 < length taken
unfolding number_at bytes_at
nonempty table [] n h = absurd (cc)
nonempty table (b ∷ bs) n h = omega arith

took : (table : ℕ → Option Operands) (place : ℕ) (bytes : List ℕ) (o : Operation) (v : Unread) → made (unread_at Little place bytes) (numbers_at table (unread_at Little place bytes)) ≡ Ok (o, v) → TookOperation table place bytes o v
took table place bytes o v h = go (numbers_at table (unread_at Little place bytes)) refl h
  where
    go : (r : Read (ℕ × ℕ × ℕ)) → numbers_at table (unread_at Little place bytes) ≡ r → made (unread_at Little place bytes) r ≡ Ok (o, v) → TookOperation table place bytes o v
    go (Err flaw) e h = absurd (cc)
    go (Ok n) e h =
        let w : Took (numbers_at table) place bytes n.0 n.1 = (takes-numbers table).takes place bytes n.0 n.1 e in
        let own : operation_of place (bytes_taken (unread_at Little place bytes) n.1) n.0 ≡ o = ok-value h in
        let same : n.0 ≡ (o.opcode, o.first, o.second) = ap (λ (p : Operation). (p.opcode, p.first, p.second)) own in
        record {
          taken = w.taken;
          rest = w.rest;
          whole = w.whole;
          behind = sym (ok-rest h) ∙ w.behind;
          is = sym own
              ∙ ap (λ u. operation_of place (bytes_taken (unread_at Little place bytes) u) n.0) w.behind
              ∙ ap (λ bs. operation_of place (bytes_taken (unread_at Little place bs) (unread_at Little (place + length w.taken) w.rest)) n.0) w.whole
              ∙ ap (λ bs. operation_of place bs n.0) (taken-again place (place + length w.taken) w.taken w.rest)
              ∙ ap (operation_of place w.taken) same;
          some = nonempty table w.taken n.0 (w.again 0 []);
          again = λ p more. w.again p more ∙ ap (λ m. Ok (m, unread_at Little (p + length w.taken) more)) same;
        }

pub took-native : (place : ℕ) (bytes : List ℕ) (o : Operation) (v : Unread) → native_operation_at (unread_at Little place bytes) ≡ Ok (o, v) → TookOperation native_operands place bytes o v
took-native place bytes o v h = took native_operands place bytes o v (sym (native-made (unread_at Little place bytes)) ∙ h)

pub took-input : (place : ℕ) (bytes : List ℕ) (o : Operation) (v : Unread) → operation_at (unread_at Little place bytes) ≡ Ok (o, v) → TookOperation operands_of place bytes o v
took-input place bytes o v h = took operands_of place bytes o v (sym (input-made (unread_at Little place bytes)) ∙ h)

-- ---- bytes that spell an operation of native code

-- These bytes are one operation with these numbers.
pub record IsOperation (bytes : List ℕ) (n : ℕ × ℕ × ℕ) : Type 0 where
  pub some : 0 < length bytes
  pub reads : (p : ℕ) (more : List ℕ) → native_operation_at (unread_at Little p (bytes ++ more)) ≡ Ok (operation_of p bytes n, unread_at Little (p + length bytes) more)

pub is-operation : (bytes : List ℕ) (n : ℕ × ℕ × ℕ) → 0 < length bytes → ((p : ℕ) (more : List ℕ) → numbers_at native_operands (unread_at Little p (bytes ++ more)) ≡ Ok (n, unread_at Little (p + length bytes) more)) → IsOperation bytes n
is-operation bytes n some reads = record {
  some = some;
  reads = λ p more.
      native-made (unread_at Little p (bytes ++ more))
      ∙ ap (made (unread_at Little p (bytes ++ more))) (reads p more)
      ∙ ap (λ bs. Ok (operation_of p bs n, unread_at Little (p + length bytes) more)) (taken-again p (p + length bytes) bytes more);
}

-- an operation that was taken is spelled by its bytes
pub taken-is : (place : ℕ) (bytes : List ℕ) (o : Operation) (v : Unread) (w : TookOperation native_operands place bytes o v) → IsOperation w.taken (o.opcode, o.first, o.second)
taken-is place bytes o v w = is-operation w.taken (o.opcode, o.first, o.second) w.some w.again

-- what it is decoded as, anywhere
pub decoded-as : (bytes : List ℕ) (n : ℕ × ℕ × ℕ) → IsOperation bytes n → (p : ℕ) (more : List ℕ) → decoded (unread_at Little p (bytes ++ more)) ≡ (if is_known n.0 n.1 then Ok (operation_of p bytes n, unread_at Little (p + length bytes) more) else Err not_known)
unfolding decoded
decoded-as bytes n w p more = ap (met (bytes ++ more)) (w.reads p more)
