-- The first operation of bytes that are whole operations without jumps, and a step of the parts at it.
use Rattle.std.proofs.Common.{◌≡◌, ℕ, ◌+◌, ◌<◌, refl, sym, ap, subst, ◌∙◌, arith, List, ◌∷◌, ◌++◌, length, drop, Option, Some, None, is_none, Result, Ok, Err, Bool, true, false, true≢false}
use Rattle.std.specs.Prelude.{if◌then◌else◌, ok_or, ◌&&◌, ◌||◌, not}
use Rattle.std.specs.List.{list_any}
use Rattle.dwc_base.specs.declared.records.Endian.TheVariants.{Little}
use Rattle.dwc_base.specs.Reading.{Unread, Read, ◌>>=◌}
use Rattle.dwc_base.specs.Listing.{Listing}
use Rattle.dwc_base.specs.Spelling.{unread_at}
use Rattle.dwc_dwarf.specs.Operations.{Operation}
use Rattle.dwc_native.specs.Parts.{Part, code}
use Rattle.dwc_native.specs.Built.{Setting}
use Rattle.dwc_machines.specs.StackOperations.{Stop, not_known}
use Rattle.dwc_machines.specs.NativeStates.{NativeState, Evaluation}
use Rattle.dwc_machines.specs.ByteMachine.{NativeRule, native_rule, native_operation_at, native_operations_from, native_operands, is_known, decoded, performed}
use Rattle.dwc_machines.specs.PartMachine.{PartState, behind_operation, after_operation, after_part}
use Rattle.dwc_expr.specs.WholeParts.{is_jump_rule, is_jump_code, are_straight}
use Rattle.dwc_expr.proofs.Meaning.TakenOperations.{TookOperation, took-native, IsOperation, taken-is, decoded-as}
use Rattle.dwc_expr.proofs.Meaning.TakenNumbers.{operation_of}
use Rattle.dwc_expr.proofs.Meaning.OperationWalks.{native-more, native-flaw}
use Rattle.dwc_expr.proofs.Meaning.MachineSteps.{does}

-- what is left at a place is whole operations without jumps
abbrev pub IsStraightAt : ℕ → List ℕ → Type 0
IsStraightAt place bytes = are_straight (native_operations_from (unread_at Little place bytes)) ≡ true

-- The first operation, and what is left behind it.
pub record First (place : ℕ) (bytes : List ℕ) : Type 0 where
  pub taken : List ℕ
  pub rest : List ℕ
  pub numbers : ℕ × ℕ × ℕ
  pub whole : bytes ≡ taken ++ rest
  pub is : IsOperation taken numbers
  pub free : is_jump_rule (native_rule numbers.0) ≡ false
  pub later : IsStraightAt (place + length taken) rest

parts-straight : (whole jumps others : Bool) → (whole && not (jumps || others)) ≡ true → (jumps ≡ false) × ((whole && not others) ≡ true)
parts-straight true false false h = (refl, refl)
parts-straight true false true h = absurd (true≢false (sym h))
parts-straight true true others h = absurd (true≢false (sym h))
parts-straight false jumps others h = absurd (true≢false (sym h))

pub straight-first : (place b : ℕ) (bs : List ℕ) → IsStraightAt place (b ∷ bs) → First place (b ∷ bs)
straight-first place b bs straight = go (native_operation_at (unread_at Little place (b ∷ bs))) refl
  where
    left : 0 < length (b ∷ bs)
    left = omega arith

    go : (r : Read Operation) → native_operation_at (unread_at Little place (b ∷ bs)) ≡ r → First place (b ∷ bs)
    go (Err flaw) e = absurd (true≢false (sym straight ∙ ap are_straight (native-flaw (unread_at Little place (b ∷ bs)) flaw left e)))
    go (Ok p) e =
        let w : TookOperation native_operands place (b ∷ bs) p.0 p.1 = took-native place (b ∷ bs) p.0 p.1 e in
        let l : Listing ℕ Operation = native_operations_from p.1 in
        let facts = parts-straight (is_none l.fault) (is_jump_code (p.0)) (list_any is_jump_code l.items) (sym (ap are_straight (native-more (unread_at Little place (b ∷ bs)) p.1 p.0 left e)) ∙ straight) in
        record {
          taken = w.taken;
          rest = w.rest;
          numbers = ((p.0).opcode, (p.0).first, (p.0).second);
          whole = w.whole;
          is = taken-is place (b ∷ bs) p.0 p.1 w;
          free = facts.0;
          later = subst (λ u. are_straight (native_operations_from u) ≡ true) w.behind facts.1;
        }

-- a step of a part that is bytes, at an operation
pub code-step : (n : NativeState) (s : Setting) (ps : List Part) (at : PartState) (c taken rest : List ℕ) (o : ℕ × ℕ × ℕ) → drop at.inside c ≡ taken ++ rest → IsOperation taken o
    → after_part n s ps at (code c) ≡ (does n o at.made >>= λ made. Ok (behind_operation at.part (at.inside + length taken) rest made))
code-step n s ps at c taken rest o stands w =
    ap (λ bs. decoded (unread_at Little at.inside bs) >>= λ p. after_operation n at.part at.made p (native_rule p.0.opcode)) stands
    ∙ ap (λ r. r >>= λ p. after_operation n at.part at.made p (native_rule p.0.opcode)) (decoded-as taken o w at.inside rest)
    ∙ go (is_known o.0 o.1)
  where
    by : (rule : Option NativeRule) → after_operation n at.part at.made (operation_of at.inside taken o, unread_at Little (at.inside + length taken) rest) rule
        ≡ ((ok_or rule not_known >>= λ r. performed n r o.1 o.2 at.made) >>= λ made. Ok (behind_operation at.part (at.inside + length taken) rest made))
    by None = refl
    by (Some rule) = refl

    go : (known : Bool)
        → (if◌then◌else◌ {A = Result (Operation × Unread) Stop} known (Ok (operation_of at.inside taken o, unread_at Little (at.inside + length taken) rest)) (Err not_known) >>= λ p. after_operation n at.part at.made p (native_rule p.0.opcode))
        ≡ (if◌then◌else◌ {A = Result Evaluation Stop} known (ok_or (native_rule o.0) not_known >>= λ rule. performed n rule o.1 o.2 at.made) (Err not_known) >>= λ made. Ok (behind_operation at.part (at.inside + length taken) rest made))
    go true = by (native_rule o.0)
    go false = refl
