-- Shifts to the right keep the low 32 bits.
use Rattle.std.proofs.Common.{◌≡◌, ℕ, ◌+◌, ◌*◌, ◌^◌, ◌%◌, refl, sym, ap, subst, ◌∙◌, arith, List, [], ◌∷◌, ◌++◌, append-nil, Option, Some, Result, Ok, Err, Bool, true, false}
use Rattle.std.specs.Prelude.{option_map, if◌then◌else◌, ok_or}
use Rattle.dwc_base.specs.Reading.{◌>>=◌, coded}
use Rattle.dwc_dwarf.specs.Values.{is_one_of}
use Rattle.dwc_dwarf.specs.Operations.{operands_of, Operation}
use Rattle.dwc_native.specs.Parts.{CompiledParts, rule_of, shifts_right, moved_up, parts_by, parts_of}
use Rattle.dwc_native.specs.Built.{Setting}
use Rattle.dwc_base.specs.declared.constants.TheConstants.{DW_OP_shr, DW_OP_shra}
use Rattle.dwc_machines.specs.StackOperations.{Stop, not_known, divides_by_0, is_literal, stack_rule, wrapped, combines, shifted_right, shifted_right_signed, by_rule}
use Rattle.dwc_machines.specs.NativeStates.{NativeState, Piece, Evaluation, with_stack}
use Rattle.dwc_machines.specs.ByteMachine.{native_rule, native_operands, performed}
use Rattle.dwc_machines.specs.WasmMachine.{WasmState, wasm_rules, by_wasm_rule, wasm_step}
use Rattle.dwc_expr.specs.WholeParts.{is_jump_rule}
use Rattle.dwc_expr.specs.MeaningPremises.{constants, is_count}
use Rattle.dwc_expr.proofs.Meaning.MachineSteps.{does}
use Rattle.dwc_expr.proofs.Meaning.Simulations.{Simulates, simulates-one, simulates-both}
use Rattle.dwc_expr.proofs.Meaning.StraightParts.{straight_bytes}
use Rattle.dwc_machines.proofs.LowNumbers.{Low, ok-is}
use Rattle.dwc_expr.proofs.Meaning.KeptRecords.{IsCountTop, Made, IsInput, native-input}
use Rattle.dwc_expr.proofs.Meaning.MeaningSteps.{no-count}
use Rattle.dwc_expr.proofs.Meaning.LowMemory.{IsStackRule}
use Rattle.dwc_expr.proofs.Meaning.BasedActs.{acts}
use Rattle.dwc_expr.proofs.Meaning.ShiftedRight.{ShiftsLow, moved-simulates, moves-up, moves_up, right-low, signed-low}

module _ (n : NativeState) (s : Setting) (w : WasmState) (addresses : n.pointer_bytes ≡ 8) where
  module _ (base : Option CompiledParts) (label : Option ℕ) (before : Option Operation) (o : Operation) (t : List ℕ) (input : IsInput o) where
    pub right-acts : (c : ℕ) (f : ℕ → ℕ → ℕ → Option ℕ) → is_count before ≡ true → o.opcode ≡ c → rule_of c ≡ Some shifts_right → IsStackRule c f → is_literal c ≡ false → is_one_of constants c ≡ false → (ShiftsLow n s w addresses base label before o t input) f → (acts n s w addresses base label before o t input)
    unfolding wasm_step
    right-acts c f counted is rule known literal constant shifts = record {
      action = λ v. (moves_up n s w addresses base label before o t input) v >>= does n (o.opcode, o.first, o.second);
      count = 6;
      simulates =
          let parts : straight_bytes s (parts_of base o) ≡ moved_up ++ o.bytes = ap (λ k. straight_bytes s (parts_by (rule_of k) base o)) is ∙ ap (λ k. straight_bytes s (parts_by k base o)) rule ∙ append-nil (moved_up ++ o.bytes) in
          let same : native_operands o.opcode ≡ operands_of o.opcode = ap native_operands is ∙ known.operands ∙ ap operands_of (sym is) in
          let free : is_jump_rule (native_rule o.opcode) ≡ false = ap (λ k. is_jump_rule (native_rule k)) is ∙ ap is_jump_rule known.native in
          subst (λ bs. Simulates n bs (λ v. (moves_up n s w addresses base label before o t input) v >>= does n (o.opcode, o.first, o.second)) 6) (sym parts)
          (simulates-both n moved_up o.bytes (moves_up n s w addresses base label before o t input) (does n (o.opcode, o.first, o.second)) 5 1 (moved-simulates n s w addresses base label before o t input)
          (simulates-one n o.bytes (o.opcode, o.first, o.second) (native-input o same input) free));
      keeps = λ v u g h. go v.stack v.pieces v.is_value t u g.low (g.count counted) g.pieces g.mark (sym (narrow t) ∙ h);
    }
      where
        narrow : (t : List ℕ) → by_wasm_rule w label o t (coded wasm_rules o.opcode) ≡ by_rule 4 o.first (combines f) t
        narrow t =
            ap (λ k. by_wasm_rule w label o t (coded wasm_rules k)) is
            ∙ ap (by_wasm_rule w label o t) known.wasm
            ∙ ap (λ k. ok_or (stack_rule k) not_known >>= λ rule. by_rule 4 o.first rule t) is
            ∙ ap (λ k. ok_or k not_known >>= λ rule. by_rule 4 o.first rule t) known.stack

        does-shift : (v : Evaluation) → does n (o.opcode, o.first, o.second) v ≡ (by_rule 8 o.first (combines f) v.stack >>= λ s. Ok (with_stack v s))
        does-shift v =
            ap (λ k. does n (k, o.first, o.second) v) is
            ∙ ap (λ b. if◌then◌else◌ {A = Result Evaluation Stop} b (ok_or (native_rule c) not_known >>= λ rule. performed n rule o.first o.second v) (Err not_known)) (known.known o.first)
            ∙ ap (λ k. ok_or k not_known >>= λ rule. performed n rule o.first o.second v) known.native
            ∙ ap (λ size. by_rule size o.first (combines f) v.stack >>= λ s. Ok (with_stack v s)) addresses

        go : (stack : List ℕ) (pieces : List Piece) (is_value : Bool) (t u : List ℕ) → Low stack t → IsCountTop stack → pieces ≡ [] → is_value ≡ false → by_rule 4 o.first (combines f) t ≡ Ok u
            → Made ((moves_up n s w addresses base label before o t input) (record { stack = stack; pieces = pieces; is_value = is_value }) >>= does n (o.opcode, o.first, o.second)) o false u
        go [] pieces is_value t u l top none mark h = absurd top
        go (k ∷ stack) pieces is_value [] u l top none mark h = absurd l
        go (k ∷ []) pieces is_value (d ∷ []) u l top none mark h = absurd (cc)
        go (k ∷ []) pieces is_value (d ∷ b ∷ t) u l top none mark h = absurd l.1
        go (k ∷ a ∷ stack) pieces is_value (d ∷ []) u l top none mark h = absurd l.1
        go (k ∷ a ∷ stack) pieces is_value (d ∷ b ∷ t) u l top none mark h =
            let same : k ≡ d = omega (arith, top, (l.0).0) in
            let shift = shifts a k top in
            let there : by_rule 4 o.first (combines f) (d ∷ b ∷ t) ≡ Ok (shift.1 ∷ t) = ap (λ q. ok_or (option_map (λ c. c ∷ t) q) divides_by_0) (ap (λ z. f 4 z d) (sym ((l.1).0).0) ∙ ap (f 4 (a % 2 ^ 32)) (sym same) ∙ shift.3) in
            record {
              made = record { stack = shift.0 ∷ stack; pieces = pieces; is_value = is_value };
              is =
                  ap (λ q. q >>= does n (o.opcode, o.first, o.second)) ((moves-up n s w addresses base label before o t input) k a stack pieces is_value)
                  ∙ does-shift (record { stack = wrapped 8 (k + 32) ∷ wrapped 8 (a * 2 ^ 32) ∷ stack; pieces = pieces; is_value = is_value })
                  ∙ ap (λ q. ok_or (option_map (λ c. c ∷ stack) q) divides_by_0 >>= λ s. Ok (record { stack = s; pieces = pieces; is_value = is_value })) shift.2;
              good = record {
                low = subst (Low (shift.0 ∷ stack)) (ok-is (sym there ∙ h)) (shift.4, (l.1).1);
                count = λ j. no-count o c is literal constant j [] (shift.0 ∷ stack) (Ok (shift.0 ∷ stack)) refl;
                pieces = none;
                mark = mark;
              };
            }

    pub shr-acts : is_count before ≡ true → o.opcode ≡ DW_OP_shr → (acts n s w addresses base label before o t input)
    shr-acts counted is = right-acts DW_OP_shr shifted_right counted is refl (record { operands = refl; native = refl; known = λ first. refl; wasm = refl; stack = refl }) refl refl (right-low n s w addresses base label before o t input)

    pub shra-acts : is_count before ≡ true → o.opcode ≡ DW_OP_shra → (acts n s w addresses base label before o t input)
    shra-acts counted is = right-acts DW_OP_shra shifted_right_signed counted is refl (record { operands = refl; native = refl; known = λ first. refl; wasm = refl; stack = refl }) refl refl (signed-low n s w addresses base label before o t input)
