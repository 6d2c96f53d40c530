-- Operations whose low 32 bits depend on the low 32 bits of what they take.
use Rattle.std.proofs.Common.{◌≡◌, ℕ, ◌-◌, ◌*◌, ◌^◌, ◌%◌, ◌<◌, refl, sym, ap, subst, ◌∙◌, inl, inr, arith, List, [], ◌∷◌, append-nil, Option, Some, Ok, true, false, ltb}
use Rattle.std.specs.Prelude.{ok_or, bit_and, bit_or, bit_xor}
use Rattle.std.proofs.lemmas.Bool.{lt-ltb}
use Rattle.dwc_base.proofs.InLists.{IsIn}
use Rattle.dwc_base.specs.Reading.{◌>>=◌, coded}
use Rattle.dwc_dwarf.specs.Operations.{operands_of, Operation}
use Rattle.dwc_native.specs.Parts.{CompiledParts, rule_of, parts_by, parts_of}
use Rattle.dwc_native.specs.Built.{Setting, value_bytes}
use Rattle.dwc_base.specs.declared.constants.TheConstants.{DW_OP_deref, DW_OP_dup, DW_OP_drop, DW_OP_over, DW_OP_pick, DW_OP_swap, DW_OP_rot, DW_OP_and, DW_OP_minus, DW_OP_mul, DW_OP_neg, DW_OP_not, DW_OP_or, DW_OP_plus, DW_OP_plus_uconst, DW_OP_shl, DW_OP_xor, DW_OP_fbreg, DW_OP_nop, DW_OP_stack_value, DW_OP_WASM_location}
use Rattle.dwc_machines.specs.StackOperations.{register_missing, wrapped, adds, picks, combines, changes, moves, sum_of, difference, product_of, shifted_left, duplicated, dropped, copied_over, swapped, rotated, by_rule}
use Rattle.dwc_machines.specs.NativeStates.{NativeState, pushed}
use Rattle.dwc_machines.specs.ByteMachine.{native_rule, native_operands}
use Rattle.dwc_machines.specs.PartMachine.{value_of_label}
use Rattle.dwc_machines.specs.WasmMachine.{WasmState, wasm_rules, by_wasm_rule, wasm_step}
use Rattle.dwc_expr.specs.RunsAlike.{count_operations}
use Rattle.dwc_expr.specs.WholeParts.{is_jump_rule}
use Rattle.dwc_expr.specs.MeaningPremises.{low_operations, is_count}
use Rattle.dwc_expr.proofs.Meaning.MachineSteps.{does}
use Rattle.dwc_expr.proofs.Meaning.Simulations.{Simulates, simulates-one}
use Rattle.dwc_expr.proofs.Meaning.PartImages.{value-runs}
use Rattle.dwc_expr.proofs.Meaning.StraightParts.{straight_bytes}
use Rattle.dwc_machines.proofs.LowBits.{low-shifted_left}
use Rattle.dwc_machines.proofs.LowNumbers.{Low, Gives, ok-is, keeps-adds, keeps-picks}
use Rattle.dwc_machines.proofs.LowCombinations.{keeps-combines, keeps-changes, low-sums, low-differences, low-products, low-ands, low-ors, low-xors, low-negs, low-nots}
use Rattle.dwc_machines.proofs.LowMoves.{keeps-duplicated, keeps-dropped, keeps-copied_over, keeps-swapped, keeps-rotated, keeps-stack}
use Rattle.dwc_expr.proofs.Meaning.KeptRecords.{IsCountTop, IsInput, Acts, native-input}
use Rattle.dwc_expr.proofs.Meaning.MeaningSteps.{stack-acts, no-count, plain-acts}
use Rattle.dwc_expr.proofs.Meaning.LowValues.{IsLoaded, is-size, small, value-wrapped}

module _ (n : NativeState) (s : Setting) (w : WasmState) (addresses : n.pointer_bytes ≡ 8) where
  module _ (base : Option CompiledParts) (label : Option ℕ) (before : Option Operation) (o : Operation) (t : List ℕ) (input : IsInput o) where
    -- ---- a local

    pub local-acts : o.opcode ≡ DW_OP_WASM_location → IsLoaded n s w o.second → Acts n s w base label before o false t
    unfolding wasm_step
    local-acts is l = record {
      action = λ v. value_of_label n s o.second >>= λ value. Ok (pushed v value);
      count = count_operations (value_bytes s (s.place o.second));
      simulates =
          let parts : straight_bytes s (parts_of base o) ≡ value_bytes s (s.place o.second) = ap (λ k. straight_bytes s (parts_by (rule_of k) base o)) is ∙ append-nil (value_bytes s (s.place o.second)) in
          subst (λ bs. Simulates n bs (λ v. value_of_label n s o.second >>= λ value. Ok (pushed v value)) (count_operations (value_bytes s (s.place o.second)))) (sym parts) (value-runs n s o.second (is-size n s w addresses) l.place);
      keeps = λ v u g h.
          let value : ℕ = (l.local).value in
          let given : wasm_step w label o t ≡ Ok (value % 2 ^ 32 ∷ t) = ap (λ k. by_wasm_rule w label o t (coded wasm_rules k)) is ∙ ap (λ q. ok_or q (register_missing o.second) >>= λ value. Ok (value ∷ t)) (l.local).wasm in
          record {
            made = pushed v value;
            is = ap (λ q. q >>= λ value. Ok (pushed v value)) (l.local).native;
            good = record {
              low = subst (Low (value ∷ v.stack)) (ok-is (sym given ∙ h)) ((refl, (small n s w addresses) (value_of_label n s o.second) value ((value-wrapped n s w addresses) (s.place o.second)) (l.local).native), g.low);
              count = λ k. no-count o DW_OP_WASM_location is refl refl k [] (value ∷ v.stack) (Ok (value ∷ v.stack)) refl;
              pieces = g.pieces;
              mark = g.mark;
            };
          };
    }

    -- ---- operations on the stack alone

    abbrev pub acts : Type 0
    acts = Acts n s w base label before o false t

    pub low-acts : (c : ℕ) → o.opcode ≡ c → IsIn c low_operations
        → (o.opcode ≡ DW_OP_WASM_location → acts) → (o.opcode ≡ DW_OP_fbreg → acts) → (o.opcode ≡ DW_OP_deref → acts) → acts
    low-acts c is (inl e) l f d = plain-acts n s w base label before o t addresses input DW_OP_plus (combines sum_of) (record { rule = refl; operands = refl; native = refl; known = λ first. refl; wasm = refl; stack = refl }) refl refl (keeps-combines o.first sum_of low-sums) (is ∙ e)
    low-acts c is (inr (inl e)) l f d = plain-acts n s w base label before o t addresses input DW_OP_plus_uconst adds (record { rule = refl; operands = refl; native = refl; known = λ first. refl; wasm = refl; stack = refl }) refl refl (keeps-adds o.first) (is ∙ e)
    low-acts c is (inr (inr (inl e))) l f d = plain-acts n s w base label before o t addresses input DW_OP_minus (combines difference) (record { rule = refl; operands = refl; native = refl; known = λ first. refl; wasm = refl; stack = refl }) refl refl (keeps-combines o.first difference low-differences) (is ∙ e)
    low-acts c is (inr (inr (inr (inl e)))) l f d = plain-acts n s w base label before o t addresses input DW_OP_mul (combines product_of) (record { rule = refl; operands = refl; native = refl; known = λ first. refl; wasm = refl; stack = refl }) refl refl (keeps-combines o.first product_of low-products) (is ∙ e)
    low-acts c is (inr (inr (inr (inr (inl e))))) l f d = plain-acts n s w base label before o t addresses input DW_OP_neg (changes (λ size a. wrapped size (2 ^ (8 * size) - a))) (record { rule = refl; operands = refl; native = refl; known = λ first. refl; wasm = refl; stack = refl }) refl refl (keeps-changes o.first (λ size a. wrapped size (2 ^ (8 * size) - a)) low-negs) (is ∙ e)
    low-acts c is (inr (inr (inr (inr (inr (inl e)))))) l f d = plain-acts n s w base label before o t addresses input DW_OP_and (combines (λ size a b. Some (bit_and a b))) (record { rule = refl; operands = refl; native = refl; known = λ first. refl; wasm = refl; stack = refl }) refl refl (keeps-combines o.first (λ size a b. Some (bit_and a b)) low-ands) (is ∙ e)
    low-acts c is (inr (inr (inr (inr (inr (inr (inl e))))))) l f d = plain-acts n s w base label before o t addresses input DW_OP_or (combines (λ size a b. Some (bit_or a b))) (record { rule = refl; operands = refl; native = refl; known = λ first. refl; wasm = refl; stack = refl }) refl refl (keeps-combines o.first (λ size a b. Some (bit_or a b)) low-ors) (is ∙ e)
    low-acts c is (inr (inr (inr (inr (inr (inr (inr (inl e)))))))) l f d = plain-acts n s w base label before o t addresses input DW_OP_xor (combines (λ size a b. Some (bit_xor a b))) (record { rule = refl; operands = refl; native = refl; known = λ first. refl; wasm = refl; stack = refl }) refl refl (keeps-combines o.first (λ size a b. Some (bit_xor a b)) low-xors) (is ∙ e)
    low-acts c is (inr (inr (inr (inr (inr (inr (inr (inr (inl e))))))))) l f d = plain-acts n s w base label before o t addresses input DW_OP_not (changes (λ size a. 2 ^ (8 * size) - 1 - a)) (record { rule = refl; operands = refl; native = refl; known = λ first. refl; wasm = refl; stack = refl }) refl refl (keeps-changes o.first (λ size a. 2 ^ (8 * size) - 1 - a) low-nots) (is ∙ e)
    low-acts c is (inr (inr (inr (inr (inr (inr (inr (inr (inr (inl e)))))))))) l f d = plain-acts n s w base label before o t addresses input DW_OP_dup (moves duplicated) (record { rule = refl; operands = refl; native = refl; known = λ first. refl; wasm = refl; stack = refl }) refl refl (keeps-duplicated o.first) (is ∙ e)
    low-acts c is (inr (inr (inr (inr (inr (inr (inr (inr (inr (inr (inl e))))))))))) l f d = plain-acts n s w base label before o t addresses input DW_OP_drop (moves dropped) (record { rule = refl; operands = refl; native = refl; known = λ first. refl; wasm = refl; stack = refl }) refl refl (keeps-dropped o.first) (is ∙ e)
    low-acts c is (inr (inr (inr (inr (inr (inr (inr (inr (inr (inr (inr (inl e)))))))))))) l f d = plain-acts n s w base label before o t addresses input DW_OP_over (moves copied_over) (record { rule = refl; operands = refl; native = refl; known = λ first. refl; wasm = refl; stack = refl }) refl refl (keeps-copied_over o.first) (is ∙ e)
    low-acts c is (inr (inr (inr (inr (inr (inr (inr (inr (inr (inr (inr (inr (inl e))))))))))))) l f d = plain-acts n s w base label before o t addresses input DW_OP_pick picks (record { rule = refl; operands = refl; native = refl; known = λ first. refl; wasm = refl; stack = refl }) refl refl (keeps-picks o.first) (is ∙ e)
    low-acts c is (inr (inr (inr (inr (inr (inr (inr (inr (inr (inr (inr (inr (inr (inl e)))))))))))))) l f d = plain-acts n s w base label before o t addresses input DW_OP_swap (moves swapped) (record { rule = refl; operands = refl; native = refl; known = λ first. refl; wasm = refl; stack = refl }) refl refl (keeps-swapped o.first) (is ∙ e)
    low-acts c is (inr (inr (inr (inr (inr (inr (inr (inr (inr (inr (inr (inr (inr (inr (inl e))))))))))))))) l f d = plain-acts n s w base label before o t addresses input DW_OP_rot (moves rotated) (record { rule = refl; operands = refl; native = refl; known = λ first. refl; wasm = refl; stack = refl }) refl refl (keeps-rotated o.first) (is ∙ e)
    low-acts c is (inr (inr (inr (inr (inr (inr (inr (inr (inr (inr (inr (inr (inr (inr (inr (inl e)))))))))))))))) l f d = plain-acts n s w base label before o t addresses input DW_OP_nop (moves (λ s. Some s)) (record { rule = refl; operands = refl; native = refl; known = λ first. refl; wasm = refl; stack = refl }) refl refl (keeps-stack o.first) (is ∙ e)
    low-acts c is (inr (inr (inr (inr (inr (inr (inr (inr (inr (inr (inr (inr (inr (inr (inr (inr (inl e))))))))))))))))) l f d = l (is ∙ e)
    low-acts c is (inr (inr (inr (inr (inr (inr (inr (inr (inr (inr (inr (inr (inr (inr (inr (inr (inr (inl e)))))))))))))))))) l f d = f (is ∙ e)
    low-acts c is (inr (inr (inr (inr (inr (inr (inr (inr (inr (inr (inr (inr (inr (inr (inr (inr (inr (inr (inl e))))))))))))))))))) l f d = d (is ∙ e)
    low-acts c is (inr (inr (inr (inr (inr (inr (inr (inr (inr (inr (inr (inr (inr (inr (inr (inr (inr (inr (inr none))))))))))))))))))) l f d = absurd none

    -- ---- a shift to the left

    pub left-acts : is_count before ≡ true → o.opcode ≡ DW_OP_shl → acts
    left-acts counted is = stack-acts n s w base label before o t DW_OP_shl (combines shifted_left) addresses (record { rule = refl; operands = refl; native = refl; known = λ first. refl; wasm = refl; stack = refl }) is input keeps (λ k x y e. no-count o DW_OP_shl is refl refl k x y (by_rule 8 o.first (combines shifted_left) x) e)
      where
        keeps : (x y u : List ℕ) → Low x y → (is_count before ≡ true → IsCountTop x) → by_rule 4 o.first (combines shifted_left) y ≡ Ok u → Gives (by_rule 8 o.first (combines shifted_left) x) u
        keeps [] [] u l top h = absurd (cc)
        keeps [] (d ∷ y) u l top h = absurd l
        keeps (c ∷ x) [] u l top h = absurd l
        keeps (c ∷ []) (d ∷ []) u l top h = absurd (cc)
        keeps (c ∷ []) (d ∷ b ∷ y) u l top h = absurd l.1
        keeps (c ∷ a ∷ x) (d ∷ []) u l top h = absurd l.1
        keeps (c ∷ a ∷ x) (d ∷ b ∷ y) u l top h =
            let count : c < 32 = top counted in
            let same : d ≡ c = omega (arith, count, (l.0).0) in
            let wide : ltb c (8 * 8) ≡ true = lt-ltb c 64 (omega (arith, count)) in
            let narrow : ltb d (8 * 4) ≡ true = lt-ltb d 32 (omega (arith, count, same)) in
            let there : by_rule 4 o.first (combines shifted_left) (d ∷ b ∷ y) ≡ Ok (wrapped 4 (b * 2 ^ d) ∷ y) = rw narrow refl in
            let low : wrapped 8 (a * 2 ^ c) % 2 ^ 32 ≡ wrapped 4 (b * 2 ^ d) = low-shifted_left a c ∙ ap (λ z. wrapped 4 (z * 2 ^ c)) ((l.1).0).0 ∙ ap (λ z. wrapped 4 (b * 2 ^ z)) (sym same) in
            record {
              stack = wrapped 8 (a * 2 ^ c) ∷ x;
              is = rw wide refl;
              low = subst (Low (wrapped 8 (a * 2 ^ c) ∷ x)) (ok-is (sym there ∙ h)) ((low, below (a * 2 ^ c)), (l.1).1);
            }
          where
            below : (m : ℕ) → wrapped 8 m < 2 ^ 64
            below m = omega arith

    -- ---- the mark of a value

    pub mark-acts : o.opcode ≡ DW_OP_stack_value → Acts n s w base label before o true t
    unfolding wasm_step
    mark-acts is = record {
      action = does n (o.opcode, o.first, o.second);
      count = 1;
      simulates =
          let parts : straight_bytes s (parts_of base o) ≡ o.bytes = ap (λ k. straight_bytes s (parts_by (rule_of k) base o)) is ∙ append-nil o.bytes in
          let same : native_operands o.opcode ≡ operands_of o.opcode = ap native_operands is ∙ ap operands_of (sym is) in
          let free : is_jump_rule (native_rule o.opcode) ≡ false = ap (λ k. is_jump_rule (native_rule k)) is in
          subst (λ bs. Simulates n bs (does n (o.opcode, o.first, o.second)) 1) (sym parts) (simulates-one n o.bytes (o.opcode, o.first, o.second) (native-input o same input) free);
      keeps = λ v u g h.
          let given : wasm_step w label o t ≡ Ok t = ap (λ k. by_wasm_rule w label o t (coded wasm_rules k)) is in
          record {
            made = record v { is_value = true };
            is = ap (λ k. does n (k, o.first, o.second) v) is;
            good = record {
              low = subst (Low v.stack) (ok-is (sym given ∙ h)) g.low;
              count = λ k. no-count o DW_OP_stack_value is refl refl k [] v.stack (Ok v.stack) refl;
              pieces = g.pieces;
              mark = refl;
            };
          };
    }
