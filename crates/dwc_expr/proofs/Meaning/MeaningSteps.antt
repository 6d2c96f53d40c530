-- Operations that stay keep the low 32 bits of the stack.
use Rattle.std.proofs.Common.{◌≡◌, ℕ, ◌-◌, ◌<◌, ◌≤◌, refl, sym, ap, subst, ◌∙◌, inl, inr, arith, List, append-nil, Option, Some, Result, Ok, Err, true, false, leb, true≢false}
use Rattle.std.specs.Prelude.{◌&&◌, ◌||◌, ◌==◌, nat_lt, if◌then◌else◌, ok_or}
use Rattle.std.proofs.lemmas.Bool.{ltb-true, leb-true, eqb-true, and_parts}
use Rattle.dwc_base.proofs.InLists.{IsIn, any-in}
use Rattle.dwc_base.specs.Reading.{◌>>=◌, coded}
use Rattle.dwc_dwarf.specs.Values.{is_one_of}
use Rattle.dwc_dwarf.specs.Operations.{operands_of, Operation}
use Rattle.dwc_native.specs.Parts.{CompiledParts, rule_of, parts_by, parts_of}
use Rattle.dwc_native.specs.Built.{Setting}
use Rattle.dwc_base.specs.declared.constants.TheConstants.{DW_OP_const1u, DW_OP_const1s, DW_OP_const2u, DW_OP_const2s, DW_OP_const4u, DW_OP_const4s, DW_OP_const8u, DW_OP_const8s, DW_OP_constu, DW_OP_consts, DW_OP_lit0, DW_OP_lit31}
use Rattle.dwc_machines.specs.StackOperations.{Stop, not_known, wrapped, StackRule, is_number, pushes, is_literal, stack_rule, by_rule}
use Rattle.dwc_machines.specs.NativeStates.{NativeState, Evaluation, with_stack}
use Rattle.dwc_machines.specs.ByteMachine.{native_rule, native_operands, performed}
use Rattle.dwc_machines.specs.WasmMachine.{WasmState, wasm_rules, by_wasm_rule, wasm_step}
use Rattle.dwc_expr.specs.WholeParts.{is_jump_rule}
use Rattle.dwc_expr.specs.MeaningPremises.{constants, is_count}
use Rattle.dwc_expr.proofs.Meaning.MachineSteps.{does}
use Rattle.dwc_expr.proofs.Meaning.Simulations.{Simulates, simulates-one}
use Rattle.dwc_expr.proofs.Meaning.StraightParts.{straight_bytes}
use Rattle.dwc_machines.proofs.LowNumbers.{Low, Gives, KeepsLow, ok-is, keeps-number, keeps-pushes}
use Rattle.dwc_expr.proofs.Meaning.KeptRecords.{Acts, IsCountTop, IsInput, IsStackCode, literal-code, native-input}

does-as : (n : NativeState) → n.pointer_bytes ≡ 8 → (c : ℕ) (r : StackRule) → IsStackCode c r → (o : Operation) → o.opcode ≡ c → (v : Evaluation) → does n (o.opcode, o.first, o.second) v ≡ (by_rule 8 o.first r v.stack >>= λ s. Ok (with_stack v s))
does-as n addresses c r code o is v =
    ap (λ k. does n (k, o.first, o.second) v) is
    ∙ ap (λ b. if◌then◌else◌ {A = Result Evaluation Stop} b (ok_or (native_rule c) not_known >>= λ rule. performed n rule o.first o.second v) (Err not_known)) (code.known o.first)
    ∙ ap (λ k. ok_or k not_known >>= λ rule. performed n rule o.first o.second v) code.native
    ∙ ap (λ size. by_rule size o.first r v.stack >>= λ s. Ok (with_stack v s)) addresses

-- the step in WebAssembly by the same rule
wasm-as : (w : WasmState) (label : Option ℕ) (c : ℕ) (r : StackRule) → IsStackCode c r → (o : Operation) → o.opcode ≡ c → (t : List ℕ) → wasm_step w label o t ≡ by_rule 4 o.first r t
unfolding wasm_step
wasm-as w label c r code o is t =
    ap (λ k. by_wasm_rule w label o t (coded wasm_rules k)) is
    ∙ ap (by_wasm_rule w label o t) code.wasm
    ∙ ap (λ k. ok_or (stack_rule k) not_known >>= λ rule. by_rule 4 o.first rule t) is
    ∙ ap (λ k. ok_or k not_known >>= λ rule. by_rule 4 o.first rule t) code.stack

pub stack-acts : (n : NativeState) (s : Setting) (w : WasmState) (base : Option CompiledParts) (label : Option ℕ) (before : Option Operation) (o : Operation) (t : List ℕ) (c : ℕ) (r : StackRule)
    → n.pointer_bytes ≡ 8 → IsStackCode c r → o.opcode ≡ c → IsInput o → ((x y u : List ℕ) → Low x y → (is_count before ≡ true → IsCountTop x) → by_rule 4 o.first r y ≡ Ok u → Gives (by_rule 8 o.first r x) u) → (is_count (Some o) ≡ true → (x y : List ℕ) → by_rule 8 o.first r x ≡ Ok y → IsCountTop y)
    → Acts n s w base label before o false t
stack-acts n s w base label before o t c r addresses code is input keeps counts = record {
  action = does n (o.opcode, o.first, o.second);
  count = 1;
  simulates =
      let parts : straight_bytes s (parts_of base o) ≡ o.bytes = ap (λ k. straight_bytes s (parts_by (rule_of k) base o)) is ∙ ap (λ k. straight_bytes s (parts_by k base o)) code.rule ∙ append-nil o.bytes in
      let same : native_operands o.opcode ≡ operands_of o.opcode = ap native_operands is ∙ code.operands ∙ ap operands_of (sym is) in
      let free : is_jump_rule (native_rule o.opcode) ≡ false = ap (λ k. is_jump_rule (native_rule k)) is ∙ ap is_jump_rule code.native in
      subst (λ bs. Simulates n bs (does n (o.opcode, o.first, o.second)) 1) (sym parts) (simulates-one n o.bytes (o.opcode, o.first, o.second) (native-input o same input) free);
  keeps = λ v u g h.
      let narrow : by_rule 4 o.first r t ≡ Ok u = sym (wasm-as w label c r code o is t) ∙ h in
      let given : Gives (by_rule 8 o.first r v.stack) u = keeps v.stack t u g.low g.count narrow in
      record {
        made = with_stack v given.stack;
        is = does-as n addresses c r code o is v ∙ ap (λ q. q >>= λ x. Ok (with_stack v x)) given.is;
        good = record { low = given.low; count = λ k. counts k v.stack given.stack given.is; pieces = g.pieces; mark = g.mark };
      };
}

-- one that is no constant
pub no-count : (o : Operation) (c : ℕ) → o.opcode ≡ c → is_literal c ≡ false → is_one_of constants c ≡ false → is_count (Some o) ≡ true → (x y : List ℕ) (q : Result (List ℕ) Stop) → q ≡ Ok y → IsCountTop y
no-count o c is literal constant k x y q e =
    absurd (true≢false (sym k ∙ ap (λ b. b || (is_one_of constants o.opcode && nat_lt o.first 32)) (ap is_literal is ∙ literal) ∙ ap (λ b. b && nat_lt o.first 32) (ap (is_one_of constants) is ∙ constant)))

module _ (n : NativeState) (s : Setting) (w : WasmState) (base : Option CompiledParts) (label : Option ℕ) (before : Option Operation) (o : Operation) (t : List ℕ) (addresses : n.pointer_bytes ≡ 8) (input : IsInput o) where
  -- those that take elements
  pub plain-acts : (c : ℕ) (r : StackRule) → IsStackCode c r → is_literal c ≡ false → is_one_of constants c ≡ false → KeepsLow o.first r → o.opcode ≡ c → Acts n s w base label before o false t
  plain-acts c r code literal constant keeps is = stack-acts n s w base label before o t c r addresses code is input (λ x y u l counted h. keeps.keeps x y u l h) (λ k x y e. no-count o c is literal constant k x y (by_rule 8 o.first r x) e)

  -- those that push their operand
  pub constant-acts : (c : ℕ) → IsStackCode c pushes → is_literal c ≡ false → o.opcode ≡ c → Acts n s w base label before o false t
  constant-acts c code literal is = stack-acts n s w base label before o t c pushes addresses code is input (λ x y u l counted h. (keeps-pushes o.first).keeps x y u l h) counts
    where
      counts : is_count (Some o) ≡ true → (x y : List ℕ) → by_rule 8 o.first pushes x ≡ Ok y → IsCountTop y
      counts k x y e =
          let small : o.first < 32 = ltb-true o.first 32 (and_parts (is_one_of constants o.opcode) (nat_lt o.first 32) (sym (ap (λ b. b || (is_one_of constants o.opcode && nat_lt o.first 32)) (ap is_literal is ∙ literal)) ∙ k)).1 in
          let low : wrapped 8 o.first < 32 = omega (arith, small) in
          subst IsCountTop (ok-is e) low

  pub constants-act : is_one_of constants o.opcode ≡ true → Acts n s w base label before o false t
  constants-act h = let c = any-in (λ c. c == o.opcode) constants h in go c.0 (sym (eqb-true c.0 o.opcode c.2)) c.1
    where
      go : (c : ℕ) → o.opcode ≡ c → IsIn c constants → Acts n s w base label before o false t
      go c is (inl e) = constant-acts DW_OP_const1u (record { rule = refl; operands = refl; native = refl; known = λ first. refl; wasm = refl; stack = refl }) refl (is ∙ e)
      go c is (inr (inl e)) = constant-acts DW_OP_const1s (record { rule = refl; operands = refl; native = refl; known = λ first. refl; wasm = refl; stack = refl }) refl (is ∙ e)
      go c is (inr (inr (inl e))) = constant-acts DW_OP_const2u (record { rule = refl; operands = refl; native = refl; known = λ first. refl; wasm = refl; stack = refl }) refl (is ∙ e)
      go c is (inr (inr (inr (inl e)))) = constant-acts DW_OP_const2s (record { rule = refl; operands = refl; native = refl; known = λ first. refl; wasm = refl; stack = refl }) refl (is ∙ e)
      go c is (inr (inr (inr (inr (inl e))))) = constant-acts DW_OP_const4u (record { rule = refl; operands = refl; native = refl; known = λ first. refl; wasm = refl; stack = refl }) refl (is ∙ e)
      go c is (inr (inr (inr (inr (inr (inl e)))))) = constant-acts DW_OP_const4s (record { rule = refl; operands = refl; native = refl; known = λ first. refl; wasm = refl; stack = refl }) refl (is ∙ e)
      go c is (inr (inr (inr (inr (inr (inr (inl e))))))) = constant-acts DW_OP_const8u (record { rule = refl; operands = refl; native = refl; known = λ first. refl; wasm = refl; stack = refl }) refl (is ∙ e)
      go c is (inr (inr (inr (inr (inr (inr (inr (inl e)))))))) = constant-acts DW_OP_const8s (record { rule = refl; operands = refl; native = refl; known = λ first. refl; wasm = refl; stack = refl }) refl (is ∙ e)
      go c is (inr (inr (inr (inr (inr (inr (inr (inr (inl e))))))))) = constant-acts DW_OP_constu (record { rule = refl; operands = refl; native = refl; known = λ first. refl; wasm = refl; stack = refl }) refl (is ∙ e)
      go c is (inr (inr (inr (inr (inr (inr (inr (inr (inr (inl e)))))))))) = constant-acts DW_OP_consts (record { rule = refl; operands = refl; native = refl; known = λ first. refl; wasm = refl; stack = refl }) refl (is ∙ e)
      go c is (inr (inr (inr (inr (inr (inr (inr (inr (inr (inr none)))))))))) = absurd none

  -- the literals
  pub literal-acts : is_literal o.opcode ≡ true → Acts n s w base label before o false t
  literal-acts h = stack-acts n s w base label before o t o.opcode (is_number (o.opcode - DW_OP_lit0)) addresses code refl input (λ x y u l counted h. (keeps-number o.first (o.opcode - DW_OP_lit0) (omega (arith, low))).keeps x y u l h) counts
    where
      bounds : (leb DW_OP_lit0 o.opcode ≡ true) × (leb o.opcode DW_OP_lit31 ≡ true)
      bounds = and_parts (leb DW_OP_lit0 o.opcode) (leb o.opcode DW_OP_lit31) h

      from : DW_OP_lit0 ≤ o.opcode
      from = leb-true DW_OP_lit0 o.opcode bounds.0

      to : o.opcode ≤ DW_OP_lit31
      to = leb-true o.opcode DW_OP_lit31 bounds.1

      low : o.opcode - DW_OP_lit0 < 32
      low = omega (arith, from, to)

      counts : is_count (Some o) ≡ true → (x y : List ℕ) → by_rule 8 o.first (is_number (o.opcode - DW_OP_lit0)) x ≡ Ok y → IsCountTop y
      counts k x y e = subst IsCountTop (ok-is e) low

      code : IsStackCode o.opcode (is_number (o.opcode - DW_OP_lit0))
      code = literal-code o.opcode h from to
