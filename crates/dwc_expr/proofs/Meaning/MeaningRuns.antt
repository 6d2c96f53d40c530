-- Operations that keep low 32 bits, one after another.
use Rattle.std.proofs.Common.{◌≡◌, ℕ, zero, suc, ◌+◌, refl, sym, ap, subst, ◌∙◌, arith, List, [], ◌∷◌, append-nil, length, take, Option, Some, Result, Ok, Err, Bool, true, false}
use Rattle.std.specs.Prelude.{nat_lt, ◌==◌, ◌&&◌, ◌||◌}
use Rattle.std.specs.List.{list_all}
use Rattle.std.proofs.lemmas.Bool.{and_parts, eqb-true}
use Rattle.dwc_base.specs.declared.records.Endian.TheVariants.{Little}
use Rattle.dwc_base.specs.Reading.{◌>>=◌}
use Rattle.dwc_dwarf.specs.Values.{is_one_of}
use Rattle.dwc_dwarf.specs.Operations.{Operation}
use Rattle.dwc_native.specs.Parts.{CompiledParts, parts_of}
use Rattle.dwc_native.specs.Built.{Setting}
use Rattle.dwc_base.specs.declared.constants.TheConstants.{DW_OP_stack_value}
use Rattle.dwc_machines.specs.StackOperations.{Stop, is_literal}
use Rattle.dwc_machines.specs.NativeStates.{NativeState, Evaluation}
use Rattle.dwc_machines.specs.WasmMachine.{WasmState, wasm_step, wasm_run}
use Rattle.dwc_expr.specs.MeaningPremises.{constants, low_operations, shifts, is_constant, is_count, keep_low_bits}
use Rattle.dwc_expr.proofs.Meaning.Simulations.{Simulates, simulates-nothing, simulates-both}
use Rattle.dwc_expr.proofs.Meaning.StraightParts.{straight_bytes, straight-append}
use Rattle.dwc_machines.proofs.LowNumbers.{Low, ok-is}
use Rattle.dwc_expr.proofs.Meaning.KeptRecords.{Good, Made, IsInput, Acts}
use Rattle.dwc_expr.proofs.Meaning.MeaningActs.{mark-acts}
use Rattle.dwc_expr.proofs.Meaning.OperationActs.{Fits, any-of-three, ends_marked, fits-tail, head-acts, label, parts_of_all}

module _ (n : NativeState) (s : Setting) (w : WasmState) (base : Option CompiledParts) (addresses : n.pointer_bytes ≡ 8) (order : n.order ≡ Little) (of_bytes : list_all (λ b. nat_lt b 256) w.memory ≡ true) where
  -- ---- operations one after another

  -- The bytes of operations make, from an evaluation on, one with the low bits of a stack.
  pub record Ran (os : List Operation) (v : Evaluation) (u : List ℕ) : Type 0 where
    pub action : Evaluation → Result Evaluation Stop
    pub count : ℕ
    pub simulates : Simulates n (straight_bytes s ((parts_of_all n s w base addresses order of_bytes) os)) action count
    pub made : Evaluation
    pub is : action v ≡ Ok made
    pub low : Low made.stack u
    pub pieces : made.pieces ≡ []
    pub mark : made.is_value ≡ ends_marked os

  ran-nothing : (v : Evaluation) (t u : List ℕ) (before : Option Operation) → Good before false v t → ◌≡◌ {A = Result (List ℕ) Stop} (Ok t) (Ok u) → Ran [] v u
  ran-nothing v t u before g h = record { action = λ v. Ok v; count = 0; simulates = simulates-nothing n; made = v; is = refl; low = subst (Low v.stack) (ok-is h) g.low; pieces = g.pieces; mark = g.mark }

  -- one operation and those behind it
  ran-more : (o : Operation) (os : List Operation) (before : Option Operation) (v : Evaluation) (t u x : List ℕ) (a : Acts n s w base (label n s w base addresses order of_bytes) before o false t) (m : Made (a.action v) o false u) → (o.opcode == DW_OP_stack_value) ≡ false → Ran os m.made x → Ran (o ∷ os) v x
  ran-more o os before v t u x a m plain r = record {
    action = λ v. a.action v >>= r.action;
    count = a.count + r.count;
    simulates = subst (λ bs. Simulates n bs (λ v. a.action v >>= r.action) (a.count + r.count)) (sym (straight-append s (parts_of base o) ((parts_of_all n s w base addresses order of_bytes) os)))
        (simulates-both n (straight_bytes s (parts_of base o)) (straight_bytes s ((parts_of_all n s w base addresses order of_bytes) os)) a.action r.action a.count r.count a.simulates r.simulates);
    made = r.made;
    is = ap (λ q. q >>= r.action) m.is ∙ r.is;
    low = r.low;
    pieces = r.pieces;
    mark = r.mark ∙ marked os;
  }
    where
      marked : (os : List Operation) → ends_marked os ≡ ends_marked (o ∷ os)
      marked [] = sym plain
      marked (p ∷ os) = refl

  ran-mark : (o : Operation) (before : Option Operation) (v : Evaluation) (t u : List ℕ) → o.opcode ≡ DW_OP_stack_value → IsInput o → Good before false v t → wasm_run w (label n s w base addresses order of_bytes) (o ∷ []) t ≡ Ok u → Ran (o ∷ []) v u
  ran-mark o before v t u is input g h = go (wasm_step w (label n s w base addresses order of_bytes) o t) refl h
    where
      a : Acts n s w base (label n s w base addresses order of_bytes) before o true t
      a = mark-acts n s w addresses base (label n s w base addresses order of_bytes) before o t input is

      go : (r : Result (List ℕ) Stop) → wasm_step w (label n s w base addresses order of_bytes) o t ≡ r → (r >>= wasm_run w (label n s w base addresses order of_bytes) []) ≡ Ok u → Ran (o ∷ []) v u
      go (Err stop) e h = absurd (cc)
      go (Ok x) e h =
          let m : Made (a.action v) o true x = a.keeps v x g e in
          record {
            action = a.action;
            count = a.count;
            simulates = subst (λ bs. Simulates n bs a.action a.count) (sym (straight-append s (parts_of base o) [] ∙ append-nil (straight_bytes s (parts_of base o)))) a.simulates;
            made = m.made;
            is = m.is;
            low = subst (Low (m.made).stack) (ok-is h) (m.good).low;
            pieces = (m.good).pieces;
            mark = (m.good).mark ∙ sym (ap (λ k. k == DW_OP_stack_value) is);
          }

  pub runs-first : (count : ℕ) (os : List Operation) (before : Option Operation) (v : Evaluation) (t u : List ℕ) → keep_low_bits before os ≡ true → (Fits n s w base addresses order of_bytes) os t → Good before false v t → wasm_run w (label n s w base addresses order of_bytes) (take count os) t ≡ Ok u → Ran (take count os) v u
  runs-first zero os before v t u kind f g h = ran-nothing v t u before g h
  runs-first (suc count) [] before v t u kind f g h = ran-nothing v t u before g h
  runs-first (suc count) (o ∷ os) before v t u kind f g h = by (o.opcode == DW_OP_stack_value) refl
      (λ v t u k f g h. runs-first count os (Some o) v t u k f g h)
    where
      parts : ((is_constant o || is_one_of low_operations o.opcode || (is_one_of shifts o.opcode && is_count before) || ((o.opcode == DW_OP_stack_value) && (length os == 0))) ≡ true) × (keep_low_bits (Some o) os ≡ true)
      parts = and_parts _ (keep_low_bits (Some o) os) kind

      last : o.opcode ≡ DW_OP_stack_value → length os == 0 ≡ true
      last is = sym (ap (λ k. is_literal k || is_one_of constants k || is_one_of low_operations k || (is_one_of shifts k && is_count before) || ((k == DW_OP_stack_value) && (length os == 0))) is) ∙ parts.0

      none : (os : List Operation) → length os == 0 ≡ true → os ≡ []
      none [] e = refl
      none (p ∷ os) e = absurd (omega (arith, eqb-true (length (p ∷ os)) 0 e))

      front : (count : ℕ) → take {A = Operation} count [] ≡ []
      front zero = refl
      front (suc count) = refl

      by : (marks : Bool) → (o.opcode == DW_OP_stack_value) ≡ marks
          → ((v : Evaluation) (t u : List ℕ) → keep_low_bits (Some o) os ≡ true → (Fits n s w base addresses order of_bytes) os t → Good (Some o) false v t → wasm_run w (label n s w base addresses order of_bytes) (take count os) t ≡ Ok u → Ran (take count os) v u)
          → Ran (o ∷ take count os) v u
      by true e rest =
          let is : o.opcode ≡ DW_OP_stack_value = eqb-true o.opcode DW_OP_stack_value e in
          let empty : take count os ≡ [] = ap (take count) (none os (last is)) ∙ front count in
          subst (λ qs. Ran (o ∷ qs) v u) (sym empty) (ran-mark o before v t u is f.inputs.0 g (subst (λ qs. wasm_run w (label n s w base addresses order of_bytes) (o ∷ qs) t ≡ Ok u) empty h))
      by false e rest =
          let a : Acts n s w base (label n s w base addresses order of_bytes) before o false t = (head-acts n s w base addresses order of_bytes) o os before t f (any-of-three (is_constant o) (is_one_of low_operations o.opcode) (is_one_of shifts o.opcode && is_count before) ((o.opcode == DW_OP_stack_value) && (length os == 0)) parts.0 (ap (λ b. b && (length os == 0)) e)) in
          go a (wasm_step w (label n s w base addresses order of_bytes) o t) refl h
        where
          go : Acts n s w base (label n s w base addresses order of_bytes) before o false t → (r : Result (List ℕ) Stop) → wasm_step w (label n s w base addresses order of_bytes) o t ≡ r → (r >>= wasm_run w (label n s w base addresses order of_bytes) (take count os)) ≡ Ok u → Ran (o ∷ take count os) v u
          go a (Err stop) e h = absurd (cc)
          go a (Ok x) step h =
              let m : Made (a.action v) o false x = a.keeps v x g step in
              ran-more o (take count os) before v t x u a m e (rest m.made x u parts.1 ((fits-tail n s w base addresses order of_bytes) o os t x step f) m.good h)
