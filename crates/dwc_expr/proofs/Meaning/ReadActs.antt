-- A read of linear memory keeps the low 32 bits.
use Rattle.std.proofs.Common.{◌≡◌, ℕ, ◌+◌, ◌^◌, ◌%◌, ◌<◌, ◌≤◌, refl, sym, ap, subst, ◌∙◌, arith, List, [], ◌∷◌, ◌++◌, append-nil, length, length-drop, take, drop, Option, Some, Ok, Bool, true, false, leb}
use Rattle.std.specs.Prelude.{nat_lt, ok_or}
use Rattle.std.proofs.lemmas.Bool.{le-leb}
use Rattle.dwc_base.specs.declared.records.Endian.TheVariants.{Little}
use Rattle.dwc_base.specs.Reading.{◌>>=◌, coded, number, number_low_first}
use Rattle.dwc_dwarf.specs.Operations.{operands_of, Operation}
use Rattle.dwc_native.specs.Parts.{CompiledParts, rule_of, parts_by, parts_of, context_label}
use Rattle.dwc_native.specs.Built.{Setting, base_place_bytes, base_added}
use Rattle.dwc_base.specs.declared.constants.TheConstants.{DW_OP_deref}
use Rattle.dwc_machines.specs.StackOperations.{byte_missing, wrapped}
use Rattle.dwc_machines.specs.NativeStates.{NativeState, Piece, Evaluation, number_read, pushed}
use Rattle.dwc_machines.specs.ByteMachine.{native_rule, native_operands}
use Rattle.dwc_machines.specs.PartMachine.{memory_base, native_address}
use Rattle.dwc_machines.specs.WasmMachine.{WasmState, wasm_rules, number_in_memory, by_wasm_rule, wasm_step}
use Rattle.dwc_expr.specs.RunsAlike.{count_operations}
use Rattle.dwc_expr.specs.WholeParts.{is_jump_rule}
use Rattle.dwc_expr.specs.MeaningPremises.{LiesAtBase}
use Rattle.dwc_expr.proofs.Meaning.MachineSteps.{does}
use Rattle.dwc_expr.proofs.Meaning.Simulations.{Simulates, simulates-one, simulates-both}
use Rattle.dwc_expr.proofs.Meaning.PartImages.{rebased, memory-runs}
use Rattle.dwc_expr.proofs.Meaning.StraightParts.{straight_bytes}
use Rattle.dwc_machines.proofs.LowBits.{low-wrapped}
use Rattle.dwc_machines.proofs.LowNumbers.{Low, ok-is}
use Rattle.dwc_expr.proofs.Meaning.KeptRecords.{Made, IsInput, native-input}
use Rattle.dwc_expr.proofs.Meaning.MeaningSteps.{no-count}
use Rattle.dwc_expr.proofs.Meaning.LowValues.{IsReadable, IsInside, is-size}
use Rattle.dwc_expr.proofs.Meaning.LowMemory.{all-behind, low-four, memory-read}
use Rattle.dwc_expr.proofs.Meaning.BasedActs.{acts}

module _ (n : NativeState) (s : Setting) (w : WasmState) (addresses : n.pointer_bytes ≡ 8) where
  module _ (base : Option CompiledParts) (label : Option ℕ) (before : Option Operation) (o : Operation) (t : List ℕ) (input : IsInput o) where
    -- ---- a read of linear memory

    pub read-acts : n.order ≡ Little → o.opcode ≡ DW_OP_deref → IsReadable n s w → IsInside w t → (acts n s w addresses base label before o t input)
    unfolding wasm_step
    read-acts order is facts inside = record {
      action = λ v. rebased n (memory_base n s) v >>= does n (o.opcode, o.first, o.second);
      count = count_operations image + 1;
      simulates =
          let parts : straight_bytes s (parts_of base o) ≡ image ++ o.bytes = ap (λ k. straight_bytes s (parts_by (rule_of k) base o)) is ∙ ap (λ bs. image ++ bs) (append-nil o.bytes) in
          let same : native_operands o.opcode ≡ operands_of o.opcode = ap native_operands is ∙ ap operands_of (sym is) in
          let free : is_jump_rule (native_rule o.opcode) ≡ false = ap (λ k. is_jump_rule (native_rule k)) is in
          subst (λ bs. Simulates n bs (λ v. rebased n (memory_base n s) v >>= does n (o.opcode, o.first, o.second)) (count_operations image + 1)) (sym parts)
          (simulates-both n image o.bytes (rebased n (memory_base n s)) (does n (o.opcode, o.first, o.second)) (count_operations image) 1
          (memory-runs n s (is-size n s w addresses) facts.has facts.place)
          (simulates-one n o.bytes (o.opcode, o.first, o.second) (native-input o same input) free));
      keeps = λ v u g h. go v.stack v.pieces v.is_value t u inside g.low g.pieces g.mark (sym (ap (λ k. by_wasm_rule w label o t (coded wasm_rules k)) is) ∙ h);
    }
      where
        image : List ℕ
        image = base_place_bytes s s.memory (s.place context_label) ++ base_added

        m : LiesAtBase n s w
        m = facts.memory

        below : (k : ℕ) → wrapped 8 k < 2 ^ 64
        below k = omega arith

        -- the number that is read, and its low bits
        number-read : (address : ℕ) → address + 8 ≤ length w.memory → number_read n 8 ((m.base + address) % 2 ^ 64) ≡ Ok (wrapped 8 (number_low_first (take 8 (drop address w.memory))))
        number-read address inside =
            ap (λ r. r >>= λ bytes. Ok (wrapped n.pointer_bytes (number n.order bytes))) ((memory-read n s w addresses) m.base m.lies 8 address ((m.base + address) % 2 ^ 64) (omega arith) inside)
            ∙ ap (λ k. Ok (wrapped k (number n.order (take 8 (drop address w.memory))))) addresses
            ∙ ap (λ e. Ok (wrapped 8 (number e (take 8 (drop address w.memory))))) order

        low-read : (address : ℕ) → address + 8 ≤ length w.memory → wrapped 8 (number_low_first (take 8 (drop address w.memory))) % 2 ^ 32 ≡ number_low_first (take 4 (drop address w.memory))
        low-read address inside =
            low-wrapped (number_low_first (take 8 (drop address w.memory)))
            ∙ low-four (drop address w.memory) (omega (arith, inside, length-drop address w.memory)) (all-behind (λ b. nat_lt b 256) w.memory address facts.of_bytes)

        there : (address : ℕ) → address + 8 ≤ length w.memory → number_in_memory w.memory address ≡ Some (number_low_first (take 4 (drop address w.memory)))
        there address inside = let enough : leb (address + 4) (length w.memory) ≡ true = le-leb (address + 4) (length w.memory) (omega (arith, inside)) in rw enough refl

        go : (stack : List ℕ) (pieces : List Piece) (is_value : Bool) (t u : List ℕ) → IsInside w t → Low stack t → pieces ≡ [] → is_value ≡ false → by_wasm_rule w label o t (coded wasm_rules DW_OP_deref) ≡ Ok u
            → Made (rebased n (memory_base n s) (record { stack = stack; pieces = pieces; is_value = is_value }) >>= does n (o.opcode, o.first, o.second)) o false u
        go [] pieces is_value [] u inside l none mark h = absurd (cc)
        go [] pieces is_value (b ∷ t) u inside l none mark h = absurd l
        go (a ∷ stack) pieces is_value [] u inside l none mark h = absurd l
        go (a ∷ stack) pieces is_value (address ∷ t) u inside l none mark h =
            let value : ℕ = wrapped 8 (number_low_first (take 8 (drop address w.memory))) in
            let v : Evaluation = record { stack = stack; pieces = pieces; is_value = is_value } in
            let given : (ok_or (number_in_memory w.memory address) (byte_missing address) >>= λ value. Ok (value ∷ t)) ≡ Ok (number_low_first (take 4 (drop address w.memory)) ∷ t) = ap (λ q. ok_or q (byte_missing address) >>= λ value. Ok (value ∷ t)) (there address inside) in
            let moved : native_address n m.base a ≡ (m.base + address) % 2 ^ 64 = ap (λ k. wrapped k (m.base + a % 2 ^ 32)) addresses ∙ ap (λ z. wrapped 8 (m.base + z)) (l.0).0 in
            record {
              made = pushed v value;
              is =
                  ap (λ q. (q >>= λ b. Ok (pushed v (native_address n b a))) >>= does n (o.opcode, o.first, o.second)) m.is_base
                  ∙ ap (λ z. does n (o.opcode, o.first, o.second) (pushed v z)) moved
                  ∙ ap (λ k. does n (k, o.first, o.second) (pushed v ((m.base + address) % 2 ^ 64))) is
                  ∙ ap (λ k. number_read n k ((m.base + address) % 2 ^ 64) >>= λ value. Ok (pushed v value)) addresses
                  ∙ ap (λ q. q >>= λ value. Ok (pushed v value)) (number-read address inside);
              good = record {
                low = subst (Low (value ∷ stack)) (ok-is (sym given ∙ h)) ((low-read address inside, below (number_low_first (take 8 (drop address w.memory)))), l.1);
                count = λ k. no-count o DW_OP_deref is refl refl k [] (value ∷ stack) (Ok (value ∷ stack)) refl;
                pieces = none;
                mark = mark;
              };
            }
