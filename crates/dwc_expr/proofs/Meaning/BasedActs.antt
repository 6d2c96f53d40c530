-- An offset from the frame base keeps the low 32 bits.
use Rattle.std.proofs.Common.{◌≡◌, ℕ, ◌+◌, ◌^◌, ◌%◌, ◌<◌, refl, sym, ap, subst, ◌∙◌, arith, List, [], ◌∷◌, ◌++◌, append-nil, Option, Some, None, Ok, false}
use Rattle.std.specs.Prelude.{ok_or, map}
use Rattle.std.specs.Option.{unwrap_or}
use Rattle.dwc_base.specs.Reading.{◌>>=◌, coded}
use Rattle.dwc_base.specs.NumberBytes.{uleb_bytes}
use Rattle.dwc_dwarf.specs.Operations.{Operation}
use Rattle.dwc_native.specs.Parts.{Part, code, local, dereference, jump, landing_pad, CompiledParts, rule_of, as_value, base_values, parts_by, parts_of}
use Rattle.dwc_native.specs.Built.{Setting, value_bytes}
use Rattle.dwc_base.specs.declared.constants.TheConstants.{DW_OP_plus_uconst, DW_OP_fbreg}
use Rattle.dwc_machines.specs.StackOperations.{register_missing, wrapped}
use Rattle.dwc_machines.specs.NativeStates.{NativeState, pushed}
use Rattle.dwc_machines.specs.PartMachine.{value_of_label}
use Rattle.dwc_machines.specs.WasmMachine.{WasmState, wasm_rules, base_read, by_wasm_rule, wasm_step}
use Rattle.dwc_expr.specs.RunsAlike.{count_operations}
use Rattle.dwc_expr.specs.MeaningPremises.{local_of, local_of_base}
use Rattle.dwc_expr.proofs.Meaning.MachineSteps.{does}
use Rattle.dwc_expr.proofs.Meaning.Simulations.{Simulates, simulates-one, simulates-both}
use Rattle.dwc_expr.proofs.Meaning.PartImages.{value-runs}
use Rattle.dwc_expr.proofs.Meaning.StraightParts.{straight_bytes}
use Rattle.dwc_machines.proofs.LowBits.{low-sum_with}
use Rattle.dwc_machines.proofs.LowNumbers.{Low, ok-is}
use Rattle.dwc_expr.proofs.Meaning.KeptRecords.{IsInput, Acts}
use Rattle.dwc_expr.proofs.Meaning.MeaningSteps.{no-count}
use Rattle.dwc_expr.proofs.Meaning.LowValues.{IsLoaded, is-size}
use Rattle.dwc_expr.proofs.Meaning.LowMemory.{plus-operation}

module _ (n : NativeState) (s : Setting) (w : WasmState) (addresses : n.pointer_bytes ≡ 8) where
  module _ (base : Option CompiledParts) (label : Option ℕ) (before : Option Operation) (o : Operation) (t : List ℕ) (input : IsInput o) where
    abbrev pub acts : Type 0
    acts = Acts n s w base label before o false t

    -- ---- an offset from the frame base

    pub based-values : (base : Option CompiledParts) (l : ℕ) → local_of_base base ≡ Some l → base_values base ≡ local l false ∷ []
    based-values None l h = absurd (cc)
    based-values (Some x) l h = go x.parts h
      where
        go : (ps : List Part) → local_of ps ≡ Some l → map as_value ps ≡ local l false ∷ []
        go [] h = absurd (cc)
        go (local m trailing ∷ []) h = ap (λ k. local k false ∷ []) (ap (λ (o : Option ℕ). unwrap_or o m) h)
        go (local m trailing ∷ p ∷ ps) h = absurd (cc)
        go (code c ∷ ps) h = absurd (cc)
        go (dereference ∷ ps) h = absurd (cc)
        go (jump conditionally place ∷ ps) h = absurd (cc)
        go (landing_pad place ∷ ps) h = absurd (cc)

    pub base-acts : o.opcode ≡ DW_OP_fbreg → o.first < 2 ^ 64 → (l : ℕ) → local_of_base base ≡ Some l → label ≡ Some l → IsLoaded n s w l → acts
    unfolding wasm_step
    base-acts is fits l of_base of_label facts = record {
      action = λ v. (value_of_label n s l >>= λ value. Ok (pushed v value)) >>= does n (DW_OP_plus_uconst, o.first, 0);
      count = count_operations (value_bytes s (s.place l)) + 1;
      simulates =
          let values : straight_bytes s (parts_of base o) ≡ straight_bytes s (base_values base ++ code (DW_OP_plus_uconst ∷ uleb_bytes o.first) ∷ []) = ap (λ k. straight_bytes s (parts_by (rule_of k) base o)) is in
          let parts : straight_bytes s (parts_of base o) ≡ value_bytes s (s.place l) ++ (DW_OP_plus_uconst ∷ uleb_bytes o.first) =
          values ∙ ap (λ ps. straight_bytes s (ps ++ code (DW_OP_plus_uconst ∷ uleb_bytes o.first) ∷ [])) (based-values base l of_base) ∙ ap (λ bs. value_bytes s (s.place l) ++ bs) (append-nil (DW_OP_plus_uconst ∷ uleb_bytes o.first)) in
          subst (λ bs. Simulates n bs (λ v. (value_of_label n s l >>= λ value. Ok (pushed v value)) >>= does n (DW_OP_plus_uconst, o.first, 0)) (count_operations (value_bytes s (s.place l)) + 1)) (sym parts)
          (simulates-both n (value_bytes s (s.place l)) (DW_OP_plus_uconst ∷ uleb_bytes o.first) (λ v. value_of_label n s l >>= λ value. Ok (pushed v value)) (does n (DW_OP_plus_uconst, o.first, 0)) (count_operations (value_bytes s (s.place l))) 1
          (value-runs n s l (is-size n s w addresses) facts.place)
          (simulates-one n (DW_OP_plus_uconst ∷ uleb_bytes o.first) (DW_OP_plus_uconst, o.first, 0) (plus-operation o.first fits) refl));
      keeps = λ v u g h.
          let value : ℕ = (facts.local).value in
          let given : wasm_step w label o t ≡ Ok (wrapped 4 (value % 2 ^ 32 + o.first) ∷ t) =
          ap (λ k. by_wasm_rule w label o t (coded wasm_rules k)) is
          ∙ ap (λ b. base_read w b >>= λ b. Ok (wrapped 4 (b + o.first) ∷ t)) of_label
          ∙ ap (λ q. ok_or q (register_missing l) >>= λ b. Ok (wrapped 4 (b + o.first) ∷ t)) (facts.local).wasm in
          record {
            made = pushed v (wrapped 8 (value + o.first));
            is =
                ap (λ q. (q >>= λ value. Ok (pushed v value)) >>= does n (DW_OP_plus_uconst, o.first, 0)) (facts.local).native
                ∙ ap (λ k. Ok (pushed v (wrapped k (value + o.first)))) addresses;
            good = record {
              low = subst (Low (wrapped 8 (value + o.first) ∷ v.stack)) (ok-is (sym given ∙ h)) ((low-sum_with value o.first, below (value + o.first)), g.low);
              count = λ k. no-count o DW_OP_fbreg is refl refl k [] (wrapped 8 (value + o.first) ∷ v.stack) (Ok (wrapped 8 (value + o.first) ∷ v.stack)) refl;
              pieces = g.pieces;
              mark = g.mark;
            };
          };
    }
      where
        below : (m : ℕ) → wrapped 8 m < 2 ^ 64
        below m = omega arith
