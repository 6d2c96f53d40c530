-- An expression that has a meaning, and the frame base in front of it.
use Rattle.std.proofs.Common.{◌≡◌, ℕ, ◌^◌, ◌%◌, ◌⊎◌, refl, sym, ap, subst, ◌∙◌, inl, inr, arith, List, [], ◌∷◌, ◌++◌, append-nil, length, take, Option, Some, None, is_some, Result, Ok, Bool, true, false, true≢false}
use Rattle.std.specs.Prelude.{ok_or, ◌||◌}
use Rattle.std.specs.List.{list_all, list_any, filter_map, flat_map}
use Rattle.std.proofs.lemmas.Bool.{and_parts}
use Rattle.std.proofs.lemmas.List.Folds.{list_all-append, list_any-append}
use Rattle.std.proofs.lemmas.List.Elements.{filter_map-append}
use Rattle.dwc_base.specs.Reading.{◌>>=◌}
use Rattle.dwc_dwarf.specs.Operations.{Operation, operations}
use Rattle.dwc_native.specs.Parts.{Part, local, CompiledParts, rule_of, is_supported, is_supported_by, targets, parts_of, parts_behind_pads, pad_at, old_format, joined, leaves_address, lone_local, label_alone, is_jump}
use Rattle.dwc_native.specs.Placed.{built_parts, is_dereference, reads_memory}
use Rattle.dwc_native.specs.Built.{Setting, value_bytes}
use Rattle.dwc_base.specs.declared.constants.TheConstants.{DW_OP_fbreg}
use Rattle.dwc_machines.specs.StackOperations.{Stop, register_missing}
use Rattle.dwc_machines.specs.NativeStates.{NativeState, Evaluation, at_first, pushed}
use Rattle.dwc_machines.specs.PartMachine.{value_of_label}
use Rattle.dwc_machines.specs.WasmMachine.{WasmState, base_read, wasm_run}
use Rattle.dwc_expr.specs.RunsAlike.{is_set, has_place, CanRun, count_operations}
use Rattle.dwc_expr.specs.WholeParts.{is_whole_part}
use Rattle.dwc_expr.specs.MeaningPremises.{local_of_base, stack_behind, first_stack, label_of_local, IsLocal, HasMeaning}
use Rattle.dwc_expr.proofs.Meaning.Simulations.{Simulates, simulates-nothing}
use Rattle.dwc_expr.proofs.Meaning.PartImages.{value-runs}
use Rattle.dwc_expr.proofs.Meaning.StraightParts.{straight_bytes, joined-keeps, joined-all, joined-any}
use Rattle.dwc_machines.proofs.LowNumbers.{Low, ok-is}
use Rattle.dwc_expr.proofs.Meaning.KeptRecords.{Good}
use Rattle.dwc_expr.proofs.Meaning.LowValues.{is-size, value-small}
use Rattle.dwc_expr.proofs.Meaning.OperationActs.{Each, each-append, Fits}
use Rattle.dwc_expr.proofs.Meaning.CompiledShapes.{inputs, stands, all-stand, no-targets, parts-stand, old-stands}
use Rattle.dwc_expr.proofs.Meaning.CompiledIs.{IsCompiled, is-compiled}
use Rattle.dwc_expr.proofs.Meaning.MeaningParts.{based-local, built-all, built-any, built-none, each-of-all, old-value}

-- ---- an expression that has a meaning, and can run

module _ (n : NativeState) (s : Setting) (w : WasmState) (base : Option CompiledParts) (bytes : List ℕ) (x : CompiledParts) (m : HasMeaning n s w base bytes x) (can : CanRun n s (built_parts x)) where
  abbrev pub os : List Operation
  os = (operations bytes).items

  abbrev pub label : Option ℕ
  label = local_of_base base

  abbrev pub of_all : List Operation → List Part
  of_all qs = flat_map (parts_of base) qs

  abbrev pub old : List Part
  old = old_format base os

  compiles : IsCompiled base bytes x
  compiles = is-compiled base bytes x m.of_bytes

  pub stand : Each (λ o. stands (rule_of o.opcode) ≡ true) os
  stand = all-stand None os m.kind

  shape : x ≡ record { parts = joined (old ++ of_all os); need_deref = leaves_address os }
  shape = go (lone_local os) compiles.is
    where
      untargeted : (ts : List ℕ) → ts ≡ [] → joined (old ++ (parts_behind_pads base ts os ++ pad_at ts (length bytes))) ≡ joined (old ++ of_all os)
      untargeted ts none = ap (λ ts. joined (old ++ (parts_behind_pads base ts os ++ pad_at ts (length bytes)))) none ∙ ap (λ ps. joined (old ++ ps)) (append-nil (of_all os))

      go : (lone : Option ℕ) → x ≡ (elim lone [ Some label ↦ label_alone label | None ↦ record { parts = joined (old ++ (parts_behind_pads base (targets os) os ++ pad_at (targets os) (length bytes))); need_deref = leaves_address os } ]) → x ≡ record { parts = joined (old ++ of_all os); need_deref = leaves_address os }
      go (Some l) is = absurd (true≢false (sym (subst (λ (y : CompiledParts). list_all (is_whole_part (built_parts y)) (built_parts y) ≡ true) is can.whole)))
      go None is = is ∙ ap (λ ps. record { parts = ps; need_deref = leaves_address os }) (untargeted (targets os) (no-targets os stand))

  pub parts-are : x.parts ≡ joined (old ++ of_all os)
  parts-are = ap (λ (y : CompiledParts). y.parts) shape

  pub deref-is : x.need_deref ≡ leaves_address os
  deref-is = ap (λ (y : CompiledParts). y.need_deref) shape

  locals : Each (IsLocal n s w) (filter_map label_of_local (old ++ of_all os))
  locals = subst (Each (IsLocal n s w)) (ap (filter_map label_of_local) parts-are ∙ joined-keeps label_of_local (λ c. refl) (old ++ of_all os)) (each-of-all (IsLocal n s w) (filter_map label_of_local x.parts) m.locals)

  sets : list_all (is_set s) (old ++ of_all os) ≡ true
  sets = sym (joined-all (is_set s) (λ c. refl) (old ++ of_all os)) ∙ ap (list_all (is_set s)) (sym parts-are) ∙ built-all (is_set s) x can.set

  pub some-read : list_any is_dereference (of_all os) ≡ true → reads_memory x ≡ true
  some-read h =
      built-any is_dereference x
      (ap (list_any is_dereference) parts-are ∙ joined-any is_dereference (λ c. refl) (old ++ of_all os) ∙ list_any-append is_dereference old (of_all os) ∙ right (list_any is_dereference old) (list_any is_dereference (of_all os)) h)
    where
      right : (a b : Bool) → b ≡ true → (a || b) ≡ true
      right true b h = refl
      right false b h = h

  pub straight : list_any is_jump (built_parts x) ≡ false
  straight =
      built-none x
      (ap (list_any is_jump) parts-are ∙ joined-any is_jump (λ c. refl) (old ++ of_all os) ∙ list_any-append is_jump old (of_all os) ∙ ap (λ b. b || list_any is_jump (of_all os)) (old-stands base m.base_plain os) ∙ parts-stand base m.base_plain os stand)

  based : (qs : List Operation) → list_all (is_supported (is_some base) (length bytes)) qs ≡ true → Each (λ o. o.opcode ≡ DW_OP_fbreg → (l : ℕ) × (label ≡ Some l)) qs
  based [] h = tt
  based (o ∷ qs) h =
      let both = and_parts (is_supported (is_some base) (length bytes) o) (list_all (is_supported (is_some base) (length bytes)) qs) h in
      ((λ is. based-local base (sym (ap (λ k. is_supported_by (rule_of k) (is_some base) (length bytes) o) is) ∙ both.0) m.base_plain), based qs both.1)

  pub fits : (t : List ℕ) → first_stack w base os ≡ Ok t → Fits n s w base m.addresses m.order m.memory_of_bytes os t
  fits t first = record {
    inputs = inputs (length bytes) 0 bytes (omega arith);
    based = based os compiles.supported;
    locals = (each-append (IsLocal n s w) (filter_map label_of_local old) (filter_map label_of_local (of_all os)) (subst (Each (IsLocal n s w)) (filter_map-append label_of_local old (of_all os)) locals)).1;
    sets = (and_parts (list_all (is_set s) old) (list_all (is_set s) (of_all os)) (sym (list_all-append (is_set s) old (of_all os)) ∙ sets)).1;
    memory = λ h. m.memory (some-read h);
    inside = λ count o address stack at is run. m.reads count o address stack at is (ap (λ r. r >>= wasm_run w label (take count os)) first ∙ run);
  }

  -- ---- the frame base in front

  pub record Begun (t : List ℕ) : Type 0 where
    pub action : Evaluation → Result Evaluation Stop
    pub count : ℕ
    pub simulates : Simulates n (straight_bytes s old) action count
    pub made : Evaluation
    pub is : action at_first ≡ Ok made
    pub good : Good None false made t

  pub begun : (t : List ℕ) → first_stack w base os ≡ Ok t → Begun t
  begun t first = go (old-value base m.base_plain os)
    where
      go : (old ≡ []) ⊎ ((l : ℕ) × (label ≡ Some l) × (old ≡ local l false ∷ [])) → Begun t
      go (inl none) = record {
        action = λ v. Ok v;
        count = 0;
        simulates = subst (λ ps. Simulates n (straight_bytes s ps) (λ v. Ok v) 0) (sym none) (simulates-nothing n);
        made = at_first;
        is = refl;
        good = record { low = subst (Low []) (ok-is (sym (ap (stack_behind w label) none) ∙ first)) tt; count = λ k. absurd (true≢false (sym k)); pieces = refl; mark = refl };
      }
      go (inr (l, of_label, one)) =
          let own : IsLocal n s w l = (subst (λ ps. Each (IsLocal n s w) (filter_map label_of_local (ps ++ of_all os))) one locals).0 in
          let place : has_place s l ≡ true = (and_parts (has_place s l) _ (subst (λ ps. list_all (is_set s) (ps ++ of_all os) ≡ true) one sets)).0 in
          let given : first_stack w base os ≡ Ok (own.value % 2 ^ 32 ∷ []) =
          ap (stack_behind w label) one
          ∙ ap (λ b. base_read w b >>= λ a. Ok (a ∷ [])) of_label
          ∙ ap (λ q. ok_or q (register_missing l) >>= λ a. Ok (a ∷ [])) own.wasm in
          record {
            action = λ v. value_of_label n s l >>= λ value. Ok (pushed v value);
            count = count_operations (value_bytes s (s.place l));
            simulates = subst (λ bs. Simulates n bs (λ v. value_of_label n s l >>= λ value. Ok (pushed v value)) (count_operations (value_bytes s (s.place l)))) (sym (ap (straight_bytes s) one ∙ append-nil (value_bytes s (s.place l)))) (value-runs n s l (is-size n s w m.addresses) place);
            made = pushed at_first own.value;
            is = ap (λ q. q >>= λ value. Ok (pushed at_first value)) own.native;
            good = record {
              low = subst (Low (own.value ∷ [])) (ok-is (sym given ∙ first)) ((refl, value-small n s w m.addresses l own.value own.native), tt);
              count = λ k. absurd (true≢false (sym k));
              pieces = refl;
              mark = refl;
            };
          }
