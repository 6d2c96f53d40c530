-- Built bytes keep the meaning of their expression.
use Rattle.std.proofs.Common.{◌≡◌, ℕ, ◌+◌, ◌^◌, ◌%◌, refl, sym, ap, subst, ◌∙◌, arith, List, [], ◌∷◌, ◌++◌, append-nil, length, Option, Some, None, is_some, Result, Ok, Bool, true, false}
use Rattle.std.specs.Prelude.{◌&&◌, ◌||◌, not, if◌then◌else◌}
use Rattle.std.specs.List.{list_all, list_any}
use Rattle.std.proofs.lemmas.Bool.{and_parts}
use Rattle.std.proofs.lemmas.List.Folds.{list_all-append, list_any-append}
use Rattle.dwc_base.specs.Reading.{◌>>=◌}
use Rattle.dwc_dwarf.specs.Operations.{Operation, operations}
use Rattle.dwc_native.specs.Parts.{Part, dereference, CompiledParts, leaves_address, single_code, context_label}
use Rattle.dwc_native.specs.Placed.{built_parts, is_dereference}
use Rattle.dwc_native.specs.Built.{Setting, base_place_bytes, base_added, built_bytes}
use Rattle.dwc_machines.specs.StackOperations.{Stop, wrapped}
use Rattle.dwc_machines.specs.NativeStates.{NativeState, Piece, Evaluation, at_first}
use Rattle.dwc_machines.specs.ByteMachine.{byte_steps}
use Rattle.dwc_machines.specs.PartMachine.{memory_base, native_address}
use Rattle.dwc_machines.specs.WasmMachine.{WasmState}
use Rattle.dwc_expr.specs.RunsAlike.{is_set, has_place, has_memory, CanRun, count_operations}
use Rattle.dwc_expr.specs.MeaningPremises.{first_stack, wasm_stack, LiesAtBase, HasMeaning}
use Rattle.dwc_expr.specs.KeepsMeaning.{IsResult, EndsWith, leaves_native_address, KeepsMeaning, BuiltBytesKeepMeaning}
use Rattle.dwc_expr.proofs.Meaning.Simulations.{Simulates, simulates-both, simulates-count}
use Rattle.dwc_expr.proofs.Meaning.PartImages.{rebased, memory-runs}
use Rattle.dwc_expr.proofs.Meaning.StraightParts.{straight_bytes}
use Rattle.dwc_machines.proofs.LowNumbers.{Low, ok-is}
use Rattle.dwc_expr.proofs.Meaning.LowValues.{is-size}
use Rattle.dwc_expr.proofs.Meaning.OperationActs.{ends_marked}
use Rattle.dwc_expr.proofs.Meaning.MeaningParts.{behind, drop-whole, marks, take-whole}
use Rattle.dwc_expr.proofs.Meaning.BegunMeanings.{deref-is, of_all, os}
use Rattle.dwc_expr.proofs.Meaning.MeantOperations.{After, after, front_bytes, means-at, run-front, tail, whole-bytes}

module _ (n : NativeState) (s : Setting) (w : WasmState) (base : Option CompiledParts) (bytes : List ℕ) (x : CompiledParts) (m : HasMeaning n s w base bytes x) (can : CanRun n s (built_parts x)) where
  -- ---- at the end

  -- an expression with a result has an operation
  marked-whole : (qs : List Operation) → qs ≡ (os n s w base bytes x m can) → ends_marked qs ≡ not x.need_deref
  marked-whole [] none = absurd (empty (sym none))
    where
      empty : (os n s w base bytes x m can) ≡ [] → ⊥
      empty e =
          let t : first_stack w base [] ≡ Ok [] = refl in
          let r : ◌≡◌ {A = Result (List ℕ) Stop} (Ok []) (Ok (m.result ∷ m.others)) = sym (ap (λ qs. wasm_stack w base qs (length qs)) e) ∙ m.runs in
          let lists : [] ≡ m.result ∷ m.others = ok-is r in
          omega (arith, ap length lists)
  marked-whole (o ∷ qs) same = marks o qs ∙ ap (λ qs. not (leaves_address qs)) same ∙ ap not (sym (deref-is n s w base bytes x m can))

  end : (After n s w base bytes x m can) (length (os n s w base bytes x m can)) (m.result ∷ m.others)
  end = (after n s w base bytes x m can) (length (os n s w base bytes x m can)) (m.result ∷ m.others) m.runs

  end-mark : (end.made).is_value ≡ not x.need_deref
  end-mark = end.mark ∙ ap ends_marked (take-whole (os n s w base bytes x m can)) ∙ marked-whole (os n s w base bytes x m can) refl

  end-bytes : built_bytes s (built_parts x) ≡ (front_bytes n s w base bytes x m can) (length (os n s w base bytes x m can)) ++ (tail n s w base bytes x m can)
  end-bytes = (whole-bytes n s w base bytes x m can) (length (os n s w base bytes x m can)) ∙ ap (λ qs. (front_bytes n s w base bytes x m can) (length (os n s w base bytes x m can)) ++ (straight_bytes s ((of_all n s w base bytes x m can) qs) ++ (tail n s w base bytes x m can))) (drop-whole (os n s w base bytes x m can))

  -- without a read behind it
  ends-plain : straight_bytes s (behind x.need_deref (single_code x.parts)) ≡ [] → leaves_native_address x ≡ false → EndsWith n s (built_bytes s (built_parts x)) (leaves_native_address x) (not x.need_deref) m.result
  ends-plain none plain =
      let built_as : built_bytes s (built_parts x) ≡ (front_bytes n s w base bytes x m can) (length (os n s w base bytes x m can)) = end-bytes ∙ ap (λ bs. (front_bytes n s w base bytes x m can) (length (os n s w base bytes x m can)) ++ bs) none ∙ append-nil ((front_bytes n s w base bytes x m can) (length (os n s w base bytes x m can))) in
      let steps : count_operations (built_bytes s (built_parts x)) ≡ end.steps = ap count_operations built_as ∙ simulates-count n ((front_bytes n s w base bytes x m can) (length (os n s w base bytes x m can))) end.action end.steps end.simulates in
      record {
        at = record { place = 0 + length ((front_bytes n s w base bytes x m can) (length (os n s w base bytes x m can))); made = end.made };
        reached = ap (byte_steps n (built_bytes s (built_parts x))) steps ∙ (run-front n s w base bytes x m can) ((front_bytes n s w base bytes x m can) (length (os n s w base bytes x m can))) [] end.action end.steps end.made (built_as ∙ sym (append-nil ((front_bytes n s w base bytes x m can) (length (os n s w base bytes x m can))))) end.simulates end.is;
        there = omega (arith, ap length built_as);
        marked = end-mark;
        whole = end.pieces;
        means = subst (λ b. IsResult n s b m.result (end.made).stack) (sym plain) (result (end.made).stack end.low);
      }
    where
      result : (stack : List ℕ) → Low stack (m.result ∷ m.others) → IsResult n s false m.result stack
      result [] l = absurd l
      result (top ∷ stack) l = (l.0).0

  -- with one: the result is made an address of native code
  ends-address : behind x.need_deref (single_code x.parts) ≡ dereference ∷ [] → leaves_native_address x ≡ true → list_any is_dereference (built_parts x) ≡ true → is_set s dereference ≡ true → EndsWith n s (built_bytes s (built_parts x)) (leaves_native_address x) (not x.need_deref) m.result
  ends-address one address reads set = go (end.made).stack (end.made).pieces (end.made).is_value end.is end.low end.pieces end-mark
    where
      image : List ℕ
      image = base_place_bytes s s.memory (s.place context_label) ++ base_added

      lies : LiesAtBase n s w
      lies = m.memory reads

      placed : (has_memory s.memory ≡ true) × (has_place s context_label ≡ true)
      placed = and_parts (has_memory s.memory) (has_place s context_label) set

      all-bytes : built_bytes s (built_parts x) ≡ (front_bytes n s w base bytes x m can) (length (os n s w base bytes x m can)) ++ image
      all-bytes = end-bytes ∙ ap (λ ps. (front_bytes n s w base bytes x m can) (length (os n s w base bytes x m can)) ++ straight_bytes s ps) one ∙ ap (λ bs. (front_bytes n s w base bytes x m can) (length (os n s w base bytes x m can)) ++ bs) (append-nil image)

      both : Simulates n ((front_bytes n s w base bytes x m can) (length (os n s w base bytes x m can)) ++ image) (λ v. end.action v >>= rebased n (memory_base n s)) (end.steps + count_operations image)
      both = simulates-both n ((front_bytes n s w base bytes x m can) (length (os n s w base bytes x m can))) image end.action (rebased n (memory_base n s)) end.steps (count_operations image) end.simulates (memory-runs n s (is-size n s w m.addresses) placed.0 placed.1)

      steps : count_operations (built_bytes s (built_parts x)) ≡ end.steps + count_operations image
      steps = ap count_operations all-bytes ∙ simulates-count n ((front_bytes n s w base bytes x m can) (length (os n s w base bytes x m can)) ++ image) (λ v. end.action v >>= rebased n (memory_base n s)) (end.steps + count_operations image) both

      go : (stack : List ℕ) (pieces : List Piece) (is_value : Bool) → end.action at_first ≡ Ok (record { stack = stack; pieces = pieces; is_value = is_value }) → Low stack (m.result ∷ m.others) → pieces ≡ [] → is_value ≡ not x.need_deref
          → EndsWith n s (built_bytes s (built_parts x)) (leaves_native_address x) (not x.need_deref) m.result
      go [] pieces is_value made l none mark = absurd l
      go (top ∷ stack) pieces is_value made l none mark =
          let v : Evaluation = record { stack = native_address n lies.base top ∷ stack; pieces = pieces; is_value = is_value } in
          let rebase : (end.action at_first >>= rebased n (memory_base n s)) ≡ Ok v = ap (λ q. q >>= rebased n (memory_base n s)) made ∙ ap (λ q. q >>= λ b. Ok (record { stack = native_address n b top ∷ stack; pieces = pieces; is_value = is_value })) lies.is_base in
          let there : native_address n lies.base top ≡ (lies.base + m.result) % 2 ^ 64 = ap (λ k. wrapped k (lies.base + top % 2 ^ 32)) m.addresses ∙ ap (λ z. wrapped 8 (lies.base + z)) (l.0).0 in
          record {
            at = record { place = 0 + length ((front_bytes n s w base bytes x m can) (length (os n s w base bytes x m can)) ++ image); made = v };
            reached = ap (byte_steps n (built_bytes s (built_parts x))) steps ∙ (run-front n s w base bytes x m can) ((front_bytes n s w base bytes x m can) (length (os n s w base bytes x m can)) ++ image) [] (λ v. end.action v >>= rebased n (memory_base n s)) (end.steps + count_operations image) v (all-bytes ∙ sym (append-nil ((front_bytes n s w base bytes x m can) (length (os n s w base bytes x m can)) ++ image))) both rebase;
            there = omega (arith, ap length all-bytes);
            marked = mark;
            whole = none;
            means = subst (λ b. IsResult n s b m.result (native_address n lies.base top ∷ stack)) (sym address) (λ base is. there ∙ ap (λ b. (b + m.result) % 2 ^ 64) (ok-is (sym lies.is_base ∙ is)));
          }

  pub ends : EndsWith n s (built_bytes s (built_parts x)) (leaves_native_address x) (not x.need_deref) m.result
  ends = go x.need_deref refl (single_code x.parts) refl
    where
      built : x.need_deref ≡ true → single_code x.parts ≡ None → built_parts x ≡ x.parts ++ dereference ∷ []
      built d none = ap (λ b. if b then (elim (single_code x.parts) [ None ↦ x.parts ++ dereference ∷ [] | Some bytes ↦ x.parts ]) else x.parts) d ∙ by (single_code x.parts) none
        where
          by : (o : Option (List ℕ)) → o ≡ None → (elim o [ None ↦ x.parts ++ dereference ∷ [] | Some bytes ↦ x.parts ]) ≡ x.parts ++ dereference ∷ []
          by None h = refl
          by (Some bytes) h = absurd (cc)

      last-read : (ps : List Part) → list_any is_dereference (ps ++ dereference ∷ []) ≡ true
      last-read ps = list_any-append is_dereference ps (dereference ∷ []) ∙ or-true (list_any is_dereference ps)
        where
          or-true : (b : Bool) → (b || true) ≡ true
          or-true true = refl
          or-true false = refl

      go : (d : Bool) → x.need_deref ≡ d → (o : Option (List ℕ)) → single_code x.parts ≡ o → EndsWith n s (built_bytes s (built_parts x)) (leaves_native_address x) (not x.need_deref) m.result
      go false d o alone = ends-plain (ap (λ b. straight_bytes s (behind b (single_code x.parts))) d) (ap (λ b. b && not (is_some (single_code x.parts))) d)
      go true d (Some c) alone = ends-plain (ap (λ b. straight_bytes s (behind b (single_code x.parts))) d ∙ ap (λ o. straight_bytes s (behind true o)) alone) (ap (λ b. b && not (is_some (single_code x.parts))) d ∙ ap (λ o. not (is_some o)) alone)
      go true d None alone =
          let parts : built_parts x ≡ x.parts ++ dereference ∷ [] = built d alone in
          ends-address
          (ap (λ b. behind b (single_code x.parts)) d ∙ ap (behind true) alone)
          (ap (λ b. b && not (is_some (single_code x.parts))) d ∙ ap (λ o. not (is_some o)) alone)
          (ap (list_any is_dereference) parts ∙ last-read x.parts)
          (and_parts (is_set s dereference) true (and_parts (list_all (is_set s) x.parts) (list_all (is_set s) (dereference ∷ [])) (sym (list_all-append (is_set s) x.parts (dereference ∷ [])) ∙ ap (list_all (is_set s)) (sym parts) ∙ can.set)).1).0

  pub keep-meaning : KeepsMeaning n s w base (operations bytes).items x m.result (built_bytes s (built_parts x))
  keep-meaning = record { each = λ count u inside h. (means-at n s w base bytes x m can) count u h; whole = ends }

-- The law: built bytes keep the meaning of an expression.
pub built-bytes-keep-meaning : BuiltBytesKeepMeaning
built-bytes-keep-meaning n s w base bytes x m can = keep-meaning n s w base bytes x m can
