-- The bytes of the first operations of an expression that has a meaning.
use Rattle.std.proofs.Common.{◌≡◌, ℕ, zero, suc, ◌+◌, refl, sym, ap, subst, ◌∙◌, arith, List, [], ◌∷◌, ◌++◌, append-nil, append_assoc, length, take, drop, Option, Some, None, Result, Ok, Err, Bool, true, false}
use Rattle.std.specs.Prelude.{◌||◌, if◌then◌else◌}
use Rattle.std.specs.List.{list_any}
use Rattle.std.proofs.lemmas.List.Folds.{list_any-append}
use Rattle.dwc_base.specs.Reading.{◌>>=◌}
use Rattle.dwc_dwarf.specs.Operations.{Operation}
use Rattle.dwc_native.specs.Parts.{dereference, CompiledParts, rule_of, parts_of, single_code, is_jump}
use Rattle.dwc_native.specs.Placed.{built_parts}
use Rattle.dwc_native.specs.Built.{Setting, built_bytes}
use Rattle.dwc_machines.specs.StackOperations.{Stop}
use Rattle.dwc_machines.specs.NativeStates.{NativeState, Evaluation, at_first}
use Rattle.dwc_machines.specs.ByteMachine.{byte_steps}
use Rattle.dwc_machines.specs.WasmMachine.{WasmState, wasm_run}
use Rattle.dwc_expr.specs.RunsAlike.{CanRun, count_operations}
use Rattle.dwc_expr.specs.MeaningPremises.{first_stack, wasm_stack, HasMeaning}
use Rattle.dwc_expr.specs.KeepsMeaning.{parts_of_first, MeansAt}
use Rattle.dwc_expr.proofs.Meaning.Simulations.{RunsTo, Simulates, simulates-both, simulates-count}
use Rattle.dwc_expr.proofs.Meaning.StraightParts.{straight_bytes, straight-append, joined-straight, joined-any, built-straight}
use Rattle.dwc_machines.proofs.LowNumbers.{Low}
use Rattle.dwc_expr.proofs.Meaning.OperationActs.{ends_marked}
use Rattle.dwc_expr.proofs.Meaning.MeaningRuns.{Ran, runs-first}
use Rattle.dwc_expr.proofs.Meaning.CompiledShapes.{stands, parts-stand, old-stands}
use Rattle.dwc_expr.proofs.Meaning.MeaningParts.{behind, each-take, low-bits}
use Rattle.dwc_expr.proofs.Meaning.BegunMeanings.{Begun, begun, fits, label, of_all, old, os, parts-are, stand, straight}

module _ (n : NativeState) (s : Setting) (w : WasmState) (base : Option CompiledParts) (bytes : List ℕ) (x : CompiledParts) (m : HasMeaning n s w base bytes x) (can : CanRun n s (built_parts x)) where
  -- ---- after some operations

  -- what is behind their bytes
  abbrev pub tail : List ℕ
  tail = straight_bytes s (behind x.need_deref (single_code x.parts))

  split-parts : (count : ℕ) (qs : List Operation) → straight_bytes s ((of_all n s w base bytes x m can) qs) ≡ straight_bytes s ((of_all n s w base bytes x m can) (take count qs)) ++ straight_bytes s ((of_all n s w base bytes x m can) (drop count qs))
  split-parts zero qs = refl
  split-parts (suc count) [] = refl
  split-parts (suc count) (o ∷ qs) =
      straight-append s (parts_of base o) ((of_all n s w base bytes x m can) qs)
      ∙ ap (λ bs. straight_bytes s (parts_of base o) ++ bs) (split-parts count qs)
      ∙ sym (append_assoc (straight_bytes s (parts_of base o)) (straight_bytes s ((of_all n s w base bytes x m can) (take count qs))) (straight_bytes s ((of_all n s w base bytes x m can) (drop count qs))))
      ∙ ap (λ bs. bs ++ straight_bytes s ((of_all n s w base bytes x m can) (drop count qs))) (sym (straight-append s (parts_of base o) ((of_all n s w base bytes x m can) (take count qs))))

  abbrev pub front_bytes : ℕ → List ℕ
  front_bytes count = straight_bytes s (old n s w base bytes x m can) ++ straight_bytes s ((of_all n s w base bytes x m can) (take count (os n s w base bytes x m can)))

  abbrev pub rest_bytes : ℕ → List ℕ
  rest_bytes count = straight_bytes s ((of_all n s w base bytes x m can) (drop count (os n s w base bytes x m can))) ++ tail

  pub whole-bytes : (count : ℕ) → built_bytes s (built_parts x) ≡ front_bytes count ++ rest_bytes count
  whole-bytes count =
      built-straight s (built_parts x) (straight n s w base bytes x m can)
      ∙ ends x.need_deref (single_code x.parts)
      ∙ ap (λ ps. straight_bytes s ps ++ tail) (parts-are n s w base bytes x m can)
      ∙ ap (λ bs. bs ++ tail) (joined-straight s ((old n s w base bytes x m can) ++ (of_all n s w base bytes x m can) (os n s w base bytes x m can)) ∙ straight-append s (old n s w base bytes x m can) ((of_all n s w base bytes x m can) (os n s w base bytes x m can)) ∙ ap (λ bs. straight_bytes s (old n s w base bytes x m can) ++ bs) (split-parts count (os n s w base bytes x m can)))
      ∙ ap (λ bs. bs ++ tail) (sym (append_assoc (straight_bytes s (old n s w base bytes x m can)) (straight_bytes s ((of_all n s w base bytes x m can) (take count (os n s w base bytes x m can)))) (straight_bytes s ((of_all n s w base bytes x m can) (drop count (os n s w base bytes x m can))))))
      ∙ append_assoc (front_bytes count) (straight_bytes s ((of_all n s w base bytes x m can) (drop count (os n s w base bytes x m can)))) tail
    where
      ends : (d : Bool) (o : Option (List ℕ)) → straight_bytes s (if d then (elim o [ None ↦ x.parts ++ dereference ∷ [] | Some bytes ↦ x.parts ]) else x.parts) ≡ straight_bytes s x.parts ++ straight_bytes s (behind d o)
      ends true None = straight-append s x.parts (dereference ∷ [])
      ends true (Some bytes) = sym (append-nil (straight_bytes s x.parts))
      ends false o = sym (append-nil (straight_bytes s x.parts))

  first-bytes : (count : ℕ) → built_bytes s (parts_of_first base (os n s w base bytes x m can) count) ≡ front_bytes count
  first-bytes count =
      built-straight s (parts_of_first base (os n s w base bytes x m can) count)
      (joined-any is_jump (λ c. refl) ((old n s w base bytes x m can) ++ (of_all n s w base bytes x m can) (take count (os n s w base bytes x m can))) ∙ list_any-append is_jump (old n s w base bytes x m can) ((of_all n s w base bytes x m can) (take count (os n s w base bytes x m can))) ∙ ap (λ b. b || list_any is_jump ((of_all n s w base bytes x m can) (take count (os n s w base bytes x m can)))) (old-stands base m.base_plain (os n s w base bytes x m can)) ∙ parts-stand base m.base_plain (take count (os n s w base bytes x m can)) (each-take (λ o. stands (rule_of o.opcode) ≡ true) count (os n s w base bytes x m can) (stand n s w base bytes x m can)))
      ∙ joined-straight s ((old n s w base bytes x m can) ++ (of_all n s w base bytes x m can) (take count (os n s w base bytes x m can)))
      ∙ straight-append s (old n s w base bytes x m can) ((of_all n s w base bytes x m can) (take count (os n s w base bytes x m can)))

  -- The bytes of the first operations, run from the first byte on.
  pub record After (count : ℕ) (u : List ℕ) : Type 0 where
    pub action : Evaluation → Result Evaluation Stop
    pub steps : ℕ
    pub simulates : Simulates n (front_bytes count) action steps
    pub made : Evaluation
    pub is : action at_first ≡ Ok made
    pub low : Low made.stack u
    pub pieces : made.pieces ≡ []
    pub mark : made.is_value ≡ ends_marked (take count (os n s w base bytes x m can))

  pub after : (count : ℕ) (u : List ℕ) → wasm_stack w base (os n s w base bytes x m can) count ≡ Ok u → After count u
  after count u h = go (first_stack w base (os n s w base bytes x m can)) refl h
    where
      go : (r : Result (List ℕ) Stop) → first_stack w base (os n s w base bytes x m can) ≡ r → (r >>= wasm_run w (label n s w base bytes x m can) (take count (os n s w base bytes x m can))) ≡ Ok u → After count u
      go (Err stop) e h = absurd (cc)
      go (Ok t) e h =
          let b : (Begun n s w base bytes x m can) t = (begun n s w base bytes x m can) t e in
          let r : Ran n s w base m.addresses m.order m.memory_of_bytes (take count (os n s w base bytes x m can)) b.made u = runs-first n s w base m.addresses m.order m.memory_of_bytes count (os n s w base bytes x m can) None b.made t u m.kind ((fits n s w base bytes x m can) t e) b.good h in
          record {
            action = λ v. b.action v >>= r.action;
            steps = b.count + r.count;
            simulates = simulates-both n (straight_bytes s (old n s w base bytes x m can)) (straight_bytes s ((of_all n s w base bytes x m can) (take count (os n s w base bytes x m can)))) b.action r.action b.count r.count b.simulates r.simulates;
            made = r.made;
            is = ap (λ q. q >>= r.action) b.is ∙ r.is;
            low = r.low;
            pieces = r.pieces;
            mark = r.mark;
          }

  -- bytes that run as an action, in front of others, from the first byte on
  pub run-front : (front rest : List ℕ) (action : Evaluation → Result Evaluation Stop) (steps : ℕ) (made : Evaluation) → built_bytes s (built_parts x) ≡ front ++ rest → Simulates n front action steps → action at_first ≡ Ok made
      → byte_steps n (built_bytes s (built_parts x)) steps ≡ Ok (record { place = 0 + length front; made = made })
  run-front front rest action steps made whole w is =
      ap (λ bs. byte_steps n bs steps) whole
      ∙ subst (RunsTo n (front ++ rest) (record { place = 0; made = at_first }) (0 + length front) steps) is (w.runs [] rest at_first)

  pub means-at : (count : ℕ) (u : List ℕ) → wasm_stack w base (os n s w base bytes x m can) count ≡ Ok u → MeansAt n (built_bytes s (built_parts x)) (built_bytes s (parts_of_first base (os n s w base bytes x m can) count)) u
  means-at count u h =
      let a : After count u = after count u h in
      let steps : count_operations (built_bytes s (parts_of_first base (os n s w base bytes x m can) count)) ≡ a.steps = ap count_operations (first-bytes count) ∙ simulates-count n (front_bytes count) a.action a.steps a.simulates in
      record {
        at = record { place = 0 + length (front_bytes count); made = a.made };
        reached = ap (byte_steps n (built_bytes s (built_parts x))) steps ∙ run-front (front_bytes count) (rest_bytes count) a.action a.steps a.made (whole-bytes count) a.simulates a.is;
        there = omega (arith, ap length (first-bytes count));
        same = low-bits (a.made).stack u a.low;
      }
