-- Built bytes run as the parts that they were built from.
use Rattle.std.proofs.Common.{◌≡◌, ℕ, zero, suc, ◌<◌, refl, sym, ap, subst, ◌∙◌, arith, List, [], ◌∷◌, ◌++◌, append-nil, length, None, Result, Ok, Err, is_err, Bool, true, false, true≢false}
use Rattle.std.specs.Prelude.{ok_or, slice_get}
use Rattle.std.specs.List.{list_all}
use Rattle.std.proofs.lemmas.Bool.{and_parts}
use Rattle.dwc_base.specs.Reading.{◌>>=◌}
use Rattle.dwc_native.specs.Parts.{Part, code, local, dereference, jump, landing_pad, context_label}
use Rattle.dwc_native.specs.Built.{Setting, built_bytes}
use Rattle.dwc_machines.specs.StackOperations.{Stop, cut_short}
use Rattle.dwc_machines.specs.NativeStates.{NativeState, Piece, Evaluation, at_first, pushed, popping}
use Rattle.dwc_machines.specs.ByteMachine.{byte_step, stepped, byte_steps}
use Rattle.dwc_machines.specs.PartMachine.{PartState, at_part, value_of_label, memory_base, native_address, after_part, part_step, part_steps}
use Rattle.dwc_expr.specs.RunsAlike.{is_set, has_memory, has_place, CanRun, part_offset, byte_state, count_operations, operations_of_step, operations_from, operations_stepped, StopsWithin, RunsAlike, BuiltBytesRunAlike}
use Rattle.dwc_expr.specs.WholeParts.{is_whole_part}
use Rattle.dwc_expr.proofs.Meaning.Simulations.{StopsIn, Simulates, simulates-nothing, simulates-count}
use Rattle.dwc_expr.proofs.Meaning.MachineSteps.{stepped-on}
use Rattle.dwc_expr.proofs.Meaning.PartImages.{rebased, value-runs, memory-runs}
use Rattle.dwc_expr.proofs.Meaning.PartOffsets.{slice-end, all-at, offset-at, built-long}
use Rattle.dwc_expr.proofs.Meaning.PartStates.{Stands, StandsIn, begins, ok-is}
use Rattle.dwc_expr.proofs.Meaning.PartSteps.{Follows, image-follows}
use Rattle.dwc_expr.proofs.Meaning.CodeSteps.{code-follows}
use Rattle.dwc_expr.proofs.Meaning.JumpSteps.{jump-follows}

module _ (n : NativeState) (s : Setting) (ps : List Part) (can : CanRun n s ps) where
  -- ---- each step

  bind-made : (r : Result ℕ Stop) (v : Evaluation) (part : ℕ) → (r >>= λ value. Ok (at_part part (pushed v value))) ≡ ((r >>= λ value. Ok (pushed v value)) >>= λ made. Ok (at_part part made))
  bind-made (Ok value) v part = refl
  bind-made (Err stop) v part = refl

  bind-rebased : (base : Result ℕ Stop) (stack : List ℕ) (pieces : List Piece) (is_value : Bool) (part : ℕ)
      → (base >>= λ b. popping (record { stack = stack; pieces = pieces; is_value = is_value }) (λ address rest. Ok (at_part part (pushed rest (native_address n b address))))) ≡ (rebased n base (record { stack = stack; pieces = pieces; is_value = is_value }) >>= λ made. Ok (at_part part made))
  bind-rebased (Err stop) stack pieces is_value part = refl
  bind-rebased (Ok b) [] pieces is_value part = refl
  bind-rebased (Ok b) (address ∷ stack) pieces is_value part = refl

  set-at : (front : List Part) (p : Part) (rest : List Part) → ps ≡ front ++ p ∷ rest → is_set s p ≡ true
  set-at front p rest split = all-at (is_set s) front p rest (subst (λ qs. list_all (is_set s) qs ≡ true) split can.set)

  whole-at : (front : List Part) (p : Part) (rest : List Part) → ps ≡ front ++ p ∷ rest → is_whole_part ps p ≡ true
  whole-at front p rest split = all-at (is_whole_part ps) front p rest (subst (λ qs. list_all (is_whole_part ps) qs ≡ true) split can.whole)

  follows-in : (at : PartState) (front rest : List Part) → ps ≡ front ++ rest → at.part ≡ length front → StandsIn rest at.inside → (Follows n s ps can) at (part_step n s ps at)
  unfolding part_step
  follows-in at front [] split number w =
      let end : ps ≡ front = split ∙ append-nil front in
      let none : slice_get ps at.part ≡ None = ap (slice_get ps) (number ∙ ap length (sym end)) ∙ slice-end ps in
      subst ((Follows n s ps can) at) (sym (ap (λ o. ok_or o cut_short >>= after_part n s ps at) none)) (λ inside. absurd (omega (arith, inside, number, ap length end)))
  follows-in at front (code c ∷ rest) split number w = (code-follows n s ps can) at front c rest split number w
  follows-in at front (local label true ∷ rest) split number w = absurd (true≢false (sym (whole-at front (local label true) rest split)))
  follows-in at front (local label false ∷ rest) split number w =
      (image-follows n s ps can) at front (local label false) rest split number w (λ v. value_of_label n s label >>= λ value. Ok (pushed v value)) (value-runs n s label can.addresses (set-at front (local label false) rest split)) (bind-made (value_of_label n s label) at.made (suc at.part))
  follows-in at front (dereference ∷ rest) split number w =
      let sets = and_parts (has_memory s.memory) (has_place s context_label) (set-at front dereference rest split) in
      (image-follows n s ps can) at front dereference rest split number w (rebased n (memory_base n s)) (memory-runs n s can.addresses sets.0 sets.1) (bind-rebased (memory_base n s) at.made.stack at.made.pieces at.made.is_value (suc at.part))
  follows-in at front (jump conditionally place ∷ rest) split number w = (jump-follows n s ps can) at front conditionally place rest split number w
  follows-in at front (landing_pad place ∷ rest) split number w =
      let count : count_operations [] ≡ 0 = simulates-count n [] (λ v. Ok v) 0 (simulates-nothing n) in
      (image-follows n s ps can) at front (landing_pad place) rest split number w (λ v. Ok v) (subst (λ c. Simulates n [] (λ v. Ok v) c) (sym count) (simulates-nothing n)) refl

  follows : (at : PartState) → Stands ps at → (Follows n s ps can) at (part_step n s ps at)
  follows at w = follows-in at w.front w.rest w.split w.number w.inside

  -- ---- any number of steps

  pub record Reached (count : ℕ) (at : PartState) : Type 0 where
    pub bytes : byte_steps n (built_bytes s ps) (operations_stepped n s ps count) ≡ Ok (byte_state s ps at)
    pub stands : Stands ps at

  reached : (count : ℕ) (at : PartState) → part_steps n s ps count ≡ Ok at → Reached count at
  reached zero at h =
      let is : at_part 0 at_first ≡ at = ok-is h in
      subst (λ t. Reached 0 t) is (record { bytes = refl; stands = (begins n s ps can) [] ps refl 0 refl at_first })
  reached (suc count) at h = go (part_steps n s ps count) refl (λ before e. reached count before e) h
    where
      step : (before next : PartState) → part_steps n s ps count ≡ Ok before → Reached count before → (r : Result PartState Stop) → (Follows n s ps can) before r → r ≡ Ok next → Reached (suc count) next
      step before next e w (Err stop) f is = absurd (cc)
      step before next e w (Ok found) f is =
          let same : found ≡ next = ok-is is in
          let count-here : operations_from s ps (part_steps n s ps count) ≡ operations_of_step s (slice_get ps before.part) = ap (operations_from s ps) e in
          subst (λ t. Reached (suc count) t) same
          (record {
            bytes = stepped-on (byte_step n (built_bytes s ps)) (operations_stepped n s ps count) (operations_from s ps (part_steps n s ps count)) (record { place = 0; made = at_first }) (byte_state s ps before) (Ok (byte_state s ps found)) w.bytes
                (subst (λ k. stepped (byte_step n (built_bytes s ps)) k (byte_state s ps before) ≡ Ok (byte_state s ps found)) (sym count-here) f.0);
            stands = f.1;
          })

      go : (r : Result PartState Stop) → part_steps n s ps count ≡ r → ((before : PartState) → part_steps n s ps count ≡ Ok before → Reached count before) → (r >>= part_step n s ps) ≡ Ok at → Reached (suc count) at
      go (Err stop) e inner h = absurd (cc)
      go (Ok before) e inner h = let w : Reached count before = inner before e in step before at e w (part_step n s ps before) (follows before w.stands) h

  stops-within : (count : ℕ) (at : PartState) → part_steps n s ps count ≡ Ok at → is_err (part_step n s ps at) ≡ true → at.part < length ps → StopsWithin n s ps (built_bytes s ps) at.part (operations_stepped n s ps count)
  stops-within count at h stops inside = go (part_step n s ps at) (follows at w.stands) stops
    where
      w : Reached count at
      w = reached count at h

      go : (r : Result PartState Stop) → (Follows n s ps can) at r → is_err r ≡ true → StopsWithin n s ps (built_bytes s ps) at.part (operations_stepped n s ps count)
      go (Ok next) f stops = absurd (true≢false (sym stops))
      go (Err stop) f stops =
          let m : StopsIn n (built_bytes s ps) (byte_state s ps at) (part_offset s ps at.part) (part_offset s ps (suc at.part)) = f inside in
          record {
            more = m.more;
            at = m.at;
            reached = stepped-on (byte_step n (built_bytes s ps)) (operations_stepped n s ps count) m.more (record { place = 0; made = at_first }) (byte_state s ps at) (Ok m.at) w.bytes m.reached;
            stops = m.stops;
            behind_begin = m.behind_begin;
            before_end = m.before_end;
          }

  pub run-alike : RunsAlike n s ps (built_bytes s ps)
  run-alike = record {
    steps = λ count at h. (reached count at h).bytes;
    stops = stops-within;
    ends = ap (λ qs. part_offset s qs (length ps)) (sym (append-nil ps)) ∙ offset-at s ps [] ∙ sym (built-long s ps);
  }

pub built-bytes-run-alike : BuiltBytesRunAlike
built-bytes-run-alike n s ps can = run-alike n s ps can
