-- Steps of parts that are no bytes and do not jump, and the bytes.
use Rattle.std.proofs.Common.{◌≡◌, suc, ◌+◌, ◌<◌, sym, ap, subst, ◌∙◌, arith, List, ◌∷◌, ◌++◌, length, Some, Result, Ok, Err}
use Rattle.std.specs.Prelude.{ℤ, ok_or, slice_get}
use Rattle.dwc_base.specs.Reading.{◌>>=◌}
use Rattle.dwc_native.specs.Parts.{Part}
use Rattle.dwc_native.specs.Built.{Setting, part_bytes, part_length, distance_of, built_bytes}
use Rattle.dwc_machines.specs.StackOperations.{Stop, cut_short}
use Rattle.dwc_machines.specs.NativeStates.{NativeState, Evaluation}
use Rattle.dwc_machines.specs.ByteMachine.{byte_step, stepped}
use Rattle.dwc_machines.specs.PartMachine.{PartState, at_part, after_part, part_step}
use Rattle.dwc_expr.specs.RunsAlike.{CanRun, part_offset, byte_place, byte_state, operations_of_step}
use Rattle.dwc_expr.proofs.Meaning.Simulations.{StopsIn, RunsTo, Simulates}
use Rattle.dwc_expr.proofs.Meaning.PartOffsets.{total, part-long}
use Rattle.dwc_expr.proofs.Meaning.PartStates.{At, Stands, at-part-of, behind}

module _ (n : NativeState) (s : Setting) (ps : List Part) (can : CanRun n s ps) where
  -- ---- one step

  -- The bytes follow a step: they are where the parts are, or stop where these do.
  abbrev pub Follows : PartState → Result PartState Stop → Type 0
  Follows at (Ok next) = (stepped (byte_step n (built_bytes s ps)) (operations_of_step s (slice_get ps at.part)) (byte_state s ps at) ≡ Ok (byte_state s ps next)) × Stands ps next
  Follows at (Err stop) = at.part < length ps → StopsIn n (built_bytes s ps) (byte_state s ps at) (part_offset s ps at.part) (part_offset s ps (suc at.part))

  pub at-of : (front : List Part) (p : Part) (rest : List Part) → ps ≡ front ++ p ∷ rest → At s ps front p rest
  at-of front p rest split = subst (λ qs. At s qs front p rest) (sym split) (at-part-of s front p rest)

  module _ (at : PartState) (front : List Part) (p : Part) (rest : List Part) (split : ps ≡ front ++ p ∷ rest) (number : at.part ≡ length front) where
    abbrev pub here : At s ps front p rest
    here = at-of front p rest split

    pub slice-here : slice_get ps at.part ≡ Some p
    slice-here = ap (slice_get ps) number ∙ here.slice

    pub step-here : part_step n s ps at ≡ after_part n s ps at p
    unfolding part_step
    step-here = ap (λ o. ok_or o cut_short >>= after_part n s ps at) slice-here

    pub begin-here : part_offset s ps at.part ≡ length here.before
    begin-here = ap (part_offset s ps) number ∙ here.begin ∙ sym here.long

    pub end-here : part_offset s ps (suc at.part) ≡ length here.before + part_length s p
    end-here = ap (λ k. part_offset s ps (suc k)) number ∙ here.end ∙ ap (λ k. k + part_length s p) (sym here.long)

    abbrev pub d : ℤ
    d = distance_of s ps (total s front) p

    -- a part that is an image of an action
    pub image-follows : at.inside ≡ 0 → (action : Evaluation → Result Evaluation Stop) → Simulates n (part_bytes s d p) action (operations_of_step s (Some p))
        → after_part n s ps at p ≡ (action at.made >>= λ made. Ok (at_part (suc at.part) made)) → Follows at (part_step n s ps at)
    image-follows none action w after = subst (Follows at) (sym (step-here ∙ after)) (go (action at.made) (w.runs here.before here.after at.made))
      where
        long : length (part_bytes s d p) ≡ part_length s p
        long = part-long s d p

        start : length here.before ≡ byte_place s ps at
        start = omega (arith, begin-here, none)

        finish : length here.before + length (part_bytes s d p) ≡ part_offset s ps (suc at.part) + 0
        finish = omega (arith, end-here, long)

        count : operations_of_step s (Some p) ≡ operations_of_step s (slice_get ps at.part)
        count = ap (operations_of_step s) (sym slice-here)

        moved : (r : Result Evaluation Stop) → RunsTo n (here.before ++ (part_bytes s d p ++ here.after)) (record { place = length here.before; made = at.made }) (length here.before + length (part_bytes s d p)) (operations_of_step s (Some p)) r
            → RunsTo n (built_bytes s ps) (byte_state s ps at) (part_offset s ps (suc at.part) + 0) (operations_of_step s (slice_get ps at.part)) r
        moved r runs =
            subst (λ bs. RunsTo n bs (byte_state s ps at) (part_offset s ps (suc at.part) + 0) (operations_of_step s (slice_get ps at.part)) r) (sym here.bytes)
            (subst (λ k. RunsTo n (here.before ++ (part_bytes s d p ++ here.after)) (record { place = k; made = at.made }) (part_offset s ps (suc at.part) + 0) (operations_of_step s (slice_get ps at.part)) r) start
            (subst (λ k. RunsTo n (here.before ++ (part_bytes s d p ++ here.after)) (record { place = length here.before; made = at.made }) k (operations_of_step s (slice_get ps at.part)) r) finish
            (subst (λ c. RunsTo n (here.before ++ (part_bytes s d p ++ here.after)) (record { place = length here.before; made = at.made }) (length here.before + length (part_bytes s d p)) c r) count runs)))

        go : (r : Result Evaluation Stop) → RunsTo n (here.before ++ (part_bytes s d p ++ here.after)) (record { place = length here.before; made = at.made }) (length here.before + length (part_bytes s d p)) (operations_of_step s (Some p)) r
            → Follows at (r >>= λ made. Ok (at_part (suc at.part) made))
        go (Ok made) runs = (moved (Ok made) runs, (behind n s ps can) front p rest split at.part number made)
        go (Err stop) runs =
            let m : StopsIn n (built_bytes s ps) (byte_state s ps at) (byte_place s ps at) (part_offset s ps (suc at.part) + 0) = moved (Err stop) runs in
            λ inside. record { more = m.more; at = m.at; reached = m.reached; stops = m.stops; behind_begin = omega (arith, m.behind_begin, none); before_end = omega (arith, m.before_end) }
