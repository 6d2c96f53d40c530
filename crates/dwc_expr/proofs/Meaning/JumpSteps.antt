-- Steps that jump.
use Rattle.std.proofs.Common.{◌≡◌, ℕ, suc, ◌+◌, ◌≤◌, refl, sym, ap, subst, ◌∙◌, arith, List, [], ◌∷◌, ◌++◌, length, Result, Ok, is_err, Bool, true, false}
use Rattle.std.specs.Prelude.{ℤ, pos, ◌-ℤ◌, if◌then◌else◌, ok_or, ◌==◌, slice_get}
use Rattle.std.specs.List.{list_all}
use Rattle.dwc_base.specs.Reading.{◌>>=◌}
use Rattle.dwc_native.specs.Parts.{Part, jump, landing_pad}
use Rattle.dwc_native.specs.Built.{Setting, jump_bytes, pad_offset, distance_of, built_bytes, is_16_bit, jumps_fit_from}
use Rattle.dwc_machines.specs.StackOperations.{Stop, jumps_out}
use Rattle.dwc_machines.specs.NativeStates.{NativeState, Piece, Evaluation, popping}
use Rattle.dwc_machines.specs.ByteMachine.{ByteState, byte_step, stepped}
use Rattle.dwc_machines.specs.PartMachine.{PartState, at_part, landed, part_step}
use Rattle.dwc_expr.specs.RunsAlike.{CanRun, part_offset, byte_place, byte_state, operations_of_step}
use Rattle.dwc_expr.specs.WholeParts.{is_whole_part}
use Rattle.dwc_expr.proofs.Meaning.JumpImages.{jump-operation, operation-count, jumps_to, jump-step}
use Rattle.dwc_expr.proofs.Meaning.PartOffsets.{total, total-append, fits-at, all-at, built-long, HasPad, has-pad}
use Rattle.dwc_expr.proofs.Meaning.PartStates.{At, Stands, begins, behind}
use Rattle.dwc_expr.proofs.Meaning.PartSteps.{Follows, at-of, begin-here, end-here, slice-here, step-here}

module _ (n : NativeState) (s : Setting) (ps : List Part) (can : CanRun n s ps) where
  -- ---- a jump

  module _ (at : PartState) (front : List Part) (conditionally : Bool) (place : ℕ) (rest : List Part) (split : ps ≡ front ++ jump conditionally place ∷ rest) (number : at.part ≡ length front) (none : at.inside ≡ 0) where
    pad : HasPad s place ps
    pad = has-pad s place ps (all-at (is_whole_part ps) front (jump conditionally place) rest (subst (λ qs. list_all (is_whole_part ps) qs ≡ true) split can.whole))

    abbrev pub j : At s ps front (jump conditionally place) rest
    j = (at-of n s ps can) front (jump conditionally place) rest split

    abbrev pub goal : ℕ
    goal = pad_offset s place ps

    abbrev pub distance : ℤ
    distance = distance_of s ps (total s front) (jump conditionally place)

    begin-jump : part_offset s ps at.part ≡ length j.before
    begin-jump = (begin-here n s ps can) at front (jump conditionally place) rest split number

    end-jump : part_offset s ps (suc at.part) ≡ length j.before + 3
    end-jump = (end-here n s ps can) at front (jump conditionally place) rest split number

    short : is_16_bit distance ≡ true
    short =
        let e : 0 + total s front ≡ total s front = omega arith in
        subst (λ k. is_16_bit (distance_of s ps k (jump conditionally place)) ≡ true) e (fits-at s ps 0 front (jump conditionally place) rest (subst (λ qs. jumps_fit_from s ps 0 qs ≡ true) split can.fit))

    far : distance ≡ pos goal -ℤ pos (length j.before + 3)
    far = ap (λ k. pos goal -ℤ pos (k + 3)) (sym j.long)

    inside-bytes : goal ≤ length (j.before ++ (jump_bytes conditionally distance ++ j.after))
    inside-bytes =
        let whole : length (j.before ++ (jump_bytes conditionally distance ++ j.after)) ≡ total s ps = ap length (sym j.bytes) ∙ built-long s ps in
        let parts : total s ps ≡ total s pad.front + total s (landing_pad place ∷ pad.rest) = ap (total s) pad.split ∙ total-append s pad.front (landing_pad place ∷ pad.rest) in
        omega (arith, pad.offset, whole, parts)

    place-jump : length j.before ≡ byte_place s ps at
    place-jump = omega (arith, begin-jump, none)

    byte-jump : byte_step n (built_bytes s ps) (byte_state s ps at) ≡ jumps_to goal (length j.before + 3) conditionally at.made
    byte-jump =
        ap (λ bs. byte_step n bs (byte_state s ps at)) j.bytes
        ∙ ap (λ k. byte_step n (j.before ++ (jump_bytes conditionally distance ++ j.after)) (record { place = k; made = at.made })) (sym place-jump)
        ∙ jump-step n j.before j.after conditionally distance goal at.made short far inside-bytes

    once : operations_of_step s (slice_get ps at.part) ≡ 1
    once = ap (operations_of_step s) ((slice-here n s ps can) at front (jump conditionally place) rest split number) ∙ operation-count (jump_bytes conditionally (pos 0)) _ (jump-operation conditionally (pos 0))

    there : (v : Evaluation) → ◌≡◌ {A = ByteState} (record { place = goal; made = v }) (byte_state s ps (at_part (length pad.front) v))
    there v =
        let begin : part_offset s ps (length pad.front) ≡ total s pad.front = ((at-of n s ps can) pad.front (landing_pad place) pad.rest pad.split).begin in
        let e : goal ≡ part_offset s ps (length pad.front) + 0 = omega (arith, pad.offset, begin) in
        ap (λ k. record { place = k; made = v }) e

    on : (v : Evaluation) → ◌≡◌ {A = ByteState} (record { place = length j.before + 3; made = v }) (byte_state s ps (at_part (suc at.part) v))
    on v = let e : length j.before + 3 ≡ part_offset s ps (suc at.part) + 0 = omega (arith, end-jump) in ap (λ k. record { place = k; made = v }) e

    landed-there : (v : Evaluation) → landed ps place v ≡ Ok (at_part (length pad.front) v)
    landed-there v = ap (λ o. ok_or o jumps_out >>= λ part. Ok (at_part part v)) pad.number

    stands-there : (v : Evaluation) → Stands ps (at_part (length pad.front) v)
    stands-there v = (begins n s ps can) pad.front (landing_pad place ∷ pad.rest) pad.split (length pad.front) refl v

    -- one step leads there, or on
    steps-to : (next : PartState) → byte_step n (built_bytes s ps) (byte_state s ps at) ≡ Ok (byte_state s ps next) → stepped (byte_step n (built_bytes s ps)) (operations_of_step s (slice_get ps at.part)) (byte_state s ps at) ≡ Ok (byte_state s ps next)
    steps-to next e = subst (λ k. stepped (byte_step n (built_bytes s ps)) k (byte_state s ps at) ≡ Ok (byte_state s ps next)) (sym once) e

    always : byte_step n (built_bytes s ps) (byte_state s ps at) ≡ Ok (record { place = goal; made = at.made }) → (Follows n s ps can) at (landed ps place at.made)
    always e = subst ((Follows n s ps can) at) (sym (landed-there at.made)) (steps-to (at_part (length pad.front) at.made) (e ∙ ap (λ t. Ok t) (there at.made)), stands-there at.made)

    sometimes : (stack : List ℕ) (pieces : List Piece) (is_value : Bool) → byte_step n (built_bytes s ps) (byte_state s ps at) ≡ jumps_to goal (length j.before + 3) true (record { stack = stack; pieces = pieces; is_value = is_value })
        → (Follows n s ps can) at (popping (record { stack = stack; pieces = pieces; is_value = is_value }) (λ top rest. if top == 0 then Ok (at_part (suc at.part) rest) else landed ps place rest))
    sometimes [] pieces is_value e = λ inside. record {
      more = 0;
      at = byte_state s ps at;
      reached = refl;
      stops = ap is_err e;
      behind_begin = omega arith;
      before_end = omega (arith, begin-jump, end-jump, none);
    }
    sometimes (top ∷ stack) pieces is_value e = go (top == 0) e
      where
        v : Evaluation
        v = record { stack = stack; pieces = pieces; is_value = is_value }

        go : (zero : Bool) → byte_step n (built_bytes s ps) (byte_state s ps at) ≡ if◌then◌else◌ {A = Result ByteState Stop} zero (Ok (record { place = length j.before + 3; made = record { stack = stack; pieces = pieces; is_value = is_value } })) (Ok (record { place = goal; made = record { stack = stack; pieces = pieces; is_value = is_value } }))
            → (Follows n s ps can) at (if◌then◌else◌ {A = Result PartState Stop} zero (Ok (at_part (suc at.part) (record { stack = stack; pieces = pieces; is_value = is_value }))) (landed ps place (record { stack = stack; pieces = pieces; is_value = is_value })))
        go true e = (steps-to (at_part (suc at.part) v) (e ∙ ap (λ t. Ok t) (on v)), (behind n s ps can) front (jump conditionally place) rest split at.part number v)
        go false e = subst ((Follows n s ps can) at) (sym (landed-there v)) (steps-to (at_part (length pad.front) v) (e ∙ ap (λ t. Ok t) (there v)), stands-there v)

  pub jump-follows : (at : PartState) (front : List Part) (conditionally : Bool) (place : ℕ) (rest : List Part) (split : ps ≡ front ++ jump conditionally place ∷ rest) (number : at.part ≡ length front) → at.inside ≡ 0 → (Follows n s ps can) at (part_step n s ps at)
  jump-follows at front true place rest split number none =
      subst ((Follows n s ps can) at) (sym ((step-here n s ps can) at front (jump true place) rest split number))
      (sometimes at front true place rest split number none at.made.stack at.made.pieces at.made.is_value (byte-jump at front true place rest split number none))
  jump-follows at front false place rest split number none =
      subst ((Follows n s ps can) at) (sym ((step-here n s ps can) at front (jump false place) rest split number))
      (always at front false place rest split number none (byte-jump at front false place rest split number none))
