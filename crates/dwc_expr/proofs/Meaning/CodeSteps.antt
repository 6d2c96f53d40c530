-- Steps inside a part that is bytes.
use Rattle.std.proofs.Common.{◌≡◌, ℕ, suc, ◌+◌, refl, sym, ap, subst, ◌∙◌, arith, List, [], ◌∷◌, ◌++◌, append_assoc, length, length-append, drop, Result, Ok, Err, is_err}
use Rattle.std.specs.Prelude.{slice_get}
use Rattle.dwc_base.specs.Reading.{◌>>=◌}
use Rattle.dwc_native.specs.Parts.{Part, code}
use Rattle.dwc_native.specs.Built.{Setting, built_bytes}
use Rattle.dwc_machines.specs.StackOperations.{Stop}
use Rattle.dwc_machines.specs.NativeStates.{NativeState, Evaluation}
use Rattle.dwc_machines.specs.ByteMachine.{ByteState, byte_step, stepped}
use Rattle.dwc_machines.specs.PartMachine.{PartState, behind_operation, part_step}
use Rattle.dwc_expr.specs.RunsAlike.{CanRun, part_offset, byte_place, byte_state, operations_of_step}
use Rattle.dwc_expr.proofs.Meaning.MachineSteps.{drop-front, does, step-at}
use Rattle.dwc_expr.proofs.Meaning.StraightCode.{First, code-step}
use Rattle.dwc_expr.proofs.Meaning.PartStates.{At, InCode, Stands, behind, first-of}
use Rattle.dwc_expr.proofs.Meaning.PartSteps.{Follows, at-of, begin-here, end-here, slice-here, step-here}

module _ (n : NativeState) (s : Setting) (ps : List Part) (can : CanRun n s ps) where
  -- ---- a part that is bytes

  module _ (at : PartState) (front : List Part) (c : List ℕ) (rest : List Part) (split : ps ≡ front ++ code c ∷ rest) (number : at.part ≡ length front) (w : InCode c at.inside) where
    f : First at.inside w.left
    f = first-of at.inside w.left w.some w.straight

    abbrev pub h : At s ps front (code c) rest
    h = (at-of n s ps can) front (code c) rest split

    parted : c ≡ w.done ++ (f.taken ++ f.rest)
    parted = w.split ∙ ap (λ bs. w.done ++ bs) f.whole

    left-here : drop at.inside c ≡ f.taken ++ f.rest
    left-here = ap (λ bs. drop at.inside bs) w.split ∙ ap (λ k. drop k (w.done ++ w.left)) w.number ∙ drop-front w.done w.left ∙ f.whole

    code-bytes : built_bytes s ps ≡ (h.before ++ w.done) ++ (f.taken ++ (f.rest ++ h.after))
    code-bytes =
        h.bytes
        ∙ ap (λ bs. h.before ++ (bs ++ h.after)) parted
        ∙ ap (λ bs. h.before ++ bs) (append_assoc w.done (f.taken ++ f.rest) h.after)
        ∙ ap (λ bs. h.before ++ (w.done ++ bs)) (append_assoc f.taken f.rest h.after)
        ∙ sym (append_assoc h.before w.done (f.taken ++ (f.rest ++ h.after)))

    begin-code : part_offset s ps at.part ≡ length h.before
    begin-code = (begin-here n s ps can) at front (code c) rest split number

    end-code : part_offset s ps (suc at.part) ≡ length h.before + length c
    end-code = (end-here n s ps can) at front (code c) rest split number

    place-code : length (h.before ++ w.done) ≡ byte_place s ps at
    place-code = omega (arith, length-append h.before w.done, begin-code, w.number)

    one : operations_of_step s (slice_get ps at.part) ≡ 1
    one = ap (operations_of_step s) ((slice-here n s ps can) at front (code c) rest split number)

    byte-code : byte_step n (built_bytes s ps) (byte_state s ps at) ≡ (does n f.numbers at.made >>= λ made. Ok (record { place = byte_place s ps at + length f.taken; made = made }))
    byte-code =
        ap (λ bs. byte_step n bs (byte_state s ps at)) code-bytes
        ∙ subst (λ k. byte_step n ((h.before ++ w.done) ++ (f.taken ++ (f.rest ++ h.after))) (record { place = k; made = at.made }) ≡ (does n f.numbers at.made >>= λ made. Ok (record { place = k + length f.taken; made = made }))) place-code
        (step-at n f.taken f.numbers f.is f.free (h.before ++ w.done) (f.rest ++ h.after) at.made)

    long-code : length c ≡ at.inside + (length f.taken + length f.rest)
    long-code = omega (arith, ap length parted, length-append w.done (f.taken ++ f.rest), length-append f.taken f.rest, w.number)

    next-place : (left : List ℕ) (made : Evaluation) → f.rest ≡ left → byte_place s ps at + length f.taken ≡ byte_place s ps (behind_operation at.part (at.inside + length f.taken) left made)
    next-place [] made is = omega (arith, end-code, begin-code, long-code, ap length is)
    next-place (b ∷ bs) made is = omega arith

    next-made : (left : List ℕ) (made : Evaluation) (k : ℕ) → k ≡ byte_place s ps (behind_operation at.part (at.inside + length f.taken) left made) → ◌≡◌ {A = ByteState} (record { place = k; made = made }) (byte_state s ps (behind_operation at.part (at.inside + length f.taken) left made))
    next-made [] made k is = ap (λ p. record { place = p; made = made }) is
    next-made (b ∷ bs) made k is = ap (λ p. record { place = p; made = made }) is

    next-stands : (left : List ℕ) (made : Evaluation) → f.rest ≡ left → Stands ps (behind_operation at.part (at.inside + length f.taken) left made)
    next-stands [] made is = (behind n s ps can) front (code c) rest split at.part number made
    next-stands (b ∷ bs) made is = record {
      front = front;
      rest = code c ∷ rest;
      split = split;
      number = number;
      inside = record {
        done = w.done ++ f.taken;
        left = f.rest;
        split = parted ∙ sym (append_assoc w.done f.taken f.rest);
        number = omega (arith, w.number, length-append w.done f.taken);
        some = omega (arith, ap length is);
        straight = f.later;
      };
    }

    pub code-follows : (Follows n s ps can) at (part_step n s ps at)
    code-follows = subst ((Follows n s ps can) at) (sym ((step-here n s ps can) at front (code c) rest split number ∙ code-step n s ps at c f.taken f.rest f.numbers left-here f.is)) (go (does n f.numbers at.made) byte-code)
      where
        go : (r : Result Evaluation Stop) → byte_step n (built_bytes s ps) (byte_state s ps at) ≡ (r >>= λ made. Ok (record { place = byte_place s ps at + length f.taken; made = made }))
            → (Follows n s ps can) at (r >>= λ made. Ok (behind_operation at.part (at.inside + length f.taken) f.rest made))
        go (Ok made) e = (
          subst (λ k. stepped (byte_step n (built_bytes s ps)) k (byte_state s ps at) ≡ Ok (byte_state s ps (behind_operation at.part (at.inside + length f.taken) f.rest made))) (sym one)
              (e ∙ ap (λ t. Ok t) (next-made f.rest made (byte_place s ps at + length f.taken) (next-place f.rest made refl))),
          next-stands f.rest made refl,
        )
        go (Err stop) e = λ inside. record {
          more = 0;
          at = byte_state s ps at;
          reached = refl;
          stops = ap is_err e;
          behind_begin = omega arith;
          before_end = omega (arith, end-code, begin-code, long-code, f.is.some);
        }
