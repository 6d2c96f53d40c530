-- What sources and sinks may answer, and answers that their clauses refuse.
use Rattle.std.proofs.Common.{◌≡◌, ℕ, ◌-◌, ◌^◌, List, [], ◌∷◌, Some, None, Ok, Err, refl, sym, arith, lit<, lit≤}
use Rattle.std.specs.Prelude.{Option, Result}
use Rattle.std.proofs.lemmas.Bool.{true≢false}
use Rattle.dwc_cli.specs.Devices.{HasCause, Takes, Accepts, OpensAt, FailsWhileShut}
use Rattle.dwc_cli.specs.RunStatus.{Files}

-- an answer with a number, or with an error that says nothing
abbrev pub Answer : Type 0
Answer = Result ℕ ℕ

abbrev pub given : ℕ → Answer
given n = Ok n

abbrev pub failed : Answer
failed = Err 0

-- ---- counts of failures

-- a failed call whose count stays, and one whose count rises
failed-no_cause : HasCause 3 3 failed → ⊥
failed-no_cause h = omega (arith, h.failed)

failed-cause : HasCause 3 4 failed
failed-cause = record { later = lit≤ tt; failed = lit≤ tt; well = tt }

-- a count that rises though the call is answered well
count-rises : HasCause 3 4 (given 0) → ⊥
count-rises h = omega (arith, h.well)

-- a count that falls
count-falls : HasCause 3 2 (given 0) → ⊥
count-falls h = omega (arith, h.later)

-- ---- bytes given

-- a read adds what it gives, and a failed one nothing; at its type's end the number stays
takes : Takes 5 8 (given 3)
takes = refl

takes-less : Takes 5 7 (given 3) → ⊥
takes-less h = omega (arith, h)

takes-failed : Takes 5 8 failed → ⊥
takes-failed h = omega (arith, h)

takes-at_end : Takes (2 ^ 64 - 2) (2 ^ 64 - 1) (given 3)
takes-at_end = refl

-- ---- bytes taken

-- a sink takes a front of the piece
accepts : Accepts (Some (9 ∷ [])) (Some (9 ∷ 1 ∷ [])) (1 ∷ 2 ∷ []) (given 1)
accepts = (lit≤ tt, (λ h. lit< tt), refl)

-- nothing of a piece that is not empty, more than the piece, other bytes, and bytes though it failed
accepts-nothing : Accepts (Some []) (Some []) (1 ∷ []) (given 0) → ⊥
accepts-nothing h = let some = h.1 (lit< tt) in omega (arith, some)

accepts-more : Accepts None None (1 ∷ []) (given 2) → ⊥
accepts-more h = omega (arith, h.0)

accepts-other : Accepts (Some []) (Some (2 ∷ [])) (1 ∷ []) (given 1) → ⊥
accepts-other h = let same : ◌≡◌ {A = Option (List ℕ)} (Some (2 ∷ [])) (Some (1 ∷ [])) = h.2 in cc

accepts-failed : Accepts (Some []) (Some (1 ∷ [])) (1 ∷ []) failed → ⊥
accepts-failed h = let same : ◌≡◌ {A = Option (List ℕ)} (Some (1 ∷ [])) (Some []) = h in cc

-- ---- opened files

-- a path that is not there opens, and one that is there opens with other bytes
opens-missing : OpensAt None (Some []) (given 0) → ⊥
opens-missing h = h

opens-other : OpensAt (Some (1 ∷ [])) (Some []) (given 0) → ⊥
opens-other h = let same : ◌≡◌ {A = Option (List ℕ)} (Some []) (Some (1 ∷ [])) = h in cc

-- a file that stays open behind a failed opening
opens-stale : OpensAt None (Some (1 ∷ [])) failed → ⊥
opens-stale h = let same : ◌≡◌ {A = Option (List ℕ)} (Some (1 ∷ [])) None = h in cc

-- a read that succeeds while no file is open
shut-read : (files : Files) → FailsWhileShut (Some files) None (given 0) → ⊥
shut-read files h = true≢false (sym (h refl refl))
