-- A line of the program's own.
use Rattle.std.proofs.Common.{◌≡◌, ℕ, List, ◌++◌, Option, Ok, Err, OnOk, subst, inl, inr}
use Rattle.std.specs.Prelude.{codes, Result}
use Rattle.dwc_cli.specs.Devices.{HasCause}
use Rattle.dwc_cli.specs.Answers.{Tells}
use Rattle.dwc_cli.specs.RunStatus.{Appended}
use Rattle.dwc_cli.specs.Printed.{line_feed}
use Rattle.dwc_cli.specs.Failures.{line_of}
use Rattle.dwc_cli.proofs.Writes.{Appended-append}

-- a line is appended in four parts
pub Appended-line : (before first second third now : Option (List ℕ)) (message detail whole : List ℕ) → Appended before first (codes "dwarfcarry: ") → Appended first second message → Appended second third detail → Appended third now line_feed → message ++ detail ≡ whole → Appended before now (line_of whole)
Appended-line before first second third now message detail whole a b c d same =
    let parts = Appended-append before third now ((codes "dwarfcarry: " ++ message) ++ detail) line_feed (Appended-append before second third (codes "dwarfcarry: " ++ message) detail (Appended-append before first second (codes "dwarfcarry: ") message a b) c) d in
    subst (λ m. Appended before now ((codes "dwarfcarry: " ++ m) ++ line_feed)) same parts

-- a line was written, or the sink failed
pub Tells-written : {T E : Type 0} (result : Result T E) (faults_before faults_now : ℕ) (before now : Option (List ℕ)) (message : List ℕ) → OnOk result (Appended before now (line_of message)) → HasCause faults_before faults_now result → Tells faults_before faults_now before now message
Tells-written (Ok x) faults_before faults_now before now message line cause = inr line
Tells-written (Err e) faults_before faults_now before now message line cause = inl cause.failed
