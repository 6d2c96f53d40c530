use Rattle.std.proofs.Common.{◌≡◌, ◌+◌, ◌-◌, ◌%◌, ◌<◌, drop, length, get_or, arith}
use Rattle.std.specs.Prelude.{pos, ◌+ℤ◌, ◌*ℤ◌, FitsSigned}
use Rattle.std.specs.Int.{w64}
use Rattle.std.proofs.lemmas.Int.{ints}
use Rattle.dwc_base.specs.Lebs.{signed_low_value}
use Rattle.dwc_base.proofs.SlebLaws.{signed_low_value-drop, signed_low_value-unfit}
use Rattle.dwc_base.proofs.leb128.signed_leb_value.Goals as goal
use Rattle.dwc_base.proofs.leb128.signed_leb_value.Goals.{then-value-via-then-value, then-value-via-else-value+then-value-2}

pub returns-then-value : goal.returns-then-value
returns-then-value c h =
    let bytes = c.args.bytes.now in
    let k = c.loop-k.k in
    let back : (k - 1) + 1 ≡ k = omega arith in
    let inside : (k - 1) + 1 < length bytes = omega arith in
    let step : signed_low_value (drop (k - 1) bytes) ≡ pos (get_or bytes (k - 1) 0 % 128) +ℤ pos 128 *ℤ signed_low_value (drop k bytes) = rw back at (signed_low_value-drop bytes (k - 1) inside) in
    signed_low_value-unfit bytes (k - 1) (omega arith) (λ fits. let whole : FitsSigned w64 (pos (get_or bytes (k - 1) 0 % 128) +ℤ pos 128 *ℤ signed_low_value (drop k bytes)) = rw step at fits in
    elim c.then-value.branch [ then-value-via-then-value w ↦ omega (arith, ints, w.if-value.true, c.loop-k.invariant.0) | then-value-via-else-value+then-value-2 w ↦ omega (arith, ints, w.if-value-2.true, c.loop-k.invariant.0) ]) h

pub loop-k-preserved : goal.loop-k-preserved
loop-k-preserved c =
    let bytes = c.args.bytes.now in
    let k = c.loop-k.k in
    let back : (k - 1) + 1 ≡ k = omega arith in
    let inside : (k - 1) + 1 < length bytes = omega arith in
    let step : signed_low_value (drop (k - 1) bytes) ≡ pos (get_or bytes (k - 1) 0 % 128) +ℤ pos 128 *ℤ signed_low_value (drop k bytes) = rw back at (signed_low_value-drop bytes (k - 1) inside) in
    (omega (arith, ints, step, c.from.ensures), omega arith)
