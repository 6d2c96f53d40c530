use Rattle.std.proofs.Common.{◌≡◌, ◌+◌, ◌-◌, ◌*◌, ◌%◌, ◌<◌, drop, length, get_or, arith}
use Rattle.dwc_base.specs.Lebs.{low_seven_bits_value}
use Rattle.dwc_base.proofs.LebLaws.{low_seven_bits_value-drop, low_seven_bits_value-le}
use Rattle.dwc_base.proofs.leb128.leb_value.Goals as goal

-- with another byte in front the value does not fit
pub returns-then-value : goal.returns-then-value
returns-then-value c h =
    let bytes = c.args.bytes.now in
    let k = c.loop-k.k in
    let back : (k - 1) + 1 ≡ k = omega arith in
    let inside : k - 1 < length bytes = omega arith in
    let step : low_seven_bits_value (drop (k - 1) bytes) ≡ get_or bytes (k - 1) 0 % 128 + 128 * low_seven_bits_value (drop k bytes) = rw back at (low_seven_bits_value-drop bytes (k - 1) inside) in
    omega (arith, step, low_seven_bits_value-le bytes (k - 1))
