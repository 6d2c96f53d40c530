use Rattle.std.proofs.Common.{◌≡◌, ◌+◌, ◌<◌, length, get_or, arith, take_all}
use Rattle.std.proofs.lemmas.Int.Digits.{digits_more, digits_value_more}
use Rattle.std.proofs.lemmas.Str.{digit_value_digit}
use Rattle.std.specs.Char.{digit_value}
use Rattle.dwc_map.proofs.TokenNumbers.{digits-below}
use Rattle.dwc_map.proofs.tokens.digits_number.Goals as goal

pub overflow_mul-number : goal.overflow_mul-number
overflow_mul-number c = record { fits = omega (arith, c.loop-byte.invariant.value, digits-below c.args.digits.now c.loop-byte.byte-index (omega (arith, c.loop-byte-test.true, c.loop-byte.invariant.few)) c.loop-byte.invariant.digits) }

pub overflow_add-number : goal.overflow_add-number
overflow_add-number c = record { fits = omega (arith, c.from.ensures, c.if-byte-gt57.false, c.loop-byte.invariant.value, digits-below c.args.digits.now c.loop-byte.byte-index (omega (arith, c.loop-byte-test.true, c.loop-byte.invariant.few)) c.loop-byte.invariant.digits) }

pub loop-byte-preserved : goal.loop-byte-preserved
loop-byte-preserved c =
    let l = c.loop-byte in
    let bs = c.args.digits.now in
    let digit : digit_value (get_or bs l.byte-index 0) + 48 ≡ get_or bs l.byte-index 0 = digit_value_digit (get_or bs l.byte-index 0) (c.if-byte-lt48.false, c.if-byte-gt57.false) in
    record {
      few = l.invariant.few;
      digits = digits_more 10 bs l.byte-index c.loop-byte-test.true l.invariant.digits (omega (arith, digit, c.if-byte-gt57.false));
      value = omega (arith, c.from.ensures, digit, l.invariant.value, digits_value_more 10 bs l.byte-index c.loop-byte-test.true);
    }

pub returns : goal.returns
returns c =
    let l = c.loop-byte in
    let bs = c.args.digits.now in
    let all = take_all l.byte-index bs (omega (arith, c.loop-byte-test.false)) in
    let some : 0 < length bs = grind arith in
    ((some, rw all at l.invariant.digits), rw all at l.invariant.value, l.auto.number-fits.fits)
