-- Whole numbers, as a text writes them.
use Rattle.std.proofs.Common.{◌≡◌, ℕ, ◌^◌, ◌<◌, ◌≤◌, drop, take, get_or, length, length-take, List, [], true, false, Option, Some, None, refl, sym, ap, ◌∙◌, arith, lt-ltb}
use Rattle.std.specs.Prelude.{◌==◌, IfSome}
use Rattle.std.specs.Str.Parse.{digits_value, AllDigits, IsNumeral}
use Rattle.std.proofs.lemmas.Float.Parse.{scan_numeral-text_of}
use Rattle.std.proofs.lemmas.List.{append-nil}
use Rattle.std.proofs.lemmas.Str.Parse.{digit_at}
use Rattle.std.proofs.lemmas.Int.Digits.{digits_value-lt}
use Rattle.std.proofs.Math.Nat.{pow-le-pow_right}
use Rattle.fast_float.specs.Text.{Parts, scan}
use Rattle.serde_json.specs.Data.{Num, unsigned}
use Rattle.serde_json.specs.Read.{number_of, number_from}

pub unsigned-text : (s : List ℕ) → (get_or s 0 0 == 45) ≡ false → number_of s ≡ number_from false (scan s)
unfolding number_of
unsigned-text s is = rw is

pub signed-text : (s : List ℕ) → (get_or s 0 0 == 45) ≡ true → number_of s ≡ number_from true (scan (drop 1 s))
unfolding number_of
signed-text s is = rw is

pub told-by : {A : Type 0} (o : Option A) (f : A → Num) (a b : Option Num) → b ≡ a → IfSome o (λ n. a ≡ Some (f n)) → IfSome o (λ n. b ≡ Some (f n))
told-by None f a b is h = tt
told-by (Some n) f a b is h = is ∙ h

-- ---- digits alone

abbrev parts : List ℕ → Parts
parts s = record { whole = s; point = false; fraction = []; exponent_negative = false; exponent = []; len = length s }

scan-digits : (s : List ℕ) → AllDigits 10 s → scan s ≡ parts s
scan-digits s all =
    ap scan (sym (append-nil s))
    ∙ scan_numeral-text_of (parts s) (record { whole_digits = all; fraction_digits = tt; exponent_digits = tt; no_point = λ e. refl; no_exponent = λ e. refl; len_is = ap length (sym (append-nil s)) })

pub digits-number : (s : List ℕ) (n : ℕ) → IsNumeral 10 s × (n ≡ digits_value 10 s) × (n < 2 ^ 64) → number_of s ≡ Some (unsigned n)
digits-number s n h =
    let first = digit_at s 0 h.0.1 h.0.0 in
    let plain : (get_or s 0 0 == 45) ≡ false = grind (arith, first) in
    let low : digits_value 10 s < 2 ^ 64 = omega (arith, h.1, h.2) in
    unsigned-text s plain ∙ ap (number_from false) (scan-digits s h.0.1)
    ∙ rw (append-nil s, lt-ltb 0 (length s) h.0.0, lt-ltb (digits_value 10 s) (2 ^ 64) low, h.1)

-- the number of fewer than 19 digits can take one digit more
pub digits-below : (s : List ℕ) (i : ℕ) → i < 19 → AllDigits 10 (take i s) → digits_value 10 (take i s) < 10 ^ 18
digits-below s i few all =
    let most : 10 ^ length (take i s) ≤ 10 ^ 18 = pow-le-pow_right (omega arith) {j = 18} (omega (arith, length-take i s, few)) in
    omega (arith, most, digits_value-lt 10 (take i s) all)
