-- The low bytes of a number are those of its remainder: for `using`, where a number is cut to as many bytes as are written.
use Rattle.std.proofs.Common.{◌≡◌, ℕ, ◌/◌, ◌%◌, refl, ap, ap, arith, [], ◌∷◌}
use Rattle.std.specs.Prelude.{reverse}
use Rattle.dwc_base.specs.declared.records.Endian.{Endian}
use Rattle.dwc_base.specs.declared.records.Endian.TheVariants.{Little, Big}
use Rattle.dwc_base.specs.NumberBytes.{low_bytes, number_bytes}

low_bytes-1 : (n : ℕ) → low_bytes 1 (n % 256) ≡ low_bytes 1 n
low_bytes-1 n = let a : n % 256 % 256 ≡ n % 256 = omega arith in rw (a) refl

low_bytes-2 : (n : ℕ) → low_bytes 2 (n % 65536) ≡ low_bytes 2 n
low_bytes-2 n =
    let a : n % 65536 % 256 ≡ n % 256 = omega arith in
    let b : n % 65536 / 256 % 256 ≡ n / 256 % 256 = omega arith in
    rw (a, b) refl

low_bytes-4 : (n : ℕ) → low_bytes 4 (n % 4294967296) ≡ low_bytes 4 n
low_bytes-4 n =
    let a : n % 4294967296 % 256 ≡ n % 256 = omega arith in
    let b : n % 4294967296 / 256 % 256 ≡ n / 256 % 256 = omega arith in
    let c : n % 4294967296 / 256 / 256 % 256 ≡ n / 256 / 256 % 256 = omega arith in
    let d : n % 4294967296 / 256 / 256 / 256 % 256 ≡ n / 256 / 256 / 256 % 256 = omega arith in
    rw (a, b, c, d) refl

pub number_bytes-1 : (order : Endian) (n : ℕ) → number_bytes order 1 n ≡ n % 256 ∷ []
number_bytes-1 Little n = refl
number_bytes-1 Big n = refl

pub number_bytes-2 : (order : Endian) (n : ℕ) → number_bytes order 2 (n % 65536) ≡ number_bytes order 2 n
number_bytes-2 Little n = low_bytes-2 n
number_bytes-2 Big n = ap reverse (low_bytes-2 n)

pub number_bytes-4 : (order : Endian) (n : ℕ) → number_bytes order 4 (n % 4294967296) ≡ number_bytes order 4 n
number_bytes-4 Little n = low_bytes-4 n
number_bytes-4 Big n = ap reverse (low_bytes-4 n)

pub ruleset sized_bytes_are = (number_bytes-1, number_bytes-2, number_bytes-4)
