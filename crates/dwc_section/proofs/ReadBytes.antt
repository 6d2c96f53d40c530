-- The bytes of numbers of fixed size are what `to_le_bytes` and `to_be_bytes` give: name `number_bytes_are` in the `using` of a
-- function that appends them, and it needs no file.
use Rattle.std.proofs.Common.{◌≡◌, ℕ, ◌/◌, refl, arith}
use Rattle.std.specs.Int.{w16, w32, w64, to_le_bytes, to_be_bytes}
use Rattle.dwc_base.specs.declared.records.Endian.TheVariants.{Little, Big}
use Rattle.dwc_base.specs.NumberBytes.{number_bytes}

pub number_bytes-le_2 : (n : ℕ) → to_le_bytes w16 n ≡ number_bytes Little 2 n
number_bytes-le_2 n = refl

pub number_bytes-be_2 : (n : ℕ) → to_be_bytes w16 n ≡ number_bytes Big 2 n
number_bytes-be_2 n = refl

-- one division behind another
div-2 : (n : ℕ) → n / 256 / 256 ≡ n / 65536
div-2 n = omega arith

div-3 : (n : ℕ) → n / 256 / 256 / 256 ≡ n / 16777216
div-3 n = omega arith

div-4 : (n : ℕ) → n / 256 / 256 / 256 / 256 ≡ n / 4294967296
div-4 n = omega arith

div-5 : (n : ℕ) → n / 256 / 256 / 256 / 256 / 256 ≡ n / 1099511627776
div-5 n = omega arith

div-6 : (n : ℕ) → n / 256 / 256 / 256 / 256 / 256 / 256 ≡ n / 281474976710656
div-6 n = omega arith

div-7 : (n : ℕ) → n / 256 / 256 / 256 / 256 / 256 / 256 / 256 ≡ n / 72057594037927936
div-7 n = omega arith

pub number_bytes-le_4 : (n : ℕ) → to_le_bytes w32 n ≡ number_bytes Little 4 n
number_bytes-le_4 n = rw (div-3 n, div-2 n) refl

pub number_bytes-be_4 : (n : ℕ) → to_be_bytes w32 n ≡ number_bytes Big 4 n
number_bytes-be_4 n = rw (div-3 n, div-2 n) refl

pub number_bytes-le_8 : (n : ℕ) → to_le_bytes w64 n ≡ number_bytes Little 8 n
number_bytes-le_8 n = rw (div-7 n, div-6 n, div-5 n, div-4 n, div-3 n, div-2 n) refl

pub number_bytes-be_8 : (n : ℕ) → to_be_bytes w64 n ≡ number_bytes Big 8 n
number_bytes-be_8 n = rw (div-7 n, div-6 n, div-5 n, div-4 n, div-3 n, div-2 n) refl

-- for `using`, on a function that appends such bytes
pub ruleset number_bytes_are = (number_bytes-le_2, number_bytes-be_2, number_bytes-le_4, number_bytes-be_4, number_bytes-le_8, number_bytes-be_8)
