-- Numbers as they are written: of a fixed size, and as LEB128, one spelling for each. (DWARF 4 and 5, section 7.6.)
use Rattle.std.specs.Prelude.{ℕ, zero, suc, ◌+◌, ◌-◌, ◌/◌, ◌%◌, ℤ, pos, negsuc, List, [], ◌∷◌, reverse, true, false, nat_lt}
use Rattle.dwc_base.specs.declared.records.Endian.{Endian}
use Rattle.dwc_base.specs.declared.records.Endian.TheVariants.{Little, Big}

-- a number in as many bytes as said, the lowest first
abbrev pub low_bytes : ℕ → ℕ → List ℕ
low_bytes zero n = []
low_bytes (suc size) n = (n % 256) ∷ low_bytes size (n / 256)

-- a number of fixed size
abbrev pub number_bytes : Endian → ℕ → ℕ → List ℕ
number_bytes Little size n = low_bytes size n
number_bytes Big size n = reverse (low_bytes size n)

-- an unsigned LEB128 number, as short as it can be; the first argument bounds the steps and plays no part
unfoldable pub uleb_bytes_within : ℕ → ℕ → List ℕ
uleb_bytes_within zero n = n ∷ []
uleb_bytes_within (suc most) n = elim (nat_lt n 128) [ true ↦ n ∷ [] | false ↦ (128 + n % 128) ∷ uleb_bytes_within most (n / 128) ]

unfoldable pub uleb_bytes : ℕ → List ℕ
uleb_bytes n = uleb_bytes_within n n

-- a signed one from 0 on
unfoldable pub sleb_bytes_from_0 : ℕ → ℕ → List ℕ
sleb_bytes_from_0 zero n = n ∷ []
sleb_bytes_from_0 (suc most) n = elim (nat_lt n 64) [ true ↦ n ∷ [] | false ↦ (128 + n % 128) ∷ sleb_bytes_from_0 most (n / 128) ]

-- and one below 0, which is n below -1
unfoldable pub sleb_bytes_below_0 : ℕ → ℕ → List ℕ
sleb_bytes_below_0 zero n = (127 - n) ∷ []
sleb_bytes_below_0 (suc most) n = elim (nat_lt n 64) [ true ↦ (127 - n) ∷ [] | false ↦ (255 - n % 128) ∷ sleb_bytes_below_0 most (n / 128) ]

-- a signed LEB128 number, as short as it can be
unfoldable pub sleb_bytes : ℤ → List ℕ
sleb_bytes (pos n) = sleb_bytes_from_0 n n
sleb_bytes (negsuc n) = sleb_bytes_below_0 n n
