-- The limits of numbers: what fits 64 bits and what does not, and where bytes are missing.
use Rattle.std.proofs.Common.{◌≡◌, ◌-◌, ◌^◌, pos, negsuc, [], ◌∷◌, Ok, Err, refl}
use Rattle.dwc_base.specs.declared.faults.Flaw.TheVariants.{EndsEarly, TooWide}
use Rattle.dwc_base.specs.declared.records.Endian.TheVariants.{Little, Big}
use Rattle.dwc_base.specs.Reading.{uleb_at, sleb_at, number_at, text_at, bytes_at, part_at}
use Rattle.dwc_worked.proofs.Numbers.{at_start, at_place}
use Rattle.dwc_worked.proofs.OnLiterals.{reading_on_literals}

-- the greatest unsigned number of 64 bits
uleb-greatest : uleb_at (at_start Little (0xFF ∷ 0xFF ∷ 0xFF ∷ 0xFF ∷ 0xFF ∷ 0xFF ∷ 0xFF ∷ 0xFF ∷ 0xFF ∷ 0x01 ∷ [])) ≡ Ok (2 ^ 64 - 1, at_place 10 [])
unfolding reading_on_literals
uleb-greatest = refl

-- one more does not fit
uleb-past_greatest : uleb_at (at_start Little (0x80 ∷ 0x80 ∷ 0x80 ∷ 0x80 ∷ 0x80 ∷ 0x80 ∷ 0x80 ∷ 0x80 ∷ 0x80 ∷ 0x02 ∷ [])) ≡ Err TooWide
unfolding reading_on_literals
uleb-past_greatest = refl

-- the greatest with two redundant bytes fits
uleb-greatest-redundant : uleb_at (at_start Little (0xFF ∷ 0xFF ∷ 0xFF ∷ 0xFF ∷ 0xFF ∷ 0xFF ∷ 0xFF ∷ 0xFF ∷ 0xFF ∷ 0x81 ∷ 0x80 ∷ 0x00 ∷ [])) ≡ Ok (2 ^ 64 - 1, at_place 12 [])
unfolding reading_on_literals
uleb-greatest-redundant = refl

-- a number that has no last byte ends early, wide as it is
uleb-wide-cut : uleb_at (at_start Little (0xFF ∷ 0xFF ∷ 0xFF ∷ 0xFF ∷ 0xFF ∷ 0xFF ∷ 0xFF ∷ 0xFF ∷ 0xFF ∷ 0xFF ∷ 0xFF ∷ 0xFF ∷ [])) ≡ Err EndsEarly
unfolding reading_on_literals
uleb-wide-cut = refl

-- no bytes spell no number
uleb-nothing : uleb_at (at_start Little ([])) ≡ Err EndsEarly
unfolding reading_on_literals
uleb-nothing = refl

-- what stands behind a number is left
uleb-left : uleb_at (at_start Little (0x7F ∷ 0x01 ∷ 0x02 ∷ [])) ≡ Ok (127, at_place 1 (1 ∷ 2 ∷ []))
unfolding reading_on_literals
uleb-left = refl

-- the greatest signed number of 64 bits
sleb-greatest : sleb_at (at_start Little (0xFF ∷ 0xFF ∷ 0xFF ∷ 0xFF ∷ 0xFF ∷ 0xFF ∷ 0xFF ∷ 0xFF ∷ 0xFF ∷ 0x00 ∷ [])) ≡ Ok (pos (2 ^ 63 - 1), at_place 10 [])
unfolding reading_on_literals
sleb-greatest = refl

-- one more does not fit
sleb-past_greatest : sleb_at (at_start Little (0x80 ∷ 0x80 ∷ 0x80 ∷ 0x80 ∷ 0x80 ∷ 0x80 ∷ 0x80 ∷ 0x80 ∷ 0x80 ∷ 0x01 ∷ [])) ≡ Err TooWide
unfolding reading_on_literals
sleb-past_greatest = refl

-- -1 with redundant bytes fits
sleb-minus_1-redundant : sleb_at (at_start Little (0xFF ∷ 0xFF ∷ 0xFF ∷ 0xFF ∷ 0xFF ∷ 0xFF ∷ 0xFF ∷ 0xFF ∷ 0xFF ∷ 0xFF ∷ 0xFF ∷ 0x7F ∷ [])) ≡ Ok (negsuc 0, at_place 12 [])
unfolding reading_on_literals
sleb-minus_1-redundant = refl

-- the least of 64 bits with a redundant byte fits
sleb-least-redundant : sleb_at (at_start Little (0x80 ∷ 0x80 ∷ 0x80 ∷ 0x80 ∷ 0x80 ∷ 0x80 ∷ 0x80 ∷ 0x80 ∷ 0x80 ∷ 0xFF ∷ 0x7F ∷ [])) ≡ Ok (negsuc (2 ^ 63 - 1), at_place 11 [])
unfolding reading_on_literals
sleb-least-redundant = refl

-- a signed number that has no last byte ends early
sleb-cut : sleb_at (at_start Little (0x80 ∷ 0x80 ∷ 0x80 ∷ 0x80 ∷ 0x80 ∷ 0x80 ∷ 0x80 ∷ 0x80 ∷ 0x80 ∷ 0x80 ∷ 0x80 ∷ [])) ≡ Err EndsEarly
unfolding reading_on_literals
sleb-cut = refl

-- eight bytes, the lowest first
little-8 : number_at 8 (at_start Little (0xEF ∷ 0xCD ∷ 0xAB ∷ 0x89 ∷ 0x67 ∷ 0x45 ∷ 0x23 ∷ 0x01 ∷ [])) ≡ Ok (0x0123456789ABCDEF, at_place 8 [])
unfolding reading_on_literals
little-8 = refl

-- and the highest first
big-8 : number_at 8 (at_start Big (0x01 ∷ 0x23 ∷ 0x45 ∷ 0x67 ∷ 0x89 ∷ 0xAB ∷ 0xCD ∷ 0xEF ∷ [])) ≡ Ok (0x0123456789ABCDEF, record { order = Big; place = 8; left = [] })
unfolding reading_on_literals
big-8 = refl

-- the greatest number of eight bytes
greatest-8 : number_at 8 (at_start Little (0xFF ∷ 0xFF ∷ 0xFF ∷ 0xFF ∷ 0xFF ∷ 0xFF ∷ 0xFF ∷ 0xFF ∷ [])) ≡ Ok (2 ^ 64 - 1, at_place 8 [])
unfolding reading_on_literals
greatest-8 = refl

-- seven bytes are too few
cut-8 : number_at 8 (at_start Little (0xFF ∷ 0xFF ∷ 0xFF ∷ 0xFF ∷ 0xFF ∷ 0xFF ∷ 0xFF ∷ [])) ≡ Err EndsEarly
unfolding reading_on_literals
cut-8 = refl

-- one byte is the same in both orders
one-big : number_at 1 (at_start Big (0x80 ∷ [])) ≡ Ok (128, record { order = Big; place = 1; left = [] })
unfolding reading_on_literals
one-big = refl

-- a text of no bytes
text-empty : text_at (at_start Little (0x00 ∷ 0x61 ∷ [])) ≡ Ok ([], at_place 1 (0x61 ∷ []))
unfolding reading_on_literals
text-empty = refl

-- no bytes can be taken of nothing, and none left
bytes-none : bytes_at 0 (at_start Little []) ≡ Ok ([], at_place 0 [])
unfolding reading_on_literals
bytes-none = refl

-- one more than are there cannot
bytes-past : bytes_at 3 (at_start Little (1 ∷ 2 ∷ [])) ≡ Err EndsEarly
unfolding reading_on_literals
bytes-past = refl

-- a part keeps its place
part : part_at 2 (at_place 7 (1 ∷ 2 ∷ 3 ∷ [])) ≡ Ok (at_place 7 (1 ∷ 2 ∷ []), at_place 9 (3 ∷ []))
unfolding reading_on_literals
part = refl
