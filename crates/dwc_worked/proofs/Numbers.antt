-- Numbers that were worked out by hand, most of them in the DWARF standard's section on LEB128.
use Rattle.std.proofs.Common.{◌≡◌, ℕ, pos, negsuc, List, [], ◌∷◌, Some, Ok, Err, refl}
use Rattle.dwc_base.specs.declared.faults.Flaw.TheVariants.{EndsEarly, TooWide}
use Rattle.dwc_base.specs.Reading.{Unread, uleb_value, uleb_at, sleb_value, sleb_at, text_at, number_at}
use Rattle.dwc_worked.proofs.OnLiterals.{reading_on_literals}
use Rattle.dwc_base.specs.declared.records.Endian.{Endian}
use Rattle.dwc_base.specs.declared.records.Endian.TheVariants.{Little, Big}

abbrev pub at_start : Endian → List ℕ → Unread
at_start order bytes = record { order = order; place = 0; left = bytes }

abbrev pub at_place : ℕ → List ℕ → Unread
at_place place bytes = record { order = Little; place = place; left = bytes }

uleb-624485 : uleb_at (at_start Little (0xE5 ∷ 0x8E ∷ 0x26 ∷ 7 ∷ [])) ≡ Ok (624485, at_place 3 (7 ∷ []))
unfolding reading_on_literals
uleb-624485 = refl

uleb-12857 : uleb_value (0xB9 ∷ 0x64 ∷ []) ≡ Some (12857, 2)
uleb-12857 = refl

uleb-redundant : uleb_at (at_start Little (0x85 ∷ 0x80 ∷ 0x80 ∷ 0x80 ∷ 0x80 ∷ 0x80 ∷ 0x80 ∷ 0x80 ∷ 0x80 ∷ 0x80 ∷ 0x80 ∷ 0 ∷ [])) ≡ Ok (5, at_place 12 [])
unfolding reading_on_literals
uleb-redundant = refl

uleb-wide : uleb_at (at_start Little (0xFF ∷ 0xFF ∷ 0xFF ∷ 0xFF ∷ 0xFF ∷ 0xFF ∷ 0xFF ∷ 0xFF ∷ 0xFF ∷ 2 ∷ [])) ≡ Err TooWide
unfolding reading_on_literals
uleb-wide = refl

uleb-cut : uleb_at (at_start Little (0xFF ∷ 0xFF ∷ [])) ≡ Err EndsEarly
unfolding reading_on_literals
uleb-cut = refl

sleb-2 : sleb_value (2 ∷ []) ≡ Some (pos 2, 1)
sleb-2 = refl

sleb-minus-2 : sleb_value (0x7E ∷ []) ≡ Some (negsuc 1, 1)
sleb-minus-2 = refl

sleb-127 : sleb_value (0xFF ∷ 0 ∷ []) ≡ Some (pos 127, 2)
sleb-127 = refl

sleb-minus-127 : sleb_value (0x81 ∷ 0x7F ∷ []) ≡ Some (negsuc 126, 2)
sleb-minus-127 = refl

sleb-128 : sleb_value (0x80 ∷ 1 ∷ []) ≡ Some (pos 128, 2)
sleb-128 = refl

sleb-minus-128 : sleb_value (0x80 ∷ 0x7F ∷ []) ≡ Some (negsuc 127, 2)
sleb-minus-128 = refl

sleb-129 : sleb_value (0x81 ∷ 1 ∷ []) ≡ Some (pos 129, 2)
sleb-129 = refl

sleb-minus-129 : sleb_value (0xFF ∷ 0x7E ∷ []) ≡ Some (negsuc 128, 2)
sleb-minus-129 = refl

sleb-least : sleb_at (at_start Little (0x80 ∷ 0x80 ∷ 0x80 ∷ 0x80 ∷ 0x80 ∷ 0x80 ∷ 0x80 ∷ 0x80 ∷ 0x80 ∷ 0x7F ∷ [])) ≡ Ok (negsuc 9223372036854775807, at_place 10 [])
unfolding reading_on_literals
sleb-least = refl

sleb-below-least : sleb_at (at_start Little (0xFF ∷ 0xFF ∷ 0xFF ∷ 0xFF ∷ 0xFF ∷ 0xFF ∷ 0xFF ∷ 0xFF ∷ 0xFF ∷ 0x7E ∷ [])) ≡ Err TooWide
unfolding reading_on_literals
sleb-below-least = refl

text-a_c : text_at (at_start Little (97 ∷ 46 ∷ 99 ∷ 0 ∷ 1 ∷ [])) ≡ Ok (97 ∷ 46 ∷ 99 ∷ [], at_place 4 (1 ∷ []))
unfolding reading_on_literals
text-a_c = refl

text-cut : text_at (at_start Little (97 ∷ 46 ∷ [])) ≡ Err EndsEarly
unfolding reading_on_literals
text-cut = refl

little : number_at 4 (at_start Little (0x78 ∷ 0x56 ∷ 0x34 ∷ 0x12 ∷ 9 ∷ [])) ≡ Ok (0x12345678, at_place 4 (9 ∷ []))
unfolding reading_on_literals
little = refl

big : number_at 2 (at_start Big (0x12 ∷ 0x34 ∷ 9 ∷ [])) ≡ Ok (0x1234, record { order = Big; place = 2; left = 9 ∷ [] })
unfolding reading_on_literals
big = refl
