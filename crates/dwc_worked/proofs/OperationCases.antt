-- Operations with their operands, one of each code that has some; codes that stand alone; and what cannot be read.
use Rattle.std.proofs.Common.{◌≡◌, ℕ, List, [], ◌∷◌, Some, None, refl}
use Rattle.std.specs.Prelude.{map}
use Rattle.dwc_base.specs.Listing.{Listing}
use Rattle.dwc_dwarf.specs.Operations.{Operation, operations}
use Rattle.dwc_worked.proofs.OnExpressions.{operations_on_literals}

abbrev op : ℕ → List ℕ → ℕ → ℕ → Operation
op place bytes first second = record { place = place; opcode = elim bytes [ [] ↦ 0 | b ∷ bs ↦ b ]; bytes = bytes; first = first; second = second }

-- some operations and no fault
abbrev whole : List Operation → Listing ℕ Operation
whole os = record { items = os; fault = None }

-- operations before one that cannot be read
abbrev cut_at : ℕ → List Operation → Listing ℕ Operation
cut_at place os = record { items = os; fault = Some place }

-- bytes, and the operands of the one operation that they are
abbrev each_with_operands : List (List ℕ × ℕ × ℕ)
each_with_operands =
    ((8 ∷ 255 ∷ []), 255, 0)
    ∷ ((9 ∷ 128 ∷ []), 18446744073709551488, 0)
    ∷ ((9 ∷ 127 ∷ []), 127, 0)
    ∷ ((10 ∷ 52 ∷ 18 ∷ []), 4660, 0)
    ∷ ((11 ∷ 254 ∷ 255 ∷ []), 18446744073709551614, 0)
    ∷ ((12 ∷ 1 ∷ 0 ∷ 0 ∷ 128 ∷ []), 2147483649, 0)
    ∷ ((13 ∷ 0 ∷ 0 ∷ 0 ∷ 128 ∷ []), 18446744071562067968, 0)
    ∷ ((14 ∷ 1 ∷ 2 ∷ 3 ∷ 4 ∷ 5 ∷ 6 ∷ 7 ∷ 136 ∷ []), 9801809732607083009, 0)
    ∷ ((15 ∷ 255 ∷ 255 ∷ 255 ∷ 255 ∷ 255 ∷ 255 ∷ 255 ∷ 255 ∷ []), 18446744073709551615, 0)
    ∷ ((16 ∷ 229 ∷ 142 ∷ 38 ∷ []), 624485, 0)
    ∷ ((17 ∷ 127 ∷ []), 18446744073709551615, 0)
    ∷ ((17 ∷ 128 ∷ 127 ∷ []), 18446744073709551488, 0)
    ∷ ((21 ∷ 3 ∷ []), 3, 0)
    ∷ ((148 ∷ 4 ∷ []), 4, 0)
    ∷ ((149 ∷ 2 ∷ []), 2, 0)
    ∷ ((35 ∷ 172 ∷ 2 ∷ []), 300, 0)
    ∷ ((147 ∷ 4 ∷ []), 4, 0)
    ∷ ((157 ∷ 8 ∷ 160 ∷ 1 ∷ []), 8, 160)
    ∷ ((40 ∷ 253 ∷ 255 ∷ []), 18446744073709551613, 0)
    ∷ ((47 ∷ 5 ∷ 0 ∷ []), 5, 0)
    ∷ ((145 ∷ 112 ∷ []), 18446744073709551600, 0)
    ∷ ((145 ∷ 128 ∷ 1 ∷ []), 128, 0)
    ∷ ((237 ∷ 0 ∷ 20 ∷ []), 0, 20)
    ∷ ((237 ∷ 1 ∷ 133 ∷ 1 ∷ []), 1, 133)
    ∷ ((237 ∷ 2 ∷ 0 ∷ []), 2, 0)
    ∷ ((237 ∷ 3 ∷ 1 ∷ 2 ∷ 3 ∷ 4 ∷ []), 3, 67305985)
    ∷ ((237 ∷ 4 ∷ []), 4, 0)
    ∷ ((16 ∷ 133 ∷ 128 ∷ 128 ∷ 128 ∷ 128 ∷ 128 ∷ 128 ∷ 128 ∷ 128 ∷ 128 ∷ 128 ∷ 0 ∷ []), 5, 0) ∷ []

operands : map (λ c. operations c.0) each_with_operands ≡ map (λ c. whole (op 0 c.0 c.1 c.2 ∷ [])) each_with_operands
unfolding operations_on_literals
operands = refl

-- codes without operands, known or not, stand alone
abbrev alone : List ℕ
alone = 6 ∷ 18 ∷ 19 ∷ 20 ∷ 22 ∷ 23 ∷ 24 ∷ 25 ∷ 26 ∷ 27 ∷ 28 ∷ 29 ∷ 30 ∷ 31 ∷ 32 ∷ 33 ∷ 34 ∷ 36 ∷ 37 ∷ 38 ∷ 39 ∷ 41 ∷ 42 ∷ 43 ∷ 44 ∷ 45 ∷ 46 ∷ 48 ∷ 79 ∷ 150 ∷ 159 ∷ 0 ∷ 3 ∷ 80 ∷ 112 ∷ 143 ∷ 144 ∷ 146 ∷ 151 ∷ 152 ∷ 153 ∷ 154 ∷ 155 ∷ 156 ∷ 158 ∷ 160 ∷ 161 ∷ 163 ∷ 168 ∷ 224 ∷ 243 ∷ 255 ∷ []

stand_alone : map (λ c. operations (c ∷ c ∷ [])) alone ≡ map (λ c. whole (op 0 (c ∷ []) 0 0 ∷ op 1 (c ∷ []) 0 0 ∷ [])) alone
unfolding operations_on_literals
stand_alone = refl

-- the empty expression has none
none : operations [] ≡ whole []
unfolding operations_on_literals
none = refl

-- operations that are cut short, or whose number is too wide, behind a nop
abbrev cut : List (List ℕ)
cut =
    (8 ∷ [])
    ∷ (9 ∷ [])
    ∷ (10 ∷ 1 ∷ [])
    ∷ (12 ∷ 1 ∷ 2 ∷ 3 ∷ [])
    ∷ (14 ∷ 1 ∷ 2 ∷ 3 ∷ 4 ∷ 5 ∷ 6 ∷ 7 ∷ [])
    ∷ (16 ∷ [])
    ∷ (16 ∷ 128 ∷ [])
    ∷ (17 ∷ 255 ∷ [])
    ∷ (21 ∷ [])
    ∷ (35 ∷ 128 ∷ [])
    ∷ (40 ∷ [])
    ∷ (40 ∷ 1 ∷ [])
    ∷ (47 ∷ 1 ∷ [])
    ∷ (145 ∷ [])
    ∷ (145 ∷ 128 ∷ [])
    ∷ (147 ∷ [])
    ∷ (148 ∷ [])
    ∷ (149 ∷ [])
    ∷ (157 ∷ [])
    ∷ (157 ∷ 1 ∷ [])
    ∷ (157 ∷ 1 ∷ 128 ∷ [])
    ∷ (237 ∷ [])
    ∷ (237 ∷ 0 ∷ [])
    ∷ (237 ∷ 0 ∷ 128 ∷ [])
    ∷ (237 ∷ 1 ∷ [])
    ∷ (237 ∷ 2 ∷ [])
    ∷ (237 ∷ 3 ∷ 1 ∷ 2 ∷ 3 ∷ [])
    ∷ (16 ∷ 255 ∷ 255 ∷ 255 ∷ 255 ∷ 255 ∷ 255 ∷ 255 ∷ 255 ∷ 255 ∷ 2 ∷ [])
    ∷ (17 ∷ 128 ∷ 128 ∷ 128 ∷ 128 ∷ 128 ∷ 128 ∷ 128 ∷ 128 ∷ 128 ∷ 1 ∷ [])
    ∷ (145 ∷ 255 ∷ 255 ∷ 255 ∷ 255 ∷ 255 ∷ 255 ∷ 255 ∷ 255 ∷ 255 ∷ 1 ∷ [])
    ∷ (237 ∷ 0 ∷ 255 ∷ 255 ∷ 255 ∷ 255 ∷ 255 ∷ 255 ∷ 255 ∷ 255 ∷ 255 ∷ 127 ∷ []) ∷ []

cut_short : map (λ bytes. operations (0x96 ∷ bytes)) cut ≡ map (λ bytes. cut_at 1 (op 0 (0x96 ∷ []) 0 0 ∷ [])) cut
unfolding operations_on_literals
cut_short = refl
