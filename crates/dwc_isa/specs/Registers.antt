-- DWARF's numbers of a target's registers.
use Rattle.std.specs.Prelude.{ℕ, ◌==◌, List, [], ◌∷◌, map, if◌then◌else◌, Option, Some, None}
use Rattle.std.specs.Ordering.{nat_cmp}
use Rattle.std.specs.FinMap as finite
use Rattle.dwc_isa.specs.declared.reg.Reg.{Reg}

-- DWARF's numbers by those of the code generator
abbrev pub Registers : Type 0
Registers = finite.FinMap nat_cmp ℕ

-- a register by number, and DWARF's number of it
abbrev pub numbers : Reg × ℕ → ℕ × ℕ
numbers r = ((r.0).0, r.1)

-- the registers of a table; of two entries of one register the first counts
abbrev pub registers_of : List (Reg × ℕ) → Registers
registers_of table = finite.from_entries (map numbers table)

-- DWARF's number of a register in a table
abbrev pub number_in : List (Reg × ℕ) → ℕ → Option ℕ
number_in [] register = None
number_in (r ∷ rs) register = if register == (r.0).0 then Some r.1 else number_in rs register
