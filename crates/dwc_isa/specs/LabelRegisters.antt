-- The registers in which the value of a label lies.
use Rattle.std.specs.Prelude.{◌≡◌, ℕ, List, map, Bool, Option, Some, None}
use Rattle.std.specs.BTreeSet.{BTreeSet, contains}
use Rattle.std.specs.List.{filter_map, list_all, list_any}
use Rattle.std.specs.Ordering.{nat_cmp}
use Rattle.std.specs.Prelude.{◌==◌}
use Rattle.dwc_native.specs.Compiled.{Place, in_register, at_frame_offset, LabelRange}
use Rattle.dwc_isa.specs.declared.reg.Reg.{Reg}

-- the register that a place is, if it is one
abbrev pub register_of : Place → Option ℕ
register_of (in_register r) = Some r
register_of (at_frame_offset o) = None

-- the registers of ranges, in their order
abbrev pub registers_of : List LabelRange → List ℕ
registers_of rs = filter_map (λ r. register_of r.place) rs

-- registers as numbers
abbrev pub register_numbers : List Reg → List ℕ
register_numbers rs = map (λ r. r.0) rs

-- All of two lists pass the same tests: they have the same numbers, in whatever order and however often.
abbrev pub HaveSame : List ℕ → List ℕ → Type 0
HaveSame ms ns = (test : ℕ → Bool) → list_all test ms ≡ list_all test ns

-- A set has the registers of a list, and no other.
abbrev pub IsSetOf : List Reg → BTreeSet ℕ → Type 0
IsSetOf registers set = (number : ℕ) → contains nat_cmp set number ≡ list_any (λ n. n == number) (register_numbers registers)
