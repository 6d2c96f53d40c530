-- Intervals of lists as they are given, by their begins and lengths. (DWARF 4, section 2.17.3.)
use Rattle.std.specs.Prelude.{◌≡◌, ℕ, ◌+◌, ◌<◌, pos, ◌+ℤ◌, Bool, true, false}
use Rattle.dwc_base.specs.declared.records.Address.{Address}
use Rattle.dwc_base.specs.declared.records.Address.TheVariants.{Constant, Symbol}
use Rattle.dwc_dwarf.specs.Trees.{Interval}
use Rattle.dwc_section.specs.Writers.{FitsField}

-- the address that lies so many bytes behind another
abbrev pub address_behind : Address → ℕ → Address
address_behind (Constant n) extent = Constant (n + extent)
address_behind (Symbol symbol addend) extent = Symbol symbol (addend +ℤ pos extent)

-- an interval as it is given, by its begin and its length, and as it is read
abbrev pub interval_of : Address × ℕ → Interval
interval_of r = record { begin = r.0; end = address_behind r.0 r.1 }

abbrev pub is_symbol : Address → Bool
is_symbol (Constant n) = false
is_symbol (Symbol symbol addend) = true

-- Both ends of an interval fit their fields.
pub record FitsEnds (size : ℕ) (r : Address × ℕ) : Type 0 where
  pub begin : FitsField size r.0
  pub end : FitsField size (address_behind r.0 r.1)

-- An interval begins at a function and is not empty.
pub record FitsRange (size : ℕ) (r : Address × ℕ) : Type 0 where
  pub symbol : is_symbol r.0 ≡ true
  pub some : 0 < r.1
  pub ends : FitsEnds size r
