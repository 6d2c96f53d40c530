-- Functions whose offsets are said by addends behind their symbols, which have 32 signed bits. (This project's own limit.)
use Rattle.std.specs.Prelude.{◌≡◌, ℕ, ◌-◌, ◌^◌, List, Bool, false, nat_lt, ◌&&◌, is_some, IfSome, All, FitsSigned}
use Rattle.std.specs.Int.{w32}
use Rattle.dwc_base.specs.declared.records.Address.{Address}
use Rattle.dwc_base.specs.declared.records.Address.TheVariants.{Constant, Symbol}
use Rattle.dwc_native.specs.Functions.{Function}
use Rattle.dwc_dwarf.specs.Trees.{Interval}
use Rattle.dwc_native.specs.Runs.{HasGoodMap, translated, native}

-- the most bytes of a function with a symbol
abbrev pub longest_function : ℕ
longest_function = 2 ^ 31 - 1

-- whether a function with a symbol is longer
abbrev pub is_long : Function → Bool
is_long f = is_some f.symbol && nat_lt longest_function f.length

-- Functions have good address maps, and none with a symbol is too long.
pub record HaveAddends (fs : List Function) : Type 0 where
  pub maps : All HasGoodMap fs
  pub short : All (λ f. is_long f ≡ false) fs

-- ---- the law on their translations

-- an address behind a symbol, which an addend can say
abbrev pub IsSaid : Address → Type 0
IsSaid (Constant a) = ⊥
IsSaid (Symbol f addend) = FitsSigned w32 addend

-- both ends of an interval
abbrev pub AreSaid : Interval → Type 0
AreSaid i = IsSaid i.begin × IsSaid i.end

-- What addresses and intervals are translated to can be said.
pub record TranslationsAreSaid (fs : List Function) : Type 0 where
  pub addresses : (a : ℕ) → IfSome (translated fs a) IsSaid
  pub intervals : (start end : ℕ) → All AreSaid (native fs start end)
