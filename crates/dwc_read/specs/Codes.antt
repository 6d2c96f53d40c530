-- The declarations of a table by their codes.
use Rattle.std.specs.Prelude.{◌≡◌, ℕ, suc, ◌==◌, List, [], ◌∷◌, Bool, true, false, ◌&&◌, IsTrue, Option}
use Rattle.std.specs.Coded.{Coded, codes}
use Rattle.std.specs.List.{position_from}
use Rattle.dwc_base.specs.Abbreviations.{Declaration}

pub table_code : Coded (List Declaration)
table_code = hlevel codes

-- whether the codes are n and the numbers behind it, as compilers give them
abbrev pub counts_from : ℕ → List Declaration → Bool
counts_from n [] = true
counts_from n (d ∷ ds) = (d.code == n) && counts_from (suc n) ds

-- the place of the first declaration of a code, among those from a place on
abbrev pub place_from : ℕ → List Declaration → ℕ → Option ℕ
place_from start ds code = position_from (λ d. d.code == code) start ds

-- A table's codes count from 1, or an index has the first place of each code.
pub record IsIndexed (counted : Bool) (table : List Declaration) (index : ℕ → Option ℕ) : Type 0 where
  pub counts : IsTrue counted → counts_from 1 table ≡ true
  pub places : counted ≡ false → (code : ℕ) → index code ≡ place_from 0 table code
