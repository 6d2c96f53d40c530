-- The numbers of the functions that kept subprograms begin in, as they are noted.
use Rattle.std.specs.Prelude.{◌≡◌, ℕ, List, Bool, ◌||◌}
use Rattle.std.specs.Ordering.{nat_cmp}
use Rattle.std.specs.BTreeSet.{BTreeSet, contains}
use Rattle.dwc_native.specs.Functions.{Function}
use Rattle.dwc_rules.specs.RangeAttributes.{is_number_of}

-- whether a number is noted
abbrev pub is_noted : BTreeSet ℕ → ℕ → Bool
is_noted numbers n = contains nat_cmp numbers n

-- The numbers of some functions are noted beside those before, and no others.
abbrev pub NotesFunctions : List Function → BTreeSet ℕ → BTreeSet ℕ → Type 0
NotesFunctions fs old new = (n : ℕ) → is_noted new n ≡ (is_noted old n || is_number_of fs n)
