-- What differs between outputs of version 4 and of version 5. (DWARF 4 and 5, section 6.2.4; the choices are this project's own.)
use Rattle.std.specs.Prelude.{ℕ, List, ◌++◌, take, Bool, true, nat_lt, if◌then◌else◌}
use Rattle.dwc_dwarf.specs.Trees.{Tree}
use Rattle.dwc_dwarf.specs.TreeLaws.{have_short_expressions}

-- whether a version is below 5
abbrev pub is_old : ℕ → Bool
is_old version = nat_lt version 5

-- The files of a line table that is written: they count from 1, and in version 5, where they count from 0, the first stands for number 0 too.
abbrev pub files_written : {F : Type 0} → ℕ → List F → List F
files_written version files = if is_old version then files else take 1 files ++ files

-- Whether no expression of a location list of some trees is too long: its length has two bytes up to version 4.
abbrev pub are_short_in : ℕ → List Tree → Bool
are_short_in version ts = if is_old version then have_short_expressions ts else true
