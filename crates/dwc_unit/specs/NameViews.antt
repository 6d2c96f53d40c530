-- Names of directories and files, as a line program keeps them: one behind another in one list of bytes.
use Rattle.std.specs.Prelude.{◌≡◌, ℕ, zero, suc, ◌≤◌, List, [], ◌∷◌}
use Rattle.std.specs.List.{slice_range}
use Rattle.dwc_dwarf.specs.LineHeaders.{LineFile}

-- the names that end at some places, the first of them from a place on
abbrev pub cut : ℕ → List ℕ → List ℕ → List (List ℕ)
cut start [] bytes = []
cut start (e ∷ es) bytes = slice_range bytes start e ∷ cut e es bytes

-- The ends of names rise from a place to the end of the bytes.
abbrev pub AreEnds : ℕ → List ℕ → ℕ → Type 0
AreEnds start [] size = start ≡ size
AreEnds start (e ∷ es) size = (start ≤ e) × AreEnds e es size

-- where a name begins
abbrev pub start_at : ℕ → List ℕ → ℕ → ℕ
start_at start ends zero = start
start_at start [] (suc i) = start
start_at start (e ∷ es) (suc i) = start_at e es i

-- files by their names and the numbers of their directories
abbrev pub files_of : List (List ℕ) → List ℕ → List LineFile
files_of [] directories = []
files_of (n ∷ names) [] = []
files_of (n ∷ names) (d ∷ directories) = record { directory = d; name = n } ∷ files_of names directories
