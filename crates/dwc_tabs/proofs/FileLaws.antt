-- Which tables name only files and directories that are there.
use Rattle.std.proofs.Common.{◌≡◌, ℕ, zero, suc, refl, sym, ap, ◌∙◌, arith, List, [], ◌∷◌, length, Bool, true, false, is_some, ltb}
use Rattle.std.specs.Prelude.{◌&&◌, if◌then◌else◌, nat_le, nat_lt, slice_get, option_map, option_and_then}
use Rattle.std.specs.List.{list_all}
use Rattle.std.proofs.Math.Bool.{and-false}
use Rattle.std.proofs.Math.Dec.{leb-zero}
use Rattle.std.proofs.lemmas.Bool.Decides.{nat_tests}
use Rattle.dwc_dwarf.specs.LineHeaders.{LineFile}
use Rattle.dwc_dwarf.specs.LineRows.{LineTable, LineStep, start, row, end, in_directory, numbered, source_file}
use Rattle.dwc_dwarf.specs.LineFiles.{names_file, has_names, is_named, has_all_files}
use Rattle.dwc_tabs.specs.declared.program.ProgramCheck.{ProgramCheck}
use Rattle.dwc_tabs.specs.Programs.{is_number, are_within}
use Rattle.dwc_tabs.specs.Tables.{names_within, Bounds, is_named_within}

-- what stands in a list at a place
got-within : {A B : Type 0} (f : A → B) (xs : List A) (n : ℕ) → is_some (option_map f (slice_get xs n)) ≡ ltb n (length xs)
got-within f [] n = grind (arith, nat_tests)
got-within f (x ∷ xs) zero = grind (arith, nat_tests)
got-within f (x ∷ xs) (suc n) = got-within f xs n ∙ grind (arith, nat_tests)

-- a directory that is there
in_directory-there : (directories : List (List ℕ)) (f : LineFile) → is_some (in_directory directories f) ≡ nat_le f.directory (length directories)
in_directory-there directories f = go f.directory f.name
  where
    go : (d : ℕ) (name : List ℕ) → is_some (in_directory directories (record { directory = d; name = name })) ≡ nat_le d (length directories)
    go zero name = sym (leb-zero (length directories))
    go (suc d) name = got-within _ directories d

-- files with names and directories that are there
pub files-there : (directories : List (List ℕ)) (files : List LineFile) → list_all (is_named_within (length directories)) files ≡ list_all (has_names directories) files
files-there directories [] = refl
files-there directories (f ∷ fs) =
    ap (λ b. (b && nat_lt 0 (length f.name)) && list_all (is_named_within (length directories)) fs) (sym (in_directory-there directories f))
    ∙ ap (λ b. (is_some (in_directory directories f) && nat_lt 0 (length f.name)) && b) (files-there directories fs)

-- the first of two facts that both hold
first-true : (a b : Bool) → (a && b) ≡ true → a ≡ true
first-true true b h = refl
first-true false b h = absurd (cc)

-- and the second one
last-true : (a b : Bool) → (a && b) ≡ true → b ≡ true
last-true true b h = h
last-true false b h = absurd (cc)

-- among such files each number up to their count is one of a file that is there
source-there : (directories : List (List ℕ)) (files : List LineFile) (n : ℕ) → list_all (has_names directories) files ≡ true
    → is_some (option_and_then (in_directory directories) (slice_get files n)) ≡ ltb n (length files)
source-there directories [] n h = grind (arith, nat_tests)
source-there directories (f ∷ fs) zero h =
    first-true (is_some (in_directory directories f)) (nat_lt 0 (length f.name)) (first-true (is_some (in_directory directories f) && nat_lt 0 (length f.name)) _ h) ∙ grind (arith, nat_tests)
source-there directories (f ∷ fs) (suc n) h = source-there directories fs n (last-true (is_some (in_directory directories f) && nat_lt 0 (length f.name)) _ h) ∙ grind (arith, nat_tests)

-- whether all files of a table have names and directories that are there
abbrev all_named : LineTable → Bool
all_named t = list_all (has_names t.header.directories) t.files

module _ (t : LineTable) (named : all_named t ≡ true) where
  -- files that count from 1
  numbered-there : (n : ℕ) → is_some (option_and_then (in_directory t.header.directories) (numbered n t.files)) ≡ (nat_le 1 n && nat_le n (length t.files))
  numbered-there zero = refl
  numbered-there (suc n) = source-there t.header.directories t.files n named ∙ grind (arith, nat_tests)

  -- a row names a file that is there where its number is one of a file
  row-there : (n : ℕ) → is_some (source_file t n) ≡ is_number t.header.version (length t.files) n
  row-there n = go (nat_lt t.header.version 5)
    where
      go : (early : Bool) → is_some (option_and_then (in_directory t.header.directories) (if early then numbered n t.files else slice_get t.files n)) ≡ (if early then nat_le 1 n && nat_le n (length t.files) else nat_lt n (length t.files))
      go true = numbered-there n
      go false = source-there t.header.directories t.files n named

  -- and so do all rows
  rows-there : (steps : List LineStep) → list_all (names_file t) steps ≡ list_all (names_within t.header.version (length t.files)) steps
  rows-there [] = refl
  rows-there (row r ∷ steps) = ap (λ b. b && list_all (names_file t) steps) (row-there r.file) ∙ ap (λ b. is_number t.header.version (length t.files) r.file && b) (rows-there steps)
  rows-there (start a ∷ steps) = rows-there steps
  rows-there (end e ∷ steps) = rows-there steps

-- What is known of the bounds of rows' files, of the files and of the directories says whether all that a table names is there.
pub table-files : (t : LineTable) (check : ProgramCheck) → Bounds check t.steps
    → has_all_files t ≡ (are_within t.header.version (length t.files) check.files && list_all (is_named_within (length t.header.directories)) t.files && list_all is_named t.header.directories)
table-files t check bounds =
    ap (λ b. b && list_all is_named t.header.directories) (go (all_named t) refl ∙ ap (λ b. are_within t.header.version (length t.files) check.files && b) (sym (files-there t.header.directories t.files)))
  where
    go : (b : Bool) → all_named t ≡ b → (list_all (names_file t) t.steps && all_named t) ≡ (are_within t.header.version (length t.files) check.files && all_named t)
    go true named = ap (λ b. b && all_named t) (rows-there t named t.steps ∙ bounds t.header.version (length t.files))
    go false named = rw (named, all_named) (and-false _ ∙ sym (and-false _))
