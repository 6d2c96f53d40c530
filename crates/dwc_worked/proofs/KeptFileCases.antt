-- Which line tables keep the files of which: what is numbered stays the same file (`same-file`); another order, a file less, another
-- directory and another version are refused.
use Rattle.std.proofs.Common.{take, ◌++◌, ◌≡◌, ℕ, zero, suc, pos, List, [], ◌∷◌, get_or, Some, None, Ok, Option, Bool, true, false, refl, ap, sym, subst, ◌∙◌, arith, length}
use Rattle.std.specs.Prelude.{nat_lt, codes, slice_get, option_map, option_and_then, if◌then◌else◌, ◌==◌}
use Rattle.std.specs.Option.{unwrap_or}
use Rattle.std.proofs.lemmas.Bool.{ne_eqb}
use Rattle.dwc_dwarf.specs.LineHeaders.{LineFile}
use Rattle.dwc_dwarf.specs.LineRows.{LineTable, in_directory, source_file, numbered}
use Rattle.dwc_rules.specs.Clones.{file_number}
use Rattle.dwc_base.specs.declared.records.Endian.TheVariants.{Little}
use Rattle.dwc_base.specs.Outputs.{OutputSection, function, output_sections}
use Rattle.dwc_dwarf.specs.ReadUnits.{table_of_unit, segments_of_unit}
use Rattle.dwc_carried.specs.LinesCarried.{KeepsFiles, KeepFiles, CarriesUnit}
use Rattle.dwc_worked.proofs.CarriedSmall.{module_small, unit_small, unit_out, output_small, image_small, table_small, table-read, table_of}
use Rattle.dwc_worked.proofs.DraftsOnLiterals.{drafts_on_literals}
use Rattle.dwc_worked.proofs.LineTables.{table_of_files}

-- ---- the law

-- a file that is there at a place has that place alone
one-place : {A : Type 0} (o : Option A) (n m : ℕ) → option_map (λ f. suc n) o ≡ Some (suc m) → n ≡ m
one-place None n m is = absurd (clash is)
  where
    clash : ◌≡◌ {A = Option ℕ} None (Some (suc m)) → ⊥
    clash e = cc
one-place (Some f) n m is = let same : suc n ≡ suc m = ap (λ o. unwrap_or o 0) is in omega (arith, same)

module _ (t : LineTable) where
  -- what a number of a version says in the table
  abbrev file_there : Bool → ℕ → Option LineFile
  file_there old n = if old then numbered n t.files else slice_get t.files n

  -- the file that a number becomes is at its place
  numbered-there : (old : Bool) (n m : ℕ) → (if old then (if n == 0 then Some 0 else option_map (λ f. n) (file_there old n)) else option_map (λ f. suc n) (file_there old n)) ≡ Some (suc m) → slice_get t.files m ≡ file_there old n
  numbered-there true zero m is = absurd (let same : 0 ≡ suc m = ap (λ (o : Option ℕ). unwrap_or o 0) is in omega (arith, same))
  numbered-there true (suc n) m is =
      let some : (suc n == 0) ≡ false = ne_eqb (suc n) 0 (λ e. absurd (omega (arith, e))) in
      let place : Option ℕ = option_map (λ (f : LineFile). suc n) (slice_get t.files n) in
      ap (slice_get t.files) (sym (one-place (slice_get t.files n) n m (ap (λ (b : Bool). if b then Some 0 else place) (sym some) ∙ is)))
  numbered-there false n m is = ap (slice_get t.files) (sym (one-place (slice_get t.files n) n m is))

-- What a file's number becomes in the output is the number of the same file there.
pub same-file : (version : ℕ) (input made : LineTable) (n m : ℕ) → KeepsFiles 4 input made → file_number version (Some input) n ≡ Some (suc m) → source_file made (suc m) ≡ source_file input n
same-file version input made n m kept is =
    ap (λ v. option_and_then (in_directory made.header.directories) (if nat_lt v 5 then slice_get made.files m else slice_get made.files (suc m))) kept.version_is
    ∙ ap (λ ds. option_and_then (in_directory ds) (slice_get made.files m)) kept.directories
    ∙ ap (λ fs. option_and_then (in_directory input.header.directories) (slice_get fs m)) kept.files
    ∙ ap (option_and_then (in_directory input.header.directories)) (numbered-there input (nat_lt input.header.version 5) n m is)

-- In version 5 the first file stands for number 0 too, so numbers from 1 on are those of version 4.
pub same-file_5 : (version : ℕ) (input made : LineTable) (n m : ℕ) → KeepsFiles 5 input made → file_number version (Some input) n ≡ Some (suc m) → source_file made (suc m) ≡ source_file input n
same-file_5 version input made n m kept is =
    ap (λ v. option_and_then (in_directory made.header.directories) (if nat_lt v 5 then slice_get made.files m else slice_get made.files (suc m))) kept.version_is
    ∙ ap (λ ds. option_and_then (in_directory ds) (slice_get made.files (suc m))) kept.directories
    ∙ ap (λ fs. option_and_then (in_directory input.header.directories) (slice_get fs (suc m))) kept.files
    ∙ ap (option_and_then (in_directory input.header.directories)) (again input.files m)
    ∙ ap (option_and_then (in_directory input.header.directories)) (numbered-there input (nat_lt input.header.version 5) n m is)
  where
    again : (fs : List LineFile) (m : ℕ) → slice_get (take 1 fs ++ fs) (suc m) ≡ slice_get fs m
    again [] m = refl
    again (f ∷ fs) m = refl

-- ---- cases

abbrev file : ℕ → List ℕ → LineFile
file directory name = record { directory = directory; name = name }

abbrev both : List LineFile
both = file 0 (codes "a.c") ∷ file 1 (codes "b.c") ∷ []

abbrev input_5 : LineTable
input_5 = table_of_files 5 (codes "d" ∷ codes "e" ∷ []) both

-- a table of version 5 and its carried one, where file 1 is number 2
kept-of_5 : KeepFiles 4 (Some input_5) (Some (table_of_files 4 (codes "d" ∷ codes "e" ∷ []) both))
kept-of_5 = record { version_is = refl; directories = refl; files = refl }

number-of_5 : file_number 5 (Some input_5) 1 ≡ Some 2
number-of_5 = refl

-- the directory of the first file
abbrev first_directory : List LineFile → ℕ
first_directory [] = 0
first_directory (f ∷ fs) = f.directory

-- files in another order, and the one alone that rows use
other_order : KeepFiles 4 (Some input_5) (Some (table_of_files 4 (codes "d" ∷ codes "e" ∷ []) (file 1 (codes "b.c") ∷ file 0 (codes "a.c") ∷ []))) → ⊥
other_order h = let same : 1 ≡ 0 = ap first_directory h.files in omega (arith, same)

used_alone : KeepFiles 4 (Some input_5) (Some (table_of_files 4 (codes "d" ∷ codes "e" ∷ []) (file 0 (codes "a.c") ∷ []))) → ⊥
used_alone h = let same : 1 ≡ 2 = ap length h.files in omega (arith, same)

-- a directory that no file is in is left out
directory_lost : KeepFiles 4 (Some input_5) (Some (table_of_files 4 (codes "d" ∷ []) both)) → ⊥
directory_lost h = let same : 1 ≡ 2 = ap length h.directories in omega (arith, same)

-- the version of the input, in which files count from 0
of_version_5 : KeepFiles 4 (Some input_5) (Some input_5) → ⊥
of_version_5 h = let same : 5 ≡ 4 = h.version_is in omega (arith, same)

-- a table of version 5 and its carried one in version 5, where file 1 is number 2 as well, and one without the first file twice
kept-in_5 : KeepFiles 5 (Some input_5) (Some (table_of_files 5 (codes "d" ∷ codes "e" ∷ []) (file 0 (codes "a.c") ∷ both)))
kept-in_5 = record { version_is = refl; directories = refl; files = refl }

once_in_5 : KeepFiles 5 (Some input_5) (Some input_5) → ⊥
once_in_5 h = let same : 2 ≡ 3 = ap length h.files in omega (arith, same)

-- no table, and one where there was none
table_lost : KeepFiles 4 (Some input_5) None → ⊥
table_lost h = h

table_added : KeepFiles 4 None (Some (table_of_files 4 [] [])) → ⊥
table_added h = h

-- ---- an output that numbers files anew

-- the small output's line table with a file in front, and its rows of file 2
abbrev line_renumbered : List ℕ
line_renumbered =
    0x40 ∷ 0x00 ∷ 0x00 ∷ 0x00 ∷ 0x04 ∷ 0x00 ∷ 0x20 ∷ 0x00 ∷ 0x00 ∷ 0x00 ∷ 0x01 ∷ 0x01 ∷ 0x01 ∷ 0xFB ∷ 0x0E ∷ 0x0D ∷ 0x00 ∷ 0x01 ∷ 0x01 ∷ 0x01 ∷ 0x01 ∷ 0x00 ∷ 0x00 ∷ 0x00 ∷ 0x01 ∷ 0x00 ∷ 0x00 ∷ 0x01 ∷ 0x00
    ∷ 0x62 ∷ 0x00 ∷ 0x00 ∷ 0x00 ∷ 0x00 ∷ 0x61 ∷ 0x2E ∷ 0x63 ∷ 0x00 ∷ 0x00 ∷ 0x00 ∷ 0x00 ∷ 0x00
    ∷ 0x00 ∷ 0x09 ∷ 0x02 ∷ 0x00 ∷ 0x00 ∷ 0x00 ∷ 0x00 ∷ 0x00 ∷ 0x00 ∷ 0x00 ∷ 0x00 ∷ 0x04 ∷ 0x02 ∷ 0x03 ∷ 0x01 ∷ 0x01 ∷ 0x03 ∷ 0x01 ∷ 0x02 ∷ 0x0F ∷ 0x01 ∷ 0x02 ∷ 0x0F ∷ 0x00 ∷ 0x01 ∷ 0x01 ∷ []

abbrev part : ℕ → OutputSection
part place = get_or output_small place (record { name = []; body = []; relocations = [] })

abbrev output_renumbered : List OutputSection
output_renumbered =
    part 0 ∷ part 1
    ∷ record { name = codes ".debug_line"; body = line_renumbered; relocations = record { offset = 45; size = 8; target = function 0; addend = pos 0 } ∷ [] }
    ∷ part 3 ∷ part 4 ∷ []

-- its segments are those of the small output
segments-renumbered : segments_of_unit (output_sections Little output_renumbered) unit_out ≡ Ok (image_small ∷ [])
unfolding drafts_on_literals
segments-renumbered = refl

table-renumbered : table_of_unit (output_sections Little output_renumbered) unit_out ≡ Ok (Some (table_of 1 output_renumbered))
unfolding drafts_on_literals
table-renumbered = refl

files-renumbered : (length (table_of 1 output_renumbered).files ≡ 2) × (length table_small.files ≡ 1)
unfolding drafts_on_literals
files-renumbered = (refl, refl)

-- and it does not carry the lines
renumbered : CarriesUnit 4 (output_sections Little output_renumbered) (record { module_of = module_small; unit = unit_small }) unit_out → ⊥
renumbered h =
    let made : h.made ≡ Some (table_of 1 output_renumbered) = cc (h.made_read, table-renumbered) in
    let input : h.input ≡ Some table_small = cc (h.input_read, table-read) in
    let kept : KeepsFiles 4 table_small (table_of 1 output_renumbered) = subst (λ t. KeepFiles 4 t (Some (table_of 1 output_renumbered))) input (subst (KeepFiles 4 h.input) made h.kept) in
    omega (arith, ap length kept.files, files-renumbered.0, files-renumbered.1)
