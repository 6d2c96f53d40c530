-- A line table that was read, with all its files and directories, can be carried.
use Rattle.std.proofs.Common.{◌≡◌, ℕ, zero, suc, ◌^◌, ◌<◌, ◌≤◌, refl, sym, subst, ◌∙◌, arith, List, [], ◌∷◌, map, length, Bool, true, false, Option, Some, None, Result, Ok, Err, All}
use Rattle.std.specs.Prelude.{◌&&◌, if◌then◌else◌, nat_lt, not, int_lt, nat_abs, ℤ, pos, negsuc, slice_get, option_map, is_some}
use Rattle.std.specs.List.{list_all}
use Rattle.std.specs.Option.{option_and_then}
use Rattle.std.proofs.lemmas.List.Elements.{All-nil, All-cons}
use Rattle.std.proofs.lemmas.Int.{ints}
use Rattle.std.proofs.lemmas.Bool.{ltb-true, true≢false}
use Rattle.std.proofs.lemmas.Bool.Decides.{nat_tests}
use Rattle.dwc_base.specs.declared.faults.Flaw.{Flaw}
use Rattle.dwc_base.specs.declared.faults.Flaw.TheVariants.{Malformed}
use Rattle.dwc_base.specs.declared.faults.What.TheVariants.{LineTable as LineTableRead}
use Rattle.dwc_base.specs.declared.section_name.SectionName.TheVariants.{Line}
use Rattle.dwc_base.specs.Reading.{◌>>=◌}
use Rattle.dwc_dwarf.specs.LineHeaders.{LineFile, LineHeader, line_source, line_header_at, Instruction, instructions}
use Rattle.dwc_dwarf.specs.LineRows.{LineTable, LineStep, start, row, end, segments, line_table, line_table_at, checked_table, table_of, Effect, starts, appends, ends, effects, is_in_range, step_of, at_sequence_start, source_file, numbered, in_directory, SourceFile}
use Rattle.dwc_base.specs.Sections.{Sections, Fault, section_from, reported}
use Rattle.dwc_dwarf.specs.LineFiles.{names_file, has_names, is_named, has_all_files}
use Rattle.dwc_tabs.specs.OpenTables.{OpenLines}
use Rattle.dwc_unit.specs.SpelledLines.{FitsName}
use Rattle.dwc_image.specs.ImageSequences.{FitsStep}
use Rattle.dwc_image.specs.ImageRows.{RowsRise}
use Rattle.dwc_image.specs.CarriedLines.{carried_number, carried_step, carried_steps, FitsDirectories, IsRead}
use Rattle.dwc_image.specs.OpenedTables.{IsOpen}
use Rattle.dwc_image.proofs.RisingRows.{line_table-rise}
use Rattle.dwc_image.proofs.PlainNames.{IsPlain, IsPlainFile}
use Rattle.dwc_image.proofs.NameLaws.{HasNames, header-names, table-names}

-- What can be carried of a table.
pub record CanCarry (t : LineTable) : Type 0 where
  pub directories : All FitsName t.header.directories
  pub files : All (FitsDirectories (length t.header.directories)) t.files
  pub steps : All (FitsStep (length t.files)) (carried_steps t)
  pub rise : All RowsRise (segments t)

-- what stands in a list is inside
inside : {A : Type 0} (xs : List A) (i : ℕ) → is_some (slice_get xs i) ≡ true → i < length xs
inside [] zero h = absurd (cc)
inside [] (suc i) h = absurd (cc)
inside (x ∷ xs) zero h = omega arith
inside (x ∷ xs) (suc i) h = omega (arith, inside xs i h)

-- a file that is there has a directory that is there
known-directory : (directories : List (List ℕ)) (f : LineFile) → is_some (in_directory directories f) ≡ true → f.directory ≤ length directories
known-directory directories f h = go f.directory h
  where
    some : (name : List ℕ) (o : Option (List ℕ)) → is_some (option_map (λ d. let s : SourceFile = record { directory = Some d; name = name } in s) o) ≡ is_some o
    some name None = refl
    some name (Some d) = refl

    go : (n : ℕ) → is_some (in_directory directories (record { directory = n; name = f.name })) ≡ true → n ≤ length directories
    go zero e = omega arith
    go (suc n) e = omega (arith, inside directories n (sym (some f.name (slice_get directories n)) ∙ e))

-- a file that is there has a number of version 4
known-file : (t : LineTable) (n : ℕ) → is_some (source_file t n) ≡ true → (0 < carried_number t.header.version n) × (carried_number t.header.version n ≤ length t.files)
known-file t n h = go n (nat_lt t.header.version 5) h
  where
    found : (o : Option LineFile) → is_some (option_and_then (in_directory t.header.directories) o) ≡ true → is_some o ≡ true
    found None e = e
    found (Some f) e = refl

    go : (n : ℕ) (early : Bool) → is_some (option_and_then (in_directory t.header.directories) (if early then numbered n t.files else slice_get t.files n)) ≡ true
        → (0 < (if early then n else suc n)) × ((if early then n else suc n) ≤ length t.files)
    go zero true e = absurd (cc)
    go (suc n) true e = (omega arith, omega (arith, inside t.files n (found (slice_get t.files n) e)))
    go n false e = (omega arith, omega (arith, inside t.files n (found (slice_get t.files n) e)))

both : (a b : Bool) → (a && b) ≡ true → (a ≡ true) × (b ≡ true)
both true b h = (refl, h)
both false b h = absurd (cc)

-- ---- lines of 32 bits

falsely : (b : Bool) → not b ≡ true → b ≡ false
falsely true h = absurd (cc)
falsely false h = refl

-- a row in range has a line of 32 bits
abbrev pub HasShortLine : LineStep → Type 0
HasShortLine (row r) = r.line < 2 ^ 32
HasShortLine (start a) = Unit {0}
HasShortLine (end e) = Unit {0}

short-line : (z : ℤ) → int_lt z (pos 0) ≡ false → int_lt z (pos (2 ^ 32)) ≡ true → nat_abs z < 2 ^ 32
short-line (pos n) low high = grind (arith, ints, nat_tests, high)
short-line (negsuc n) low high = absurd (true≢false low)

step-short : (e : Effect) → is_in_range e ≡ true → HasShortLine (step_of e)
step-short (starts a) h = tt
step-short (appends r) h =
    let p = both (nat_lt r.offset (2 ^ 32) && not (int_lt r.line (pos 0))) (int_lt r.line (pos (2 ^ 32))) h in
    let q = both (nat_lt r.offset (2 ^ 32)) (not (int_lt r.line (pos 0))) p.0 in
    short-line r.line (falsely (int_lt r.line (pos 0)) q.1) p.1
step-short (ends offset) h = tt

steps-short : (es : List Effect) → list_all is_in_range es ≡ true → All HasShortLine (map step_of es)
steps-short [] h = All-nil HasShortLine
steps-short (e ∷ es) h = let p = both (is_in_range e) (list_all is_in_range es) h in All-cons HasShortLine (step_of e) (map step_of es) (step-short e p.0) (steps-short es p.1)

table-short : (s : Sections) (address_size base offset : ℕ) (t : LineTable) → line_table s address_size base offset ≡ Ok t → All HasShortLine t.steps
unfolding line_table line_table_at
table-short s address_size base offset t read = go (line_header_at (line_source s base) address_size (section_from s Line offset)) read
  where
    ranged : (h : LineHeader) (is : List Instruction) (b : Bool) → list_all is_in_range (effects h (at_sequence_start h) is) ≡ b
        → (let r : Result LineTable Fault = reported LineTableRead Line offset (elim b [ true ↦ Ok (table_of h is) | false ↦ Err Malformed ]) in r) ≡ Ok t → All HasShortLine t.steps
    ranged h is true range e =
        let same : table_of h is ≡ t = cc in
        rw (← same) (steps-short (effects h (at_sequence_start h) is) range)
    ranged h is false range e = absurd (cc)

    checked : (h : LineHeader) (items : List Instruction) (fault : Option Flaw) → reported LineTableRead Line offset (checked_table h (record { items = items; fault = fault })) ≡ Ok t → All HasShortLine t.steps
    checked h items None e = ranged h items (list_all is_in_range (effects h (at_sequence_start h) items)) refl e
    checked h items (Some flaw) e = absurd (cc)

    go : (r : Result LineHeader Flaw) → reported LineTableRead Line offset (r >>= λ h. checked_table h (instructions (s.relocations Line) h h.program)) ≡ Ok t → All HasShortLine t.steps
    go (Err flaw) e = absurd (cc)
    go (Ok h) e = checked h (instructions (s.relocations Line) h h.program).items (instructions (s.relocations Line) h h.program).fault e

-- ---- all of it

step-fits : (t : LineTable) (x : LineStep) → HasShortLine x → names_file t x ≡ true → FitsStep (length t.files) (carried_step t.header.version x)
step-fits t (row r) short named = let p = known-file t r.file named in record { line = short; some = p.0; known = p.1 }
step-fits t (start a) short named = tt
step-fits t (end e) short named = tt

steps-fit : (t : LineTable) (xs : List LineStep) → All HasShortLine xs → list_all (names_file t) xs ≡ true → All (FitsStep (length t.files)) (map (carried_step t.header.version) xs)
steps-fit t [] short named = All-nil (FitsStep (length t.files))
steps-fit t (x ∷ xs) short named =
    let p = both (names_file t x) (list_all (names_file t) xs) named in
    All-cons (FitsStep (length t.files)) (carried_step t.header.version x) (map (carried_step t.header.version) xs) (step-fits t x (short 0 x (omega arith)) p.0) (steps-fit t xs (λ k d h. short (suc k) d (omega arith)) p.1)

directories-fit : (ds : List (List ℕ)) → All IsPlain ds → list_all is_named ds ≡ true → All FitsName ds
directories-fit [] plain named = All-nil FitsName
directories-fit (d ∷ ds) plain named =
    let p = both (is_named d) (list_all is_named ds) named in
    let here = plain 0 d (omega arith) in
    All-cons FitsName d ds (record { some = ltb-true 0 (length d) p.0; plain = here.plain }) (directories-fit ds (λ k e h. plain (suc k) e (omega arith)) p.1)

files-fit : (directories : List (List ℕ)) (fs : List LineFile) → All IsPlainFile fs → list_all (has_names directories) fs ≡ true → All (FitsDirectories (length directories)) fs
files-fit directories [] plain named = All-nil (FitsDirectories (length directories))
files-fit directories (f ∷ fs) plain named =
    let p = both (has_names directories f) (list_all (has_names directories) fs) named in
    let q = both (is_some (in_directory directories f)) (nat_lt 0 (length f.name)) p.0 in
    let here = plain 0 f (omega arith) in
    let fits : FitsDirectories (length directories) f = record { name = record { some = ltb-true 0 (length f.name) q.1; plain = here.name.plain }; known = known-directory directories f q.0 } in
    All-cons (FitsDirectories (length directories)) f fs fits (files-fit directories fs (λ k d h. plain (suc k) d (omega arith)) p.1)

can-carry : (s : Sections) (address_size base offset : ℕ) (t : LineTable) → line_table s address_size base offset ≡ Ok t → has_all_files t ≡ true → CanCarry t
can-carry s address_size base offset t read named =
    let names = table-names s address_size base offset t read in
    let whole = both (list_all (names_file t) t.steps && list_all (has_names t.header.directories) t.files) (list_all is_named t.header.directories) named in
    let p = both (list_all (names_file t) t.steps) (list_all (has_names t.header.directories) t.files) whole.0 in
    record {
      directories = directories-fit t.header.directories names.directories whole.1;
      files = files-fit t.header.directories t.files names.files p.1;
      steps = steps-fit t t.steps (table-short s address_size base offset t read) p.0;
      rise = line_table-rise s address_size base offset t read;
    }

pub read-carried : (t : LineTable) → IsRead t → CanCarry t
read-carried t h = can-carry h.sections h.address_size h.base h.offset t h.is_read h.files

-- ---- a table that is read along with what carries it

-- What can be carried of a table whose header is read.
pub record CanCarryNames (t : OpenLines) : Type 0 where
  pub directories : All FitsName t.table.header.directories
  pub files : All (FitsDirectories (length t.table.header.directories)) t.table.files

pub open-carried : (t : OpenLines) → IsOpen t → CanCarryNames t
open-carried t h =
    let o = h.opens in
    let names = subst HasNames o.header (header-names (line_source h.sections h.base) h.address_size (section_from h.sections Line h.offset)) in
    record {
      directories = directories-fit t.table.header.directories names.of.directories o.directories;
      files = files-fit t.table.header.directories t.table.files (rw o.same_files names.of.files) o.files;
    }
