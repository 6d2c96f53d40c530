-- A table that is opened is the table of the definitions where its program is sound.
use Rattle.std.proofs.Common.{◌≡◌, ℕ, ◌^◌, ◌<◌, arith, subst, refl, sym, ap, ◌∙◌, List, [], ◌∷◌, ◌++◌, length, Option, Some, None, Ok, Err, Bool, true, false, is_some, append-nil}
use Rattle.std.specs.Prelude.{is_none, ◌&&◌, IfOk, Result}
use Rattle.std.specs.List.{list_all, filter_map, cons_option}
use Rattle.std.proofs.lemmas.List.{take_all}
use Rattle.dwc_base.specs.declared.faults.Flaw.{Flaw}
use Rattle.dwc_base.specs.Reading.{Unread}
use Rattle.dwc_base.specs.declared.faults.NotRead.{NotRead}
use Rattle.dwc_base.specs.declared.faults.What.TheVariants.{LineTable as LineTableRead}
use Rattle.dwc_base.specs.declared.section_name.SectionName.TheVariants.{Line}
use Rattle.dwc_base.specs.Sections.{Sections, Relocation, section_from, reported}
use Rattle.dwc_dwarf.specs.LineFiles.{is_named, has_all_files}
use Rattle.dwc_dwarf.specs.LineHeaders.{LineFile, LineSource, line_source, Instruction, line_header_at, instructions}
use Rattle.dwc_dwarf.specs.LineRows.{LineStep, at_sequence_start, file_defined, checked_table}
use Rattle.dwc_tabs.specs.declared.parameters.Parameters.{Parameters}
use Rattle.dwc_tabs.specs.declared.program.ProgramCheck.{ProgramCheck}
use Rattle.dwc_tabs.specs.Headers.{header_of, program_header}
use Rattle.dwc_tabs.specs.Programs.{instructions_from, shown_from, steps_from, Checked, noted_all, nothing_noted}
use Rattle.dwc_tabs.specs.Tables.{table_at, names_within, is_named_within}
use Rattle.dwc_tabs.specs.OpenTables.{OpenLines, is_shown_within, is_sound, OpensAt, Opens}
use Rattle.dwc_tabs.proofs.TableLaws.{table-behind, table-whole, table-bounds, noted-in_range, line_table-in}
use Rattle.dwc_tabs.proofs.FileLaws.{table-files, files-there}
use Rattle.dwc_tabs.proofs.OpenLaws.{both}

-- ---- what is sound

three : (a b c : Bool) → (a && b && c) ≡ true → (a ≡ true) × (b ≡ true) × (c ≡ true)
three true true true h = (refl, refl, refl)
three true true false h = absurd (cc)
three true false c h = absurd (cc)
three false b c h = absurd (cc)

no_fault : (fault : Option Flaw) → is_none fault ≡ true → fault ≡ None
no_fault None h = refl
no_fault (Some flaw) h = absurd (cc)

-- what is shown within is in range
all-in_range : (version count : ℕ) (ss : List (Option LineStep)) → list_all (is_shown_within version count) ss ≡ true → list_all is_some ss ≡ true
all-in_range version count [] h = refl
all-in_range version count (None ∷ ss) h = absurd (cc)
all-in_range version count (Some s ∷ ss) h = all-in_range version count ss (both (names_within version count s) (list_all (is_shown_within version count) ss) h).1

-- and names files that are there
all-within : (version count : ℕ) (ss : List (Option LineStep)) → list_all (is_shown_within version count) ss ≡ true → list_all (names_within version count) (filter_map (λ s. s) ss) ≡ true
all-within version count [] h = refl
all-within version count (None ∷ ss) h = absurd (cc)
all-within version count (Some s ∷ ss) h =
    let p = both (names_within version count s) (list_all (is_shown_within version count) ss) h in
    ap (λ b. b && list_all (names_within version count) (filter_map (λ s. s) ss)) p.0 ∙ all-within version count ss p.1

-- where none defines a file, no files are defined
none-defined : (is : List Instruction) → list_all (λ i. is_none (file_defined i)) is ≡ true → filter_map file_defined is ≡ []
none-defined [] h = refl
none-defined (i ∷ is) h = go (file_defined i) (none-defined is) h
  where
    go : (f : Option LineFile) → (list_all (λ i. is_none (file_defined i)) is ≡ true → filter_map file_defined is ≡ []) → (is_none f && list_all (λ i. is_none (file_defined i)) is) ≡ true → cons_option f (filter_map file_defined is) ≡ []
    go None rest h = rest h
    go (Some f) rest h = absurd (cc)

-- ---- what is opened

module _ (p : Parameters) (directories : List (List ℕ)) (files : List LineFile) (relocations : List Relocation) (program : Unread) where
  -- the table before a row is taken
  abbrev pub opened : OpenLines
  opened = record {
    table = record { header = header_of p directories files program; files = files; steps = steps_from p relocations (at_sequence_start (program_header p)) program };
    sound = is_sound p relocations (length files) (at_sequence_start (program_header p)) program;
  }

  -- what a check would have noted of the program
  abbrev check : ProgramCheck
  check = noted_all (shown_from p relocations (at_sequence_start (program_header p)) program) nothing_noted

  module _ (short : length program.left < 2 ^ 64) (sound : is_sound p relocations (length files) (at_sequence_start (program_header p)) program ≡ true) where
    sound-parts : (is_none (instructions_from p relocations program).fault ≡ true)
        × (list_all (is_shown_within p.version (length files)) (shown_from p relocations (at_sequence_start (program_header p)) program) ≡ true)
        × (list_all (λ i. is_none (file_defined i)) (instructions_from p relocations program).items ≡ true)
    unfolding is_sound
    sound-parts = three _ _ _ sound

    opened-checked : Checked p relocations program files files check
    opened-checked = record {
      whole = no_fault (instructions_from p relocations program).fault sound-parts.0;
      noted = refl;
      files = sym (ap (λ fs. files ++ fs) (none-defined (instructions_from p relocations program).items sound-parts.2) ∙ append-nil files);
      short = short;
    }

    opened-in_range : check.in_range ≡ true
    opened-in_range = noted-in_range (shown_from p relocations (at_sequence_start (program_header p)) program) nothing_noted ∙ all-in_range p.version (length files) (shown_from p relocations (at_sequence_start (program_header p)) program) sound-parts.1

    -- it is the table that is read
    opened-whole : (source : LineSource) (address_size : ℕ) (u : Unread) → source.relocations ≡ relocations → line_header_at source address_size u ≡ Ok (header_of p directories files program) → table_at source address_size u ≡ Ok opened.table
    opened-whole source address_size u same read =
        table-behind source address_size u (header_of p directories files program) read
        ∙ ap (λ related. checked_table (header_of p directories files program) (instructions related (header_of p directories files program) program)) same
        ∙ table-whole p directories files files relocations program check opened-checked opened-in_range
        ∙ ap (λ fs. Ok (record { header = header_of p directories fs program; files = files; steps = steps_from p relocations (at_sequence_start (program_header p)) program })) (take_all (length files) files (omega arith))

    -- with all its files
    opened-there : list_all (is_named_within (length directories)) files ≡ true → list_all is_named directories ≡ true → has_all_files opened.table ≡ true
    opened-there named directories_named =
        table-files opened.table check (table-bounds p directories files files relocations program check opened-checked)
        ∙ ap (λ b. b && list_all (is_named_within (length directories)) files && list_all is_named directories)
        (sym (table-bounds p directories files files relocations program check opened-checked p.version (length files)) ∙ all-within p.version (length files) (shown_from p relocations (at_sequence_start (program_header p)) program) sound-parts.1)
        ∙ ap (λ b. true && b && list_all is_named directories) named
        ∙ directories_named

  -- what is known of a table that is opened
  pub opened-at : (source : LineSource) (address_size : ℕ) (u : Unread) → source.relocations ≡ relocations → line_header_at source address_size u ≡ Ok (header_of p directories files program) → length program.left < 2 ^ 64
      → (count : ℕ) → count ≡ length directories → (list_all (is_named_within count) files && list_all is_named directories) ≡ true → OpensAt source address_size u opened
  opened-at source address_size u same read short count many all =
      let named_parts = both (list_all (is_named_within count) files) (list_all is_named directories) all in
      let named : list_all (is_named_within (length directories)) files ≡ true = rw (← many) named_parts.0 in
      let directories_named = named_parts.1 in
      record {
        header = read;
        directories = directories_named;
        files = sym (files-there directories files) ∙ named;
        same_files = refl;
        whole = λ sound. opened-whole short sound source address_size u same read;
        there = λ sound. opened-there short sound named directories_named;
      }

-- The table at an offset of a section is that at the front of what is unread from there on.
pub opens-there : (s : Sections) (address_size base offset : ℕ) (t : OpenLines) → OpensAt (line_source s base) address_size (section_from s Line offset) t → Opens s address_size base offset t
opens-there s address_size base offset t h = record {
  header = h.header;
  directories = h.directories;
  files = h.files;
  same_files = h.same_files;
  whole = λ sound. sym (line_table-in s address_size base offset) ∙ ap (reported LineTableRead Line offset) (h.whole sound);
  there = h.there;
}

-- The same of what a call answers for such a source, size and place.
pub answers-opened : (s : Sections) (base offset : ℕ) (source : LineSource) (size address_size : ℕ) (u : Unread) (result : Result OpenLines NotRead) → source ≡ line_source s base → size ≡ address_size → u ≡ section_from s Line offset
    → IfOk result (OpensAt source size u) → IfOk result (Opens s address_size base offset)
answers-opened s base offset source size address_size u (Err e) a b c h = tt
answers-opened s base offset source size address_size u (Ok t) a b c h =
    opens-there s address_size base offset t (subst (λ source. OpensAt source address_size (section_from s Line offset) t) a (subst (λ size. OpensAt source size (section_from s Line offset) t) b (subst (λ u. OpensAt source size u t) c h)))
