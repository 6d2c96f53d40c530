-- A table that was checked is the table of the definitions.
use Rattle.std.proofs.Common.{◌≡◌, ℕ, ◌+◌, ◌<◌, min, max, refl, sym, ap, ◌∙◌, arith, List, [], ◌∷◌, ◌++◌, map, length, take, drop, Option, Some, None, Ok, Err, zero-add, ltb, Bool, true, false, is_some}
use Rattle.std.specs.Prelude.{◌&&◌, nat_le, nat_lt, if◌then◌else◌}
use Rattle.std.specs.List.{filter_map, list_all}
use Rattle.std.proofs.Math.Bool.{and-true, and-false}
use Rattle.std.proofs.Math.Seq.{take-append_seam}
use Rattle.std.proofs.lemmas.Bool.{ltb-true}
use Rattle.std.proofs.lemmas.Bool.Decides.{nat_tests}
use Rattle.dwc_base.specs.declared.faults.Flaw.{Flaw}
use Rattle.dwc_base.specs.declared.faults.Flaw.TheVariants.{Malformed, EndsEarly}
use Rattle.dwc_base.specs.declared.faults.NotRead.{NotRead}
use Rattle.dwc_base.specs.declared.faults.NotRead.TheVariants.{OutOfMemory, Flawed}
use Rattle.dwc_base.specs.Cursors.{FailsLast}
use Rattle.dwc_base.specs.declared.faults.What.TheVariants.{LineTable as LineTableRead}
use Rattle.dwc_base.specs.declared.section_name.SectionName.TheVariants.{Line}
use Rattle.dwc_base.specs.declared.records.Endian.{Endian}
use Rattle.dwc_base.specs.Reading.{Unread, Read as ReadOf, bytes_at, number_at}
use Rattle.dwc_base.specs.Units.{sized_part_at}
use Rattle.dwc_base.specs.Sections.{Sections, Relocation, reported, fault_of, unreadable, unsupported}
use Rattle.dwc_base.specs.Listing.{Listing}
use Rattle.dwc_dwarf.specs.LineHeaders.{LineFile, LineHeader, LineSource, line_source, line_header_at, Instruction, special, copy, advance_pc, advance_line, set_file, set_column, negate_stmt, set_basic_block, const_add_pc, fixed_advance_pc, set_prologue_end, set_epilogue_begin, set_isa, end_sequence, set_address, define_file, set_discriminator, unknown, extended_at, extended_instruction_at, instruction_at, next_instruction, instructions}
use Rattle.dwc_dwarf.specs.LineRows.{Registers, LineStep, start, row, end, after, effect, effects, with_effect, Effect, is_in_range, step_of, at_sequence_start, file_defined, table_of, checked_table, line_table_at, line_table}
use Rattle.dwc_tabs.specs.declared.parameters.Parameters.{Parameters}
use Rattle.dwc_tabs.specs.declared.program.FileNumbers.{FileNumbers}
use Rattle.dwc_tabs.specs.declared.program.ProgramCheck.{ProgramCheck}
use Rattle.dwc_tabs.specs.declared.fault.TabFault.{TabFault}
use Rattle.dwc_tabs.specs.declared.fault.TabFault.TheVariants.{Read, Unsupported, InvalidFileIndex, OutOfMemory as NoMemory}
use Rattle.dwc_tabs.specs.Faults.{fault_view, AnswersTable}
use Rattle.dwc_tabs.specs.Headers.{header_of, program_header}
use Rattle.dwc_tabs.specs.Steps.{shown_step, shown_steps}
use Rattle.dwc_tabs.specs.Programs.{instructions_from, shown_from, steps_from, CanRun, Checked, Checks, numbers_with, is_number, are_within, noted_item, noted_all, nothing_noted}
use Rattle.dwc_tabs.specs.Tables.{table_at, table_in, table_of_parts, names_within, Bounds, ReadsTable}

-- ---- the parts of a header that no instruction reads

module _ (p : Parameters) (directories : List (List ℕ)) (files : List LineFile) (program : Unread) where
  -- the instructions do not depend on them
  pub instructions-of : (relocations : List Relocation) (u : Unread) → instructions relocations (header_of p directories files program) u ≡ instructions_from p relocations u
  unfolding instructions next_instruction instruction_at extended_instruction_at extended_at
  instructions-of relocations u = refl

  -- nor the registers behind one
  after-of : (i : Instruction) (r : Registers) → after (header_of p directories files program) i r ≡ after (program_header p) i r
  after-of (special opcode) r = refl
  after-of copy r = refl
  after-of (advance_pc n) r = refl
  after-of (advance_line n) r = refl
  after-of (set_file n) r = refl
  after-of (set_column n) r = refl
  after-of negate_stmt r = refl
  after-of set_basic_block r = refl
  after-of const_add_pc r = refl
  after-of (fixed_advance_pc n) r = refl
  after-of set_prologue_end r = refl
  after-of set_epilogue_begin r = refl
  after-of (set_isa n) r = refl
  after-of end_sequence r = refl
  after-of (set_address a) r = refl
  after-of (define_file f) r = refl
  after-of (set_discriminator n) r = refl
  after-of unknown r = refl

  -- nor what one does that shows
  effect-of : (i : Instruction) (r : Registers) → effect (header_of p directories files program) i r ≡ effect (program_header p) i r
  effect-of (special opcode) r = refl
  effect-of copy r = refl
  effect-of (advance_pc n) r = refl
  effect-of (advance_line n) r = refl
  effect-of (set_file n) r = refl
  effect-of (set_column n) r = refl
  effect-of negate_stmt r = refl
  effect-of set_basic_block r = refl
  effect-of const_add_pc r = refl
  effect-of (fixed_advance_pc n) r = refl
  effect-of set_prologue_end r = refl
  effect-of set_epilogue_begin r = refl
  effect-of (set_isa n) r = refl
  effect-of end_sequence r = refl
  effect-of (set_address a) r = refl
  effect-of (define_file f) r = refl
  effect-of (set_discriminator n) r = refl
  effect-of unknown r = refl

  -- nor do the effects
  pub effects-of : (r : Registers) (is : List Instruction) → effects (header_of p directories files program) r is ≡ effects (program_header p) r is
  effects-of r [] = refl
  effects-of r (i ∷ is) =
      ap (λ e. with_effect e (effects (header_of p directories files program) (after (header_of p directories files program) i r) is)) (effect-of i r)
      ∙ ap (with_effect (effect (program_header p) i r)) (ap (λ s. effects (header_of p directories files program) s is) (after-of i r) ∙ effects-of (after (program_header p) i r) is)

-- ---- what is shown

-- all effects are in range where all are shown as steps
pub in_range-shown : (es : List Effect) → list_all is_some (map shown_step es) ≡ list_all is_in_range es
in_range-shown [] = refl
in_range-shown (e ∷ es) = ap (λ b. b && list_all is_some (map shown_step es)) (first (is_in_range e)) ∙ ap (λ b. is_in_range e && b) (in_range-shown es)
  where
    first : (b : Bool) → is_some {T = LineStep} (if b then Some (step_of e) else None) ≡ b
    first true = refl
    first false = refl

-- and then they are those steps
pub steps-shown : (es : List Effect) → list_all is_in_range es ≡ true → filter_map (λ s. s) (map shown_step es) ≡ map step_of es
steps-shown [] h = refl
steps-shown (e ∷ es) h = go (is_in_range e) h (λ all. steps-shown es all)
  where
    go : (b : Bool) → (b && list_all is_in_range es) ≡ true → (list_all is_in_range es ≡ true → filter_map (λ s. s) (map shown_step es) ≡ map step_of es)
        → filter_map (λ s. s) ((if b then Some (step_of e) else None) ∷ map shown_step es) ≡ step_of e ∷ map step_of es
    go true all others = ap (λ ss. step_of e ∷ ss) (others all)
    go false all others = absurd (cc)

-- ---- what a check notes

-- whether all is in range
pub noted-in_range : (ss : List (Option LineStep)) (c : ProgramCheck) → (noted_all ss c).in_range ≡ (c.in_range && list_all is_some ss)
noted-in_range [] c = sym (and-true c.in_range)
noted-in_range (None ∷ ss) c = noted-in_range ss (noted_item None c) ∙ sym (and-false c.in_range)
noted-in_range (Some (row r) ∷ ss) c = noted-in_range ss (noted_item (Some (row r)) c)
noted-in_range (Some (start a) ∷ ss) c = noted-in_range ss c
noted-in_range (Some (end e) ∷ ss) c = noted-in_range ss c

-- a lower number is at least 1 where both are
least-min : (a b : ℕ) → nat_le 1 (min a b) ≡ (nat_le 1 a && nat_le 1 b)
least-min a b = grind (arith, nat_tests)

-- a higher number is at most n where both are
most-max : (a b n : ℕ) → nat_le (max a b) n ≡ (nat_le a n && nat_le b n)
most-max a b n = grind (arith, nat_tests)

-- and below n where both are
below-max : (a b n : ℕ) → nat_lt (max a b) n ≡ (nat_lt a n && nat_lt b n)
below-max a b n = grind (arith, nat_tests)

-- four facts, told in another order
crosswise : (a b c d : Bool) → ((a && b) && (c && d)) ≡ ((a && c) && (b && d))
crosswise false b c d = refl
crosswise true true c d = refl
crosswise true false true d = refl
crosswise true false false d = refl

-- three facts, told in another order
regrouped : (a b c : Bool) → ((a && b) && c) ≡ (a && (b && c))
regrouped false b c = refl
regrouped true b c = refl

-- a further number is one of a file where it and those before are
within-more : (version count : ℕ) (o : Option FileNumbers) (file : ℕ) → are_within version count (Some (numbers_with o file)) ≡ (are_within version count o && is_number version count file)
within-more version count o file = go (nat_lt version 5) o
  where
    go : (early : Bool) (o : Option FileNumbers)
        → (let n = numbers_with o file in if early then nat_le 1 n.lowest && nat_le n.highest count else nat_lt n.highest count)
        ≡ ((elim o [ None ↦ true | Some n ↦ (if early then nat_le 1 n.lowest && nat_le n.highest count else nat_lt n.highest count) ]) && (if early then nat_le 1 file && nat_le file count else nat_lt file count))
    go true None = refl
    go false None = refl
    go true (Some n) =
        ap (λ b. b && nat_le (max n.highest file) count) (least-min n.lowest file) ∙ ap (λ b. (nat_le 1 n.lowest && nat_le 1 file) && b) (most-max n.highest file count)
        ∙ crosswise (nat_le 1 n.lowest) (nat_le 1 file) (nat_le n.highest count) (nat_le file count)
    go false (Some n) = below-max n.highest file count

-- between which numbers those of files lie
pub noted-bounds : (ss : List (Option LineStep)) (c : ProgramCheck) (version count : ℕ)
    → are_within version count (noted_all ss c).files ≡ (are_within version count c.files && list_all (names_within version count) (filter_map (λ s. s) ss))
noted-bounds [] c version count = sym (and-true _)
noted-bounds (None ∷ ss) c version count = noted-bounds ss (noted_item None c) version count
noted-bounds (Some (row r) ∷ ss) c version count =
    noted-bounds ss (noted_item (Some (row r)) c) version count
    ∙ ap (λ b. b && list_all (names_within version count) (filter_map (λ s. s) ss)) (within-more version count c.files r.file)
    ∙ regrouped (are_within version count c.files) (is_number version count r.file) (list_all (names_within version count) (filter_map (λ s. s) ss))
noted-bounds (Some (start a) ∷ ss) c version count = noted-bounds ss c version count
noted-bounds (Some (end e) ∷ ss) c version count = noted-bounds ss c version count

-- ---- the table of what was checked

-- what cannot be read is no table
checked-flaw : (h : LineHeader) (l : Listing Flaw Instruction) (flaw : Flaw) → l.fault ≡ Some flaw → checked_table h l ≡ Err flaw
checked-flaw h l flaw fault = rw (fault, checked_table) refl

-- nor is what has a row out of range
checked-malformed : (h : LineHeader) (l : Listing Flaw Instruction) → l.fault ≡ None → list_all is_in_range (effects h (at_sequence_start h) l.items) ≡ false → checked_table h l ≡ Err Malformed
checked-malformed h l fault out = rw (fault, out, checked_table) refl

-- all else is one
checked-whole : (h : LineHeader) (l : Listing Flaw Instruction) → l.fault ≡ None → list_all is_in_range (effects h (at_sequence_start h) l.items) ≡ true → checked_table h l ≡ Ok (table_of h l.items)
checked-whole h l fault all = rw (fault, all, checked_table) refl

module _ (p : Parameters) (directories : List (List ℕ)) (header_files files : List LineFile) (relocations : List Relocation) (program : Unread) where
  -- a program that cannot be read
  pub table-flaw : (flaw : Flaw) → (instructions_from p relocations program).fault ≡ Some flaw → checked_table (header_of p directories header_files program) (instructions relocations (header_of p directories header_files program) program) ≡ Err flaw
  table-flaw flaw fault =
      let h = header_of p directories header_files program in
      ap (checked_table h) (instructions-of p directories header_files program relocations program) ∙ checked-flaw h (instructions_from p relocations program) flaw fault

  module _ (check : ProgramCheck) (checked : Checked p relocations program header_files files check) where
    -- the check knows whether all rows are in range
    in_range-noted : list_all is_some (shown_from p relocations (at_sequence_start (program_header p)) program) ≡ check.in_range
    in_range-noted = sym (ap (λ c. c.in_range) checked.noted ∙ noted-in_range (shown_from p relocations (at_sequence_start (program_header p)) program) nothing_noted)

    -- and so whether all effects are
    in_range-checked : list_all is_in_range (effects (header_of p directories header_files program) (at_sequence_start (header_of p directories header_files program)) (instructions_from p relocations program).items) ≡ check.in_range
    unfolding shown_steps
    in_range-checked =
        ap (list_all is_in_range) (effects-of p directories header_files program (at_sequence_start (program_header p)) (instructions_from p relocations program).items)
        ∙ sym (in_range-shown (effects (program_header p) (at_sequence_start (program_header p)) (instructions_from p relocations program).items))
        ∙ in_range-noted

    -- a row out of range
    pub table-malformed : check.in_range ≡ false → checked_table (header_of p directories header_files program) (instructions relocations (header_of p directories header_files program) program) ≡ Err Malformed
    table-malformed out =
        let h = header_of p directories header_files program in
        ap (checked_table h) (instructions-of p directories header_files program relocations program) ∙ checked-malformed h (instructions_from p relocations program) checked.whole (in_range-checked ∙ out)

    -- the program runs to its end
    pub table-runs : check.in_range ≡ true → CanRun p relocations (at_sequence_start (program_header p)) program
    table-runs all = record { whole = checked.whole; in_range = in_range-noted ∙ all; room = let short = checked.short in omega arith }

    -- the steps of the table are those that are shown
    table-steps : check.in_range ≡ true → map step_of (effects (header_of p directories header_files program) (at_sequence_start (header_of p directories header_files program)) (instructions_from p relocations program).items) ≡ steps_from p relocations (at_sequence_start (program_header p)) program
    unfolding shown_steps
    table-steps all =
        let same = effects-of p directories header_files program (at_sequence_start (program_header p)) (instructions_from p relocations program).items in
        ap (map step_of) same
        ∙ sym (steps-shown (effects (program_header p) (at_sequence_start (program_header p)) (instructions_from p relocations program).items) (ap (list_all is_in_range) (sym same) ∙ in_range-checked ∙ all))

    -- the table
    pub table-whole : check.in_range ≡ true → checked_table (header_of p directories header_files program) (instructions relocations (header_of p directories header_files program) program) ≡ Ok (table_of_parts p directories (length header_files) files relocations program)
    table-whole all =
        let h = header_of p directories header_files program in
        let front : take (length header_files) files ≡ header_files = rw checked.files (take-append_seam header_files (filter_map file_defined (instructions_from p relocations program).items)) in
        ap (checked_table h) (instructions-of p directories header_files program relocations program)
        ∙ checked-whole h (instructions_from p relocations program) checked.whole (in_range-checked ∙ all)
        ∙ ap (λ ss. Ok (record { header = h; files = header_files ++ filter_map file_defined (instructions_from p relocations program).items; steps = ss })) (table-steps all)
        ∙ ap (λ fs. Ok (record { header = h; files = fs; steps = steps_from p relocations (at_sequence_start (program_header p)) program })) (sym checked.files)
        ∙ ap (λ fs. Ok (record { header = header_of p directories fs program; files = files; steps = steps_from p relocations (at_sequence_start (program_header p)) program })) (sym front)

    -- the check knows the bounds of the files that rows name
    pub table-bounds : Bounds check (steps_from p relocations (at_sequence_start (program_header p)) program)
    table-bounds = λ version count.
        let ss = shown_from p relocations (at_sequence_start (program_header p)) program in
        sym (ap (λ c. are_within version count c.files) checked.noted ∙ noted-bounds ss nothing_noted version count)

-- ---- the reader of a table

module _ (source : LineSource) (address_size : ℕ) (u : Unread) where
  -- the table of a header that was read
  pub table-behind : (h : LineHeader) → line_header_at source address_size u ≡ Ok h → table_at source address_size u ≡ checked_table h (instructions source.relocations h h.program)
  unfolding table_at
  table-behind h read = rw (read, table_at) refl

  -- no header
  pub table-no_header : (e : NotRead) → FailsLast e (line_header_at source address_size u) → ReadsTable (table_at source address_size u) (Err e)
  unfolding table_at
  table-no_header OutOfMemory fails = tt
  table-no_header (Flawed flaw) fails = rw (fails, table_at) refl

  -- a header, and no program
  pub table-no_program : (p : Parameters) (directories : List (List ℕ)) (header_files files : List LineFile) (program : Unread) (e : NotRead)
      → line_header_at source address_size u ≡ Ok (header_of p directories header_files program) → Checks p source.relocations program header_files files (Err e) → ReadsTable (table_at source address_size u) (Err e)
  table-no_program p directories header_files files program OutOfMemory read fails = tt
  table-no_program p directories header_files files program (Flawed flaw) read fails =
      table-behind (header_of p directories header_files program) read ∙ table-flaw p directories header_files files source.relocations program flaw fails

-- ---- where a table stands

-- the table of some sections is that of their line section
pub line_table-in : (s : Sections) (address_size base offset : ℕ) → table_in (line_source s base) (s.bytes Line) address_size offset ≡ line_table s address_size base offset
unfolding line_table line_table_at table_at
line_table-in s address_size base offset = refl

-- no table stands behind the section's end
pub table_at-end : (source : LineSource) (address_size place : ℕ) → table_at source address_size (record { order = source.texts.order; place = place; left = [] }) ≡ Err EndsEarly
unfolding table_at line_header_at sized_part_at number_at bytes_at
table_at-end source address_size place = refl

-- what is unread behind what was read
abbrev unread_behind : {A : Type 0} → ReadOf A → Unread → Unread
unread_behind (Ok x) u = x.1
unread_behind (Err flaw) u = u

-- what is unread behind the first bytes of all
pub passed-start : (order : Endian) (bytes : List ℕ) (offset : ℕ) (x : List ℕ) (v : Unread) → bytes_at offset (record { order = order; place = 0; left = bytes }) ≡ Ok (x, v) → v ≡ record { order = order; place = offset; left = drop offset bytes }
unfolding bytes_at
passed-start order bytes offset x v h = go (ltb (length bytes) offset) h
  where
    go : (short : Bool) → ◌≡◌ {A = ReadOf (List ℕ)} (if short then Err EndsEarly else Ok (take offset bytes, record { order = order; place = 0 + offset; left = drop offset bytes })) (Ok (x, v)) → v ≡ record { order = order; place = offset; left = drop offset bytes }
    go true e = absurd (cc)
    go false e =
        sym (ap (λ r. unread_behind r v) e) ∙ ap (λ n. record { order = order; place = n; left = drop offset bytes }) (zero-add offset)

-- too few bytes
pub passed-short : (order : Endian) (bytes : List ℕ) (offset : ℕ) (flaw : Flaw) → bytes_at offset (record { order = order; place = 0; left = bytes }) ≡ Err flaw → length bytes < offset
unfolding bytes_at
passed-short order bytes offset flaw h = go (ltb (length bytes) offset) refl h
  where
    go : (short : Bool) → ltb (length bytes) offset ≡ short → ◌≡◌ {A = ReadOf (List ℕ)} (if short then Err EndsEarly else Ok (take offset bytes, record { order = order; place = 0 + offset; left = drop offset bytes })) (Err flaw) → length bytes < offset
    go true is e = ltb-true _ _ is
    go false is e = absurd (cc)

-- ---- what a call answers

module _ (source : LineSource) (line : List ℕ) (address_size offset : ℕ) where
  -- a flaw that is met is answered as its fault
  pub answers-flaw : (fault : TabFault) (flaw : Flaw) → fault_view fault ≡ Some (fault_of LineTableRead Line offset flaw) → table_at source address_size (record { order = source.texts.order; place = offset; left = drop offset line }) ≡ Err flaw
      → AnswersTable offset (table_in source line address_size offset) (Err fault)
  answers-flaw (Read what section at) flaw is h = ap (reported LineTableRead Line offset) h ∙ ap Err (let same : fault_of LineTableRead Line offset flaw ≡ unreadable what section at = cc in same)
  answers-flaw (Unsupported kind at) flaw is h = ap (reported LineTableRead Line offset) h ∙ ap Err (let same : fault_of LineTableRead Line offset flaw ≡ unsupported kind at = cc in same)
  answers-flaw (InvalidFileIndex at) flaw is h = absurd (cc)
  answers-flaw NoMemory flaw is h = tt
