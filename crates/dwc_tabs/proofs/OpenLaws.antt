-- A program whose rows are taken as they are read, instruction by instruction.
use Rattle.std.proofs.Common.{◌≡◌, ℕ, suc, ◌+◌, ◌-◌, ◌^◌, ◌<◌, ◌≤◌, refl, sym, ap, ◌∙◌, arith, List, length, Option, Some, None, Ok, Bool, true, false, nat_abs, ℤ, pos, negsuc}
use Rattle.std.specs.Prelude.{option_map, is_none, ◌&&◌, nat_lt, nat_le, int_lt, not, if◌then◌else◌}
use Rattle.std.specs.List.{list_all}
use Rattle.std.proofs.lemmas.Int.{ints}
use Rattle.std.proofs.lemmas.Bool.{ltb-true, true≢false}
use Rattle.std.proofs.lemmas.Bool.Decides.{nat_tests}
use Rattle.dwc_base.specs.declared.records.LineRow.{LineRow}
use Rattle.dwc_base.specs.Reading.{Unread}
use Rattle.dwc_base.specs.Sections.{Relocation}
use Rattle.dwc_dwarf.specs.LineHeaders.{LineFile, LineHeader, Instruction, instruction_at, special, copy, advance_pc, advance_line, set_file, set_column, negate_stmt, set_basic_block, const_add_pc, fixed_advance_pc, set_prologue_end, set_epilogue_begin, set_isa, end_sequence, set_address, define_file, set_discriminator, unknown}
use Rattle.dwc_dwarf.specs.LineRows.{Registers, LineStep, row, after, effect, appends, is_in_range, row_of, step_of, by_special, file_defined}
use Rattle.dwc_tabs.specs.declared.parameters.Parameters.{Parameters}
use Rattle.dwc_tabs.specs.Headers.{program_header}
use Rattle.dwc_tabs.specs.Steps.{capped, shown_step}
use Rattle.dwc_tabs.specs.Programs.{instructions_from, shown_from, is_number}
use Rattle.dwc_tabs.specs.OpenTables.{is_shown_within, is_sound, HasRoom, row_from_one, FitsRow}
use Rattle.dwc_tabs.proofs.StepLaws.{with_shown}
use Rattle.dwc_tabs.proofs.ProgramLaws.{program-fewer, program-first, program-end, shown-behind, instructions-none}

-- ---- what a row says

-- two tests that hold
pub both : (a b : Bool) → (a && b) ≡ true → (a ≡ true) × (b ≡ true)
both true b h = (refl, h)
both false b h = absurd (cc)

falsely : (b : Bool) → not b ≡ true → b ≡ false
falsely true h = absurd (cc)
falsely false h = refl

short-line : (z : ℤ) → int_lt z (pos 0) ≡ false → int_lt z (pos (2 ^ 32)) ≡ true → nat_abs z < 2 ^ 32
short-line (pos n) low high = grind (arith, ints, nat_tests, high)
short-line (negsuc n) low high = absurd (true≢false low)

-- a row that is appended has the offset of the registers, and is in range
record IsAppended (q : Registers) (x : LineRow) : Type 0 where
  offset : x.offset ≡ q.offset
  short : q.offset < 2 ^ 32
  line : x.line < 2 ^ 32

appended : (q : Registers) (x : LineRow) → Some (Some (row x)) ≡ Some (shown_step (appends q)) → IsAppended q x
appended q x = go (is_in_range (appends q)) refl
  where
    go : (b : Bool) → is_in_range (appends q) ≡ b → ◌≡◌ {A = Option (Option LineStep)} (Some (Some (row x))) (Some (if b then Some (step_of (appends q)) else None)) → IsAppended q x
    go false range e = absurd (cc)
    go true range e =
        let p = both (nat_lt q.offset (2 ^ 32) && not (int_lt q.line (pos 0))) (int_lt q.line (pos (2 ^ 32))) range in
        let o = both (nat_lt q.offset (2 ^ 32)) (not (int_lt q.line (pos 0))) p.0 in
        let same : x ≡ row_of q = cc in
        let offset = ap (λ (y : LineRow). y.offset) same in
        let line = ap (λ (y : LineRow). y.line) same in
        let short = short-line q.line (falsely (int_lt q.line (pos 0)) o.1) p.1 in
        record { offset = offset; short = ltb-true _ _ o.0; line = omega (arith, line, short) }

-- The offset of a row lies between those of the registers before and behind it, and its line has 32 bits.
pub record IsBetween (r s : Registers) (x : LineRow) : Type 0 where
  pub low : r.offset ≤ x.offset
  pub high : x.offset ≤ s.offset
  pub line : x.line < 2 ^ 32

pub row-between : (h : LineHeader) (i : Instruction) (r : Registers) (x : LineRow) → Some (Some (row x)) ≡ option_map shown_step (effect h i r) → IsBetween r (capped (after h i r)) x
row-between h (special opcode) r x is =
    let a = appended (by_special h opcode r) x is in
    let offset = a.offset in
    let short = a.short in
    record { low = omega arith; high = omega arith; line = a.line }
row-between h copy r x is =
    let a = appended r x is in
    let offset = a.offset in
    let short = a.short in
    record { low = omega arith; high = omega arith; line = a.line }
row-between h (advance_pc n) r x is = absurd (cc)
row-between h (advance_line n) r x is = absurd (cc)
row-between h (set_file n) r x is = absurd (cc)
row-between h (set_column n) r x is = absurd (cc)
row-between h negate_stmt r x is = absurd (cc)
row-between h set_basic_block r x is = absurd (cc)
row-between h const_add_pc r x is = absurd (cc)
row-between h (fixed_advance_pc n) r x is = absurd (cc)
row-between h set_prologue_end r x is = absurd (cc)
row-between h set_epilogue_begin r x is = absurd (cc)
row-between h (set_isa n) r x is = absurd (cc)
row-between h end_sequence r x is = absurd (cc)
row-between h (set_address a) r x is = absurd (cc)
row-between h (define_file f) r x is = absurd (cc)
row-between h (set_discriminator n) r x is = absurd (cc)
row-between h unknown r x is = absurd (cc)

-- what shows nothing does not lower the offset
pub nothing-falls : (h : LineHeader) (i : Instruction) (r : Registers) → r.offset < 2 ^ 64 → None ≡ option_map shown_step (effect h i r) → r.offset ≤ (capped (after h i r)).offset
nothing-falls h (special opcode) r below is = absurd (cc)
nothing-falls h copy r below is = absurd (cc)
nothing-falls h (advance_pc n) r below is = omega arith
nothing-falls h (advance_line n) r below is = omega arith
nothing-falls h (set_file n) r below is = omega arith
nothing-falls h (set_column n) r below is = omega arith
nothing-falls h negate_stmt r below is = omega arith
nothing-falls h set_basic_block r below is = omega arith
nothing-falls h const_add_pc r below is = omega arith
nothing-falls h (fixed_advance_pc n) r below is = omega arith
nothing-falls h set_prologue_end r below is = omega arith
nothing-falls h set_epilogue_begin r below is = omega arith
nothing-falls h (set_isa n) r below is = omega arith
nothing-falls h end_sequence r below is = absurd (cc)
nothing-falls h (set_address a) r below is = absurd (cc)
nothing-falls h (define_file f) r below is = omega arith
nothing-falls h (set_discriminator n) r below is = omega arith
nothing-falls h unknown r below is = omega arith

-- what shows something defines no file
pub shown-unnamed : (h : LineHeader) (i : Instruction) (r : Registers) (x : Option LineStep) → Some x ≡ option_map shown_step (effect h i r) → file_defined i ≡ None
shown-unnamed h (special opcode) r x is = refl
shown-unnamed h copy r x is = refl
shown-unnamed h (advance_pc n) r x is = refl
shown-unnamed h (advance_line n) r x is = refl
shown-unnamed h (set_file n) r x is = refl
shown-unnamed h (set_column n) r x is = refl
shown-unnamed h negate_stmt r x is = refl
shown-unnamed h set_basic_block r x is = refl
shown-unnamed h const_add_pc r x is = refl
shown-unnamed h (fixed_advance_pc n) r x is = refl
shown-unnamed h set_prologue_end r x is = refl
shown-unnamed h set_epilogue_begin r x is = refl
shown-unnamed h (set_isa n) r x is = refl
shown-unnamed h end_sequence r x is = refl
shown-unnamed h (set_address a) r x is = refl
shown-unnamed h (define_file f) r x is = absurd (cc)
shown-unnamed h (set_discriminator n) r x is = refl
shown-unnamed h unknown r x is = refl

-- a row whose file is one of so many fits
pub row-fits : (version count : ℕ) (x : LineRow) → x.line < 2 ^ 32 → is_number version count x.file ≡ true → FitsRow count (row_from_one version x)
row-fits version count x line = go (nat_lt version 5)
  where
    go : (early : Bool) → (if early then nat_le 1 x.file && nat_le x.file count else nat_lt x.file count) ≡ true
        → FitsRow count (record { offset = x.offset; file = if early then x.file else suc x.file; line = x.line; column = x.column; is_stmt = x.is_stmt; basic_block = x.basic_block; prologue_end = x.prologue_end; epilogue_begin = x.epilogue_begin; isa = x.isa; discriminator = x.discriminator })
    go true is = let p = both (nat_le 1 x.file) (nat_le x.file count) is in record { line = line; some = grind (arith, nat_tests, p.0); known = grind (arith, nat_tests, p.1) }
    go false is = record { line = line; some = omega arith; known = grind (arith, nat_tests, is) }

-- ---- an instruction

-- whether what an instruction shows is within
abbrev pub shows_within : ℕ → ℕ → Option (Option LineStep) → Bool
shows_within version count None = true
shows_within version count (Some s) = is_shown_within version count s

-- where it is, all is where what is shown behind it is
all-behind : (version count : ℕ) (o : Option (Option LineStep)) (ss : List (Option LineStep)) → shows_within version count o ≡ true → list_all (is_shown_within version count) (with_shown o ss) ≡ list_all (is_shown_within version count) ss
all-behind version count None ss h = refl
all-behind version count (Some s) ss h = ap (λ b. b && list_all (is_shown_within version count) ss) h

module _ (p : Parameters) (relocations : List Relocation) (count : ℕ) (r s : Registers) (u v : Unread) (i : Instruction) (read : instruction_at relocations (program_header p) u ≡ Ok (i, v)) (moved : s ≡ capped (after (program_header p) i r)) where
  -- all that is left is sound where what is left behind the first instruction is
  pub sound-behind : (o : Option (Option LineStep)) → o ≡ option_map shown_step (effect (program_header p) i r) → shows_within p.version count o ≡ true → file_defined i ≡ None → is_sound p relocations count s v ≡ is_sound p relocations count r u
  unfolding is_sound
  sound-behind o shown within none =
      let l = instructions_from p relocations v in
      let W = is_shown_within p.version count in
      let D = λ (i : Instruction). is_none (file_defined i) in
      sym (
      ap (λ ll. is_none ll.fault && list_all W (shown_from p relocations r u) && list_all D ll.items) (program-first p relocations u v i read)
      ∙ ap (λ ss. is_none l.fault && list_all W ss && (D i && list_all D l.items)) (shown-behind p relocations r s u v i read moved ∙ ap (λ o. with_shown o (shown_from p relocations s v)) (sym shown))
      ∙ ap (λ b. is_none l.fault && b && (D i && list_all D l.items)) (all-behind p.version count o (shown_from p relocations s v) within)
      ∙ ap (λ (f : Option LineFile). is_none l.fault && list_all W (shown_from p relocations s v) && (is_none f && list_all D l.items)) none
      )

  -- the registers have room behind it
  pub room-behind : nat_abs s.line ≤ nat_abs r.line + 2 ^ 63 → HasRoom r u → HasRoom s v
  room-behind near room =
      let fewer = program-fewer p relocations u v i read in
      let line = room.line in
      record { offset = rw moved (omega arith); line = omega arith }

-- nothing is left, and so all is sound
pub sound-end : (p : Parameters) (relocations : List Relocation) (count : ℕ) (r : Registers) (u : Unread) → length u.left ≡ 0 → is_sound p relocations count r u ≡ true
unfolding is_sound
sound-end p relocations count r u none =
    let W = is_shown_within p.version count in
    ap (λ l. is_none l.fault && list_all W (shown_from p relocations r u) && list_all (λ i. is_none (file_defined i)) l.items) (instructions-none p relocations u none)
    ∙ ap (λ ss. list_all W ss && true) (program-end p relocations r u none)
