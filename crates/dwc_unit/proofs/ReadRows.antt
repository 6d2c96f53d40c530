-- What the instructions of rows do. `row-shows`: those of a row behind another append it as it was given, whatever follows.
-- `sequences-show`: each sequence starts, appends its rows, and ends.
use Rattle.std.proofs.Common.{◌≡◌, ℕ, ◌+◌, ◌-◌, ◌*◌, ◌≤◌, refl, sym, ap, ◌∙◌, arith, List, [], ◌∷◌, ◌++◌, append_assoc, map, None, Bool, true, false, eqb}
use Rattle.std.specs.Prelude.{pos, ◌+ℤ◌, ◌-ℤ◌, ◌==◌, not}
use Rattle.std.specs.List.{All, flat_map}
use Rattle.std.proofs.lemmas.Bool.{eqb-true}
use Rattle.std.proofs.lemmas.Int.{ints}
use Rattle.std.proofs.lemmas.List.Elements.{All-head, All-tail}
use Rattle.dwc_base.specs.declared.records.LineRow.{LineRow}
use Rattle.dwc_dwarf.specs.LineHeaders.{LineHeader, Instruction, copy, advance_pc, advance_line, set_file, set_column, negate_stmt, set_basic_block, set_prologue_end, set_epilogue_begin, set_isa, end_sequence, set_discriminator}
use Rattle.dwc_dwarf.specs.LineRows.{Registers, at_sequence_start, Effect, starts, appends, ends, after, effect, effects}
use Rattle.dwc_unit.specs.SpelledLines.{WrittenSequence, first_row, registers_at, registers_behind, when, differs, row_instructions, rows_instructions, sequence_instructions, sequences_instructions, RowsRise, FitsSequence}

-- instructions that show nothing, and lead from some registers to others
record Moves (h : LineHeader) (xs : List Instruction) (r s : Registers) : Type 0 where
  moves : (is : List Instruction) → effects h r (xs ++ is) ≡ effects h s is

-- and those that show one effect at their end
pub record Shows (h : LineHeader) (xs : List Instruction) (r : Registers) (e : Effect) (s : Registers) : Type 0 where
  pub shows : (is : List Instruction) → effects h r (xs ++ is) ≡ e ∷ effects h s is

then : {h : LineHeader} {xs ys : List Instruction} {r s t : Registers} {e : Effect} → Moves h xs r s → Shows h ys s e t → Shows h (xs ++ ys) r e t
then {h} {xs} {ys} first second = record { shows = λ is. rw (append_assoc xs ys is) (first.moves (ys ++ is) ∙ second.shows is) }

-- what a sequence does
abbrev pub sequence_effects : WrittenSequence → List Effect
sequence_effects q = starts q.start_address ∷ (map (λ r. appends (registers_at r)) q.rows ++ ends q.end_offset ∷ [])

module _ (h : LineHeader) (length_1 : h.minimum_instruction_length ≡ 1) (stmt : h.default_is_stmt ≡ true) where
  -- an instruction that stands only where it changes a register
  when-moves : (b : Bool) (i : Instruction) (r s : Registers) → effect h i r ≡ None → (b ≡ false → r ≡ s) → (b ≡ true → after h i r ≡ s) → Moves h (when b i) r s
  when-moves true i r s quiet same changes = record { moves = λ is. rw (quiet, changes refl) refl }
  when-moves false i r s quiet same changes = record { moves = λ is. ap (λ t. effects h t is) (same refl) }

  -- of a number: where it is the same already, and where not
  unless-moves : (x y : ℕ) (i : Instruction) (r s : Registers) → effect h i r ≡ None → (x ≡ y → r ≡ s) → after h i r ≡ s → Moves h (when (not (x == y)) i) r s
  unless-moves x y i r s quiet same changes = go (eqb x y) refl
    where
      go : (b : Bool) → eqb x y ≡ b → Moves h (when (not b) i) r s
      go true e = when-moves (not true) i r s quiet (λ f. same (eqb-true x y e)) (λ f. changes)
      go false e = when-moves (not false) i r s quiet (λ f. absurd (cc)) (λ f. changes)

  file-moves : (n : ℕ) (r : Registers) → Moves h (when (not (r.file == n)) (set_file n)) r (record r { file = n })
  file-moves n r = unless-moves r.file n (set_file n) r _ refl (λ e. ap (λ x. record r { file = x }) e) refl

  column-moves : (n : ℕ) (r : Registers) → Moves h (when (not (r.column == n)) (set_column n)) r (record r { column = n })
  column-moves n r = unless-moves r.column n (set_column n) r _ refl (λ e. ap (λ x. record r { column = x }) e) refl

  isa-moves : (n : ℕ) (r : Registers) → Moves h (when (not (r.isa == n)) (set_isa n)) r (record r { isa = n })
  isa-moves n r = unless-moves r.isa n (set_isa n) r _ refl (λ e. ap (λ x. record r { isa = x }) e) refl

  discriminator-moves : (n : ℕ) (r : Registers) → r.discriminator ≡ 0 → Moves h (when (not (n == 0)) (set_discriminator n)) r (record r { discriminator = n })
  discriminator-moves n r none = unless-moves n 0 (set_discriminator n) r _ refl (λ e. ap (λ x. record r { discriminator = x }) (none ∙ sym e)) refl

  line-moves : (n m : ℕ) (r : Registers) → r.line ≡ pos n → Moves h (when (not (n == m)) (advance_line (pos m -ℤ pos n))) r (record r { line = pos m })
  line-moves n m r is =
      let sum : r.line +ℤ (pos m -ℤ pos n) ≡ pos m = omega (arith, ints) in
      unless-moves n m (advance_line (pos m -ℤ pos n)) r _ refl (λ e. ap (λ x. record r { line = x }) (is ∙ ap pos e)) (ap (λ x. record r { line = x }) sum)

  offset-moves : (n m : ℕ) (r : Registers) → r.offset ≡ n → n ≤ m → Moves h (when (not (n == m)) (advance_pc (m - n))) r (record r { offset = m })
  offset-moves n m r is less =
      let sum : r.offset + 1 * (m - n) ≡ m = omega arith in
      unless-moves n m (advance_pc (m - n)) r _ refl (λ e. ap (λ x. record r { offset = x }) (is ∙ e)) (rw (length_1) (ap (λ x. record r { offset = x }) sum))

  block-moves : (b : Bool) (r : Registers) → r.basic_block ≡ false → Moves h (when b set_basic_block) r (record r { basic_block = b })
  block-moves b r none = when-moves b set_basic_block r _ refl (λ e. ap (λ x. record r { basic_block = x }) (none ∙ sym e)) (λ e. ap (λ x. record r { basic_block = x }) (sym e))

  prologue-moves : (b : Bool) (r : Registers) → r.prologue_end ≡ false → Moves h (when b set_prologue_end) r (record r { prologue_end = b })
  prologue-moves b r none = when-moves b set_prologue_end r _ refl (λ e. ap (λ x. record r { prologue_end = x }) (none ∙ sym e)) (λ e. ap (λ x. record r { prologue_end = x }) (sym e))

  epilogue-moves : (b : Bool) (r : Registers) → r.epilogue_begin ≡ false → Moves h (when b set_epilogue_begin) r (record r { epilogue_begin = b })
  epilogue-moves b r none = when-moves b set_epilogue_begin r _ refl (λ e. ap (λ x. record r { epilogue_begin = x }) (none ∙ sym e)) (λ e. ap (λ x. record r { epilogue_begin = x }) (sym e))

  stmt-moves : (b : Bool) (r : Registers) → Moves h (when (differs r.is_stmt b) negate_stmt) r (record r { is_stmt = b })
  stmt-moves b r = when-moves (differs r.is_stmt b) negate_stmt r _ refl (λ e. ap (λ x. record r { is_stmt = x }) (same r.is_stmt b e)) (λ e. ap (λ x. record r { is_stmt = x }) (other r.is_stmt b e))
    where
      same : (a b : Bool) → differs a b ≡ false → a ≡ b
      same true true e = refl
      same true false e = absurd (cc)
      same false true e = absurd (cc)
      same false false e = refl

      other : (a b : Bool) → differs a b ≡ true → not a ≡ b
      other true true e = absurd (cc)
      other true false e = refl
      other false true e = refl
      other false false e = absurd (cc)

  row-copied : (r : LineRow) → Shows h (copy ∷ []) (registers_at r) (appends (registers_at r)) (registers_behind r)
  row-copied r = record { shows = λ is. refl }

  pub row-shows : (before r : LineRow) → before.offset ≤ r.offset → Shows h (row_instructions before r) (registers_behind before) (appends (registers_at r)) (registers_behind r)
  row-shows before r rise =
      then (discriminator-moves r.discriminator _ refl)
      (then (block-moves r.basic_block _ refl)
      (then (prologue-moves r.prologue_end _ refl)
      (then (epilogue-moves r.epilogue_begin _ refl)
      (then (stmt-moves r.is_stmt _)
      (then (file-moves r.file _)
      (then (column-moves r.column _)
      (then (isa-moves r.isa _)
      (then (line-moves before.line r.line _ refl)
      (then (offset-moves before.offset r.offset _ refl rise)
      (row-copied r))))))))))

  -- ---- sequences

  pub rows-show : (rows : List LineRow) (before : LineRow) (last : ℕ) (is : List Instruction) → RowsRise before.offset rows last
      → effects h (registers_behind before) (rows_instructions before rows last ++ is) ≡ (map (λ r. appends (registers_at r)) rows ++ ends last ∷ []) ++ effects h (at_sequence_start h) is
  rows-show [] before last is rise =
      rw (append_assoc (when (not (before.offset == last)) (advance_pc (last - before.offset))) (end_sequence ∷ []) is)
      ((offset-moves before.offset last (registers_behind before) refl rise).moves (end_sequence ∷ is))
  rows-show (r ∷ rows) before last is rise =
      rw (append_assoc (row_instructions before r) (rows_instructions r rows last) is)
      ((row-shows before r rise.0).shows (rows_instructions r rows last ++ is)
      ∙ ap (λ es. appends (registers_at r) ∷ es) (rows-show rows r last is rise.1))

  sequence-shows : (q : WrittenSequence) (is : List Instruction) → RowsRise 0 q.rows q.end_offset
      → effects h (at_sequence_start h) (sequence_instructions q ++ is) ≡ sequence_effects q ++ effects h (at_sequence_start h) is
  sequence-shows q is rise =
      let begin : at_sequence_start h ≡ registers_behind first_row = ap (λ b. record { offset = 0; file = 1; line = pos 1; column = 0; is_stmt = b; basic_block = false; prologue_end = false; epilogue_begin = false; isa = 0; discriminator = 0 }) stmt in
      ap (λ es. starts q.start_address ∷ es) (ap (λ r. effects h r (rows_instructions first_row q.rows q.end_offset ++ is)) begin ∙ rows-show q.rows first_row q.end_offset is rise)

  -- What sequences do: each starts, appends its rows and ends.
  pub sequences-show : (size : ℕ) (qs : List WrittenSequence) → All (FitsSequence size) qs → effects h (at_sequence_start h) (sequences_instructions qs) ≡ flat_map sequence_effects qs
  sequences-show size [] fits = refl
  sequences-show size (q ∷ qs) fits =
      sequence-shows q (sequences_instructions qs) (All-head (FitsSequence size) q qs fits).rise
      ∙ ap (λ es. sequence_effects q ++ es) (sequences-show size qs (All-tail (FitsSequence size) q qs fits))
