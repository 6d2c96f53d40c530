-- The bytes of a row's instructions, part by part, in the order in which code appends them: cite `row-bytes` where a function
-- ends that appends a row, and `rows-bytes-more` and `-end` in a loop over rows.
use Rattle.std.proofs.Common.{append_assoc, ◌≡◌, ℕ, ◌-◌, ap, refl, List, [], ◌∷◌, ◌++◌, Bool, true, false}
use Rattle.std.specs.Prelude.{◌==◌, pos, ◌-ℤ◌, not}
use Rattle.std.proofs.lemmas.Grind.{flat_map-append}
use Rattle.dwc_base.specs.declared.records.Endian.{Endian}
use Rattle.dwc_base.specs.declared.records.LineRow.{LineRow}
use Rattle.dwc_dwarf.specs.LineHeaders.{Instruction, copy, advance_pc, advance_line, set_file, set_column, negate_stmt, set_basic_block, set_prologue_end, set_epilogue_begin, set_isa, end_sequence, set_discriminator}
use Rattle.dwc_base.specs.NumberBytes.{uleb_bytes, uleb_bytes_within, sleb_bytes}
use Rattle.dwc_unit.specs.SpelledLines.{when, bytes_when, differs, instruction_bytes, extended_bytes, program_bytes, row_instructions, rows_instructions}

when-bytes : (order : Endian) (size : ℕ) (b : Bool) (i : Instruction) (is : List Instruction) (rest : List ℕ) → program_bytes order size is ≡ rest → program_bytes order size (when b i ++ is) ≡ bytes_when b (instruction_bytes order size i) ++ rest
when-bytes order size true i is rest h = ap (λ bs. instruction_bytes order size i ++ bs) h
when-bytes order size false i is rest h = h

-- a row
pub row-bytes : (order : Endian) (size : ℕ) (before r : LineRow)
    → program_bytes order size (row_instructions before r)
    ≡ bytes_when (not (r.discriminator == 0)) (extended_bytes 4 (uleb_bytes r.discriminator))
    ++ (bytes_when r.basic_block (7 ∷ [])
    ++ (bytes_when r.prologue_end (10 ∷ [])
    ++ (bytes_when r.epilogue_begin (11 ∷ [])
    ++ (bytes_when (differs before.is_stmt r.is_stmt) (6 ∷ [])
    ++ (bytes_when (not (before.file == r.file)) (4 ∷ uleb_bytes r.file)
    ++ (bytes_when (not (before.column == r.column)) (5 ∷ uleb_bytes r.column)
    ++ (bytes_when (not (before.isa == r.isa)) (12 ∷ uleb_bytes r.isa)
    ++ (bytes_when (not (before.line == r.line)) (3 ∷ sleb_bytes (pos r.line -ℤ pos before.line))
    ++ (bytes_when (not (before.offset == r.offset)) (2 ∷ uleb_bytes (r.offset - before.offset)) ++ 1 ∷ [])))))))))
row-bytes order size before r =
    when-bytes order size (not (r.discriminator == 0)) (set_discriminator r.discriminator) _ _
    (when-bytes order size r.basic_block set_basic_block _ _
    (when-bytes order size r.prologue_end set_prologue_end _ _
    (when-bytes order size r.epilogue_begin set_epilogue_begin _ _
    (when-bytes order size (differs before.is_stmt r.is_stmt) negate_stmt _ _
    (when-bytes order size (not (before.file == r.file)) (set_file r.file) _ _
    (when-bytes order size (not (before.column == r.column)) (set_column r.column) _ _
    (when-bytes order size (not (before.isa == r.isa)) (set_isa r.isa) _ _
    (when-bytes order size (not (before.line == r.line)) (advance_line (pos r.line -ℤ pos before.line)) _ _
    (when-bytes order size (not (before.offset == r.offset)) (advance_pc (r.offset - before.offset)) (copy ∷ []) (1 ∷ []) refl)))))))))

-- The same for the code that appends it: from the eleven steps, what stands in the buffer behind them.
pub row-appended : (order : Endian) (size : ℕ) (before r : LineRow) (o a b c d e f g h i j k : List ℕ)
    → a ≡ o ++ bytes_when (not (r.discriminator == 0)) (extended_bytes 4 (uleb_bytes r.discriminator))
    → b ≡ a ++ bytes_when r.basic_block (7 ∷ [])
    → c ≡ b ++ bytes_when r.prologue_end (10 ∷ [])
    → d ≡ c ++ bytes_when r.epilogue_begin (11 ∷ [])
    → e ≡ d ++ bytes_when (differs before.is_stmt r.is_stmt) (6 ∷ [])
    → f ≡ e ++ bytes_when (not (before.file == r.file)) (4 ∷ uleb_bytes r.file)
    → g ≡ f ++ bytes_when (not (before.column == r.column)) (5 ∷ uleb_bytes r.column)
    → h ≡ g ++ bytes_when (not (before.isa == r.isa)) (12 ∷ uleb_bytes r.isa)
    → i ≡ h ++ bytes_when (not (before.line == r.line)) (3 ∷ sleb_bytes (pos r.line -ℤ pos before.line))
    → j ≡ i ++ bytes_when (not (before.offset == r.offset)) (2 ∷ uleb_bytes (r.offset - before.offset))
    → k ≡ j ++ 1 ∷ []
    → k ≡ o ++ program_bytes order size (row_instructions before r)
row-appended order size before r o a b c d e f g h i j k p q s t u v w x y z l =
    rw (row-bytes order size before r) (regroup o a b c d e f g h i j k _ _ _ _ _ _ _ _ _ _ _ p q s t u v w x y z l)
  where
    regroup : (o a b c d e f g h i j k A B C D E F G H I J K : List ℕ) → a ≡ o ++ A → b ≡ a ++ B → c ≡ b ++ C → d ≡ c ++ D → e ≡ d ++ E → f ≡ e ++ F → g ≡ f ++ G → h ≡ g ++ H → i ≡ h ++ I → j ≡ i ++ J → k ≡ j ++ K
        → k ≡ o ++ (A ++ (B ++ (C ++ (D ++ (E ++ (F ++ (G ++ (H ++ (I ++ (J ++ K))))))))))
    regroup o a b c d e f g h i j k A B C D E F G H I J K p q s t u v w x y z l =
        rw (l, z, y, x, w, v, u, t, s, q, p) (simp append_assoc)

-- rows and the end of their sequence
pub rows-bytes-end : (order : Endian) (size : ℕ) (before : LineRow) (last : ℕ)
    → program_bytes order size (rows_instructions before [] last) ≡ bytes_when (not (before.offset == last)) (2 ∷ uleb_bytes (last - before.offset)) ++ 0 ∷ 1 ∷ 1 ∷ []
unfolding uleb_bytes uleb_bytes_within
rows-bytes-end order size before last = when-bytes order size (not (before.offset == last)) (advance_pc (last - before.offset)) (end_sequence ∷ []) (0 ∷ 1 ∷ 1 ∷ []) refl

pub rows-bytes-more : (order : Endian) (size : ℕ) (before r : LineRow) (rs : List LineRow) (last : ℕ)
    → program_bytes order size (rows_instructions before (r ∷ rs) last) ≡ program_bytes order size (row_instructions before r) ++ program_bytes order size (rows_instructions r rs last)
rows-bytes-more order size before r rs last = flat_map-append (instruction_bytes order size) (row_instructions before r) (rows_instructions r rs last)

pub ruleset row_bytes = (row-bytes, rows-bytes-end, rows-bytes-more)
