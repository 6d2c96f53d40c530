-- What code goes by that appends the instructions of rows.
use Rattle.std.proofs.Common.{◌≡◌, ℕ, ◌+◌, ◌<◌, sym, ap, ◌∙◌, arith, List, [], ◌∷◌, ◌++◌, append_assoc, length}
use Rattle.dwc_base.specs.declared.records.Endian.{Endian}
use Rattle.dwc_base.specs.declared.records.LineRow.{LineRow}
use Rattle.dwc_base.specs.NumberBytes.{uleb_bytes}
use Rattle.dwc_unit.specs.SpelledLines.{extended_bytes, program_bytes, rows_instructions, bytes_when}
use Rattle.std.specs.Prelude.{not, ◌==◌, ◌-◌}
use Rattle.dwc_section.proofs.ReadNumbers.{uleb_bytes-small}
use Rattle.dwc_unit.proofs.ReadWritten.{rows-bytes-end}

-- three bytes, one after another
pub three-appended : (before one two now : List ℕ) (a b c : ℕ) → one ≡ before ++ a ∷ [] → two ≡ one ++ b ∷ [] → now ≡ two ++ c ∷ [] → now ≡ before ++ a ∷ b ∷ c ∷ []
three-appended before one two now a b c first second third = rw (third, second, first) (append_assoc (before ++ a ∷ []) (b ∷ []) (c ∷ []) ∙ append_assoc before (a ∷ []) (b ∷ c ∷ []))

-- an extended instruction whose length is written as one byte
pub extended-appended : (before now after : List ℕ) (opcode : ℕ) (operands : List ℕ) (n : ℕ) → now ≡ before ++ 0 ∷ n ∷ opcode ∷ [] → after ≡ now ++ operands → n ≡ 1 + length operands → n < 128
    → after ≡ before ++ extended_bytes opcode operands
extended-appended before now after opcode operands n first second long small =
    let one : uleb_bytes (length (opcode ∷ operands)) ≡ n ∷ [] = ap uleb_bytes (omega (arith, long)) ∙ uleb_bytes-small n small in
    rw (one, second, first) (append_assoc before (0 ∷ n ∷ opcode ∷ []) operands)

-- the end of a sequence, behind its last row
pub end-appended : (order : Endian) (size : ℕ) (before : LineRow) (last : ℕ) (out advanced ended : List ℕ) → advanced ≡ out ++ bytes_when (not (before.offset == last)) (2 ∷ uleb_bytes (last - before.offset)) → ended ≡ advanced ++ 0 ∷ 1 ∷ 1 ∷ []
    → ended ≡ out ++ program_bytes order size (rows_instructions before [] last)
end-appended order size before last out advanced ended first second =
    rw (second, first) (append_assoc out _ (0 ∷ 1 ∷ 1 ∷ []) ∙ ap (λ bs. out ++ bs) (sym (rows-bytes-end order size before last)))
