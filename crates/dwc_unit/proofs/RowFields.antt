-- The instructions of rows have no field that a linker changes.
use Rattle.std.proofs.Common.{◌≡◌, ℕ, ◌+◌, refl, sym, ap, ◌∙◌, arith, List, [], ◌∷◌, ◌++◌, append_assoc, length, length-append, Bool, true, false}
use Rattle.std.specs.Prelude.{◌==◌, not}
use Rattle.std.specs.List.{flat_map}
use Rattle.dwc_base.specs.declared.records.Endian.{Endian}
use Rattle.dwc_base.specs.declared.records.LineRow.{LineRow}
use Rattle.dwc_dwarf.specs.LineHeaders.{Instruction, copy, advance_pc, advance_line, set_file, set_column, negate_stmt, set_basic_block, set_prologue_end, set_epilogue_begin, set_isa, end_sequence, set_discriminator}
use Rattle.dwc_section.specs.Spelled.{at_places}
use Rattle.dwc_unit.specs.SpelledLines.{instruction_bytes, instruction_fields, program_fields, when, differs, row_instructions, rows_instructions}

-- instructions without an address have no field
pub at_places-append : {A B : Type 0} (spell : A → List ℕ) (at : ℕ → A → List B) (xs ys : List A) (place : ℕ) → at_places spell at place (xs ++ ys) ≡ at_places spell at place xs ++ at_places spell at (place + length (flat_map spell xs)) ys
at_places-append spell at [] ys place = ap (λ p. at_places spell at p ys) (omega arith)
at_places-append spell at (x ∷ xs) ys place =
    ap (λ bs. at place x ++ bs) (at_places-append spell at xs ys (place + length (spell x)))
    ∙ sym (append_assoc (at place x) _ _)
    ∙ ap (λ p. (at place x ++ at_places spell at (place + length (spell x)) xs) ++ at_places spell at p ys) (omega (arith, length-append (spell x) (flat_map spell xs)))

when-none : (order : Endian) (size : ℕ) (b : Bool) (i : Instruction) (is : List Instruction) → ((p : ℕ) → instruction_fields order size p i ≡ []) → ((p : ℕ) → program_fields order size p is ≡ []) → (p : ℕ) → program_fields order size p (when b i ++ is) ≡ []
when-none order size true i is quiet others p = rw (quiet p) (others (p + length (instruction_bytes order size i)))
when-none order size false i is quiet others p = others p

pub row-none : (order : Endian) (size : ℕ) (before r : LineRow) (p : ℕ) → program_fields order size p (row_instructions before r) ≡ []
row-none order size before r =
    when-none order size (not (r.discriminator == 0)) (set_discriminator r.discriminator) _ (λ p. refl)
    (when-none order size r.basic_block set_basic_block _ (λ p. refl)
    (when-none order size r.prologue_end set_prologue_end _ (λ p. refl)
    (when-none order size r.epilogue_begin set_epilogue_begin _ (λ p. refl)
    (when-none order size (differs before.is_stmt r.is_stmt) negate_stmt _ (λ p. refl)
    (when-none order size (not (before.file == r.file)) (set_file r.file) _ (λ p. refl)
    (when-none order size (not (before.column == r.column)) (set_column r.column) _ (λ p. refl)
    (when-none order size (not (before.isa == r.isa)) (set_isa r.isa) _ (λ p. refl)
    (when-none order size (not (before.line == r.line)) (advance_line _) _ (λ p. refl)
    (when-none order size (not (before.offset == r.offset)) (advance_pc _) (copy ∷ []) (λ p. refl) (λ p. refl))))))))))

pub rows-none : (order : Endian) (size : ℕ) (before : LineRow) (rows : List LineRow) (last p : ℕ) → program_fields order size p (rows_instructions before rows last) ≡ []
rows-none order size before [] last p = when-none order size (not (before.offset == last)) (advance_pc _) (end_sequence ∷ []) (λ q. refl) (λ q. refl) p
rows-none order size before (r ∷ rows) last p =
    at_places-append (instruction_bytes order size) (instruction_fields order size) (row_instructions before r) (rows_instructions r rows last) p
    ∙ rw (row-none order size before r p) (rows-none order size r rows last _)
