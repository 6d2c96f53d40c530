-- Rows that are spelled are told as they were given (`front-told`, `end-told`), and so are a row more (`row-spelled`) and an end
-- behind them (`end-spelled`).
use Rattle.std.proofs.Common.{◌≡◌, ℕ, ◌<◌, ◌≤◌, ◌^◌, refl, sym, ap, subst, ◌∙◌, arith, lit<, List, [], ◌∷◌, ◌++◌, append_assoc, append-nil, map}
use Rattle.std.specs.List.{All, filter_map}
use Rattle.std.proofs.lemmas.Grind.{flat_map-append}
use Rattle.std.proofs.lemmas.List.Elements.{All-append, All-cons, All-head, All-nil, All-tail}
use Rattle.dwc_base.specs.declared.records.Endian.TheVariants.{Little}
use Rattle.dwc_base.specs.declared.faults.Flaw.{Flaw}
use Rattle.dwc_base.specs.declared.records.LineRow.{LineRow}
use Rattle.dwc_base.specs.Listing.{Listing}
use Rattle.dwc_dwarf.specs.LineHeaders.{Instruction}
use Rattle.dwc_dwarf.specs.LineRows.{Effect, appends, ends, at_sequence_start, effects}
use Rattle.dwc_unit.specs.GivenLines.{last_offset}
use Rattle.dwc_section.specs.SpelledAddresses.{IsHeld}
use Rattle.dwc_unit.specs.SpelledLines.{FitsRow, RowsRise, first_row, instruction_bytes, instruction_fields, program_bytes, program_fields, registers_at, registers_behind, row_instructions, rows_instructions}
use Rattle.dwc_unit.specs.ToldRows.{AreSpelled, AreSpelledToEnd, RowsToEnd, effects_told, end_shown, end_told, front_instructions, last_row, plain_header, row_shown, rows_to_end, rows_told}
use Rattle.dwc_unit.proofs.LineLaws.{rise-end, rise-push}
use Rattle.dwc_unit.proofs.ReadLines.{Fit, both-fit, row-fits, rows-fit}
use Rattle.dwc_unit.proofs.ReadProgram.{program-read}
use Rattle.dwc_unit.proofs.RowFields.{at_places-append, row-none, rows-none}
use Rattle.dwc_unit.proofs.ReadRows.{row-shows, rows-show}

-- ---- rows without an end

row-behind : (before : LineRow) (rows : List LineRow) (r : LineRow) → front_instructions before (rows ++ r ∷ []) ≡ front_instructions before rows ++ row_instructions (last_row before rows) r
row-behind before [] r = append-nil (row_instructions before r)
row-behind before (q ∷ rows) r =
    ap (λ is. row_instructions before q ++ is) (row-behind q rows r) ∙ sym (append_assoc (row_instructions before q) (front_instructions q rows) (row_instructions (last_row q rows) r))

end-behind : (before : LineRow) (rows : List LineRow) (end : ℕ) → rows_instructions before rows end ≡ front_instructions before rows ++ rows_instructions (last_row before rows) [] end
end-behind before [] end = refl
end-behind before (q ∷ rows) end =
    ap (λ is. row_instructions before q ++ is) (end-behind q rows end) ∙ sym (append_assoc (row_instructions before q) (front_instructions q rows) (rows_instructions (last_row q rows) [] end))

last-behind : (before : LineRow) (rows : List LineRow) (r : LineRow) → last_row before (rows ++ r ∷ []) ≡ r
last-behind before [] r = refl
last-behind before (q ∷ rows) r = last-behind q rows r

-- the last row's offset is the last offset
pub last-stands : (before : LineRow) (rows : List LineRow) → (last_row before rows).offset ≡ last_offset before.offset rows
last-stands before [] = refl
last-stands before (q ∷ rows) = last-stands q rows

front-fits : (rows : List LineRow) (before : LineRow) → before.line < 2 ^ 32 → All FitsRow rows → Fit 8 (front_instructions before rows)
front-fits [] before line fits = record { all = All-nil _; plain = refl }
front-fits (r ∷ rows) before line fits =
    let here = All-head FitsRow r rows fits in
    both-fit (row-fits 8 before r line here) (front-fits rows r here.line (All-tail FitsRow r rows fits))

front-none : (rows : List LineRow) (before : LineRow) (p : ℕ) → program_fields Little 8 p (front_instructions before rows) ≡ []
front-none [] before p = refl
front-none (r ∷ rows) before p =
    at_places-append (instruction_bytes Little 8) (instruction_fields Little 8) (row_instructions before r) (front_instructions r rows) p
    ∙ rw (row-none Little 8 before r p) (front-none rows r _)

front-shows : (rows : List LineRow) (before : LineRow) (high : ℕ) → RowsRise before.offset rows high
    → effects plain_header (registers_behind before) (front_instructions before rows) ≡ map (λ r. appends (registers_at r)) rows
front-shows [] before high rise = refl
front-shows (r ∷ rows) before high rise =
    (row-shows plain_header refl refl before r rise.0).shows (front_instructions r rows)
    ∙ ap (λ es. appends (registers_at r) ∷ es) (front-shows rows r high rise.1)

-- ---- what is told

-- the effects of instructions that are spelled and have no address
told : (is : List Instruction) → Fit 8 is → program_fields Little 8 0 is ≡ [] → effects_told (program_bytes Little 8 is) ≡ effects plain_header (registers_behind first_row) is
unfolding effects_told
told is fit none =
    ap (λ (l : Listing Flaw Instruction). effects plain_header (at_sequence_start plain_header) l.items) (program-read [] plain_header refl refl Little is 0 fit.all (rw (none) (All-nil (IsHeld []))))

rows-shown : (rows : List LineRow) (es : List Effect) → filter_map row_shown es ≡ [] → filter_map row_shown (map (λ r. appends (registers_at r)) rows ++ es) ≡ rows
rows-shown [] es none = none
rows-shown (r ∷ rows) es none = ap (λ rs. r ∷ rs) (rows-shown rows es none)

end-shown : (rows : List LineRow) (end : ℕ) → end_shown (map (λ r. appends (registers_at r)) rows ++ ends end ∷ []) ≡ end
end-shown [] end = refl
end-shown (r ∷ rows) end = end-shown rows end

pub front-told : (rows : List LineRow) (high : ℕ) → All FitsRow rows → RowsRise 0 rows high → rows_told (program_bytes Little 8 (front_instructions first_row rows)) ≡ rows
unfolding rows_told
front-told rows high fits rise =
    ap (filter_map row_shown) (told (front_instructions first_row rows) (front-fits rows first_row (lit< tt) fits) (front-none rows first_row 0) ∙ front-shows rows first_row high rise ∙ sym (append-nil _))
    ∙ rows-shown rows [] refl

pub end-told : (rows : List LineRow) (end : ℕ) → All FitsRow rows → RowsRise 0 rows end → end < 2 ^ 32 → rows_to_end (program_bytes Little 8 (rows_instructions first_row rows end)) ≡ record { rows = rows; end_offset = end }
unfolding rows_told end_told
end-told rows end fits rise small =
    let shown = told (rows_instructions first_row rows end) (rows-fit 8 rows first_row end (lit< tt) fits small) (rows-none Little 8 first_row rows end 0)
    ∙ ap (effects plain_header (registers_behind first_row)) (sym (append-nil (rows_instructions first_row rows end))) ∙ rows-show plain_header refl refl rows first_row end [] rise ∙ append-nil _ in
    ap (λ (es : List Effect). record { rows = filter_map row_shown es; end_offset = end_shown es }) shown
    ∙ ap (λ (rs : List LineRow). record { rows = rs; end_offset = end_shown (map (λ r. appends (registers_at r)) rows ++ ends end ∷ []) }) (rows-shown rows (ends end ∷ []) refl)
    ∙ ap (λ (n : ℕ). record { rows = rows; end_offset = n }) (end-shown rows end)

-- ---- a row more, and an end

-- no rows
pub none_told : (code : List ℕ) → code ≡ [] → rows_told code ≡ []
none_told code none = ap rows_told none ∙ front-told [] 0 (All-nil FitsRow) (omega arith)

pub none_spelled : (code : List ℕ) → code ≡ [] → AreSpelled code first_row
none_spelled code none =
    let told = none_told code none in
    record { spelled = rw (told) none; rows = rw (told) (All-nil FitsRow); rise = rw (told) (omega arith); end = rw (told) refl }

-- the last row that is spelled
pub last-offset : (code : List ℕ) (last : LineRow) → AreSpelled code last → last.offset ≡ last_offset 0 (rows_told code)
last-offset code last are = ap (λ (r : LineRow). r.offset) are.end ∙ last-stands first_row (rows_told code)

last-fits : (before : LineRow) (rows : List LineRow) → before.line < 2 ^ 32 → All FitsRow rows → (last_row before rows).line < 2 ^ 32
last-fits before [] line fits = line
last-fits before (r ∷ rows) line fits = last-fits r rows (All-head FitsRow r rows fits).line (All-tail FitsRow r rows fits)

pub last-line : (code : List ℕ) (last : LineRow) → AreSpelled code last → last.line < 2 ^ 32
last-line code last are = rw (are.end) (last-fits first_row (rows_told code) (lit< tt) are.rows)

-- bytes that spell rows, and the bytes of a row behind them
pub record SpelledOn (code : List ℕ) (r : LineRow) (now : List ℕ) : Type 0 where
  pub told : rows_told now ≡ rows_told code ++ r ∷ []
  pub spelled : AreSpelled now r

pub row-spelled : (code now : List ℕ) (last r : LineRow) → AreSpelled code last → FitsRow r → last_offset 0 (rows_told code) ≤ r.offset → now ≡ code ++ program_bytes Little 8 (row_instructions last r) → SpelledOn code r now
row-spelled code now last r are fits behind put =
    let rows = rows_told code in
    let all = rows ++ r ∷ [] in
    let whole : now ≡ program_bytes Little 8 (front_instructions first_row all) =
    put ∙ ap (λ q. code ++ program_bytes Little 8 (row_instructions q r)) are.end ∙ ap (λ bs. bs ++ program_bytes Little 8 (row_instructions (last_row first_row rows) r)) are.spelled
    ∙ sym (flat_map-append (instruction_bytes Little 8) (front_instructions first_row rows) (row_instructions (last_row first_row rows) r)) ∙ ap (program_bytes Little 8) (sym (row-behind first_row rows r)) in
    let fit : All FitsRow all = All-append FitsRow rows (r ∷ []) are.rows (All-cons FitsRow r [] fits (All-nil FitsRow)) in
    let rise : RowsRise 0 all r.offset = rise-push 0 rows r (subst (RowsRise 0 rows) (last-offset code last are) are.rise) behind in
    let told : rows_told now ≡ all = ap rows_told whole ∙ front-told all r.offset fit rise in
    record {
      told = told;
      spelled = record {
        spelled = whole ∙ ap (λ rs. program_bytes Little 8 (front_instructions first_row rs)) (sym told);
        rows = subst (All FitsRow) (sym told) fit;
        rise = subst (λ rs. RowsRise 0 rs r.offset) (sym told) rise;
        end = sym (ap (last_row first_row) told ∙ last-behind first_row rows r);
      };
    }

-- and the bytes of an end
pub record SpelledToEnd (code : List ℕ) (end : ℕ) (now : List ℕ) : Type 0 where
  pub told : rows_to_end now ≡ record { rows = rows_told code; end_offset = end }
  pub spelled : AreSpelledToEnd now

pub end-spelled : (code now : List ℕ) (last : LineRow) (end : ℕ) → AreSpelled code last → last_offset 0 (rows_told code) ≤ end → end < 2 ^ 32 → now ≡ code ++ program_bytes Little 8 (rows_instructions last [] end) → SpelledToEnd code end now
end-spelled code now last end are behind small put =
    let rows = rows_told code in
    let whole : now ≡ program_bytes Little 8 (rows_instructions first_row rows end) =
    put ∙ ap (λ q. code ++ program_bytes Little 8 (rows_instructions q [] end)) are.end ∙ ap (λ bs. bs ++ program_bytes Little 8 (rows_instructions (last_row first_row rows) [] end)) are.spelled
    ∙ sym (flat_map-append (instruction_bytes Little 8) (front_instructions first_row rows) (rows_instructions (last_row first_row rows) [] end)) ∙ ap (program_bytes Little 8) (sym (end-behind first_row rows end)) in
    let rise : RowsRise 0 rows end = rise-end 0 rows end (subst (RowsRise 0 rows) (last-offset code last are) are.rise) behind in
    let told : rows_to_end now ≡ record { rows = rows; end_offset = end } = ap rows_to_end whole ∙ end-told rows end are.rows rise small in
    record {
      told = told;
      spelled = whole ∙ ap (λ (t : RowsToEnd). program_bytes Little 8 (rows_instructions first_row t.rows t.end_offset)) (sym told);
    }
