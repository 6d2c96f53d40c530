-- The rows of a segment of a table that was read do not fall in offset.
use Rattle.std.proofs.Common.{◌≡◌, ℕ, ap, arith, List, [], ◌∷◌, map, Option, Some, None}
use Rattle.std.specs.List.{list_all}
use Rattle.std.specs.List.Sorted.{IsNonDecreasingBy}
use Rattle.std.specs.Prelude.{Bool, true, false, All, Result, Ok, Err}
use Rattle.std.proofs.lemmas.List.Elements.{All-nil, All-cons}
use Rattle.dwc_base.specs.declared.records.Address.{Address}
use Rattle.dwc_base.specs.declared.faults.Flaw.{Flaw}
use Rattle.dwc_base.specs.declared.faults.Flaw.TheVariants.{Malformed}
use Rattle.dwc_base.specs.declared.section_name.SectionName.TheVariants.{Line}
use Rattle.dwc_base.specs.declared.faults.What.TheVariants.{LineTable as LineTableRead}
use Rattle.dwc_dwarf.specs.LineHeaders.{LineHeader, line_source, line_header_at, Instruction, special, copy, advance_pc, advance_line, set_file, set_column, negate_stmt, set_basic_block, const_add_pc, fixed_advance_pc, set_prologue_end, set_epilogue_begin, set_isa, end_sequence, set_address, define_file, set_discriminator, unknown, instructions}
use Rattle.dwc_dwarf.specs.LineRows.{Row, Segment, Registers, LineTable, at_sequence_start, after_row, by_special, after, effects, is_in_range, step_of, rows_before, segment_if, with_segment, segments_among, segments, table_of, checked_table, line_table_at, line_table}
use Rattle.dwc_base.specs.Listing.{Listing}
use Rattle.dwc_base.specs.Reading.{Unread, ◌>>=◌}
use Rattle.dwc_base.specs.Sections.{Sections, section_from, reported}
use Rattle.dwc_image.specs.ImageRows.{RisesFrom, RowsRise}
use Rattle.dwc_addr.proofs.RisingLaws.{RisesFrom-weaker, RisesFrom-non_decreasing, RisesFrom-seen}

-- The rows of a segment of a table that was read stand in the order of their offsets.
rows_before-rise : (t : LineTable) (h : LineHeader) (is : List Instruction) (r : Registers) → RisesFrom (λ q. q.offset) r.offset (rows_before t (map step_of (effects h r is)))
rows_before-rise t h [] r = tt
rows_before-rise t h (special n ∷ is) r = (omega arith, rows_before-rise t h is (after_row (by_special h n r)))
rows_before-rise t h (copy ∷ is) r = (omega arith, rows_before-rise t h is (after_row r))
rows_before-rise t h (advance_pc n ∷ is) r = RisesFrom-weaker _ _ _ _ (omega arith) (rows_before-rise t h is (after h (advance_pc n) r))
rows_before-rise t h (advance_line n ∷ is) r = rows_before-rise t h is (after h (advance_line n) r)
rows_before-rise t h (set_file n ∷ is) r = rows_before-rise t h is (after h (set_file n) r)
rows_before-rise t h (set_column n ∷ is) r = rows_before-rise t h is (after h (set_column n) r)
rows_before-rise t h (negate_stmt ∷ is) r = rows_before-rise t h is (after h negate_stmt r)
rows_before-rise t h (set_basic_block ∷ is) r = rows_before-rise t h is (after h set_basic_block r)
rows_before-rise t h (const_add_pc ∷ is) r = RisesFrom-weaker _ _ _ _ (omega arith) (rows_before-rise t h is (after h const_add_pc r))
rows_before-rise t h (fixed_advance_pc n ∷ is) r = RisesFrom-weaker _ _ _ _ (omega arith) (rows_before-rise t h is (after h (fixed_advance_pc n) r))
rows_before-rise t h (set_prologue_end ∷ is) r = rows_before-rise t h is (after h set_prologue_end r)
rows_before-rise t h (set_epilogue_begin ∷ is) r = rows_before-rise t h is (after h set_epilogue_begin r)
rows_before-rise t h (set_isa n ∷ is) r = rows_before-rise t h is (after h (set_isa n) r)
rows_before-rise t h (end_sequence ∷ is) r = tt
rows_before-rise t h (set_address a ∷ is) r = tt
rows_before-rise t h (define_file f ∷ is) r = rows_before-rise t h is r
rows_before-rise t h (set_discriminator n ∷ is) r = rows_before-rise t h is (after h (set_discriminator n) r)
rows_before-rise t h (unknown ∷ is) r = rows_before-rise t h is r

-- what a search by halves asks, of rows that are seen as those of a segment
pub RowsRise-seen : {Y : Type 0} (f : Y → Row) (ys : List Y) (q : Segment) → q.rows ≡ map f ys → RowsRise q → IsNonDecreasingBy (λ y. (f y).offset) ys
RowsRise-seen f ys q same h = RisesFrom-non_decreasing (λ y. (f y).offset) 0 ys (RisesFrom-seen (λ (r : Row). r.offset) f 0 ys (rw (← same) h.rise))

with_segment-rise : (a : Address) (rows : List Row) (stop : Option (Option ℕ)) (qs : List Segment) → RisesFrom (λ r. r.offset) 0 rows → All RowsRise qs → All RowsRise (with_segment (segment_if a rows stop) qs)
with_segment-rise a [] stop qs h more = more
with_segment-rise a (r ∷ rs) None qs h more = more
with_segment-rise a (r ∷ rs) (Some e) qs h more = All-cons RowsRise _ _ (record { rise = h }) more

segments_among-rise : (t : LineTable) (h : LineHeader) (is : List Instruction) (r : Registers) → All RowsRise (segments_among t (map step_of (effects h r is)))
segments_among-rise t h [] r = All-nil RowsRise
segments_among-rise t h (set_address a ∷ is) r = with_segment-rise a _ _ _ (rows_before-rise t h is (after h (set_address a) r)) (segments_among-rise t h is (after h (set_address a) r))
segments_among-rise t h (special n ∷ is) r = segments_among-rise t h is (after h (special n) r)
segments_among-rise t h (copy ∷ is) r = segments_among-rise t h is (after h copy r)
segments_among-rise t h (advance_pc n ∷ is) r = segments_among-rise t h is (after h (advance_pc n) r)
segments_among-rise t h (advance_line n ∷ is) r = segments_among-rise t h is (after h (advance_line n) r)
segments_among-rise t h (set_file n ∷ is) r = segments_among-rise t h is (after h (set_file n) r)
segments_among-rise t h (set_column n ∷ is) r = segments_among-rise t h is (after h (set_column n) r)
segments_among-rise t h (negate_stmt ∷ is) r = segments_among-rise t h is (after h negate_stmt r)
segments_among-rise t h (set_basic_block ∷ is) r = segments_among-rise t h is (after h set_basic_block r)
segments_among-rise t h (const_add_pc ∷ is) r = segments_among-rise t h is (after h const_add_pc r)
segments_among-rise t h (fixed_advance_pc n ∷ is) r = segments_among-rise t h is (after h (fixed_advance_pc n) r)
segments_among-rise t h (set_prologue_end ∷ is) r = segments_among-rise t h is (after h set_prologue_end r)
segments_among-rise t h (set_epilogue_begin ∷ is) r = segments_among-rise t h is (after h set_epilogue_begin r)
segments_among-rise t h (set_isa n ∷ is) r = segments_among-rise t h is (after h (set_isa n) r)
segments_among-rise t h (end_sequence ∷ is) r = segments_among-rise t h is (after h end_sequence r)
segments_among-rise t h (define_file f ∷ is) r = segments_among-rise t h is r
segments_among-rise t h (set_discriminator n ∷ is) r = segments_among-rise t h is (after h (set_discriminator n) r)
segments_among-rise t h (unknown ∷ is) r = segments_among-rise t h is r

pub segments-rise : (h : LineHeader) (is : List Instruction) → All RowsRise (segments (table_of h is))
segments-rise h is = segments_among-rise (table_of h is) h is (at_sequence_start h)

checked_table-rise : (h : LineHeader) (program : Listing Flaw Instruction) (t : LineTable) → checked_table h program ≡ Ok t → All RowsRise (segments t)
checked_table-rise h program t = go program.fault (list_all is_in_range (effects h (at_sequence_start h) program.items))
  where
    go : (a : Option Flaw) (b : Bool) → ◌≡◌ {A = Result LineTable Flaw} (elim a [ Some flaw ↦ Err flaw | None ↦ elim b [ true ↦ Ok (table_of h program.items) | false ↦ Err Malformed ] ]) (Ok t) → All RowsRise (segments t)
    go (Some flaw) b e = absurd (cc)
    go None false e = absurd (cc)
    go None true e = let same : table_of h program.items ≡ t = cc in rw (← same) (segments-rise h program.items)

line_table_at-rise : (s : Sections) (size base : ℕ) (u : Unread) (t : LineTable) → line_table_at s size base u ≡ Ok t → All RowsRise (segments t)
unfolding line_table_at
line_table_at-rise s size base u t = go (line_header_at (line_source s base) size u)
  where
    go : (r : Result LineHeader Flaw) → (r >>= λ h. checked_table h (instructions (s.relocations Line) h h.program)) ≡ Ok t → All RowsRise (segments t)
    go (Err flaw) e = absurd (cc)
    go (Ok h) e = checked_table-rise h (instructions (s.relocations Line) h h.program) t e

pub line_table-rise : (s : Sections) (size base offset : ℕ) (t : LineTable) → line_table s size base offset ≡ Ok t → All RowsRise (segments t)
unfolding line_table
line_table-rise s size base offset t = go (line_table_at s size base (section_from s Line offset)) (line_table_at-rise s size base (section_from s Line offset) t)
  where
    go : (r : Result LineTable Flaw) → (r ≡ Ok t → All RowsRise (segments t)) → reported LineTableRead Line offset r ≡ Ok t → All RowsRise (segments t)
    go (Err flaw) h e = absurd (cc)
    go (Ok x) h e = h (let same : x ≡ t = cc in ap Ok same)
