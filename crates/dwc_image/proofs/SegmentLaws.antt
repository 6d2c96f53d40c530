-- What is written of the steps of a line table are the images of its segments.
use Rattle.std.proofs.Common.{◌≡◌, ℕ, suc, ◌≤◌, refl, ap, ◌∙◌, sym, subst, arith, List, [], ◌∷◌, ◌++◌, map, length, pos, Option, Some, None}
use Rattle.std.specs.Prelude.{option_and_then, sum_by, All}
use Rattle.std.specs.List.{filter, filter_map, cons_option, AllZip}
use Rattle.std.proofs.lemmas.Bool.{lt-ltb}
use Rattle.std.proofs.lemmas.List.{append-nil, append_assoc, map-append}
use Rattle.std.proofs.lemmas.List.Elements.{All-head, All-tail}
use Rattle.dwc_base.specs.declared.records.Address.{Address}
use Rattle.dwc_base.specs.declared.records.Address.TheVariants.{Constant, Symbol}
use Rattle.dwc_base.specs.declared.records.LineRow.{LineRow}
use Rattle.dwc_dwarf.specs.LineRows.{LineStep, start as begin, row, end, LineTable, Row, Segment, named_row, rows_before, stop_behind, segment_if, with_segment, segments_among, segments}
use Rattle.dwc_native.specs.Functions.{Function, function_at, recorded_sources}
use Rattle.dwc_native.specs.Images.{is_carried_segment, IsImageOf}
use Rattle.dwc_output.specs.Widest.{widest_image, most_rows}
use Rattle.dwc_unit.specs.SpelledLines.{read_segment}
use Rattle.dwc_unit.specs.GivenLines.{GivenLines, no_lines}
use Rattle.dwc_unit.specs.GivenSegments.{given_segments}
use Rattle.dwc_image.specs.ImageRows.{image_rows, image_from, image_of, image_with_rows, image_if, move_row, moved_to, IsOrdered, RowsRise}
use Rattle.dwc_image.specs.ImageSequences.{RiseIf, AllRise, sequence_with_rows, sequence_in, sequence_at, sequence_if, sequences_from, with_sequences}
use Rattle.dwc_image.specs.CarriedLines.{CarriesTable, carried_steps, with_directories, with_files}
use Rattle.dwc_image.proofs.CarriedTables.{as_carried, carried-segments}
use Rattle.dwc_image.proofs.GivenSegments.{same-segments}
use Rattle.dwc_image.proofs.ImageLaws.{images-AllZip}
use Rattle.dwc_image.proofs.WidestImages.{images-widest, sequences-seen}
use Rattle.dwc_image.proofs.RisingRows.{RowsRise-seen}
use Rattle.dwc_image.proofs.RowsLaws.{rows_from-map, rows_from-none}

module _ (t : LineTable) where
  -- the segments of some steps, behind a start or none and rows so far
  abbrev pending : Option Address → List LineRow → List LineStep → List Segment
  pending None rows steps = segments_among t steps
  pending (Some a) rows steps = with_segment (segment_if a (map (named_row t) rows ++ rows_before t steps) (stop_behind steps)) (segments_among t steps)

  -- the segment that is closed by a step
  abbrev closed : Option Address → List LineRow → Option ℕ → Option Segment
  closed None rows stop = None
  closed (Some a) rows stop = segment_if a (map (named_row t) rows) (Some stop)

  pending-none : (start : Option Address) (rows : List LineRow) → pending start rows [] ≡ []
  pending-none None rows = refl
  pending-none (Some a) [] = refl
  pending-none (Some a) (r ∷ rs) = refl

  pending-row : (start : Option Address) (rows : List LineRow) (r : LineRow) (steps : List LineStep) → pending start rows (row r ∷ steps) ≡ pending start (rows ++ r ∷ []) steps
  pending-row None rows r steps = refl
  pending-row (Some a) rows r steps = ap (λ rs. with_segment (segment_if a rs (stop_behind steps)) (segments_among t steps)) (sym (append_assoc (map (named_row t) rows) (named_row t r ∷ []) (rows_before t steps)) ∙ ap (λ rs. rs ++ rows_before t steps) (sym (map-append (named_row t) rows (r ∷ []))))

  pending-begin : (start : Option Address) (rows : List LineRow) (a : Address) (steps : List LineStep) → pending start rows (begin a ∷ steps) ≡ with_segment (closed start rows None) (pending (Some a) [] steps)
  pending-begin None rows a steps = refl
  pending-begin (Some b) rows a steps = ap (λ rs. with_segment (segment_if b rs (Some None)) (pending (Some a) [] steps)) (append-nil (map (named_row t) rows))

  pending-end : (start : Option Address) (rows : List LineRow) (e : Option ℕ) (steps : List LineStep) → pending start rows (end e ∷ steps) ≡ with_segment (closed start rows e) (pending None [] steps)
  pending-end None rows e steps = refl
  pending-end (Some b) rows e steps = ap (λ rs. with_segment (segment_if b rs (Some e)) (pending None [] steps)) (append-nil (map (named_row t) rows))

  -- the rows of the segments do not fall
  closed-rise : (start : Option Address) (rows : List LineRow) (e : Option ℕ) (qs : List Segment) → All RowsRise (with_segment (closed start rows e) qs) → RiseIf start rows × All RowsRise qs
  closed-rise None rows e qs all = (tt, all)
  closed-rise (Some a) [] e qs all = (λ i j d le less. absurd (omega arith), all)
  closed-rise (Some a) (r ∷ rs) e qs all = (RowsRise-seen (named_row t) (r ∷ rs) _ refl (All-head RowsRise _ qs all), All-tail RowsRise _ qs all)

  all-rise : (steps : List LineStep) (start : Option Address) (rows : List LineRow) → All RowsRise (pending start rows steps) → AllRise start rows steps
  all-rise [] start rows all = tt
  all-rise (row r ∷ steps) start rows all = all-rise steps start (rows ++ r ∷ []) (rw pending-row at all)
  all-rise (begin a ∷ steps) start rows all =
      let h = closed-rise start rows None (pending (Some a) [] steps) (rw (pending-begin start rows a steps) at all) in
      (h.0, all-rise steps (Some a) [] h.1)
  all-rise (end e ∷ steps) start rows all =
      let h = closed-rise start rows e (pending None [] steps) (rw (pending-end start rows e steps) at all) in
      (h.0, all-rise steps None [] h.1)

  module _ (fs : List Function) where
    -- what is written of a closed segment is its image
    written-in : (rows : List LineRow) (a : ℕ) (e : Option ℕ) (o : Option Function) (images : List Segment) → map (read_segment t) (sequence_in rows a o) ++ images ≡ cons_option (option_and_then (λ f. image_with_rows (image_of (record { start = Constant a; rows = map (named_row t) rows; end = e }) a f)) o) images
    written-in rows a e None images = refl
    written-in rows a e (Some f) images = go (image_rows rows a None (recorded_sources f)) (image_from (map (named_row t) rows) a None (recorded_sources f)) (rows_from-map (λ r. r.offset) moved_to move_row (named_row t) (λ k r. refl) rows a (recorded_sources f) None)
      where
        go : (written : List LineRow) (image : List Row) → map (named_row t) written ≡ image
            → map (read_segment t) (sequence_with_rows (record { start_address = Symbol f.number (pos 0); rows = written; end_offset = f.length })) ++ images ≡ cons_option (image_with_rows (record { start = Symbol f.number (pos 0); rows = image; end = Some f.length })) images
        go [] image is = rw (← is) refl
        go (r ∷ rs) image is = rw (← is, lt-ltb 0 (suc (length rs)) (omega arith), lt-ltb 0 (suc (length (map (named_row t) rs))) (omega arith)) refl

    nothing-in : (a : ℕ) (o : Option Function) → sequence_in [] a o ≡ []
    nothing-in a None = refl
    nothing-in a (Some f) = rw (rows_from-none (λ r. r.offset) move_row a (recorded_sources f) None) refl

    nothing-at : (a : Address) → sequence_at fs a [] ≡ []
    nothing-at (Constant a) = nothing-in a (function_at fs a)
    nothing-at (Symbol n a) = refl

    written-closed : (start : Option Address) (rows : List LineRow) (e : Option ℕ) (qs : List Segment) → map (read_segment t) (sequence_if fs start rows) ++ filter_map (image_if fs) qs ≡ filter_map (image_if fs) (with_segment (closed start rows e) qs)
    written-closed None rows e qs = refl
    written-closed (Some a) [] e qs = rw (nothing-at a) refl
    written-closed (Some (Constant a)) (r ∷ rs) e qs = written-in (r ∷ rs) a e (function_at fs a) (filter_map (image_if fs) qs)
    written-closed (Some (Symbol n a)) (r ∷ rs) e qs = refl

    written : (steps : List LineStep) (start : Option Address) (rows : List LineRow) → map (read_segment t) (sequences_from fs start rows steps) ≡ filter_map (image_if fs) (pending start rows steps)
    written [] start rows = rw (pending-none start rows) refl
    written (row r ∷ steps) start rows = written steps start (rows ++ r ∷ []) ∙ ap (filter_map (image_if fs)) (sym (pending-row start rows r steps))
    written (begin a ∷ steps) start rows =
        map-append (read_segment t) (sequence_if fs start rows) (sequences_from fs (Some a) [] steps)
        ∙ ap (λ qs. map (read_segment t) (sequence_if fs start rows) ++ qs) (written steps (Some a) [])
        ∙ written-closed start rows None (pending (Some a) [] steps)
        ∙ ap (filter_map (image_if fs)) (sym (pending-begin start rows a steps))
    written (end e ∷ steps) start rows =
        map-append (read_segment t) (sequence_if fs start rows) (sequences_from fs None [] steps)
        ∙ ap (λ qs. map (read_segment t) (sequence_if fs start rows) ++ qs) (written steps None [])
        ∙ written-closed start rows e (pending None [] steps)
        ∙ ap (filter_map (image_if fs)) (sym (pending-end start rows e steps))

-- The rows of a table's segments do not fall, as its steps are walked with the files' numbers of version 4.
pub steps-rise : (t : LineTable) → All RowsRise (segments t) → AllRise None [] (carried_steps t)
steps-rise t all = all-rise (as_carried t) (carried_steps t) None [] (subst (All RowsRise) (sym (carried-segments t)) all)

-- What is written of a table's steps are images of its carried segments.
written-segments : (t : LineTable) (fs : List Function) → map (read_segment (as_carried t)) (sequences_from fs None [] (carried_steps t)) ≡ filter_map (image_if fs) (segments t)
written-segments t fs = written (as_carried t) fs (carried_steps t) None [] ∙ ap (filter_map (image_if fs)) (carried-segments t)

-- and they are no longer at their widest than those
sequences-widest : (t : LineTable) (fs : List Function) → sum_by (λ q. widest_image (length q.rows)) (sequences_from fs None [] (carried_steps t)) ≤ sum_by (λ q. widest_image (most_rows fs q)) (filter (is_carried_segment fs) (segments t))
sequences-widest t fs = rw (sequences-seen (as_carried t) (sequences_from fs None [] (carried_steps t)), written-segments t fs) (images-widest fs (segments t))

-- What is made of a table is what carries it.
pub carries-table : (t : LineTable) (fs : List Function) (size : ℕ) (a b c d : GivenLines) → All IsOrdered fs → a ≡ no_lines (Some size) → b ≡ with_directories t.header.directories a → c ≡ with_files t.files b → d ≡ with_sequences (sequences_from fs None [] (carried_steps t)) c → CarriesTable t fs size d
carries-table t fs size a b c d all new directories files images = rw (images, files, directories, new) (record { address_size = refl; directories = refl; files = refl; ended = refl; images = are; widest = omega (arith, sequences-widest t fs) })
  where
    lines : GivenLines
    lines = with_sequences (sequences_from fs None [] (carried_steps t)) (with_files t.files (with_directories t.header.directories (no_lines (Some size))))

    are : AllZip (IsImageOf fs) (filter (is_carried_segment fs) (segments t)) (given_segments lines)
    are = subst (AllZip (IsImageOf fs) (filter (is_carried_segment fs) (segments t))) (sym (written-segments t fs) ∙ same-segments t lines lines.sequences refl refl) (images-AllZip fs (segments t) all)
