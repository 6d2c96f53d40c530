-- What the steps of a table say of its segments: nothing of a table counts but its version, its directories, its
-- files and its steps.
use Rattle.std.proofs.Common.{◌≡◌, ℕ, refl, ap, ◌∙◌, List, [], ◌∷◌}
use Rattle.std.specs.Prelude.{nat_lt, if◌then◌else◌, option_and_then, slice_get}
use Rattle.dwc_base.specs.declared.records.LineRow.{LineRow}
use Rattle.dwc_dwarf.specs.LineRows.{LineTable, LineStep, start, row, end, in_directory, numbered, source_file, named_row, rows_before, stop_behind, segment_if, with_segment, segments_among, segments}

module _ (t u : LineTable) (version : t.header.version ≡ u.header.version) (directories : t.header.directories ≡ u.header.directories) (files : t.files ≡ u.files) where
  -- they name the same files
  source_file-same : (n : ℕ) → source_file t n ≡ source_file u n
  source_file-same n =
      ap (λ v. option_and_then (in_directory t.header.directories) (if nat_lt v 5 then numbered n t.files else slice_get t.files n)) version
      ∙ ap (λ ds. option_and_then (in_directory ds) (if nat_lt u.header.version 5 then numbered n t.files else slice_get t.files n)) directories
      ∙ ap (λ fs. option_and_then (in_directory u.header.directories) (if nat_lt u.header.version 5 then numbered n fs else slice_get fs n)) files

  -- and so have the same rows
  named_row-same : (r : LineRow) → named_row t r ≡ named_row u r
  named_row-same r = ap (λ file. record { offset = r.offset; source = record { file = file; line = r.line; column = r.column; is_stmt = r.is_stmt; basic_block = r.basic_block; prologue_end = r.prologue_end; epilogue_begin = r.epilogue_begin; isa = r.isa; discriminator = r.discriminator } }) (source_file-same r.file)

  -- and the same rows before a step of another kind
  rows_before-same : (steps : List LineStep) → rows_before t steps ≡ rows_before u steps
  rows_before-same [] = refl
  rows_before-same (row r ∷ steps) = ap (λ q. q ∷ rows_before t steps) (named_row-same r) ∙ ap (λ qs. named_row u r ∷ qs) (rows_before-same steps)
  rows_before-same (start a ∷ steps) = refl
  rows_before-same (end e ∷ steps) = refl

  -- and the same segments among the same steps
  segments_among-same : (steps : List LineStep) → segments_among t steps ≡ segments_among u steps
  segments_among-same [] = refl
  segments_among-same (start a ∷ steps) = ap (λ rows. with_segment (segment_if a rows (stop_behind steps)) (segments_among t steps)) (rows_before-same steps) ∙ ap (with_segment (segment_if a (rows_before u steps) (stop_behind steps))) (segments_among-same steps)
  segments_among-same (row r ∷ steps) = segments_among-same steps
  segments_among-same (end e ∷ steps) = segments_among-same steps

  -- Two tables of one version with the same directories and files, whose rows give the same steps, have the same segments.
  pub segments-by_steps : t.steps ≡ u.steps → segments t ≡ segments u
  segments-by_steps steps = segments_among-same t.steps ∙ ap (segments_among u) steps
