-- The sequences of a line program as segments, where its directories and files are those of a table, and its rows number files
-- as in version 4.
use Rattle.std.proofs.Common.{◌≡◌, ℕ, zero, suc, List, [], ◌∷◌, map, refl}
use Rattle.dwc_base.specs.declared.records.LineRow.{LineRow}
use Rattle.dwc_dwarf.specs.LineRows.{LineTable, named_row, source_file}
use Rattle.dwc_unit.specs.SpelledLines.{WrittenSequence, read_segment}
use Rattle.dwc_unit.specs.GivenLines.{GivenLines}
use Rattle.dwc_image.proofs.CarriedTables.{as_carried}
use Rattle.dwc_unit.specs.GivenSegments.{given_file, given_row, given_segment}

same-file : (t : LineTable) (g : GivenLines) (n : ℕ) → g.directories ≡ t.header.directories → g.files ≡ t.files → source_file (as_carried t) n ≡ given_file g n
same-file t g zero ds fs = refl
same-file t g (suc n) ds fs = rw (ds, fs) refl

same-row : (t : LineTable) (g : GivenLines) (r : LineRow) → g.directories ≡ t.header.directories → g.files ≡ t.files → named_row (as_carried t) r ≡ given_row g r
same-row t g r ds fs = rw (same-file t g r.file ds fs) refl

same-rows : (t : LineTable) (g : GivenLines) (rs : List LineRow) → g.directories ≡ t.header.directories → g.files ≡ t.files → map (named_row (as_carried t)) rs ≡ map (given_row g) rs
same-rows t g [] ds fs = refl
same-rows t g (r ∷ rs) ds fs = rw (same-row t g r ds fs, same-rows t g rs ds fs) refl

pub same-segments : (t : LineTable) (g : GivenLines) (qs : List WrittenSequence) → g.directories ≡ t.header.directories → g.files ≡ t.files → map (read_segment (as_carried t)) qs ≡ map (given_segment g) qs
same-segments t g [] ds fs = refl
same-segments t g (q ∷ qs) ds fs = rw (same-rows t g q.rows ds fs, same-segments t g qs ds fs) refl
