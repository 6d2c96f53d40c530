-- A line table as one of version 4 has the same segments.
use Rattle.std.proofs.Common.{◌≡◌, ℕ, refl, List, [], ◌∷◌, map, Bool, true, false}
use Rattle.std.specs.Prelude.{nat_lt, suc, if◌then◌else◌, slice_get}
use Rattle.dwc_base.specs.declared.records.LineRow.{LineRow}
use Rattle.dwc_dwarf.specs.LineRows.{LineTable, LineStep, start, row, end, numbered, file_numbered, named_row, rows_before, stop_behind, segments_among, segments}
use Rattle.dwc_image.specs.CarriedLines.{carried_number, carried_row, carried_step, carried_steps}

-- a table as one of version 4
abbrev pub as_carried : LineTable → LineTable
as_carried t = record { header = record t.header { version = 4 }; files = t.files; steps = carried_steps t }

same-number : (t : LineTable) (n : ℕ) → file_numbered (as_carried t) (carried_number t.header.version n) ≡ file_numbered t n
same-number t n = go (nat_lt t.header.version 5)
  where
    go : (early : Bool) → numbered (if early then n else suc n) t.files ≡ (if early then numbered n t.files else slice_get t.files n)
    go true = refl
    go false = refl

module _ (t : LineTable) where
  same-row : (r : LineRow) → named_row (as_carried t) (carried_row t.header.version r) ≡ named_row t r
  same-row r = rw (same-number t r.file) refl

  same-rows : (steps : List LineStep) → rows_before (as_carried t) (map (carried_step t.header.version) steps) ≡ rows_before t steps
  same-rows [] = refl
  same-rows (row r ∷ steps) = rw (same-row r, same-rows steps) refl
  same-rows (start a ∷ steps) = refl
  same-rows (end e ∷ steps) = refl

  same-stop : (steps : List LineStep) → stop_behind (map (carried_step t.header.version) steps) ≡ stop_behind steps
  same-stop [] = refl
  same-stop (row r ∷ steps) = same-stop steps
  same-stop (start a ∷ steps) = refl
  same-stop (end e ∷ steps) = refl

  same-among : (steps : List LineStep) → segments_among (as_carried t) (map (carried_step t.header.version) steps) ≡ segments_among t steps
  same-among [] = refl
  same-among (row r ∷ steps) = same-among steps
  same-among (start a ∷ steps) = rw (same-rows steps, same-stop steps, same-among steps) refl
  same-among (end e ∷ steps) = same-among steps

pub carried-segments : (t : LineTable) → segments (as_carried t) ≡ segments t
carried-segments t = same-among t t.steps
