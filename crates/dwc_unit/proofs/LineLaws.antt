-- What a line program owes when a row is appended or a sequence is ended.
use Rattle.std.proofs.Common.{◌≡◌, ℕ, ◌≤◌, refl, arith, List, [], ◌∷◌, ◌++◌, Option, Some, None, option_map}
use Rattle.std.proofs.lemmas.List.Elements.{All-append, All-cons, All-nil}
use Rattle.dwc_base.specs.declared.records.Address.{Address}
use Rattle.dwc_base.specs.declared.records.Address.TheVariants.{Constant, Symbol}
use Rattle.dwc_base.specs.declared.records.LineRow.{LineRow}
use Rattle.dwc_dwarf.specs.LineHeaders.{LineFile}
use Rattle.dwc_section.specs.SpelledAddresses.{FitsAddress}
use Rattle.dwc_unit.specs.SpelledLines.{WrittenSequence, FitsRow, RowsRise}
use Rattle.dwc_section.specs.Writers.{FitsField}
use Rattle.dwc_unit.specs.GivenLines.{BegunSequence, GivenLines, last_offset, row_behind, ended_at, IsAtOrBehind, CanAppend, HasRow, CanEnd, FitsGivenSequence, FitsSequences, FitsLines, with_row, with_end}

-- what fits a field fits as an address
pub field-address : (size : ℕ) (a : Address) → FitsField size a → FitsAddress size a
field-address size (Constant n) fits = fits
field-address size (Symbol symbol addend) fits = tt

-- a row behind others
last-offset-push : (low : ℕ) (rows : List LineRow) (r : LineRow) → last_offset low (rows ++ r ∷ []) ≡ r.offset
last-offset-push low [] r = refl
last-offset-push low (q ∷ rows) r = last-offset-push q.offset rows r

pub rise-push : (low : ℕ) (rows : List LineRow) (r : LineRow) → RowsRise low rows (last_offset low rows) → last_offset low rows ≤ r.offset → RowsRise low (rows ++ r ∷ []) r.offset
rise-push low [] r rise behind = (behind, omega arith)
rise-push low (q ∷ rows) r rise behind = (rise.0, rise-push q.offset rows r rise.1 behind)

-- an end behind the last row
pub rise-end : (low : ℕ) (rows : List LineRow) (last : ℕ) → RowsRise low rows (last_offset low rows) → last_offset low rows ≤ last → RowsRise low rows last
rise-end low [] last rise behind = behind
rise-end low (q ∷ rows) last rise behind = (rise.0, rise-end q.offset rows last rise.1 behind)

pub with_row-fits : (g : GivenLines) (r : LineRow) → FitsLines g → CanAppend g r → FitsRow r → FitsLines (with_row r g)
with_row-fits g r fits can row_fits = record { directories = fits.directories; files = fits.files; sequences = go g.address_size g.begun fits.sequences can.behind }
  where
    go : (size : Option ℕ) (q : Option BegunSequence) → FitsSequences size g.sequences q → IsAtOrBehind r.offset q → FitsSequences size g.sequences (row_behind r q)
    go None None h behind = h
    go None (Some q) h behind = absurd (cc)
    go (Some size) None h behind = absurd behind
    go (Some size) (Some q) h behind =
        let rows = q.rows ++ r ∷ [] in
        let rise : RowsRise 0 rows (last_offset 0 rows) = rw (last-offset-push 0 q.rows r) (rise-push 0 q.rows r h.1.2 behind) in
        (h.0, (h.1.0, All-append FitsRow q.rows (r ∷ []) h.1.1 (All-cons FitsRow r [] row_fits (All-nil FitsRow)), rise))

pub with_end-fits : (g : GivenLines) (offset : ℕ) → FitsLines g → CanEnd g offset → FitsLines (with_end offset g)
with_end-fits g offset fits can = record { directories = fits.directories; files = fits.files; sequences = go g.address_size g.begun fits.sequences can.some can.behind }
  where
    go : (size : Option ℕ) (q : Option BegunSequence) → FitsSequences size g.sequences q → HasRow q → IsAtOrBehind offset q → FitsSequences size (g.sequences ++ ended_at offset q) None
    go None None h some behind = absurd some
    go None (Some q) h some behind = absurd (cc)
    go (Some size) None h some behind = absurd some
    go (Some size) (Some q) h some behind =
        let ended : WrittenSequence = record { start_address = q.start_address; rows = q.rows; end_offset = offset } in
        let fit : FitsGivenSequence size ended = record { field = h.1.0; sequence = record { begin = field-address size q.start_address h.1.0; some = some; rows = h.1.1; rise = rise-end 0 q.rows offset h.1.2 behind; last = can.last } } in
        (All-append (FitsGivenSequence size) g.sequences (ended ∷ []) h.0 (All-cons (FitsGivenSequence size) ended [] fit (All-nil (FitsGivenSequence size))), tt)

-- the same of the fields that a program keeps: the start of the sequence that is begun, and its rows
abbrev pub begun_from : Option Address → List LineRow → Option BegunSequence
begun_from start rows = option_map (λ a. record { start_address = a; rows = rows }) start

-- what is at or behind the sequence that is begun, is so behind its rows
pub behind-rows : (start : Option Address) (rows : List LineRow) (offset : ℕ) → IsAtOrBehind offset (begun_from start rows) → last_offset 0 rows ≤ offset
behind-rows None rows offset behind = absurd behind
behind-rows (Some a) rows offset behind = behind

row-behind-from : (start : Option Address) (rows : List LineRow) (r : LineRow) → row_behind r (begun_from start rows) ≡ begun_from start (rows ++ r ∷ [])
row-behind-from None rows r = refl
row-behind-from (Some a) rows r = refl

pub row-kept : (size : Option ℕ) (ds : List (List ℕ)) (fs : List LineFile) (qs : List WrittenSequence) (start : Option Address) (rows now : List LineRow) (r : LineRow) → now ≡ rows ++ r ∷ []
    → FitsLines (record { address_size = size; directories = ds; files = fs; sequences = qs; begun = begun_from start rows }) → CanAppend (record { address_size = size; directories = ds; files = fs; sequences = qs; begun = begun_from start rows }) r → FitsRow r
    → FitsLines (record { address_size = size; directories = ds; files = fs; sequences = qs; begun = begun_from start now })
row-kept size ds fs qs start rows now r pushed fits can row_fits =
    rw (pushed, ← row-behind-from start rows r) (with_row-fits _ r fits can row_fits)

pub end-kept : (size : Option ℕ) (ds : List (List ℕ)) (fs : List LineFile) (qs now : List WrittenSequence) (start : Option Address) (a : Address) (rows : List LineRow) (offset : ℕ) → start ≡ Some a → now ≡ qs ++ record { start_address = a; rows = rows; end_offset = offset } ∷ []
    → FitsLines (record { address_size = size; directories = ds; files = fs; sequences = qs; begun = begun_from start rows }) → CanEnd (record { address_size = size; directories = ds; files = fs; sequences = qs; begun = begun_from start rows }) offset
    → FitsLines (record { address_size = size; directories = ds; files = fs; sequences = now; begun = None })
end-kept size ds fs qs now start a rows offset is pushed fits can =
    rw pushed (with_end-fits (record { address_size = size; directories = ds; files = fs; sequences = qs; begun = begun_from (Some a) rows }) offset (rw (is) at fits) (rw (is) at can))
