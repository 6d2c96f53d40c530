-- The images of worked line tables, each proved to be the image of its segment at every byte, and wrong ones refused.
use Rattle.std.proofs.Common.{◌≡◌, ℕ, zero, suc, ◌<◌, ◌≤◌, pos, List, [], ◌∷◌, Some, None, Ok, true, refl, ap, sym, arith, false, ◌∙◌, lit<, inl, inr}
use Rattle.std.specs.Prelude.{All, Bool, Option, length, nat_le, nat_lt, slice_index_or, ◌==◌, ◌&&◌, ◌||◌, ◌⊎◌}
use Rattle.std.specs.List.{filter, list_all, list_any, AllZip}
use Rattle.std.proofs.lemmas.Bool.{cases_lt, eq-eqb, leb-true, ltb-true, and_parts, false≢true}
use Rattle.std.proofs.lemmas.List.Elements.{All-nil, All-cons}
use Rattle.std.proofs.lemmas.List.Folds.{list_any-from_Any}
use Rattle.dwc_base.specs.declared.records.Address.TheVariants.{Constant, Symbol}
use Rattle.dwc_dwarf.specs.LineRows.{Segment, Row, RowContents, row_in_force}
use Rattle.dwc_native.specs.Functions.{Function, Recorded, recorded_sources}
use Rattle.dwc_native.specs.Images.{row_for_byte, row_of_source, row_of_first, StemsFrom, IsImage, IsImageOf, function_of_segment, start_of_segment, is_carried_segment}
use Rattle.dwc_rules.specs.Carried.{CarriedUnit}
use Rattle.dwc_dwarf.specs.ReadUnits.{segments_of_unit}
use Rattle.dwc_base.specs.ToldFiles.{bare_file}
use Rattle.dwc_carried.specs.LinesCarried.{AreImages}
use Rattle.dwc_native.specs.Compiled.{nothing_told}
use Rattle.dwc_worked.proofs.OnLiterals.{lines_on_literals}
use Rattle.dwc_worked.proofs.SmallModule.{abbreviations_small, info_small}
use Rattle.dwc_worked.proofs.Readings.{three_sections}
use Rattle.dwc_worked.proofs.LineTables.{at_line, line_in, function_small, line_unlinked, line_cut}
use Rattle.dwc_worked.proofs.CarriedSmall.{unit_small}

-- ---- two functions that agree below a number, by computation

abbrev pub table_below : {A : Type 0} → (ℕ → A) → ℕ → List A
table_below f zero = []
table_below f (suc n) = f n ∷ table_below f n

-- functions with one table agree below its length
pub agree-below : {A : Type 0} (f g : ℕ → A) (n : ℕ) → table_below f n ≡ table_below g n → (k : ℕ) → k < n → f k ≡ g k
agree-below f g zero e k h = absurd (omega arith)
agree-below {A} f g (suc n) e k h = go (cases_lt k n) (λ below. let tail : table_below f n ≡ table_below g n = cc in agree-below f g n tail k below)
  where
    go : (k < n) ⊎ (n ≤ k) → ((k < n) → f k ≡ g k) → f k ≡ g k
    go (inl below) earlier = earlier below
    go (inr above) earlier =
        let here : k ≡ n = omega arith in
        let head : f n ≡ g n = cc in
        rw here head

-- ---- images by their rows

-- what ends at byte 30 has no row past it
within_30 : (rows : List Row) → list_all (λ r. nat_le r.offset 30) rows ≡ true → All (λ r. r.offset ≤ 30) rows
within_30 [] h = All-nil (λ r. r.offset ≤ 30)
within_30 (r ∷ rs) h =
    let parts = and_parts (nat_le r.offset 30) (list_all (λ x. nat_le x.offset 30) rs) h in
    All-cons (λ x. x.offset ≤ 30) r rs (leb-true r.offset 30 parts.0) (within_30 rs parts.1)

-- a segment of the input from a start, and one of the output that covers the small module's function
abbrev pub segment : ℕ → List Row → Option ℕ → Segment
segment start rows end = record { start = Constant start; rows = rows; end = end }

abbrev pub image : List Row → Segment
image rows = record { start = Symbol 0 (pos 0); rows = rows; end = Some 30 }

-- what the rows of an image say at its thirty bytes, and what the input says of them
abbrev pub said : List Row → List (Option RowContents)
said rows = table_below (row_in_force rows) 30

abbrev pub wanted : ℕ → List Row → List (Option RowContents)
wanted start rows = table_below (row_for_byte rows start function_small) 30

-- each of some rows stems from the sources of the small module's function
abbrev pub EachStems : ℕ → List Row → List Row → Type 0
EachStems start rows [] = Unit {0}
EachStems start rows (r ∷ rs) = StemsFrom rows start (recorded_sources function_small) r × EachStems start rows rs

stems_each : (start : ℕ) (rows written : List Row) → EachStems start rows written → All (StemsFrom rows start (recorded_sources function_small)) written
stems_each start rows [] each = All-nil (StemsFrom rows start (recorded_sources function_small))
stems_each start rows (r ∷ rs) each = All-cons (StemsFrom rows start (recorded_sources function_small)) r rs each.0 (stems_each start rows rs each.1)

-- its second source, and a row of that
abbrev second_source : Recorded
second_source = record { native = 15; wasm = 10 }

stems_second : (start : ℕ) (rows : List Row) (r : Row) → r.offset ≡ 15 → row_of_source rows start second_source ≡ Some r.source → StemsFrom rows start (recorded_sources function_small) r
stems_second start rows r there is = inl (1, second_source, lit< tt, refl, (there, is))

-- rows that say what is wanted, and stem from the sources, are an image
pub image-by_table : (start : ℕ) (rows : List Row) (end : Option ℕ) (written : List Row) → said written ≡ wanted start rows → list_all (λ r. nat_le r.offset 30) written ≡ true → EachStems start rows written → IsImage (segment start rows end) start function_small (image written)
image-by_table start rows end written same within each = record { starts = refl; ends = refl; within = within_30 written within; stems = stems_each start rows written each; agrees = agree-below (row_in_force written) (row_for_byte rows start function_small) 30 same }

-- rows that say another line at a byte are none
pub not_image-at : (byte : ℕ) (start : ℕ) (rows : List Row) (end : Option ℕ) (written : List Row) → nat_lt byte 30 ≡ true → (line_in (row_in_force written byte) ≡ line_in (row_for_byte rows start function_small byte) → ⊥) → IsImage (segment start rows end) start function_small (image written) → ⊥
not_image-at byte start rows end written inside differ h = differ (ap line_in (h.agrees byte (ltb-true byte 30 inside)))

-- whether a row stands at an offset and has the line of an input row
abbrev stands_for : Row → ℕ → Option RowContents → Bool
stands_for r offset o = (r.offset == offset) && (line_in o == line_in (Some r.source))

-- whether it has a line that it may have where it stands
abbrev may_stand : ℕ → List Row → Function → Row → Bool
may_stand start rows f r = list_any (λ e. stands_for r e.native (row_of_source rows start e)) (recorded_sources f) || stands_for r 0 (row_of_first rows start (recorded_sources f))

stands-for : (r : Row) (offset : ℕ) (o : Option RowContents) → r.offset ≡ offset → o ≡ Some r.source → stands_for r offset o ≡ true
stands-for r offset o there is = rw (eq-eqb r.offset offset there, eq-eqb (line_in o) (line_in (Some r.source)) (ap line_in is)) refl

stems-may_stand : (start : ℕ) (rows : List Row) (f : Function) (r : Row) → StemsFrom rows start (recorded_sources f) r → may_stand start rows f r ≡ true
stems-may_stand start rows f r (inl (k, e, within, is, (there, says))) =
    let some = list_any-from_Any (λ x. stands_for r x.native (row_of_source rows start x)) (recorded_sources f) (k, e, within, is, stands-for r e.native (row_of_source rows start e) there says) in
    rw some refl
stems-may_stand start rows f r (inr (there, says)) = rw (stands-for r 0 (row_of_first rows start (recorded_sources f)) there says) (or_true (list_any (λ e. stands_for r e.native (row_of_source rows start e)) (recorded_sources f)))
  where
    or_true : (b : Bool) → (b || true) ≡ true
    or_true true = refl
    or_true false = refl

-- rows of which one may not stand where it does are no image
not_image-row : (k start : ℕ) (f : Function) (q written : Segment) → nat_lt k (length written.rows) ≡ true → may_stand start q.rows f (slice_index_or written.rows k (at_line 0 0)) ≡ false → IsImage q start f written → ⊥
not_image-row k start f q written inside not h = false≢true (sym not ∙ stems-may_stand start q.rows f (slice_index_or written.rows k (at_line 0 0)) (h.stems k (at_line 0 0) (ltb-true k (length written.rows) inside)))

-- ---- several rows at one offset: the image has the last of them at byte 0, and from the second source on the third line

abbrev pub rows_same_offset : List Row
rows_same_offset = at_line 0 1 ∷ at_line 3 2 ∷ at_line 3 5 ∷ at_line 8 3 ∷ []

same_offset : IsImage (segment 2 rows_same_offset (Some 11)) 2 function_small (image (at_line 0 5 ∷ at_line 15 3 ∷ []))
same_offset = image-by_table 2 rows_same_offset (Some 11) (at_line 0 5 ∷ at_line 15 3 ∷ []) refl refl (inr (refl, refl), (stems_second 2 rows_same_offset (at_line 15 3) refl refl, tt))

-- the first of them taken in place of the last
first_of_equals : IsImage (segment 2 rows_same_offset (Some 11)) 2 function_small (image (at_line 0 2 ∷ at_line 15 3 ∷ [])) → ⊥
first_of_equals = not_image-at 0 2 rows_same_offset (Some 11) (at_line 0 2 ∷ at_line 15 3 ∷ []) refl (λ e. omega (arith, e))

-- no row before the first source
no_row_before_first : IsImage (segment 2 rows_same_offset (Some 11)) 2 function_small (image (at_line 5 5 ∷ at_line 15 3 ∷ [])) → ⊥
no_row_before_first = not_image-at 0 2 rows_same_offset (Some 11) (at_line 5 5 ∷ at_line 15 3 ∷ []) refl (λ e. omega (arith, e))

-- the offsets of the wasm taken as native ones
wasm_offsets : IsImage (segment 2 rows_same_offset (Some 11)) 2 function_small (image rows_same_offset) → ⊥
wasm_offsets = not_image-at 0 2 rows_same_offset (Some 11) rows_same_offset refl (λ e. omega (arith, e))

-- an image that ends one byte early
ends_early : IsImage (segment 2 rows_same_offset (Some 11)) 2 function_small (record { start = Symbol 0 (pos 0); rows = at_line 0 5 ∷ at_line 15 3 ∷ []; end = Some 29 }) → ⊥
ends_early h = let same : ◌≡◌ {A = Option ℕ} (Some 29) (Some 30) = h.ends in cc

-- one that begins in another function, one that begins past the function's start, and one that begins at a number
other_function : IsImage (segment 2 rows_same_offset (Some 11)) 2 function_small (record (image (at_line 0 5 ∷ at_line 15 3 ∷ [])) { start = Symbol 1 (pos 0) }) → ⊥
other_function h = let same : Symbol 1 (pos 0) ≡ Symbol 0 (pos 0) = h.starts in cc

past_start : IsImage (segment 2 rows_same_offset (Some 11)) 2 function_small (record (image (at_line 0 5 ∷ at_line 15 3 ∷ [])) { start = Symbol 0 (pos 1) }) → ⊥
past_start h = let same : Symbol 0 (pos 1) ≡ Symbol 0 (pos 0) = h.starts in cc

at_number : IsImage (segment 2 rows_same_offset (Some 11)) 2 function_small (record (image (at_line 0 5 ∷ at_line 15 3 ∷ [])) { start = Constant 0 }) → ⊥
at_number h = let same : Constant 0 ≡ Symbol 0 (pos 0) = h.starts in cc

-- one with a row past its end
row_past_end : IsImage (segment 2 rows_same_offset (Some 11)) 2 function_small (image (at_line 0 5 ∷ at_line 15 3 ∷ at_line 31 7 ∷ [])) → ⊥
row_past_end h = let past : 31 ≤ 30 = h.within 2 (at_line 0 0) (lit< tt) in omega (arith, past)

-- ---- a row more, which is in force at no byte or says what is in force there already

-- one in front of the right one at the same offset, one that stands where the function ends, and the second source's row where the function begins
in_front : IsImage (segment 2 rows_same_offset (Some 11)) 2 function_small (image (at_line 0 5 ∷ at_line 15 7 ∷ at_line 15 3 ∷ [])) → ⊥
in_front = not_image-row 1 2 function_small (segment 2 rows_same_offset (Some 11)) (image (at_line 0 5 ∷ at_line 15 7 ∷ at_line 15 3 ∷ [])) refl refl

at_its_end : IsImage (segment 2 rows_same_offset (Some 11)) 2 function_small (image (at_line 0 5 ∷ at_line 15 3 ∷ at_line 30 3 ∷ [])) → ⊥
at_its_end = not_image-row 2 2 function_small (segment 2 rows_same_offset (Some 11)) (image (at_line 0 5 ∷ at_line 15 3 ∷ at_line 30 3 ∷ [])) refl refl

second_at_begin : IsImage (segment 2 rows_same_offset (Some 11)) 2 function_small (image (at_line 0 3 ∷ at_line 0 5 ∷ at_line 15 3 ∷ [])) → ⊥
second_at_begin = not_image-row 0 2 function_small (segment 2 rows_same_offset (Some 11)) (image (at_line 0 3 ∷ at_line 0 5 ∷ at_line 15 3 ∷ [])) refl refl

-- one that stands at no source, with the line that is in force there
at_no_source : IsImage (segment 2 rows_same_offset (Some 11)) 2 function_small (image (at_line 0 5 ∷ at_line 10 5 ∷ at_line 15 3 ∷ [])) → ⊥
at_no_source = not_image-row 1 2 function_small (segment 2 rows_same_offset (Some 11)) (image (at_line 0 5 ∷ at_line 10 5 ∷ at_line 15 3 ∷ [])) refl refl

-- a function without bytes, of which no byte says what its image has
abbrev no_bytes : Function
no_bytes = record function_small { length = 0; entries = (0, Some 5) ∷ [] }

without_bytes : IsImage (segment 2 rows_same_offset (Some 11)) 2 no_bytes (record { start = Symbol 0 (pos 0); rows = at_line 0 7 ∷ []; end = Some 0 }) → ⊥
without_bytes = not_image-row 0 2 no_bytes (segment 2 rows_same_offset (Some 11)) (record { start = Symbol 0 (pos 0); rows = at_line 0 7 ∷ []; end = Some 0 }) refl refl

-- ---- a source below the segment's start has no row: the next one's holds from byte 0 on

below_start : IsImage (segment 6 (at_line 0 9 ∷ []) (Some 7)) 6 function_small (image (at_line 0 9 ∷ []))
below_start = image-by_table 6 (at_line 0 9 ∷ []) (Some 7) (at_line 0 9 ∷ []) refl refl (inr (refl, refl), tt)

-- ---- whole units: which segments are carried, and their images one to one and in order

-- the small unit with another line table
abbrev pub with_lines : List ℕ → CarriedUnit
with_lines lines = record { module_of = record { sections = three_sections abbreviations_small info_small lines; functions = function_small ∷ []; told = nothing_told; file = bare_file 20; compressed = None; version = 4 }; unit = unit_small }

-- the carried segments among known ones, and images of them
abbrev pub Zipped : List Segment → List Segment → Type 0
Zipped known images = AllZip (IsImageOf (function_small ∷ [])) (filter (is_carried_segment (function_small ∷ [])) known) images

-- images of the unit are images of the carried segments that were read
images_of : (lines : List ℕ) (known images : List Segment) → segments_of_unit (with_lines lines).module_of.sections unit_small ≡ Ok known → AreImages (with_lines lines) images → Zipped known images
images_of lines known images read h = let same : h.input ≡ known = cc in rw same at h.each

-- a start at 2 beside one at 0xFFFFFFFF: only the first is carried
abbrev pub line_beside_unlinked : List ℕ
line_beside_unlinked = 0x45 ∷ 0x00 ∷ 0x00 ∷ 0x00 ∷ 0x04 ∷ 0x00 ∷ 0x1B ∷ 0x00 ∷ 0x00 ∷ 0x00 ∷ 0x01 ∷ 0x01 ∷ 0x01 ∷ 0xFB ∷ 0x0E ∷ 0x0D ∷ 0x00 ∷ 0x01 ∷ 0x01 ∷ 0x01 ∷ 0x01 ∷ 0x00 ∷ 0x00 ∷ 0x00 ∷ 0x01 ∷ 0x00 ∷ 0x00 ∷ 0x01 ∷ 0x00 ∷ 0x61 ∷ 0x2E ∷ 0x63 ∷ 0x00 ∷ 0x00 ∷ 0x00 ∷ 0x00 ∷ 0x00 ∷ 0x00 ∷ 0x05 ∷ 0x02 ∷ 0x02 ∷ 0x00 ∷ 0x00 ∷ 0x00 ∷ 0x01 ∷ 0x02 ∷ 0x03 ∷ 0x03 ∷ 0x01 ∷ 0x01 ∷ 0x02 ∷ 0x05 ∷ 0x03 ∷ 0x01 ∷ 0x01 ∷ 0x02 ∷ 0x03 ∷ 0x00 ∷ 0x01 ∷ 0x01 ∷ 0x00 ∷ 0x05 ∷ 0x02 ∷ 0xFF ∷ 0xFF ∷ 0xFF ∷ 0xFF ∷ 0x01 ∷ 0x02 ∷ 0x05 ∷ 0x00 ∷ 0x01 ∷ 0x01 ∷ []

abbrev pub segments_beside_unlinked : List Segment
segments_beside_unlinked = segment 2 (at_line 0 1 ∷ at_line 3 2 ∷ at_line 8 3 ∷ []) (Some 11) ∷ segment 0xFFFFFFFF (at_line 0 1 ∷ []) (Some 5) ∷ []

abbrev pub image_of_small : Segment
image_of_small = image (at_line 0 2 ∷ at_line 15 3 ∷ [])

image_of_small-is : IsImage (segment 2 (at_line 0 1 ∷ at_line 3 2 ∷ at_line 8 3 ∷ []) (Some 11)) 2 function_small image_of_small
image_of_small-is = image-by_table 2 (at_line 0 1 ∷ at_line 3 2 ∷ at_line 8 3 ∷ []) (Some 11) (at_line 0 2 ∷ at_line 15 3 ∷ []) refl refl (inr (refl, refl), (stems_second 2 (at_line 0 1 ∷ at_line 3 2 ∷ at_line 8 3 ∷ []) (at_line 15 3) refl refl, tt))

read-beside_unlinked : segments_of_unit (with_lines line_beside_unlinked).module_of.sections unit_small ≡ Ok segments_beside_unlinked
unfolding lines_on_literals
read-beside_unlinked = refl

images-beside_unlinked : AreImages (with_lines line_beside_unlinked) (image_of_small ∷ [])
images-beside_unlinked = record { input = segments_beside_unlinked; input_read = read-beside_unlinked; each = ((function_small, refl, image_of_small-is), tt) }

-- no sequence at all, and one sequence too many
no_sequences : AreImages (with_lines line_beside_unlinked) [] → ⊥
no_sequences h = images_of line_beside_unlinked segments_beside_unlinked [] read-beside_unlinked h

unlinked_carried : (more : Segment) → AreImages (with_lines line_beside_unlinked) (image_of_small ∷ more ∷ []) → ⊥
unlinked_carried more h = (images_of line_beside_unlinked segments_beside_unlinked (image_of_small ∷ more ∷ []) read-beside_unlinked h).1

-- sequences at 0 and at 0xFFFFFFFF alone: the unit has no images
abbrev pub segments_unlinked : List Segment
segments_unlinked = segment 0 (at_line 0 1 ∷ []) (Some 5) ∷ segment 0xFFFFFFFF (at_line 0 1 ∷ []) (Some 5) ∷ []

read-unlinked : segments_of_unit (with_lines line_unlinked).module_of.sections unit_small ≡ Ok segments_unlinked
unfolding lines_on_literals
read-unlinked = refl

images-unlinked : AreImages (with_lines line_unlinked) []
images-unlinked = record { input = segments_unlinked; input_read = read-unlinked; each = tt }

-- two `set_address` in one sequence: two segments, and an image of the whole function for each
abbrev pub segments_cut : List Segment
segments_cut = segment 2 (at_line 0 1 ∷ []) None ∷ segment 7 (at_line 0 4 ∷ []) (Some 3) ∷ []

read-cut : segments_of_unit (with_lines line_cut).module_of.sections unit_small ≡ Ok segments_cut
unfolding lines_on_literals
read-cut = refl

first-cut : IsImage (segment 2 (at_line 0 1 ∷ []) None) 2 function_small (image (at_line 0 1 ∷ []))
first-cut = image-by_table 2 (at_line 0 1 ∷ []) None (at_line 0 1 ∷ []) refl refl (inr (refl, refl), tt)

second-cut : IsImage (segment 7 (at_line 0 4 ∷ []) (Some 3)) 7 function_small (image (at_line 0 4 ∷ []))
second-cut = image-by_table 7 (at_line 0 4 ∷ []) (Some 3) (at_line 0 4 ∷ []) refl refl (inr (refl, refl), tt)

images-cut : AreImages (with_lines line_cut) (image (at_line 0 1 ∷ []) ∷ image (at_line 0 4 ∷ []) ∷ [])
images-cut = record { input = segments_cut; input_read = read-cut; each = ((function_small, refl, first-cut), ((function_small, refl, second-cut), tt)) }

-- the two merged into one
merged : (one : Segment) → AreImages (with_lines line_cut) (one ∷ []) → ⊥
merged one h = (images_of line_cut segments_cut (one ∷ []) read-cut h).1

-- an image of a segment is one in the function that its start is in
pub image_in : (q written : Segment) → function_of_segment (function_small ∷ []) q ≡ Some function_small → IsImageOf (function_small ∷ []) q written → IsImage q (start_of_segment q) function_small written
image_in q written known h =
    let found : function_of_segment (function_small ∷ []) q ≡ Some h.0 = h.1 in
    let same : h.0 ≡ function_small = cc in
    rw same at h.2

-- the two in the other order
swapped : AreImages (with_lines line_cut) (image (at_line 0 4 ∷ []) ∷ image (at_line 0 1 ∷ []) ∷ []) → ⊥
swapped h =
    let zipped = images_of line_cut segments_cut (image (at_line 0 4 ∷ []) ∷ image (at_line 0 1 ∷ []) ∷ []) read-cut h in
    not_image-at 0 2 (at_line 0 1 ∷ []) None (at_line 0 4 ∷ []) refl (λ e. omega (arith, e)) (image_in (segment 2 (at_line 0 1 ∷ []) None) (image (at_line 0 4 ∷ [])) refl zipped.0)
