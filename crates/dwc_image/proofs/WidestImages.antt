-- The images of a line table are no longer at their widest than those of its carried segments.
use Rattle.std.proofs.Common.{◌≡◌, ℕ, suc, ◌≤◌, refl, ap, sym, ◌∙◌, arith, List, [], ◌∷◌, map, length, Bool, true, false, cond, Option, Some, None, nat_lt}
use Rattle.std.specs.Prelude.{sum_by, is_some, option_map, if◌then◌else◌}
use Rattle.std.specs.Option.{option_and_then}
use Rattle.std.specs.List.{filter, filter_map, list_any, cons_option}
use Rattle.std.proofs.lemmas.List.{length-map}
use Rattle.std.proofs.lemmas.List.Sums.{sum_by-cons}
use Rattle.dwc_native.specs.Functions.{Function, Recorded, recorded_sources}
use Rattle.dwc_dwarf.specs.LineRows.{LineTable, Row, Segment, named_row}
use Rattle.dwc_native.specs.Images.{row_of_source, function_of_segment, start_of_segment, is_carried_segment}
use Rattle.dwc_output.specs.Widest.{widest_image, most_rows}
use Rattle.dwc_unit.specs.SpelledLines.{WrittenSequence, read_segment}
use Rattle.dwc_image.specs.ImageRows.{found_at, is_repeated, placed_at, with_found, rows_from, moved_to, image_from, image_of, image_with_rows, image_if}
use Rattle.dwc_image.proofs.ImageLaws.{found_row, row_of_source-found, image_from-empty}

-- an image has at most a row for each recorded source that finds one
rows_from-length : {R : Type 0} (n : R → ℕ) (move : ℕ → R → R) (rows : List R) (start : ℕ) (es : List Recorded) (found : Option ℕ) → length (rows_from n move rows start found es) ≤ length (filter (λ e. is_some (found_at n rows start e)) es)
rows_from-length n move rows start [] found = omega arith
rows_from-length {R} n move rows start (e ∷ es) found = go (found_at n rows start e) (λ b. rows_from-length n move rows start es b)
  where
    go : (o : Option R) → ((b : Option ℕ) → length (rows_from n move rows start b es) ≤ length (filter (λ x. is_some (found_at n rows start x)) es))
        → length (with_found n move (λ b. rows_from n move rows start b es) found e.native o) ≤ length (cond {A = List Recorded} (is_some o) (e ∷ filter (λ x. is_some (found_at n rows start x)) es) (filter (λ x. is_some (found_at n rows start x)) es))
    go None more = more found
    go (Some r) more = inner (is_repeated found (n r))
      where
        inner : (b : Bool) → length (if b then rows_from n move rows start found es else move (placed_at found e.native) r ∷ rows_from n move rows start (Some (n r)) es) ≤ suc (length (filter (λ x. is_some (found_at n rows start x)) es))
        inner true = omega (arith, more found)
        inner false = omega (arith, more (Some (n r)))

some-seen : {A B : Type 0} (f : A → B) (o : Option A) → is_some o ≡ is_some (option_map f o)
some-seen f None = refl
some-seen f (Some x) = refl

-- the recorded sources that have a row of a segment
abbrev sources_with_rows : Segment → Function → List Recorded
sources_with_rows q f = filter (λ e. is_some (row_of_source q.rows (start_of_segment q) e)) (recorded_sources f)

image-length : (q : Segment) (f : Function) → length (image_from q.rows (start_of_segment q) None (recorded_sources f)) ≤ length (sources_with_rows q f)
image-length q f =
    let short = rows_from-length (λ (r : Row). r.offset) moved_to q.rows (start_of_segment q) (recorded_sources f) None in
    let same : filter (λ e. is_some (found_row q.rows (start_of_segment q) e)) (recorded_sources f) ≡ sources_with_rows q f =
    ap (λ (p : Recorded → Bool). filter p (recorded_sources f)) (λ i. λ e. (some-seen (λ r. r.source) (found_row q.rows (start_of_segment q) e) ∙ ap (λ o. is_some o) (sym (row_of_source-found q.rows (start_of_segment q) e))) i) in
    rw (← same) short

most-rows : (fs : List Function) (q : Segment) (f : Function) → function_of_segment fs q ≡ Some f → most_rows fs q ≡ length (sources_with_rows q f)
most-rows fs q f is = rw is refl

-- the widest sizes of some images, and of some segments
abbrev images_size : List Segment → ℕ
images_size images = sum_by (λ i. widest_image (length i.rows)) images

abbrev segments_size : List Function → List Segment → ℕ
segments_size fs qs = sum_by (λ q. widest_image (most_rows fs q)) qs

-- The images of some segments are no longer at their widest than those of the carried ones.
pub images-widest : (fs : List Function) (qs : List Segment) → sum_by (λ i. widest_image (length i.rows)) (filter_map (image_if fs) qs) ≤ sum_by (λ q. widest_image (most_rows fs q)) (filter (is_carried_segment fs) qs)
images-widest fs [] = omega arith
images-widest fs (q ∷ qs) = go (function_of_segment fs q) refl (images-widest fs qs)
  where
    inner : (f : Function) (b c : Bool) → function_of_segment fs q ≡ Some f → b ≡ c
        → images_size (filter_map (image_if fs) qs) ≤ segments_size fs (filter (is_carried_segment fs) qs)
        → images_size (cons_option (if c then Some (image_of q (start_of_segment q) f) else None) (filter_map (image_if fs) qs)) ≤ segments_size fs (if b then q ∷ filter (is_carried_segment fs) qs else filter (is_carried_segment fs) qs)
    inner f true true is same more =
        rw (sum_by-cons (λ (i : Segment). widest_image (length i.rows)) (image_of q (start_of_segment q) f) (filter_map (image_if fs) qs), sum_by-cons (λ (s : Segment). widest_image (most_rows fs s)) q (filter (is_carried_segment fs) qs))
        (omega (arith, more, image-length q f, most-rows fs q f is))
    inner f false false is same more = more
    inner f true false is same more = absurd (cc)
    inner f false true is same more = absurd (cc)

    go : (o : Option Function) → function_of_segment fs q ≡ o
        → images_size (filter_map (image_if fs) qs) ≤ segments_size fs (filter (is_carried_segment fs) qs)
        → images_size (cons_option (option_and_then (λ f. image_with_rows (image_of q (start_of_segment q) f)) o) (filter_map (image_if fs) qs))
        ≤ segments_size fs (if (elim o [ None ↦ false | Some f ↦ list_any (λ e. is_some (row_of_source q.rows (start_of_segment q) e)) (recorded_sources f) ]) then q ∷ filter (is_carried_segment fs) qs else filter (is_carried_segment fs) qs)
    go None is more = more
    go (Some f) is more = inner f (list_any (λ e. is_some (row_of_source q.rows (start_of_segment q) e)) (recorded_sources f)) (nat_lt 0 (length (image_from q.rows (start_of_segment q) None (recorded_sources f)))) is (sym (image_from-empty q.rows (start_of_segment q) (recorded_sources f))) more

-- sequences, as they are seen with their files by name
pub sequences-seen : (t : LineTable) (qs : List WrittenSequence) → sum_by (λ q. widest_image (length q.rows)) qs ≡ sum_by (λ i. widest_image (length i.rows)) (map (read_segment t) qs)
sequences-seen t [] = refl
sequences-seen t (q ∷ qs) =
    rw (sum_by-cons (λ (s : WrittenSequence). widest_image (length s.rows)) q qs, sum_by-cons (λ (i : Segment). widest_image (length i.rows)) (read_segment t q) (map (read_segment t) qs), length-map q.rows (named_row t), sequences-seen t qs) refl
