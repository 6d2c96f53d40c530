-- The rows of an image make an image: at each byte of the function the row in force is the input row for that byte.
use Rattle.std.proofs.Common.{◌≡◌, ℕ, suc, ◌-◌, ◌<◌, ◌≤◌, refl, ap, ◌∙◌, sym, arith, inl, inr, List, [], ◌∷◌, map, length, Option, Some, None}
use Rattle.std.specs.List.{filter_map, list_any, cons_option, filter, AllZip}
use Rattle.std.specs.Option.{option_or}
use Rattle.std.specs.Prelude.{nat_le, nat_lt, ◌==◌, if◌then◌else◌, option_map, option_and_then, Bool, true, false, is_some, All, Any, pos, ◌||◌}
use Rattle.std.proofs.lemmas.Bool.{eq-eqb, ne_eqb, eqb-true, lt-leb, le-leb, leb-false, lt-ltb}
use Rattle.std.proofs.lemmas.List.Elements.{All-cons, All-nil, All-weaker}
use Rattle.dwc_base.specs.declared.records.Address.{Address}
use Rattle.dwc_base.specs.declared.records.Address.TheVariants.{Constant, Symbol}
use Rattle.dwc_native.specs.Functions.{Function, Recorded, recorded_sources}
use Rattle.dwc_native.specs.Images.{row_of_source, row_of_last, row_of_first, StemsFrom, IsImage, IsImageOf, function_of_segment, start_of_segment, is_carried_segment}
use Rattle.dwc_dwarf.specs.LineRows.{Row, RowContents, Segment, row_in_force}
use Rattle.dwc_addr.proofs.OwnerLaws.{function_at-among}
use Rattle.dwc_image.specs.ImageRows.{last_at, RisesFrom, found_at, moved_to, with_found, image_from, image_of, image_with_rows, image_if, IsOrdered}
use Rattle.dwc_image.proofs.LookupLaws.{last_at-same, row_in_force-last_at}
use Rattle.dwc_image.proofs.RowsLaws.{rows_from-within}

-- the row itself that is in force at a recorded source
abbrev pub found_row : List Row → ℕ → Recorded → Option Row
found_row rows start e = found_at (λ r. r.offset) rows start e

-- what a recorded source adds to an image
abbrev with_row : (Option ℕ → List Row) → Option ℕ → ℕ → Option Row → List Row
with_row rest found native o = with_found (λ r. r.offset) moved_to rest found native o

pub row_of_source-found : (rows : List Row) (start : ℕ) (e : Recorded) → row_of_source rows start e ≡ option_map (λ r. r.source) (found_row rows start e)
row_of_source-found rows start e = rw (row_in_force-last_at rows (e.wasm - start)) (go (nat_le start e.wasm))
  where
    go : (b : Bool) → (if b then option_map (λ r. r.source) (last_at (λ q. q.offset) rows (e.wasm - start)) else None) ≡ option_map (λ r. r.source) (if b then last_at (λ q. q.offset) rows (e.wasm - start) else None)
    go true = refl
    go false = refl

pub found_row-looked_up : (rows : List Row) (start : ℕ) (e : Recorded) (r : Row) → found_row rows start e ≡ Some r → last_at (λ q. q.offset) rows (e.wasm - start) ≡ Some r
found_row-looked_up rows start e r = go (nat_le start e.wasm)
  where
    go : (b : Bool) → (if b then last_at (λ q. q.offset) rows (e.wasm - start) else None) ≡ Some r → last_at (λ q. q.offset) rows (e.wasm - start) ≡ Some r
    go true h = h
    go false h = absurd (cc)

module _ (rows : List Row) (start : ℕ) where
  -- The steps of a loop over the recorded sources: no row is found, the row repeats, the first row, and another one.
  pub image_from-passes : (found : Option ℕ) (e : Recorded) (es : List Recorded) → found_row rows start e ≡ None → image_from rows start found (e ∷ es) ≡ image_from rows start found es
  image_from-passes found e es h = rw h refl

  pub image_from-repeats : (b : ℕ) (e : Recorded) (es : List Recorded) (r : Row) → found_row rows start e ≡ Some r → b ≡ r.offset → image_from rows start (Some b) (e ∷ es) ≡ image_from rows start (Some b) es
  image_from-repeats b e es r h same = rw (h, eq-eqb b r.offset same) refl

  pub image_from-first : (e : Recorded) (es : List Recorded) (r : Row) → found_row rows start e ≡ Some r → image_from rows start None (e ∷ es) ≡ moved_to 0 r ∷ image_from rows start (Some r.offset) es
  image_from-first e es r h = rw h refl

  pub image_from-next : (b : ℕ) (e : Recorded) (es : List Recorded) (r : Row) → found_row rows start e ≡ Some r → (b ≡ r.offset → ⊥) → image_from rows start (Some b) (e ∷ es) ≡ moved_to e.native r ∷ image_from rows start (Some r.offset) es
  image_from-next b e es r h other = rw (h, ne_eqb b r.offset other) refl

  -- before the first recorded source nothing is in force
  row_of_last-early : (es : List Recorded) (low byte : ℕ) → RisesFrom (λ e. e.native) low es → byte < low → row_of_last rows start es byte ≡ None
  row_of_last-early [] low byte h less = refl
  row_of_last-early (e ∷ es) low byte h less =
      let past : byte < e.native = omega (arith, h.0) in
      rw (row_of_last-early es e.native byte h.1 past, lt-leb e.native byte past) refl

  image_from-early : (es : List Recorded) (low byte offset : ℕ) → RisesFrom (λ e. e.native) low es → byte < low → row_in_force (image_from rows start (Some offset) es) byte ≡ None
  image_from-early [] low byte offset h less = refl
  image_from-early (e ∷ es) low byte offset h less = go (found_row rows start e) (λ b. image_from-early es e.native byte b h.1 past)
    where
      past : byte < e.native
      past = omega (arith, h.0)

      go : (o : Option Row) → ((b : ℕ) → row_in_force (image_from rows start (Some b) es) byte ≡ None) → row_in_force (with_row (λ b. image_from rows start b es) (Some offset) e.native o) byte ≡ None
      go None more = more offset
      go (Some r) more = inner (offset == r.offset)
        where
          inner : (b : Bool) → row_in_force (if b then image_from rows start (Some offset) es else moved_to e.native r ∷ image_from rows start (Some r.offset) es) byte ≡ None
          inner true = more offset
          inner false = rw (more r.offset, lt-leb e.native byte past) refl

  -- behind a row that was found, the image and the recorded sources give the same
  image_from-behind : (es : List Recorded) (low byte p : ℕ) (r : Row) → RisesFrom (λ e. e.native) low es → last_at (λ q. q.offset) rows p ≡ Some r → option_or (row_in_force (image_from rows start (Some r.offset) es) byte) (Some r.source) ≡ option_or (row_of_last rows start es byte) (Some r.source)
  image_from-behind [] low byte p r h found = refl
  image_from-behind (e ∷ es) low byte p r h found =
      rw (row_of_source-found rows start e) (go (found_row rows start e) (nat_le e.native byte) refl refl (λ q b f. image_from-behind es e.native byte q b h.1 f))
    where
      nothing_more : (a : Option RowContents) (t : Bool) (x : RowContents) → option_or a (Some x) ≡ option_or (option_or a (if t then None else None)) (Some x)
      nothing_more None true x = refl
      nothing_more None false x = refl
      nothing_more (Some y) t x = refl

      the_same : (a : Option RowContents) (t : Bool) (x : RowContents) → option_or a (Some x) ≡ option_or (option_or a (if t then Some x else None)) (Some x)
      the_same None true x = refl
      the_same None false x = refl
      the_same (Some y) t x = refl

      go : (o : Option Row) (t : Bool) → found_row rows start e ≡ o → nat_le e.native byte ≡ t
          → ((q : ℕ) (b : Row) → last_at (λ z. z.offset) rows q ≡ Some b → option_or (row_in_force (image_from rows start (Some b.offset) es) byte) (Some b.source) ≡ option_or (row_of_last rows start es byte) (Some b.source))
          → option_or (row_in_force (with_row (λ b. image_from rows start b es) (Some r.offset) e.native o) byte) (Some r.source) ≡ option_or (option_or (row_of_last rows start es byte) (if nat_le e.native byte then option_map (λ z. z.source) o else None)) (Some r.source)
      go None t is et more = more p r found ∙ nothing_more (row_of_last rows start es byte) (nat_le e.native byte) r.source
      go (Some new) t is et more = inner (r.offset == new.offset) t refl et
        where
          here : last_at (λ z. z.offset) rows (e.wasm - start) ≡ Some new
          here = found_row-looked_up rows start e new is

          inner : (same t : Bool) → (r.offset == new.offset) ≡ same → nat_le e.native byte ≡ t
              → option_or (row_in_force (if same then image_from rows start (Some r.offset) es else moved_to e.native new ∷ image_from rows start (Some new.offset) es) byte) (Some r.source) ≡ option_or (option_or (row_of_last rows start es byte) (if nat_le e.native byte then Some new.source else None)) (Some r.source)
          inner true t same et =
              let one : r ≡ new = last_at-same (λ z. z.offset) rows p (e.wasm - start) r new found here (eqb-true r.offset new.offset same) in
              rw (← one) (more p r found ∙ the_same (row_of_last rows start es byte) (nat_le e.native byte) r.source)
          inner false true same et = rw et (ap (λ a. option_or a (Some r.source)) (more (e.wasm - start) new here))
          inner false false same et =
              let early : byte < e.native = leb-false e.native byte et in
              rw (et, image_from-early es e.native byte new.offset h.1 early, row_of_last-early es e.native byte h.1 early) refl

  -- the image's row in force at a byte is the input row for it
  pub image_from-agrees : (es : List Recorded) (low byte : ℕ) → RisesFrom (λ e. e.native) low es → row_in_force (image_from rows start None es) byte ≡ option_or (row_of_last rows start es byte) (row_of_first rows start es)
  image_from-agrees [] low byte h = refl
  image_from-agrees (e ∷ es) low byte h = rw (row_of_source-found rows start e) (go (found_row rows start e) refl (image_from-agrees es e.native byte h.1))
    where
      nothing_more : (a b : Option RowContents) (t : Bool) → option_or a b ≡ option_or (option_or a (if t then None else None)) b
      nothing_more None b true = refl
      nothing_more None b false = refl
      nothing_more (Some y) b t = refl

      the_same : (a b : Option RowContents) (t : Bool) (x : RowContents) → option_or a (Some x) ≡ option_or (option_or a (if t then Some x else None)) (option_or (Some x) b)
      the_same None b true x = refl
      the_same None b false x = refl
      the_same (Some y) b t x = refl

      go : (o : Option Row) → found_row rows start e ≡ o
          → row_in_force (image_from rows start None es) byte ≡ option_or (row_of_last rows start es byte) (row_of_first rows start es)
          → row_in_force (with_row (λ b. image_from rows start b es) None e.native o) byte ≡ option_or (option_or (row_of_last rows start es byte) (if nat_le e.native byte then option_map (λ z. z.source) o else None)) (option_or (option_map (λ z. z.source) o) (row_of_first rows start es))
      go None is more = more ∙ nothing_more (row_of_last rows start es byte) (row_of_first rows start es) (nat_le e.native byte)
      go (Some r) is more =
          rw (le-leb 0 byte (omega arith))
          (image_from-behind es e.native byte (e.wasm - start) r h.1 (found_row-looked_up rows start e r is)
          ∙ the_same (row_of_last rows start es byte) (row_of_first rows start es) (nat_le e.native byte) r.source)

  -- it has rows exactly where some recorded source has one
  pub image_from-empty : (es : List Recorded) → nat_lt 0 (length (image_from rows start None es)) ≡ list_any (λ e. is_some (row_of_source rows start e)) es
  image_from-empty [] = refl
  image_from-empty (e ∷ es) = rw (row_of_source-found rows start e) (go (found_row rows start e) (image_from-empty es))
    where
      go : (o : Option Row) → nat_lt 0 (length (image_from rows start None es)) ≡ list_any (λ z. is_some (row_of_source rows start z)) es → nat_lt 0 (length (with_row (λ c. image_from rows start c es) None e.native o)) ≡ (is_some (option_map (λ r. r.source) o) || list_any (λ z. is_some (row_of_source rows start z)) es)
      go None more = more
      go (Some r) more = lt-ltb _ _ (omega arith)

-- what some thing behind the first has, some thing has
Any-more : {X : Type 0} (P : X → Type 0) (x : X) (xs : List X) → Any P xs → Any P (x ∷ xs)
Any-more P x xs (k, y, within, is, holds) = (suc k, y, omega (arith, within), is, holds)

Any-here : {X : Type 0} (P : X → Type 0) (x : X) (xs : List X) → P x → Any P (x ∷ xs)
Any-here P x xs holds = (0, x, omega arith, refl, holds)

module _ (rows : List Row) (start : ℕ) where
  -- a row stands at a source and is that of it
  abbrev IsAt : Row → Recorded → Type 0
  IsAt r e = (r.offset ≡ e.native) × (row_of_source rows start e ≡ Some r.source)

  abbrev StandsAt : List Recorded → Row → Type 0
  StandsAt es r = Any (IsAt r) es

  stands-more : (e : Recorded) (es : List Recorded) (rs : List Row) → All (StandsAt es) rs → All (StandsAt (e ∷ es)) rs
  stands-more e es rs all = All-weaker (StandsAt es) (StandsAt (e ∷ es)) (λ r. Any-more (IsAt r) e es) rs all

  -- the rows behind one that was found stand at their sources
  stands-behind : (es : List Recorded) (b : ℕ) → All (StandsAt es) (image_from rows start (Some b) es)
  stands-behind [] b = All-nil (StandsAt [])
  stands-behind (e ∷ es) b = go (found_row rows start e) (row_of_source-found rows start e) (λ c. stands-more e es (image_from rows start (Some c) es) (stands-behind es c))
    where
      go : (o : Option Row) → row_of_source rows start e ≡ option_map (λ r. r.source) o → ((c : ℕ) → All (StandsAt (e ∷ es)) (image_from rows start (Some c) es)) → All (StandsAt (e ∷ es)) (with_row (λ c. image_from rows start c es) (Some b) e.native o)
      go None is more = more b
      go (Some r) is more = inner (b == r.offset)
        where
          inner : (t : Bool) → All (StandsAt (e ∷ es)) (if t then image_from rows start (Some b) es else moved_to e.native r ∷ image_from rows start (Some r.offset) es)
          inner true = more b
          inner false = All-cons (StandsAt (e ∷ es)) (moved_to e.native r) (image_from rows start (Some r.offset) es) (Any-here (IsAt (moved_to e.native r)) e es (refl, is)) (more r.offset)

  -- each row stems from the recorded sources
  pub image_from-stems : (es : List Recorded) → All (StemsFrom rows start es) (image_from rows start None es)
  image_from-stems [] = All-nil (StemsFrom rows start [])
  image_from-stems (e ∷ es) = go (found_row rows start e) (row_of_source-found rows start e) (image_from-stems es)
    where
      go : (o : Option Row) → row_of_source rows start e ≡ option_map (λ r. r.source) o → All (StemsFrom rows start es) (image_from rows start None es) → All (StemsFrom rows start (e ∷ es)) (with_row (λ c. image_from rows start c es) None e.native o)
      go None is more = All-weaker (StemsFrom rows start es) (StemsFrom rows start (e ∷ es)) stems-more (image_from rows start None es) more
        where
          stems-more : (r : Row) → StemsFrom rows start es r → StemsFrom rows start (e ∷ es) r
          stems-more r (inl stands) = inl (Any-more (IsAt r) e es stands)
          stems-more r (inr (there, first)) = inr (there, rw is first)
      go (Some r) is more =
          let behind = All-weaker (StandsAt (e ∷ es)) (StemsFrom rows start (e ∷ es)) (λ x stands. inl stands) (image_from rows start (Some r.offset) es) (stands-more e es (image_from rows start (Some r.offset) es) (stands-behind es r.offset)) in
          All-cons (StemsFrom rows start (e ∷ es)) (moved_to 0 r) (image_from rows start (Some r.offset) es) (inr (refl, rw is refl)) behind

-- The image that the rows make is an image, where the recorded sources rise and lie in the function.
pub image_of-IsImage : (q : Segment) (start : ℕ) (f : Function) → RisesFrom (λ e. e.native) 0 (recorded_sources f) → All (λ e. e.native ≤ f.length) (recorded_sources f) → IsImage q start f (image_of q start f)
image_of-IsImage q start f rises within = record {
  starts = refl;
  ends = refl;
  within = rows_from-within (λ r. r.offset) moved_to (λ k r. refl) q.rows start (recorded_sources f) None f.length within;
  stems = image_from-stems q.rows start (recorded_sources f);
  agrees = λ byte less. image_from-agrees q.rows start (recorded_sources f) 0 byte rises;
}

pub function_of_segment-among : (P : Function → Type 0) (fs : List Function) (q : Segment) (f : Function) → All P fs → function_of_segment fs q ≡ Some f → P f
function_of_segment-among P fs q f all = go q.start
  where
    go : (s : Address) → function_of_segment fs (record q { start = s }) ≡ Some f → P f
    go (Constant a) h = function_at-among P fs a f all h
    go (Symbol n a) h = absurd (cc)

-- The headline: of functions whose maps are good, the image that the rows make is an image of the segment.
pub image_of-IsImageOf : (fs : List Function) (q : Segment) (f : Function) → All IsOrdered fs → function_of_segment fs q ≡ Some f → IsImageOf fs q (image_of q (start_of_segment q) f)
image_of-IsImageOf fs q f all h =
    let o : IsOrdered f = function_of_segment-among IsOrdered fs q f all h in
    (f, h, image_of-IsImage q (start_of_segment q) f o.rises o.within)

-- the same of rows that are known to be those
pub rows-IsImage : (q : Segment) (start : ℕ) (f : Function) (rows : List Row) → rows ≡ image_from q.rows start None (recorded_sources f) → IsOrdered f → IsImage q start f (record { start = Symbol f.number (pos 0); rows = rows; end = Some f.length })
rows-IsImage q start f rows same o = rw same (image_of-IsImage q start f o.rises o.within)

-- The images of some segments: one for each that is carried, in order.
pub images-AllZip : (fs : List Function) (qs : List Segment) → All IsOrdered fs → AllZip (IsImageOf fs) (filter (is_carried_segment fs) qs) (filter_map (image_if fs) qs)
images-AllZip fs [] all = tt
images-AllZip fs (q ∷ qs) all = go (function_of_segment fs q) refl (images-AllZip fs qs all)
  where
    inner : (f : Function) (b c : Bool) → function_of_segment fs q ≡ Some f → b ≡ c
        → AllZip (IsImageOf fs) (filter (is_carried_segment fs) qs) (filter_map (image_if fs) qs)
        → AllZip (IsImageOf fs) (if b then q ∷ filter (is_carried_segment fs) qs else filter (is_carried_segment fs) qs) (cons_option (if c then Some (image_of q (start_of_segment q) f) else None) (filter_map (image_if fs) qs))
    inner f true true is same more = (image_of-IsImageOf fs q f all is, more)
    inner f false false is same more = more
    inner f true false is same more = absurd (cc)
    inner f false true is same more = absurd (cc)

    go : (o : Option Function) → function_of_segment fs q ≡ o
        → AllZip (IsImageOf fs) (filter (is_carried_segment fs) qs) (filter_map (image_if fs) qs)
        → AllZip (IsImageOf fs)
        (if (elim o [ None ↦ false | Some f ↦ list_any (λ e. is_some (row_of_source q.rows (start_of_segment q) e)) (recorded_sources f) ]) then q ∷ filter (is_carried_segment fs) qs else filter (is_carried_segment fs) qs)
        (cons_option (option_and_then (λ f. image_with_rows (image_of q (start_of_segment q) f)) o) (filter_map (image_if fs) qs))
    go None is more = more
    go (Some f) is more = inner f (list_any (λ e. is_some (row_of_source q.rows (start_of_segment q) e)) (recorded_sources f)) (nat_lt 0 (length (image_from q.rows (start_of_segment q) None (recorded_sources f)))) is (sym (image_from-empty q.rows (start_of_segment q) (recorded_sources f))) more

-- Four rows in no order, by offset and line.
abbrev some_row : ℕ → ℕ → Row
some_row offset line = record { offset = offset; source = record { file = None; line = line; column = 0; is_stmt = true; basic_block = false; prologue_end = false; epilogue_begin = false; isa = 0; discriminator = 0 } }

abbrev some_rows : List Row
some_rows = some_row 5 1 ∷ some_row 3 2 ∷ some_row 5 3 ∷ some_row 9 4 ∷ []

abbrev some_sources : List Recorded
some_sources = record { native = 1; wasm = 99 } ∷ record { native = 2; wasm = 107 } ∷ record { native = 4; wasm = 102 } ∷ record { native = 4; wasm = 105 } ∷ record { native = 6; wasm = 120 } ∷ record { native = 8; wasm = 104 } ∷ []

-- what is found at some offsets, and their image at a start of 100
some_found : map (last_at (λ r. r.offset) some_rows) (2 ∷ 4 ∷ 5 ∷ 20 ∷ []) ≡ None ∷ Some (some_row 3 2) ∷ Some (some_row 5 3) ∷ Some (some_row 9 4) ∷ []
some_found = refl

some_image : image_from some_rows 100 None some_sources ≡ some_row 0 3 ∷ some_row 6 4 ∷ some_row 8 2 ∷ []
some_image = refl
