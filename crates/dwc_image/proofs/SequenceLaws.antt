-- What is written of a segment: the rows of its image may be appended to a sequence one by one, and the sequence may be ended
-- behind them.
use Rattle.std.proofs.Common.{◌≡◌, ℕ, ◌^◌, ◌<◌, ◌≤◌, ap, ◌∙◌, arith, refl, sym, List, [], ◌∷◌, ◌++◌, map, length, Option, Some, None, pos}
use Rattle.std.specs.Prelude.{All, Bool, true, false, if◌then◌else◌, is_some}
use Rattle.std.proofs.lemmas.Bool.{lt-ltb}
use Rattle.std.proofs.lemmas.List.{append-nil, length-append}
use Rattle.std.proofs.lemmas.List.Elements.{All-head, All-tail}
use Rattle.dwc_base.specs.declared.records.Address.TheVariants.{Constant, Symbol}
use Rattle.dwc_base.specs.declared.records.LineRow.{LineRow}
use Rattle.dwc_native.specs.Functions.{Function, recorded_sources, function_at}
use Rattle.dwc_addr.specs.declared.function_map.FunctionMap.{FunctionMap}
use Rattle.dwc_addr.specs.Runs.{recorded_view}
use Rattle.dwc_addr.specs.Transforms.{function_view}
use Rattle.dwc_addr.proofs.EntryLaws.{recorded-merged}
use Rattle.dwc_unit.specs.SpelledLines.{WrittenSequence}
use Rattle.dwc_unit.specs.GivenLines.{GivenLines, BegunSequence, with_begun, row_behind, with_end, last_offset, IsAtOrBehind, HasRow, CanAppend, CanEnd}
use Rattle.dwc_image.specs.ImageRows.{RisesFrom, IsOrdered, move_row, is_repeated, placed_at, with_found, image_rows}
use Rattle.dwc_image.specs.ImageSequences.{FitsFiles, FitsImage, FitsNext, begun_rows, IsBegun, HasGrown, with_sequences, sequence_with_rows, sequence_at}
use Rattle.dwc_image.proofs.RowsLaws.{rows_from-each, rows_from-rises, rows_from-within}

-- what stands in the midst of a list
among : {X : Type 0} (P : X → Type 0) (xs : List X) (x : X) (ys : List X) → All P (xs ++ x ∷ ys) → P x
among P [] x ys all = All-head P x ys all
among P (y ∷ xs) x ys all = among P xs x ys (All-tail P y (xs ++ x ∷ ys) all)

-- the last of some rows that rise is not behind the next
last-behind : (rows : List LineRow) (low : ℕ) (r : LineRow) (rest : List LineRow) → RisesFrom (λ q. q.offset) low (rows ++ r ∷ rest) → last_offset low rows ≤ r.offset
last-behind [] low r rest h = h.0
last-behind (q ∷ rows) low r rest h = last-behind rows q.offset r rest h.1

-- the last of some rows lies where all do
last-within : (rows : List LineRow) (low most : ℕ) → low ≤ most → All (λ r. r.offset ≤ most) rows → last_offset low rows ≤ most
last-within [] low most le all = le
last-within (r ∷ rs) low most le all = last-within rs r.offset most (All-head (λ (q : LineRow). q.offset ≤ most) r rs all) (All-tail (λ (q : LineRow). q.offset ≤ most) r rs all)

-- the next row of an image may come behind those so far
next-fits : (files : ℕ) (rows : List LineRow) (r : LineRow) (rest : List LineRow) → FitsImage files (rows ++ r ∷ rest) → FitsNext files rows r
next-fits files rows r rest h = record {
  fits = among (FitsFiles files) rows r rest h.each;
  behind = last-behind rows 0 r rest h.rise;
  short = among (λ (q : LineRow). q.offset < 2 ^ 32) rows r rest h.short;
}

-- and so may that which a source finds
pub found-fits : (files : ℕ) (rows : List LineRow) (rest : Option ℕ → List LineRow) (found : Option ℕ) (native : ℕ) (r : LineRow) → FitsImage files (rows ++ with_found (λ q. q.offset) move_row rest found native (Some r)) → is_repeated found r.offset ≡ false → FitsNext files rows (move_row (placed_at found native) r)
found-fits files rows rest found native r = go (is_repeated found r.offset)
  where
    go : (b : Bool) → FitsImage files (rows ++ (if b then rest found else move_row (placed_at found native) r ∷ rest (Some r.offset))) → b ≡ false → FitsNext files rows (move_row (placed_at found native) r)
    go true h new = absurd (cc)
    go false h new = next-fits files rows _ (rest (Some r.offset)) h

-- the first row of a sequence may be appended
pub can-append_first : (function : ℕ) (g : GivenLines) (r : LineRow) → FitsNext (length g.files) [] r → CanAppend (with_begun (Some (record { start_address = Symbol function (pos 0); rows = [] })) g) r
can-append_first function g r h = record { behind = h.behind; offset = h.short; line = h.fits.line; some_file = h.fits.some; known_file = h.fits.known }

module _ (function b : ℕ) where
  -- and a further one
  pub can-append : (g : GivenLines) (r : LineRow) → IsBegun function (Some b) g.begun → FitsNext (length g.files) (begun_rows g.begun) r → CanAppend g r
  can-append g r begun h = record { behind = go g.begun begun h.behind; offset = h.short; line = h.fits.line; some_file = h.fits.some; known_file = h.fits.known }
    where
      go : (q : Option BegunSequence) → IsBegun function (Some b) q → last_offset 0 (begun_rows q) ≤ r.offset → IsAtOrBehind r.offset q
      go None none le = absurd none
      go (Some q) some le = le

  -- behind all rows the sequence may be ended
  pub can-end : (g : GivenLines) (end : ℕ) → IsBegun function (Some b) g.begun → last_offset 0 (begun_rows g.begun) ≤ end → end < 2 ^ 32 → CanEnd g end
  can-end g end begun le short = record { some = has_row g.begun begun; behind = behind g.begun begun le; last = short }
    where
      has_row : (q : Option BegunSequence) → IsBegun function (Some b) q → HasRow q
      has_row None none = absurd none
      has_row (Some q) some = some.1

      behind : (q : Option BegunSequence) → IsBegun function (Some b) q → last_offset 0 (begun_rows q) ≤ end → IsAtOrBehind end q
      behind None none le = absurd none
      behind (Some q) some le = le

  -- what an appended row leaves
  pub row-added : (q : Option BegunSequence) (r : LineRow) → IsBegun function (Some b) q → begun_rows (row_behind r q) ≡ begun_rows q ++ r ∷ []
  row-added None r none = absurd none
  row-added (Some q) r some = refl

  pub row-begun : (c : ℕ) (q : Option BegunSequence) (r : LineRow) → IsBegun function (Some b) q → IsBegun function (Some c) (row_behind r q)
  row-begun c None r none = absurd none
  row-begun c (Some q) r some = (some.0, omega (arith, length-append q.rows (r ∷ [])))

  -- a sequence that is begun has rows
  pub begun-some : (q : Option BegunSequence) → IsBegun function (Some b) q → 0 < length (begun_rows q)
  begun-some None none = absurd none
  begun-some (Some q) some = some.1

  -- the sequence is ended
  pub ended-grown : (end : ℕ) (rows : List LineRow) (before after : GivenLines) → HasGrown function (Some b) before after → begun_rows after.begun ≡ rows → with_end end after ≡ with_sequences (record { start_address = Symbol function (pos 0); rows = rows; end_offset = end } ∷ []) before
  ended-grown end rows before after h is = ap (with_end end) h.same ∙ go after.begun h.begun is
    where
      go : (q : Option BegunSequence) → IsBegun function (Some b) q → begun_rows q ≡ rows → with_end end (with_begun q before) ≡ with_sequences (record { start_address = Symbol function (pos 0); rows = rows; end_offset = end } ∷ []) before
      go None none is = absurd none
      go (Some q) some is = rw (some.0, is) refl

-- what grows behind what has grown
pub grows-on : (function : ℕ) (found more : Option ℕ) (a b c : GivenLines) → HasGrown function found a b → HasGrown function more b c → HasGrown function more a c
grows-on function found more a b c h k = record { begun = k.begun; same = k.same ∙ ap (with_begun c.begun) h.same }

-- the recorded sources of a function as it is kept
pub sources-view : (m : FunctionMap) → recorded_sources (function_view m) ≡ map recorded_view m.addresses
sources-view m = recorded-merged m.gaps.now 0 (map recorded_view m.addresses)

-- what is written of a segment that is in a function
pub sequence-found : (fs : List Function) (a : ℕ) (rows image : List LineRow) (m : FunctionMap) → function_at fs a ≡ Some (function_view m) → image ≡ image_rows rows a None (map recorded_view m.addresses)
    → sequence_at fs (Constant a) rows ≡ sequence_with_rows (record { start_address = Symbol (function_view m).number (pos 0); rows = image; end_offset = m.len })
sequence-found fs a rows image m found is = rw (found, sources-view m, is) refl

-- its rows may be written, and lie in the function
module _ (a : ℕ) (rows : List LineRow) (m : FunctionMap) (order : IsOrdered (function_view m)) where
  image-within : All (λ r. r.offset ≤ m.len) (image_rows rows a None (map recorded_view m.addresses))
  image-within = rows_from-within (λ r. r.offset) move_row (λ k r. refl) rows a (map recorded_view m.addresses) None m.len (rw (sources-view m) at order.within)

  pub image-last : last_offset 0 (image_rows rows a None (map recorded_view m.addresses)) ≤ m.len
  image-last = last-within (image_rows rows a None (map recorded_view m.addresses)) 0 m.len (omega arith) image-within

  pub image-fits : (files : ℕ) → All (FitsFiles files) rows → m.len < 2 ^ 32 → FitsImage files (image_rows rows a None (map recorded_view m.addresses))
  image-fits files each short = record {
    each = rows_from-each (λ r. r.offset) move_row (FitsFiles files) (λ k r h. record { line = h.line; some = h.some; known = h.known }) rows a (map recorded_view m.addresses) None each;
    rise = rows_from-rises (λ r. r.offset) move_row (λ k r. refl) rows a (map recorded_view m.addresses) 0 (rw (sources-view m) at order.rises);
    short = λ k d less. omega (arith, image-within k d less, short);
  }

-- a line program without further sequences
pub no_sequences : (g : GivenLines) → g.begun ≡ None → g ≡ with_sequences [] g
no_sequences g ended = λ i. record { address_size = g.address_size; directories = g.directories; files = g.files; sequences = sym (append-nil g.sequences) i; begun = ended i }

-- what has grown by whether a row was found
pub grown-none : (function : ℕ) (found : Option ℕ) (before after : GivenLines) → is_some found ≡ false → HasGrown function found before after → HasGrown function None before after
grown-none function None before after none h = h
grown-none function (Some b) before after none h = absurd (cc)

pub grown-some : (function : ℕ) (found : Option ℕ) (before after : GivenLines) → is_some found ≡ true → HasGrown function found before after → HasGrown function (Some 0) before after
grown-some function None before after some h = absurd (cc)
grown-some function (Some b) before after some h = record { begun = go after.begun h.begun; same = h.same }
  where
    go : (q : Option BegunSequence) → IsBegun function (Some b) q → IsBegun function (Some 0) q
    go None none = none
    go (Some q) begun = begun

-- nothing has grown
pub none-grown : (function : ℕ) (before after : GivenLines) → HasGrown function None before after → after ≡ with_sequences [] before
none-grown function before after h = h.same ∙ ap (λ q. with_begun q before) h.begun ∙ no_sequences (with_begun None before) refl

-- a sequence without rows, and one with some
pub sequence-none : (q : WrittenSequence) → length q.rows ≡ 0 → sequence_with_rows q ≡ []
sequence-none q none = rw none refl

pub sequence-some : (q : WrittenSequence) → 0 < length q.rows → sequence_with_rows q ≡ q ∷ []
sequence-some q some = rw (lt-ltb 0 (length q.rows) some) refl

-- the number of a function that has a symbol
pub number-view : (m : FunctionMap) (number : ℕ) → m.symbol ≡ Some number → (function_view m).number ≡ number
number-view m number is = rw is refl
