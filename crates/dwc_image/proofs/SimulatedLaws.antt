-- The sequence of a function without debugging information: its rows may be appended one by one, and named by their file they are those of
-- its simulated segment.
use Rattle.std.proofs.Common.{◌≡◌, ℕ, ◌+◌, ◌^◌, ◌<◌, ◌≤◌, ap, ◌∙◌, arith, refl, sym, List, [], ◌∷◌, ◌++◌, map, length, Some, pos}
use Rattle.std.specs.Borrow.{Bor}
use Rattle.std.specs.Prelude.{All, Bool, true, false, nat_le}
use Rattle.std.specs.List.{list_all, AllZip}
use Rattle.std.proofs.lemmas.Bool.{le-leb}
use Rattle.std.proofs.lemmas.List.{append-nil, append_assoc}
use Rattle.std.proofs.lemmas.List.Elements.{All-nil, All-cons, All-head, All-tail}
use Rattle.dwc_base.specs.declared.records.Address.{Address}
use Rattle.dwc_base.specs.declared.records.Address.TheVariants.{Symbol}
use Rattle.dwc_base.specs.declared.records.LineRow.{LineRow}
use Rattle.dwc_native.specs.Functions.{Function, Recorded, recorded_sources}
use Rattle.dwc_output.specs.SimulatedLines.{IsSimulated, row_of_recorded, simulated_rows, simulated_segment}
use Rattle.dwc_output.proofs.SimulatedLineLaws.{rise_from_first, simulated_segment-is}
use Rattle.dwc_addr.specs.declared.address_map.AddressMap.{AddressMap}
use Rattle.dwc_addr.specs.declared.function_map.FunctionMap.{FunctionMap}
use Rattle.dwc_addr.specs.Runs.{recorded_view}
use Rattle.dwc_addr.specs.Transforms.{function_view}
use Rattle.dwc_unit.specs.GivenLines.{GivenLines, with_begun, with_end, last_offset, CanAppend, CanEnd}
use Rattle.dwc_unit.specs.GivenSegments.{given_row, given_segment, given_segments}
use Rattle.dwc_image.specs.ImageRows.{RisesFrom}
use Rattle.dwc_image.specs.ImageSequences.{with_sequences}
use Rattle.dwc_image.specs.SimulatedSequences.{simulated_line, line_of_recorded, lines_of_recorded, simulated_sequence, simulated_program, CanSimulate, simulated_view, with_rows, CanAppendEach}
use Rattle.dwc_image.proofs.SequenceLaws.{sources-view}

-- ---- rows one by one

-- behind an appended row the last offset is its own
last-appended : (rows : List LineRow) (low : ℕ) (r : LineRow) → last_offset low (rows ++ r ∷ []) ≡ r.offset
last-appended [] low r = refl
last-appended (q ∷ rows) low r = last-appended rows q.offset r

-- a program in which a sequence is begun
abbrev pub begun_with : GivenLines → Address → List LineRow → GivenLines
begun_with g start rows = with_begun (Some (record { start_address = start; rows = rows })) g

-- appended rows stand behind those so far
appended : (g : GivenLines) (start : Address) (rows more : List LineRow) → with_rows more (begun_with g start rows) ≡ begun_with g start (rows ++ more)
appended g start rows [] = ap (begun_with g start) (sym (append-nil rows))
appended g start rows (r ∷ more) = appended g start (rows ++ r ∷ []) more ∙ ap (begun_with g start) (append_assoc rows (r ∷ []) more)

-- what holds of the recorded sources of a function of a length
pub record AreSimulated (code_offset len low : ℕ) (es : List Recorded) : Type 0 where
  pub rises : RisesFrom (λ e. e.native) low es
  pub within : All (λ e. e.native ≤ len) es
  pub lines : All (λ e. code_offset + e.wasm < 2 ^ 32) es

rest-simulated : (code_offset len low : ℕ) (e : Recorded) (es : List Recorded) → AreSimulated code_offset len low (e ∷ es) → AreSimulated code_offset len e.native es
rest-simulated code_offset len low e es h = record {
  rises = h.rises.1;
  within = All-tail (λ (d : Recorded). d.native ≤ len) e es h.within;
  lines = All-tail (λ (d : Recorded). code_offset + d.wasm < 2 ^ 32) e es h.lines;
}

-- the row of a source may come behind rows that end below it
can-append : (g : GivenLines) (start : Address) (rows : List LineRow) (code_offset len low : ℕ) (prologue_end : Bool) (e : Recorded) (es : List Recorded) → AreSimulated code_offset len low (e ∷ es) → len < 2 ^ 32 → 0 < length g.files → last_offset 0 rows ≤ low
    → CanAppend (begun_with g start rows) (line_of_recorded code_offset prologue_end e)
can-append g start rows code_offset len low prologue_end e es h short some behind =
    let inside : e.native ≤ len = All-head (λ (d : Recorded). d.native ≤ len) e es h.within in
    let from : low ≤ e.native = h.rises.0 in
    record {
      behind = omega (arith, behind, from);
      offset = omega (arith, inside, short);
      line = All-head (λ (d : Recorded). code_offset + d.wasm < 2 ^ 32) e es h.lines;
      some_file = omega arith;
      known_file = omega (arith, some);
    }

can-append_later : (g : GivenLines) (start : Address) (rows : List LineRow) (code_offset len low : ℕ) (es : List Recorded) → AreSimulated code_offset len low es → len < 2 ^ 32 → 0 < length g.files → last_offset 0 rows ≤ low
    → CanAppendEach (begun_with g start rows) (map (line_of_recorded code_offset false) es)
can-append_later g start rows code_offset len low [] h short some behind = tt
can-append_later g start rows code_offset len low (e ∷ es) h short some behind =
    let r = line_of_recorded code_offset false e in
    let last = last-appended rows 0 r in (
      can-append g start rows code_offset len low false e es h short some behind,
      can-append_later g start (rows ++ r ∷ []) code_offset len e.native es (rest-simulated code_offset len low e es h) short some (omega (arith, last)),
    )

can-append_each : (g : GivenLines) (start : Address) (rows : List LineRow) (code_offset len low : ℕ) (es : List Recorded) → AreSimulated code_offset len low es → len < 2 ^ 32 → 0 < length g.files → last_offset 0 rows ≤ low
    → CanAppendEach (begun_with g start rows) (lines_of_recorded code_offset es)
can-append_each g start rows code_offset len low [] h short some behind = tt
can-append_each g start rows code_offset len low (e ∷ es) h short some behind =
    let r = line_of_recorded code_offset true e in
    let last = last-appended rows 0 r in (
      can-append g start rows code_offset len low true e es h short some behind,
      can-append_later g start (rows ++ r ∷ []) code_offset len e.native es (rest-simulated code_offset len low e es h) short some (omega (arith, last)),
    )

-- the last row lies in the function
last-later : (code_offset len low before : ℕ) (es : List Recorded) → AreSimulated code_offset len low es → before ≤ len → last_offset before (map (line_of_recorded code_offset false) es) ≤ len
last-later code_offset len low before [] h le = le
last-later code_offset len low before (e ∷ es) h le = last-later code_offset len e.native e.native es (rest-simulated code_offset len low e es h) (All-head (λ (d : Recorded). d.native ≤ len) e es h.within)

last-of_all : (code_offset len low before : ℕ) (es : List Recorded) → AreSimulated code_offset len low es → before ≤ len → last_offset before (lines_of_recorded code_offset es) ≤ len
last-of_all code_offset len low before [] h le = le
last-of_all code_offset len low before (e ∷ es) h le = last-later code_offset len e.native e.native es (rest-simulated code_offset len low e es h) (All-head (λ (d : Recorded). d.native ≤ len) e es h.within)

-- ---- the sequence of a function

-- a program in which the sequence of a function is begun, with its first row
abbrev pub begun_at : Address → GivenLines → GivenLines
begun_at start g = begun_with g start (simulated_line 0 0 false ∷ [])

module _ (g : GivenLines) (start : Address) (code_offset len : ℕ) (es : List Recorded) (h : AreSimulated code_offset len 0 es) where
  -- the rows of its sources may be appended
  pub can-append_sources : len < 2 ^ 32 → 0 < length g.files → CanAppendEach (begun_at start g) (lines_of_recorded code_offset es)
  can-append_sources short some = can-append_each g start (simulated_line 0 0 false ∷ []) code_offset len 0 es h short some (omega arith)

  -- behind them it may be ended
  pub can-end_simulated : len < 2 ^ 32 → CanEnd (with_rows (lines_of_recorded code_offset es) (begun_at start g)) len
  can-end_simulated short = rw (appended g start (simulated_line 0 0 false ∷ []) (lines_of_recorded code_offset es)) (record {
    some = omega arith;
    behind = last-of_all code_offset len 0 0 es h (omega arith);
    last = short;
  })

ended : (g : GivenLines) (start : Address) (len : ℕ) (rows : List LineRow) → with_end len (with_rows rows (begun_at start g)) ≡ with_sequences (record { start_address = start; rows = simulated_line 0 0 false ∷ rows; end_offset = len } ∷ []) g
ended g start len rows = ap (with_end len) (appended g start (simulated_line 0 0 false ∷ []) rows)

-- and then it is there
pub ended-simulated : (code_offset : ℕ) (m : FunctionMap) (g after : GivenLines) → after ≡ with_rows (lines_of_recorded code_offset (map recorded_view m.addresses)) (begun_at (Symbol (function_view m).number (pos 0)) g) → with_end m.len after ≡ with_sequences (simulated_sequence code_offset (function_view m) ∷ []) g
ended-simulated code_offset m g after is =
    ap (with_end m.len) is
    ∙ ended g (Symbol (function_view m).number (pos 0)) m.len (lines_of_recorded code_offset (map recorded_view m.addresses))
    ∙ ap (λ es. with_sequences (record { start_address = Symbol (function_view m).number (pos 0); rows = simulated_line 0 0 false ∷ lines_of_recorded code_offset es; end_offset = m.len } ∷ []) g) (sym (sources-view m))

-- the sources of a function that can be simulated, as it is kept
pub sources-simulated : (code_offset : ℕ) (m : FunctionMap) → CanSimulate code_offset (function_view m) → AreSimulated code_offset m.len 0 (map recorded_view m.addresses)
sources-simulated code_offset m h = record {
  rises = rw (sources-view m) at h.order.rises;
  within = rw (sources-view m) at h.order.within;
  lines = rw (sources-view m) at h.lines;
}

-- their lines are short
pub lines-short : (code_offset : ℕ) (sources : List AddressMap) → All (λ e. code_offset + e.wasm < 2 ^ 32) (map recorded_view sources) → All (λ s. code_offset + s.wasm < 2 ^ 32) sources
lines-short code_offset [] h = All-nil (λ (s : AddressMap). code_offset + s.wasm < 2 ^ 32)
lines-short code_offset (s ∷ ss) h =
    let P : Recorded → Type 0 = λ e. code_offset + e.wasm < 2 ^ 32 in
    All-cons (λ (s : AddressMap). code_offset + s.wasm < 2 ^ 32) s ss (All-head P (recorded_view s) (map recorded_view ss) h) (lines-short code_offset ss (All-tail P (recorded_view s) (map recorded_view ss) h))

-- ---- the segment of a function

module _ (name : List ℕ) (code_offset : ℕ) (g : GivenLines) (files : g.files ≡ record { directory = 0; name = name } ∷ []) where
  later-given : (es : List Recorded) → map (given_row g) (map (line_of_recorded code_offset false) es) ≡ map (row_of_recorded name code_offset false) es
  later-given [] = refl
  later-given (e ∷ es) = rw (later-given es, files) refl

  rows-given : (es : List Recorded) → map (given_row g) (simulated_line 0 0 false ∷ lines_of_recorded code_offset es) ≡ simulated_rows name code_offset es
  rows-given [] = rw files refl
  rows-given (e ∷ es) = rw (later-given es, files) refl

  -- The sequence of a function, in a program of the one file of a name, is its simulated segment.
  pub simulated-given : (f : Function) → given_segment g (simulated_sequence code_offset f) ≡ simulated_segment name code_offset f
  simulated-given f = ap (λ rows. record { start = Symbol f.number (pos 0); rows = rows; end = Some f.length }) (rows-given (recorded_sources f))

-- ---- what is said of each byte

all-above : (low : ℕ) (es : List Recorded) → RisesFrom (λ e. e.native) low es → list_all (λ x. nat_le low x.native) es ≡ true
all-above low es h = go low low es (omega arith) h
  where
    go : (least low : ℕ) (es : List Recorded) → least ≤ low → RisesFrom (λ e. e.native) low es → list_all (λ x. nat_le least x.native) es ≡ true
    go least low [] le h = refl
    go least low (e ∷ es) le h =
        let from : low ≤ e.native = h.0 in
        let up : least ≤ e.native = omega (arith, le, from) in
        rw (le-leb least e.native up, go least e.native es up h.1) refl

sources-rise : (es : List Recorded) → RisesFrom (λ e. e.native) 0 es → rise_from_first es ≡ true
sources-rise [] h = refl
sources-rise (e ∷ es) h = all-above e.native es h.1

sources-within : (len : ℕ) (es : List Recorded) → All (λ e. e.native ≤ len) es → list_all (λ e. nat_le e.native len) es ≡ true
sources-within len [] h = refl
sources-within len (e ∷ es) h = rw (le-leb e.native len (All-head (λ (d : Recorded). d.native ≤ len) e es h), sources-within len es (All-tail (λ (d : Recorded). d.native ≤ len) e es h)) refl

-- The sequence of a function that can be simulated says at each byte what is wanted.
pub can-simulated : (name : List ℕ) (code_offset : ℕ) (f : Function) (g : GivenLines) → g.files ≡ record { directory = 0; name = name } ∷ [] → CanSimulate code_offset f → IsSimulated name code_offset f (given_segment g (simulated_sequence code_offset f))
can-simulated name code_offset f g files h = rw (simulated-given name code_offset g files f) (simulated_segment-is name code_offset f (sources-rise (recorded_sources f) h.order.rises) (sources-within f.length (recorded_sources f) h.order.within))

-- So does each of the program of some functions, in order.
pub program-simulated : (name : List ℕ) (size : ℕ) (fs : List (ℕ × Function)) → All (λ f. CanSimulate f.0 f.1) fs → AllZip (λ f segment. IsSimulated name f.0 f.1 segment) fs (given_segments (simulated_program size name fs))
program-simulated name size fs h = go fs h
  where
    go : (gs : List (ℕ × Function)) → All (λ f. CanSimulate f.0 f.1) gs → AllZip (λ f segment. IsSimulated name f.0 f.1 segment) gs (map (given_segment (simulated_program size name fs)) (map (λ f. simulated_sequence f.0 f.1) gs))
    go [] all = tt
    go (f ∷ gs) all = (
      can-simulated name f.0 f.1 (simulated_program size name fs) refl (All-head (λ (d : ℕ × Function). CanSimulate d.0 d.1) f gs all),
      go gs (All-tail (λ (d : ℕ × Function). CanSimulate d.0 d.1) f gs all),
    )

-- functions as they are given, each of which can be simulated
pub given-simulated : (ms : List (ℕ × Bor FunctionMap)) → All (λ f. CanSimulate f.0 f.1) (map simulated_view ms) → All (λ f. CanSimulate f.0 (function_view (f.1).now)) ms
given-simulated [] h = All-nil (λ (f : ℕ × Bor FunctionMap). CanSimulate f.0 (function_view (f.1).now))
given-simulated (m ∷ ms) h =
    let P : ℕ × Function → Type 0 = λ f. CanSimulate f.0 f.1 in
    All-cons (λ (f : ℕ × Bor FunctionMap). CanSimulate f.0 (function_view (f.1).now)) m ms (All-head P (simulated_view m) (map simulated_view ms) h) (given-simulated ms (All-tail P (simulated_view m) (map simulated_view ms) h))
