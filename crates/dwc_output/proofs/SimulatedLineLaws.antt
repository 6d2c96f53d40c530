-- The segment that is written for a function without debugging information says at each byte what its recorded sources want, where these do not
-- fall.
use Rattle.std.proofs.Common.{◌≡◌, ℕ, ◌<◌, ◌≤◌, List, [], ◌∷◌, map, Some, None, true, false, refl, arith, ap, sym}
use Rattle.std.specs.Prelude.{Bool, cond, nat_le, Option, if◌then◌else◌, All}
use Rattle.std.specs.Option.{option_or}
use Rattle.std.specs.List.{filter, list_all}
use Rattle.std.proofs.Math.Dec.{leb-zero}
use Rattle.std.proofs.lemmas.Bool.{leb-true, leb-false, and_parts, true≢false}
use Rattle.std.proofs.lemmas.List.Elements.{All-nil, All-cons}
use Rattle.dwc_dwarf.specs.LineRows.{Row, RowContents, row_in_force}
use Rattle.dwc_native.specs.Functions.{Function, Recorded, recorded_sources}
use Rattle.dwc_output.specs.SimulatedLines.{IsSimulated, simulated_contents, line_behind, contents_behind, row_of_recorded, rows_of_recorded, simulated_rows, simulated_segment}

-- ---- rows behind the first source

-- what holds behind some sources of which none is the first
abbrev behind_later : List ℕ → ℕ → List Recorded → Option RowContents
behind_later name code_offset [] = None
behind_later name code_offset (e ∷ es) = Some (simulated_contents name (line_behind code_offset (e ∷ es)) false)

-- a source is passed or stands in front of what holds behind it
passed-or_in_front : (name : List ℕ) (code_offset : ℕ) (e : Recorded) (es : List Recorded) (below : Bool) →
    option_or (behind_later name code_offset es) (if below then Some (row_of_recorded name code_offset false e).source else None)
    ≡ behind_later name code_offset (cond below (e ∷ es) es)
passed-or_in_front name code_offset e [] true = refl
passed-or_in_front name code_offset e [] false = refl
passed-or_in_front name code_offset e (f ∷ fs) true = refl
passed-or_in_front name code_offset e (f ∷ fs) false = refl

abbrev sources_until : ℕ → List Recorded → List Recorded
sources_until byte es = filter (λ e. nat_le e.native byte) es

rows-behind : (name : List ℕ) (code_offset byte : ℕ) (es : List Recorded) → row_in_force (map (row_of_recorded name code_offset false) es) byte ≡ behind_later name code_offset (sources_until byte es)
rows-behind name code_offset byte [] = refl
rows-behind name code_offset byte (e ∷ es) = rw (rows-behind name code_offset byte es) (passed-or_in_front name code_offset e (sources_until byte es) (nat_le e.native byte))

-- ---- all rows

-- where the first source is below the byte
first-below : (name : List ℕ) (code_offset : ℕ) (e : Recorded) (es : List Recorded) (from_0 : Bool) → from_0 ≡ true →
    option_or (option_or (behind_later name code_offset es) (Some (row_of_recorded name code_offset true e).source)) (if from_0 then Some (simulated_contents name 0 false) else None)
    ≡ Some (contents_behind name code_offset (e ∷ es))
first-below name code_offset e [] from_0 h = refl
first-below name code_offset e (f ∷ fs) from_0 h = refl

-- a byte is below all sources behind the first where it is below that
none-until : (byte low : ℕ) (es : List Recorded) → byte < low → list_all (λ x. nat_le low x.native) es ≡ true → sources_until byte es ≡ []
none-until byte low [] h all = refl
none-until byte low (e ∷ es) h all =
    let parts = and_parts (nat_le low e.native) (list_all (λ x. nat_le low x.native) es) all in
    go (nat_le e.native byte) (λ is. let up : e.native ≤ byte = leb-true e.native byte is in let from : low ≤ e.native = leb-true low e.native parts.0 in absurd (omega (arith, up, from, h))) (none-until byte low es h parts.1)
  where
    go : (below : Bool) → (below ≡ true → ⊥) → sources_until byte es ≡ [] → cond below (e ∷ sources_until byte es) (sources_until byte es) ≡ []
    go true never rest = absurd (never refl)
    go false never rest = rest

-- the same where it is below the first source or not
each-byte : (name : List ℕ) (code_offset : ℕ) (e : Recorded) (later : List Recorded) (below from_0 : Bool) → from_0 ≡ true → (below ≡ false → later ≡ []) →
    option_or (option_or (behind_later name code_offset later) (if below then Some (row_of_recorded name code_offset true e).source else None)) (if from_0 then Some (simulated_contents name 0 false) else None)
    ≡ Some (contents_behind name code_offset (cond below (e ∷ later) later))
each-byte name code_offset e later true from_0 h none = first-below name code_offset e later from_0 h
each-byte name code_offset e [] false true h none = refl
each-byte name code_offset e [] false false h none = absurd (true≢false (sym h))
each-byte name code_offset e (f ∷ fs) false from_0 h none = absurd (no_list (none refl))
  where
    is_there : List Recorded → Bool
    is_there [] = false
    is_there (x ∷ xs) = true

    no_list : f ∷ fs ≡ [] → ⊥
    no_list same = true≢false (ap is_there same)

-- sources do not fall below the first of them
abbrev pub rise_from_first : List Recorded → Bool
rise_from_first [] = true
rise_from_first (e ∷ es) = list_all (λ x. nat_le e.native x.native) es

-- The rows that are written say at each byte what is wanted.
pub rows-agree : (name : List ℕ) (code_offset : ℕ) (es : List Recorded) (byte : ℕ) → rise_from_first es ≡ true → row_in_force (simulated_rows name code_offset es) byte ≡ Some (contents_behind name code_offset (sources_until byte es))
rows-agree name code_offset [] byte h = rw (leb-zero byte) refl
rows-agree name code_offset (e ∷ es) byte h =
    rw (rows-behind name code_offset byte es) (each-byte name code_offset e (sources_until byte es) (nat_le e.native byte) (nat_le 0 byte) (leb-zero byte) (λ above. none-until byte e.native es (leb-false e.native byte above) h))

-- ---- the whole segment

abbrev Within : ℕ → Row → Type 0
Within n r = r.offset ≤ n

-- the rows of sources that lie in a function lie in it
later-within : (name : List ℕ) (code_offset n : ℕ) (es : List Recorded) → list_all (λ e. nat_le e.native n) es ≡ true → All (Within n) (map (row_of_recorded name code_offset false) es)
later-within name code_offset n [] h = All-nil (Within n)
later-within name code_offset n (e ∷ es) h =
    let parts = and_parts (nat_le e.native n) (list_all (λ x. nat_le x.native n) es) h in
    All-cons (Within n) (row_of_recorded name code_offset false e) (map (row_of_recorded name code_offset false) es) (leb-true e.native n parts.0) (later-within name code_offset n es parts.1)

recorded-within : (name : List ℕ) (code_offset n : ℕ) (es : List Recorded) → list_all (λ e. nat_le e.native n) es ≡ true → All (Within n) (rows_of_recorded name code_offset es)
recorded-within name code_offset n [] h = All-nil (Within n)
recorded-within name code_offset n (e ∷ es) h =
    let parts = and_parts (nat_le e.native n) (list_all (λ x. nat_le x.native n) es) h in
    All-cons (Within n) (row_of_recorded name code_offset true e) (map (row_of_recorded name code_offset false) es) (leb-true e.native n parts.0) (later-within name code_offset n es parts.1)

-- The written segment of a function whose recorded sources do not fall below the first, and lie in it, is a simulated one.
pub simulated_segment-is : (name : List ℕ) (code_offset : ℕ) (f : Function) → rise_from_first (recorded_sources f) ≡ true → list_all (λ e. nat_le e.native f.length) (recorded_sources f) ≡ true → IsSimulated name code_offset f (simulated_segment name code_offset f)
simulated_segment-is name code_offset f rise within = record {
  starts = refl;
  ends = refl;
  within = All-cons (Within f.length) (record { offset = 0; source = simulated_contents name 0 false }) (rows_of_recorded name code_offset (recorded_sources f)) (omega arith) (recorded-within name code_offset f.length (recorded_sources f) within);
  rows = refl;
  agrees = λ byte h. rows-agree name code_offset (recorded_sources f) byte rise;
}
