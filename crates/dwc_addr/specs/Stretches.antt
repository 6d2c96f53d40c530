-- Stretches of native code along which one source is shown, and tables of their sources.
use Rattle.std.specs.Prelude.{◌≡◌, ℕ, suc, ◌+◌, ◌*◌, ◌/◌, ◌^◌, ◌<◌, ◌≤◌, List, [], ◌∷◌, length, slice_index_or, Bool, false, nat_lt, nat_le, ◌&&◌, ◌⊎◌, option_map}
use Rattle.std.specs.List.{list_any}
use Rattle.std.specs.Option.{unwrap_or}
use Rattle.dwc_base.specs.Listing.{first_of}
use Rattle.dwc_native.specs.Functions.{Recorded}
use Rattle.dwc_native.specs.ShownSources.{last_source, is_source_in}
use Rattle.dwc_addr.specs.declared.stretch.Stretch.{Stretch}
use Rattle.dwc_addr.specs.declared.stretch.SourceTable.{SourceTable}

-- ---- stretches

-- the source that is shown at a native byte, by recorded sources, of a function that begins at a wasm offset
abbrev pub shown_among : ℕ → List Recorded → ℕ → ℕ
shown_among start es byte = unwrap_or (last_source es byte) (unwrap_or (option_map (λ e. e.wasm) (first_of es)) start)

-- Stretches up to one that begins behind them: they begin at 0, each has a byte, and its source is shown at all its bytes.
abbrev pub AreStretchesTo : ℕ → List Recorded → Stretch → List Stretch → Type 0
AreStretchesTo start es behind ss =
    ((slice_index_or ss 0 behind).start ≡ 0)
    × ((k : ℕ) → k < length ss → (slice_index_or ss k behind).start < (slice_index_or ss (suc k) behind).start)
    × ((k byte : ℕ) → k < length ss → (slice_index_or ss k behind).start ≤ byte → byte < (slice_index_or ss (suc k) behind).start → shown_among start es byte ≡ (slice_index_or ss k behind).source)

-- what stands past the last stretch of a function: it begins where the function's code ends
abbrev pub no_stretch : ℕ → Stretch
no_stretch len = record { start = len; source = 0 }

-- the stretches of a function that begins at a wasm offset and has so many bytes
abbrev pub AreStretches : ℕ → ℕ → List Recorded → List Stretch → Type 0
AreStretches start len es ss = AreStretchesTo start es (no_stretch len) ss

-- the sources of the stretches from one on up to another are inside an interval, or none is
abbrev pub AreAlike : List Stretch → ℕ → ℕ → Bool → ℕ → ℕ → Type 0
AreAlike ss start end is_inside from to = (k : ℕ) (d : Stretch) → from ≤ k → k < to → k < length ss → is_source_in start end (slice_index_or ss k d).source ≡ is_inside

-- ---- tables

-- the key of the source of the stretch at a place
abbrev pub source_key : ℕ → ℕ → ℕ → ℕ
source_key block place source = place / block * 2 ^ 32 + source

-- the keys of some stretches, of which the first has a place
abbrev pub source_keys : ℕ → ℕ → List Stretch → List ℕ
source_keys block place [] = []
source_keys block place (s ∷ ss) = source_key block place s.source ∷ source_keys block (suc place) ss

-- whether a key lies in an interval, whose end is none of it
abbrev pub is_between : ℕ → ℕ → ℕ → Bool
is_between low high key = nat_le low key && nat_lt key high

-- Sources have 32 bits, and the key of each stretch is among some keys: a test that none of these passes, it does not pass.
abbrev pub HaveKeys : List Stretch → ℕ → List ℕ → Type 0
HaveKeys ss block keys =
    ((k : ℕ) (d : Stretch) → k < length ss → (slice_index_or ss k d).source < 2 ^ 32)
    × ((test : ℕ → Bool) (k : ℕ) (d : Stretch) → k < length ss → list_any test keys ≡ false → test (source_key block k (slice_index_or ss k d).source) ≡ false)

-- a wasm offset, or 2 ^ 32 where it is greater
abbrev pub IsCapped : ℕ → ℕ → Type 0
IsCapped a result = (result ≡ a) ⊎ ((result ≡ 2 ^ 32) × (2 ^ 32 ≤ a))

-- tables of the sources of stretches
abbrev pub AreTables : List Stretch → List SourceTable → Type 0
AreTables ss tables = (i : ℕ) (d : SourceTable) → i < length tables → HaveKeys ss (slice_index_or tables i d).block (slice_index_or tables i d).keys.items
