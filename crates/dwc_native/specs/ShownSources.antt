-- The source that an output shows at each native byte of a function, and the native code of an interval of sources, byte for byte.
-- (No standard has this: it is what a debugger asks of scopes. DWARF 4 and 5, section 2.17.3: the end of a range lies behind it.)
use Rattle.std.specs.Prelude.{◌≡◌, ℕ, zero, suc, ◌<◌, ◌≤◌, ◌==◌, List, [], ◌∷◌, Bool, true, false, nat_le, nat_lt, ◌&&◌, if◌then◌else◌, Option, Some, None, option_map}
use Rattle.std.specs.Option.{option_or, unwrap_or}
use Rattle.std.specs.List.{list_any}
use Rattle.dwc_base.specs.Listing.{first_of}
use Rattle.dwc_native.specs.Functions.{Function, Recorded, recorded_sources}

-- ---- the source that is shown

-- the last recorded source at or below a native byte
abbrev pub last_source : List Recorded → ℕ → Option ℕ
last_source [] byte = None
last_source (e ∷ es) byte = option_or (last_source es byte) (if nat_le e.native byte then Some e.wasm else None)

-- the first recorded source; of a function without one its start
abbrev pub first_shown : Function → ℕ
first_shown f = unwrap_or (option_map (λ e. e.wasm) (first_of (recorded_sources f))) f.start

-- The source that is shown at a native byte of a function: the last recorded one at or below it, and before any the first. So
-- entries without a source end none; the image of a line table shows the row of this one.
unfoldable pub shown_source : Function → ℕ → ℕ
shown_source f byte = unwrap_or (last_source (recorded_sources f) byte) (first_shown f)

-- ---- maximal ranges of bytes

-- a byte in front of the ranges behind it: it begins the first of them where that begins right behind it, and else it is one of
-- its own
abbrev pub byte_before : ℕ → List (ℕ × ℕ) → List (ℕ × ℕ)
byte_before byte [] = (byte, suc byte) ∷ []
byte_before byte (r ∷ rs) = if r.0 == suc byte then (byte, r.1) ∷ rs else (byte, suc byte) ∷ r ∷ rs

-- The maximal ranges of those bytes that are wanted, among so many from one on.
unfoldable pub ranges_where : (ℕ → Bool) → ℕ → ℕ → List (ℕ × ℕ)
ranges_where is_wanted byte zero = []
ranges_where is_wanted byte (suc count) = elim (is_wanted byte) [ true ↦ byte_before byte (ranges_where is_wanted (suc byte) count) | false ↦ ranges_where is_wanted (suc byte) count ]

-- ---- the native code of an interval

-- whether a source lies in an interval, whose end is none of it
abbrev pub is_source_in : ℕ → ℕ → ℕ → Bool
is_source_in start end source = nat_le start source && nat_lt source end

-- The native ranges of an interval of sources in a function: the maximal ranges of bytes at which a source of it is shown.
unfoldable pub exact_ranges : Function → ℕ → ℕ → List (ℕ × ℕ)
exact_ranges f start end = ranges_where (λ byte. is_source_in start end (shown_source f byte)) 0 f.length

-- ---- laws

-- whether a byte is in a range, and in one of some
abbrev pub has_byte : ℕ → ℕ × ℕ → Bool
has_byte byte r = nat_le r.0 byte && nat_lt byte r.1

abbrev pub have_byte : List (ℕ × ℕ) → ℕ → Bool
have_byte rs byte = list_any (has_byte byte) rs

-- ranges that are not empty, ascend and do not touch, from one byte up to another
abbrev pub Apart : ℕ → ℕ → List (ℕ × ℕ) → Type 0
Apart from to [] = Unit {0}
Apart from to (r ∷ rs) = (from ≤ r.0) × (r.0 < r.1) × (r.1 ≤ to) × Apart (suc r.1) to rs

-- The laws. At every byte of a function the ranges of an interval have it exactly where its shown source is in the interval; they
-- are not empty, ascend, lie in the function and do not touch; and ranges that do all that are these.
abbrev pub RangesAreExact : Type 0
RangesAreExact = (f : Function) (start end byte : ℕ) → byte < f.length → have_byte (exact_ranges f start end) byte ≡ is_source_in start end (shown_source f byte)

abbrev pub RangesAreMaximal : Type 0
RangesAreMaximal = (f : Function) (start end : ℕ) → Apart 0 f.length (exact_ranges f start end)

abbrev pub ExactRangesAreThese : Type 0
ExactRangesAreThese = (f : Function) (start end : ℕ) (rs : List (ℕ × ℕ)) → Apart 0 f.length rs → ((byte : ℕ) → byte < f.length → have_byte rs byte ≡ is_source_in start end (shown_source f byte)) → rs ≡ exact_ranges f start end
