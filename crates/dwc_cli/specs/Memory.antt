-- A source and a sink in memory, as values.
use Rattle.std.specs.Prelude.{◌≡◌, ℕ, ◌+◌, ◌-◌, ◌^◌, ◌==◌, min, max, nat_lt, Bool, true, false, ◌&&◌, List, [], ◌∷◌, ◌++◌, take, drop, length, string_bytes, String, Vec, if◌then◌else◌, Option, Some, None, option_map, is_some, slice_get, replicate}
use Rattle.std.specs.Global.{Global}
use Rattle.std.specs.List.{list_any}
use Rattle.std.specs.Ordering.{nat_cmp}
use Rattle.std.specs.Cmp.Lexicographic.{slice_cmp}
use Rattle.std.specs.FinMap as finite
use Rattle.dwc_cli.specs.declared.opened.Opened.{Opened}
use Rattle.dwc_cli.specs.Calls.{Call, opening, passing}
use Rattle.dwc_cli.specs.RunStatus.{Files}

-- one more, up to the type's end
abbrev pub one_more : ℕ → ℕ
one_more n = min (n + 1) (2 ^ 64 - 1)

-- so many more, up to the type's end
abbrev pub more : ℕ → ℕ → ℕ
more n count = min (n + count) (2 ^ 64 - 1)

-- whether the call after so many is to fail
abbrev pub next_fails : ℕ → List ℕ → Bool
next_fails calls failing = list_any (λ number. number == one_more calls) failing

-- ---- the source that fails at calls of one's choice

pub record MemorySource : Type 0 where
  pub files : List (List ℕ × List ℕ)
  pub failing : List ℕ
  pub left : Option (List ℕ)
  pub taken : ℕ
  pub longest : ℕ
  pub calls : ℕ
  pub faults : ℕ
  pub asked : List Call

-- a file's path and its bytes
abbrev pub file_entry : String Global × Vec ℕ Global → List ℕ × List ℕ
file_entry file = (string_bytes file.0, file.1.items)

abbrev pub memory_source : List (List ℕ × List ℕ) → List ℕ → MemorySource
memory_source files failing = record { files = files; failing = failing; left = None; taken = 0; longest = 0; calls = 0; faults = 0; asked = [] }

-- the files by their paths; of two equal paths the first counts
abbrev pub files_of : List (List ℕ × List ℕ) → Files
files_of files = finite.from_entries files

-- a file that was opened, and of which nothing was given
abbrev pub at_front : ℕ → Opened
at_front file = record { file = file; place = 0 }

-- what is left of the file that was opened
abbrev pub left_of : List (String Global × Vec ℕ Global) → Option Opened → Option (List ℕ)
left_of files None = None
left_of files (Some opened) = option_map (λ file. drop opened.place file.1.items) (slice_get files opened.file)

-- the bytes of the file that the next call opens, none where it fails
abbrev pub opens : MemorySource → List ℕ → Option (List ℕ)
opens s path = if next_fails s.calls s.failing then None else finite.find (slice_cmp nat_cmp) path s.files

abbrev pub after_open : MemorySource → List ℕ → MemorySource
after_open s path = record s { left = opens s path; taken = 0; calls = one_more s.calls; faults = if is_some (opens s path) then s.faults else one_more s.faults; asked = opening path (is_some (opens s path)) ∷ s.asked }

-- what a read of the next call goes on from, none where it fails
abbrev pub reads_from : MemorySource → Option (List ℕ)
reads_from s = if next_fails s.calls s.failing then None else s.left

-- what is left after a read, how many bytes it gives, and the first of them in the buffer; where it fails, nothing changes
abbrev pub GivesFront : Option (List ℕ) → Option (List ℕ) → Option (List ℕ) → List ℕ → Option ℕ → Type 0
GivesFront None old new buffer None = new ≡ old
GivesFront None old new buffer (Some n) = ⊥
GivesFront (Some rest) old new buffer None = ⊥
GivesFront (Some rest) old None buffer (Some n) = ⊥
GivesFront (Some rest) old (Some now) buffer (Some n) = (n ≡ min (length buffer) (length rest)) × (take n buffer ≡ take n rest) × (now ≡ drop n rest)

abbrev pub after_giving : MemorySource → ℕ → Option (List ℕ) → MemorySource
after_giving s room None = record s { calls = one_more s.calls; faults = one_more s.faults; asked = passing room [] false ∷ s.asked }
after_giving s room (Some rest) =
    let count = min room (length rest) in
    record s { left = Some (drop count rest); taken = more s.taken count; longest = max s.longest (more s.taken count); calls = one_more s.calls; asked = passing room (take count rest) true ∷ s.asked }

-- a read into a buffer with so much room gives as many bytes as are left and fit it
abbrev pub after_read : MemorySource → ℕ → MemorySource
after_read s room = after_giving s room (reads_from s)

-- ---- a source in memory that fails only where it must

pub record PlainFiles : Type 0 where
  pub files : List (List ℕ × List ℕ)
  pub left : Option (List ℕ)
  pub taken : ℕ
  pub longest : ℕ
  pub faults : ℕ
  pub asked : List Call

abbrev pub plain_files : List (List ℕ × List ℕ) → PlainFiles
plain_files files = record { files = files; left = None; taken = 0; longest = 0; faults = 0; asked = [] }

-- the bytes of the first file with a path
abbrev pub plain_bytes : PlainFiles → List ℕ → Option (List ℕ)
plain_bytes s path = finite.find (slice_cmp nat_cmp) path s.files

abbrev pub after_plain_open : PlainFiles → List ℕ → PlainFiles
after_plain_open s path = record s { left = plain_bytes s path; taken = 0; faults = if is_some (plain_bytes s path) then s.faults else one_more s.faults; asked = opening path (is_some (plain_bytes s path)) ∷ s.asked }

-- a read into a buffer with so much room, of what is left
abbrev pub after_plain_giving : PlainFiles → ℕ → Option (List ℕ) → PlainFiles
after_plain_giving s room None = record s { faults = one_more s.faults; asked = passing room [] false ∷ s.asked }
after_plain_giving s room (Some rest) =
    let count = min room (length rest) in
    record s { left = Some (drop count rest); taken = more s.taken count; longest = max s.longest (more s.taken count); asked = passing room (take count rest) true ∷ s.asked }

abbrev pub after_plain_read : PlainFiles → ℕ → PlainFiles
after_plain_read s room = after_plain_giving s room s.left

-- ---- a source of which every path is a file of so many zero bytes

pub record LongFiles : Type 0 where
  pub file_length : ℕ
  pub zeros : Option ℕ
  pub taken : ℕ
  pub longest : ℕ
  pub faults : ℕ
  pub asked : List Call

abbrev pub long_files : ℕ → LongFiles
long_files file_length = record { file_length = file_length; zeros = None; taken = 0; longest = 0; faults = 0; asked = [] }

-- what is left of an opened file
abbrev pub zeros_left : Option ℕ → Option (List ℕ)
zeros_left zeros = option_map (λ count. replicate count 0) zeros

abbrev pub after_long_open : LongFiles → List ℕ → LongFiles
after_long_open s path = record s { zeros = Some s.file_length; taken = 0; asked = opening path true ∷ s.asked }

-- a read into a buffer with so much room, where so many zeros are left
abbrev pub after_long_giving : LongFiles → ℕ → Option ℕ → LongFiles
after_long_giving s room None = record s { faults = one_more s.faults; asked = passing room [] false ∷ s.asked }
after_long_giving s room (Some zeros) =
    let count = min room zeros in
    record s { zeros = Some (zeros - count); taken = more s.taken count; longest = max s.longest (more s.taken count); asked = passing room (replicate count 0) true ∷ s.asked }

abbrev pub after_long_read : LongFiles → ℕ → LongFiles
after_long_read s room = after_long_giving s room s.zeros

-- ---- the sink

pub record MemorySink : Type 0 where
  pub written : List ℕ
  pub room : ℕ
  pub most : ℕ
  pub failing : List ℕ
  pub calls : ℕ
  pub faults : ℕ
  pub asked : List Call

abbrev pub memory_sink : ℕ → ℕ → List ℕ → MemorySink
memory_sink room most failing = record { written = []; room = room; most = most; failing = failing; calls = 0; faults = 0; asked = [] }

-- how many bytes of a piece fit: at most `most`, and `room` in all
abbrev pub fitting : MemorySink → List ℕ → ℕ
fitting s piece = min (length piece) (min s.most (s.room - length s.written))

-- how many bytes of a piece the next call takes, none where it fails: it is to fail, or none of some bytes fit
abbrev pub takes : MemorySink → List ℕ → Option ℕ
takes s piece =
    if next_fails s.calls s.failing
    then None
    else (if nat_lt 0 (length piece) && (fitting s piece == 0) then None else Some (fitting s piece))

abbrev pub after_taking : MemorySink → List ℕ → Option ℕ → MemorySink
after_taking s piece None = record s { calls = one_more s.calls; faults = one_more s.faults; asked = passing (length piece) [] false ∷ s.asked }
after_taking s piece (Some n) = record s { written = s.written ++ take n piece; calls = one_more s.calls; asked = passing (length piece) (take n piece) true ∷ s.asked }

abbrev pub after_write : MemorySink → List ℕ → MemorySink
after_write s piece = after_taking s piece (takes s piece)
