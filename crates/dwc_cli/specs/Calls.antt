-- The calls that are made of a source or of a sink, in a list with the latest first, and the bytes that they pass.
use Rattle.std.specs.Prelude.{◌≡◌, ◌<◌, ℕ, zero, suc, ◌+◌, length, Bool, true, false, not, if◌then◌else◌, List, [], ◌∷◌, ◌++◌, take, Option, Some, None, Result, Ok, Err, OnOk, OnErr}

-- a call: an opening of the file at a path; or a read or a write, with the length of its buffer, that passes some bytes. And whether it was answered well
pub data Call : Type 0 where
  opening : List ℕ → Bool → Call
  passing : ℕ → List ℕ → Bool → Call

-- a call by the numbers of its kind and of its buffer's length, and its path or the bytes that it passes
abbrev pub call_of : List ℕ → List ℕ → Call
call_of (zero ∷ numbers) bytes = opening bytes true
call_of (suc zero ∷ numbers) bytes = opening bytes false
call_of (suc (suc zero) ∷ room ∷ numbers) bytes = passing room bytes true
call_of (suc (suc (suc kind)) ∷ room ∷ numbers) bytes = passing room [] false
call_of numbers bytes = passing 0 [] false

-- the opening of a path that is answered so
abbrev pub opening_of : {T E : Type 0} → List ℕ → Result T E → Call
opening_of path (Ok x) = opening path true
opening_of path (Err e) = opening path false

-- a read or a write that is answered so, by its buffer
abbrev pub passing_of : {E : Type 0} → Result ℕ E → List ℕ → Call
passing_of (Ok count) buffer = passing (length buffer) (take count buffer) true
passing_of (Err e) buffer = passing (length buffer) [] false

-- the paths that were opened, in order
abbrev pub openings : List Call → List (List ℕ)
openings [] = []
openings (opening path well ∷ calls) = openings calls ++ path ∷ []
openings (passing room bytes well ∷ calls) = openings calls

-- the path that was opened last
abbrev pub last_opened : List Call → Option (List ℕ)
last_opened [] = None
last_opened (opening path well ∷ calls) = Some path
last_opened (passing room bytes well ∷ calls) = last_opened calls

-- how many calls failed
abbrev pub failures : List Call → ℕ
failures [] = 0
failures (opening path well ∷ calls) = if well then failures calls else failures calls + 1
failures (passing room bytes well ∷ calls) = if well then failures calls else failures calls + 1

-- whether the latest call failed
abbrev pub has_failed : List Call → Bool
has_failed [] = false
has_failed (opening path well ∷ calls) = not well
has_failed (passing room bytes well ∷ calls) = not well

-- whether more may be read: the latest call opened a file, or gave bytes of it
abbrev pub reads_on : List Call → Bool
reads_on [] = false
reads_on (opening path well ∷ calls) = well
reads_on (passing room [] well ∷ calls) = false
reads_on (passing room (b ∷ bs) well ∷ calls) = well

-- how many reads came where no more was to be read: behind the end of a file, behind a failure, before any opening, or into no room
abbrev pub idle_reads : List Call → ℕ
idle_reads [] = 0
idle_reads (opening path well ∷ calls) = idle_reads calls
idle_reads (passing zero bytes well ∷ calls) = idle_reads calls + 1
idle_reads (passing (suc room) bytes well ∷ calls) = if reads_on calls then idle_reads calls else idle_reads calls + 1

-- the bytes that were passed, in order
abbrev pub passed : List Call → List ℕ
passed [] = []
passed (opening path well ∷ calls) = passed calls
passed (passing room bytes well ∷ calls) = passed calls ++ bytes

-- the bytes that were read since the last opening
abbrev pub read_since : List Call → List ℕ
read_since [] = []
read_since (opening path well ∷ calls) = []
read_since (passing room bytes well ∷ calls) = read_since calls ++ bytes

-- the bytes of the files that were read to their ends, in order: a read that has room and gives no byte is a file's end
abbrev pub files_read : List Call → List (List ℕ)
files_read [] = []
files_read (opening path well ∷ calls) = files_read calls
files_read (passing zero bytes well ∷ calls) = files_read calls
files_read (passing (suc room) [] false ∷ calls) = files_read calls
files_read (passing (suc room) [] true ∷ calls) = files_read calls ++ read_since calls ∷ []
files_read (passing (suc room) (b ∷ bs) well ∷ calls) = files_read calls

-- fewer files than so many were read to their ends
abbrev pub ReadsFewer : ℕ → List Call → List Call → Type 0
ReadsFewer count before now = (few : List (List ℕ)) × (files_read now ≡ files_read before ++ few) × (length few < count)

-- one call failed, the latest
pub record FailsLast (before now : List Call) : Type 0 where
  pub once : failures now ≡ failures before + 1
  pub last : has_failed now ≡ true

-- no call failed, or one did, the latest, by the answer
pub record EndsAtFailure {T E : Type 0} (before now : List Call) (result : Result T E) : Type 0 where
  pub well : OnOk result (failures now ≡ failures before)
  pub once : OnErr result (failures now ≡ failures before + 1)
  pub last : OnErr result (has_failed now ≡ true)

-- What is asked of a source by what ends with a status: these paths are opened, each once and in order, and each file is read to its end at
-- most. Where a call fails it is the last one, and the status is 3.
pub record ReadsPaths (status : ℕ) (paths : List (List ℕ)) (faults_before faults_now : ℕ) (before now : List Call) : Type 0 where
  pub opened : openings now ≡ openings before ++ paths
  pub not_idle : idle_reads now ≡ idle_reads before
  pub failed : status ≡ 3 → FailsLast before now
  pub well : (status ≡ 3 → ⊥) → failures now ≡ failures before
  pub faultless : (status ≡ 3 → ⊥) → faults_now ≡ faults_before

-- the same of a front of these paths
abbrev pub ReadsFront : ℕ → List (List ℕ) → ℕ → ℕ → List Call → List Call → Type 0
ReadsFront status paths faults_before faults_now before now = (count : ℕ) × ReadsPaths status (take count paths) faults_before faults_now before now

-- What is asked of a sink by what ends with a status: where a write fails it is the last one, and the status is 8.
pub record WritesUntilFailure (status faults_before faults_now : ℕ) (before now : List Call) : Type 0 where
  pub failed : status ≡ 8 → FailsLast before now
  pub well : (status ≡ 8 → ⊥) → failures now ≡ failures before
  pub faultless : (status ≡ 8 → ⊥) → faults_now ≡ faults_before
