-- What a run may ask of a source and of a sink, and calls that its clauses refuse. The latest call stands first.
use Rattle.std.proofs.Common.{◌≡◌, ℕ, List, [], ◌∷◌, length, true, false, refl, sym, ap, arith}
use Rattle.std.proofs.lemmas.Bool.{true≢false}
use Rattle.dwc_cli.specs.Calls.{opening, passing, files_read, passed, ReadsPaths, WritesUntilFailure}

abbrev first : List ℕ
first = 109 ∷ []

abbrev second : List ℕ
second = 119 ∷ []

-- ---- of a source

-- two files, of three bytes and of none, are read to their ends
two_files : ReadsPaths 0 (first ∷ second ∷ []) 5 5 [] (passing 9 [] true ∷ opening second true ∷ passing 9 [] true ∷ passing 9 (7 ∷ 8 ∷ 7 ∷ []) true ∷ opening first true ∷ [])
two_files = record { opened = refl; not_idle = refl; failed = λ e. absurd (omega (arith, e)); well = λ _. refl; faultless = λ _. refl }

-- these are the bytes of both
read-two : files_read (passing 9 [] true ∷ opening second true ∷ passing 9 [] true ∷ passing 9 (7 ∷ 8 ∷ 7 ∷ []) true ∷ opening first true ∷ []) ≡ (7 ∷ 8 ∷ 7 ∷ []) ∷ [] ∷ []
read-two = refl

-- a file that is given in two pieces
read-pieces : files_read (passing 9 [] true ∷ passing 9 (8 ∷ []) true ∷ passing 9 (7 ∷ []) true ∷ opening first true ∷ []) ≡ (7 ∷ 8 ∷ []) ∷ []
read-pieces = refl

-- a file that is left before its end was not read, and a read into no room is no end
left-early : files_read (opening second true ∷ passing 9 (7 ∷ []) true ∷ opening first true ∷ []) ≡ []
left-early = refl

no-room : files_read (passing 0 [] true ∷ passing 9 (7 ∷ []) true ∷ opening first true ∷ []) ≡ []
no-room = refl

-- the second cannot be opened
one_file : ReadsPaths 3 (first ∷ second ∷ []) 5 6 [] (opening second false ∷ passing 9 [] true ∷ opening first true ∷ [])
one_file = record { opened = refl; not_idle = refl; failed = λ _. record { once = refl; last = refl }; well = λ other. absurd (other refl); faultless = λ other. absurd (other refl) }

-- a read behind a failed one, with status 0 and with status 3
again-read : ReadsPaths 0 (first ∷ []) 5 5 [] (passing 9 [] true ∷ passing 9 [] false ∷ opening first true ∷ []) → ⊥
again-read h = let well = h.well (λ e. omega (arith, e)) in omega (arith, well)

again-failed : ReadsPaths 3 (first ∷ []) 5 6 [] (passing 9 [] false ∷ passing 9 [] false ∷ opening first true ∷ []) → ⊥
again-failed h = let once = (h.failed refl).once in omega (arith, once)

-- a read behind the end of a file
behind-end : ReadsPaths 0 (first ∷ []) 5 5 [] (passing 9 [] true ∷ passing 9 [] true ∷ opening first true ∷ []) → ⊥
behind-end h = let idle = h.not_idle in omega (arith, idle)

-- a read into no room
into-no_room : ReadsPaths 0 (first ∷ []) 5 5 [] (passing 0 [] true ∷ passing 9 (7 ∷ []) true ∷ opening first true ∷ []) → ⊥
into-no_room h = let idle = h.not_idle in omega (arith, idle)

-- a file that is opened twice, and one that the words do not name
opened-twice : ReadsPaths 0 (first ∷ []) 5 5 [] (opening first true ∷ opening first true ∷ []) → ⊥
opened-twice h = let count = ap length h.opened in omega (arith, count)

opened-other : ReadsPaths 0 (first ∷ []) 5 5 [] (opening second true ∷ opening first true ∷ []) → ⊥
opened-other h = let count = ap length h.opened in omega (arith, count)

-- a fault that is counted though the status is another one
fault-passed : ReadsPaths 0 [] 5 6 [] [] → ⊥
fault-passed h = let same = h.faultless (λ e. omega (arith, e)) in omega (arith, same)

-- ---- of a sink

-- what a sink took of two pieces, the first in part
taken-parts : passed (passing 3 (9 ∷ []) true ∷ passing 2 (7 ∷ 8 ∷ []) true ∷ []) ≡ 7 ∷ 8 ∷ 9 ∷ []
taken-parts = refl

-- a write behind a failed one
again-written : WritesUntilFailure 8 5 6 [] (passing 2 (7 ∷ 8 ∷ []) true ∷ passing 9 [] false ∷ []) → ⊥
again-written h = true≢false (sym (h.failed refl).last)
