-- Names that stand one behind another in one list of bytes, and files by their names and directories.
use Rattle.std.proofs.Common.{◌≡◌, ℕ, zero, suc, ◌+◌, ◌-◌, ◌<◌, ◌≤◌, refl, sym, ap, ◌∙◌, arith, List, [], ◌∷◌, ◌++◌, append_assoc, length, length-append, take, drop}
use Rattle.std.specs.Prelude.{slice_index_or}
use Rattle.std.specs.List.{flat_map, slice_range}
use Rattle.std.proofs.lemmas.List.{at_drop_more}
use Rattle.dwc_dwarf.specs.LineHeaders.{LineFile}
use Rattle.dwc_unit.specs.SpelledLines.{file_bytes}
use Rattle.dwc_unit.specs.NameViews.{cut, AreEnds, start_at, files_of}

pub cut-length : (start : ℕ) (es bytes : List ℕ) → length (cut start es bytes) ≡ length es
cut-length start [] bytes = refl
cut-length start (e ∷ es) bytes = ap suc (cut-length e es bytes)

-- a name begins where the one before it ends
pub start-behind : (start : ℕ) (es : List ℕ) (i d : ℕ) → i < length es → slice_index_or es i d ≡ start_at start es (suc i)
start-behind start [] i d inside = absurd (omega (arith, inside))
start-behind start (e ∷ es) zero d inside = refl
start-behind start (e ∷ es) (suc i) d inside = start-behind e es i d (omega (arith, inside))

start-most : (start : ℕ) (es : List ℕ) (size : ℕ) → AreEnds start es size → start ≤ size
start-most start [] size ends = omega (arith, ends)
start-most start (e ∷ es) size ends = omega (arith, ends.0, start-most e es size ends.1)

-- where it begins and ends
pub bounds : (start : ℕ) (es : List ℕ) (size i d : ℕ) → AreEnds start es size → i < length es → (start_at start es i ≤ slice_index_or es i d) × (slice_index_or es i d ≤ size)
bounds start [] size i d ends inside = absurd (omega (arith, inside))
bounds start (e ∷ es) size zero d ends inside = (ends.0, start-most e es size ends.1)
bounds start (e ∷ es) size (suc i) d ends inside = bounds e es size i d ends.1 (omega (arith, inside))

pub name-at : (start : ℕ) (es bytes : List ℕ) (i d : ℕ) (n : List ℕ) → i < length es → slice_range bytes (start_at start es i) (slice_index_or es i d) ≡ slice_index_or (cut start es bytes) i n
name-at start [] bytes i d n inside = absurd (omega (arith, inside))
name-at start (e ∷ es) bytes zero d n inside = refl
name-at start (e ∷ es) bytes (suc i) d n inside = name-at e es bytes i d n (omega (arith, inside))

-- ---- a name behind the others

take-all : (name : List ℕ) → take (length name) name ≡ name
take-all [] = refl
take-all (b ∷ name) = ap (λ bs. b ∷ bs) (take-all name)

behind : (bytes name : List ℕ) → take (length name) (drop (length bytes) (bytes ++ name)) ≡ name
behind [] name = take-all name
behind (b ∷ bytes) name = behind bytes name

front : (start n : ℕ) (bytes name : List ℕ) → start + n ≤ length bytes → take n (drop start (bytes ++ name)) ≡ take n (drop start bytes)
front zero zero bytes name inside = refl
front zero (suc n) [] name inside = absurd (omega (arith, inside))
front zero (suc n) (b ∷ bytes) name inside = ap (λ bs. b ∷ bs) (front zero n bytes name (omega (arith, inside)))
front (suc start) n [] name inside = absurd (omega (arith, inside))
front (suc start) n (b ∷ bytes) name inside = front start n bytes name (omega (arith, inside))

cut-push : (start : ℕ) (es bytes name : List ℕ) (n : ℕ) → AreEnds start es (length bytes) → n ≡ length bytes + length name → cut start (es ++ n ∷ []) (bytes ++ name) ≡ cut start es bytes ++ name ∷ []
cut-push start [] bytes name n ends is =
    let size : n - start ≡ length name = omega (arith, is, ends) in
    ap (λ x. x ∷ []) (ap (λ k. take k (drop start (bytes ++ name))) size ∙ ap (λ s. take (length name) (drop s (bytes ++ name))) ends ∙ behind bytes name)
cut-push start (e ∷ es) bytes name n ends is =
    let low = start-most e es (length bytes) ends.1 in
    let same : slice_range (bytes ++ name) start e ≡ slice_range bytes start e = front start (e - start) bytes name (omega (arith, low, ends.0)) in
    ap (λ x. x ∷ cut e (es ++ n ∷ []) (bytes ++ name)) same ∙ ap (λ xs. slice_range bytes start e ∷ xs) (cut-push e es bytes name n ends.1 is)

ends-push : (start : ℕ) (es : List ℕ) (size n : ℕ) → AreEnds start es size → size ≤ n → AreEnds start (es ++ n ∷ []) n
ends-push start [] size n ends more = (omega (arith, ends, more), refl)
ends-push start (e ∷ es) size n ends more = (ends.0, ends-push e es size n ends.1 more)

module _ (es now bytes more name : List ℕ) (n : ℕ) (ends : AreEnds 0 es (length bytes)) (longer : more ≡ bytes ++ name) (at : n ≡ length more) (pushed : now ≡ es ++ n ∷ []) where
  size : n ≡ length bytes + length name
  size = at ∙ ap length longer ∙ length-append bytes name

  pub push-is : cut 0 now more ≡ cut 0 es bytes ++ name ∷ []
  push-is = rw (pushed, longer) (cut-push 0 es bytes name n ends size)

  pub push-kept : AreEnds 0 now (length more)
  push-kept = rw (pushed, ← at) (ends-push 0 es (length bytes) n ends (omega (arith, size)))

-- ---- files

pub files-length : (ns : List (List ℕ)) (ds : List ℕ) → length ns ≡ length ds → length (files_of ns ds) ≡ length ds
files-length [] ds same = same
files-length (n ∷ ns) [] same = refl
files-length (n ∷ ns) (d ∷ ds) same = ap suc (files-length ns ds (omega (arith, same)))

pub files-at : (ns : List (List ℕ)) (ds : List ℕ) (i : ℕ) (f : LineFile) (n : List ℕ) (d : ℕ) → length ns ≡ length ds → i < length ds → record { directory = slice_index_or ds i d; name = slice_index_or ns i n } ≡ slice_index_or (files_of ns ds) i f
files-at [] ds i f n d same inside = absurd (omega (arith, same, inside))
files-at (x ∷ ns) [] i f n d same inside = absurd (omega (arith, inside))
files-at (x ∷ ns) (y ∷ ds) zero f n d same inside = refl
files-at (x ∷ ns) (y ∷ ds) (suc i) f n d same inside = files-at ns ds i f n d (omega (arith, same)) (omega (arith, inside))

pub files-push : (ns : List (List ℕ)) (ds : List ℕ) (n : List ℕ) (d : ℕ) → length ns ≡ length ds → files_of (ns ++ n ∷ []) (ds ++ d ∷ []) ≡ files_of ns ds ++ record { directory = d; name = n } ∷ []
files-push [] [] n d same = refl
files-push [] (y ∷ ds) n d same = absurd (omega (arith, same))
files-push (x ∷ ns) [] n d same = absurd (omega (arith, same))
files-push (x ∷ ns) (y ∷ ds) n d same = ap (λ fs. record { directory = y; name = x } ∷ fs) (files-push ns ds n d (omega (arith, same)))

-- a file more is written
pub files-more : (fs : List LineFile) (i : ℕ) (n : List ℕ) (d : ℕ) (out now whole : List ℕ) → i < length fs → ((f : LineFile) → n ≡ (slice_index_or fs i f).name) → ((f : LineFile) → d ≡ (slice_index_or fs i f).directory)
    → now ≡ out ++ file_bytes (record { directory = d; name = n }) → out ++ flat_map file_bytes (drop i fs) ≡ whole → now ++ flat_map file_bytes (drop (i + 1) fs) ≡ whole
files-more fs i n d out now whole inside named numbered is left =
    let f : LineFile = record { directory = d; name = n } in
    let x : LineFile = slice_index_or fs i f in
    let same : now ≡ out ++ file_bytes x = is ∙ ap (λ (name : List ℕ). out ++ file_bytes (record { directory = d; name = name })) (named f) ∙ ap (λ k. out ++ file_bytes (record { directory = k; name = x.name })) (numbered f) in
    ap (λ bytes. bytes ++ flat_map file_bytes (drop (i + 1) fs)) same ∙ append_assoc out (file_bytes x) (flat_map file_bytes (drop (i + 1) fs)) ∙ sym (at_drop_more (λ t. out ++ flat_map file_bytes t) fs i f inside) ∙ left
