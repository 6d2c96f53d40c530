-- The rows of an image, run by run: which sources are passed, and which row the next one finds.
use Rattle.std.proofs.Common.{◌≡◌, ℕ, zero, suc, ◌+◌, ◌-◌, ◌<◌, ◌≤◌, refl, ap, sym, ◌∙◌, arith, List, [], ◌∷◌, map, length, drop, take, get_or, Option, Some, None, inl, inr}
use Rattle.std.specs.Prelude.{nat_lt, if◌then◌else◌, Bool, true, false, ◌⊎◌}
use Rattle.std.specs.List.Sorted.{IsNonDecreasingBy, IsPartitionPoint, IsPartitionedBy}
use Rattle.std.proofs.lemmas.Bool.{ltb-true, ltb-false, le-leb, lt-leb, eq-eqb, cases_lt}
use Rattle.std.proofs.lemmas.List.{drop_more, length-drop, get_or_default, get_or-take, get_or-drop, length-take-le}
use Rattle.std.proofs.lemmas.List.Sorted.{IsPartitionedBy-ltb}
use Rattle.dwc_base.specs.declared.records.LineRow.{LineRow}
use Rattle.dwc_native.specs.Functions.{Recorded}
use Rattle.dwc_addr.specs.declared.address_map.AddressMap.{AddressMap}
use Rattle.dwc_addr.specs.Runs.{recorded_view, run_starts}
use Rattle.dwc_image.specs.ImageRows.{last_at, found_at, with_found, move_row, image_rows}
use Rattle.dwc_image.specs.RunRows.{IsCut, RisesBetween, IsFirstBehind, AreRuns}
use Rattle.dwc_image.proofs.LookupLaws.{last_at-found, last_at-not_found}

-- what a look-up past the end of a list gives
abbrev pub no_source : AddressMap
no_source = record { generated = 0; wasm = 0 }

abbrev pub no_row : LineRow
no_row = record { offset = 0; file = 0; line = 0; column = 0; is_stmt = false; basic_block = false; prologue_end = false; epilogue_begin = false; isa = 0; discriminator = 0 }

-- a step of a list by what stands at a place
drop-at : {X : Type 0} (xs rest : List X) (k : ℕ) (x : X) → drop k xs ≡ x ∷ rest → (k < length xs) × ((d : X) → get_or xs k d ≡ x) × (drop (suc k) xs ≡ rest)
drop-at [] rest zero x h = absurd (cc)
drop-at [] rest (suc k) x h = absurd (cc)
drop-at (y ∷ ys) rest zero x h = (omega arith, λ d. cc, cc)
drop-at (y ∷ ys) rest (suc k) x h = let more = drop-at ys rest k x h in (omega (arith, more.0), more.1, more.2)

-- The places of the sources that lie below the one before split the sources into runs.
runs-from : (xs rest : List AddressMap) (from place before : ℕ) → drop place xs ≡ rest → from ≤ place → place ≤ length xs → RisesBetween (λ s. s.wasm) xs from place
    → ((i : ℕ) (d : AddressMap) → from ≤ i → i < place → (get_or xs i d).wasm ≤ before) → AreRuns (λ s. s.wasm) xs from (run_starts place before (map recorded_view rest))
runs-from xs [] from place before is low inside rises below =
    let end : length xs ≤ place = omega (arith, length-drop place xs, ap length is) in
    record { rises = λ i j d a b c. rises.rises i j d a b (omega arith) }
runs-from xs (e ∷ rest) from place before is low inside rises below =
    go (nat_lt e.wasm before) refl (λ first. runs-from xs rest first (suc place) e.wasm at.2)
  where
    at : (place < length xs) × ((d : AddressMap) → get_or xs place d ≡ e) × (drop (suc place) xs ≡ rest)
    at = drop-at xs rest place e is

    alone : RisesBetween (λ s. s.wasm) xs place (suc place)
    alone = record { rises = λ i j d a b c. let same : i ≡ j = omega arith in rw same (omega arith) }

    only : (i : ℕ) (d : AddressMap) → place ≤ i → i < suc place → (get_or xs i d).wasm ≤ e.wasm
    only i d a b = let same : i ≡ place = omega arith in rw (same, at.1 d) (omega arith)

    within : before ≤ e.wasm → (i : ℕ) (d : AddressMap) → from ≤ i → i < suc place → (get_or xs i d).wasm ≤ e.wasm
    within more i d a b = go (cases_lt i place)
      where
        go : (i < place) ⊎ (place ≤ i) → (get_or xs i d).wasm ≤ e.wasm
        go (inl less) = omega (arith, below i d a less, more)
        go (inr last) = only i d last b

    longer : before ≤ e.wasm → RisesBetween (λ s. s.wasm) xs from (suc place)
    longer more = record { rises = λ i j d a b c. step i j d a b c (cases_lt j place) }
      where
        step : (i j : ℕ) (d : AddressMap) → from ≤ i → i ≤ j → j < suc place → (j < place) ⊎ (place ≤ j) → (get_or xs i d).wasm ≤ (get_or xs j d).wasm
        step i j d a b c (inl less) = rises.rises i j d a b less
        step i j d a b c (inr last) = let same : j ≡ place = omega arith in rw (same, at.1 d) (within more i d a (omega arith))

    go : (b : Bool) → nat_lt e.wasm before ≡ b
        → ((first : ℕ) → first ≤ suc place → suc place ≤ length xs → RisesBetween (λ s. s.wasm) xs first (suc place) → ((i : ℕ) (d : AddressMap) → first ≤ i → i < suc place → (get_or xs i d).wasm ≤ e.wasm) → AreRuns (λ s. s.wasm) xs first (run_starts (suc place) e.wasm (map recorded_view rest)))
        → AreRuns (λ s. s.wasm) xs from (if b then place ∷ run_starts (suc place) e.wasm (map recorded_view rest) else run_starts (suc place) e.wasm (map recorded_view rest))
    go true less more = (low, inside, rises, more place (omega arith) (omega (arith, at.0)) alone only)
    go false less more = more from (omega arith) (omega (arith, at.0)) (longer (ltb-false e.wasm before less)) (within (ltb-false e.wasm before less))

pub runs-of : (xs : List AddressMap) → AreRuns (λ s. s.wasm) xs 0 (run_starts 0 0 (map recorded_view xs))
runs-of xs = runs-from xs xs 0 0 0 refl (omega arith) (omega arith) (record { rises = λ i j d a b c. absurd (omega arith) }) (λ i d a b. absurd (omega arith))

module _ (rows : List LineRow) (start : ℕ) where
  -- a source that adds no row
  pub record IsPassed (found : Option ℕ) (e : Recorded) : Type 0 where
    pub passes : (rest : Option ℕ → List LineRow) → with_found (λ r. r.offset) move_row rest found e.native (found_at (λ r. r.offset) rows start e) ≡ rest found

  -- sources in front of a limit, between two places, add no row
  pub record PassesBelow (found : Option ℕ) (xs : List AddressMap) (from end limit : ℕ) : Type 0 where
    pub passes : (k : ℕ) (d : AddressMap) → from ≤ k → k < end → (get_or xs k d).wasm < limit → IsPassed found (recorded_view (get_or xs k d))

  -- what the rows of an image are does not hang on sources that add none
  skip_some : (xs : List AddressMap) (found : Option ℕ) (m i : ℕ) → i + m ≤ length xs → ((k : ℕ) (d : AddressMap) → i ≤ k → k < i + m → IsPassed found (recorded_view (get_or xs k d)))
      → image_rows rows start found (map recorded_view (drop i xs)) ≡ image_rows rows start found (map recorded_view (drop (i + m) xs))
  skip_some xs found zero i inside all = ap (λ k. image_rows rows start found (map recorded_view (drop k xs))) (omega arith)
  skip_some xs found (suc m) i inside all =
      rw (drop_more xs i no_source (omega arith))
      ((all i no_source (omega arith) (omega arith)).passes (λ b. image_rows rows start b (map recorded_view (drop (i + 1) xs)))
      ∙ skip_some xs found m (i + 1) (omega arith) (λ k d a b. all k d (omega arith) (omega arith))
      ∙ ap (λ k. image_rows rows start found (map recorded_view (drop k xs))) (omega arith))

  pub skip_all : (xs : List AddressMap) (found : Option ℕ) (i j : ℕ) → i ≤ j → j ≤ length xs → ((k : ℕ) (d : AddressMap) → i ≤ k → k < j → IsPassed found (recorded_view (get_or xs k d)))
      → image_rows rows start found (map recorded_view (drop i xs)) ≡ image_rows rows start found (map recorded_view (drop j xs))
  skip_all xs found i j le inside all =
      let sum : i + (j - i) ≡ j = omega arith in
      skip_some xs found (j - i) i (omega arith) (λ k d a b. all k d a (omega arith)) ∙ ap (λ k. image_rows rows start found (map recorded_view (drop k xs))) sum

  -- the same where those in front of a limit add none
  pub skip : (xs : List AddressMap) (found : Option ℕ) (i j limit end : ℕ) → PassesBelow found xs i end limit → i ≤ j → j ≤ end → end ≤ length xs → ((k : ℕ) (d : AddressMap) → i ≤ k → k < j → (get_or xs k d).wasm < limit)
      → image_rows rows start found (map recorded_view (drop i xs)) ≡ image_rows rows start found (map recorded_view (drop j xs))
  skip xs found i j limit end below le high inside all = skip_all xs found i j le (omega arith) (λ k d a b. below.passes k d a (omega arith) (all k d a b))

  -- which row is found at an offset, by how many do not begin above it
  cut-found : (o count : ℕ) (d : LineRow) → IsCut rows o count → 0 < count → last_at (λ r. r.offset) rows o ≡ Some (get_or rows (count - 1) d)
  cut-found o count d h some = last_at-found (λ r. r.offset) rows o count d h.bound some (λ k e low high. le-leb _ _ (h.below k e high), λ k e low high. lt-leb _ _ (h.above k e low high))

  cut-none : (o : ℕ) → IsCut rows o 0 → last_at (λ r. r.offset) rows o ≡ None
  cut-none o h = last_at-not_found (λ r. r.offset) rows o 0 refl (λ k e low high. absurd (omega arith), λ k e low high. lt-leb _ _ (h.above k e low high))

  -- the step at a source that does not lie in front of the first row
  run-step : (xs : List AddressMap) (found : Option ℕ) (k count : ℕ) (e : AddressMap) (d : LineRow) → k < length xs → e ≡ get_or xs k e → start ≤ e.wasm → IsCut rows (e.wasm - start) count → 0 < count
      → image_rows rows start found (map recorded_view (drop k xs)) ≡ with_found (λ r. r.offset) move_row (λ b. image_rows rows start b (map recorded_view (drop (k + 1) xs))) found e.generated (Some (get_or rows (count - 1) d))
  run-step xs found k count e d inside is le cut some =
      rw (drop_more xs k e inside, ← is, le-leb start e.wasm le, cut-found (e.wasm - start) count d cut some) refl

  -- a source in front of the first row finds none
  first-passed : (found : Option ℕ) (e : AddressMap) → IsNonDecreasingBy (λ r. r.offset) rows → ((d : LineRow) → e.wasm < start + (get_or rows 0 d).offset) → IsPassed found (recorded_view e)
  first-passed found e order less = record { passes = λ rest. go (cases_lt e.wasm start) rest }
    where
      none : start ≤ e.wasm → last_at (λ r. r.offset) rows (e.wasm - start) ≡ None
      none le = cut-none (e.wasm - start) (record { bound = omega arith; below = λ k d a. absurd (omega arith); above = λ k d a b. omega (arith, less d, order 0 k d (omega arith) b) })

      go : (e.wasm < start) ⊎ (start ≤ e.wasm) → (rest : Option ℕ → List LineRow) → with_found (λ r. r.offset) move_row rest found e.generated (found_at (λ r. r.offset) rows start (recorded_view e)) ≡ rest found
      go (inl below) rest = rw (lt-leb start e.wasm below) refl
      go (inr le) rest = rw (le-leb start e.wasm le, none le) refl

  pub run-begins : (found : Option ℕ) (xs : List AddressMap) (from end offset : ℕ) → IsNonDecreasingBy (λ r. r.offset) rows → ((d : LineRow) → offset ≡ (get_or rows 0 d).offset) → PassesBelow found xs from end (start + offset)
  run-begins found xs from end offset order is = record { passes = λ k d a b less. first-passed found (get_or xs k d) order (λ e. omega (arith, less, is e)) }

  -- a source that is not below one, nor behind the next row, finds that one's row
  pub row-repeats : (count : ℕ) (e f : AddressMap) (d : LineRow) → start ≤ e.wasm → IsCut rows (e.wasm - start) count → 0 < count → e.wasm ≤ f.wasm → IsNonDecreasingBy (λ r. r.offset) rows
      → ((c : LineRow) → count < length rows → f.wasm < start + (get_or rows count c).offset) → IsPassed (Some (get_or rows (count - 1) d).offset) (recorded_view f)
  row-repeats count e f d le cut some rise order before = record { passes = λ rest. rw (le-leb start f.wasm (omega arith), cut-found (f.wasm - start) count d wider some, eq-eqb (get_or rows (count - 1) d).offset (get_or rows (count - 1) d).offset refl) refl }
    where
      wider : IsCut rows (f.wasm - start) count
      wider = record {
        bound = cut.bound;
        below = λ k c a. omega (arith, cut.below k c a);
        above = λ k c a b. omega (arith, before c (omega arith), order count k c a b);
      }

  -- where the run stands: sources in front of the row that is next add none
  pub record RunSoFar (xs : List AddressMap) (from end at offset : ℕ) (found : Option ℕ) : Type 0 where
    pub low : from ≤ at
    pub high : at ≤ end
    pub first : (d : LineRow) → (get_or rows 0 d).offset ≤ offset
    pub passed : PassesBelow found xs at end (start + offset)

  -- it stands at its begin
  pub RunSoFar-begins : (xs : List AddressMap) (from end offset : ℕ) (found : Option ℕ) (e : LineRow) → IsNonDecreasingBy (λ r. r.offset) rows → 0 < length rows → from ≤ end → offset ≡ (get_or rows 0 e).offset → RunSoFar xs from end from offset found
  RunSoFar-begins xs from end offset found e order some le is = record {
    low = omega arith;
    high = le;
    first = λ d. omega (arith, same d);
    passed = run-begins found xs from end offset order same;
  }
    where
      same : (d : LineRow) → offset ≡ (get_or rows 0 d).offset
      same d = is ∙ ap (λ r. r.offset) (get_or_default rows 0 e d some)

  -- a row is found at a source that does not lie in front of the first one
  cut-some : (o count : ℕ) (d : LineRow) → IsCut rows o count → 0 < length rows → (get_or rows 0 d).offset ≤ o → 0 < count
  cut-some o zero d cut some le = absurd (omega (arith, cut.above 0 d (omega arith) some))
  cut-some o (suc count) d cut some le = omega arith

  -- what the first source finds that does not lie in front of the next row
  pub record IsFound (xs : List AddressMap) (at k count : ℕ) (found : Option ℕ) (e : AddressMap) (d : LineRow) : Type 0 where
    pub le : start ≤ (get_or xs k e).wasm
    pub some : 0 < count
    pub step : image_rows rows start found (map recorded_view (drop at xs)) ≡ with_found (λ r. r.offset) move_row (λ b. image_rows rows start b (map recorded_view (drop (k + 1) xs))) found (get_or xs k e).generated (Some (get_or rows (count - 1) d))

  pub is-found : (xs : List AddressMap) (from end at offset k count : ℕ) (found : Option ℕ) (e : AddressMap) (d : LineRow) → RunSoFar xs from end at offset found → IsFirstBehind (λ s. s.wasm) xs at end (start + offset) k → k < end → end ≤ length xs
      → 0 < length rows → IsCut rows ((get_or xs k e).wasm - start) count → IsFound xs at k count found e d
  is-found xs from end at offset k count found e d run first less high full cut = record { le = le; some = some; step = passed ∙ step }
    where
      behind : start + offset ≤ (get_or xs k e).wasm
      behind = first.at e less

      le : start ≤ (get_or xs k e).wasm
      le = omega (arith, behind)

      some : 0 < count
      some = cut-some ((get_or xs k e).wasm - start) count d cut full (omega (arith, behind, run.first d))

      passed : image_rows rows start found (map recorded_view (drop at xs)) ≡ image_rows rows start found (map recorded_view (drop k xs))
      passed = skip xs found at k (start + offset) end run.passed first.low first.high high first.before

      step : image_rows rows start found (map recorded_view (drop k xs)) ≡ with_found (λ r. r.offset) move_row (λ b. image_rows rows start b (map recorded_view (drop (k + 1) xs))) found (get_or xs k e).generated (Some (get_or rows (count - 1) d))
      step = run-step xs found k count (get_or xs k e) d (omega arith) (sym (get_or_default xs k (get_or xs k e) e (omega arith))) le cut some

  -- behind a source it stands at the next one, and the next row
  pub RunSoFar-next : (xs : List AddressMap) (from end at count : ℕ) (e : AddressMap) (c d : LineRow) → IsNonDecreasingBy (λ r. r.offset) rows → RisesBetween (λ s. s.wasm) xs from end → end ≤ length xs → from ≤ at → at < end
      → start ≤ (get_or xs at e).wasm → IsCut rows ((get_or xs at e).wasm - start) count → 0 < count → count < length rows → RunSoFar xs from end (at + 1) (get_or rows count c).offset (Some (get_or rows (count - 1) d).offset)
  RunSoFar-next xs from end at count e c d order rises inside low high le cut some more = record {
    low = omega arith;
    high = omega arith;
    first = λ b. omega (arith, order 0 count b (omega arith) more, ap (λ r. r.offset) (get_or_default rows count b c more));
    passed = record {
      passes = λ k b a under less.
          row-repeats count (get_or xs at e) (get_or xs k b) d le cut some (higher k b a under) order (λ r h. omega (arith, less, ap (λ r. r.offset) (get_or_default rows count r c more)));
    };
  }
    where
      higher : (k : ℕ) (b : AddressMap) → at + 1 ≤ k → k < end → (get_or xs at e).wasm ≤ (get_or xs k b).wasm
      higher k b a under = omega (arith, rises.rises at k b low (omega arith) under, ap (λ s. s.wasm) (get_or_default xs at e b (omega arith)))

  -- where there is no next row, the sources behind it add none
  pub run-rest : (xs : List AddressMap) (from end at count : ℕ) (e : AddressMap) (d : LineRow) → IsNonDecreasingBy (λ r. r.offset) rows → RisesBetween (λ s. s.wasm) xs from end → end ≤ length xs → from ≤ at → at < end
      → start ≤ (get_or xs at e).wasm → IsCut rows ((get_or xs at e).wasm - start) count → 0 < count → count ≡ length rows
      → image_rows rows start (Some (get_or rows (count - 1) d).offset) (map recorded_view (drop (at + 1) xs)) ≡ image_rows rows start (Some (get_or rows (count - 1) d).offset) (map recorded_view (drop end xs))
  run-rest xs from end at count e d order rises inside low high le cut some all =
      skip_all xs _ (at + 1) end (omega arith) inside (λ k b a under. row-repeats count (get_or xs at e) (get_or xs k b) d le cut some (higher k b a under) order (λ r h. absurd (omega arith)))
    where
      higher : (k : ℕ) (b : AddressMap) → at + 1 ≤ k → k < end → (get_or xs at e).wasm ≤ (get_or xs k b).wasm
      higher k b a under = omega (arith, rises.rises at k b low (omega arith) under, ap (λ s. s.wasm) (get_or_default xs at e b (omega arith)))

-- the first place behind a limit, by a search in the part of a list between two places
module _ {X : Type 0} (n : X → ℕ) where
  part_at : (xs : List X) (from end i : ℕ) (d : X) → i < end - from → get_or (take (end - from) (drop from xs)) i d ≡ get_or xs (from + i) d
  part_at xs from end i d less = get_or-take (end - from) (drop from xs) i d less ∙ get_or-drop from xs i d

  part_length : (xs : List X) (from end : ℕ) → end ≤ length xs → length (take (end - from) (drop from xs)) ≡ end - from
  part_length xs from end inside = length-take-le (end - from) (drop from xs) (omega (arith, length-drop from xs))

  pub part-split : (xs : List X) (from end limit : ℕ) → end ≤ length xs → RisesBetween n xs from end → IsPartitionedBy (λ y. nat_lt (n y) limit) (take (end - from) (drop from xs))
  part-split xs from end limit inside rises = IsPartitionedBy-ltb n (take (end - from) (drop from xs)) limit (λ i j d le less.
      let high : j < end - from = omega (arith, part_length xs from end inside) in
      rw (part_at xs from end i d (omega arith), part_at xs from end j d high) (rises.rises (from + i) (from + j) d (omega arith) (omega arith) (omega arith)))

  pub first-behind : (xs : List X) (from end limit i : ℕ) → from ≤ end → end ≤ length xs → i ≤ length (take (end - from) (drop from xs)) → IsPartitionPoint (λ y. nat_lt (n y) limit ≡ true) (λ y. nat_lt (n y) limit ≡ false) (take (end - from) (drop from xs)) i → IsFirstBehind n xs from end limit (from + i)
  first-behind xs from end limit i low inside within h = record {
    low = omega arith;
    high = omega (arith, part_length xs from end inside);
    before = λ k d a b.
        let place : from + (k - from) ≡ k = omega arith in
        let here : get_or (take (end - from) (drop from xs)) (k - from) d ≡ get_or xs k d = part_at xs from end (k - from) d (omega (arith, part_length xs from end inside)) ∙ ap (λ j. get_or xs j d) place in
        rw (← here) (ltb-true _ limit (h.0 (k - from) d (omega arith) (omega arith)));
    at = λ d less.
        let here = part_at xs from end i d (omega arith) in
        rw (← here) (ltb-false _ limit (h.1 i d (omega arith) (omega (arith, part_length xs from end inside))));
  }

-- the first place behind a limit, by a search step by step
module _ {X : Type 0} (n : X → ℕ) (xs : List X) (from limit : ℕ) where
  -- what stands from a place on and in front of another is below a limit
  pub record AreBelow (at : ℕ) : Type 0 where
    pub below : (k : ℕ) (d : X) → from ≤ k → k < at → n (get_or xs k d) < limit

  pub below-more : (at : ℕ) (e : X) → AreBelow at → at < length xs → n (get_or xs at e) < limit → AreBelow (at + 1)
  below-more at e so_far inside less = record { below = λ k d a b. go k d a b (cases_lt k at) }
    where
      go : (k : ℕ) (d : X) → from ≤ k → k < at + 1 → (k < at) ⊎ (at ≤ k) → n (get_or xs k d) < limit
      go k d a b (inl before) = so_far.below k d a before
      go k d a b (inr last) = let same : k ≡ at = omega arith in rw same (omega (arith, less, ap n (get_or_default xs at d e inside)))

  pub below-found : (end at : ℕ) (e : X) → AreBelow at → from ≤ at → at < end → end ≤ length xs → limit ≤ n (get_or xs at e) → IsFirstBehind n xs from end limit at
  below-found end at e so_far low inside high behind = record {
    low = low;
    high = omega arith;
    before = so_far.below;
    at = λ d less. omega (arith, behind, ap n (get_or_default xs at d e (omega arith)));
  }

  pub below-ends : (end : ℕ) → AreBelow end → from ≤ end → IsFirstBehind n xs from end limit end
  below-ends end so_far low = record { low = low; high = omega arith; before = so_far.below; at = λ d less. absurd (omega arith) }

  -- where the numbers rise, all up to one that is below the limit are
  pub below-step : (end i : ℕ) (e : X) → RisesBetween n xs from end → i < end → end ≤ length xs → n (get_or xs i e) < limit → AreBelow (i + 1)
  below-step end i e rises high inside less = record {
    below = λ k d a b. omega (arith, rises.rises k i d a (omega arith) high, less, ap n (get_or_default xs i d e (omega arith)));
  }
