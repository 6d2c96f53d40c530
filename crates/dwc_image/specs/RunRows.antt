-- What a search by halves finds among rows, and among the sources of a run.
use Rattle.std.specs.Prelude.{ℕ, ◌<◌, ◌≤◌, List, [], ◌∷◌, length, slice_index_or}
use Rattle.dwc_base.specs.declared.records.LineRow.{LineRow}

-- so many rows do not begin above an offset, and the others do
pub record IsCut (rows : List LineRow) (offset count : ℕ) : Type 0 where
  pub bound : count ≤ length rows
  pub below : (k : ℕ) (d : LineRow) → k < count → (slice_index_or rows k d).offset ≤ offset
  pub above : (k : ℕ) (d : LineRow) → count ≤ k → k < length rows → offset < (slice_index_or rows k d).offset

module _ {X : Type 0} (n : X → ℕ) where
  -- the number does not fall between two places
  pub record RisesBetween (xs : List X) (from end : ℕ) : Type 0 where
    pub rises : (i j : ℕ) (d : X) → from ≤ i → i ≤ j → j < end → n (slice_index_or xs i d) ≤ n (slice_index_or xs j d)

  -- the first place between two whose number is not below a limit
  pub record IsFirstBehind (xs : List X) (from end limit k : ℕ) : Type 0 where
    pub low : from ≤ k
    pub high : k ≤ end
    pub before : (i : ℕ) (d : X) → from ≤ i → i < k → n (slice_index_or xs i d) < limit
    pub at : (d : X) → k < end → limit ≤ n (slice_index_or xs k d)

  -- a list is runs, of which the first begins at a place, and the later ones at others
  abbrev pub AreRuns : List X → ℕ → List ℕ → Type 0
  AreRuns xs from [] = RisesBetween xs from (length xs)
  AreRuns xs from (p ∷ ps) = (from ≤ p) × (p ≤ length xs) × RisesBetween xs from p × AreRuns xs p ps
