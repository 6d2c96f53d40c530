-- First entries of blocks, and the number of an entry among those of its block.
use Rattle.std.proofs.Common.{◌≡◌, ℕ, zero, suc, ◌+◌, ◌*◌, ◌<◌, ◌≤◌, ◌⊎◌, ◌≢◌, List, [], ◌∷◌, ◌++◌, length, get_or, refl, ap, ◌∙◌, inl, inr, arith, None}
use Rattle.std.specs.Prelude.{◌==◌}
use Rattle.std.proofs.lemmas.Bool.{ne_eqb, cases_lt, cases_order}
use Rattle.dwc_kept.specs.declared.graph_entry.GraphEntry.{GraphEntry}
use Rattle.dwc_kept.specs.GraphEntries.{no_entry, entry, AreRising, IsFirstFrom, AreFirsts, HasFirsts, number_at}
use Rattle.dwc_kept.proofs.NumberLaws.{from-none}

-- ---- an entry is made the first one of blocks

-- the blocks from some on, up to one, have a number so far
pub record HasFirstsSoFar (block number : ℕ) (before after : List ℕ) : Type 0 where
  pub longer : length before ≤ length after
  pub same : (b d : ℕ) → b < length before → get_or after b d ≡ get_or before b d
  pub filled : (b d : ℕ) → length before ≤ b → b < length after → (b ≤ block) × (get_or after b d ≡ number)

module _ (block number : ℕ) (before : List ℕ) where
  last-of : (xs : List ℕ) (x d : ℕ) → get_or (xs ++ x ∷ []) (length xs) d ≡ x
  last-of [] x d = refl
  last-of (y ∷ xs) x d = last-of xs x d

  longer-by : (xs : List ℕ) (x : ℕ) → length (xs ++ x ∷ []) ≡ length xs + 1
  longer-by [] x = refl
  longer-by (y ∷ xs) x = omega (arith, longer-by xs x)

  left-of : (xs : List ℕ) (x b d : ℕ) → b < length xs → get_or (xs ++ x ∷ []) b d ≡ get_or xs b d
  left-of [] x b d less = absurd (omega arith)
  left-of (y ∷ xs) x zero d less = refl
  left-of (y ∷ xs) x (suc b) d less = left-of xs x b d (omega arith)

  pub firsts-more : (after : List ℕ) → HasFirstsSoFar block number before after → length after ≤ block → HasFirstsSoFar block number before (after ++ number ∷ [])
  firsts-more after h le = record {
    longer = omega (arith, h.longer, longer-by after number);
    same = λ b d less. left-of after number b d (omega (arith, h.longer)) ∙ h.same b d less;
    filled = λ b d low less. go b d low (omega (arith, longer-by after number)) (cases_lt b (length after));
  }
    where
      go : (b d : ℕ) → length before ≤ b → b < length after + 1 → (b < length after) ⊎ (length after ≤ b) → (b ≤ block) × (get_or (after ++ number ∷ []) b d ≡ number)
      go b d low less (inl in_front) = let there = h.filled b d low in_front in (there.0, left-of after number b d in_front ∙ there.1)
      go b d low less (inr last) = let here : b ≡ length after = omega arith in (omega arith, ap (λ k. get_or (after ++ number ∷ []) k d) here ∙ last-of after number d)

  pub firsts-end : (after : List ℕ) → HasFirstsSoFar block number before after → block < length after → HasFirsts block number before after
  firsts-end after h enough = record { longer = h.longer; same = h.same; filled = h.filled; enough = enough }

-- ---- the first entries of blocks, entry by entry

module _ (es : List GraphEntry) where
  -- blocks of entries in front of one have their first ones, and entries in front of it stand in no other blocks
  pub record FirstsSoFar (i : ℕ) (firsts : List ℕ) : Type 0 where
    pub first : (b d : ℕ) → b < length firsts → IsFirstFrom es (b * 32) (get_or firsts b d)
    pub behind : (b k : ℕ) → length firsts ≤ b → k < i → (entry es k).offset < b * 32

  pub so_far-more : AreRising es → (i block : ℕ) (before after : List ℕ) → i < length es → block * 32 ≤ (entry es i).offset → (entry es i).offset < (block + 1) * 32 → FirstsSoFar i before → HasFirsts block i before after → FirstsSoFar (i + 1) after
  so_far-more rising i block before after inside low high h has = record { first = λ b d less. first b d less (cases_lt b (length before)); behind = λ b k le less. behind b k le (cases_order k i) less }
    where
      not_behind : (b k : ℕ) → b ≤ block → i ≤ k → k < length es → b * 32 ≤ (entry es k).offset
      not_behind b k le from less = go (cases_order i k)
        where
          go : (i ≡ k) ⊎ ((i < k) ⊎ (k < i)) → b * 32 ≤ (entry es k).offset
          go (inl same) = omega (arith, low, ap (λ j. (entry es j).offset) same)
          go (inr (inl more)) = omega (arith, low, rising i k more less)
          go (inr (inr more)) = absurd (omega arith)

      first : (b d : ℕ) → b < length after → (b < length before) ⊎ (length before ≤ b) → IsFirstFrom es (b * 32) (get_or after b d)
      first b d less (inl old) = rw (has.same b d old) (h.first b d old)
      first b d less (inr new) = let there = has.filled b d new less in rw there.1 (record { high = omega arith; below = λ k before. h.behind b k new before; above = λ k from within. not_behind b k there.0 from within })

      behind : (b k : ℕ) → length after ≤ b → (k ≡ i) ⊎ ((k < i) ⊎ (i < k)) → k < i + 1 → (entry es k).offset < b * 32
      behind b k le (inl same) less = omega (arith, high, has.enough, ap (λ j. (entry es j).offset) same)
      behind b k le (inr (inl before)) less = h.behind b k (omega (arith, has.longer)) before
      behind b k le (inr (inr more)) less = absurd (omega arith)

  past : (xs : List ℕ) (b d : ℕ) → length xs ≤ b → get_or xs b d ≡ d
  past [] b d le = refl
  past (x ∷ xs) zero d le = absurd (omega arith)
  past (x ∷ xs) (suc b) d le = past xs b d (omega arith)

  pub so_far-ends : (i : ℕ) (firsts : List ℕ) → length es ≤ i → FirstsSoFar i firsts → AreFirsts es firsts
  so_far-ends i firsts all h = record { first = λ b. go b (cases_lt b (length firsts)) }
    where
      go : (b : ℕ) → (b < length firsts) ⊎ (length firsts ≤ b) → IsFirstFrom es (b * 32) (get_or firsts b (length es))
      go b (inl less) = h.first b (length es) less
      go b (inr le) = rw (past firsts b (length es) le) (record { high = omega arith; below = λ k less. h.behind b k le (omega arith); above = λ k from less. absurd (omega arith) })

-- ---- the number of an entry

-- the entry at an offset stands in the offset's block
pub stands-between : (es : List GraphEntry) (firsts : List ℕ) (offset block k : ℕ) → AreFirsts es firsts → block * 32 ≤ offset → offset < (block + 1) * 32 → k < length es → (entry es k).offset ≡ offset
    → (get_or firsts block (length es) ≤ k) × (k < get_or firsts (block + 1) (length es))
stands-between es firsts offset block k h low high inside is = (from (cases_lt k (get_or firsts block (length es))), before (cases_lt k (get_or firsts (block + 1) (length es))))
  where
    from : (k < get_or firsts block (length es)) ⊎ (get_or firsts block (length es) ≤ k) → get_or firsts block (length es) ≤ k
    from (inl less) = absurd (omega (arith, low, is, (h.first block).below k less))
    from (inr le) = le

    before : (k < get_or firsts (block + 1) (length es)) ⊎ (get_or firsts (block + 1) (length es) ≤ k) → k < get_or firsts (block + 1) (length es)
    before (inl less) = less
    before (inr le) = absurd (omega (arith, high, is, (h.first (block + 1)).above k le inside))

-- no entry from one number on and in front of another stands at an offset
pub record IsNoneFrom (es : List GraphEntry) (offset first at : ℕ) : Type 0 where
  pub none : (k : ℕ) → first ≤ k → k < at → (entry es k).offset ≢ offset

pub none-more : (es : List GraphEntry) (offset first at : ℕ) → IsNoneFrom es offset first at → (entry es at).offset ≢ offset → IsNoneFrom es offset first (at + 1)
none-more es offset first at h differs = record { none = λ k low high is. go k low high is (cases_lt k at) }
  where
    go : (k : ℕ) → first ≤ k → k < at + 1 → (entry es k).offset ≡ offset → (k < at) ⊎ (at ≤ k) → ⊥
    go k low high is (inl less) = h.none k low less is
    go k low high is (inr le) = let same : at ≡ k = omega arith in differs (ap (λ j. (entry es j).offset) same ∙ is)

pub none-ends : (es : List GraphEntry) (offset first end at : ℕ) → IsNoneFrom es offset first at → end ≤ at → ((k : ℕ) → k < length es → (entry es k).offset ≡ offset → (first ≤ k) × (k < end)) → number_at es offset ≡ None
none-ends es offset first end at h all between = from-none (λ e. e.offset == offset) 0 no_entry es (λ m less. ne_eqb (entry es m).offset offset (λ is. let there = between m less is in h.none m there.0 (omega (arith, there.1, all)) is))
