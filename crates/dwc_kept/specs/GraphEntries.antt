-- How a graph keeps its entries.
use Rattle.std.specs.Prelude.{◌≡◌, ◌⊎◌, ℕ, zero, suc, ◌*◌, ◌<◌, ◌≤◌, ◌^◌, ◌==◌, List, [], ◌∷◌, ◌++◌, length, get_or, drop, set, Bool, false, true, not, ◌&&◌, if◌then◌else◌, Option, Some, None, filter_map}
use Rattle.std.specs.List.{slice_range, position_from}
use Rattle.dwc_kept.specs.declared.graph_entry.GraphEntry.{GraphEntry}
use Rattle.dwc_kept.specs.EntryGraphs.{Node, is_marked}

-- what stands at no number
abbrev pub no_entry : GraphEntry
no_entry = record { offset = 0; parent = 0; first_target = 0; last_part = 0; previous_part = 0 }

-- the entry of a number
abbrev pub entry : List GraphEntry → ℕ → GraphEntry
entry es i = get_or es i no_entry

-- where the targets of the first of some entries begin, of so many targets in all
abbrev pub targets_start : List GraphEntry → ℕ → ℕ
targets_start [] size = size
targets_start (e ∷ es) size = e.first_target

-- the targets of an entry
abbrev pub targets_of : List GraphEntry → List ℕ → ℕ → List ℕ
targets_of es ts i = slice_range ts (entry es i).first_target (targets_start (drop (suc i) es) (length ts))

-- an entry of a number by its parent's number and its targets
abbrev pub node_seen : ℕ → GraphEntry → List ℕ → Node
node_seen number e targets = record { offset = e.offset; parent = if e.parent == number then None else Some e.parent; targets = targets; is_part = not (e.previous_part == number) }

-- the nodes of entries, the first of them with a number
abbrev pub nodes_seen : ℕ → List GraphEntry → List ℕ → List Node
nodes_seen number [] ts = []
nodes_seen number (e ∷ es) ts = node_seen number e (slice_range ts e.first_target (targets_start es (length ts))) ∷ nodes_seen (suc number) es ts

-- whether an entry is a part of another
abbrev pub is_part_number : List GraphEntry → ℕ → ℕ → Bool
is_part_number es p c = ((entry es c).parent == p) && (not (p == c) && not ((entry es c).previous_part == c))

-- A link to the last part of an entry below a number, or back to the entry where there is none.
pub record IsLink (es : List GraphEntry) (p bound link : ℕ) : Type 0 where
  pub low : p ≤ link
  pub high : link < bound
  pub last : (c : ℕ) → link < c → c < bound → is_part_number es p c ≡ false
  pub stands : (link ≡ p) ⊎ (is_part_number es p link ≡ true)

-- entries stand in file order
abbrev pub AreRising : List GraphEntry → Type 0
AreRising es = (i j : ℕ) → i < j → j < length es → (entry es i).offset < (entry es j).offset

-- the number of the first entry that stands at an offset or behind it
pub record IsFirstFrom (es : List GraphEntry) (offset number : ℕ) : Type 0 where
  pub high : number ≤ length es
  pub below : (k : ℕ) → k < number → (entry es k).offset < offset
  pub above : (k : ℕ) → number ≤ k → k < length es → offset ≤ (entry es k).offset

-- The first entries of blocks of 32 bytes; a block behind the last one has none.
pub record AreFirsts (es : List GraphEntry) (firsts : List ℕ) : Type 0 where
  pub first : (b : ℕ) → IsFirstFrom es (b * 32) (get_or firsts b (length es))

-- each block that had none, up to one, now has a number
pub record HasFirsts (block number : ℕ) (before after : List ℕ) : Type 0 where
  pub longer : length before ≤ length after
  pub same : (b d : ℕ) → b < length before → get_or after b d ≡ get_or before b d
  pub filled : (b d : ℕ) → length before ≤ b → b < length after → (b ≤ block) × (get_or after b d ≡ number)
  pub enough : block < length after

-- Entries stand behind their parents, and their parts are linked.
pub record AreLinked (es : List GraphEntry) : Type 0 where
  pub parents : (i : ℕ) → i < length es → (entry es i).parent ≤ i
  pub lasts : (p : ℕ) → p < length es → IsLink es p (length es) (entry es p).last_part
  pub previous : (p c : ℕ) → c < length es → is_part_number es p c ≡ true → IsLink es p c (entry es c).previous_part

-- The targets of entries stand one behind another among so many.
pub record HaveTargets (es : List GraphEntry) (size : ℕ) : Type 0 where
  pub starts : (i : ℕ) → i < length es → (entry es i).first_target ≤ targets_start (drop (suc i) es) size
  pub within : (i : ℕ) → i < length es → targets_start (drop (suc i) es) size ≤ size

-- the entries of a graph, with so many targets
pub record AreEntries (es : List GraphEntry) (size : ℕ) : Type 0 where
  pub few : length es ≤ 2 ^ 32
  pub rising : AreRising es
  pub linked : AreLinked es
  pub targets : HaveTargets es size

-- ---- marks, and the marked numbers that are still to be looked at, the next one last

pub record Marking : Type 0 where
  pub marks : List Bool
  pub stack : List ℕ

-- a number is marked, if it is not yet
abbrev pub mark : ℕ → Marking → Marking
mark i m = if is_marked m.marks i then m else record { marks = set m.marks i true; stack = m.stack ++ i ∷ [] }

-- some numbers are marked, one after another
abbrev pub mark_all : List ℕ → Marking → Marking
mark_all [] m = m
mark_all (i ∷ is) m = mark_all is (mark i m)

-- the number of the entry at an offset
abbrev pub number_at : List GraphEntry → ℕ → Option ℕ
number_at es offset = position_from (λ e. e.offset == offset) 0 es

-- the numbers of an entry's parts below a number, from the last on
abbrev pub parts_below : List GraphEntry → ℕ → ℕ → List ℕ
parts_below es p zero = []
parts_below es p (suc c) = if is_part_number es p c then c ∷ parts_below es p c else parts_below es p c

-- the numbers of what an entry keeps
abbrev pub kept_numbers : List GraphEntry → List ℕ → ℕ → List ℕ
kept_numbers es ts i = (entry es i).parent ∷ (filter_map (number_at es) (targets_of es ts i) ++ parts_below es i (length es))

-- the numbers that a list of tests begun at a number gives
abbrev pub numbers_from : ℕ → List Bool → List ℕ
numbers_from i [] = []
numbers_from i (t ∷ ts) = if t then i ∷ numbers_from (suc i) ts else numbers_from (suc i) ts

-- ---- one more entry

-- an entry is told the number of its last part
abbrev pub with_last : List GraphEntry → ℕ → ℕ → List GraphEntry
with_last es p last = set es p (record (entry es p) { last_part = last })

-- an entry behind others, by the number of its parent, or its own
abbrev pub next_entry : List GraphEntry → ℕ → ℕ → Bool → ℕ → GraphEntry
next_entry es offset parent is_part first_target = record { offset = offset; parent = parent; first_target = first_target; last_part = length es; previous_part = if is_part then (entry es parent).last_part else length es }

-- Entries with one more behind them.
abbrev pub with_entry : List GraphEntry → ℕ → ℕ → Bool → ℕ → List GraphEntry
with_entry es offset parent is_part first_target = if is_part then with_last (es ++ next_entry es offset parent is_part first_target ∷ []) parent (length es) else es ++ next_entry es offset parent is_part first_target ∷ []
