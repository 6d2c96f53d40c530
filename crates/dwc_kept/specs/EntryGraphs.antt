-- What entries keep, by their numbers in file order. (This project's own rule, of `dwc_base/specs/Kept`.)
use Rattle.std.specs.Prelude.{◌≡◌, ◌≢◌, AllPairs, Contains, ℕ, ◌<◌, ◌==◌, List, [], ◌∷◌, length, get_or, map, if◌then◌else◌, Bool, false, ◌&&◌, ◌||◌, IsTrue, Option, Some, None}
use Rattle.std.specs.List.{list_any}
use Rattle.dwc_rules.specs.Kept.{Placed, keeps}
use Rattle.dwc_rules.specs.KeptEntries.{has_place, kept_with}

-- An entry: its offset in `.debug_info`, the number of its parent, the offsets that its references name, and whether it is a part of
-- its parent.
pub record Node : Type 0 where
  pub offset : ℕ
  pub parent : Option ℕ
  pub targets : List ℕ
  pub is_part : Bool

-- what stands at no number
abbrev pub no_node : Node
no_node = record { offset = 0; parent = None; targets = []; is_part = false }

-- the entry of a number
abbrev pub node : List Node → ℕ → Node
node ns i = get_or ns i no_node

-- whether a number is the one that may be given
abbrev pub is_number : ℕ → Option ℕ → Bool
is_number i None = false
is_number i (Some j) = j == i

-- an entry keeps its parent, the entries that its references name, and those of its children that are parts of it
abbrev pub keeps_number : List Node → ℕ → ℕ → Bool
keeps_number ns i j = is_number j (node ns i).parent || list_any (λ offset. offset == (node ns j).offset) (node ns i).targets || (is_number i (node ns j).parent && (node ns j).is_part)

-- whether a list of marks has a mark at a number
abbrev pub is_marked : List Bool → ℕ → Bool
is_marked marks i = get_or marks i false

-- a set of numbers holds the marked ones
abbrev pub Holds : List Node → List Bool → (ℕ → Bool) → Type 0
Holds ns marks set = (i : ℕ) → i < length ns → IsTrue (is_marked marks i) → IsTrue (set i)

-- a set of numbers holds what an entry in it keeps
abbrev pub IsClosedIn : List Node → (ℕ → Bool) → Type 0
IsClosedIn ns set = (i j : ℕ) → i < length ns → j < length ns → IsTrue (set i) → IsTrue (keeps_number ns i j) → IsTrue (set j)

-- Marks, one for each entry, are those of the least closed set that holds the required ones.
pub record AreLeastMarks (ns : List Node) (required marks : List Bool) : Type 0 where
  pub counted : length marks ≡ length ns
  pub required_marked : Holds ns required (is_marked marks)
  pub closed : IsClosedIn ns (is_marked marks)
  pub least : (set : ℕ → Bool) → Holds ns required set → IsClosedIn ns set → Holds ns marks set

-- Nodes are the graph of some entries: they stand at the entries' offsets, and keep what these keep.
pub record IsGraphOf (es : List Placed) (ns : List Node) : Type 0 where
  pub offsets : map (λ n. n.offset) ns ≡ map (λ e. e.entry.offset) es
  pub keeps_same : (i j : ℕ) (d : Placed) → i < length es → j < length es → keeps_number ns i j ≡ keeps es (get_or es i d) (get_or es j d)

-- marks say of each entry whether it is among some
abbrev pub SayWhich : List Placed → List Placed → List Bool → Type 0
SayWhich es some marks = (i : ℕ) (d : Placed) → i < length es → is_marked marks i ≡ has_place some (get_or es i d).entry.offset

-- The law: of entries at offsets of their own and their graph, the least marks from those of some required entries on are those of the
-- entries that are kept with these.
abbrev pub MarksAreKept : List Placed → List Node → List Placed → List Bool → List Bool → Type 0
MarksAreKept es ns required flags marks = AllPairs (λ e f. e.entry.offset ≢ f.entry.offset) es → ((e : Placed) → Contains required e → Contains es e) → IsGraphOf es ns → SayWhich es required flags → AreLeastMarks ns flags marks
    → SayWhich es (kept_with es required) marks

-- the offsets that are marked
abbrev pub marked_of : List ℕ → List Bool → List ℕ
marked_of [] marks = []
marked_of (offset ∷ offsets) [] = []
marked_of (offset ∷ offsets) (m ∷ marks) = if m then offset ∷ marked_of offsets marks else marked_of offsets marks

-- Offsets are those of the least set of entries that holds the required ones and what its entries keep.
pub record AreKeptOffsets (ns : List Node) (required : List Bool) (offsets : List ℕ) : Type 0 where
  pub marks : List Bool
  pub least : AreLeastMarks ns required marks
  pub marked : offsets ≡ marked_of (map (λ n. n.offset) ns) marks

-- The law: of entries at offsets of their own and their graph, these offsets are those of the entries that are kept with the required ones.
abbrev pub OffsetsAreKept : List Placed → List Node → List Placed → List Bool → List ℕ → Type 0
OffsetsAreKept es ns required flags offsets = AllPairs (λ e f. e.entry.offset ≢ f.entry.offset) es → ((e : Placed) → Contains required e → Contains es e) → IsGraphOf es ns → SayWhich es required flags → AreKeptOffsets ns flags offsets
    → offsets ≡ map (λ e. e.entry.offset) (kept_with es required)
