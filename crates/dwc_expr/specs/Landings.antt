-- Places of an expression as marks.
use Rattle.std.specs.Prelude.{◌≡◌, ℕ, List, [], ◌∷◌, ◌++◌, Bool, true, false, if◌then◌else◌, Vec, Option, Some, None, slice_index_or, slice_set}
use Rattle.std.specs.List.{flat_map}
use Rattle.std.specs.Global.{Global}
use Rattle.dwc_dwarf.specs.Values.{is_one_of}
use Rattle.dwc_dwarf.specs.Operations.{Operation}
use Rattle.dwc_native.specs.Parts.{Part, landing_pad, CompiledParts, parts_of, has_whole_jumps, targets}

-- marks with a place marked, if there is a mark for it
abbrev pub with_mark : ℕ → List Bool → List Bool
with_mark place marks = slice_set marks place true

-- with some places marked, one after another
abbrev pub marked_too : List ℕ → List Bool → List Bool
marked_too [] marks = marks
marked_too (place ∷ places) marks = marked_too places (with_mark place marks)

-- These marks stand for some places.
abbrev pub Mark : List Bool → List ℕ → Type 0
Mark marks places = (place : ℕ) → slice_index_or marks place false ≡ is_one_of places place

-- Each jump goes to an operation's place or to the end, and the marks are where they go; or some jump does not.
abbrev pub GivesLandings : ℕ → List Operation → Option (Vec Bool Global) → Type 0
GivesLandings size os (Some marks) = (has_whole_jumps size os ≡ true) × Mark marks.items (targets os)
GivesLandings size os None = has_whole_jumps size os ≡ false

-- a landing pad at a place that is marked
abbrev pub marked_pad : List Bool → ℕ → List Part
marked_pad marks place = if slice_index_or marks place false then landing_pad place ∷ [] else []

-- the parts of operations, each behind its landing pad
abbrev pub parts_behind_marks : Option CompiledParts → List Bool → List Operation → List Part
parts_behind_marks base marks os = flat_map (λ o. marked_pad marks o.place ++ parts_of base o) os
