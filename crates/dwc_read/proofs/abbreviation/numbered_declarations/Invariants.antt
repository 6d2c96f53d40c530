use Rattle.std.proofs.Common.{◌≡◌, ℕ, List, drop, length, map}
use Rattle.dwc_read.specs.Tables.{declaration_view}
use Rattle.dwc_read.proofs.NumberedLaws.{AreSoFar}
use Rattle.dwc_read.proofs.abbreviation.numbered_declarations.Given as goal

abbrev pub invariant-loop-declarations : goal.invariant-loop-declarations
invariant-loop-declarations l = (bytes : List ℕ) → l.fn.cursor.left ≡ drop l.fn.cursor.place bytes → AreSoFar l.fn.cursor.order bytes l.starts.items (map declaration_view l.declarations.items) l.cursor

abbrev pub decreases-loop-declarations : goal.decreases-loop-declarations
decreases-loop-declarations l = length l.cursor.left
