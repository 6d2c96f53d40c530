use Rattle.std.proofs.Common.{◌≡◌, ◌++◌, map, length}
use Rattle.dwc_base.specs.Reading.{seen_as, items_at}
use Rattle.dwc_dwarf.specs.LineHeaders.{directory_at}
use Rattle.dwc_base.specs.Cursors.{slice_bytes}
use Rattle.dwc_tabs.proofs.header.directories.Given as goal

-- the directories so far, and those that are still unread, are all
abbrev pub invariant-loop-names : goal.invariant-loop-names
invariant-loop-names l = seen_as (λ ys. map slice_bytes l.names.items ++ ys) (items_at directory_at l.cursor) ≡ items_at directory_at l.fn.cursor

abbrev pub decreases-loop-names : goal.decreases-loop-names
decreases-loop-names l = length l.cursor.left
