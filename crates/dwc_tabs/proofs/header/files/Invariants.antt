use Rattle.std.proofs.Common.{◌≡◌, ◌++◌, map, length}
use Rattle.dwc_base.specs.Reading.{seen_as, items_at}
use Rattle.dwc_dwarf.specs.LineHeaders.{file_at}
use Rattle.dwc_tabs.specs.Headers.{file_view}
use Rattle.dwc_tabs.proofs.header.files.Given as goal

-- the files so far, and those that are still unread, are all
abbrev pub invariant-loop-files : goal.invariant-loop-files
invariant-loop-files l = seen_as (λ ys. map file_view l.files.items ++ ys) (items_at file_at l.cursor) ≡ items_at file_at l.fn.cursor

abbrev pub decreases-loop-files : goal.decreases-loop-files
decreases-loop-files l = length l.cursor.left
