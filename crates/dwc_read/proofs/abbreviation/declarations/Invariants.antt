use Rattle.std.proofs.Common.{◌≡◌, ◌++◌, map, length}
use Rattle.dwc_base.specs.Reading.{seen_as, items_at}
use Rattle.dwc_base.specs.Abbreviations.{declaration_at}
use Rattle.dwc_read.specs.Tables.{declaration_view}
use Rattle.dwc_read.proofs.abbreviation.declarations.Given as goal

-- what was read so far, and what is still unread, is all
abbrev pub invariant-loop-table : goal.invariant-loop-table
invariant-loop-table l = seen_as (λ ys. map declaration_view l.table.items ++ ys) (items_at declaration_at l.cursor) ≡ items_at declaration_at l.fn.cursor

abbrev pub decreases-loop-table : goal.decreases-loop-table
decreases-loop-table l = length l.cursor.left
