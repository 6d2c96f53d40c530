use Rattle.std.proofs.Common.{◌≡◌, ◌-◌, ◌++◌, map}
use Rattle.dwc_base.specs.Reading.{seen_as, counted_at}
use Rattle.dwc_dwarf.specs.LineHeaders.{entry_format_at}
use Rattle.dwc_tabs.specs.Headers.{format_view}
use Rattle.dwc_tabs.proofs.file_entries.some_formats.Given as goal

-- the formats so far, and those that are still unread, are all
abbrev pub invariant-loop : goal.invariant-loop
invariant-loop l = seen_as (λ ys. map format_view l.formats.items ++ ys) (counted_at (l.count - l.counter) entry_format_at l.cursor) ≡ counted_at l.fn.count entry_format_at l.fn.cursor
