use Rattle.std.proofs.Common.{◌≡◌, ◌-◌, ◌++◌, map}
use Rattle.dwc_base.specs.Reading.{seen_as, counted_at}
use Rattle.dwc_dwarf.specs.LineHeaders.{file_entry_at}
use Rattle.dwc_tabs.specs.Headers.{file_view, format_view, source_view}
use Rattle.dwc_tabs.proofs.file_entries.some_files.Given as goal

-- the files so far, and those that are still unread, are all
abbrev pub invariant-loop : goal.invariant-loop
invariant-loop l =
    seen_as (λ ys. map file_view l.files.items ++ ys) (counted_at (l.count - l.counter) (file_entry_at (source_view l.source) l.address_size (map format_view l.formats)) l.cursor)
    ≡ counted_at l.fn.count (file_entry_at (source_view l.source) l.address_size (map format_view l.formats)) l.fn.cursor
