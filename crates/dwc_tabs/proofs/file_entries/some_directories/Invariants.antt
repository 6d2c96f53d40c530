use Rattle.std.proofs.Common.{◌≡◌, ◌-◌, ◌++◌, map}
use Rattle.dwc_base.specs.Reading.{seen_as, counted_at}
use Rattle.dwc_dwarf.specs.LineHeaders.{directory_entry_at}
use Rattle.dwc_base.specs.Cursors.{slice_bytes}
use Rattle.dwc_tabs.specs.Headers.{format_view, source_view}
use Rattle.dwc_tabs.proofs.file_entries.some_directories.Given as goal

-- the directories so far, and those that are still unread, are all
abbrev pub invariant-loop : goal.invariant-loop
invariant-loop l =
    seen_as (λ ys. map slice_bytes l.directories.items ++ ys) (counted_at (l.count - l.counter) (directory_entry_at (source_view l.source) l.address_size (map format_view l.formats)) l.cursor)
    ≡ counted_at l.fn.count (directory_entry_at (source_view l.source) l.address_size (map format_view l.formats)) l.fn.cursor
