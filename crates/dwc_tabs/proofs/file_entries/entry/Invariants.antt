use Rattle.std.proofs.Common.{◌≡◌, drop, map}
use Rattle.dwc_dwarf.specs.LineHeaders.{entry_fields_at, no_fields}
use Rattle.dwc_tabs.specs.Headers.{file_view, format_view, source_view}
use Rattle.dwc_tabs.proofs.file_entries.entry.Given as goal

-- the fields that are left, behind what was read, give what all give
abbrev pub invariant-loop-format : goal.invariant-loop-format
invariant-loop-format l =
    entry_fields_at (source_view l.source) l.address_size l.looked_up (map format_view (drop l.format-index l.formats)) (file_view l.entry) l.cursor
    ≡ entry_fields_at (source_view l.source) l.address_size l.looked_up (map format_view l.formats) no_fields l.fn.cursor
