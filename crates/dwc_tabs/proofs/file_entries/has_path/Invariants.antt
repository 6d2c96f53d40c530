use Rattle.std.proofs.Common.{◌≡◌, drop, map}
use Rattle.std.specs.List.{list_any}
use Rattle.dwc_dwarf.specs.LineHeaders.{is_path}
use Rattle.dwc_tabs.specs.Headers.{format_view}
use Rattle.dwc_tabs.proofs.file_entries.has_path.Given as goal

-- what is left has a path where all have one
abbrev pub invariant-loop-format : goal.invariant-loop-format
invariant-loop-format l = list_any is_path (map format_view (drop l.format-index l.formats)) ≡ list_any is_path (map format_view l.formats)
