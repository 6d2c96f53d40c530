use Rattle.std.proofs.Common.{◌≡◌, drop, map}
use Rattle.dwc_dwarf.specs.LineHeaders.{has_one_path}
use Rattle.dwc_tabs.specs.Headers.{format_view}
use Rattle.dwc_tabs.proofs.file_entries.has_one_path.Given as goal

-- what is left has one path where all have one
abbrev pub invariant-loop-i : goal.invariant-loop-i
invariant-loop-i l = has_one_path (map format_view (drop l.i l.formats)) ≡ has_one_path (map format_view l.formats)
