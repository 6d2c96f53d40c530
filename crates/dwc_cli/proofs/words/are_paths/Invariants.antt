use Rattle.std.proofs.Common.{◌≡◌, map, drop, string_bytes}
use Rattle.std.specs.List.{list_all}
use Rattle.dwc_cli.specs.Inputs.{is_path}
use Rattle.dwc_cli.proofs.words.are_paths.Given as goal

-- the words so far are paths, and those to come decide
abbrev pub invariant-loop-word : goal.invariant-loop-word
invariant-loop-word l = list_all is_path (map string_bytes (drop l.word-index l.words)) ≡ list_all is_path (map string_bytes l.words)
