use Rattle.std.proofs.Common.{◌≡◌, ◌≤◌, ◌++◌, ℕ, List, length, map, take, drop, string_bytes}
use Rattle.std.specs.List.{AllZip}
use Rattle.dwc_cli.specs.Calls as Calls
use Rattle.dwc_cli.specs.Calls.{ReadsPaths}
use Rattle.dwc_cli.specs.RunStatus.{most_bytes}
use Rattle.dwc_cli.specs.Edge.{IsReadFile}
use Rattle.dwc_cli.proofs.reading.read_files.Given as goal

-- the files so far are read, and with those to come they are the files of all paths
abbrev pub invariant-loop-path : goal.invariant-loop-path
invariant-loop-path g l = record {
  told : g.S.Source.files l.source ≡ g.S.Source.files l.fn.source;
  files_read : (rest : List (List ℕ)) → AllZip (IsReadFile (g.S.Source.files l.fn.source)) (map string_bytes (drop l.path-index l.paths)) rest → AllZip (IsReadFile (g.S.Source.files l.fn.source)) (map string_bytes l.paths) (map (λ m. m.items) l.files.items ++ rest);
  short : g.S.Source.taken l.source ≤ most_bytes;
  longest : g.S.Source.longest l.fn.source ≤ most_bytes → g.S.Source.longest l.source ≤ most_bytes;
  later : g.S.Source.faults l.fn.source ≤ g.S.Source.faults l.source;
  asked : ReadsPaths 0 (map string_bytes (take l.path-index l.paths)) (g.S.Source.faults l.fn.source) (g.S.Source.faults l.source) (g.S.Source.asked l.fn.source) (g.S.Source.asked l.source);
  whole : Calls.files_read (g.S.Source.asked l.source) ≡ Calls.files_read (g.S.Source.asked l.fn.source) ++ map (λ m. m.items) l.files.items;
  counted : length l.files.items ≡ l.path-index;
}
