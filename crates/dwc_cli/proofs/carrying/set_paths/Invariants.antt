use Rattle.std.proofs.Common.{◌≡◌, length, map}
use Rattle.dwc_map.specs.MapViews.{path_view}
use Rattle.dwc_cli.proofs.PathLaws.{HaveFirstPaths}
use Rattle.dwc_cli.proofs.carrying.set_paths.Given as goal

-- there are as many translations as paths, and those of the first are set
abbrev pub invariant-loop-i : goal.invariant-loop-i
invariant-loop-i l = record {
  long : length l.translations ≡ length l.paths;
  set : HaveFirstPaths l.i l.fn.translations (map path_view l.paths) l.translations;
}
