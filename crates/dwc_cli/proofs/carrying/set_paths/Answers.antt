use Rattle.std.proofs.Common.{◌≡◌, ◌<◌, ◌∙◌, sym, ap, arith, add-one, length, map}
use Rattle.std.proofs.lemmas.List.{length-map, length-set}
use Rattle.dwc_map.specs.MapViews.{path_view}
use Rattle.dwc_cli.proofs.PathLaws.{first_paths-more, all_paths-set, path-at}
use Rattle.dwc_cli.proofs.carrying.set_paths.Goals as goal

pub loop-i-preserved : goal.loop-i-preserved
loop-i-preserved c =
    let paths = map path_view c.args.paths.now in
    let i = c.loop-i.i in
    let count : length paths ≡ length c.args.paths.now = length-map c.args.paths.now path_view in
    let inside : i < length paths = omega (arith, c.loop-i-test.true, count) in
    let told = c.as_deref.ensures.value ∙ ap path_view c.index-paths-i.is ∙ path-at c.args.paths.now i c.index-paths-i.result in
    record {
      long = length-set c.loop-i.translations i _ ∙ c.loop-i.invariant.long;
      set = rw add-one (first_paths-more i c.args.translations.now paths c.loop-i.translations c.index-translations-i.result (path_view c.index-paths-i.result) c.as_deref.result (c.requires ∙ sym count) inside told c.loop-i.invariant.set);
    }

pub returns : goal.returns
returns c =
    let paths = map path_view c.args.paths.now in
    let count : length paths ≡ length c.args.paths.now = length-map c.args.paths.now path_view in
    all_paths-set c.loop-i.i c.args.translations.now paths c.loop-i.translations (c.requires ∙ sym count) (omega (arith, c.loop-i-test.false, count)) c.loop-i.invariant.set
