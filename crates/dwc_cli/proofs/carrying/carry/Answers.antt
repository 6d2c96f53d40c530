use Rattle.std.proofs.Common.{map, length, ap, sym, ◌∙◌, subst}
use Rattle.std.proofs.lemmas.List.{length-map}
use Rattle.dwc_addr.specs.Compilations.{lists}
use Rattle.dwc_map.specs.MapViews.{path_view}
use Rattle.dwc_cli.specs.ToldPaths.{HavePaths}
use Rattle.dwc_cli.proofs.PathLaws.{sorted-with_paths}
use Rattle.dwc_cli.proofs.EmittedLaws.{paths_in, paths-same, modules-counted, counted, compiled}
use Rattle.dwc_cli.proofs.carrying.carry.Goals as goal

-- there are as many paths as translations
pub with_paths-translations-requires : goal.with_paths-translations-requires
with_paths-translations-requires c =
    let ms = c.args.map_file.modules.items in
    modules-counted c.args.translations.items c.args.map_file c.requires.fits ∙ sym (ap length (c.deref.ensures.value ∙ c.in_ok-functions.ensures.paths) ∙ length-map ms (λ m. m.path))

pub carry_at-requires-clause-counted : goal.carry_at-requires-clause-counted
carry_at-requires-clause-counted c =
    let ts = c.args.translations.items in
    let us = c.with_paths-translations.result.items in
    let paths = ap (map path_view) (c.deref.ensures.value ∙ c.in_ok-functions.ensures.paths) ∙ paths-same c.args.map_file.modules.items in
    let has = subst (λ ps. HavePaths ts ps us) paths c.with_paths-translations.ensures in
    let functions = ap lists c.deref-3.ensures.value ∙ c.in_ok-functions.ensures.functions in
    rw (c.deref-2.ensures.value, functions, c.in_ok-functions.ensures.memories) (counted ts us c.args.map_file has c.requires.fits)

pub carry_at-requires-clause-sorted : goal.carry_at-requires-clause-sorted
carry_at-requires-clause-sorted c =
    let ts = c.args.translations.items in
    let us = c.with_paths-translations.result.items in
    let ms = c.args.map_file.modules.items in
    let paths = ap (map path_view) (c.deref.ensures.value ∙ c.in_ok-functions.ensures.paths) ∙ paths-same ms in
    let has = subst (λ ps. HavePaths ts ps us) paths c.with_paths-translations.ensures in
    rw (c.deref-2.ensures.value) (sorted-with_paths ts us (paths_in ms) has c.requires.sorted)

pub returns-clause-carried : goal.returns-clause-carried
returns-clause-carried c = λ read seen.
    let ts = c.args.translations.items in
    let us = c.with_paths-translations.result.items in
    let paths = ap (map path_view) (c.deref.ensures.value ∙ c.in_ok-functions.ensures.paths) ∙ paths-same c.args.map_file.modules.items in
    let has = subst (λ ps. HavePaths ts ps us) paths c.with_paths-translations.ensures in
    let functions = ap lists c.deref-3.ensures.value ∙ c.in_ok-functions.ensures.functions in
    c.carry_at.ensures.carried read (rw (c.from.ensures, c.deref-2.ensures.value, functions, c.in_ok-functions.ensures.memories) (compiled ts us c.args.map_file read has seen))
