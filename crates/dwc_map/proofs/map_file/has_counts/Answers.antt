use Rattle.std.proofs.Common.{map}
use Rattle.std.proofs.lemmas.List.{length-map}
use Rattle.dwc_base.specs.declared.translation.ModuleTranslation.{ModuleTranslation}
use Rattle.dwc_map.specs.MapViews.{module_view}
use Rattle.dwc_map.proofs.MapKinds.{have_counts-another_length}
use Rattle.dwc_map.proofs.map_file.has_counts.Goals as goal

pub returns-then-modules-translations : goal.returns-then-modules-translations
returns-then-modules-translations c =
    let ts = c.args.translations.now in
    let count = λ (t : ModuleTranslation). t.defined_funcs in
    have_counts-another_length (map count ts) (map module_view c.args.modules.now) (rw (length-map c.args.modules.now module_view, length-map ts count) c.if-modules-translations.true)
