use Rattle.std.proofs.Common.{sym, ◌∙◌, rules, tests}
use Rattle.std.proofs.lemmas.Iterator.{YieldsList-from_slice}
use Rattle.std.proofs.lemmas.Iterator.Search.{all_from_yields_List}
use Rattle.std.proofs.lemmas.List.Folds.{list_all-map}
use Rattle.dwc_base.specs.Cursors.{slice_bytes}
use Rattle.dwc_dwarf.specs.LineFiles.{is_named}
use Rattle.dwc_tabs.proofs.table.have_names.Goals as goal

pub returns : goal.returns
returns c =
    let all = all_from_yields_List (λ d. is_named (slice_bytes d)) _ _ c.all.result c.all.ensures.ran (YieldsList-from_slice c.args.directories.now cc) (λ x b q k. search (rules, tests)) in
    all ∙ sym (list_all-map is_named slice_bytes c.args.directories.now)
