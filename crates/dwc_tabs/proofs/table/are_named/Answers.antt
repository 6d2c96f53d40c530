use Rattle.std.proofs.Common.{sym, ◌∙◌, rules, tests}
use Rattle.std.proofs.lemmas.Iterator.{YieldsList-from_slice}
use Rattle.std.proofs.lemmas.Iterator.Search.{all_from_yields_List}
use Rattle.std.proofs.lemmas.List.Folds.{list_all-map}
use Rattle.dwc_tabs.specs.Headers.{file_view}
use Rattle.dwc_tabs.specs.Tables.{is_named_within}
use Rattle.dwc_tabs.proofs.table.are_named.Goals as goal

pub returns : goal.returns
returns c =
    let named = is_named_within c.args.directories in
    let all = all_from_yields_List (λ f. named (file_view f)) _ _ c.all.result c.all.ensures.ran (YieldsList-from_slice c.args.files.now cc) (λ x b q k. search (rules, tests)) in
    all ∙ sym (list_all-map named file_view c.args.files.now)
