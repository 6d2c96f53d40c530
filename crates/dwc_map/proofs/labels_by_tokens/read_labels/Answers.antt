use Rattle.std.proofs.Common.{arith, ◌-◌}
use Rattle.dwc_map.specs.ByTokens.{Tells, TellsTable}
use Rattle.dwc_map.specs.MapFile.{label_range_of, labels_of}
use Rattle.dwc_map.specs.MapValues.{list_of}
use Rattle.dwc_map.proofs.TokenLabels.{labels-told}
use Rattle.dwc_map.proofs.TokenLists.{if-ok}
use Rattle.dwc_map.proofs.labels_by_tokens.read_labels.Goals as goal

pub returns-clause-told : goal.returns-clause-told
returns-clause-told c =
    let d = c.args.depth in
    let start = c.begin_list.new.reader in
    let rest = c.labels_inside.new.reader in
    if-ok (λ t. TellsTable (d - 1) (list_of label_range_of) start t rest) (λ t. Tells d labels_of c.args.reader.now t rest) c.labels_inside.result
    (λ t read. labels-told d c.args.reader.now start rest t (omega (arith, c.requires)) c.in_ok-begin_list.ensures read) c.labels_inside.ensures.told
