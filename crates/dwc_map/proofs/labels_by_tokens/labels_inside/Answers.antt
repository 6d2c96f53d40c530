use Rattle.std.proofs.Common.{◌≡◌, ◌∷◌, ◌++◌, [], Some, None, false, map, length, ◌<◌, sym, ap, ◌∙◌, arith}
use Rattle.std.specs.Prelude.{is_some}
use Rattle.std.specs.FinMap as finite
use Rattle.json.specs.Json.{after_end_array}
use Rattle.dwc_isa.specs.ValueLabels.{range_view}
use Rattle.dwc_map.specs.ByTokens.{Tells}
use Rattle.dwc_map.specs.MapFile.{label_range_of}
use Rattle.dwc_map.specs.MapValues.{list_of, pair_of, u32_of}
use Rattle.dwc_map.specs.MapViews.{label_view}
use Rattle.dwc_map.proofs.Tables.{is_some-map}
use Rattle.dwc_map.proofs.TokenLabels.{table-push}
use Rattle.dwc_map.proofs.TokenLists.{items-next, items-over, items-start}
use Rattle.dwc_map.proofs.labels_by_tokens.labels_inside.Goals as goal

pub items-init : goal.items-init
items-init c = ([], items-start (pair_of u32_of (list_of label_range_of)) c.args.depth c.args.reader.now, ap Some (sym c.new-labels.ensures))

pub items-preserved : goal.items-preserved
items-preserved c =
    let l = c.items in
    let going : (after_end_array l.reader ≡ None) × (c.take_end_array.new.self ≡ l.reader) = grind arith in
    let r = c.read_label.new.reader in
    let row = label_view (c.in_ok-label.label, c.in_ok-label.ranges) in
    let less : length r < length l.reader = rw (← going.1) c.in_ok-label.ensures.shorter in
    let told : Tells c.args.depth (pair_of u32_of (list_of label_range_of)) l.reader row r = rw (← going.1) c.in_ok-label.ensures.told in
    let absent : is_some (finite.get l.labels row.0) ≡ false = ap is_some (sym c.get.ensures) ∙ is_some-map (λ x. map range_view x.now) c.get.result ∙ sym c.if-is_some.ensures in (
      l.invariant.0 ++ row ∷ [],
      items-next (pair_of u32_of (list_of label_range_of)) c.args.depth c.args.reader.now l.reader r l.invariant.0 row going.0 told less l.invariant.1,
      table-push l.invariant.0 l.labels row.0 row.1 l.invariant.2 absent ∙ ap Some (sym c.in_ok-insert.ensures.ok),
    )

pub returns-clause-told : goal.returns-clause-told
returns-clause-told c =
    let l = c.items in
    let r = c.take_end_array.new.self in
    let over : after_end_array l.reader ≡ Some r = grind arith in
    record { rows = l.invariant.0; read = items-over (pair_of u32_of (list_of label_range_of)) c.args.depth c.args.reader.now l.reader r l.invariant.0 over l.invariant.1; is = l.invariant.2 }
