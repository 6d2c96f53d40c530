use Rattle.std.proofs.Common.{Err, Ok, ap, sym, ◌∙◌, ◌≤◌, ◌+◌, ◌*◌, length, arith}
use Rattle.std.proofs.lemmas.Result.{err_from_is_err_and}
use Rattle.dwc_base.specs.declared.faults.Flaw.TheVariants.{EndsEarly}
use Rattle.dwc_tabs.specs.OpenLists.{distance_at}
use Rattle.dwc_tabs.proofs.OpenListLaws.{distance-past, place-by_distance}
use Rattle.dwc_tabs.proofs.open_list.offset_indexed.Goals as goal

pub returns-then-bytes-base : goal.returns-then-bytes-base
returns-then-bytes-base c =
    let s = c.args.unit.now.sections in
    let past : length (s.bytes c.args.section) ≤ c.index_base-base.result + 4 * c.args.index = rw (← c.section-bytes.ensures.bytes) (omega (arith, c.if-bytes-base.true)) in
    rw (← c.index_base-base.ensures) (place-by_distance s c.args.section c.index_base-base.result c.args.index (Err EndsEarly) (distance-past s.order (s.bytes c.args.section) c.index_base-base.result c.args.index past))

pub returns-in_err-distance : goal.returns-in_err-distance
returns-in_err-distance c =
    let s = c.args.unit.now.sections in
    let base = c.index_base-base.result in
    let p = err_from_is_err_and c.from_residual.result c.from_residual.ensures.1 in
    let e = ap (λ o. distance_at o (s.bytes c.args.section) base c.args.index) (sym c.order.ensures) ∙ ap (λ xs. distance_at c.order.result xs base c.args.index) (sym c.section-bytes.ensures.bytes) ∙ c.in_err-distance.ensures in
    rw (p.1, p.2, ← c.index_base-base.ensures) (place-by_distance s c.args.section base c.args.index (Err c.in_err-distance.field-0.0) e)

pub returns : goal.returns
returns c =
    let s = c.args.unit.now.sections in
    let base = c.index_base-base.result in
    let e = ap (λ o. distance_at o (s.bytes c.args.section) base c.args.index) (sym c.order.ensures) ∙ ap (λ xs. distance_at c.order.result xs base c.args.index) (sym c.section-bytes.ensures.bytes) ∙ c.in_ok-distance.ensures in
    rw (c.from.ensures, ← c.index_base-base.ensures) (place-by_distance s c.args.section base c.args.index (Ok c.in_ok-distance.distance) e)
