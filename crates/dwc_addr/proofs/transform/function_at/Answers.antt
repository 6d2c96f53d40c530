use Rattle.std.proofs.Common.{map, sym, refl}
use Rattle.dwc_addr.specs.Transforms.{function_view}
use Rattle.dwc_addr.proofs.OwnerLaws.{linked-from, function_at-none, function_at-place}
use Rattle.dwc_addr.proofs.transform.function_at.Goals as goal

pub returns-in_err-place-clause-found : goal.returns-in_err-place-clause-found
returns-in_err-place-clause-found c =
    let fs = map function_view c.args.functions.now in
    let linked = linked-from c.args.addr c.if-addr-eq0.false c.if-addr-eq-UNLINKED.false in
    rw c.from_residual.ensures (sym (function_at-none fs c.args.addr linked (c.in_err-place.ensures fs c.requires)))

pub returns-then-is_none-clause-found : goal.returns-then-is_none-clause-found
returns-then-is_none-clause-found c =
    let linked = linked-from c.args.addr c.if-addr-eq0.false c.if-addr-eq-UNLINKED.false in
    let at = c.in_ok-place.ensures (map function_view c.args.functions.now) c.requires in
    let there = function_at-place c.args.functions.now c.args.addr c.in_ok-place.place c.index-functions-place.result linked c.index-functions-place.is at in
    rw (there, c.if-is_none.ensures) refl

pub returns-clause-found : goal.returns-clause-found
returns-clause-found c =
    let linked = linked-from c.args.addr c.if-addr-eq0.false c.if-addr-eq-UNLINKED.false in
    let at = c.in_ok-place.ensures (map function_view c.args.functions.now) c.requires in
    let there = function_at-place c.args.functions.now c.args.addr c.in_ok-place.place c.index-functions-place.result linked c.index-functions-place.is at in
    rw (there, c.if-is_none.ensures) refl
