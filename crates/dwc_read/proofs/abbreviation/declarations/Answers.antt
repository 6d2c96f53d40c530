use Rattle.std.proofs.Common.{◌≡◌, ◌++◌, List, map, sym, ap, ◌∙◌, Ok, Some, None}
use Rattle.std.proofs.lemmas.Result.{err_from_is_err_and}
use Rattle.std.proofs.lemmas.List.{map_push, append-nil}
use Rattle.dwc_base.specs.Reading.{seen_as, items_at}
use Rattle.dwc_base.specs.Abbreviations.{Declaration, declaration_at}
use Rattle.dwc_base.proofs.Items.{items-more, items-end, items-flaw, seen-in_front}
use Rattle.dwc_base.proofs.Takes.{Leaves-at}
use Rattle.dwc_base.proofs.TakesMore.{declaration_at-leaves}
use Rattle.dwc_read.proofs.FailsLaws.{Fails-whole}
use Rattle.dwc_read.specs.Tables.{declaration_view}
use Rattle.dwc_read.proofs.abbreviation.declarations.Goals as goal

pub returns-in_err-found : goal.returns-in_err-found
returns-in_err-found c =
    let p = err_from_is_err_and c.from_residual.result c.from_residual.ensures.1 in
    let u = c.loop-table.cursor in
    let front = seen_as {A = List Declaration} (λ ys. map declaration_view c.loop-table.table.items ++ ys) in
    rw (p.1, p.2) (Fails-whole _ (declaration_at u) _ (λ flaw h. sym c.loop-table.invariant ∙ ap front (items-flaw declaration_at declaration_at-leaves u flaw h)) c.in_err-found.ensures)

pub loop-table-smaller : goal.loop-table-smaller
loop-table-smaller c = Leaves-at c.in_ok-found.ensures (declaration_at-leaves c.loop-table.cursor)

pub loop-table-preserved : goal.loop-table-preserved
loop-table-preserved c =
    let read : declaration_at c.loop-table.cursor ≡ Ok (Some (declaration_view c.in-Some.found), c.next_declaration.new.cursor) = rw c.in-Some.is at c.in_ok-found.ensures in
    let more = items-more declaration_at declaration_at-leaves c.loop-table.cursor c.next_declaration.new.cursor (declaration_view c.in-Some.found) read in
    let front = map declaration_view c.loop-table.table.items in
    rw (c.in_ok-push.ensures.items, map_push)
    (sym (seen-in_front front (declaration_view c.in-Some.found) (items_at declaration_at c.next_declaration.new.cursor)) ∙ ap (seen_as (λ ys. front ++ ys)) (sym more) ∙ c.loop-table.invariant)

pub returns : goal.returns
returns c =
    let front = map declaration_view c.loop-table.table.items in
    let read : declaration_at c.loop-table.cursor ≡ Ok (None, c.next_declaration.new.cursor) = rw c.in_default.is at c.in_ok-found.ensures in
    let rest = items-end declaration_at declaration_at-leaves c.loop-table.cursor c.next_declaration.new.cursor read in
    sym c.loop-table.invariant ∙ ap (seen_as (λ ys. front ++ ys)) rest ∙ ap (λ ys. Ok (ys, c.next_declaration.new.cursor)) (append-nil front)
