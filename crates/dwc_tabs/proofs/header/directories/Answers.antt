use Rattle.std.proofs.Common.{◌≡◌, ◌++◌, map, sym, ap, ◌∙◌, Ok, Some, None}
use Rattle.std.proofs.lemmas.Result.{err_from_is_err_and}
use Rattle.std.proofs.lemmas.List.{map_push, append-nil}
use Rattle.dwc_base.specs.Reading.{seen_as, items_at}
use Rattle.dwc_dwarf.specs.LineHeaders.{directory_at}
use Rattle.dwc_base.proofs.Items.{items-more, items-end, items-flaw, seen-in_front}
use Rattle.dwc_base.proofs.Takes.{Leaves-at}
use Rattle.dwc_dwarf.proofs.LineTakes.{directory_at-leaves}
use Rattle.dwc_base.specs.Cursors.{slice_bytes}
use Rattle.dwc_tabs.proofs.header.directories.Goals as goal

pub returns-in_err-name : goal.returns-in_err-name
returns-in_err-name c =
    let p = err_from_is_err_and c.from_residual.result c.from_residual.ensures.1 in
    let flaw = items-flaw directory_at directory_at-leaves c.loop-names.cursor _ c.in_err-name.ensures in
    rw (p.1, p.2) (sym c.loop-names.invariant ∙ ap (seen_as (λ ys. map slice_bytes c.loop-names.names.items ++ ys)) flaw)

pub loop-names-smaller : goal.loop-names-smaller
loop-names-smaller c = Leaves-at c.in_ok-name.ensures (directory_at-leaves c.loop-names.cursor)

pub loop-names-preserved : goal.loop-names-preserved
loop-names-preserved c =
    let read : directory_at c.loop-names.cursor ≡ Ok (Some c.in-Some.name.now, c.directory.new.cursor) = rw c.in-Some.is at c.in_ok-name.ensures in
    let more = items-more directory_at directory_at-leaves c.loop-names.cursor c.directory.new.cursor c.in-Some.name.now read in
    let front = map slice_bytes c.loop-names.names.items in
    rw (c.in_ok-push.ensures.items, map_push)
    (sym (seen-in_front front c.in-Some.name.now (items_at directory_at c.directory.new.cursor)) ∙ ap (seen_as (λ ys. front ++ ys)) (sym more) ∙ c.loop-names.invariant)

pub returns : goal.returns
returns c =
    let front = map slice_bytes c.loop-names.names.items in
    let read : directory_at c.loop-names.cursor ≡ Ok (None, c.directory.new.cursor) = rw c.in_default.is at c.in_ok-name.ensures in
    let rest = items-end directory_at directory_at-leaves c.loop-names.cursor c.directory.new.cursor read in
    sym c.loop-names.invariant ∙ ap (seen_as (λ ys. front ++ ys)) rest ∙ ap (λ ys. Ok (ys, c.directory.new.cursor)) (append-nil front)
