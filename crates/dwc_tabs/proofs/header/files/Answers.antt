use Rattle.std.proofs.Common.{◌≡◌, ◌++◌, map, sym, ap, ◌∙◌, Ok, Some, None}
use Rattle.std.proofs.lemmas.Result.{err_from_is_err_and}
use Rattle.std.proofs.lemmas.List.{map_push, append-nil}
use Rattle.dwc_base.specs.Reading.{seen_as, items_at}
use Rattle.dwc_dwarf.specs.LineHeaders.{file_at}
use Rattle.dwc_base.proofs.Items.{items-more, items-end, items-flaw, seen-in_front}
use Rattle.dwc_base.proofs.Takes.{Leaves-at}
use Rattle.dwc_tabs.proofs.HeaderLaws.{file_at-leaves}
use Rattle.dwc_tabs.specs.Headers.{file_view}
use Rattle.dwc_tabs.proofs.header.files.Goals as goal

pub returns-in_err-file : goal.returns-in_err-file
returns-in_err-file c =
    let p = err_from_is_err_and c.from_residual.result c.from_residual.ensures.1 in
    let flaw = items-flaw file_at file_at-leaves c.loop-files.cursor _ c.in_err-file.ensures in
    rw (p.1, p.2) (sym c.loop-files.invariant ∙ ap (seen_as (λ ys. map file_view c.loop-files.files.items ++ ys)) flaw)

pub loop-files-smaller : goal.loop-files-smaller
loop-files-smaller c = Leaves-at c.in_ok-file.ensures (file_at-leaves c.loop-files.cursor)

pub loop-files-preserved : goal.loop-files-preserved
loop-files-preserved c =
    let read : file_at c.loop-files.cursor ≡ Ok (Some (file_view c.in-Some.file), c.file.new.cursor) = rw c.in-Some.is at c.in_ok-file.ensures in
    let more = items-more file_at file_at-leaves c.loop-files.cursor c.file.new.cursor (file_view c.in-Some.file) read in
    let front = map file_view c.loop-files.files.items in
    rw (c.in_ok-push.ensures.items, map_push)
    (sym (seen-in_front front (file_view c.in-Some.file) (items_at file_at c.file.new.cursor)) ∙ ap (seen_as (λ ys. front ++ ys)) (sym more) ∙ c.loop-files.invariant)

pub returns : goal.returns
returns c =
    let front = map file_view c.loop-files.files.items in
    let read : file_at c.loop-files.cursor ≡ Ok (None, c.file.new.cursor) = rw c.in_default.is at c.in_ok-file.ensures in
    let rest = items-end file_at file_at-leaves c.loop-files.cursor c.file.new.cursor read in
    sym c.loop-files.invariant ∙ ap (seen_as (λ ys. front ++ ys)) rest ∙ ap (λ ys. Ok (ys, c.file.new.cursor)) (append-nil front)
