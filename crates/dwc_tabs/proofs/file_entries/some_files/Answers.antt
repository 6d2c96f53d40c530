use Rattle.std.proofs.Common.{◌≡◌, suc, ◌+◌, ◌-◌, ◌++◌, map, sym, ap, ◌∙◌, arith, Ok}
use Rattle.std.proofs.lemmas.Result.{err_from_is_err_and}
use Rattle.std.proofs.lemmas.List.{map_push, append-nil}
use Rattle.dwc_base.specs.Reading.{seen_as, counted_at}
use Rattle.dwc_dwarf.specs.LineHeaders.{file_entry_at}
use Rattle.dwc_base.proofs.Items.{seen-in_front}
use Rattle.dwc_tabs.specs.Headers.{file_view, format_view, source_view}
use Rattle.dwc_tabs.proofs.EntryLaws.{counted-more, counted-flaw, counted-none}
use Rattle.dwc_tabs.proofs.file_entries.some_files.Goals as goal

pub returns-in_err-file : goal.returns-in_err-file
returns-in_err-file c =
    let p = err_from_is_err_and c.from_residual.result c.from_residual.ensures.1 in
    let item = file_entry_at (source_view c.args.source.now) c.args.address_size (map format_view c.args.formats.now) in
    let rest = c.args.count - (c.loop.counter + 1) in
    let count : c.args.count - c.loop.counter ≡ suc rest = omega arith in
    let front = seen_as (λ ys. map file_view c.loop.files.items ++ ys) in
    rw (p.1, p.2) (sym c.loop.invariant ∙ ap (λ n. front (counted_at n item c.loop.cursor)) count ∙ ap front (counted-flaw item rest c.loop.cursor _ c.in_err-file.ensures))

pub loop-preserved : goal.loop-preserved
loop-preserved c =
    let item = file_entry_at (source_view c.args.source.now) c.args.address_size (map format_view c.args.formats.now) in
    let rest = c.args.count - (c.loop.counter + 1) in
    let count : c.args.count - c.loop.counter ≡ suc rest = omega arith in
    let front = map file_view c.loop.files.items in
    let x = file_view c.in_ok-file.file in
    let more = counted-more item rest c.loop.cursor c.entry.new.cursor x c.in_ok-file.ensures in
    rw (c.in_ok-push.ensures.items, map_push)
    (sym (seen-in_front front x (counted_at rest item c.entry.new.cursor))
    ∙ ap (seen_as (λ ys. front ++ ys)) (sym more)
    ∙ ap (λ n. seen_as (λ ys. front ++ ys) (counted_at n item c.loop.cursor)) (sym count)
    ∙ c.loop.invariant)

pub returns : goal.returns
returns c =
    let item = file_entry_at (source_view c.args.source.now) c.args.address_size (map format_view c.args.formats.now) in
    let front = map file_view c.loop.files.items in
    let none : c.args.count - c.loop.counter ≡ 0 = omega arith in
    sym c.loop.invariant
    ∙ ap (λ n. seen_as (λ ys. front ++ ys) (counted_at n item c.loop.cursor)) none
    ∙ ap (seen_as (λ ys. front ++ ys)) (counted-none item c.loop.cursor)
    ∙ ap (λ ys. Ok (ys, c.loop.cursor)) (append-nil front)
