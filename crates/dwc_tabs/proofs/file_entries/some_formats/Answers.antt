use Rattle.std.proofs.Common.{◌≡◌, suc, ◌+◌, ◌-◌, ◌++◌, map, sym, ap, ◌∙◌, arith, Ok}
use Rattle.std.proofs.lemmas.Result.{err_from_is_err_and}
use Rattle.std.proofs.lemmas.List.{map_push, append-nil}
use Rattle.dwc_base.specs.Reading.{seen_as, counted_at}
use Rattle.dwc_dwarf.specs.LineHeaders.{entry_format_at}
use Rattle.dwc_base.proofs.Items.{seen-in_front}
use Rattle.dwc_tabs.specs.Headers.{format_view}
use Rattle.dwc_tabs.proofs.EntryLaws.{counted-more, counted-flaw, counted-none}
use Rattle.dwc_tabs.proofs.file_entries.some_formats.Goals as goal

pub returns-in_err-format : goal.returns-in_err-format
returns-in_err-format c =
    let p = err_from_is_err_and c.from_residual.result c.from_residual.ensures.1 in
    let rest = c.args.count - (c.loop.counter + 1) in
    let count : c.args.count - c.loop.counter ≡ suc rest = omega arith in
    let front = seen_as (λ ys. map format_view c.loop.formats.items ++ ys) in
    rw (p.1, p.2) (sym c.loop.invariant ∙ ap (λ n. front (counted_at n entry_format_at c.loop.cursor)) count ∙ ap front (counted-flaw entry_format_at rest c.loop.cursor _ c.in_err-format.ensures))

pub loop-preserved : goal.loop-preserved
loop-preserved c =
    let rest = c.args.count - (c.loop.counter + 1) in
    let count : c.args.count - c.loop.counter ≡ suc rest = omega arith in
    let front = map format_view c.loop.formats.items in
    let x = format_view c.in_ok-format.format in
    let more = counted-more entry_format_at rest c.loop.cursor c.entry_format.new.cursor x c.in_ok-format.ensures in
    rw (c.in_ok-push.ensures.items, map_push)
    (sym (seen-in_front front x (counted_at rest entry_format_at c.entry_format.new.cursor))
    ∙ ap (seen_as (λ ys. front ++ ys)) (sym more)
    ∙ ap (λ n. seen_as (λ ys. front ++ ys) (counted_at n entry_format_at c.loop.cursor)) (sym count)
    ∙ c.loop.invariant)

pub returns : goal.returns
returns c =
    let front = map format_view c.loop.formats.items in
    let none : c.args.count - c.loop.counter ≡ 0 = omega arith in
    sym c.loop.invariant
    ∙ ap (λ n. seen_as (λ ys. front ++ ys) (counted_at n entry_format_at c.loop.cursor)) none
    ∙ ap (seen_as (λ ys. front ++ ys)) (counted-none entry_format_at c.loop.cursor)
    ∙ ap (λ ys. Ok (ys, c.loop.cursor)) (append-nil front)
