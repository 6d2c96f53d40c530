use Rattle.std.proofs.Common.{◌≡◌, add-one, ap, refl, sym, ◌∙◌, subst, length, Option, List, ℕ}
use Rattle.std.proofs.lemmas.Result.{err_from_is_err_and}
use Rattle.dwc_base.specs.declared.records.Address.{Address}
use Rattle.dwc_unit.specs.Lists.{ListEntry, FitsListed, listed_bytes, listed_relocations}
use Rattle.dwc_section.specs.Writers.{Refuses, appended}
use Rattle.dwc_section.proofs.WritesLaws.{all-seen, loop-done, loop-more, loop-refused}
use Rattle.dwc_write.proofs.lists.write_entries.Goals as goal

-- an entry by what its parts are
parts-are : (e : ListEntry) (begin : Address) (extent : ℕ) (holds : Option (List ℕ)) → begin ≡ e.begin → extent ≡ e.extent → holds ≡ e.holds → record { begin = begin; extent = extent; holds = holds } ≡ e
parts-are e begin extent holds p q r = rw (p, q, r) refl

pub write_entry-requires-clause-fits : goal.write_entry-requires-clause-fits
write_entry-requires-clause-fits g c =
    let is = parts-are (g.T.Listed.listed c.index-entries-i.result) _ _ _ c.begin.ensures c.extent.ensures c.expression.ensures ∙ ap g.T.Listed.listed c.index-entries-i.is in
    subst (FitsListed c.args.version c.args.size) (sym is) (all-seen (FitsListed c.args.version c.args.size) g.T.Listed.listed c.args.entries.now c.loop-i.i c.index-entries-i.result c.loop-i-test.true c.requires.fits)

pub loop-i-preserved : goal.loop-i-preserved
loop-i-preserved g c =
    let w = c.loop-i.lists in
    let is = parts-are (g.T.Listed.listed c.index-entries-i.result) _ _ _ c.begin.ensures c.extent.ensures c.expression.ensures ∙ ap g.T.Listed.listed c.index-entries-i.is in
    let P : ListEntry → Type 0 = λ e. c.write_entry.new.lists ≡ appended (listed_bytes c.args.version w.order c.args.size e) (listed_relocations c.args.version w.order c.args.size (length w.body) e) w in
    rw add-one
    (loop-more (λ o. listed_bytes c.args.version o c.args.size) (λ o. listed_relocations c.args.version o c.args.size) g.T.Listed.listed c.args.entries.now c.loop-i.i c.index-entries-i.result c.args.lists.now w _ c.loop-i-test.true c.loop-i.invariant (subst P is c.in_ok-write_entry.ensures))

pub returns-in_err-write_entry : goal.returns-in_err-write_entry
returns-in_err-write_entry g c =
    let p = err_from_is_err_and c.from_residual.result c.from_residual.ensures.1 in
    let w = c.loop-i.lists in
    let is = parts-are (g.T.Listed.listed c.index-entries-i.result) _ _ _ c.begin.ensures c.extent.ensures c.expression.ensures ∙ ap g.T.Listed.listed c.index-entries-i.is in
    let P : ListEntry → Type 0 = λ e. Refuses c.in_err-write_entry.field-0.0 w (length (listed_bytes c.args.version w.order c.args.size e)) in
    loop-refused (λ o. listed_bytes c.args.version o c.args.size) (λ o. listed_relocations c.args.version o c.args.size) g.T.Listed.listed c.args.entries.now c.loop-i.i c.index-entries-i.result c.args.lists.now w _ _ _ _ c.loop-i-test.true c.loop-i.invariant p (subst P is c.in_err-write_entry.ensures)

pub returns : goal.returns
returns g c = loop-done (listed_bytes c.args.version c.args.lists.now.order c.args.size) (listed_relocations c.args.version c.args.lists.now.order c.args.size) g.T.Listed.listed c.args.entries.now c.loop-i.i c.loop-i.lists _ c.loop-i-test.false c.loop-i.invariant
