use Rattle.std.proofs.Common.{◌≡◌, ◌∙◌, ap, sym, subst, arith, get_or}
use Rattle.std.proofs.lemmas.List.{get_or_default}
use Rattle.dwc_addr.specs.declared.stretch.SourceTable.{SourceTable}
use Rattle.dwc_addr.specs.Stretches.{HaveKeys}
use Rattle.dwc_addr.proofs.KeyLaws.{in-block}
use Rattle.dwc_addr.proofs.shown.is_block_alike.Goals as goal

pub returns-clause-alike : goal.returns-clause-alike
returns-clause-alike c = λ d alike k e from to inside.
    let m = c.args.function.now in
    let t = c.index-table.result.now in
    let is : t ≡ get_or m.tables.items c.args.level t = c.index-table.ensures in
    let keys : HaveKeys m.stretches.items t.block t.keys.items = subst (λ (x : SourceTable). HaveKeys m.stretches.items x.block x.keys.items) (sym is) (m.listed c.args.level t c.requires.level) in
    let size : t.block ≡ (get_or m.tables.items c.args.level d).block = ap (λ (x : SourceTable). x.block) (is ∙ get_or_default m.tables.items c.args.level t d c.requires.level) in
    c.are_alike.ensures alike m.stretches.items t.block k e (rw c.deref.ensures.value keys) inside (in-block t.block c.args.number k c.if-number-table-ne0.false from (omega (arith, to, size)))
