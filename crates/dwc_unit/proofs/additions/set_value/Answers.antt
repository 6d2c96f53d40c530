use Rattle.std.proofs.Common.{sym}
use Rattle.std.proofs.lemmas.Result.{on_err_weaker, on_ok_weaker}
use Rattle.dwc_unit.proofs.AdditionLaws.{changed-on, own-stays, own-view, unchanged}
use Rattle.dwc_unit.proofs.additions.set_value.Goals as goal

pub set_own-requires : goal.set_own-requires
set_own-requires c = c.requires.own c.in-Some.place (sym c.in-Some.ensures)

pub returns-in-Some-clause-kept : goal.returns-in-Some-clause-kept
returns-in-Some-clause-kept c =
    let e = c.args.entry.now in
    let xs = c.args.shared.now.items in
    let os = c.args.own.now.items in
    changed-on c.args.is_last e e xs xs os os c.set_own.new.own.items c.in-Some.place (unchanged c.args.is_last e xs os) (sym c.in-Some.ensures) c.set_own.ensures.kept

pub returns-in-Some-clause-ok : goal.returns-in-Some-clause-ok
returns-in-Some-clause-ok c =
    on_ok_weaker c.set_own.result
    (own-view c.args.entry.now c.args.shared.now.items c.args.own.now.items c.set_own.new.own.items c.in-Some.place c.args.name c.args.value (sym c.in-Some.ensures)) c.set_own.ensures.ok

pub returns-in-Some-clause-err : goal.returns-in-Some-clause-err
returns-in-Some-clause-err c =
    on_err_weaker c.set_own.result (own-stays c.args.entry.now c.args.shared.now.items c.args.own.now.items c.set_own.new.own.items c.in-Some.place (sym c.in-Some.ensures)) c.set_own.ensures.err
