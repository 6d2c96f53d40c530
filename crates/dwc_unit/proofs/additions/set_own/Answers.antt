use Rattle.std.proofs.lemmas.Result.{on_err_weaker, on_ok_weaker}
use Rattle.dwc_unit.specs.GivenUnits.{set_attribute}
use Rattle.dwc_unit.proofs.AdditionLaws.{others-kept, own-put}
use Rattle.dwc_unit.proofs.additions.set_own.Goals as goal

pub returns-clause-kept : goal.returns-clause-kept
returns-clause-kept c = others-kept c.args.place c.args.own.now.items c.set.new.self

pub returns-clause-ok : goal.returns-clause-ok
returns-clause-ok c =
    on_ok_weaker c.set.result (own-put c.args.own.now.items c.args.place c.set.new.self c.index_mut.result.now c.requires c.index_mut.ensures.value (set_attribute c.args.name c.args.value)) c.set.ensures.ok

pub returns-clause-err : goal.returns-clause-err
returns-clause-err c =
    on_err_weaker c.set.result (own-put c.args.own.now.items c.args.place c.set.new.self c.index_mut.result.now c.requires c.index_mut.ensures.value (λ given. given)) c.set.ensures.err
