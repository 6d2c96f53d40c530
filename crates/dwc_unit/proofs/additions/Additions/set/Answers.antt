use Rattle.std.proofs.Common.{arith, length}
use Rattle.std.proofs.lemmas.List.{length-map}
use Rattle.std.proofs.lemmas.Result.{on_err_weaker, on_ok_weaker}
use Rattle.dwc_unit.specs.UnitViews.{addition_in}
use Rattle.dwc_unit.proofs.AdditionLaws.{leaves-all, own-within, part-within}
use Rattle.dwc_unit.proofs.additions.Additions.set.Goals as goal

pub set_value-requires-clause-within : goal.set_value-requires-clause-within
set_value-requires-clause-within c =
    let xs = c.self.inside.shared.items in
    let es = c.self.inside.entries.items in
    let inside = rw (← c.self.view_is) at c.requires in
    part-within 0 c.args.place xs es c.index_mut.result.now c.index_mut.result.now c.self.invariant.apart (omega (arith, inside, length-map es (addition_in xs c.self.inside.own.items))) c.index_mut.ensures.value

pub set_value-requires-clause-own : goal.set_value-requires-clause-own
set_value-requires-clause-own c =
    let xs = c.self.inside.shared.items in
    let own = c.self.inside.own.items in
    let es = c.self.inside.entries.items in
    let inside = rw (← c.self.view_is) at c.requires in
    own-within (length own) c.args.place es c.index_mut.result.now c.self.invariant.owned (omega (arith, inside, length-map es (addition_in xs own))) c.index_mut.ensures.value

pub invariant_of-self : goal.invariant_of-self
invariant_of-self c =
    let left = leaves-all c.is_last-is_last.result c.args.place c.self.inside.shared.items c.set_value.new.shared.items c.self.inside.own.items c.set_value.new.own.items c.self.inside.entries.items c.index_mut.result.now c.set_value.new.entry c.args.self.now c.self.view_is c.self.invariant c.requires c.index_mut.ensures.value c.is_last-is_last.ensures c.set_value.ensures.kept in
    left.held

pub returns-clause-ok : goal.returns-clause-ok
returns-clause-ok c =
    let left = leaves-all c.is_last-is_last.result c.args.place c.self.inside.shared.items c.set_value.new.shared.items c.self.inside.own.items c.set_value.new.own.items c.self.inside.entries.items c.index_mut.result.now c.set_value.new.entry c.args.self.now c.self.view_is c.self.invariant c.requires c.index_mut.ensures.value c.is_last-is_last.ensures c.set_value.ensures.kept in
    on_ok_weaker c.set_value.result (left.ok c.args.name c.args.value) c.set_value.ensures.ok

pub returns-clause-err : goal.returns-clause-err
returns-clause-err c =
    let left = leaves-all c.is_last-is_last.result c.args.place c.self.inside.shared.items c.set_value.new.shared.items c.self.inside.own.items c.set_value.new.own.items c.self.inside.entries.items c.index_mut.result.now c.set_value.new.entry c.args.self.now c.self.view_is c.self.invariant c.requires c.index_mut.ensures.value c.is_last-is_last.ensures c.set_value.ensures.kept in
    on_err_weaker c.set_value.result left.err c.set_value.ensures.err
