use Rattle.std.proofs.Common.{◌+◌, ◌∙◌, ap, arith, set, sym}
use Rattle.dwc_unit.specs.UnitViews.{addition_in}
use Rattle.dwc_unit.proofs.AdditionLaws.{changed-on, found-low, replaced, replaced-view}
use Rattle.dwc_unit.proofs.additions.set_shared.Goals as goal

pub overflow_add-entry : goal.overflow_add-entry
overflow_add-entry c =
    let shared = c.args.shared.now in
    let found = rw (c.deref.ensures.value) at (sym c.in-Some.ensures) in
    omega (arith, found-low c.args.entry.now shared.items c.in-Some.place c.args.name c.requires.within found, c.requires.within, shared.ok.0, shared.ok.1, shared.small)

pub index_mut-requires : goal.index_mut-requires
index_mut-requires c =
    let shared = c.args.shared.now in
    let found = rw (c.deref.ensures.value) at (sym c.in-Some.ensures) in
    omega (arith, found-low c.args.entry.now shared.items c.in-Some.place c.args.name c.requires.within found, c.requires.within, shared.ok.0, shared.ok.1)

pub returns-in_ok-attribute-in-Some-clause-kept : goal.returns-in_ok-attribute-in-Some-clause-kept
returns-in_ok-attribute-in-Some-clause-kept c =
    let found = rw (c.deref.ensures.value) at (sym c.in-Some.ensures) in
    rw (c.in_ok-attribute-in-Some.ensures) (replaced c.args.is_last c.args.entry.now c.args.shared.now.items c.args.own.now.items c.in-Some.place c.args.name c.args.value c.requires.within found)

pub returns-in_ok-attribute-in-Some-clause-ok : goal.returns-in_ok-attribute-in-Some-clause-ok
returns-in_ok-attribute-in-Some-clause-ok c =
    let found = rw (c.deref.ensures.value) at (sym c.in-Some.ensures) in
    let e = c.args.entry.now in
    ap (λ a. addition_in (set c.args.shared.now.items (e.begin + c.in-Some.place) a) c.args.own.now.items e) c.in_ok-attribute-in-Some.ensures
    ∙ replaced-view c.args.entry.now c.args.shared.now.items c.args.own.now.items c.in-Some.place c.args.name c.args.value c.requires.none c.requires.within found

pub returns-in_err-own_place-in-None-2-clause-kept : goal.returns-in_err-own_place-in-None-2-clause-kept
returns-in_err-own_place-in-None-2-clause-kept c = c.make_own.ensures.kept c.args.is_last

pub returns-in_ok-own_place-in-None-2-clause-kept : goal.returns-in_ok-own_place-in-None-2-clause-kept
returns-in_ok-own_place-in-None-2-clause-kept c =
    changed-on c.args.is_last c.args.entry.now c.make_own.new.entry c.args.shared.now.items c.make_own.new.shared.items c.args.own.now.items c.make_own.new.own.items c.set_own.new.own.items c.in_ok-own_place-in-None-2.own_place (c.make_own.ensures.kept c.args.is_last) c.in_ok-own_place-in-None-2.ensures.own.0 c.set_own.ensures.kept
