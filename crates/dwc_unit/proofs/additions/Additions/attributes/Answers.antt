use Rattle.std.proofs.Common.{arith, length}
use Rattle.std.proofs.lemmas.List.{length-map}
use Rattle.dwc_unit.specs.UnitViews.{addition_in}
use Rattle.dwc_unit.proofs.AdditionLaws.{own-within, part-within}
use Rattle.dwc_unit.proofs.additions.Additions.attributes.Goals as goal

pub attributes_of-requires-clause-within : goal.attributes_of-requires-clause-within
attributes_of-requires-clause-within c =
    let shared = c.self.inside.shared.items in
    let own = c.self.inside.own.items in
    let es = c.self.inside.entries.items in
    let inside = rw (← c.self.view_is) at c.requires in
    rw (c.deref.ensures.value) (part-within 0 c.args.place shared es c.index.result.now c.index.result.now c.self.invariant.apart (omega (arith, inside, length-map es (addition_in shared own))) c.index.ensures)

pub attributes_of-requires-clause-own : goal.attributes_of-requires-clause-own
attributes_of-requires-clause-own c =
    let shared = c.self.inside.shared.items in
    let own = c.self.inside.own.items in
    let es = c.self.inside.entries.items in
    let inside = rw (← c.self.view_is) at c.requires in
    rw (c.deref-2.ensures.value) (own-within (length own) c.args.place es c.index.result.now c.self.invariant.owned (omega (arith, inside, length-map es (addition_in shared own))) c.index.ensures)
