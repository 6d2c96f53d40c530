use Rattle.std.proofs.Common.{◌≡◌, ◌∙◌, ◌+◌, ◌∷◌, ap, sym, arith, drop, map}
use Rattle.std.proofs.lemmas.List.{length-map}
use Rattle.std.proofs.lemmas.Result.{err_from_is_err_and}
use Rattle.dwc_unit.specs.GivenUnits.{ordered}
use Rattle.dwc_unit.specs.LineNames.{names_of_unit}
use Rattle.dwc_write.proofs.PathLaws.{name-there, paths-exit}
use Rattle.dwc_write.proofs.UnitNameLaws.{units-start, units-more, units-refused, units-done}
use Rattle.dwc_write.proofs.unit_names.use_units.Goals as goal

pub loop-i-init : goal.loop-i-init
loop-i-init c = units-start (names_of_unit c.args.texts.now) (map ordered c.args.units.now) c.args.names.now c.requires

pub use_unit-requires : goal.use_unit-requires
use_unit-requires c = c.loop-i.invariant.laid

pub loop-i-preserved : goal.loop-i-preserved
loop-i-preserved c =
    let us = map ordered c.args.units.now in
    let u = c.index-units-i.result in
    let there = name-there ordered c.args.units.now c.loop-i.i u c.loop-i-test.true ∙ ap (λ v. ordered v ∷ drop (c.loop-i.i + 1) us) (sym c.index-units-i.is) in
    units-more (names_of_unit c.args.texts.now) us c.loop-i.i (ordered u) c.args.names.now c.loop-i.names c.use_unit.new.names there c.loop-i.invariant c.in_ok-use_unit.ensures

pub returns-in_err-use_unit : goal.returns-in_err-use_unit
returns-in_err-use_unit c =
    let p = err_from_is_err_and c.from_residual.result c.from_residual.ensures.1 in
    let us = map ordered c.args.units.now in
    let u = c.index-units-i.result in
    let there = name-there ordered c.args.units.now c.loop-i.i u c.loop-i-test.true ∙ ap (λ v. ordered v ∷ drop (c.loop-i.i + 1) us) (sym c.index-units-i.is) in
    paths-exit _ _ c.args.names.now _ _ p (units-refused (names_of_unit c.args.texts.now) us c.loop-i.i (ordered u) c.args.names.now c.loop-i.names _ there c.loop-i.invariant c.in_err-use_unit.ensures)

pub returns : goal.returns
returns c = units-done (names_of_unit c.args.texts.now) (map ordered c.args.units.now) c.loop-i.i c.args.names.now c.loop-i.names (omega (arith, c.loop-i-test.false, length-map c.args.units.now ordered)) c.loop-i.invariant
