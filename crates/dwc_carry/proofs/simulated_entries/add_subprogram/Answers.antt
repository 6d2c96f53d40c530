use Rattle.dwc_base.specs.declared.constants.TheConstants.{DW_TAG_subprogram}
use Rattle.dwc_carry.specs.SimulatedAdditions.{subprogram_addition}
use Rattle.dwc_carry.proofs.MadeAdditions.{parent-known}
use Rattle.dwc_carry.proofs.SimulatedAdded.{added-known, begun-known, number-is, still-dense, subprogram-added}
use Rattle.dwc_carry.proofs.simulated_entries.add_subprogram.Goals as goal

pub add-requires : goal.add-requires
add-requires c = parent-known c.args.unit.now 0 c.requires.dense c.requires.some

pub set-requires-clause-known : goal.set-requires-clause-known
set-requires-clause-known c =
    let u = c.args.unit.now in
    added-known u c.add.new.self 0 DW_TAG_subprogram c.in_ok-id.id c.requires.dense c.requires.some c.in_ok-id.ensures.ok c.in_ok-id.ensures.id

pub set_attributes-requires-clause-known : goal.set_attributes-requires-clause-known
set_attributes-requires-clause-known c =
    let u = c.args.unit.now in
    begun-known u c.add.new.self c.set.new.self c.args.symbol c.in_ok-id.id c.requires.dense c.requires.some c.in_ok-id.ensures.ok c.in_ok-id.ensures.id c.in_ok-set.ensures.ok

pub returns-clause-added : goal.returns-clause-added
returns-clause-added c =
    let u = c.args.unit.now in
    subprogram-added u c.add.new.self c.set.new.self c.set_attributes.new.unit c.args.name c.args.symbol c.args.code_length c.args.decl_line c.in_ok-id.id c.udata.result c.udata-2.result c.udata-3.result c.requires.dense c.requires.some c.in_ok-id.ensures.ok c.in_ok-id.ensures.id c.in_ok-set.ensures.ok c.udata.ensures c.udata-2.ensures c.udata-3.ensures c.in_ok-set_attributes.ensures.set

pub returns-clause-number : goal.returns-clause-number
returns-clause-number c = number-is c.args.unit.now c.in_ok-id.id c.requires.dense c.in_ok-id.ensures.id

pub returns-clause-dense : goal.returns-clause-dense
returns-clause-dense c =
    still-dense c.args.unit.now c.set_attributes.new.unit (subprogram_addition c.args.name c.args.symbol c.args.code_length c.args.decl_line) c.requires.dense (returns-clause-added c)
