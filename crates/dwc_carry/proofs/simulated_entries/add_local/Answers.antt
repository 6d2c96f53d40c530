use Rattle.dwc_carry.specs.SimulatedAdditions.{local_addition}
use Rattle.dwc_carry.proofs.MadeAdditions.{parent-known}
use Rattle.dwc_carry.proofs.SimulatedAdded.{added-known, local-added, still-dense, typed-known}
use Rattle.dwc_carry.proofs.simulated_entries.add_local.Goals as goal

pub add-requires : goal.add-requires
add-requires c = parent-known c.args.unit.now c.args.parent c.requires.dense c.requires.parent

pub set_attributes-requires-clause-known : goal.set_attributes-requires-clause-known
set_attributes-requires-clause-known c = added-known c.args.unit.now c.add.new.self c.args.parent c.args.tag c.in_ok-id.id c.requires.dense c.requires.parent c.in_ok-id.ensures.ok c.in_ok-id.ensures.id

pub set-requires-clause-known : goal.set-requires-clause-known
set-requires-clause-known c =
    typed-known c.args.unit.now c.add.new.self c.set_attributes.new.unit c.args.parent c.args.tag c.args.name c.args.type_place c.in_ok-id.id c.requires.dense c.requires.parent c.in_ok-id.ensures.ok c.in_ok-id.ensures.id c.in_ok-set_attributes.ensures.set

pub set-requires-clause-fits : goal.set-requires-clause-fits
set-requires-clause-fits c = c.requires.fits c.set_attributes.new.unit.address_size

pub returns-clause-added : goal.returns-clause-added
returns-clause-added c =
    local-added c.args.unit.now c.add.new.self c.set_attributes.new.unit c.set.new.self c.args.parent c.args.tag c.args.name c.args.type_place c.args.locations c.in_ok-id.id c.requires.dense c.requires.parent c.in_ok-id.ensures.ok c.in_ok-id.ensures.id c.in_ok-set_attributes.ensures.set c.in_ok-set.ensures.ok

pub returns-clause-dense : goal.returns-clause-dense
returns-clause-dense c =
    still-dense c.args.unit.now c.set.new.self (local_addition c.args.parent c.args.tag c.args.name c.args.type_place c.args.locations) c.requires.dense (returns-clause-added c)
