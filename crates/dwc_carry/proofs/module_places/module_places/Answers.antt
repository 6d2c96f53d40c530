use Rattle.std.proofs.Common.{◌<◌, arith, length}
use Rattle.dwc_carry.proofs.ModulePlaceLaws.{places-more, places-same, places-rise}
use Rattle.dwc_carry.proofs.module_places.module_places.Goals.{then-kept-gt0+in_ok-add_unit+in_ok-number, else-kept-gt0}
use Rattle.dwc_carry.proofs.module_places.module_places.Goals as goal

pub add_unit-requires : goal.add_unit-requires
add_unit-requires c =
    let less : c.loop-i.i < length c.args.read_module.now.units.items = omega (arith, c.loop-i-test.true, c.len-i-end.ensures, c.args.read_module.now.units.ok) in
    record {
      rising = places-rise c.args.read_module.now c.args.first c.loop-i.places c.loop-i.number c.loop-i.i c.index.result.now c.carried_entries-kept.result.now less c.index.ensures c.carried_entries-kept.ensures c.loop-i.invariant c.requires c.if-kept-gt0.true;
    }

pub loop-i-preserved : goal.loop-i-preserved
loop-i-preserved c =
    let less : c.loop-i.i < length c.args.read_module.now.units.items = omega (arith, c.loop-i-test.true, c.len-i-end.ensures, c.args.read_module.now.units.ok) in
    elim c.if-kept-gt0.branch [
      | then-kept-gt0+in_ok-add_unit+in_ok-number w ↦
          let more = places-more c.args.read_module.now c.args.first c.loop-i.places c.loop-i.number c.loop-i.i c.index.result.now c.carried_entries-kept.result.now less c.index.ensures c.carried_entries-kept.ensures c.loop-i.invariant w.if-kept-gt0.true in
          rw (w.places-is, w.number-is, w.in_ok-add_unit.ensures, w.in_ok-number.ensures) more
      | else-kept-gt0 w ↦
          rw (w.places-is, w.number-is) (places-same c.args.read_module.now c.args.first c.loop-i.places c.loop-i.number c.loop-i.i c.index.result.now c.carried_entries-kept.result.now less c.index.ensures c.carried_entries-kept.ensures c.loop-i.invariant w.if-kept-gt0.false)
    ]
