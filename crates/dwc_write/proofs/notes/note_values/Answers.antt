use Rattle.std.proofs.Common.{refl, arith, add-one}
use Rattle.dwc_unit.specs.declared.lists.ListKind.TheVariants.{Locations, Ranges}
use Rattle.dwc_unit.specs.SpelledUnits.{attribute_bytes}
use Rattle.dwc_write.proofs.LayoutLaws.{unplaced-more}
use Rattle.dwc_write.proofs.NotedLaws.{free-all, free-more, named-more}
use Rattle.dwc_write.proofs.notes.note_values.Goals as goal

pub loop-i-init : goal.loop-i-init
loop-i-init c = record {
  texts = refl;
  ranges = rw (c.requires.ranges) (free-all Ranges c.args.attributes.now);
  locations = rw (c.requires.locations) (free-all Locations c.args.attributes.now);
  short = c.requires.place;
  rest = λ order. refl;
}

pub loop-i-preserved : goal.loop-i-preserved
loop-i-preserved c =
    let xs = c.args.attributes.now in
    let x = c.index-attributes-i.result in
    let noted = c.in_ok-length.ensures in
    let size = rw (c.index-attributes-i.is) at noted.length in
    record {
      texts = named-more xs c.loop-i.i x _ _ _ c.loop-i-test.true (rw (c.index-attributes-i.is) at noted.texts) c.loop-i.invariant.texts;
      ranges = free-more Ranges xs c.loop-i.i x _ _ _ c.loop-i-test.true (rw (c.index-attributes-i.is) at noted.ranges) c.loop-i.invariant.ranges;
      locations = free-more Locations xs c.loop-i.i x _ _ _ c.loop-i-test.true (rw (c.index-attributes-i.is) at noted.locations) c.loop-i.invariant.locations;
      short = c.in_ok-behind.ensures.1;
      rest = rw add-one
          (λ order. omega (arith, c.in_ok-behind.ensures.0, size order, c.loop-i.invariant.rest order, unplaced-more (attribute_bytes order c.args.size) c.args.attributes.now c.loop-i.i c.index-attributes-i.result c.loop-i-test.true));
    }
