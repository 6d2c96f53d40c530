use Rattle.std.proofs.Common.{refl}
use Rattle.dwc_image.proofs.OrderLaws.{kept-ordered}
use Rattle.dwc_image.proofs.SegmentLaws.{carries-table}
use Rattle.dwc_image.proofs.open_lines.carried_open_lines.Goals as goal

pub add_open_images-requires-clause-functions : goal.add_open_images-requires-clause-functions
add_open_images-requires-clause-functions c = kept-ordered c.args.transform.now c.requires.functions

pub returns-then-add_open_images-clause-carries : goal.returns-then-add_open_images-clause-carries
returns-then-add_open_images-clause-carries c =
    carries-table c.args.table.now.table c.args.transform.now c.args.encoding.address_size _ _ c.in-Ok.program _ (kept-ordered c.args.transform.now c.requires.functions)
    refl refl c.in-Ok.ensures (c.add_open_images.ensures.added c.if-add_open_images.true)
