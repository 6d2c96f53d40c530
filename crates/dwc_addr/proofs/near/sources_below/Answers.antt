use Rattle.dwc_addr.proofs.NativeLaws.{tested-below}
use Rattle.dwc_addr.proofs.near.sources_below.Goals as goal

pub returns-then-not-is_source_below : goal.returns-then-not-is_source_below
returns-then-not-is_source_below c =
    tested-below (λ e. e.wasm) c.args.sources.now c.below_near-count.result c.args.addr c.requires (c.are_sources_below.ensures c.if-are_sources_below.true) (c.is_source_below.ensures.above c.if-not-is_source_below.true)
