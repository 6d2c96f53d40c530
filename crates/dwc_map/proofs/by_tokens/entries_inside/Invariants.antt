use Rattle.std.proofs.Common.{length}
use Rattle.dwc_map.proofs.TokenLists.{ItemsAlong}
use Rattle.dwc_map.specs.MapValues.{pair_of, source_of, u32_of}
use Rattle.dwc_map.proofs.by_tokens.entries_inside.Given as goal

-- the items so far, and those to come, are those of the list
abbrev pub invariant-items : goal.invariant-items
invariant-items l = ItemsAlong (pair_of u32_of source_of) l.depth l.fn.reader l.reader l.room

abbrev pub decreases-items : goal.decreases-items
decreases-items l = length l.reader
