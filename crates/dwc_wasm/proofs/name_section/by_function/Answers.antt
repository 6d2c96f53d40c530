use Rattle.std.proofs.Common.{nat_cmp}
use Rattle.dwc_wasm.specs.NamesRead.{keyed_by_function}
use Rattle.dwc_wasm.proofs.SortedEntryLaws.{filled-more}
use Rattle.dwc_wasm.proofs.name_section.by_function.Goals as goal

pub loop-number-preserved : goal.loop-number-preserved
loop-number-preserved c = filled-more nat_cmp keyed_by_function c.loop-number.names.entries c.insert.new.self.entries _ c.args.said.now c.loop-number.number-index _ c.loop-number-test.true c.in_ok-insert.ensures.entries c.loop-number.invariant
