use Rattle.dwc_base.specs.SortedEntries.{pair_cmp}
use Rattle.dwc_wasm.specs.NamesRead.{keyed_by_local}
use Rattle.dwc_wasm.proofs.SortedEntryLaws.{filled-more}
use Rattle.dwc_wasm.proofs.name_section.by_local.Goals as goal

pub loop-function-preserved : goal.loop-function-preserved
loop-function-preserved c = filled-more pair_cmp keyed_by_local c.loop-function.names.entries c.insert.new.self.entries _ c.args.said.now c.loop-function.function-index _ c.loop-function-test.true c.in_ok-insert.ensures.entries c.loop-function.invariant
