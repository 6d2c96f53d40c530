use Rattle.std.proofs.Common.{◌<◌, length}
use Rattle.dwc_frames.specs.Frames.{table_view}
use Rattle.dwc_addr.proofs.CompilationLaws.{module-inside}
use Rattle.dwc_carry.proofs.FramesAdded.{module-added}
use Rattle.dwc_carry.proofs.frames.add_modules.Goals as goal

pub loop-i-preserved : goal.loop-i-preserved
loop-i-preserved c =
    let compilation = c.args.compilation.now in
    let less : c.loop-i.i < length compilation.translations = rw c.translations-translations.ensures.translations at c.loop-i-test.true in
    let inside = module-inside c.loop-i.i compilation.translations compilation.functions compilation.memory_offsets c.translations-translations.ensures.counted less in
    module-added compilation.functions c.loop-i.i c.first_number-first.result c.functions_of.result.now (table_view c.args.table.now) (table_view c.loop-i.table) (table_view c.add_functions.new.table) inside
    c.first_number-first.ensures.number c.functions_of.ensures.functions c.loop-i.invariant c.in_ok-add_functions.ensures.added
