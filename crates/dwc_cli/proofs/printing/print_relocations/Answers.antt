use Rattle.std.proofs.Common.{◌∙◌, arith}
use Rattle.std.proofs.lemmas.Result.{err_from_is_err_and}
use Rattle.dwc_base.specs.Outputs.{relocation_view}
use Rattle.dwc_cli.specs.Printed.{printed_relocation}
use Rattle.dwc_cli.proofs.Writes.{Sends-next, Sends-end, Sends-fail, split-items, none-left}
use Rattle.dwc_cli.proofs.printing.print_relocations.Goals as goal

pub returns-in_err-print_relocation-clause-text : goal.returns-in_err-print_relocation-clause-text
returns-in_err-print_relocation-clause-text g c =
    let p = err_from_is_err_and c.from_residual.result c.from_residual.ensures.1 in
    let parts = split-items printed_relocation relocation_view c.args.relocs.now c.loop-reloc.reloc-index _ c.loop-reloc-test.true in
    rw (p.1) (Sends-fail _ _ (g.K.Sink.written c.loop-reloc.sink) c.loop-reloc.page (g.K.Sink.written c.print_relocation.new.sink) _ _ _ _ parts c.loop-reloc.invariant.printed c.in_err-print_relocation.ensures.text)

pub loop-reloc-preserved : goal.loop-reloc-preserved
loop-reloc-preserved g c =
    let parts = split-items printed_relocation relocation_view c.args.relocs.now c.loop-reloc.reloc-index _ c.loop-reloc-test.true in
    record {
      printed = Sends-next _ _ _ _ _ _ _ _ _ _ parts c.loop-reloc.invariant.printed c.in_ok-print_relocation.ensures.text;
      same = c.in_ok-print_relocation.ensures.cause.well ∙ c.loop-reloc.invariant.same;
      well = c.in_ok-print_relocation.ensures.ends.well ∙ c.loop-reloc.invariant.well;
    }

pub returns-clause-text : goal.returns-clause-text
returns-clause-text g c = Sends-end _ _ _ c.loop-reloc.page _ _ (none-left printed_relocation relocation_view c.args.relocs.now c.loop-reloc.reloc-index (omega arith)) c.loop-reloc.invariant.printed
