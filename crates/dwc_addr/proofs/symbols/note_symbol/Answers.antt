use Rattle.std.proofs.Common.{◌∙◌}
use Rattle.std.specs.declared.alloc.AllocError.{AllocError}
use Rattle.dwc_addr.proofs.SymbolLaws.{notes-new}
use Rattle.dwc_addr.proofs.symbols.note_symbol.Goals as goal

pub returns-in_ok-insert : goal.returns-in_ok-insert
returns-in_ok-insert c = λ before index len.
    notes-new AllocError c.copied-found.result before c.args.symbol c.args.number c.args.numbers.now c.insert.new.self c.if-is_none.ensures (c.copied-found.ensures ∙ c.get.ensures.value) index len
    c.in_ok-insert.ensures.updates.0
