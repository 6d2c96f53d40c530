use Rattle.std.proofs.Common.{◌≤◌, ◌+◌, ◌-◌, length, take, refl, arith}
use Rattle.std.proofs.lemmas.Slice.{take-put_mid}
use Rattle.dwc_cli.proofs.OneLine.{is_line-append}
use Rattle.dwc_cli.proofs.refusal.RefusalWrite.write_str.Goals as goal

-- the text grows by a piece of one line
pub invariant_of-self : goal.invariant_of-self
invariant_of-self c =
    let before = c.self.inside in
    let piece = c.line_front-piece.result.now in
    let whole = is_line-append (take before.len before.bytes) piece c.self.invariant.1 c.line_front-piece.ensures.line in
    let at : before.len ≤ length before.bytes = omega (arith, c.self.told, c.self.invariant.0) in
    let same = take-put_mid before.len (before.len + length piece - before.len) before.bytes piece (before.len + length piece) refl at in
    (omega (arith, c.line_front-piece.ensures.short, c.self.invariant.0), rw (c.copy_from_slice.ensures.after, same) whole)
