use Rattle.std.proofs.Common.{List, [], subst, sym, ℕ}
use Rattle.dwc_section.specs.Writers.{Writes}
use Rattle.dwc_section.proofs.ReadNumbers.{uleb_bytes-small}
use Rattle.dwc_write.proofs.entries.write_uleb.Goals as goal

pub returns-then-value-lt128 : goal.returns-then-value-lt128
returns-then-value-lt128 c =
    let P : List ℕ → Type 0 = λ bytes. Writes c.args.info.now c.put_byte.new.self c.put_byte.result bytes [] in
    subst P (sym (uleb_bytes-small c.args.value c.if-value-lt128.true)) c.put_byte.ensures
