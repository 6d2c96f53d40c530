use Rattle.std.proofs.Common.{sym}
use Rattle.dwc_map.proofs.MapKinds.{named_in-no_architecture}
use Rattle.dwc_map.proofs.json_fields.architecture.Goals as goal

pub returns-in_default : goal.returns-in_default
returns-in_default c =
    let no = c.in_default in
    rw (← c.in_ok-plain_text.ensures) (sym (named_in-no_architecture c.in_ok-plain_text.field-0.now no.not-x86_64 no.not-aarch64 no.not-s390x no.not-riscv64 no.not-pulley))
