use Rattle.std.proofs.Common.{◌∙◌, sym, ap}
use Rattle.serde_json.specs.Read.{number_of}
use Rattle.dwc_map.proofs.TokenNumbers.{digits-number}
use Rattle.dwc_map.proofs.tokens.whole_of.Goals as goal

pub returns-in-Some : goal.returns-in-Some
returns-in-Some c =
    let s = c.as_bytes-bytes.result.now in
    sym (ap number_of c.as_bytes-bytes.ensures.value) ∙ digits-number s c.in-Some.number c.in-Some.ensures
