use Rattle.std.proofs.Common.{◌≡◌, ◌∙◌, sym, ap, false, get_or}
use Rattle.std.specs.Prelude.{◌==◌}
use Rattle.serde_json.specs.Data.{unsigned}
use Rattle.serde_json.specs.Read.{number_of, number_from}
use Rattle.dwc_map.proofs.TokenNumbers.{told-by, unsigned-text}
use Rattle.dwc_map.proofs.tokens.whole_of_numeral.Goals as goal

pub returns : goal.returns
returns c =
    let s = c.args.bytes.now in
    let plain : (get_or s 0 0 == 45) ≡ false = sym c.if-has_minus.ensures.value in
    told-by c.unsigned_of.result (λ n. unsigned n) (number_from false c.scan.result) (number_of s)
    (unsigned-text s plain ∙ ap (number_from false) (sym c.scan.ensures.parts)) c.unsigned_of.ensures
