use Rattle.std.proofs.Common.{◌≡◌, ◌∙◌, sym, ap, true, get_or, drop, arith, take_all, length-drop}
use Rattle.std.specs.Prelude.{◌==◌}
use Rattle.fast_float.specs.Text.{scan}
use Rattle.serde_json.specs.Find.{of_integer}
use Rattle.serde_json.specs.Read.{number_of, number_from}
use Rattle.dwc_map.proofs.TokenNumbers.{told-by, signed-text}
use Rattle.dwc_map.proofs.tokens.negative_of.Goals as goal

pub returns : goal.returns
returns c =
    let s = c.as_bytes-bytes.result.now in
    let signed : (get_or s 0 0 == 45) ≡ true = sym c.if-not-has_minus.ensures.value in
    let parts : c.scan.result ≡ scan (drop 1 s) = c.scan.ensures.parts ∙ ap scan (take_all _ (drop 1 s) (omega (arith, length-drop 1 s))) in
    told-by c.below_zero_of.result of_integer (number_from true c.scan.result) (number_of c.args.text.now)
    (sym (ap number_of c.as_bytes-bytes.ensures.value) ∙ signed-text s signed ∙ ap (number_from true) (sym parts)) c.below_zero_of.ensures
