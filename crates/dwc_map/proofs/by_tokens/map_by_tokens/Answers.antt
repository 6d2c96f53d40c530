use Rattle.std.proofs.Common.{◌≡◌, [], ap, ◌∙◌, subst, rules}
use Rattle.std.specs.Str.{IsUtf8}
use Rattle.json.specs.Lex.{tokens}
use Rattle.dwc_map.specs.ByTokens.{Tells}
use Rattle.dwc_map.specs.MapFile.{map_in}
use Rattle.dwc_map.specs.MapViews.{map_file_view}
use Rattle.dwc_map.proofs.TokenKinds.{text-told}
use Rattle.dwc_map.proofs.by_tokens.map_by_tokens.Goals as goal

pub returns-clause-told : goal.returns-clause-told
returns-clause-told c =
    let bytes = c.args.bytes.now in
    let m = map_file_view c.in_ok-map.map in
    let text : c.in-Ok.text.now ≡ bytes = search rules in
    let utf8 : IsUtf8 bytes = search rules in
    let start : c.in_ok-reader.reader ≡ tokens bytes = c.in_ok-reader.ensures.ok ∙ ap tokens text in
    let over : c.read_map.new.reader ≡ [] = search rules in
    text-told bytes m utf8 (subst (λ ts. Tells 127 map_in (tokens bytes) m ts) over (subst (λ ts. Tells 127 map_in ts m c.read_map.new.reader) start c.in_ok-map.ensures.told))
