use Rattle.std.proofs.Common.{◌≡◌, ◌∷◌, ap, ◌∙◌, arith, rules}
use Rattle.json.specs.Token as token
use Rattle.json.specs.Json.{value}
use Rattle.json.proofs.Grammar.{value_is}
use Rattle.serde_json.specs.Data.{number}
use Rattle.serde_json.specs.Read.{of_json, converted}
use Rattle.serde_json.specs.View.{view, number_view}
use Rattle.serde_json.specs.declared.value.Value.{Number, the_lemmas}
use Rattle.dwc_map.proofs.token_parts.read_whole.Goals as goal

pub returns-in-Some-clause-told : goal.returns-in-Some-clause-told
returns-in-Some-clause-told c = λ depth.
    let is : c.args.reader.now ≡ token.number c.in-Some-Number.text.now ∷ c.next.new.self = grind arith in
    let seen : view (Number c.in-Some.number) ≡ number (number_view c.in-Some.number) = search (rules, the_lemmas) in
    ap (converted of_json) (ap (value depth) is ∙ value_is depth (token.number c.in-Some-Number.text.now ∷ c.next.new.self)) ∙ rw (c.in-Some.ensures, seen)
