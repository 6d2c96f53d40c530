use Rattle.std.proofs.Common.{◌≡◌, ◌∙◌, ap, sym, map, Result, Ok, Err, List, OnOk, OnErr, [], ◌∷◌, ◌++◌}
use Rattle.std.proofs.lemmas.Result.{on_ok_weaker}
use Rattle.dwc_native.specs.Parts.{Part, code, joined}
use Rattle.dwc_expr.specs.PartViews.{part_view}
use Rattle.dwc_expr.specs.JoinedParts.{behind}
use Rattle.dwc_expr.proofs.JoinedLaws.{pushed-joined, pushed-same}
use Rattle.dwc_expr.proofs.compile.joined_parts.JoinedParts.push_code.Goals as goal

-- pushed or not, the parts are joined
still-joined : {A E : Type 0} (r : Result A E) (old new : List Part) (q : Part) → joined old ≡ old → OnOk r (new ≡ behind old q) → OnErr r (new ≡ old) → joined new ≡ new
still-joined (Ok x) old new q e pushed kept = pushed-joined old new q e pushed
still-joined (Err x) old new q e pushed kept = ap joined kept ∙ e ∙ sym kept

pub invariant_of-self : goal.invariant_of-self
invariant_of-self c = still-joined c.push_code.result (map part_view c.self.inside.parts.items) (map part_view c.push_code.new.parts.items) (code c.args.bytes.now) c.self.invariant c.push_code.ensures.ok c.push_code.ensures.err

pub returns : goal.returns
returns c =
    on_ok_weaker c.push_code.result
    (λ pushed. pushed-same (map part_view c.self.inside.parts.items) (map part_view c.push_code.new.parts.items) (code c.args.bytes.now) c.self.invariant pushed ∙ ap (λ ps. joined (ps ++ code c.args.bytes.now ∷ [])) c.self.view_is) c.push_code.ensures.ok
