use Rattle.std.proofs.Common.{◌∙◌, ap, sym, map, [], ◌∷◌}
use Rattle.std.proofs.lemmas.List.{map-append}
use Rattle.dwc_expr.specs.PartViews.{part_view}
use Rattle.dwc_expr.proofs.JoinedLaws.{behind-apart, pushed-joined}
use Rattle.dwc_expr.proofs.compile.joined_parts.JoinedParts.push.Goals as goal

pub invariant_of-self-2 : goal.invariant_of-self-2
invariant_of-self-2 c =
    let old = map part_view c.self.inside.parts.items in
    pushed-joined old (map part_view c.push.new.self.items) (part_view c.args.part) c.self.invariant
    (ap (map part_view) c.in_ok-push.ensures.items ∙ map-append part_view c.self.inside.parts.items (c.args.part ∷ []) ∙ sym (behind-apart old (part_view c.args.part) c.requires))
