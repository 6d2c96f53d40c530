use Rattle.std.proofs.Common.{◌∙◌, refl, ap, Some}
use Rattle.std.specs.Prelude.{cond}
use Rattle.std.specs.Ordering.{nat_cmp}
use Rattle.std.specs.BTreeMap.{get, is_at}
use Rattle.dwc_types.proofs.KnownTypeLaws.{keeps-derived}
use Rattle.dwc_types.proofs.known_type.keep_derived.Goals as goal

pub returns-clause-types : goal.returns-clause-types
returns-clause-types c source s read away known =
    let old = c.args.types.now in
    keeps-derived source s old (record { derived = c.push.new.self; places = c.insert.new.self; ends = old.ends; walks = old.walks }) c.args.offset c.args.tag c.near_place-near.result c.args.next c.in_ok-push.ensures.items
    (λ q. c.in_ok-insert.ensures.updates.0 q ∙ ap (λ n. cond (is_at (nat_cmp c.args.offset) q) (Some n) (get nat_cmp old.places q)) (c.len-place.ensures ∙ old.derived.ok.0)) refl refl read away known
