use Rattle.std.proofs.Common.{◌≡◌, codes, map, option_map, sym, ◌∙◌, subst, arith}
use Rattle.serde_json.specs.View.{members_view}
use Rattle.dwc_map.proofs.TokenKinds.{map-by}
use Rattle.dwc_map.proofs.TokenMembers.{object-told}
use Rattle.dwc_map.specs.MapFile.{modules_of, map_with, map_in}
use Rattle.dwc_map.specs.MapViews.{module_view, map_file_view}
use Rattle.dwc_map.proofs.by_tokens.read_map.Goals as goal

pub returns-in-Some-clause-told : goal.returns-in-Some-clause-told
returns-in-Some-clause-told c =
    let fields = members_view (c.in_ok-fields.fields).entries in
    let x = map module_view (c.in_ok-fields.modules).items in
    let t = c.in_ok-fields.ensures.told in
    let made = subst (λ o. option_map map_file_view o ≡ map_with x fields) c.in-Some.is c.in_ok-map.ensures.value in
    object-told (codes "modules") modules_of map_in c.args.depth c.args.reader.now c.begin_object.new.reader c.map_members.new.reader fields x (map_file_view c.in-Some.map) (omega (arith, c.requires)) c.in_ok-begin_object.ensures t (map-by x t.all fields t.same t.is ∙ sym made)
