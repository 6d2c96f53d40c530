use Rattle.std.proofs.Common.{◌≡◌, codes, map, option_map, sym, ◌∙◌, subst, arith}
use Rattle.serde_json.specs.View.{members_view}
use Rattle.dwc_map.proofs.TokenKinds.{module-by}
use Rattle.dwc_map.proofs.TokenMembers.{object-told}
use Rattle.dwc_map.specs.MapFile.{functions_of, module_in, map_module_of}
use Rattle.dwc_map.specs.MapViews.{function_view, module_view}
use Rattle.dwc_map.proofs.by_tokens.read_module.Goals as goal

pub returns-in-Some-clause-told : goal.returns-in-Some-clause-told
returns-in-Some-clause-told c =
    let fields = members_view (c.in_ok-fields.fields).entries in
    let x = map function_view (c.in_ok-fields.functions).items in
    let t = c.in_ok-fields.ensures.told in
    let made = subst (λ o. option_map module_view o ≡ module_in x fields) c.in-Some.is c.in_ok-module.ensures.value in
    object-told (codes "functions") functions_of map_module_of c.args.depth c.args.reader.now c.begin_object.new.reader c.module_members.new.reader fields x (module_view c.in-Some.module) (omega (arith, c.requires)) c.in_ok-begin_object.ensures t (module-by x t.all fields t.same t.is ∙ sym made)
