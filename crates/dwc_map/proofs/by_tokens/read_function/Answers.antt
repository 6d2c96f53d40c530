use Rattle.std.proofs.Common.{◌≡◌, option_map, sym, subst, arith}
use Rattle.serde_json.specs.View.{members_view}
use Rattle.dwc_isa.specs.CallFrames.{description_view}
use Rattle.dwc_map.specs.MapFile.{function_by}
use Rattle.dwc_map.specs.MapViews.{function_view}
use Rattle.dwc_map.proofs.TokenFunctions.{function-told}
use Rattle.dwc_map.proofs.by_tokens.read_function.Goals as goal

pub returns-in-Some-clause-told : goal.returns-in-Some-clause-told
returns-in-Some-clause-told c =
    let p = c.in_ok-fields.field-0 in
    let fields = members_view p.fields.entries in
    let entries = p.entries in
    let frame = option_map description_view p.frame in
    let made = subst (λ o. option_map function_view o ≡ function_by entries p.labels frame fields) c.in-Some.is c.function_with.ensures.value in
    function-told c.args.depth c.args.reader.now c.begin_object.new.reader c.function_members.new.reader fields entries p.labels frame (function_view c.in-Some.function) (omega (arith, c.requires)) c.in_ok-begin_object.ensures c.in_ok-fields.ensures.told (sym made)
