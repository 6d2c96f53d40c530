use Rattle.std.proofs.Common.{◌∙◌, ◌∷◌, [], sym, arith}
use Rattle.std.proofs.lemmas.List.{length-append}
use Rattle.dwc_addr.proofs.TransformLaws.{bad-behind, kept-behind}
use Rattle.dwc_addr.proofs.transform.function_maps.Goals as goal

pub loop-i-preserved : goal.loop-i-preserved
loop-i-preserved c =
    let output = c.args.output_for in
    let offset = c.args.code_section_offset in
    let fs = c.args.functions.now in
    let i = c.loop-i.i in
    let f = c.index-functions-i.result in
    let h = c.loop-i.invariant in
    let good = sym c.map_fault.ensures ∙ c.in_default.is in
    rw (c.in_ok-push.ensures.items) (
      omega (arith, h.0, length-append c.loop-i.maps.items (c.in_ok-function_map.field-0 ∷ [])),
      bad-behind output offset c.args.first_number i fs f c.loop-i-test.true c.index-functions-i.is good ∙ h.1,
      kept-behind output offset c.args.first_number i fs f c.loop-i-test.true c.index-functions-i.is c.loop-i.maps.items c.in_ok-function_map.field-0 c.in_ok-function_map.ensures ∙ h.2,
    )
