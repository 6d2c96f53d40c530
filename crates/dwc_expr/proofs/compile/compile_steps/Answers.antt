use Rattle.std.proofs.Common.{◌≡◌, ◌++◌, ◌∙◌, List, Bool, None, ap, map, option_map, subst, sym}
use Rattle.std.specs.List.{list_any}
use Rattle.dwc_native.specs.Parts.{CompiledParts, is_jump, joined, lone_local, old_format}
use Rattle.dwc_expr.specs.PartViews.{part_view}
use Rattle.dwc_expr.specs.Landings.{GivesLandings, marked_pad, parts_behind_marks}
use Rattle.dwc_expr.proofs.CompileLaws.{supported-parts}
use Rattle.dwc_expr.proofs.compile.compile_steps.Goals as goal

pub returns : goal.returns
returns c =
    let base = option_map (λ x. x.now) c.args.frame_base in
    let os = c.args.steps.now in
    let marks = c.in-Some.landings.items in
    let given = subst (GivesLandings c.args.size os) c.in-Some.is c.in_ok-landings.ensures in
    let lone : lone_local os ≡ None = sym c.lone_local.ensures ∙ ap (option_map (λ label. label.0)) c.in_default-lone_local.is in
    supported-parts base c.args.size os given.0 marks (map part_view c.in_ok-parts.parts.items) c.leaves_address.result lone given.1
    (c.in_ok-parts.ensures ∙ ap (λ (bs : List Bool). joined (old_format base os ++ (parts_behind_marks base bs os ++ marked_pad bs c.args.size))) c.deref.ensures.value) c.leaves_address.ensures

pub invariant_of-result : goal.invariant_of-result
invariant_of-result c =
    let base = option_map (λ x. x.now) c.args.frame_base in
    let os = c.args.steps.now in
    let marks = c.in-Some.landings.items in
    let given = subst (GivesLandings c.args.size os) c.in-Some.is c.in_ok-landings.ensures in
    let lone : lone_local os ≡ None = sym c.lone_local.ensures ∙ ap (option_map (λ label. label.0)) c.in_default-lone_local.is in
    let x : CompiledParts = record { parts = map part_view c.in_ok-parts.parts.items; need_deref = c.leaves_address.result } in (
      c.any_is_jump-has_jump.ensures ∙ ap (λ parts. list_any is_jump (map part_view parts)) c.deref-2.ensures.value,
      c.requires.whole x (supported-parts base c.args.size os given.0 marks (map part_view c.in_ok-parts.parts.items) c.leaves_address.result lone given.1
          (c.in_ok-parts.ensures ∙ ap (λ (bs : List Bool). joined (old_format base os ++ (parts_behind_marks base bs os ++ marked_pad bs c.args.size))) c.deref.ensures.value) c.leaves_address.ensures),
    )
