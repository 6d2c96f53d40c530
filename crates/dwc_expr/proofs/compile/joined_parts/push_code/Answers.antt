use Rattle.std.proofs.Common.{◌≡◌, ◌-◌, ◌∙◌, ap, sym, map, arith, true, false}
use Rattle.std.proofs.Math.Seq.{map-set_same}
use Rattle.std.proofs.lemmas.Result.{on_ok_weaker, on_err_weaker}
use Rattle.std.proofs.lemmas.List.{map-append}
use Rattle.dwc_native.specs.Parts.{code}
use Rattle.dwc_expr.specs.PartViews.{part_view}
use Rattle.dwc_expr.specs.JoinedParts.{ends_in_code}
use Rattle.dwc_expr.proofs.JoinedLaws.{behind-no_code, set-extended}
use Rattle.dwc_expr.proofs.compile.joined_parts.push_code.Goals as goal

pub returns-then-ends_in_code-clause-ok : goal.returns-then-ends_in_code-clause-ok
returns-then-ends_in_code-clause-ok c =
    let parts = c.args.parts.now in
    let ends : ends_in_code (map part_view parts.items) ≡ true = ap (λ xs. ends_in_code (map part_view xs)) (sym c.deref.ensures.value) ∙ sym c.ends_in_code.ensures ∙ c.if-ends_in_code.true in
    on_ok_weaker c.extend_code.result
    (set-extended part_view parts.items c.len-last.result c.index_mut.result.now c.extend_code.new.part (code c.args.bytes.now) (omega (arith, c.len-last.ensures, parts.ok.0, parts.ok.1)) ends c.index_mut.ensures.value) c.extend_code.ensures.ok

pub returns-then-ends_in_code-clause-err : goal.returns-then-ends_in_code-clause-err
returns-then-ends_in_code-clause-err c =
    on_err_weaker c.extend_code.result
    (λ same. map-set_same part_view c.args.parts.now.items (c.len-last.result - 1) c.extend_code.new.part c.index_mut.result.now (same ∙ ap part_view c.index_mut.ensures.value)) c.extend_code.ensures.err

pub returns-clause-ok : goal.returns-clause-ok
returns-clause-ok c =
    let parts = c.args.parts.now in
    let ends : ends_in_code (map part_view parts.items) ≡ false = ap (λ xs. ends_in_code (map part_view xs)) (sym c.deref.ensures.value) ∙ sym c.ends_in_code.ensures ∙ c.if-ends_in_code.false in
    rw (c.in_ok-push.ensures.items, map-append, c.in_ok-extend_from_slice.ensures.items, c.in_ok-copy.ensures.items) (sym (behind-no_code (map part_view parts.items) c.args.bytes.now ends))
