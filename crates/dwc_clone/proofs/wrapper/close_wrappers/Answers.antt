use Rattle.std.proofs.Common.{◌-◌, ap, length, subst, sym, take, ◌∙◌}
use Rattle.std.specs.Prelude.{reverse, slice_get}
use Rattle.std.proofs.lemmas.Bool.{le-ltb, lt-ltb}
use Rattle.dwc_unit.specs.GivenUnits.{IsAdded, IsReserved}
use Rattle.dwc_clone.specs.OpenWrappers.{CanCloseAll, closed_from, still_open}
use Rattle.dwc_clone.proofs.OpenWrapperLaws.{can-next, closed-here, closed-kept, closed-none, closed-reserved, closed-step, last-first, none-last, still-step}
use Rattle.dwc_clone.proofs.wrapper.close_wrappers.Goals as goal

pub loop-wrapper-preserved : goal.loop-wrapper-preserved
loop-wrapper-preserved c =
    let w = c.in-Some.wrapper in
    let all = c.loop-wrapper.opened.items in
    let others = reverse (take (length all - 1) all) in
    let are = last-first all w (sym (ap (λ xs. slice_get xs (length xs - 1)) c.deref.ensures.value) ∙ sym c.last.ensures.value ∙ sym c.copied.ensures ∙ c.in-Some.is) in
    let deep = le-ltb w.depth c.args.depth c.if-wrapper-depth.false in
    let left = ap reverse (c.truncate.ensures.items ∙ ap (λ n. take (n - 1) all) (c.len.ensures ∙ sym c.deref.ensures.len ∙ ap length c.deref.ensures.value)) in
    let now = c.in_ok-add_types.ensures in
    record {
      left = ap (λ xs. closed_from c.args.depth xs c.add_types.new.unit) left ∙ closed-step c.args.depth w others (reverse all) c.loop-wrapper.unit c.add_types.new.unit are deep now ∙ c.loop-wrapper.invariant.left;
      behind = ap (still_open c.args.depth) left ∙ still-step c.args.depth w others (reverse all) are deep ∙ c.loop-wrapper.invariant.behind;
      can = subst (λ xs. CanCloseAll (length c.add_types.new.unit.places) c.add_types.new.unit xs) (sym left) (subst (λ u. CanCloseAll (length u.places) u others) (sym now)
          (can-next (length c.loop-wrapper.unit.places) w others c.loop-wrapper.unit (subst (CanCloseAll (length c.loop-wrapper.unit.places) c.loop-wrapper.unit) are c.loop-wrapper.invariant.can)));
    }

pub returns-then-wrapper-depth-clause-added : goal.returns-then-wrapper-depth-clause-added
returns-then-wrapper-depth-clause-added c k added =
    let w = c.in-Some.wrapper in
    let all = c.loop-wrapper.opened.items in
    let are = last-first all w (sym (ap (λ xs. slice_get xs (length xs - 1)) c.deref.ensures.value) ∙ sym c.last.ensures.value ∙ sym c.copied.ensures ∙ c.in-Some.is) in
    let done = sym (closed-here c.args.depth w (reverse (take (length all - 1) all)) (reverse all) c.loop-wrapper.unit are (lt-ltb w.depth c.args.depth c.if-wrapper-depth.true)) ∙ c.loop-wrapper.invariant.left in
    subst (IsAdded k) (sym done) (closed-kept c.args.depth k (reverse c.args.opened.now.items) c.args.unit.now added)

pub returns-then-wrapper-depth-clause-reserved : goal.returns-then-wrapper-depth-clause-reserved
returns-then-wrapper-depth-clause-reserved c k reserved other =
    let w = c.in-Some.wrapper in
    let all = c.loop-wrapper.opened.items in
    let are = last-first all w (sym (ap (λ xs. slice_get xs (length xs - 1)) c.deref.ensures.value) ∙ sym c.last.ensures.value ∙ sym c.copied.ensures ∙ c.in-Some.is) in
    let done = sym (closed-here c.args.depth w (reverse (take (length all - 1) all)) (reverse all) c.loop-wrapper.unit are (lt-ltb w.depth c.args.depth c.if-wrapper-depth.true)) ∙ c.loop-wrapper.invariant.left in
    subst (IsReserved k) (sym done) (closed-reserved c.args.depth (length c.args.unit.now.places) k (reverse c.args.opened.now.items) c.args.unit.now c.requires other reserved)

pub returns-in_default-clause-added : goal.returns-in_default-clause-added
returns-in_default-clause-added c k added =
    let all = c.loop-wrapper.opened.items in
    let none = none-last all (sym (ap (λ xs. slice_get xs (length xs - 1)) c.deref.ensures.value) ∙ sym c.last.ensures.value ∙ sym c.copied.ensures ∙ c.in_default.is) in
    let done = sym (closed-none c.args.depth (reverse all) c.loop-wrapper.unit none) ∙ c.loop-wrapper.invariant.left in
    subst (IsAdded k) (sym done) (closed-kept c.args.depth k (reverse c.args.opened.now.items) c.args.unit.now added)

pub returns-in_default-clause-reserved : goal.returns-in_default-clause-reserved
returns-in_default-clause-reserved c k reserved other =
    let all = c.loop-wrapper.opened.items in
    let none = none-last all (sym (ap (λ xs. slice_get xs (length xs - 1)) c.deref.ensures.value) ∙ sym c.last.ensures.value ∙ sym c.copied.ensures ∙ c.in_default.is) in
    let done = sym (closed-none c.args.depth (reverse all) c.loop-wrapper.unit none) ∙ c.loop-wrapper.invariant.left in
    subst (IsReserved k) (sym done) (closed-reserved c.args.depth (length c.args.unit.now.places) k (reverse c.args.opened.now.items) c.args.unit.now c.requires other reserved)
