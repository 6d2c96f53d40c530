use Rattle.std.proofs.Common.{◌≡◌, ap, length, reverse, sym, subst, ◌∙◌, [], ◌∷◌}
use Rattle.std.specs.Prelude.{IfOk, OnOk}
use Rattle.std.proofs.lemmas.List.{reverse-append}
use Rattle.dwc_base.specs.declared.constants.TheConstants.{DW_TAG_structure_type}
use Rattle.dwc_unit.specs.GivenUnits.{GivenUnit, IsReserved}
use Rattle.dwc_clone.specs.ClonedEntries.{AddsBelow, AreKnown, last_parent}
use Rattle.dwc_clone.specs.OpenWrappers.{CanCloseAll, IsOpened, IsOther, wrapper_added}
use Rattle.dwc_clone.proofs.WrapperAdded.{opened-can, opened-known, opened-other}
use Rattle.dwc_clone.proofs.wrapped.add_wrapper.Goals as goal

pub returns-clause-parents : goal.returns-clause-parents
returns-clause-parents c =
    let depth = c.depth_of-depth.result in
    let parents = c.args.parents.now.items in
    let u0 = c.args.unit.now in
    let bare = c.add_entry.new.unit in
    let placed = c.in_ok-placed.placed in
    let w = c.in_ok-wrapper.wrapper in
    let texts = c.args.texts.now in
    let address = c.args.source.now.wasm_ptr in
    let target = c.type_id-target.result in
    let ws = reverse c.args.wrappers.now.items in
    let adds = subst (λ r. IfOk r (λ x. AddsBelow (last_parent depth parents) c.args.id DW_TAG_structure_type u0 bare x)) c.in_ok-placed.ensures c.add_entry.ensures.unit in
    let opened = subst (λ r. IfOk r (IsOpened depth placed.parent placed.id target (length bare.places))) c.in_ok-wrapper.ensures c.open_wrapper.ensures.open in
    let is = subst (λ r. IfOk r (λ x. c.open_wrapper.new.unit ≡ wrapper_added x texts address bare)) c.in_ok-wrapper.ensures c.open_wrapper.ensures.unit in
    let known = subst (λ r. OnOk r (AreKnown c.add_entry.new.parents.items bare)) c.in_ok-placed.ensures c.add_entry.ensures.known in
    subst (AreKnown c.add_entry.new.parents.items) (sym is) (opened-known parents depth c.args.id DW_TAG_structure_type u0 bare placed target w texts address ws adds opened c.add_entry.new.parents.items known)

pub returns-clause-others : goal.returns-clause-others
returns-clause-others c k reserved other apart =
    let depth = c.depth_of-depth.result in
    let parents = c.args.parents.now.items in
    let u0 = c.args.unit.now in
    let bare = c.add_entry.new.unit in
    let placed = c.in_ok-placed.placed in
    let w = c.in_ok-wrapper.wrapper in
    let texts = c.args.texts.now in
    let address = c.args.source.now.wasm_ptr in
    let target = c.type_id-target.result in
    let ws = reverse c.args.wrappers.now.items in
    let adds = subst (λ r. IfOk r (λ x. AddsBelow (last_parent depth parents) c.args.id DW_TAG_structure_type u0 bare x)) c.in_ok-placed.ensures c.add_entry.ensures.unit in
    let opened = subst (λ r. IfOk r (IsOpened depth placed.parent placed.id target (length bare.places))) c.in_ok-wrapper.ensures c.open_wrapper.ensures.open in
    let is = subst (λ r. IfOk r (λ x. c.open_wrapper.new.unit ≡ wrapper_added x texts address bare)) c.in_ok-wrapper.ensures c.open_wrapper.ensures.unit in
    let items = ap reverse c.in_ok-push.ensures.items ∙ reverse-append c.args.wrappers.now.items (w ∷ []) in
    let both = opened-other parents depth c.args.id DW_TAG_structure_type u0 bare placed target w texts address ws adds opened k reserved other apart in
    (subst (IsReserved k) (sym is) both.0, subst (IsOther k) (sym items) both.1)

pub returns-clause-open : goal.returns-clause-open
returns-clause-open c =
    let depth = c.depth_of-depth.result in
    let parents = c.args.parents.now.items in
    let u0 = c.args.unit.now in
    let bare = c.add_entry.new.unit in
    let placed = c.in_ok-placed.placed in
    let w = c.in_ok-wrapper.wrapper in
    let texts = c.args.texts.now in
    let address = c.args.source.now.wasm_ptr in
    let target = c.type_id-target.result in
    let ws = reverse c.args.wrappers.now.items in
    let adds = subst (λ r. IfOk r (λ x. AddsBelow (last_parent depth parents) c.args.id DW_TAG_structure_type u0 bare x)) c.in_ok-placed.ensures c.add_entry.ensures.unit in
    let opened = subst (λ r. IfOk r (IsOpened depth placed.parent placed.id target (length bare.places))) c.in_ok-wrapper.ensures c.open_wrapper.ensures.open in
    let is = subst (λ r. IfOk r (λ x. c.open_wrapper.new.unit ≡ wrapper_added x texts address bare)) c.in_ok-wrapper.ensures c.open_wrapper.ensures.unit in
    let items = ap reverse c.in_ok-push.ensures.items ∙ reverse-append c.args.wrappers.now.items (w ∷ []) in
    subst (CanCloseAll (length c.open_wrapper.new.unit.places) c.open_wrapper.new.unit) (sym items)
    (subst (λ (u : GivenUnit). CanCloseAll (length u.places) u (w ∷ ws)) (sym is) (opened-can parents depth c.args.id DW_TAG_structure_type u0 bare placed target w texts address ws adds opened c.requires.parents c.requires.other c.requires.open))
