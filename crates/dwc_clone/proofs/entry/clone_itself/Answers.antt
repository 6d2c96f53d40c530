use Rattle.std.proofs.Common.{◌≡◌, ℕ, [], ◌∷◌, ◌++◌, take, refl, sym, subst}
use Rattle.std.specs.Prelude.{IfOk, filter_map}
use Rattle.std.proofs.lemmas.Result.{err_from_is_err_and}
use Rattle.dwc_rules.specs.Clones.{endianity}
use Rattle.dwc_rules.specs.ContextVariable.{context_over}
use Rattle.dwc_rules.specs.DraftForests.{settled}
use Rattle.dwc_dwarf.specs.Lists.{list_source}
use Rattle.dwc_extents.specs.CodeSources.{source_with}
use Rattle.dwc_read.specs.EntriesSeen.{entry_view}
use Rattle.dwc_clone.specs.declared.entry.PlacedEntry.{PlacedEntry}
use Rattle.dwc_source.specs.Errors.{refusal_told}
use Rattle.dwc_clone.specs.ContextPlaces.{AddsVariable}
use Rattle.dwc_clone.specs.ClonedEntries.{AddsBelow, IsGiven, IsLast, last_parent, values_wanted}
use Rattle.dwc_source.specs.Sources.{placed_entry}
use Rattle.dwc_clone.specs.OpenWrappers.{KeepsNumbers}
use Rattle.dwc_clone.specs.PlainEntries.{code_said}
use Rattle.dwc_clone.specs.Tellings.{tell_of}
use Rattle.dwc_clone.proofs.EntryValues.{given-last, given-on, on-ok, succeeded}
use Rattle.dwc_clone.proofs.ItselfLaws.{attributes-refused, gives-itself}
use Rattle.dwc_clone.proofs.NumbersKept.{adds-same, keeps-below, keeps-on, keeps-places, known-kept}
use Rattle.dwc_clone.proofs.OwnScopeLaws.{own-scope-is}
use Rattle.dwc_clone.proofs.entry.clone_itself.Goals as goal

pub set_code-requires-clause-scope : goal.set_code-requires-clause-scope
set_code-requires-clause-scope g c =
    let src = c.args.source.now in
    own-scope-is (list_source src.unit.now.sections src.unit.now.header) src.transform.now (entry_view c.args.entry.now) c.args.walk.now.lineage _ c.requires.own c.own_scope-scope.ensures

pub returns-in_err-set_attributes-clause-itself : goal.returns-in_err-set_attributes-clause-itself
returns-in_err-set_attributes-clause-itself g c number s goals bare base placed e source frames at force told plain adds last =
    let registers = (goal.TargetIsa-dyn g c.args.isa.now).dwarf_registers c.args.isa.now.1 in
    let x = entry_view c.args.entry.now in
    let src = c.args.source.now in
    let p = placed_entry src x in
    let t0 = c.args.strings.now in
    let real = c.in_ok-placed.placed in
    let parents = c.args.walk.now.parents.items in
    let u0 = c.args.unit.now in
    let u1 = c.add_entry_with_room.new.unit in
    let u2 = c.set_code.new.unit in
    let real_adds = subst (λ d. AddsBelow (last_parent d parents) c.args.id x.tag u0 u1 real) c.depth_of-depth.ensures
    (subst (λ r. IfOk r (λ i. AddsBelow (last_parent c.depth_of-depth.result parents) c.args.id x.tag u0 u1 i)) c.in_ok-placed.ensures c.add_entry_with_room.ensures.unit) in
    let same = adds-same (last_parent x.depth parents) c.args.id x.tag u0 bare u1 placed real adds real_adds in
    let last1 = subst (λ (i : PlacedEntry). IsLast t0 i.id base e u1) (sym same.1) (subst (λ v. IsLast t0 placed.id base e v) (sym same.0) last) in
    let bounds = succeeded c.set_code.result c.in_ok-of_memory.field-0 c.in_ok-of_memory.ensures (c.set_code.ensures.given number t0 base e last1) in
    let last2 = given-last number t0 t0 (code_said src x) real.id base e u1 u2 last1 bounds in
    let refused = c.in_err-set_attributes.ensures.given number s goals base bounds.given source at last2 (frames, force) in
    let q = err_from_is_err_and c.from_residual-in_err-set_attributes.result c.from_residual-in_err-set_attributes.ensures.1 in
    rw (q.1, q.2) (attributes-refused registers src s p plain (refusal_told c.in_err-set_attributes.field-0.0) refused)

pub returns-clause-parents : goal.returns-clause-parents
returns-clause-parents g c =
    let u1 = c.add_entry_with_room.new.unit in
    let u2 = c.set_code.new.unit in
    let u3 = c.set_attributes.new.unit in
    let u4 = c.set_endianity.new.unit in
    let u5 = c.add_context.new.unit in
    let k12 : (but : ℕ) → KeepsNumbers but u1 u2 = λ but. keeps-places but u1 u2 (succeeded c.set_code.result c.in_ok-of_memory.field-0 c.in_ok-of_memory.ensures c.set_code.ensures.places) in
    let k23 : (but : ℕ) → KeepsNumbers but u2 u3 = λ but. keeps-places but u2 u3 c.in_ok-set_attributes.ensures.places in
    let k34 : (but : ℕ) → KeepsNumbers but u3 u4 = λ but. keeps-places but u3 u4 (succeeded c.set_endianity.result c.in_ok-of_memory-2.field-0 c.in_ok-of_memory-2.ensures c.set_endianity.ensures.places) in
    let k14 : (but : ℕ) → KeepsNumbers but u1 u4 = λ but. keeps-on but u1 u3 u4 (keeps-on but u1 u2 u3 (k12 but) (k23 but)) (k34 but) in
    let known = succeeded c.add_entry_with_room.result c.in_ok-placed.placed c.in_ok-placed.ensures c.add_entry_with_room.ensures.known in
    on-ok c.add_context.result (λ k45. known-kept 0 u1 u5 c.add_entry_with_room.new.parents.items (keeps-on 0 u1 u4 u5 (k14 0) k45) known) (c.add_context.ensures.numbers 0)

pub returns-clause-numbers : goal.returns-clause-numbers
returns-clause-numbers g c =
    let x = entry_view c.args.entry.now in
    let real = c.in_ok-placed.placed in
    let parents = c.args.walk.now.parents.items in
    let u0 = c.args.unit.now in
    let u1 = c.add_entry_with_room.new.unit in
    let u2 = c.set_code.new.unit in
    let real_adds = subst (λ d. AddsBelow (last_parent d parents) c.args.id x.tag u0 u1 real) c.depth_of-depth.ensures
    (subst (λ r. IfOk r (λ i. AddsBelow (last_parent c.depth_of-depth.result parents) c.args.id x.tag u0 u1 i)) c.in_ok-placed.ensures c.add_entry_with_room.ensures.unit) in
    let u3 = c.set_attributes.new.unit in
    let u4 = c.set_endianity.new.unit in
    let u5 = c.add_context.new.unit in
    let k12 : (but : ℕ) → KeepsNumbers but u1 u2 = λ but. keeps-places but u1 u2 (succeeded c.set_code.result c.in_ok-of_memory.field-0 c.in_ok-of_memory.ensures c.set_code.ensures.places) in
    let k23 : (but : ℕ) → KeepsNumbers but u2 u3 = λ but. keeps-places but u2 u3 c.in_ok-set_attributes.ensures.places in
    let k34 : (but : ℕ) → KeepsNumbers but u3 u4 = λ but. keeps-places but u3 u4 (succeeded c.set_endianity.result c.in_ok-of_memory-2.field-0 c.in_ok-of_memory-2.ensures c.set_endianity.ensures.places) in
    let k14 : (but : ℕ) → KeepsNumbers but u1 u4 = λ but. keeps-on but u1 u3 u4 (keeps-on but u1 u2 u3 (k12 but) (k23 but)) (k34 but) in
    let but = c.args.id.index in
    on-ok c.add_context.result (λ k45. keeps-on but u0 u1 u5 (keeps-below (last_parent x.depth parents) c.args.id x.tag u0 u1 real real_adds) (keeps-on but u1 u4 u5 (k14 but) k45)) (c.add_context.ensures.numbers but)

pub returns-clause-itself : goal.returns-clause-itself
returns-clause-itself g c number s goals bare base placed e source frames at force told plain adds last =
    let registers = (goal.TargetIsa-dyn g c.args.isa.now).dwarf_registers c.args.isa.now.1 in
    let x = entry_view c.args.entry.now in
    let src = c.args.source.now in
    let p = placed_entry src x in
    let t0 = c.args.strings.now in
    let real = c.in_ok-placed.placed in
    let parents = c.args.walk.now.parents.items in
    let u0 = c.args.unit.now in
    let u1 = c.add_entry_with_room.new.unit in
    let u2 = c.set_code.new.unit in
    let real_adds = subst (λ d. AddsBelow (last_parent d parents) c.args.id x.tag u0 u1 real) c.depth_of-depth.ensures
    (subst (λ r. IfOk r (λ i. AddsBelow (last_parent c.depth_of-depth.result parents) c.args.id x.tag u0 u1 i)) c.in_ok-placed.ensures c.add_entry_with_room.ensures.unit) in
    let same = adds-same (last_parent x.depth parents) c.args.id x.tag u0 bare u1 placed real adds real_adds in
    let last1 = subst (λ (i : PlacedEntry). IsLast t0 i.id base e u1) (sym same.1) (subst (λ v. IsLast t0 placed.id base e v) (sym same.0) last) in
    let bounds = succeeded c.set_code.result c.in_ok-of_memory.field-0 c.in_ok-of_memory.ensures (c.set_code.ensures.given number t0 base e last1) in
    let last2 = given-last number t0 t0 (code_said src x) real.id base e u1 u2 last1 bounds in
    let t1 = c.set_attributes.new.strings in
    let bounds_said = code_said src x in
    let values_said = values_wanted goals (tell_of c.args.telling s.entries p) registers src s p [] x.attributes in
    let order_said = filter_map (settled goals) (endianity src.big_endian p) in
    let u3 = c.set_attributes.new.unit in
    let u4 = c.set_endianity.new.unit in
    let u5 = c.add_context.new.unit in
    let set = c.in_ok-set_attributes.ensures.given number s goals base bounds.given source at last2 (frames, force) in
    let both = given-on number t0 t0 t1 bounds_said values_said base e u2 u3 bounds set.given in
    let last3 = given-last number t0 t1 (bounds_said ++ values_said) real.id base e u1 u3 last1 both in
    let order = succeeded c.set_endianity.result c.in_ok-of_memory-2.field-0 c.in_ok-of_memory-2.ensures (c.set_endianity.ensures.given number t1 goals base both.given p last3 refl) in
    let whole = given-on number t0 t1 t1 (bounds_said ++ values_said) order_said base e u3 u4 both order in
    let items = subst (λ d. c.add_entry_with_room.new.parents.items ≡ take d parents ++ real.id ∷ []) c.depth_of-depth.ensures
    (subst (λ r. IfOk r (λ i. c.add_entry_with_room.new.parents.items ≡ take c.depth_of-depth.result parents ++ i.id ∷ [])) c.in_ok-placed.ensures c.add_entry_with_room.ensures.parents) in
    gives-itself registers src s p plain goals number t0 t1 c.add_context.new.strings parents c.add_entry_with_room.new.parents.items placed base e u4 u5
    (subst (λ t. IsGiven number t0 t1 (bounds_said ++ values_wanted goals (tell_of t s.entries p) registers src s p [] x.attributes ++ order_said) base e u4) told whole)
    c.add_context.ensures.grows set.accepted (subst (λ (i : PlacedEntry). c.add_entry_with_room.new.parents.items ≡ take x.depth parents ++ i.id ∷ []) same.1 items)
    c.add_context.result
    (subst (λ (i : PlacedEntry). AddsVariable src.module.place (context_over (source_with registers src s) p) i.id.index src.vmctx_ptr c.add_context.new.strings u4 u5 c.add_context.result) same.1 (c.add_context.ensures.variable s (frames, force)))
