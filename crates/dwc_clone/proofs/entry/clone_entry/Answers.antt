use Rattle.std.proofs.Common.{◌≡◌, ℕ, ◌+◌, ◌∷◌, ◌++◌, length, refl, sym, ap, subst, ◌∙◌, Some}
use Rattle.std.specs.Prelude.{reverse}
use Rattle.dwc_dwarf.specs.Lists.{list_source}
use Rattle.dwc_read.specs.EntriesSeen.{entry_view}
use Rattle.dwc_unit.specs.GivenUnits.{IsReserved}
use Rattle.dwc_clone.specs.BuiltUnits.{TakesRoles, numbers_taken}
use Rattle.dwc_clone.specs.ClonedUnits.{goal_number}
use Rattle.dwc_clone.specs.ClonedEntries.{CanAdd}
use Rattle.dwc_source.specs.Sources.{placed_entry}
use Rattle.dwc_extents.specs.Lineages.{AreInForce, HasOwnScope}
use Rattle.dwc_clone.specs.OpenWrappers.{CanCloseAll, IsOther, closed_from, still_open}
use Rattle.dwc_clone.specs.WrappedEntries.{IsWrapped}
use Rattle.dwc_clone.proofs.ClonedSteps.{at-place, can-add-kept, can-itself, can-wrapped, follows-next, gives-itself_cloned, gives-wrapped_cloned, next-in-force, other-still, stands}
use Rattle.dwc_clone.proofs.EntryMade.{CanBeItself}
use Rattle.dwc_clone.proofs.EntrySteps.{closed-length}
use Rattle.dwc_clone.proofs.EntryValues.{on-ok, succeeded}
use Rattle.dwc_clone.proofs.NumbersKept.{can-kept}
use Rattle.dwc_clone.proofs.OpenWrapperLaws.{can-below}
use Rattle.dwc_clone.proofs.OwnScopeLaws.{own-scope-entered}
use Rattle.dwc_clone.proofs.ParameterLaws.{this-emitted}
use Rattle.dwc_clone.proofs.TakenNumbers.{numbers_in}
use Rattle.dwc_clone.proofs.entry.clone_entry.Goals as goal

pub wrap_entry-requires-clause-other : goal.wrap_entry-requires-clause-other
wrap_entry-requires-clause-other g c =
    let x = entry_view c.args.entry.now in
    let depth = c.depth_of.result in
    let ws0 = reverse c.args.walk.now.opened.items in
    let ws1 = reverse c.close_wrappers.new.opened.items in
    let u0 = c.args.unit.now in
    let u1 = c.close_wrappers.new.unit in
    let still : ws1 ≡ still_open x.depth ws0 = succeeded c.close_wrappers.result c.in_ok-of_memory.field-0 c.in_ok-of_memory.ensures c.close_wrappers.ensures.still ∙ ap (λ d. still_open d ws0) c.depth_of.ensures in
    let others1 : (k : ℕ) → IsOther k ws0 → IsOther k ws1 = λ k other. subst (IsOther k) (sym still) (other-still x.depth k ws0 other) in
    let reserved1 : (k : ℕ) → IsReserved k u0 → IsOther k ws0 → IsReserved k u1 = λ k reserved other. succeeded c.close_wrappers.result c.in_ok-of_memory.field-0 c.in_ok-of_memory.ensures (c.close_wrappers.ensures.reserved k reserved other) in
    others1 c.args.id.index c.requires.other

pub clone_itself-requires-clause-own : goal.clone_itself-requires-clause-own
clone_itself-requires-clause-own g c =
    let x = entry_view c.args.entry.now in
    let src = c.args.source.now in
    let sources = list_source src.unit.now.sections src.unit.now.header in
    subst (HasOwnScope sources src.transform.now x) (sym c.in_ok-is_sound.ensures.entered) (own-scope-entered sources src.transform.now x c.args.walk.now.lineage)

pub returns-then-is_wrapped-clause-others : goal.returns-then-is_wrapped-clause-others
returns-then-is_wrapped-clause-others g c = λ k reserved other apart.
    let x = entry_view c.args.entry.now in
    let depth = c.depth_of.result in
    let ws0 = reverse c.args.walk.now.opened.items in
    let ws1 = reverse c.close_wrappers.new.opened.items in
    let u0 = c.args.unit.now in
    let u1 = c.close_wrappers.new.unit in
    let still : ws1 ≡ still_open x.depth ws0 = succeeded c.close_wrappers.result c.in_ok-of_memory.field-0 c.in_ok-of_memory.ensures c.close_wrappers.ensures.still ∙ ap (λ d. still_open d ws0) c.depth_of.ensures in
    let others1 : (k : ℕ) → IsOther k ws0 → IsOther k ws1 = λ k other. subst (IsOther k) (sym still) (other-still x.depth k ws0 other) in
    let reserved1 : (k : ℕ) → IsReserved k u0 → IsOther k ws0 → IsReserved k u1 = λ k reserved other. succeeded c.close_wrappers.result c.in_ok-of_memory.field-0 c.in_ok-of_memory.ensures (c.close_wrappers.ensures.reserved k reserved other) in
    c.wrap_entry.ensures.others k (reserved1 k reserved other) (others1 k other) apart

pub returns-clause-others : goal.returns-clause-others
returns-clause-others g c = λ k reserved other apart.
    let x = entry_view c.args.entry.now in
    let depth = c.depth_of.result in
    let ws0 = reverse c.args.walk.now.opened.items in
    let ws1 = reverse c.close_wrappers.new.opened.items in
    let u0 = c.args.unit.now in
    let u1 = c.close_wrappers.new.unit in
    let still : ws1 ≡ still_open x.depth ws0 = succeeded c.close_wrappers.result c.in_ok-of_memory.field-0 c.in_ok-of_memory.ensures c.close_wrappers.ensures.still ∙ ap (λ d. still_open d ws0) c.depth_of.ensures in
    let others1 : (k : ℕ) → IsOther k ws0 → IsOther k ws1 = λ k other. subst (IsOther k) (sym still) (other-still x.depth k ws0 other) in
    let reserved1 : (k : ℕ) → IsReserved k u0 → IsOther k ws0 → IsReserved k u1 = λ k reserved other. succeeded c.close_wrappers.result c.in_ok-of_memory.field-0 c.in_ok-of_memory.ensures (c.close_wrappers.ensures.reserved k reserved other) in
    on-ok c.clone_itself.result (λ keeps. (keeps.reserved k apart (reserved1 k reserved other), subst (λ ws. IsOther k (reverse ws.items)) (sym c.clone_itself.ensures.wrappers) (others1 k other))) c.clone_itself.ensures.numbers

pub returns-clause-wrappers : goal.returns-clause-wrappers
returns-clause-wrappers g c =
    let x = entry_view c.args.entry.now in
    let depth = c.depth_of.result in
    let ws0 = reverse c.args.walk.now.opened.items in
    let ws1 = reverse c.close_wrappers.new.opened.items in
    let u0 = c.args.unit.now in
    let u1 = c.close_wrappers.new.unit in
    let still : ws1 ≡ still_open x.depth ws0 = succeeded c.close_wrappers.result c.in_ok-of_memory.field-0 c.in_ok-of_memory.ensures c.close_wrappers.ensures.still ∙ ap (λ d. still_open d ws0) c.depth_of.ensures in
    let others1 : (k : ℕ) → IsOther k ws0 → IsOther k ws1 = λ k other. subst (IsOther k) (sym still) (other-still x.depth k ws0 other) in
    let reserved1 : (k : ℕ) → IsReserved k u0 → IsOther k ws0 → IsReserved k u1 = λ k reserved other. succeeded c.close_wrappers.result c.in_ok-of_memory.field-0 c.in_ok-of_memory.ensures (c.close_wrappers.ensures.reserved k reserved other) in
    let v = c.clone_itself.new.unit in
    let can = succeeded c.close_wrappers.result c.in_ok-of_memory.field-0 c.in_ok-of_memory.ensures c.close_wrappers.ensures.closable in
    on-ok c.clone_itself.result
    (λ keeps. subst (λ ws. CanCloseAll (length v.places) v (reverse ws.items)) (sym c.clone_itself.ensures.wrappers)
    (can-below v (length u1.places) (length v.places) ws1 keeps.longer (can-kept c.args.id.index (length u1.places) u1 v ws1 keeps (others1 c.args.id.index c.requires.other) can)))
    c.clone_itself.ensures.numbers

pub returns-then-is_wrapped-clause-cloned : goal.returns-then-is_wrapped-clause-cloned
returns-then-is_wrapped-clause-cloned g c number s roles es others old begun source frames emitted walked place so =
    let x = entry_view c.args.entry.now in
    let depth = c.depth_of.result in
    let ws0 = reverse c.args.walk.now.opened.items in
    let ws1 = reverse c.close_wrappers.new.opened.items in
    let u0 = c.args.unit.now in
    let u1 = c.close_wrappers.new.unit in
    let still : ws1 ≡ still_open x.depth ws0 = succeeded c.close_wrappers.result c.in_ok-of_memory.field-0 c.in_ok-of_memory.ensures c.close_wrappers.ensures.still ∙ ap (λ d. still_open d ws0) c.depth_of.ensures in
    let others1 : (k : ℕ) → IsOther k ws0 → IsOther k ws1 = λ k other. subst (IsOther k) (sym still) (other-still x.depth k ws0 other) in
    let reserved1 : (k : ℕ) → IsReserved k u0 → IsOther k ws0 → IsReserved k u1 = λ k reserved other. succeeded c.close_wrappers.result c.in_ok-of_memory.field-0 c.in_ok-of_memory.ensures (c.close_wrappers.ensures.reserved k reserved other) in
    let registers = (goal.TargetIsa-dyn g c.args.isa.now).dwarf_registers c.args.isa.now.1 in
    let src = c.args.source.now in
    let p = placed_entry src x in
    let id = c.args.id in
    let t0 = c.args.strings.now in
    let parents = c.args.walk.now.parents.items in
    let sources = list_source src.unit.now.sections src.unit.now.header in
    let unit_is : u1 ≡ closed_from x.depth ws0 u0 = succeeded c.close_wrappers.result c.in_ok-of_memory.field-0 c.in_ok-of_memory.ensures c.close_wrappers.ensures.unit ∙ ap (λ d. closed_from d ws0 u0) c.depth_of.ensures in
    let count : numbers_in u1 ≡ numbers_in u0 = ap numbers_in unit_is ∙ closed-length x.depth ws0 u0 in
    let force = subst (AreInForce sources src.transform.now s.entries p) (sym c.in_ok-is_sound.ensures.entered) (next-in-force src s es others x c.args.walk.now.lineage walked so.entered) in
    let standing = stands registers src number s roles x others old t0 begun u0 ws0 es parents so.built so.follow in
    let add = subst (CanAdd id parents) unit_is (can-add-kept id parents u0 u1 (λ r. reserved1 id.index r c.requires.other) c.requires.reserved) in
    let placed_at = emitted.each (length es) x (at-place src s es others x) ∙ ap (λ n. Some (number, n)) (sym place) in
    let wrapped = sym (c.is_wrapped.ensures p refl) ∙ c.if-is_wrapped.true in
    let before = c.close_wrappers.new.opened.items in
    let behind = c.wrap_entry.new.walk.opened.items in
    let path = c.wrap_entry.new.walk.parents.items in
    let new = c.wrap_entry.new.strings in
    let v = c.wrap_entry.new.unit in
    let here = this-emitted src number s source es others x emitted walked in
    let takes : TakesRoles c.args.source.now.module.output_for roles (numbers_in u0) p = (so.numbers).0 in
    gives-wrapped_cloned registers src number s roles es x others old t0 begun u0 parents ws0 c.args.walk.now.lineage c.args.walk.now.contexts c.args.walk.now.names so id u1 v before behind new path c.wrap_entry.new.walk.lineage c.wrap_entry.new.walk.contexts c.wrap_entry.new.walk.names count
    (λ made.
    let both = can-wrapped registers src number s roles x others old t0 begun u0 ws0 es parents source (length u0.places) id standing c.requires.wrappers wrapped add placed_at takes before behind new path v (sym still) (subst (λ w. IsWrapped registers src s p t0 new parents path id before behind w v) unit_is made) in
    (both.0, both.1 ∙ ap (λ w. numbers_in w + numbers_taken registers src s p) (sym unit_is), follows-next registers src number s roles x others old t0 begun u0 ws0 es parents source made.placed.id path standing made.path_is))
    (c.wrap_entry.ensures.lineage ∙ c.in_ok-is_sound.ensures.entered) (c.wrap_entry.ensures.contexts ∙ c.in_ok-telling.ensures.contexts)
    c.wrap_entry.result (c.wrap_entry.ensures.names number s source here so.known)
    (c.wrap_entry.ensures.wrapped number s source frames here so.known force wrapped)

pub returns-clause-cloned : goal.returns-clause-cloned
returns-clause-cloned g c number s roles es others old begun source frames emitted walked place so =
    let x = entry_view c.args.entry.now in
    let depth = c.depth_of.result in
    let ws0 = reverse c.args.walk.now.opened.items in
    let ws1 = reverse c.close_wrappers.new.opened.items in
    let u0 = c.args.unit.now in
    let u1 = c.close_wrappers.new.unit in
    let still : ws1 ≡ still_open x.depth ws0 = succeeded c.close_wrappers.result c.in_ok-of_memory.field-0 c.in_ok-of_memory.ensures c.close_wrappers.ensures.still ∙ ap (λ d. still_open d ws0) c.depth_of.ensures in
    let others1 : (k : ℕ) → IsOther k ws0 → IsOther k ws1 = λ k other. subst (IsOther k) (sym still) (other-still x.depth k ws0 other) in
    let reserved1 : (k : ℕ) → IsReserved k u0 → IsOther k ws0 → IsReserved k u1 = λ k reserved other. succeeded c.close_wrappers.result c.in_ok-of_memory.field-0 c.in_ok-of_memory.ensures (c.close_wrappers.ensures.reserved k reserved other) in
    let registers = (goal.TargetIsa-dyn g c.args.isa.now).dwarf_registers c.args.isa.now.1 in
    let src = c.args.source.now in
    let p = placed_entry src x in
    let id = c.args.id in
    let t0 = c.args.strings.now in
    let parents = c.args.walk.now.parents.items in
    let sources = list_source src.unit.now.sections src.unit.now.header in
    let unit_is : u1 ≡ closed_from x.depth ws0 u0 = succeeded c.close_wrappers.result c.in_ok-of_memory.field-0 c.in_ok-of_memory.ensures c.close_wrappers.ensures.unit ∙ ap (λ d. closed_from d ws0 u0) c.depth_of.ensures in
    let count : numbers_in u1 ≡ numbers_in u0 = ap numbers_in unit_is ∙ closed-length x.depth ws0 u0 in
    let force = subst (AreInForce sources src.transform.now s.entries p) (sym c.in_ok-is_sound.ensures.entered) (next-in-force src s es others x c.args.walk.now.lineage walked so.entered) in
    let standing = stands registers src number s roles x others old t0 begun u0 ws0 es parents so.built so.follow in
    let add = subst (CanAdd id parents) unit_is (can-add-kept id parents u0 u1 (λ r. reserved1 id.index r c.requires.other) c.requires.reserved) in
    let placed_at = emitted.each (length es) x (at-place src s es others x) ∙ ap (λ n. Some (number, n)) (sym place) in
    let plain = sym (c.is_wrapped.ensures p refl) ∙ c.if-is_wrapped.false in
    let path = c.clone_itself.new.walk.parents.items in
    let new = c.clone_itself.new.strings in
    let v = c.clone_itself.new.unit in
    let all = es ++ x ∷ others in
    let first = can-itself registers src number s roles x others old t0 begun u0 ws0 es parents source (length u0.places) id standing c.requires.wrappers plain add placed_at place in
    let can = subst (λ ws. CanBeItself registers src number s source roles all begun x others t0 parents u1 id ws) (sym still) (subst (λ w. CanBeItself registers src number s source roles all begun x others t0 parents w id (still_open x.depth ws0)) (sym unit_is) first) in
    let telling = c.in_ok-telling.ensures.told number s es others source emitted walked so.told in
    gives-itself_cloned registers src number s roles es x others old t0 begun u0 parents ws0 c.args.walk.now.lineage c.args.walk.now.contexts c.args.walk.now.names so source id u1 v ws1 (reverse c.clone_itself.new.walk.opened.items) new path c.clone_itself.new.walk.lineage c.clone_itself.new.walk.contexts c.clone_itself.new.walk.names can count
    (ap (λ ws. reverse ws.items) c.clone_itself.ensures.wrappers)
    (λ it. follows-next registers src number s roles x others old t0 begun u0 ws0 es parents source can.placed.id path standing it.path_is)
    (c.clone_itself.ensures.lineage ∙ c.in_ok-is_sound.ensures.entered) (c.clone_itself.ensures.contexts ∙ c.in_ok-telling.ensures.contexts) c.clone_itself.ensures.names
    c.clone_itself.result
    (c.clone_itself.ensures.itself number s (goal_number src number roles) can.bare_unit can.base can.placed can.added source frames (λ offset. refl) force telling plain can.adds can.last)
