use Rattle.std.proofs.Common.{ℕ, ◌+◌, ◌-◌, ◌<◌, ◌≤◌, ◌≡◌, arith, [], ◌∷◌, Option, drop, length, filter_map, option_to_list, sym, ap, subst, ◌∙◌}
use Rattle.std.specs.Prelude.{reverse}
use Rattle.std.specs.List.{All}
use Rattle.std.proofs.lemmas.List.Elements.{All-head, All-nil, All-tail}
use Rattle.std.proofs.lemmas.Result.{err_from_is_err_and}
use Rattle.dwc_dwarf.specs.Lists.{list_source}
use Rattle.dwc_rules.specs.RangeAttributes.{begun_function}
use Rattle.dwc_rules.specs.Clones.{UnitSource}
use Rattle.dwc_rules.specs.Drafts.{Role}
use Rattle.dwc_dwarf.specs.Entries.{Entry, entries as entries_of}
use Rattle.dwc_base.specs.Listing.{Listing}
use Rattle.dwc_dwarf.specs.ReadValues.{IsReadEntry}
use Rattle.dwc_base.specs.Sections.{Fault}
use Rattle.dwc_read.specs.EntriesSeen.{entry_view}
use Rattle.dwc_unit.specs.GivenUnits.{IsAdded, IsReserved}
use Rattle.dwc_source.specs.Errors.{refusal_told}
use Rattle.dwc_clone.specs.BuiltUnits.{AreRoles}
use Rattle.dwc_clone.specs.ClonedEntries.{AreKnown}
use Rattle.dwc_clone.specs.ClonedUnits.{AreClonable, TellsFirst, clone_refusals, picked, placed_in}
use Rattle.dwc_source.specs.CompiledModules.{HasFrames}
use Rattle.dwc_extents.specs.Lineages.{AreWalked}
use Rattle.dwc_clone.specs.OpenWrappers.{CanCloseAll, IsOther, reserved_more}
use Rattle.dwc_source.specs.Sources.{AreEmitted, IsSource}
use Rattle.dwc_clone.proofs.BegunNumberLaws.{AreNotedSoFar, begun-first, noted_beside, noted-begin, noted-done, noted-more}
use Rattle.dwc_clone.proofs.EntryValues.{succeeded}
use Rattle.dwc_clone.proofs.UnitSteps.{AreAmong, advance-refused, among-end, among-more, among-refused, among-start, can-add-next, gone-not, gone-on, picked-here, picked-none, picked-not, picked-past, reserved-behind, root-known}
use Rattle.dwc_clone.proofs.WrapperRoles.{roles_from, unit-roles}
use Rattle.dwc_clone.proofs.unit.clone_unit.Goals.{then-loop-next-test+in_ok-advance+else-branch, else-loop-next-test}
use Rattle.dwc_clone.proofs.unit.clone_unit.Goals as goal

pub loop-next-init : goal.loop-next-init
loop-next-init g c =
    let registers = (goal.TargetIsa-dyn g c.args.isa.now).dwarf_registers c.args.isa.now.1 in
    let src = c.args.source.now in
    let kept = c.args.kept.now in
    let all = picked kept (entries_of src.unit.now.sections src.unit.now.header).items in
    let begins = begun_function (list_source src.unit.now.sections src.unit.now.header) src.transform.now in
    let first = length (reserved_more (length kept - 1) c.args.begun).places in
    let count = length kept - 1 in
    let begun = c.args.begun in
    let u = c.reserve_kept.new.unit in
    let walk = c.begin_walk-walk.result in
    let w = c.begin_walk-walk.ensures in
    let is = succeeded c.reserve_kept.result c.in_ok-of_memory.field-0 c.in_ok-of_memory.ensures c.reserve_kept.ensures in
    let no_wrappers = ap reverse w.wrappers in
    record {
      parents = subst (λ ps. AreKnown ps u) (sym w.parents) (record { root = root-known begun u count c.requires.begun is; others = All-nil (λ p. IsAdded p.index u) });
      first = λ same. w.parents;
      reserved = λ k low high.
          (λ above. subst (IsReserved k) (sym is) (reserved-behind count k begun (omega (arith, above, ap (λ b. length b.places) c.requires.begun)) (omega (arith, high, ap (λ b. length b.places) c.requires.begun))), subst (IsOther k) (sym no_wrappers) tt);
      wrappers = subst (CanCloseAll (length u.places) u) (sym no_wrappers) tt;
      plain = w.plain;
      texts = c.requires.texts;
      read = subst (λ (l : Listing Fault Entry). All IsReadEntry l.items) (sym c.in_ok-entries.ensures.start) c.requires.read;
      noted = subst (λ (l : Listing Fault Entry). AreNotedSoFar (filter_map begins (picked kept l.items)) (noted_beside c.args.translated.now (filter_map begins all)) c.args.translated.now) (sym c.in_ok-entries.ensures.start) (noted-begin (filter_map begins all) c.args.translated.now);
      fault = ap (λ (l : Listing Fault Entry). l.fault) c.in_ok-entries.ensures.start;
      cloned = λ number s roles source frames can emitted walked numbers.
          subst (λ (l : Listing Fault Entry). AreAmong registers src number s roles all (picked kept l.items) 0 c.args.strings.now c.args.strings.now begun u walk.parents.items (reverse walk.opened.items) walk.lineage walk.contexts walk.names) (sym c.in_ok-entries.ensures.start)
          (among-start registers src number s roles all c.args.strings.now begun u count walk.parents.items (reverse walk.opened.items) walk.lineage walk.contexts walk.names c.requires.begun is w.parents no_wrappers w.lineage w.contexts (w.names src s c.args.strings.now) can
          (subst (λ v. AreRoles registers src s roles (length v.places) (placed_in src.unit.now.header.offset all)) (sym is) numbers));
    }

pub returns-in_err-advance-clause-cloned : goal.returns-in_err-advance-clause-cloned
returns-in_err-advance-clause-cloned g c number s source frames none can emitted walked =
    let registers = (goal.TargetIsa-dyn g c.args.isa.now).dwarf_registers c.args.isa.now.1 in
    let src = c.args.source.now in
    let kept = c.args.kept.now in
    let all = picked kept (entries_of src.unit.now.sections src.unit.now.header).items in
    let first = length (reserved_more (length kept - 1) c.args.begun).places in
    let told = advance-refused c.loop-next.entries.left c.advance.new.self.left c.advance.new.self.current c.in_err-advance.field-0.0 c.in_err-advance.ensures.next (c.loop-next.invariant.fault ∙ none) in
    let q = err_from_is_err_and c.from_residual-in_err-advance.result c.from_residual-in_err-advance.ensures.1 in
    rw (q.1, q.2) (subst (TellsFirst (clone_refusals registers src s all)) (sym told) tt)

pub clone_entry-requires-clause-read : goal.clone_entry-requires-clause-read
clone_entry-requires-clause-read g c =
    let next = c.loop-next.next in
    let old = c.loop-next.entries.left in
    let new = c.advance.new.self.left in
    let walk = c.loop-next.walk in
    let front = gone-on old new c.advance.new.self.current c.in_ok-advance.field-0 c.in_ok-advance.ensures.next c.if-branch.true in
    let read = subst (λ (l : Listing Fault Entry). All IsReadEntry l.items) front c.loop-next.invariant.read in
    subst IsReadEntry (sym c.current-entry.ensures) (All-head IsReadEntry c.advance.new.self.current new.items read)

pub clone_entry-requires-clause-other : goal.clone_entry-requires-clause-other
clone_entry-requires-clause-other g c = (c.loop-next.invariant.reserved c.loop-next.next (omega arith) c.loop-next-test.true).1

pub clone_entry-requires-clause-reserved : goal.clone_entry-requires-clause-reserved
clone_entry-requires-clause-reserved g c =
    let next = c.loop-next.next in
    can-add-next (record { index = next }) c.loop-next.walk.parents.items c.loop-next.unit c.loop-next.invariant.first (c.loop-next.invariant.reserved next (omega arith) c.loop-next-test.true).0

pub returns-in_err-clone_entry-clause-cloned : goal.returns-in_err-clone_entry-clause-cloned
returns-in_err-clone_entry-clause-cloned g c number s source frames none can emitted walked =
    let registers = (goal.TargetIsa-dyn g c.args.isa.now).dwarf_registers c.args.isa.now.1 in
    let src = c.args.source.now in
    let kept = c.args.kept.now in
    let all = picked kept (entries_of src.unit.now.sections src.unit.now.header).items in
    let first = length (reserved_more (length kept - 1) c.args.begun).places in
    let next = c.loop-next.next in
    let old = c.loop-next.entries.left in
    let new = c.advance.new.self.left in
    let walk = c.loop-next.walk in
    let front = gone-on old new c.advance.new.self.current c.in_ok-advance.field-0 c.in_ok-advance.ensures.next c.if-branch.true in
    let e = entry_view c.current-entry.result.now in
    let others = picked (drop (next + 1) kept) new.items in
    let one = ap (λ (l : Listing Fault Entry). picked (drop next kept) l.items) front ∙ ap (λ x. picked (drop next kept) (x ∷ new.items)) (sym c.current-entry.ensures) in
    let here = one ∙ picked-here kept next 0 e new.items c.loop-next-test.true (c.if-entry-from.true ∙ c.from.ensures) in
    let among : (number : ℕ) (s : UnitSource) (roles : ℕ → Role → Option ℕ) → IsSource src number s → HasFrames src.module src.transform.now → AreClonable all → AreEmitted src s number all → AreWalked s.entries (placed_in src.unit.now.header.offset all) → AreRoles registers src s roles first (placed_in src.unit.now.header.offset all)
    → AreAmong registers src number s roles all (e ∷ others) next c.args.strings.now c.loop-next.strings c.args.begun c.loop-next.unit walk.parents.items (reverse walk.opened.items) walk.lineage walk.contexts walk.names =
    λ number s roles source frames can emitted walked numbers.
    subst (λ es. AreAmong registers src number s roles all es next c.args.strings.now c.loop-next.strings c.args.begun c.loop-next.unit walk.parents.items (reverse walk.opened.items) walk.lineage walk.contexts walk.names) here (c.loop-next.invariant.cloned number s roles source frames can emitted walked numbers) in
    let roles = roles_from registers src s first all in
    let a = among number s roles source frames can emitted walked (unit-roles registers src s number first all emitted.each) in
    let told = c.in_err-clone_entry.ensures.cloned number s roles a.es others c.args.strings.now c.args.begun source frames (subst (AreEmitted src s number) (sym a.whole) emitted) (subst (λ es. AreWalked s.entries (placed_in src.unit.now.header.offset es)) (sym a.whole) walked) a.place a.so in
    let q = err_from_is_err_and c.from_residual-in_err-clone_entry.result c.from_residual-in_err-clone_entry.ensures.1 in
    rw (q.1, q.2) (among-refused registers src number s roles all e others next c.args.strings.now c.loop-next.strings c.args.begun c.loop-next.unit walk.parents.items (reverse walk.opened.items) walk.lineage walk.contexts walk.names (refusal_told c.in_err-clone_entry.field-0.0) a told)

pub loop-next-preserved-then-entry-from : goal.loop-next-preserved-then-entry-from
loop-next-preserved-then-entry-from g c =
    let registers = (goal.TargetIsa-dyn g c.args.isa.now).dwarf_registers c.args.isa.now.1 in
    let src = c.args.source.now in
    let kept = c.args.kept.now in
    let all = picked kept (entries_of src.unit.now.sections src.unit.now.header).items in
    let begins = begun_function (list_source src.unit.now.sections src.unit.now.header) src.transform.now in
    let first = length (reserved_more (length kept - 1) c.args.begun).places in
    let next = c.loop-next.next in
    let old = c.loop-next.entries.left in
    let new = c.advance.new.self.left in
    let walk = c.loop-next.walk in
    let front = gone-on old new c.advance.new.self.current c.in_ok-advance.field-0 c.in_ok-advance.ensures.next c.if-branch.true in
    let e = entry_view c.current-entry.result.now in
    let others = picked (drop (next + 1) kept) new.items in
    let one = ap (λ (l : Listing Fault Entry). picked (drop next kept) l.items) front ∙ ap (λ x. picked (drop next kept) (x ∷ new.items)) (sym c.current-entry.ensures) in
    let here = one ∙ picked-here kept next 0 e new.items c.loop-next-test.true (c.if-entry-from.true ∙ c.from.ensures) in
    let among : (number : ℕ) (s : UnitSource) (roles : ℕ → Role → Option ℕ) → IsSource src number s → HasFrames src.module src.transform.now → AreClonable all → AreEmitted src s number all → AreWalked s.entries (placed_in src.unit.now.header.offset all) → AreRoles registers src s roles first (placed_in src.unit.now.header.offset all)
    → AreAmong registers src number s roles all (e ∷ others) next c.args.strings.now c.loop-next.strings c.args.begun c.loop-next.unit walk.parents.items (reverse walk.opened.items) walk.lineage walk.contexts walk.names =
    λ number s roles source frames can emitted walked numbers.
    subst (λ es. AreAmong registers src number s roles all es next c.args.strings.now c.loop-next.strings c.args.begun c.loop-next.unit walk.parents.items (reverse walk.opened.items) walk.lineage walk.contexts walk.names) here (c.loop-next.invariant.cloned number s roles source frames can emitted walked numbers) in
    let then_walk = c.clone_entry.new.walk in
    let v = c.clone_entry.new.unit in
    let kept_numbers : (k : ℕ) → next + 1 ≤ k → k < length kept → (0 < k → IsReserved k v) × IsOther k (reverse then_walk.opened.items) =
    λ k low high.
    let before = c.loop-next.invariant.reserved k (omega (arith, low)) high in
    let both = c.in_ok-clone_entry.ensures.others k (before.0 (omega (arith, low))) before.1 (λ same. absurd (omega (arith, low, same))) in
    (λ above. both.0, both.1) in
    record {
      parents = c.in_ok-clone_entry.ensures.parents;
      first = λ same. absurd (omega (arith, same));
      reserved = kept_numbers;
      wrappers = c.in_ok-clone_entry.ensures.wrappers;
      plain = c.in_ok-clone_entry.ensures.plain;
      texts = c.in_ok-clone_entry.ensures.texts;
      read = All-tail IsReadEntry c.advance.new.self.current new.items (subst (λ (l : Listing Fault Entry). All IsReadEntry l.items) front c.loop-next.invariant.read);
      noted = noted-more (option_to_list (begins e)) (filter_map begins others) (noted_beside c.args.translated.now (filter_map begins all)) c.loop-next.translated c.clone_entry.new.translated c.in_ok-clone_entry.ensures.noted
          (subst (λ fs. AreNotedSoFar fs (noted_beside c.args.translated.now (filter_map begins all)) c.loop-next.translated) (ap (filter_map begins) here ∙ begun-first begins e others) c.loop-next.invariant.noted);
      fault = sym (ap (λ (l : Listing Fault Entry). l.fault) front) ∙ c.loop-next.invariant.fault;
      cloned = λ number s roles source frames can emitted walked numbers.
          let a = among number s roles source frames can emitted walked numbers in
          among-more registers src number s roles all e others next c.args.strings.now c.loop-next.strings c.clone_entry.new.strings c.args.begun c.loop-next.unit v walk.parents.items then_walk.parents.items (reverse walk.opened.items) (reverse then_walk.opened.items) walk.lineage walk.contexts walk.names then_walk.lineage then_walk.contexts then_walk.names a
          (c.in_ok-clone_entry.ensures.cloned number s roles a.es others c.args.strings.now c.args.begun source frames (subst (AreEmitted src s number) (sym a.whole) emitted) (subst (λ es. AreWalked s.entries (placed_in src.unit.now.header.offset es)) (sym a.whole) walked) a.place a.so);
    }

pub loop-next-preserved : goal.loop-next-preserved
loop-next-preserved g c =
    let registers = (goal.TargetIsa-dyn g c.args.isa.now).dwarf_registers c.args.isa.now.1 in
    let src = c.args.source.now in
    let kept = c.args.kept.now in
    let all = picked kept (entries_of src.unit.now.sections src.unit.now.header).items in
    let begins = begun_function (list_source src.unit.now.sections src.unit.now.header) src.transform.now in
    let first = length (reserved_more (length kept - 1) c.args.begun).places in
    let next = c.loop-next.next in
    let old = c.loop-next.entries.left in
    let new = c.advance.new.self.left in
    let walk = c.loop-next.walk in
    let front = gone-on old new c.advance.new.self.current c.in_ok-advance.field-0 c.in_ok-advance.ensures.next c.if-branch.true in
    let e = entry_view c.current-entry.result.now in
    let one = ap (λ (l : Listing Fault Entry). picked (drop next kept) l.items) front ∙ ap (λ x. picked (drop next kept) (x ∷ new.items)) (sym c.current-entry.ensures) in
    let past = one ∙ picked-not kept next 0 e new.items c.loop-next-test.true (λ same. c.if-entry-from.false (same ∙ sym c.from.ensures)) in
    record {
      parents = c.loop-next.invariant.parents;
      first = c.loop-next.invariant.first;
      reserved = c.loop-next.invariant.reserved;
      wrappers = c.loop-next.invariant.wrappers;
      plain = c.loop-next.invariant.plain;
      texts = c.loop-next.invariant.texts;
      read = All-tail IsReadEntry c.advance.new.self.current new.items (subst (λ (l : Listing Fault Entry). All IsReadEntry l.items) front c.loop-next.invariant.read);
      noted = subst (λ es. AreNotedSoFar (filter_map begins es) (noted_beside c.args.translated.now (filter_map begins all)) c.loop-next.translated) past c.loop-next.invariant.noted;
      fault = sym (ap (λ (l : Listing Fault Entry). l.fault) front) ∙ c.loop-next.invariant.fault;
      cloned = λ number s roles source frames can emitted walked numbers.
          subst (λ es. AreAmong registers src number s roles all es next c.args.strings.now c.loop-next.strings c.args.begun c.loop-next.unit walk.parents.items (reverse walk.opened.items) walk.lineage walk.contexts walk.names) past (c.loop-next.invariant.cloned number s roles source frames can emitted walked numbers);
    }

pub returns-in_err-of_memory-2-clause-cloned : goal.returns-in_err-of_memory-2-clause-cloned
returns-in_err-of_memory-2-clause-cloned g c number s source frames none can emitted walked =
    let registers = (goal.TargetIsa-dyn g c.args.isa.now).dwarf_registers c.args.isa.now.1 in
    let src = c.args.source.now in
    let all = picked c.args.kept.now (entries_of src.unit.now.sections src.unit.now.header).items in
    let q = err_from_is_err_and c.from_residual-in_err-of_memory-2.result c.from_residual-in_err-of_memory-2.ensures.1 in
    rw (q.1, q.2) (subst (TellsFirst (clone_refusals registers src s all)) (sym (ap refusal_told c.in_err-of_memory-2.ensures)) tt)

pub returns-clause-cloned : goal.returns-clause-cloned
returns-clause-cloned g c number s source frames none can emitted walked =
    let registers = (goal.TargetIsa-dyn g c.args.isa.now).dwarf_registers c.args.isa.now.1 in
    let src = c.args.source.now in
    let kept = c.args.kept.now in
    let all = picked kept (entries_of src.unit.now.sections src.unit.now.header).items in
    let first = length (reserved_more (length kept - 1) c.args.begun).places in
    let walk = c.loop-next.walk in
    let roles = roles_from registers src s first all in
    let a = c.loop-next.invariant.cloned number s roles source frames can emitted walked (unit-roles registers src s number first all emitted.each) in
    let closed = succeeded c.close_wrappers.result c.in_ok-of_memory-2.field-0 c.in_ok-of_memory-2.ensures c.close_wrappers.ensures.unit in
    rw (c.give_back.ensures) (among-end registers src number s source roles all _ c.loop-next.next (length c.loop-next.unit.places) c.args.strings.now c.loop-next.strings c.args.begun c.loop-next.unit c.close_wrappers.new.unit walk.parents.items (reverse walk.opened.items) walk.lineage walk.contexts walk.names a
    (elim c.loop-next-test.branch [
      | then-loop-next-test+in_ok-advance+else-branch w ↦
          ap (λ (l : Listing Fault Entry). picked (drop c.loop-next.next kept) l.items) (gone-not c.loop-next.entries.left w.advance.new.self.left w.advance.new.self.current w.in_ok-advance.field-0 w.in_ok-advance.ensures.next w.if-branch.false)
          ∙ picked-none (drop c.loop-next.next kept)
      | else-loop-next-test w ↦ picked-past kept c.loop-next.next c.loop-next.entries.left.items w.loop-next-test.false
    ])
    can c.loop-next.invariant.wrappers closed)

pub returns-clause-noted : goal.returns-clause-noted
returns-clause-noted g c =
    let src = c.args.source.now in
    let kept = c.args.kept.now in
    let all = picked kept (entries_of src.unit.now.sections src.unit.now.header).items in
    let begins = begun_function (list_source src.unit.now.sections src.unit.now.header) src.transform.now in
    let none : picked (drop c.loop-next.next kept) c.loop-next.entries.left.items ≡ [] =
    elim c.loop-next-test.branch [
      | then-loop-next-test+in_ok-advance+else-branch w ↦
          ap (λ (l : Listing Fault Entry). picked (drop c.loop-next.next kept) l.items) (gone-not c.loop-next.entries.left w.advance.new.self.left w.advance.new.self.current w.in_ok-advance.field-0 w.in_ok-advance.ensures.next w.if-branch.false)
          ∙ picked-none (drop c.loop-next.next kept)
      | else-loop-next-test w ↦ picked-past kept c.loop-next.next c.loop-next.entries.left.items w.loop-next-test.false
    ] in
    noted-done (noted_beside c.args.translated.now (filter_map begins all)) c.loop-next.translated (subst (λ es. AreNotedSoFar (filter_map begins es) (noted_beside c.args.translated.now (filter_map begins all)) c.loop-next.translated) none c.loop-next.invariant.noted)
