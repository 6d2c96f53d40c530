use Rattle.std.proofs.Common.{◌≡◌, ℕ, suc, ◌<◌, ◌≤◌, ◌+◌, ◌-◌, ◌∷◌, arith, drop, length, sym, subst, refl}
use Rattle.std.proofs.lemmas.List.{drop_all}
use Rattle.std.proofs.lemmas.Result.{err_from_is_err_and}
use Rattle.dwc_rules.specs.Carried.{Module}
use Rattle.dwc_carried.specs.SimulatedFunctions.{begun_in_module}
use Rattle.dwc_kept.proofs.KeptModuleLaws.{read-unit}
use Rattle.dwc_source.specs.CompiledModules.{told_by}
use Rattle.dwc_source.specs.KnownTexts.{KnowsTexts}
use Rattle.dwc_carry.specs.LastLines.{IsLast}
use Rattle.dwc_carry.specs.CarriedUnits.{IsOfModule}
use Rattle.dwc_kept.specs.ReadUnits.{unit_read}
use Rattle.dwc_carry.specs.ModulePlaces.{emitted, numbered_lists}
use Rattle.dwc_clone.proofs.BegunNumberLaws.{AreNotedSoFar, noted_beside, noted-begin, noted-done}
use Rattle.dwc_carry.proofs.BegunLaws.{begun_left, begun-all, begun-none, begun-some}
use Rattle.dwc_carry.proofs.UnitLoopLaws.{added-at, synthetic-refers, UnitsSoFar, units-begin, units-done, units-none, units-some, units-refused, refused-all, unit-there, units-left, unit-next, of-itself, places-behind}
use Rattle.dwc_carry.proofs.UnitSources.{entries-of-read}
use Rattle.dwc_carry.proofs.carry_units.carry_units.Goals.{then-kept-gt0+in_ok-last, else-kept-gt0}
use Rattle.dwc_carry.proofs.carry_units.carry_units.Goals as goal

pub loop-i-init : goal.loop-i-init
loop-i-init g c = record {
  added = λ d synthetic at of. units-begin d c.args.read_module.now c.args.form.encoding c.args.form.big_endian synthetic c.args.dwarf.now at (of-itself d c.args.transform.now (told_by ((goal.TargetIsa-dyn g c.args.isa.now).dwarf_registers c.args.isa.now.1) c.args.compiled.now) c.args.read_module.now of);
  noted = λ d of.
      subst (λ fs. AreNotedSoFar fs (noted_beside c.args.translated.now (begun_in_module d)) c.args.translated.now) (begun-all d c.args.read_module.now c.args.transform.now (told_by ((goal.TargetIsa-dyn g c.args.isa.now).dwarf_registers c.args.isa.now.1) c.args.compiled.now) of)
      (noted-begin (begun_in_module d) c.args.translated.now);
  known = λ d of. tt;
  texts = λ d of. c.new-known.ensures d.sections c.args.dwarf.now.strings;
}

pub carry_unit-requires-clause-known : goal.carry_unit-requires-clause-known
carry_unit-requires-clause-known g c =
    let told = (told_by ((goal.TargetIsa-dyn g c.args.isa.now).dwarf_registers c.args.isa.now.1) c.args.compiled.now) in
    let m = c.args.read_module.now in
    let r = c.index-read.result.now in
    let less : c.loop-i.i < length m.units.items = omega (arith, c.loop-i-test.true, c.len-i-end.ensures, m.units.ok) in
    let d = c.requires.read.of in
    let of = c.requires.read.is in
    subst (λ s. IsLast c.args.transform.now c.args.form.encoding s c.loop-i.dwarf.units.units.items c.loop-i.last) (sym (read-unit d m of.is r (unit-there c.args.transform.now told m c.loop-i.i r less c.index-read.ensures)).sections) (c.loop-i.invariant.known d of)

pub carry_unit-requires-clause-texts : goal.carry_unit-requires-clause-texts
carry_unit-requires-clause-texts g c =
    let told = (told_by ((goal.TargetIsa-dyn g c.args.isa.now).dwarf_registers c.args.isa.now.1) c.args.compiled.now) in
    let m = c.args.read_module.now in
    let r = c.index-read.result.now in
    let less : c.loop-i.i < length m.units.items = omega (arith, c.loop-i-test.true, c.len-i-end.ensures, m.units.ok) in
    let d = c.requires.read.of in
    let of = c.requires.read.is in
    subst (λ s. KnowsTexts s c.loop-i.dwarf.strings c.loop-i.known) (sym (read-unit d m of.is r (unit-there c.args.transform.now told m c.loop-i.i r less c.index-read.ensures)).sections) (c.loop-i.invariant.texts d of)

pub carry_unit-requires-clause-read : goal.carry_unit-requires-clause-read
carry_unit-requires-clause-read g c =
    let told = (told_by ((goal.TargetIsa-dyn g c.args.isa.now).dwarf_registers c.args.isa.now.1) c.args.compiled.now) in
    let m = c.args.read_module.now in
    let r = c.index-read.result.now in
    let less : c.loop-i.i < length m.units.items = omega (arith, c.loop-i-test.true, c.len-i-end.ensures, m.units.ok) in
    entries-of-read c.requires.read.of c.args.transform.now told m r c.requires.read.is (unit-there c.args.transform.now told m c.loop-i.i r less c.index-read.ensures)

pub returns-in_err-last-clause-added : goal.returns-in_err-last-clause-added
returns-in_err-last-clause-added g c = λ d first at of.
    let told = (told_by ((goal.TargetIsa-dyn g c.args.isa.now).dwarf_registers c.args.isa.now.1) c.args.compiled.now) in
    let m = c.args.read_module.now in
    let r = c.index-read.result.now in
    let fs = c.args.transform.now in
    let encoding = c.args.form.encoding in
    let big = c.args.form.big_endian in
    let old = c.args.dwarf.now in
    let new = c.loop-i.dwarf in
    let less : c.loop-i.i < length m.units.items = omega (arith, c.loop-i-test.true, c.len-i-end.ensures, m.units.ok) in
    let here : UnitsSoFar d m encoding big first m.units.items old new (r ∷ drop (c.loop-i.i + 1) m.units.items) =
    subst (UnitsSoFar d m encoding big first m.units.items old new) (units-left fs told m c.loop-i.i r less c.index-read.ensures) (c.loop-i.invariant.added d first at of) in
    let one = unit-next fs told m c.loop-i.i r less c.index-read.ensures d encoding big first old new c.args.places.now c.carried_entries-kept.result.now of c.carried_entries-kept.ensures c.if-kept-gt0.true (places-behind m (length old.units.units.items) first c.args.places.now at c.requires.places) here in
    let some = subst (λ xs. 0 < length xs) c.carried_entries-kept.ensures c.if-kept-gt0.true in
    let p = err_from_is_err_and c.from_residual.result c.from_residual.ensures.1 in
    rw (p.1, p.2)
    (refused-all d m encoding big first m.units.items old new refl (of-itself d fs told m of) c.in_err-last.field-0.0
    (units-refused d m encoding big first m.units.items old new r (drop (c.loop-i.i + 1) m.units.items) here some c.in_err-last.field-0.0 (c.in_err-last.ensures.added d m first one (synthetic-refers (told_by ((goal.TargetIsa-dyn g c.args.isa.now).dwarf_registers c.args.isa.now.1) c.args.compiled.now) d fs m first of (c.requires.synthetic first at)))))

pub loop-i-preserved : goal.loop-i-preserved
loop-i-preserved g c =
    let told = (told_by ((goal.TargetIsa-dyn g c.args.isa.now).dwarf_registers c.args.isa.now.1) c.args.compiled.now) in
    let m = c.args.read_module.now in
    let r = c.index-read.result.now in
    let fs = c.args.transform.now in
    let encoding = c.args.form.encoding in
    let big = c.args.form.big_endian in
    let old = c.args.dwarf.now in
    let new = c.loop-i.dwarf in
    let less : c.loop-i.i < length m.units.items = omega (arith, c.loop-i-test.true, c.len-i-end.ensures, m.units.ok) in
    let before = length old.units.units.items - 1 in
    let rest = drop (c.loop-i.i + 1) m.units.items in
    let here = λ (d : Module) (first : ℕ) (at : length old.units.units.items ≡ suc first) (of : IsOfModule encoding.version d fs told m). subst (UnitsSoFar d m encoding big first m.units.items old new) (units-left fs told m c.loop-i.i r less c.index-read.ensures) (c.loop-i.invariant.added d first at of) in
    let one = λ (d : Module) (first : ℕ) (at : length old.units.units.items ≡ suc first) (of : IsOfModule encoding.version d fs told m) (some : 0 < length c.carried_entries-kept.result.now).
    unit-next fs told m c.loop-i.i r less c.index-read.ensures d encoding big first old new c.args.places.now c.carried_entries-kept.result.now of c.carried_entries-kept.ensures some (places-behind m (length old.units.units.items) first c.args.places.now at c.requires.places) (here d first at of) in
    let all_noted = λ (d : Module). noted_beside c.args.translated.now (begun_in_module d) in
    let noted_here = λ (d : Module) (of : IsOfModule encoding.version d fs told m). subst (λ rs. AreNotedSoFar (begun_left d m rs) (all_noted d) c.loop-i.translated) (units-left fs told m c.loop-i.i r less c.index-read.ensures) (c.loop-i.invariant.noted d of) in
    elim c.if-kept-gt0.branch [
      | then-kept-gt0+in_ok-last w ↦
          let some = subst (λ xs. 0 < length xs) c.carried_entries-kept.ensures w.if-kept-gt0.true in
          record {
            added = λ d first at of. let given = w.in_ok-last.ensures.added d m first (one d first at of w.if-kept-gt0.true) (synthetic-refers told d fs m first of (c.requires.synthetic first at)) in rw w.dwarf-is (units-some d m encoding big first m.units.items old new r rest (here d first at of) some w.carry_unit.new.dwarf given.0 (added-at encoding big d first c.args.places.now (numbered_lists (suc first) (emitted m.kept m.units.items)) (unit_read d.sections r.unit.header) new w.carry_unit.new.dwarf (places-behind m (length old.units.units.items) first c.args.places.now at c.requires.places) given.1.0));
            noted = λ d of. let at : length old.units.units.items ≡ suc before = omega (arith, c.requires.behind) in
                rw w.translated-is (begun-some d m r rest (all_noted d) c.loop-i.translated w.carry_unit.new.translated some (w.in_ok-last.ensures.noted d m before (one d before at of w.if-kept-gt0.true)) (noted_here d of));
            known = λ d of. let at : length old.units.units.items ≡ suc before = omega (arith, c.requires.behind) in let given = w.in_ok-last.ensures.added d m before (one d before at of w.if-kept-gt0.true) (synthetic-refers told d fs m before of (c.requires.synthetic before at)) in
                rw (w.dwarf-is, w.last-is) (subst (λ gs. IsLast gs encoding d.sections w.carry_unit.new.dwarf.units.units.items w.in_ok-last.last) of.functions given.1.1);
            texts = λ d of. rw (w.dwarf-is, w.known-is) (subst (λ s. KnowsTexts s w.carry_unit.new.dwarf.strings w.carry_unit.new.known) (read-unit d m of.is r (unit-there fs told m c.loop-i.i r less c.index-read.ensures)).sections w.in_ok-last.ensures.texts);
          }
      | else-kept-gt0 w ↦ record {
        added = λ d first at of. rw w.dwarf-is (units-none d m encoding big first m.units.items old new r rest (here d first at of) (subst (λ xs. length xs ≤ 0) c.carried_entries-kept.ensures w.if-kept-gt0.false));
        noted = λ d of. rw w.translated-is (begun-none d m r rest (all_noted d) c.loop-i.translated (subst (λ xs. length xs ≤ 0) c.carried_entries-kept.ensures w.if-kept-gt0.false) (noted_here d of));
        known = λ d of. rw (w.dwarf-is, w.last-is) (c.loop-i.invariant.known d of);
        texts = λ d of. rw (w.dwarf-is, w.known-is) (c.loop-i.invariant.texts d of);
      }
    ]

pub returns-clause-noted : goal.returns-clause-noted
returns-clause-noted g c = λ d of.
    let m = c.args.read_module.now in
    let past : length m.units.items ≤ c.loop-i.i = omega (arith, c.loop-i-test.false, c.len-i-end.ensures, m.units.ok) in
    let all = noted_beside c.args.translated.now (begun_in_module d) in
    noted-done all c.loop-i.translated (subst (λ rs. AreNotedSoFar (begun_left d m rs) all c.loop-i.translated) (drop_all c.loop-i.i m.units.items past) (c.loop-i.invariant.noted d of))

pub returns-clause-added : goal.returns-clause-added
returns-clause-added g c = λ d first at of.
    let told = (told_by ((goal.TargetIsa-dyn g c.args.isa.now).dwarf_registers c.args.isa.now.1) c.args.compiled.now) in
    let m = c.args.read_module.now in
    let encoding = c.args.form.encoding in
    let big = c.args.form.big_endian in
    let old = c.args.dwarf.now in
    let new = c.loop-i.dwarf in
    let past : length m.units.items ≤ c.loop-i.i = omega (arith, c.loop-i-test.false, c.len-i-end.ensures, m.units.ok) in
    units-done d m encoding big first m.units.items old new at (subst (UnitsSoFar d m encoding big first m.units.items old new) (drop_all c.loop-i.i m.units.items past) (c.loop-i.invariant.added d first at of)) refl (of-itself d c.args.transform.now told m of)
