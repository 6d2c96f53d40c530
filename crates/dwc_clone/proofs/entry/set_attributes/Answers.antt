use Rattle.std.proofs.Common.{◌≡◌, ◌<◌, ◌≤◌, ◌+◌, refl, drop, get_or, length, map, sym, subst, ap, ◌∙◌}
use Rattle.std.specs.Prelude.{OnOk}
use Rattle.std.proofs.lemmas.List.{drop_all, length-map}
use Rattle.std.proofs.lemmas.Result.{err_from_is_err_and}
use Rattle.dwc_base.specs.declared.records.Address.TheVariants.{Constant}
use Rattle.dwc_read.specs.declared.value.AttributeValue.TheVariants.{Addr}
use Rattle.dwc_read.specs.ValuesSeen.{attribute_view}
use Rattle.dwc_read.specs.EntriesSeen.{entry_view}
use Rattle.dwc_read.proofs.ReadValueLaws.{attrs-read}
use Rattle.dwc_clone.specs.ClonedEntries.{with_made}
use Rattle.dwc_source.specs.Sources.{placed_entry}
use Rattle.dwc_clone.specs.Tellings.{tell_of}
use Rattle.dwc_clone.proofs.EntryValues.{AreSetSoFar, attributes-drop, before-next, made-places, set-end, set-more, set-refused, set-start}
use Rattle.dwc_source.proofs.KnownLaws.{known-grown}
use Rattle.dwc_clone.proofs.ToldLaws.{keeps-told}
use Rattle.dwc_clone.proofs.entry.set_attributes.Goals as goal

pub loop-attribute-init : goal.loop-attribute-init
loop-attribute-init g c = let registers = (goal.TargetIsa-dyn g c.args.isa.now).dwarf_registers c.args.isa.now.1 in record {
  places = refl;
  number = refl;
  texts = c.requires.texts;
  set = λ number s goals base e source at last force.
      let p = placed_entry c.args.source.now (entry_view c.args.entry.now) in
      let tell = tell_of c.args.telling s.entries p in
      subst (λ xs. AreSetSoFar goals tell registers c.args.source.now number s p c.args.strings.now c.args.strings.now base e c.args.unit.now 0 xs) (sym c.attrs-attributes.ensures) (set-start goals tell registers c.args.source.now number s p c.args.strings.now c.args.id base e c.args.unit.now last);
}

pub output_attribute-requires-clause-within : goal.output_attribute-requires-clause-within
output_attribute-requires-clause-within g c = subst (λ n. c.loop-attribute.number < n) (sym (length-map c.attrs-attributes.result.now attribute_view) ∙ ap length c.attrs-attributes.ensures) (subst (λ n. n < length c.attrs-attributes.result.now) (sym c.loop-attribute.invariant.number) c.loop-attribute-test.true)

pub output_attribute-requires-clause-read : goal.output_attribute-requires-clause-read
output_attribute-requires-clause-read g c = (attrs-read c.attrs-attributes.result.now (entry_view c.args.entry.now) c.requires.read c.attrs-attributes.ensures c.loop-attribute.attribute-index _ c.loop-attribute-test.true).1

pub returns-in_err-value-clause-given : goal.returns-in_err-value-clause-given
returns-in_err-value-clause-given g c number s goals base e source at last force =
    let registers = (goal.TargetIsa-dyn g c.args.isa.now).dwarf_registers c.args.isa.now.1 in
    let p = placed_entry c.args.source.now (entry_view c.args.entry.now) in
    let tell = tell_of c.args.telling s.entries p in
    let so = subst (λ xs. AreSetSoFar goals tell registers c.args.source.now number s p c.args.strings.now c.loop-attribute.strings base e c.loop-attribute.unit c.loop-attribute.number xs) (attributes-drop c.attrs-attributes.result.now c.loop-attribute.attribute-index _ c.loop-attribute-test.true) (c.loop-attribute.invariant.set number s goals base e source at last force) in
    let q = err_from_is_err_and c.from_residual.result c.from_residual.ensures.1 in
    rw (q.1, q.2) (set-refused goals tell registers c.args.source.now number s p c.args.strings.now c.loop-attribute.strings base e c.loop-attribute.unit c.loop-attribute.number _ _ _ so (c.in_err-value.ensures.made number s p so.before source refl refl so.front force))

pub set_made-requires-clause-fits : goal.set_made-requires-clause-fits
set_made-requires-clause-fits g c = c.in_ok-value-2.ensures.fits c.loop-attribute.unit.address_size

pub loop-attribute-preserved : goal.loop-attribute-preserved
loop-attribute-preserved g c =
    let registers = (goal.TargetIsa-dyn g c.args.isa.now).dwarf_registers c.args.isa.now.1 in
    let name = (get_or c.attrs-attributes.result.now c.loop-attribute.attribute-index (0, Addr (Constant 0))).0 in
    let now = subst (λ r. OnOk r (c.set_made.new.unit ≡ with_made c.args.id.index name c.in_ok-value-2.value c.loop-attribute.unit)) c.in_ok-of_memory.ensures c.set_made.ensures in
    record {
      places = ap (λ u. u.places) now ∙ made-places c.args.id.index name c.in_ok-value-2.value c.loop-attribute.unit ∙ c.loop-attribute.invariant.places;
      number = ap (λ n. n + 1) c.loop-attribute.invariant.number;
      texts = known-grown c.args.source.now.unit.now.sections c.output_attribute.new.strings c.told_value.new.strings c.output_attribute.new.known c.in_ok-value-2.ensures.grows c.in_ok-value.ensures.known;
      set = λ number s goals base e source at last force.
          let p = placed_entry c.args.source.now (entry_view c.args.entry.now) in
          let tell = tell_of c.args.telling s.entries p in
          let so = subst (λ xs. AreSetSoFar goals tell registers c.args.source.now number s p c.args.strings.now c.loop-attribute.strings base e c.loop-attribute.unit c.loop-attribute.number xs) (attributes-drop c.attrs-attributes.result.now c.loop-attribute.attribute-index _ c.loop-attribute-test.true) (c.loop-attribute.invariant.set number s goals base e source at last force) in
          let made = c.in_ok-value.ensures.made number s p so.before source refl refl so.front force in
          let told = c.in_ok-value-2.ensures.told registers number s p so.before made.drafted c.loop-attribute.strings source refl refl made.is made.made in
          subst (λ u. AreSetSoFar goals tell registers c.args.source.now number s p c.args.strings.now c.told_value.new.strings base e u (c.loop-attribute.number + 1) (drop (c.loop-attribute.attribute-index + 1) (map attribute_view c.attrs-attributes.result.now))) (sym now)
          (set-more goals tell registers c.args.source.now number s p c.args.strings.now c.loop-attribute.strings c.told_value.new.strings c.args.id base e c.args.unit.now c.loop-attribute.unit c.loop-attribute.number (c.loop-attribute.number + 1) _ _ told.drafted c.in_ok-value-2.value at (keeps-told c.args.telling s.entries p) last so (before-next c.attrs-attributes.result.now c.loop-attribute.attribute-index c.loop-attribute.number _ (entry_view c.args.entry.now).attributes so.before c.attrs-attributes.ensures c.loop-attribute.invariant.number c.loop-attribute-test.true so.front) told.is told.made);
    }

pub returns-clause-given : goal.returns-clause-given
returns-clause-given g c number s goals base e source at last force =
    let registers = (goal.TargetIsa-dyn g c.args.isa.now).dwarf_registers c.args.isa.now.1 in
    let p = placed_entry c.args.source.now (entry_view c.args.entry.now) in
    let tell = tell_of c.args.telling s.entries p in
    let none = drop_all c.loop-attribute.attribute-index (map attribute_view c.attrs-attributes.result.now) (subst (λ n. n ≤ c.loop-attribute.attribute-index) (sym (length-map c.attrs-attributes.result.now attribute_view)) c.loop-attribute-test.false) in
    set-end goals tell registers c.args.source.now number s p c.args.strings.now c.loop-attribute.strings base e c.loop-attribute.unit c.loop-attribute.number
    (subst (λ xs. AreSetSoFar goals tell registers c.args.source.now number s p c.args.strings.now c.loop-attribute.strings base e c.loop-attribute.unit c.loop-attribute.number xs) none (c.loop-attribute.invariant.set number s goals base e source at last force))

pub told_value-requires-clause-read : goal.told_value-requires-clause-read
told_value-requires-clause-read g c = (attrs-read c.attrs-attributes.result.now (entry_view c.args.entry.now) c.requires.read c.attrs-attributes.ensures c.loop-attribute.attribute-index _ c.loop-attribute-test.true).1

pub returns-in_err-value-2-clause-given : goal.returns-in_err-value-2-clause-given
returns-in_err-value-2-clause-given g c number s goals base e source at last force =
    let registers = (goal.TargetIsa-dyn g c.args.isa.now).dwarf_registers c.args.isa.now.1 in
    let p = placed_entry c.args.source.now (entry_view c.args.entry.now) in
    let tell = tell_of c.args.telling s.entries p in
    let so = subst (λ xs. AreSetSoFar goals tell registers c.args.source.now number s p c.args.strings.now c.loop-attribute.strings base e c.loop-attribute.unit c.loop-attribute.number xs) (attributes-drop c.attrs-attributes.result.now c.loop-attribute.attribute-index _ c.loop-attribute-test.true) (c.loop-attribute.invariant.set number s goals base e source at last force) in
    let made = c.in_ok-value.ensures.made number s p so.before source refl refl so.front force in
    let told = c.in_err-value-2.ensures.told registers number s p so.before made.drafted c.loop-attribute.strings source refl refl made.is made.made in
    let q = err_from_is_err_and c.from_residual-in_err-value-2.result c.from_residual-in_err-value-2.ensures.1 in
    rw (q.1, q.2) (set-refused goals tell registers c.args.source.now number s p c.args.strings.now c.loop-attribute.strings base e c.loop-attribute.unit c.loop-attribute.number _ _ _ so told)
