use Rattle.std.proofs.Common.{◌<◌, ◌≤◌, ◌+◌, ◌∙◌, refl, ap, drop, length, map, sym, subst}
use Rattle.std.proofs.lemmas.List.{drop_all, length-map}
use Rattle.std.proofs.lemmas.Result.{err_from_is_err_and}
use Rattle.dwc_read.specs.ValuesSeen.{attribute_view}
use Rattle.dwc_read.specs.EntriesSeen.{entry_view}
use Rattle.dwc_read.proofs.ReadValueLaws.{attrs-read}
use Rattle.dwc_source.specs.Sources.{placed_entry}
use Rattle.dwc_clone.proofs.EntryValues.{attributes-drop, before-next, grows-not, grows-on}
use Rattle.dwc_clone.proofs.CheckedAttributes.{AreReadSoFar, read-end, read-more, read-refused, read-start}
use Rattle.dwc_clone.proofs.wrapped.check_attributes.Goals as goal

pub loop-attribute-init : goal.loop-attribute-init
loop-attribute-init g c = let registers = (goal.TargetIsa-dyn g c.args.isa.now).dwarf_registers c.args.isa.now.1 in record {
  number = refl;
  texts = c.requires.texts;
  grows = grows-not c.args.strings.now;
  read = λ number s source force.
      let p = placed_entry c.args.source.now (entry_view c.args.entry.now) in
      subst (λ xs. AreReadSoFar registers c.args.source.now s p c.args.strings.now c.args.strings.now 0 xs) (sym c.attrs-attributes.ensures) (read-start registers c.args.source.now s p c.args.strings.now);
}

pub output_attribute-requires-clause-within : goal.output_attribute-requires-clause-within
output_attribute-requires-clause-within g c = subst (λ n. c.loop-attribute.number < n) (sym (length-map c.attrs-attributes.result.now attribute_view) ∙ ap length c.attrs-attributes.ensures) (subst (λ n. n < length c.attrs-attributes.result.now) (sym c.loop-attribute.invariant.number) c.loop-attribute-test.true)

pub output_attribute-requires-clause-read : goal.output_attribute-requires-clause-read
output_attribute-requires-clause-read g c = (attrs-read c.attrs-attributes.result.now (entry_view c.args.entry.now) c.requires.read c.attrs-attributes.ensures c.loop-attribute.attribute-index _ c.loop-attribute-test.true).1

pub returns-in_err-output_attribute-clause-checked : goal.returns-in_err-output_attribute-clause-checked
returns-in_err-output_attribute-clause-checked g c number s source force =
    let registers = (goal.TargetIsa-dyn g c.args.isa.now).dwarf_registers c.args.isa.now.1 in
    let p = placed_entry c.args.source.now (entry_view c.args.entry.now) in
    let so = subst (λ xs. AreReadSoFar registers c.args.source.now s p c.args.strings.now c.loop-attribute.strings c.loop-attribute.number xs) (attributes-drop c.attrs-attributes.result.now c.loop-attribute.attribute-index _ c.loop-attribute-test.true) (c.loop-attribute.invariant.read number s source force) in
    let q = err_from_is_err_and c.from_residual.result c.from_residual.ensures.1 in
    rw (q.1, q.2) (read-refused registers c.args.source.now s p c.args.strings.now c.loop-attribute.strings c.loop-attribute.number _ _ _ so (c.in_err-output_attribute.ensures.made number s p so.before source refl refl so.front force))

pub loop-attribute-preserved : goal.loop-attribute-preserved
loop-attribute-preserved g c =
    let registers = (goal.TargetIsa-dyn g c.args.isa.now).dwarf_registers c.args.isa.now.1 in
    record {
      number = ap (λ n. n + 1) c.loop-attribute.invariant.number;
      texts = c.in_ok-output_attribute.ensures.known;
      grows = grows-on c.args.strings.now c.loop-attribute.strings c.output_attribute.new.strings c.loop-attribute.invariant.grows c.in_ok-output_attribute.ensures.grows;
      read = λ number s source force.
          let p = placed_entry c.args.source.now (entry_view c.args.entry.now) in
          let so = subst (λ xs. AreReadSoFar registers c.args.source.now s p c.args.strings.now c.loop-attribute.strings c.loop-attribute.number xs) (attributes-drop c.attrs-attributes.result.now c.loop-attribute.attribute-index _ c.loop-attribute-test.true) (c.loop-attribute.invariant.read number s source force) in
          read-more registers c.args.source.now number s p c.args.strings.now c.loop-attribute.strings c.output_attribute.new.strings c.loop-attribute.number (c.loop-attribute.number + 1) _ (drop (c.loop-attribute.attribute-index + 1) (map attribute_view c.attrs-attributes.result.now)) c.in_ok-output_attribute.field-0 so
          (before-next c.attrs-attributes.result.now c.loop-attribute.attribute-index c.loop-attribute.number _ (entry_view c.args.entry.now).attributes so.before c.attrs-attributes.ensures c.loop-attribute.invariant.number c.loop-attribute-test.true so.front) (c.in_ok-output_attribute.ensures.made number s p so.before source refl refl so.front force);
    }

pub returns-clause-checked : goal.returns-clause-checked
returns-clause-checked g c number s source force =
    let registers = (goal.TargetIsa-dyn g c.args.isa.now).dwarf_registers c.args.isa.now.1 in
    let p = placed_entry c.args.source.now (entry_view c.args.entry.now) in
    let none = drop_all c.loop-attribute.attribute-index (map attribute_view c.attrs-attributes.result.now) (subst (λ n. n ≤ c.loop-attribute.attribute-index) (sym (length-map c.attrs-attributes.result.now attribute_view)) c.loop-attribute-test.false) in
    read-end registers c.args.source.now s p c.args.strings.now c.loop-attribute.strings c.loop-attribute.number
    (subst (λ xs. AreReadSoFar registers c.args.source.now s p c.args.strings.now c.loop-attribute.strings c.loop-attribute.number xs) none (c.loop-attribute.invariant.read number s source force))
