use Rattle.std.proofs.Common.{ℕ, ◌<◌, ap, sym, subst, ◌∙◌, length, Some, Option, Result, Ok, Err, option_map, refl}
use Rattle.std.specs.Prelude.{IfOk, IfSome}
use Rattle.std.proofs.lemmas.List.Elements.{All-nil}
use Rattle.std.proofs.lemmas.Result.{err_from_is_err_and}
use Rattle.dwc_dwarf.specs.Trees as Trees
use Rattle.dwc_dwarf.specs.Entries.{Entry}
use Rattle.dwc_dwarf.specs.Values as Values
use Rattle.dwc_dwarf.specs.Indexed.{texts_of_unit}
use Rattle.dwc_rules.specs.Drafts.{done}
use Rattle.dwc_rules.specs.Clones.{constant_becomes, reference_becomes, value_becomes}
use Rattle.dwc_dwarf.specs.ReadValues.{IsReadValue}
use Rattle.dwc_read.specs.ValuesSeen.{value_view}
use Rattle.dwc_unit.specs.declared.attributes.AttributeValue.{AttributeValue}
use Rattle.dwc_unit.specs.GivenUnits.{FitsValue}
use Rattle.dwc_source.specs.declared.error.CloneError.{CloneError}
use Rattle.dwc_source.specs.Errors.{refusal_told}
use Rattle.dwc_extents.specs.CodeSources.{clone_rules, source_with}
use Rattle.dwc_source.specs.MadeValues.{GivesMade, RefusesSo, Says, SaysMore, any_reference, own_reference, target_place}
use Rattle.dwc_clone.proofs.CodeValueLaws.{address-kind, list-kind, list-named, locations-kind, locations-named, more-made}
use Rattle.dwc_source.proofs.TextLaws.{Grows-same}
use Rattle.dwc_clone.proofs.ValueLaws.{address-becomes, expression-becomes, gone-becomes, list-becomes, locations-becomes, made-none, made-same, text-becomes}
use Rattle.dwc_clone.proofs.ReferenceLaws.{any-says, own-says}
use Rattle.dwc_clone.proofs.value.any_value.Goals as goal

pub returns-in-Constant-clause-made : goal.returns-in-Constant-clause-made
unfolding value_becomes
returns-in-Constant-clause-made g c = λ number s e before source unit entry count force.
    let rules = clone_rules ((goal.TargetIsa-dyn g c.args.isa.now).dwarf_registers c.args.isa.now.1) c.args.source.now s in
    let is = ap (λ v. value_becomes rules s e before c.args.name (value_view v)) c.in-Constant.is in
    made-same c.args.source.now.places.now number c.args.name c.args.strings.now _ (option_map done (constant_becomes s c.args.name c.in-Constant.form c.in-Constant.bits)) c.constant.result is (c.constant.ensures.made s c.args.source.now.places.now number c.args.strings.now source.files)

pub returns-in-Flag-clause-made : goal.returns-in-Flag-clause-made
unfolding value_becomes
returns-in-Flag-clause-made g c = λ number s e before source unit entry count force.
    let rules = clone_rules ((goal.TargetIsa-dyn g c.args.isa.now).dwarf_registers c.args.isa.now.1) c.args.source.now s in
    let is = ap (λ v. value_becomes rules s e before c.args.name (value_view v)) c.in-Flag.is in
    made-same c.args.source.now.places.now number c.args.name c.args.strings.now _ (Some (done (Trees.flag c.in-Flag.flag))) _ is (record { means = λ goals at. refl; fits = λ size. tt; texts = All-nil (λ n. n < length c.args.strings.now) })

pub returns-in_ok-block-in-Block-clause-made : goal.returns-in_ok-block-in-Block-clause-made
unfolding value_becomes
returns-in_ok-block-in-Block-clause-made g c = λ number s e before source unit entry count force.
    let rules = clone_rules ((goal.TargetIsa-dyn g c.args.isa.now).dwarf_registers c.args.isa.now.1) c.args.source.now s in
    let is = ap (λ v. value_becomes rules s e before c.args.name (value_view v)) c.in-Block.is in
    let expression = subst (λ v. IsReadValue c.args.name (value_view v)) c.in-Block.is c.requires.read in
    made-same c.args.source.now.places.now number c.args.name c.args.strings.now _ (Some (done (Trees.block c.in-Block.bytes.now))) _ is (c.in_ok-block-in-Block.ensures.made c.args.source.now.places.now number c.args.name c.args.strings.now expression)

pub returns-in_ok-block-in-Block-clause-fits : goal.returns-in_ok-block-in-Block-clause-fits
returns-in_ok-block-in-Block-clause-fits g c = λ size. c.in_ok-block-in-Block.ensures.fits size c.args.name (subst (λ v. IsReadValue c.args.name (value_view v)) c.in-Block.is c.requires.read)

pub returns-in-Text-clause-made : goal.returns-in-Text-clause-made
returns-in-Text-clause-made g c = λ number s e before source unit entry count force.
    let u = c.args.source.now.unit.now in
    let registers = (goal.TargetIsa-dyn g c.args.isa.now).dwarf_registers c.args.isa.now.1 in
    let at = ap (λ (x : Entry). x.offset) entry in
    let is = text-becomes (source_with registers c.args.source.now s) s e before c.args.name c.args.value (texts_of_unit u.sections u.header) c.args.entry.now.offset c.in-Text.is source.texts at in
    subst (λ read. GivesMade (SaysMore c.args.source.now.places.now number c.args.name c.args.strings.now c.text.new.strings) read c.text.result) (sym is) (c.text.ensures.made c.args.source.now.places.now number)

pub returns-in-UnitRef-clause-made : goal.returns-in-UnitRef-clause-made
unfolding value_becomes
returns-in-UnitRef-clause-made g c = λ number s e before source unit entry count force.
    let rules = clone_rules ((goal.TargetIsa-dyn g c.args.isa.now).dwarf_registers c.args.isa.now.1) c.args.source.now s in
    let v = Values.unit_reference c.in-UnitRef.field-0 in
    let is = ap (λ v. value_becomes rules s e before c.args.name (value_view v)) c.in-UnitRef.is in
    let says = own-says c.args.source.now number c.args.name c.args.strings.now s e c.in-UnitRef.field-0 source unit in
    let made = c.unit_reference.ensures ∙ ap (λ v. option_map own_reference (target_place c.args.source.now (value_view v))) c.in-UnitRef.is in
    made-same c.args.source.now.places.now number c.args.name c.args.strings.now _ (reference_becomes s e v) _ is (subst (Says c.args.source.now.places.now number c.args.name c.args.strings.now (reference_becomes s e v)) (sym made) says)

pub returns-in-InfoRef-clause-made : goal.returns-in-InfoRef-clause-made
unfolding value_becomes
returns-in-InfoRef-clause-made g c = λ number s e before source unit entry count force.
    let rules = clone_rules ((goal.TargetIsa-dyn g c.args.isa.now).dwarf_registers c.args.isa.now.1) c.args.source.now s in
    let v = Values.info_reference c.in-InfoRef.field-0 in
    let is = ap (λ v. value_becomes rules s e before c.args.name (value_view v)) c.in-InfoRef.is in
    let says = any-says c.args.source.now number c.args.name c.args.strings.now s e v source unit in
    let made = c.info_reference.ensures ∙ ap (λ v. option_map any_reference (target_place c.args.source.now (value_view v))) c.in-InfoRef.is in
    made-same c.args.source.now.places.now number c.args.name c.args.strings.now _ (reference_becomes s e v) _ is (subst (Says c.args.source.now.places.now number c.args.name c.args.strings.now (reference_becomes s e v)) (sym made) says)

pub returns-in-LineRef-clause-made : goal.returns-in-LineRef-clause-made
returns-in-LineRef-clause-made g c = λ number s e before source unit entry count force.
    let registers = (goal.TargetIsa-dyn g c.args.isa.now).dwarf_registers c.args.isa.now.1 in
    let at = ap (λ (x : Entry). x.offset) entry in
    made-none c.args.source.now.places.now number c.args.name c.args.strings.now _ (gone-becomes (source_with registers c.args.source.now s) s e before c.args.name c.args.value c.in-LineRef.is)

pub returns-in-Addr-clause-made : goal.returns-in-Addr-clause-made
returns-in-Addr-clause-made g c = λ number s e before source unit entry count force.
    let registers = (goal.TargetIsa-dyn g c.args.isa.now).dwarf_registers c.args.isa.now.1 in
    let at = ap (λ (x : Entry). x.offset) entry in
    let is = address-becomes (source_with registers c.args.source.now s) s e before c.args.name c.args.value c.args.entry.now.offset at c.in-Addr.is in
    more-made c.args.source.now.places.now number c.args.name c.args.strings.now _ c.address.result
    (subst (λ read. GivesMade (Says c.args.source.now.places.now number c.args.name c.args.strings.now) read c.address.result) (sym is) (c.address.ensures.made number c.args.name c.args.strings.now (address-kind c.args.value c.in-Addr.is)))

pub returns-in-Addr-clause-fits : goal.returns-in-Addr-clause-fits
returns-in-Addr-clause-fits g c = go c.address.result c.address.ensures.fits
  where
    go : (r : Result (Option AttributeValue) CloneError) → ((size name : ℕ) → IfOk r (λ v. IfSome v (FitsValue size name))) → IfOk r (λ v. (size : ℕ) → IfSome v (FitsValue size c.args.name))
    go (Ok v) fits = λ size. fits size c.args.name
    go (Err e) fits = tt

pub range_list-requires-clause-list : goal.range_list-requires-clause-list
range_list-requires-clause-list g c = list-kind c.args.value c.in-RangeRef.is

pub returns-in_err-range_list-in-RangeRef-clause-made : goal.returns-in_err-range_list-in-RangeRef-clause-made
returns-in_err-range_list-in-RangeRef-clause-made g c = λ number s e before source unit entry count force.
    let registers = (goal.TargetIsa-dyn g c.args.isa.now).dwarf_registers c.args.isa.now.1 in
    let at = ap (λ (x : Entry). x.offset) entry in
    let is = list-becomes (source_with registers c.args.source.now s) s e before c.args.name c.args.value c.args.entry.now.offset at c.in-RangeRef.is in
    let named = list-named c.args.name c.args.value c.in-RangeRef.is c.requires.read in
    let p = err_from_is_err_and c.from_residual-in_err-range_list-in-RangeRef.result c.from_residual-in_err-range_list-in-RangeRef.ensures.1 in
    rw (p.1, p.2) (subst (λ read. RefusesSo read (refusal_told c.in_err-range_list-in-RangeRef.field-0.0)) (sym is) (c.in_err-range_list-in-RangeRef.ensures.made number c.args.name c.args.strings.now named))

pub returns-in_ok-range_list-in-RangeRef-clause-made : goal.returns-in_ok-range_list-in-RangeRef-clause-made
returns-in_ok-range_list-in-RangeRef-clause-made g c = λ number s e before source unit entry count force.
    let registers = (goal.TargetIsa-dyn g c.args.isa.now).dwarf_registers c.args.isa.now.1 in
    let at = ap (λ (x : Entry). x.offset) entry in
    let is = list-becomes (source_with registers c.args.source.now s) s e before c.args.name c.args.value c.args.entry.now.offset at c.in-RangeRef.is in
    let named = list-named c.args.name c.args.value c.in-RangeRef.is c.requires.read in
    let made = c.in_ok-range_list-in-RangeRef.ensures.made number c.args.name c.args.strings.now named in
    record { drafted = made.drafted; is = is ∙ made.is; made = record { grows = Grows-same c.args.strings.now; says = made.made } }

pub returns-in_ok-range_list-in-RangeRef-clause-fits : goal.returns-in_ok-range_list-in-RangeRef-clause-fits
returns-in_ok-range_list-in-RangeRef-clause-fits g c = λ size. c.in_ok-range_list-in-RangeRef.ensures.fits size c.args.name (list-named c.args.name c.args.value c.in-RangeRef.is c.requires.read)

pub returns-in-Exprloc-clause-made : goal.returns-in-Exprloc-clause-made
returns-in-Exprloc-clause-made g c = λ number s e before source unit entry count force.
    let registers = (goal.TargetIsa-dyn g c.args.isa.now).dwarf_registers c.args.isa.now.1 in
    let at = ap (λ (x : Entry). x.offset) entry in
    let is = expression-becomes (source_with registers c.args.source.now s) s e before c.args.name c.args.value c.in-Exprloc.bytes c.in-Exprloc.is in
    more-made c.args.source.now.places.now number c.args.name c.args.strings.now _ c.output_expression.result
    (subst (λ read. GivesMade (Says c.args.source.now.places.now number c.args.name c.args.strings.now) read c.output_expression.result) (sym is) (c.output_expression.ensures.made s e before number c.args.strings.now entry count force))

pub returns-in-Exprloc-clause-fits : goal.returns-in-Exprloc-clause-fits
returns-in-Exprloc-clause-fits g c = go c.output_expression.result c.output_expression.ensures.fits
  where
    go : (r : Result (Option AttributeValue) CloneError) → ((size : ℕ) → IfOk r (λ v. IfSome v (FitsValue size c.args.name))) → IfOk r (λ v. (size : ℕ) → IfSome v (FitsValue size c.args.name))
    go (Ok v) fits = fits
    go (Err e) fits = tt

pub output_locations-requires-clause-list : goal.output_locations-requires-clause-list
output_locations-requires-clause-list g c = locations-kind c.args.value c.in-LocRef.is

pub returns-in-LocRef-clause-made : goal.returns-in-LocRef-clause-made
returns-in-LocRef-clause-made g c = λ number s e before source unit entry count force.
    let registers = (goal.TargetIsa-dyn g c.args.isa.now).dwarf_registers c.args.isa.now.1 in
    let at = ap (λ (x : Entry). x.offset) entry in
    let is = locations-becomes (source_with registers c.args.source.now s) s e before c.args.name c.args.value c.in-LocRef.is in
    let named = locations-named c.args.name c.args.value c.in-LocRef.is c.requires.read in
    more-made c.args.source.now.places.now number c.args.name c.args.strings.now _ c.output_locations.result
    (subst (λ read. GivesMade (Says c.args.source.now.places.now number c.args.name c.args.strings.now) read c.output_locations.result) (sym is) (c.output_locations.ensures.made s e before number c.args.name c.args.strings.now entry named force))

pub returns-in-LocRef-clause-fits : goal.returns-in-LocRef-clause-fits
returns-in-LocRef-clause-fits g c = go c.output_locations.result (λ size. c.output_locations.ensures.fits size c.args.name (locations-named c.args.name c.args.value c.in-LocRef.is c.requires.read))
  where
    go : (r : Result (Option AttributeValue) CloneError) → ((size : ℕ) → IfOk r (λ v. IfSome v (FitsValue size c.args.name))) → IfOk r (λ v. (size : ℕ) → IfSome v (FitsValue size c.args.name))
    go (Ok v) fits = fits
    go (Err e) fits = tt
