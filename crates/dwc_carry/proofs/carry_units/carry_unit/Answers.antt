use Rattle.std.proofs.Common.{◌∙◌, ap, refl, subst}
use Rattle.std.proofs.lemmas.Result.{err_from_is_err_and}
use Rattle.dwc_unit.specs.declared.units.UnitId.{UnitId}
use Rattle.dwc_unit.specs.GivenUnits.{GivenUnit}
use Rattle.dwc_clone.specs.BegunNumbers.{NotesFunctions}
use Rattle.dwc_carry.proofs.BegunLaws.{unit-begun}
use Rattle.dwc_carry.proofs.UnitMade.{begun-refused}
use Rattle.dwc_carry.proofs.UnitGives.{entries-refused, unit-added}
use Rattle.dwc_carry.proofs.carry_units.carry_unit.Goals as goal

pub returns-in_err-unit-clause-added : goal.returns-in_err-unit-clause-added
returns-in_err-unit-clause-added g c = λ d m first of refers.
    let p = err_from_is_err_and c.from_residual.result c.from_residual.ensures.1 in
    rw (p.1, p.2) (begun-refused d c.args.transform.now _ m first _ c.args.places.now c.args.kept.now c.args.read.now of c.in_err-unit.field-0.0 c.in_err-unit.ensures)

pub returns-in_err-unit-2-clause-added : goal.returns-in_err-unit-2-clause-added
returns-in_err-unit-2-clause-added g c = λ d m first of refers.
    let p = err_from_is_err_and c.from_residual-in_err-unit-2.result c.from_residual-in_err-unit-2.ensures.1 in
    rw (p.1, p.2)
    (entries-refused c.args.form.encoding _ _ c.args.read.now.is_compile_unit c.args.read.now.line_table d m first _ c.args.kept.now of c.requires.frames c.args.dwarf.now.strings c.clone_unit.new.strings c.in_ok-unit.field-0.unit c.in_ok-unit.ensures.1.0 c.in_ok-unit.ensures.0 (record { context_pointer = c.vmctx_ptr_die_ref.ensures ∙ refers.context_pointer; wasm_pointer = c.wasm_ptr_die_ref.ensures ∙ refers.wasm_pointer }) c.in_err-unit-2.field-0.0 c.in_err-unit-2.ensures.cloned)

pub returns-clause-added : goal.returns-clause-added
returns-clause-added g c = λ d m first of refers.
    unit-added c.args.form.encoding _ _ c.args.read.now.is_compile_unit c.args.read.now.line_table d m first _ c.args.kept.now of c.requires.frames c.args.dwarf.now.strings c.clone_unit.new.strings c.in_ok-unit.field-0.unit c.in_ok-unit.ensures.1.0 c.in_ok-unit.ensures.0 (record { context_pointer = c.vmctx_ptr_die_ref.ensures ∙ refers.context_pointer; wasm_pointer = c.wasm_ptr_die_ref.ensures ∙ refers.wasm_pointer }) c.in_ok-unit-2.unit c.args.dwarf.now (record { units = c.add.new.self; strings = c.clone_unit.new.strings }) c.in_ok-id.id c.args.last c.last_after.result
    (ap (λ (u : GivenUnit). u.version) c.in_ok-unit.ensures.1.1) (ap (λ (u : GivenUnit). u.address_size) c.in_ok-unit.ensures.1.1) c.in_ok-unit-2.ensures.cloned refl refl refl c.in_ok-id.ensures.ok (ap (λ (i : UnitId). i.index) c.in_ok-id.ensures.id) c.requires.known c.last_after.ensures

pub returns-clause-noted : goal.returns-clause-noted
returns-clause-noted g c = λ d m first of.
    subst (λ fs. NotesFunctions fs c.args.translated.now c.clone_unit.new.translated) (unit-begun c.args.transform.now _ d m first _ c.args.places.now c.args.kept.now c.args.read.now of) c.in_ok-unit-2.ensures.noted
