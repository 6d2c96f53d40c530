use Rattle.std.proofs.Common.{ap, ◌∙◌, refl}
use Rattle.std.proofs.lemmas.Result.{err_from_is_err_and}
use Rattle.dwc_source.specs.CompiledModules.{told_by}
use Rattle.dwc_carry.specs.ModulePlaces.{emitted, numbered_lists}
use Rattle.dwc_carry.specs.CarriedModules.{transformed_module}
use Rattle.dwc_carry.proofs.ModuleGives.{compressed-refused, module-refused, module-gives}
use Rattle.dwc_carry.proofs.carry_modules.carry_module.Goals as goal

pub returns-in_err-module-clause-added : goal.returns-in_err-module-clause-added
returns-in_err-module-clause-added g c = λ synthetic at.
    let told = told_by ((goal.TargetIsa-dyn g c.args.isa.now).dwarf_registers c.args.isa.now.1) c.args.compiled.now in
    let p = err_from_is_err_and c.from_residual.result c.from_residual.ensures.1 in
    rw (p.1, p.2) (module-refused (transformed_module c.args.form.encoding.version c.args.translation.now c.args.transform.now told) c.in_default.is c.in_err-module.field-0.0 (rw c.sections_of.ensures.sections at c.in_err-module.ensures))

pub module_places-requires : goal.module_places-requires
module_places-requires g c = record { functions = c.args.transform.now; sections = c.sections_of.result; is = c.in_ok-module.ensures.1 }

pub carry_units-requires-clause-read : goal.carry_units-requires-clause-read
carry_units-requires-clause-read g c = record {
  of = transformed_module c.args.form.encoding.version c.args.translation.now c.args.transform.now (told_by ((goal.TargetIsa-dyn g c.args.isa.now).dwarf_registers c.args.isa.now.1) c.args.compiled.now);
  is = record { functions = refl; told_is = refl; version_is = refl; is = (rw c.sections_of.ensures.sections at c.in_ok-module.ensures).1; bytes = c.sections_of.ensures.bytes };
}

pub carry_units-requires-clause-places : goal.carry_units-requires-clause-places
carry_units-requires-clause-places g c = c.in_ok-places.ensures ∙ ap (λ n. numbered_lists n (emitted c.in_ok-module.module.kept c.in_ok-module.module.units.items)) c.len.ensures

pub returns-clause-added : goal.returns-clause-added
returns-clause-added g c = λ synthetic at.
    let told = told_by ((goal.TargetIsa-dyn g c.args.isa.now).dwarf_registers c.args.isa.now.1) c.args.compiled.now in
    let given = rw c.sections_of.ensures.sections at c.in_ok-module.ensures in
    let m = transformed_module c.args.form.encoding.version c.args.translation.now c.args.transform.now told in
    module-gives m c.in_default.is c.args.form.encoding c.args.form.big_endian given.0 given.1.whole synthetic c.args.dwarf.now c.carry_units.new.dwarf c.carry_units.result
    (c.carry_units.ensures.added m synthetic at (record { functions = refl; told_is = refl; version_is = refl; is = given.1; bytes = c.sections_of.ensures.bytes }))

pub returns-in-Some-clause-added : goal.returns-in-Some-clause-added
returns-in-Some-clause-added g c = λ synthetic at.
    let told = told_by ((goal.TargetIsa-dyn g c.args.isa.now).dwarf_registers c.args.isa.now.1) c.args.compiled.now in
    compressed-refused (transformed_module c.args.form.encoding.version c.args.translation.now c.args.transform.now told) c.in-Some.offset c.in-Some.is

pub returns-clause-noted : goal.returns-clause-noted
returns-clause-noted g c =
    let told = told_by ((goal.TargetIsa-dyn g c.args.isa.now).dwarf_registers c.args.isa.now.1) c.args.compiled.now in
    c.carry_units.ensures.noted (transformed_module c.args.form.encoding.version c.args.translation.now c.args.transform.now told) (record { functions = refl; told_is = refl; version_is = refl; is = (rw c.sections_of.ensures.sections at c.in_ok-module.ensures).1; bytes = c.sections_of.ensures.bytes })
