use Rattle.std.proofs.Common.{sym, ◌∙◌, subst, inl, All}
use Rattle.std.proofs.lemmas.Result.{err_from_is_err_and}
use Rattle.dwc_image.specs.CarriedLines.{AreKept}
use Rattle.dwc_native.specs.Addends.{HaveAddends}
use Rattle.dwc_carry.proofs.LengthLaws.{all-addends}
use Rattle.dwc_carry.proofs.TransformLaws.{all-kept, early-lengths, early-maps, early-modules, input-transformed, input-refused, last-refused, late-memory, maps-good, maps-refused, lengths-refused, lengths-short, never-early, refers-each}
use Rattle.dwc_carry.proofs.transform.transform_dwarf.Goals as goal

pub carry_modules-requires-clause-transforms : goal.carry_modules-requires-clause-transforms
carry_modules-requires-clause-transforms g c = c.deref-2.ensures.value ∙ c.in_ok-transforms.ensures.transforms.1

pub carry_modules-requires-clause-functions : goal.carry_modules-requires-clause-functions
carry_modules-requires-clause-functions g c =
    subst (All AreKept) (sym (c.deref-2.ensures.value ∙ c.in_ok-transforms.ensures.transforms.1)) (all-kept c.args.compilation.now c.in_ok-transforms.ensures.transforms.0)

pub carry_modules-requires-clause-addends : goal.carry_modules-requires-clause-addends
carry_modules-requires-clause-addends g c =
    let short = lengths-short c.args.compilation.now (rw (c.deref.ensures.value, c.in_ok-transforms.ensures.transforms.1) at c.in_ok-check_lengths.ensures) in
    subst (All HaveAddends) (sym (c.deref-2.ensures.value ∙ c.in_ok-transforms.ensures.transforms.1)) (all-addends _ (all-kept c.args.compilation.now c.in_ok-transforms.ensures.transforms.0) short)

pub returns-in_err-carried-clause-units : goal.returns-in_err-carried-clause-units
returns-in_err-carried-clause-units g c =
    let p = err_from_is_err_and c.from_residual-in_err-carried.result c.from_residual-in_err-carried.ensures.1 in
    let short = lengths-short c.args.compilation.now (rw (c.deref.ensures.value, c.in_ok-transforms.ensures.transforms.1) at c.in_ok-check_lengths.ensures) in
    rw (p.1, p.2) (input-refused _ c.args.compilation.now c.in_ok-transforms.ensures.counted c.in_err-carried.field-0.0 c.in_ok-transforms.ensures.transforms.0 short c.in_err-carried.ensures)

pub generate_simulated_dwarf-requires-clause-maps : goal.generate_simulated_dwarf-requires-clause-maps
generate_simulated_dwarf-requires-clause-maps g c = maps-good c.args.compilation.now c.in_ok-transforms.ensures.transforms.0

pub generate_simulated_dwarf-requires-clause-transforms : goal.generate_simulated_dwarf-requires-clause-transforms
generate_simulated_dwarf-requires-clause-transforms g c = c.deref-3.ensures.value ∙ c.in_ok-transforms.ensures.transforms.1

pub generate_simulated_dwarf-requires-clause-functions : goal.generate_simulated_dwarf-requires-clause-functions
generate_simulated_dwarf-requires-clause-functions g c =
    subst (All AreKept) (sym (c.deref-3.ensures.value ∙ c.in_ok-transforms.ensures.transforms.1)) (all-kept c.args.compilation.now c.in_ok-transforms.ensures.transforms.0)

pub generate_simulated_dwarf-requires-clause-addends : goal.generate_simulated_dwarf-requires-clause-addends
generate_simulated_dwarf-requires-clause-addends g c =
    let short = lengths-short c.args.compilation.now (rw (c.deref.ensures.value, c.in_ok-transforms.ensures.transforms.1) at c.in_ok-check_lengths.ensures) in
    subst (All HaveAddends) (sym (c.deref-3.ensures.value ∙ c.in_ok-transforms.ensures.transforms.1)) (all-addends _ (all-kept c.args.compilation.now c.in_ok-transforms.ensures.transforms.0) short)

pub generate_simulated_dwarf-requires-clause-contexts : goal.generate_simulated_dwarf-requires-clause-contexts
generate_simulated_dwarf-requires-clause-contexts g c =
    rw c.deref-4.ensures.value (refers-each _ c.args.compilation.now c.in_ok-transforms.ensures.counted c.in_ok-carried.carried.vmctx_ptrs.items (rw c.new.ensures at c.in_ok-carried.ensures).1.refers)

pub returns-in_err-generate_simulated_dwarf-clause-units : goal.returns-in_err-generate_simulated_dwarf-clause-units
returns-in_err-generate_simulated_dwarf-clause-units g c =
    let p = err_from_is_err_and c.from_residual-in_err-generate_simulated_dwarf.result c.from_residual-in_err-generate_simulated_dwarf.ensures.1 in
    let short = lengths-short c.args.compilation.now (rw (c.deref.ensures.value, c.in_ok-transforms.ensures.transforms.1) at c.in_ok-check_lengths.ensures) in
    rw (p.1, p.2) (last-refused _ c.args.compilation.now c.in_ok-transforms.ensures.counted c.in_err-generate_simulated_dwarf.field-0.0 c.in_ok-carried.carried.translated c.in_ok-transforms.ensures.transforms.0 short c.in_ok-carried.ensures.0 c.in_ok-carried.ensures.1.translated c.in_err-generate_simulated_dwarf.ensures.added)

pub returns-in_err-transforms-clause-units : goal.returns-in_err-transforms-clause-units
returns-in_err-transforms-clause-units g c =
    let p = err_from_is_err_and c.from_residual.result c.from_residual.ensures.1 in
    rw (p.1, p.2) (maps-refused _ c.args.compilation.now c.in_err-transforms.ensures.counted c.in_err-transforms.field-0.0 c.in_err-transforms.ensures.transforms)

pub returns-clause-units : goal.returns-clause-units
returns-clause-units g c =
    let short = lengths-short c.args.compilation.now (rw (c.deref.ensures.value, c.in_ok-transforms.ensures.transforms.1) at c.in_ok-check_lengths.ensures) in
    let modules = rw (c.new.ensures, c.output_form-form.ensures.encoding, c.tunables.ensures, c.output_form-form.ensures.order) at c.in_ok-carried.ensures in
    input-transformed _ c.args.compilation.now c.in_ok-transforms.ensures.counted _ _ _ c.carry_modules.new.dwarf.strings c.carry_modules.new.dwarf.units.units.items c.in_ok-carried.carried modules.1
    c.generate_simulated_dwarf.new.out_strings c.generate_simulated_dwarf.new.out_units.units.items c.in_ok-transforms.ensures.transforms.0 short modules.0 (rw (c.output_form-form.ensures.encoding, c.tunables.ensures, c.deref-4.ensures.value) at c.in_ok-generate_simulated_dwarf.ensures.added)

pub returns-in_err-check_lengths-clause-units : goal.returns-in_err-check_lengths-clause-units
returns-in_err-check_lengths-clause-units g c =
    let p = err_from_is_err_and c.from_residual-in_err-check_lengths.result c.from_residual-in_err-check_lengths.ensures.1 in
    rw (p.1, p.2) (lengths-refused _ c.args.compilation.now c.in_ok-transforms.ensures.counted c.in_err-check_lengths.field-0.0 c.in_ok-transforms.ensures.transforms.0 (rw (c.deref.ensures.value, c.in_ok-transforms.ensures.transforms.1) at c.in_err-check_lengths.ensures))

pub returns-in_err-transforms-clause-late : goal.returns-in_err-transforms-clause-late
returns-in_err-transforms-clause-late g c = λ none.
    let p = err_from_is_err_and c.from_residual.result c.from_residual.ensures.1 in
    let e = c.in_err-transforms.field-0.0 in
    rw (p.1, p.2) (inl (late-memory _ e (early-maps _ c.args.compilation.now c.in_err-transforms.ensures.counted e c.in_err-transforms.ensures.transforms) none))

pub returns-in_err-check_lengths-clause-late : goal.returns-in_err-check_lengths-clause-late
returns-in_err-check_lengths-clause-late g c = λ none.
    let p = err_from_is_err_and c.from_residual-in_err-check_lengths.result c.from_residual-in_err-check_lengths.ensures.1 in
    let e = c.in_err-check_lengths.field-0.0 in
    rw (p.1, p.2) (inl (late-memory _ e (early-lengths _ c.args.compilation.now c.in_ok-transforms.ensures.counted e c.in_ok-transforms.ensures.transforms.0 (rw (c.deref.ensures.value, c.in_ok-transforms.ensures.transforms.1) at c.in_err-check_lengths.ensures)) none))

pub returns-in_err-carried-clause-late : goal.returns-in_err-carried-clause-late
returns-in_err-carried-clause-late g c = λ none.
    let p = err_from_is_err_and c.from_residual-in_err-carried.result c.from_residual-in_err-carried.ensures.1 in
    let short = lengths-short c.args.compilation.now (rw (c.deref.ensures.value, c.in_ok-transforms.ensures.transforms.1) at c.in_ok-check_lengths.ensures) in
    let e = c.in_err-carried.field-0.0 in
    rw (p.1, p.2) (inl (late-memory _ e (early-modules _ c.args.compilation.now c.in_ok-transforms.ensures.counted e c.in_ok-transforms.ensures.transforms.0 short c.in_err-carried.ensures) none))

pub returns-in_err-generate_simulated_dwarf-clause-early : goal.returns-in_err-generate_simulated_dwarf-clause-early
returns-in_err-generate_simulated_dwarf-clause-early g c = λ some.
    let short = lengths-short c.args.compilation.now (rw (c.deref.ensures.value, c.in_ok-transforms.ensures.transforms.1) at c.in_ok-check_lengths.ensures) in
    absurd (never-early _ c.args.compilation.now c.in_ok-transforms.ensures.counted c.in_ok-transforms.ensures.transforms.0 short c.in_ok-carried.ensures.0 some)

pub returns-in_err-generate_simulated_dwarf-clause-late : goal.returns-in_err-generate_simulated_dwarf-clause-late
returns-in_err-generate_simulated_dwarf-clause-late g c = λ none.
    let p = err_from_is_err_and c.from_residual-in_err-generate_simulated_dwarf.result c.from_residual-in_err-generate_simulated_dwarf.ensures.1 in
    rw (p.1, p.2) c.in_err-generate_simulated_dwarf.ensures.counted

pub returns-clause-early : goal.returns-clause-early
returns-clause-early g c = λ some.
    let short = lengths-short c.args.compilation.now (rw (c.deref.ensures.value, c.in_ok-transforms.ensures.transforms.1) at c.in_ok-check_lengths.ensures) in
    absurd (never-early _ c.args.compilation.now c.in_ok-transforms.ensures.counted c.in_ok-transforms.ensures.transforms.0 short c.in_ok-carried.ensures.0 some)
