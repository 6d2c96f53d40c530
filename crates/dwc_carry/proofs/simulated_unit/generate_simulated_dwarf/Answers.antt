use Rattle.std.proofs.Common.{length, ap, sym, subst, ◌∙◌, Ok}
use Rattle.std.proofs.lemmas.Bool.{eqb-true}
use Rattle.std.proofs.lemmas.Result.{err_from_is_err_and}
use Rattle.dwc_rules.specs.Carried.{Module}
use Rattle.std.specs.Prelude.{List, ℕ, ◌<◌}
use Rattle.dwc_base.specs.Listing.{first_of}
use Rattle.dwc_carried.specs.SimulatedUnit.{simulated_refusals}
use Rattle.dwc_carried.specs.UnitPaths.{is_file_name, path_name}
use Rattle.dwc_addr.specs.Compilations.{CompilationValue}
use Rattle.dwc_unit.specs.TextTables.{IsText}
use Rattle.dwc_clone.specs.BegunNumbers.{is_noted}
use Rattle.dwc_carry.specs.Inputs.{bad_map, functions_from, modules_of}
use Rattle.dwc_carry.specs.SimulatedUnits.{GivesUnit}
use Rattle.dwc_carry.specs.Refusals.{RefusesReading}
use Rattle.dwc_carry.proofs.SimulatedUnitMade.{last-added, none-added, not-none, path-refused, path-text, same-modules, unit-refused}
use Rattle.dwc_carry.proofs.simulated_unit.generate_simulated_dwarf.Goals as goal

pub returns-then-is_empty-clause-added : goal.returns-then-is_empty-clause-added
returns-then-is_empty-clause-added g c =
    let registers = (goal.TargetIsa-dyn g c.args.isa.now).dwarf_registers c.args.isa.now.1 in
    let none = sym (ap length c.translations.ensures.translations) ∙ eqb-true (length c.translations.result.now) 0 (sym c.is_empty.ensures ∙ c.if-is_empty.true) in
    none-added (is_noted c.args.translated.now) registers c.args.compilation.now c.args.out_encoding c.args.vmctx_ptr_die_refs.now c.args.out_units.now.units.items c.args.out_strings.now none

pub returns-then-not-is_file_name-clause-added : goal.returns-then-not-is_file_name-clause-added
returns-then-not-is_file_name-clause-added g c =
    let registers = (goal.TargetIsa-dyn g c.args.isa.now).dwarf_registers c.args.isa.now.1 in
    let compilation = c.args.compilation.now in
    let some : 0 < length compilation.translations = subst (λ ts. 0 < length ts) c.translations.ensures.translations (not-none c.translations.result.now (sym c.is_empty.ensures ∙ c.if-is_empty.false)) in
    let path : List ℕ = c.in_ok-path.path.items in
    let tested = c.is_file_name.ensures ∙ ap is_file_name (c.path_name.ensures ∙ ap path_name c.deref.ensures.value) in
    path-refused (is_noted c.args.translated.now) registers compilation path c.in_ok-path.ensures.path c.translations.ensures.counted some (sym tested ∙ c.if-not-is_file_name.true)

pub simulated_unit-requires-clause-transforms : goal.simulated_unit-requires-clause-transforms
simulated_unit-requires-clause-transforms g c =
    let registers = (goal.TargetIsa-dyn g c.args.isa.now).dwarf_registers c.args.isa.now.1 in
    c.requires.transforms ∙ ap (λ (x : CompilationValue). functions_from x.tunables.output_for 0 x.translations x.functions) (sym (c.in_ok-path.ensures.counter registers))

pub simulated_unit-requires-clause-maps : goal.simulated_unit-requires-clause-maps
simulated_unit-requires-clause-maps g c =
    let registers = (goal.TargetIsa-dyn g c.args.isa.now).dwarf_registers c.args.isa.now.1 in
    ap bad_map (c.in_ok-path.ensures.counter registers) ∙ c.requires.maps

pub simulated_unit-requires-clause-contexts : goal.simulated_unit-requires-clause-contexts
simulated_unit-requires-clause-contexts g c =
    let registers = (goal.TargetIsa-dyn g c.args.isa.now).dwarf_registers c.args.isa.now.1 in
    c.requires.contexts ∙ ap (λ (x : CompilationValue). length x.translations) (sym (c.in_ok-path.ensures.counter registers))

pub simulated_unit-requires-clause-some : goal.simulated_unit-requires-clause-some
simulated_unit-requires-clause-some g c =
    let registers = (goal.TargetIsa-dyn g c.args.isa.now).dwarf_registers c.args.isa.now.1 in
    let some : 0 < length c.args.compilation.now.translations = subst (λ ts. 0 < length ts) c.translations.ensures.translations (not-none c.translations.result.now (sym c.is_empty.ensures ∙ c.if-is_empty.false)) in
    subst (λ (x : CompilationValue). 0 < length x.translations) (sym (c.in_ok-path.ensures.counter registers)) some

pub simulated_unit-requires-clause-path : goal.simulated_unit-requires-clause-path
simulated_unit-requires-clause-path g c =
    let registers = (goal.TargetIsa-dyn g c.args.isa.now).dwarf_registers c.args.isa.now.1 in
    let compilation = c.args.compilation.now in
    let some : 0 < length compilation.translations = subst (λ ts. 0 < length ts) c.translations.ensures.translations (not-none c.translations.result.now (sym c.is_empty.ensures ∙ c.if-is_empty.false)) in
    let path : List ℕ = c.in_ok-path.path.items in
    subst IsText (sym c.deref-2.ensures.value) (path-text (is_noted c.args.translated.now) registers compilation path c.in_ok-path.ensures.path c.translations.ensures.counted some)

pub returns-in_err-unit-clause-added : goal.returns-in_err-unit-clause-added
returns-in_err-unit-clause-added g c =
    let registers = (goal.TargetIsa-dyn g c.args.isa.now).dwarf_registers c.args.isa.now.1 in
    let compilation = c.args.compilation.now in
    let some : 0 < length compilation.translations = subst (λ ts. 0 < length ts) c.translations.ensures.translations (not-none c.translations.result.now (sym c.is_empty.ensures ∙ c.if-is_empty.false)) in
    let path : List ℕ = c.in_ok-path.path.items in
    let tested = c.is_file_name.ensures ∙ ap is_file_name (c.path_name.ensures ∙ ap path_name c.deref.ensures.value) in
    let same = same-modules registers compilation c.taken_path.new.compilation (c.in_ok-path.ensures.counter registers) in
    let e = c.in_err-unit.field-0.0 in
    let met : RefusesReading (first_of (simulated_refusals (is_noted c.args.translated.now) (modules_of registers compilation))) e = subst (λ (ms : List Module). RefusesReading (first_of (simulated_refusals (is_noted c.args.translated.now) ms)) e) same c.in_err-unit.ensures.unit in
    let p = err_from_is_err_and c.from_residual-in_err-unit.result c.from_residual-in_err-unit.ensures.1 in
    rw (p.1, p.2) (unit-refused (is_noted c.args.translated.now) registers compilation path c.in_ok-path.ensures.path c.translations.ensures.counted some e (sym tested ∙ c.if-not-is_file_name.false) met)

pub returns-clause-added : goal.returns-clause-added
returns-clause-added g c =
    let registers = (goal.TargetIsa-dyn g c.args.isa.now).dwarf_registers c.args.isa.now.1 in
    let compilation = c.args.compilation.now in
    let some : 0 < length compilation.translations = subst (λ ts. 0 < length ts) c.translations.ensures.translations (not-none c.translations.result.now (sym c.is_empty.ensures ∙ c.if-is_empty.false)) in
    let path : List ℕ = c.in_ok-path.path.items in
    let tested = c.is_file_name.ensures ∙ ap is_file_name (c.path_name.ensures ∙ ap path_name c.deref.ensures.value) in
    let same = same-modules registers compilation c.taken_path.new.compilation (c.in_ok-path.ensures.counter registers) in
    let encoding = c.args.out_encoding in
    let before = c.args.out_strings.now in
    let after = c.simulated_unit.new.strings in
    let u = c.in_ok-unit.unit in
    let refs = c.args.vmctx_ptr_die_refs.now in
    let given : GivesUnit (is_noted c.args.translated.now) encoding c.deref-2.result.now (modules_of registers compilation) refs before after (Ok u) = subst (λ (ms : List Module). GivesUnit (is_noted c.args.translated.now) encoding c.deref-2.result.now ms refs before after (Ok u)) same c.in_ok-unit.ensures.unit in
    let last : GivesUnit (is_noted c.args.translated.now) encoding path (modules_of registers compilation) refs before after (Ok u) = subst (λ (p : List ℕ). GivesUnit (is_noted c.args.translated.now) encoding p (modules_of registers compilation) refs before after (Ok u)) c.deref-2.ensures.value given in
    last-added (is_noted c.args.translated.now) registers compilation path c.in_ok-path.ensures.path c.translations.ensures.counted some encoding refs c.args.out_units.now.units.items c.add.new.self.units.items before after u (sym tested ∙ c.if-not-is_file_name.false) c.in_ok-add.ensures.ok last
