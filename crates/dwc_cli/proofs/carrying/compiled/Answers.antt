use Rattle.std.proofs.Common.{◌≡◌, map, sym, subst, None}
use Rattle.std.proofs.lemmas.Result.{err_from_is_err_and}
use Rattle.dwc_native.specs.SharedSymbols.{shared_symbol}
use Rattle.dwc_addr.specs.Numbers.{all_symbols, symbol_view}
use Rattle.dwc_addr.specs.Compilations.{CompilationValue, lists}
use Rattle.dwc_carry.specs.Inputs.{names_of}
use Rattle.dwc_cli.specs.Compiled.{IsCompiled}
use Rattle.dwc_cli.proofs.EmittedLaws.{carried, refused-carrying, refused-compiling}
use Rattle.dwc_cli.proofs.carrying.compiled.Goals as goal

-- the functions are not taken as one compilation
pub returns-in_err-compilation-clause-carried : goal.returns-in_err-compilation-clause-carried
returns-in_err-compilation-clause-carried c = λ read is.
    let p = err_from_is_err_and c.from_residual.result c.from_residual.ensures.1 in
    let isa = c.args.isa.now in
    rw (p.1, p.2) (refused-compiling CompilationValue c.args.tunables.now.output_for c.args.tunables.now.dwarf_version c.args.translations.now _ c.args.memory_offsets.items isa.order isa.pointer_bytes isa.registers isa.common_entry _ c.args.next_id read is c.in_err-compilation.field-0.0 (c.in_err-compilation.ensures).distinct)

-- no DWARF is carried
pub returns-in_err-carry_for-clause-carried : goal.returns-in_err-carry_for-clause-carried
returns-in_err-carry_for-clause-carried c = λ read is.
    let p = err_from_is_err_and c.from_residual-in_err-carry_for.result c.from_residual-in_err-carry_for.ensures.1 in
    let isa = c.args.isa.now in
    let named : IsCompiled c.args.tunables.now.output_for c.args.tunables.now.dwarf_version isa.order isa.pointer_bytes isa.registers isa.common_entry (record { set_memory = c.deref.result.now; resolve_memory = c.deref-2.result.now }) c.args.translations.now (lists c.args.functions.now) c.args.memory_offsets.items c.args.next_id read = rw (c.deref.ensures, c.deref-2.ensures) is in
    let given = sym (c.in_ok-compilation.ensures).value in
    let seen = subst (λ v. IsCompiled v.tunables.output_for v.tunables.dwarf_version isa.order isa.pointer_bytes isa.registers isa.common_entry (names_of v) v.translations v.functions v.memory_offsets v.next_id read) given named in
    let none = subst (λ v. shared_symbol (map symbol_view (all_symbols v.functions)) ≡ None) given (c.in_ok-compilation.ensures).distinct in
    rw (p.1, p.2) (refused-carrying c.in_ok-compilation.compilation isa.order isa.pointer_bytes isa.registers isa.common_entry read seen none c.in_err-carry_for.field-0.0 c.in_err-carry_for.ensures.carried)

pub returns-clause-carried : goal.returns-clause-carried
returns-clause-carried c = λ read is.
    let isa = c.args.isa.now in
    let named : IsCompiled c.args.tunables.now.output_for c.args.tunables.now.dwarf_version isa.order isa.pointer_bytes isa.registers isa.common_entry (record { set_memory = c.deref.result.now; resolve_memory = c.deref-2.result.now }) c.args.translations.now (lists c.args.functions.now) c.args.memory_offsets.items c.args.next_id read = rw (c.deref.ensures, c.deref-2.ensures) is in
    let given = sym (c.in_ok-compilation.ensures).value in
    let seen = subst (λ v. IsCompiled v.tunables.output_for v.tunables.dwarf_version isa.order isa.pointer_bytes isa.registers isa.common_entry (names_of v) v.translations v.functions v.memory_offsets v.next_id read) given named in
    let none = subst (λ v. shared_symbol (map symbol_view (all_symbols v.functions)) ≡ None) given (c.in_ok-compilation.ensures).distinct in
    carried c.in_ok-compilation.compilation isa.order isa.pointer_bytes isa.registers isa.common_entry read seen none c.in_ok-carry_for.field-0 c.in_ok-carry_for.ensures.carried
