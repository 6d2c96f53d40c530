use Rattle.std.proofs.Common.{arith, length, sym, ap, ap₂, ◌∙◌, subst, Some, map}
use Rattle.std.proofs.lemmas.List.{length-map}
use Rattle.dwc_base.specs.declared.records.Tunables.{Tunables}
use Rattle.dwc_native.specs.Functions.{functions_of}
use Rattle.dwc_compiled.specs.AddressMaps.{address_map_view}
use Rattle.dwc_addr.specs.Numbers.{first_number}
use Rattle.dwc_addr.specs.Compilations.{functions_at}
use Rattle.dwc_source.specs.CompiledModules.{told_module, names_view, AreNumberedFrom}
use Rattle.dwc_carry.specs.Inputs.{names_of}
use Rattle.dwc_carry.proofs.CompiledLaws.{frames-numbered, told-at}
use Rattle.dwc_carry.proofs.compiled_module.compiled_module.Goals as goal

pub returns-clause-told : goal.returns-clause-told
returns-clause-told c = λ registers.
    let compiled = c.args.compilation.now in
    let place = c.args.module.0 in
    told-at compiled.tunables.output_for registers (names_of compiled) 0 0 compiled.functions compiled.memory_offsets place place c.first_number.result c.memory_offset.result.now (omega (arith, c.requires.inside, c.requires.counted)) c.memory_offset.ensures (omega arith) (omega (arith, c.first_number.ensures.number))
    ∙ ap (λ fs. Some (told_module compiled.tunables.output_for place c.first_number.result fs c.memory_offset.result.now registers (names_of compiled))) (sym c.functions_of.ensures.functions)
    ∙ ap₂ (λ set resolve. Some (told_module compiled.tunables.output_for place c.first_number.result c.functions_of.result.now c.memory_offset.result.now registers (record { set_memory = set; resolve_memory = resolve }))) (sym c.names.ensures.set_memory) (sym c.names.ensures.resolve_memory)
    ∙ ap (λ (t : Tunables). Some (told_module t.output_for place c.first_number.result c.functions_of.result.now c.memory_offset.result.now registers (names_view c.names.result.now))) (sym c.tunables.ensures)

pub returns-clause-frames : goal.returns-clause-frames
returns-clause-frames c = λ code_offset.
    let compiled = c.args.compilation.now in
    let fs = functions_at c.args.compilation.now c.args.module.0 in
    let first = first_number c.args.compilation.now.functions c.args.module.0 in
    subst (λ n. AreNumberedFrom n (length c.functions_of.result.now) (functions_of compiled.tunables.output_for code_offset first (map address_map_view fs))) (sym c.first_number.ensures.number)
    (frames-numbered compiled.tunables.output_for code_offset first (length c.functions_of.result.now) (map address_map_view fs) (length-map fs address_map_view ∙ ap length (sym c.functions_of.ensures.functions)))
