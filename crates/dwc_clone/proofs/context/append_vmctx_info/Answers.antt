use Rattle.std.specs.Prelude.{option_map}
use Rattle.dwc_native.specs.BuiltExpressions.{label_over}
use Rattle.dwc_native.specs.Parts.{context_label}
use Rattle.dwc_expr.specs.Builds.{surroundings}
use Rattle.dwc_clone.proofs.ContextLaws.{context-added, refused-passed}
use Rattle.dwc_clone.proofs.context.append_vmctx_info.Goals as goal

pub returns-clause-variable : goal.returns-clause-variable
returns-clause-variable g c =
    let s = surroundings c.args.addr_tr.now (option_map (λ f. f.now) c.args.frame_info) ((goal.TargetIsa-dyn g c.args.isa.now).dwarf_registers c.args.isa.now.1) in
    context-added (label_over s c.args.scope_ranges.now context_label) c.args.parent.index c.args.vmctx_ptr_die_ref c.add_context.new.out_strings c.args.unit.now c.add_context.new.unit c.in_ok-locations.locations c.add_context.result c.of_memory.result c.in_ok-locations.ensures.lies c.in_ok-locations.ensures.fits c.add_context.ensures.variable c.of_memory.ensures

pub returns-clause-part : goal.returns-clause-part
returns-clause-part g c = refused-passed _ c.add_context.result c.of_memory.result c.of_memory.ensures c.add_context.ensures.part
