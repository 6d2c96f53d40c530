use Rattle.std.proofs.Common.{ap}
use Rattle.dwc_base.specs.Wasm.{custom_section, module_from_sections}
use Rattle.dwc_base.specs.WasmFunctions.{last_contents}
use Rattle.dwc_wasm.proofs.function_sections.FunctionSections.none.Goals as goal

pub returns : goal.returns
unfolding last_contents custom_section module_from_sections
returns c = record { types = c.new.ensures; functions = c.new-2.ensures; «code» = c.new-3.ensures; names = ap (λ u. u.left) c.new-4.ensures }
