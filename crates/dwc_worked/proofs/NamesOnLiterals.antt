-- The definitions on names and types of WebAssembly files that stay shut, to be computed on literals.
use Rattle.std.proofs.Common.{ℕ}
use Rattle.dwc_base.specs.WasmVectors.{vector_at, readable_counted, readable_vector}
use Rattle.dwc_base.specs.WasmFunctions.{last_contents, value_types_at, parameter_types_at, parameter_types, body_at, bodies, local_group_at, local_groups, local_types, type_numbers}
use Rattle.dwc_base.specs.WasmNames.{name_subsection_at, next_name_subsection, name_subsections, said_in, name_association_at, name_map_at, local_name_map_at, name_of_module, said_function_names, names_of_functions, said_local_names, names_of_locals}
use Rattle.dwc_worked.proofs.OnLiterals.{files_on_literals}

unfoldable pub functions_on_literals : ℕ
unfolding files_on_literals vector_at readable_counted readable_vector last_contents value_types_at parameter_types_at parameter_types body_at bodies local_group_at local_groups local_types type_numbers
functions_on_literals = 0

unfoldable pub names_on_literals : ℕ
unfolding files_on_literals vector_at name_subsection_at next_name_subsection name_subsections said_in name_association_at name_map_at local_name_map_at name_of_module said_function_names names_of_functions said_local_names names_of_locals
names_on_literals = 0
