use Rattle.std.proofs.Common.{◌≡◌, ◌+◌, ◌++◌, map, length, drop}
use Rattle.dwc_native.specs.Functions.{functions_of}
use Rattle.dwc_compiled.specs.AddressMaps.{address_map_view}
use Rattle.dwc_addr.specs.Transforms.{function_view, first_bad_map}
use Rattle.dwc_addr.proofs.transform.function_maps.Given as goal

-- as many functions as maps;
-- the maps that are left have the first bad one of all; the functions so far, and those that are left, are all
abbrev pub invariant-loop-i : goal.invariant-loop-i
invariant-loop-i l =
    (length l.maps.items ≡ l.i)
    × (first_bad_map l.code_section_offset l.i (map address_map_view (drop l.i l.functions)) ≡ first_bad_map l.code_section_offset 0 (map address_map_view l.functions))
    × (map function_view l.maps.items ++ functions_of l.output_for l.code_section_offset (l.first_number + l.i) (map address_map_view (drop l.i l.functions))
    ≡ functions_of l.output_for l.code_section_offset l.first_number (map address_map_view l.functions))
