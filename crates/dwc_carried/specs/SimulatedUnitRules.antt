-- The simulated unit of an output, which is for the functions without debugging information of all modules: its entries, its lines, how
-- long these can be, and what is refused, by the numbers of the functions that are translated. (This project's own rule.)
use Rattle.std.specs.Prelude.{ℕ, suc, ◌+◌, List, [], ◌∷◌, ◌++◌, map, length, sum_by, Bool, Option, Some, None}
use Rattle.std.specs.List.{flat_map}
use Rattle.dwc_native.specs.Functions.{Function, recorded_sources}
use Rattle.dwc_output.specs.Widest.{widest_header, widest_image}
use Rattle.dwc_rules.specs.Drafts.{Draft}
use Rattle.dwc_dwarf.specs.Trees.{TreeValue}
use Rattle.dwc_rules.specs.Carried.{Module, WantedUnit, unit_of_simulated}
use Rattle.dwc_rules.specs.Refusals.{Refusal, bad_path}
use Rattle.dwc_carried.specs.UnitPaths.{unit_path, path_name, refused_path}
use Rattle.dwc_carried.specs.SimulatedFunctions.{simulated_functions}
use Rattle.dwc_carried.specs.SimulatedUnit.{context_pointers, simulated_refusals, simulated_unit, unit_count}

-- The entries of the unit of modules, where there is one, by its number and the types of pointers to their contexts, the next generated
-- name having a number.
abbrev pub simulated_drafts_at : (ℕ → Bool) → ℕ → ℕ → List TreeValue → List Module → Option (List Draft)
simulated_drafts_at translated next_id unit pointers [] = None
simulated_drafts_at translated next_id unit pointers (m ∷ ms) = Some (simulated_unit translated (unit_path next_id m) unit pointers (m ∷ ms))

-- Those of the simulated unit of an output, which stands behind the units of all its modules.
abbrev pub simulated_drafts : (ℕ → Bool) → ℕ → List Module → Option (List Draft)
simulated_drafts translated next_id ms = simulated_drafts_at translated next_id (sum_by unit_count ms) (context_pointers 0 ms) ms

-- the simulated functions of modules, in order, each with the offset in its file that the contents of the code section begin at
abbrev pub simulated_in_files : (ℕ → Bool) → List Module → List (ℕ × Function)
simulated_in_files translated ms = flat_map (λ m. map (λ d. (m.file.code_offset, d.function)) (simulated_functions translated m)) ms

-- The simulated unit as it is wanted, where there is a module: by the name of its file, and by the modules.
abbrev pub simulated_wanted : (ℕ → Bool) → ℕ → List Module → List WantedUnit
simulated_wanted translated next_id [] = []
simulated_wanted translated next_id (m ∷ ms) = unit_of_simulated (path_name (unit_path next_id m)) translated (m ∷ ms) ∷ []

-- how long a line table of one file of a name with these functions can be at most: each has a row more than it has recorded sources
abbrev pub widest_simulated_lines : List ℕ → List (ℕ × Function) → ℕ
widest_simulated_lines name fs = widest_header [] (record { directory = 0; name = name } ∷ []) + sum_by (λ f. widest_image (suc (length (recorded_sources f.1)))) fs

-- How long the line table of the simulated unit can be at most; without a module there is none.
abbrev pub widest_simulated : (ℕ → Bool) → ℕ → List Module → ℕ
widest_simulated translated next_id [] = 0
widest_simulated translated next_id (m ∷ ms) = widest_simulated_lines (path_name (unit_path next_id m)) (simulated_in_files translated (m ∷ ms))

-- what is refused of its path
abbrev pub path_refusals : ℕ → List Module → List Refusal
path_refusals next_id ms = elim (refused_path next_id ms) [ Some path ↦ bad_path ∷ [] | None ↦ [] ]

-- What is refused of the simulated unit: its path, and then the variables of its functions.
abbrev pub simulated_unit_refusals : (ℕ → Bool) → ℕ → List Module → List Refusal
simulated_unit_refusals translated next_id ms = path_refusals next_id ms ++ simulated_refusals translated ms
