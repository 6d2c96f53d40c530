-- The lines of functions without debugging information: at each byte, and as they are written and read again.
use Rattle.std.proofs.Common.{◌≡◌, ℕ, pos, List, [], ◌∷◌, map, ◌+◌, ◌*◌, Some, None, true, false, refl}
use Rattle.std.specs.Prelude.{Option, Bool, codes}
use Rattle.dwc_base.specs.declared.records.Address.TheVariants.{Symbol}
use Rattle.dwc_dwarf.specs.LineRows.{Row}
use Rattle.dwc_output.specs.SimulatedLines.{simulated_contents, simulated_row, simulated_segment}
use Rattle.dwc_base.specs.ToldFiles.{bare_file}
use Rattle.dwc_native.specs.Functions.{Function}
use Rattle.dwc_rules.specs.Carried.{Module, WantedUnit, synthetic_unit, carried_unit, unit_of_simulated}
use Rattle.dwc_carried.specs.SimulatedUnitRules.{simulated_wanted, simulated_in_files, widest_simulated}
use Rattle.dwc_carried.specs.SimulatedFunctions.{is_begun}
use Rattle.dwc_native.specs.Compiled.{no_memory}
use Rattle.dwc_worked.proofs.LineTables.{function_small}
use Rattle.dwc_worked.proofs.SmallModule.{abbreviations_small, info_small, line_small}
use Rattle.dwc_worked.proofs.Variants.{info_0}
use Rattle.dwc_worked.proofs.SimulatedInputs.{simulated_on_literals, named_small, told_with, a_function, last_function, module_edges}

-- a row of a file at a line
abbrev row_at : List ℕ → ℕ → ℕ → Bool → Row
row_at name offset line prologue_end = record { offset = offset; source = simulated_contents name line prologue_end }

-- ---- the small module whose function is simulated

-- what its rows say: all as a sequence begins, but the line, the discriminator and once the end of the prologue
contents : simulated_contents (codes "g.wasm") 25 true ≡ record { file = Some (record { directory = None; name = codes "g.wasm" }); line = 25; column = 0; is_stmt = true; basic_block = false; prologue_end = true; epilogue_begin = false; isa = 0; discriminator = 1 }
contents = refl

segment-small : simulated_segment (codes "g.wasm") 20 function_small ≡ record { start = Symbol 0 (pos 0); rows = row_at (codes "g.wasm") 0 0 false ∷ row_at (codes "g.wasm") 5 25 true ∷ row_at (codes "g.wasm") 15 30 false ∷ []; end = Some 30 }
segment-small = refl

bytes-small : map (simulated_row (codes "g.wasm") 20 function_small) (0 ∷ 4 ∷ 5 ∷ 14 ∷ 15 ∷ 29 ∷ [])
    ≡ simulated_contents (codes "g.wasm") 0 false ∷ simulated_contents (codes "g.wasm") 0 false ∷ simulated_contents (codes "g.wasm") 25 true ∷ simulated_contents (codes "g.wasm") 25 true ∷ simulated_contents (codes "g.wasm") 30 false ∷ simulated_contents (codes "g.wasm") 30 false ∷ []
bytes-small = refl

-- ---- two sources at one byte, one at the length, and one at 0

segment-edges : simulated_segment (codes "m") 20 last_function ≡ record { start = Symbol 3 (pos 0); rows = row_at (codes "m") 0 0 false ∷ row_at (codes "m") 0 42 true ∷ row_at (codes "m") 8 41 false ∷ row_at (codes "m") 8 50 false ∷ row_at (codes "m") 16 60 false ∷ []; end = Some 16 }
segment-edges = refl

-- the first source holds from byte 0 on, and ends the prologue; the later of two at one byte counts
bytes-edges : map (simulated_row (codes "m") 20 last_function) (0 ∷ 4 ∷ 7 ∷ 8 ∷ 15 ∷ [])
    ≡ simulated_contents (codes "m") 42 true ∷ simulated_contents (codes "m") 42 true ∷ simulated_contents (codes "m") 42 true ∷ simulated_contents (codes "m") 50 false ∷ simulated_contents (codes "m") 50 false ∷ []
bytes-edges = refl

-- without a recorded source, and without code
segment-bare : simulated_segment (codes "m") 20 (a_function (Some 2) 20 20 0 ((0, None) ∷ [])) ≡ record { start = Symbol 2 (pos 0); rows = row_at (codes "m") 0 0 false ∷ []; end = Some 0 }
segment-bare = refl

-- ---- what the simulated unit's lines are to be

-- the name of its file, and its functions
abbrev lines_of : WantedUnit → Option (List ℕ × List (ℕ × Function))
lines_of synthetic_unit = None
lines_of (carried_unit u) = None
lines_of (unit_of_simulated name translated ms) = Some (name, simulated_in_files translated ms)

abbrev simulated_lines_wanted : ℕ → List Module → List (Option (List ℕ × List (ℕ × Function)))
simulated_lines_wanted next_id ms = map lines_of (simulated_wanted (is_begun ms) next_id ms)

lines-unlinked : simulated_lines_wanted 0 (named_small (told_with abbreviations_small info_0 line_small) ∷ []) ≡ Some (codes "g.wasm", (20, function_small) ∷ []) ∷ []
unfolding simulated_on_literals
lines-unlinked = refl

lines-linked : simulated_lines_wanted 0 (named_small (told_with abbreviations_small info_small line_small) ∷ []) ≡ Some (codes "g.wasm", []) ∷ []
unfolding simulated_on_literals
lines-linked = refl

-- of two modules each function with the offset of its own file
lines-two : simulated_lines_wanted 7 (module_edges no_memory abbreviations_small info_small line_small [] ∷ record (named_small (told_with [] [] [])) { functions = a_function (Some 4) 2 9 5 ((0, Some 2) ∷ []) ∷ []; file = bare_file 100 } ∷ [])
    ≡ Some (codes "m", (20, a_function (Some 2) 20 20 0 ((0, None) ∷ [])) ∷ (20, last_function) ∷ (100, a_function (Some 4) 2 9 5 ((0, Some 2) ∷ [])) ∷ []) ∷ []
unfolding simulated_on_literals
lines-two = refl

lines-none : simulated_lines_wanted 0 [] ≡ []
lines-none = refl

-- ---- how long they can be

-- without a simulated function a header alone, with one three rows for two sources, and nothing without a module
widest : map (λ ms. widest_simulated (is_begun ms) 0 ms) ((named_small (told_with abbreviations_small info_small line_small) ∷ []) ∷ (named_small (told_with abbreviations_small info_0 line_small) ∷ []) ∷ [] ∷ []) ≡ 67 ∷ (67 + (43 + 3 * 82)) ∷ 0 ∷ []
unfolding simulated_on_literals
widest = refl
