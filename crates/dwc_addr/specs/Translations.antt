-- Native ranges of an interval of wasm offsets, from a run or a stretch of its function on.
use Rattle.std.specs.Prelude.{◌≡◌, ℕ, ◌-◌, pos, List, [], ◌∷◌, map, drop, slice_index_or, if◌then◌else◌, Option, Some, None}
use Rattle.std.specs.List.{filter_map}
use Rattle.dwc_base.specs.declared.records.Address.{Address}
use Rattle.dwc_base.specs.declared.records.Address.TheVariants.{Symbol}
use Rattle.dwc_base.specs.declared.records.OutputFor.TheVariants.{Default, Debugger}
use Rattle.dwc_native.specs.Runs.{Run, runs, start_in, end_in, meets, is_range}
use Rattle.dwc_native.specs.ShownSources.{shown_source, is_source_in, ranges_where}
use Rattle.dwc_addr.specs.declared.function_map.FunctionMap.{FunctionMap}
use Rattle.dwc_addr.specs.Stretches.{no_stretch}
use Rattle.dwc_addr.specs.Transforms.{function_view}

-- the native range of an interval in a run, if it has one
abbrev pub range_in : ℕ → ℕ → Run → Option (ℕ × ℕ)
range_in start end r = if meets start end r then (if is_range (start_in start r, end_in end r) then Some (start_in start r, end_in end r) else None) else None

-- the ranges in the runs of a function from one on
abbrev pub ranges_from : FunctionMap → ℕ → ℕ → ℕ → List (ℕ × ℕ)
ranges_from m start end number = filter_map (range_in start end) (drop number (runs (function_view m)))

-- where the stretch of a function with a number begins
abbrev pub stretch_start : FunctionMap → ℕ → ℕ
stretch_start m number = (slice_index_or m.stretches.items number (no_stretch m.len)).start

-- the ranges in the stretches of a function from one on
abbrev pub shown_from : FunctionMap → ℕ → ℕ → ℕ → List (ℕ × ℕ)
shown_from m start end number = ranges_where (λ byte. is_source_in start end (shown_source (function_view m) byte)) (stretch_start m number) (m.len - stretch_start m number)

-- the ranges of a function that are still to come, from a run on, and for a debugger from a stretch on
abbrev pub ranges_to_come : FunctionMap → ℕ → ℕ → ℕ → List (ℕ × ℕ)
ranges_to_come m start end number = elim m.output_for [ Default ↦ ranges_from m start end number | Debugger ↦ shown_from m start end number ]

-- those of a function, if there is one
abbrev pub ranges_left : Option FunctionMap → ℕ → ℕ → ℕ → List (ℕ × ℕ)
ranges_left None start end number = []
ranges_left (Some m) start end number = ranges_to_come m start end number

-- the first of the ranges from a number on, with the number from which on the others are
abbrev pub GivesRange : (ℕ → List (ℕ × ℕ)) → ℕ → Option (ℕ × (ℕ × ℕ)) → Type 0
GivesRange ranges number None = ranges number ≡ []
GivesRange ranges number (Some found) = ranges number ≡ found.1 ∷ ranges found.0

-- a native range of a function as an address and a length
abbrev pub with_length : ℕ → ℕ × ℕ → Address × ℕ
with_length number r = (Symbol number (pos r.0), r.1 - r.0)

-- the ranges of a function, so
abbrev pub with_lengths : Option (ℕ × List (ℕ × ℕ)) → List (Address × ℕ)
with_lengths None = []
with_lengths (Some n) = map (with_length n.0) n.1
