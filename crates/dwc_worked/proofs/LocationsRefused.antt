-- Outputs that do not say where a value lies are refused: one that covers code without a place, and one that leaves out code with one.
use Rattle.std.proofs.Common.{ℕ, List, [], ◌∷◌, Some, refl, sym, true≢false, arith}
use Rattle.std.specs.Prelude.{Option}
use Rattle.dwc_native.specs.Runs.{interval_of}
use Rattle.dwc_native.specs.Compiled.{defined}
use Rattle.dwc_native.specs.Parts.{context_label}
use Rattle.dwc_native.specs.Placed.{Frame}
use Rattle.dwc_carried.specs.LocationsCarried.{SaysWhere}
use Rattle.dwc_native.specs.ScopesKept.{HasDistinctSources}
use Rattle.dwc_worked.proofs.LineTables.{function_small}
use Rattle.dwc_worked.proofs.VariableCases.{in_range, labels_of}

-- the frame of the small function, in which local 3 has a place in the first 20 bytes
abbrev frame_small : Option Frame
frame_small = Some (record { function = Some 0; ranges_of = labels_of (in_range 1 0 20 ∷ []); memory = defined 80 })

abbrev labels_small : List ℕ
labels_small = 3 ∷ context_label ∷ []

-- all 30 bytes of the function
too_much : SaysWhere (function_small ∷ []) frame_small ((2, 13) ∷ []) labels_small (interval_of 0 (0, 30) ∷ []) → ⊥
too_much says = true≢false (sym (says.have_places 0 25 refl))

-- no byte of it
too_little : HasDistinctSources function_small → SaysWhere (function_small ∷ []) frame_small ((2, 13) ∷ []) labels_small [] → ⊥
too_little distinct says = true≢false (sym (says.no_less (2, 13) function_small 16 10 (0, omega arith, refl) refl distinct (omega arith) refl (omega arith) (omega arith) refl))

-- bytes of another function
of_another : SaysWhere (function_small ∷ []) frame_small ((2, 13) ∷ []) labels_small (interval_of 1 (0, 20) ∷ []) → ⊥
of_another says = true≢false (sym (says.have_places 1 3 refl))
