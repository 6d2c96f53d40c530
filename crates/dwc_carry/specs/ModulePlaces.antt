-- Where the entries of a module stand in the output.
use Rattle.std.specs.Prelude.{ℕ, suc, List, [], ◌∷◌, ◌++◌, map, length, Bool, nat_lt, if◌then◌else◌}
use Rattle.std.specs.List.{filter}
use Rattle.dwc_base.specs.Sections.{Sections}
use Rattle.dwc_native.specs.Functions.{Function}
use Rattle.dwc_kept.specs.declared.read_unit.ReadUnit.{ReadUnit}
use Rattle.dwc_kept.specs.declared.kept_units.KeptModule.{KeptModule}
use Rattle.dwc_kept.specs.ReadUnits.{IsKeptModule}
use Rattle.dwc_kept.specs.KeptUnits.{is_in_unit}
use Rattle.dwc_source.specs.declared.places.EmittedEntry.{EmittedEntry}
use Rattle.dwc_source.specs.OutputPlaces.{numbered}

-- the offsets of the kept entries of a unit, where it is a compile unit
abbrev pub carried_offsets : List ℕ → ReadUnit → List ℕ
carried_offsets kept r = if r.is_compile_unit then filter (is_in_unit r.unit.header) kept else []

-- whether a list has items
abbrev pub has_some : List ℕ → Bool
has_some xs = nat_lt 0 (length xs)

-- those of each carried unit, in order
abbrev pub emitted : List ℕ → List ReadUnit → List (List ℕ)
emitted kept rs = filter has_some (map (carried_offsets kept) rs)

-- entries by their offsets, a list for each unit, of which the first has a number
abbrev pub numbered_lists : ℕ → List (List ℕ) → List EmittedEntry
numbered_lists number [] = []
numbered_lists number (os ∷ lists) = numbered number 0 os ++ numbered_lists (suc number) lists

-- The units and the kept entries are those of a module.
pub record IsKept (m : KeptModule) : Type 0 where
  pub functions : List Function
  pub sections : Sections
  pub is : IsKeptModule functions sections m
