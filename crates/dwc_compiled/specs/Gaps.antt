-- The entries of an address map, kept as those that have a source and those that have none.
use Rattle.std.specs.Prelude.{◌≡◌, ℕ, suc, ◌+◌, ◌<◌, ◌≤◌, ◌^◌, ◌==◌, List, [], ◌∷◌, ◌++◌, map, length, All, if◌then◌else◌, Option, Some, None, is_some}
use Rattle.std.specs.List.{filter}
use Rattle.dwc_native.specs.Functions.{Recorded}
use Rattle.dwc_compiled.specs.declared.instruction_maps.Gap.{Gap}
use Rattle.dwc_compiled.specs.declared.instruction_maps.InstructionSource.{InstructionSource}
use Rattle.dwc_compiled.specs.declared.instruction_maps.InstructionAddressMap.{InstructionAddressMap}

-- an entry: its native offset, and the file offset of its source
abbrev pub entry_view : InstructionAddressMap → ℕ × Option ℕ
entry_view e = (e.code_offset, e.srcloc)

-- one that has a source
abbrev pub source_view : InstructionSource → Recorded
source_view e = record { native = e.code_offset; wasm = e.source }

-- The entries that have no source. In front of the first entry some with a source stand.
abbrev pub gaps_of : ℕ → List (ℕ × Option ℕ) → List Gap
gaps_of before [] = []
gaps_of before (e ∷ es) = if is_some e.1 then gaps_of (suc before) es else record { before = before; generated = e.0 } ∷ gaps_of before es

-- of these, the entries in front of which so many with a source stand
abbrev pub gaps_behind : List Gap → ℕ → List (ℕ × Option ℕ)
gaps_behind gaps before = map (λ g. (g.generated, None)) (filter (λ g. g.before == before) gaps)

-- a recorded source as an entry of an address map
abbrev pub entry_of_source : Recorded → ℕ × Option ℕ
entry_of_source e = (e.native, Some e.wasm)

-- All entries in order, with the sources from one on, in front of which so many stand.
abbrev pub merged : List Gap → ℕ → List Recorded → List (ℕ × Option ℕ)
merged gaps before [] = gaps_behind gaps before
merged gaps before (e ∷ es) = gaps_behind gaps before ++ (entry_of_source e ∷ merged gaps (suc before) es)

-- gaps are those of the entries that they are merged to
abbrev pub AreGapsOf : ℕ → List Recorded → List Gap → Type 0
AreGapsOf before sources gaps = gaps_of before (merged gaps before sources) ≡ gaps

-- what is kept of a list of entries
pub record IsSplit (sources : List InstructionSource) (gaps : List Gap) : Type 0 where
  pub kept : AreGapsOf 0 (map source_view sources) gaps
  pub inside : All (λ g. g.before ≤ length sources) gaps

-- what is left of it behind so many sources
pub record AreLeft (before : ℕ) (sources : List InstructionSource) (gaps : List Gap) : Type 0 where
  pub kept : AreGapsOf before (map source_view sources) gaps
  pub few : before + length sources < 2 ^ 64
