-- The line table that was carried last.
use Rattle.std.specs.Prelude.{◌≡◌, ℕ, ◌<◌, List, length, slice_index_or, Option, Some, None}
use Rattle.dwc_base.specs.declared.records.Encoding.{Encoding}
use Rattle.dwc_base.specs.Sections.{Sections}
use Rattle.dwc_native.specs.Functions.{Function}
use Rattle.dwc_unit.specs.declared.units.UnitId.{UnitId}
use Rattle.dwc_unit.specs.GivenUnits.{GivenUnit}
use Rattle.dwc_carry.specs.UnitPrograms.{CarriesTableAt}
use Rattle.dwc_carry.specs.declared.last_lines.LastLines.{LastLines}
use Rattle.dwc_source.specs.declared.files.UnitFiles.{UnitFiles}

-- The line program of its unit among those of the output, all of one encoding, carries the table at its offset.
pub record IsCarriedIn (fs : List Function) (encoding : Encoding) (s : Sections) (us : List GivenUnit) (last : LastLines) : Type 0 where
  pub within : last.unit.index < length us
  pub carries : (u : GivenUnit) → u ≡ slice_index_or us last.unit.index u → (u.version ≡ encoding.version) × ((u.address_size ≡ encoding.address_size) × CarriesTableAt fs s last.address_size last.base encoding last.offset last.files u.lines)

-- The same of the table that was carried last, where there is one.
abbrev pub IsLast : List Function → Encoding → Sections → List GivenUnit → Option LastLines → Type 0
IsLast fs encoding s us None = Unit {0}
IsLast fs encoding s us (Some last) = IsCarriedIn fs encoding s us last

-- the table that was carried last, behind a unit of an address size and a base of texts by an index, which names a table or none
abbrev pub last_after : Option ℕ → ℕ → ℕ → UnitFiles → UnitId → Option LastLines → Option LastLines
last_after None address_size base files unit last = last
last_after (Some offset) address_size base files unit last = Some (record { offset = offset; address_size = address_size; base = base; files = files; unit = unit })
