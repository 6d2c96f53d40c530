-- What extents are read as: intervals of wasm offsets, and whether nothing is refused of them.
use Rattle.std.specs.Prelude.{◌≡◌, ℕ, ⊤, List, true, is_some, IfSome, Option, None, filter_map}
use Rattle.dwc_dwarf.specs.Entries.{Entry}
use Rattle.dwc_base.specs.Listing.{Listing}
use Rattle.dwc_dwarf.specs.Lists.{ListRefusal, ranges_of_value}
use Rattle.dwc_rules.specs.RangeAttributes.{extent}
use Rattle.dwc_native.specs.ScopesKept.{wasm_interval}
use Rattle.dwc_dwarf.specs.RawLists.{ListSource}
use Rattle.dwc_rules.specs.Scopes.{scope_of_extent}
use Rattle.dwc_dwarf.specs.Trees.{Interval}
use Rattle.dwc_read.specs.ValuesSeen.{value_view}
use Rattle.dwc_extents.specs.BoundRefusals.{IsSound}
use Rattle.dwc_extents.specs.declared.input_extent.InputExtent.{InputExtent}
use Rattle.dwc_extents.specs.declared.input_extent.InputExtent.TheVariants.{Listed, Bounded, Position, Nowhere}
use Rattle.dwc_extents.specs.declared.wasm_intervals.ReadIntervals.{ReadIntervals}

-- Intervals are those of a list, which is read to its end where they are said to be sound.
pub record AreReadOf (listed : Listing ListRefusal Interval) (r : ReadIntervals) : Type 0 where
  pub intervals : r.intervals.items ≡ filter_map wasm_interval listed.items
  pub sound : r.is_sound ≡ true → listed.fault ≡ None

-- The extent that is said of an entry is sound where its list can be read to its end, or its bounds make an interval.
abbrev pub IsSoundWhere : ListSource → Entry → InputExtent → Type 0
IsSoundWhere s e (Listed v) = (ranges_of_value s e.offset (value_view v)).fault ≡ None → IsSound s e
IsSoundWhere s e (Bounded i) = is_some i ≡ true → IsSound s e
IsSoundWhere s e (Position a) = ⊤
IsSoundWhere s e Nowhere = ⊤

-- a scope is the intervals that the extent of an entry is, if it is known
abbrev pub IsScopeOf : ListSource → Entry → Option (List (ℕ × ℕ)) → Type 0
IsScopeOf s e scope = IfSome scope (λ is. is ≡ scope_of_extent (extent s e))
