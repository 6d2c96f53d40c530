-- Range lists and extents of the input, as they are in the native code.
use Rattle.std.specs.Prelude.{◌≡◌, ℕ, List, [], ◌∷◌, map, is_some, All, Option, Some, None, option_map, Result, Ok, Err}
use Rattle.std.specs.List.{flat_map}
use Rattle.dwc_base.specs.declared.records.Address.{Address}
use Rattle.dwc_base.specs.declared.constants.TheConstants.{DW_AT_low_pc}
use Rattle.dwc_native.specs.Functions.{Function}
use Rattle.dwc_base.specs.Listing.{Listing, only_fault, first_of}
use Rattle.dwc_rules.specs.Refusals.{Refusal}
use Rattle.dwc_dwarf.specs.Trees.{Interval, TreeValue, address as address_of_tree}
use Rattle.dwc_dwarf.specs.Lists.{ListRefusal}
use Rattle.dwc_rules.specs.RangeAttributes.{Extent, said_extent, said_intervals}
use Rattle.dwc_native.specs.ScopesKept.{native_of_intervals}
use Rattle.dwc_native.specs.Runs.{native_in_function}
use Rattle.dwc_addr.specs.Translations.{with_lengths}
use Rattle.dwc_unit.specs.RangeLists.{FitsRange, interval_of}
use Rattle.dwc_section.specs.Writers.{FitsField}
use Rattle.dwc_tabs.specs.declared.list_fault.ListFault.{ListFault}
use Rattle.dwc_tabs.specs.RangeEnds.{refusal_view}
use Rattle.dwc_source.specs.declared.error.CloneError.{CloneError}
use Rattle.dwc_extents.specs.declared.ranges.NativeRanges.{NativeRanges}
use Rattle.dwc_extents.specs.declared.extent.NativeExtent.{NativeExtent}
use Rattle.dwc_extents.specs.declared.extent.NativeExtent.TheVariants.{Intervals, Range, Position, Nowhere}
use Rattle.dwc_source.specs.Errors.{refusal_told}

-- Ranges, each by its begin and its length, say some intervals, and fit the fields of each size.
pub record AreRanges (rs : List (Address × ℕ)) (is : List Interval) : Type 0 where
  pub say : map interval_of rs ≡ is
  pub fit : (size : ℕ) → All (FitsRange size) rs

-- what some intervals of wasm offsets are translated to, one after another
abbrev pub ranges_of_offsets : List Function → List (ℕ × ℕ) → List (Address × ℕ)
ranges_of_offsets fs is = flat_map (λ i. with_lengths (native_in_function fs i.0 i.1)) is

-- What a range list is in the native code: whether it has intervals, their translations one after another, and why it is refused.
pub record IsNative (fs : List Function) (listed : Listing ListRefusal Interval) (r : NativeRanges) : Type 0 where
  pub some : r.listed ≡ is_some (first_of listed.items)
  pub ranges : AreRanges r.ranges.items (native_of_intervals fs listed.items)
  pub fault : option_map refusal_view r.fault ≡ listed.fault

-- A call begins a list, or tells why nothing of it can be read.
abbrev pub BeginsList : {A : Type 0} → Listing ListRefusal A → Result (Listing ListRefusal A) ListFault → Type 0
BeginsList listed (Ok list) = list ≡ listed
BeginsList listed (Err e) = listed ≡ only_fault (refusal_view e)

-- A call reads a list to its end, or tells what is refused of it.
abbrev pub EndsList : Listing ListRefusal Interval → Result (Unit {0}) ListFault → Type 0
EndsList listed (Ok done) = listed.fault ≡ None
EndsList listed (Err e) = listed.fault ≡ Some (refusal_view e)

-- what an error tells is the refusal of something; want of memory tells nothing
abbrev pub IsTold : Option Refusal → Option Refusal → Type 0
IsTold refusal None = Unit {0}
IsTold refusal (Some told) = refusal ≡ Some told

-- Something is not refused, or its refusal is told.
abbrev pub TellsRefusal : Option Refusal → Result (Unit {0}) CloneError → Type 0
TellsRefusal refusal (Ok done) = refusal ≡ None
TellsRefusal refusal (Err e) = IsTold refusal (refusal_told e)

-- what the extent of an entry of a tag is said by
abbrev pub said_by : ℕ → NativeExtent → List (ℕ × TreeValue)
said_by tag (Intervals rs) = said_intervals tag (map interval_of rs.items)
said_by tag (Range begin length) = said_intervals tag (interval_of (begin, length) ∷ [])
said_by tag (Position a) = (DW_AT_low_pc, address_of_tree a) ∷ []
said_by tag Nowhere = []

-- its addresses fit the fields of each size
abbrev pub FitsExtent : NativeExtent → Type 0
FitsExtent (Intervals rs) = (size : ℕ) → All (FitsRange size) rs.items
FitsExtent (Range begin length) = (size : ℕ) → All (FitsRange size) ((begin, length) ∷ [])
FitsExtent (Position a) = (size : ℕ) → FitsField size a
FitsExtent Nowhere = Unit {0}

-- what an entry has of the code is what its extent becomes
abbrev pub IsExtent : List Function → ℕ → Extent → NativeExtent → Type 0
IsExtent fs tag e x = said_by tag x ≡ said_extent fs tag e
