-- The address that an entry begins at, as it is read.
use Rattle.std.proofs.Common.{◌≡◌, List, refl, sym, ◌∙◌, true, Option, Some, None, Result, Ok, Err}
use Rattle.std.specs.Prelude.{◌≢◌, option_map, option_and_then}
use Rattle.dwc_base.specs.declared.records.Address.{Address}
use Rattle.dwc_base.specs.declared.section_name.SectionName.TheVariants.{Info}
use Rattle.dwc_base.specs.declared.faults.What.TheVariants.{AddressValue, RangeList}
use Rattle.dwc_base.specs.declared.faults.Flaw.{Flaw}
use Rattle.dwc_base.specs.declared.constants.TheConstants.{DW_AT_ranges}
use Rattle.dwc_base.specs.Reading.{◌>>=◌}
use Rattle.dwc_base.specs.Sections.{Sections, Fault, reported}
use Rattle.dwc_base.specs.Units.{UnitHeader}
use Rattle.dwc_dwarf.specs.Values.{Value, address, address_index, constant, flag, block, text, text_reference, unit_reference, info_reference, line_reference, dropped, expression, range_reference, range_index, location_reference, location_index}
use Rattle.dwc_dwarf.specs.Entries.{Entry, attribute}
use Rattle.dwc_dwarf.specs.Indexed.{address_indexed, address_named}
use Rattle.dwc_base.specs.Listing.{first_of}
use Rattle.dwc_dwarf.specs.Trees.{Interval}
use Rattle.dwc_dwarf.specs.RawLists.{ListSource, ListPlace, list_named, is_range_list}
use Rattle.dwc_dwarf.specs.Lists.{list_source, address_among, list_of_value, ranges_at, ranges_of_value}
use Rattle.dwc_rules.specs.RangeAttributes.{listed_intervals}
use Rattle.dwc_read.specs.declared.fault.ReadFault.{ReadFault}
use Rattle.dwc_read.specs.declared.fault.ReadFault.TheVariants.{Read, Unsupported, OutOfMemory}
use Rattle.dwc_read.specs.Bases.{address_of_value}
use Rattle.dwc_read.specs.Faults.{Refuses, fault_seen}
use Rattle.dwc_tabs.specs.RangeLists.{range_list_named, Tells}

-- an address that was read, if it was
abbrev read_address : Result (Option Address) Flaw → Option Address
read_address (Ok a) = a
read_address (Err flaw) = None

module _ (s : Sections) (h : UnitHeader) where
  among-named : (v : Value) → address_among (list_source s h).indexed (Some v) ≡ read_address (address_named s h v)
  unfolding address_named list_source
  among-named (address a) = refl
  among-named (address_index i) = go (address_indexed s h i)
    where
      go : (r : Result Address Flaw) → elim r [ Ok a ↦ Some a | Err flaw ↦ None ] ≡ read_address (r >>= λ a. Ok (Some a))
      go (Ok a) = refl
      go (Err flaw) = refl
  among-named (constant form bits) = refl
  among-named (flag b) = refl
  among-named (block bytes) = refl
  among-named (text bytes) = refl
  among-named (text_reference form n) = refl
  among-named (unit_reference n) = refl
  among-named (info_reference n) = refl
  among-named (line_reference n) = refl
  among-named dropped = refl
  among-named (expression bytes) = refl
  among-named (range_reference n) = refl
  among-named (range_index n) = refl
  among-named (location_reference n) = refl
  among-named (location_index n) = refl

  -- An address that a unit answers is what is said.
  pub said-read : (v : Value) (a : Option Address) → address_of_value s h v ≡ Ok a → a ≡ address_among (list_source s h).indexed (Some v)
  said-read v a same = go (address_named s h v) same ∙ sym (among-named v)
    where
      go : (r : Result (Option Address) Flaw) → reported AddressValue Info h.offset r ≡ Ok a → a ≡ read_address r
      go (Ok b) same = let is : b ≡ a = cc in sym is
      go (Err flaw) same = absurd (cc)

  -- One that it refuses says nothing.
  pub said-refused : (v : Value) (fault : ReadFault) → fault ≢ OutOfMemory → Refuses (address_of_value s h v) (fault_seen fault) → None ≡ address_among (list_source s h).indexed (Some v)
  said-refused v fault known refused = go fault known refused ∙ sym (among-named v)
    where
      none : (f : Fault) (r : Result (Option Address) Flaw) → reported AddressValue Info h.offset r ≡ Err f → None ≡ read_address r
      none f (Ok b) same = absurd (cc)
      none f (Err flaw) same = refl

      go : (fault : ReadFault) → fault ≢ OutOfMemory → Refuses (address_of_value s h v) (fault_seen fault) → None ≡ read_address (address_named s h v)
      go (Read what section offset) known refused = none _ (address_named s h v) refused
      go (Unsupported kind offset) known refused = none _ (address_named s h v) refused
      go OutOfMemory known refused = absurd (known refl)

-- ---- the first interval of a list

-- where the first of some intervals begins
abbrev pub first_begin : List Interval → Option Address
first_begin is = option_map (λ i. i.begin) (first_of is)

module _ (s : Sections) (h : UnitHeader) (e : Entry) (v : Value) (named : attribute DW_AT_ranges e ≡ Some v) (is_list : is_range_list v ≡ true) where
  abbrev source : ListSource
  source = list_source s h

  pub listed-first : option_map (λ i. i.begin) (option_and_then first_of (listed_intervals source e)) ≡ first_begin (ranges_of_value source e.offset v).items
  listed-first = rw (named, is_list) refl

  -- A list that is not found has none.
  pub unfound-none : (fault : Option Fault) → Tells (range_list_named s h v) fault → None ≡ first_begin (ranges_of_value source e.offset v).items
  unfolding ranges_of_value
  unfound-none None tells = absurd tells
  unfound-none (Some fault) tells = go (list_named source v) tells
    where
      go : (o : Option (Result ListPlace Flaw)) → option_map (reported RangeList Info h.offset) o ≡ Some (Err fault) → None ≡ first_begin (list_of_value RangeList e.offset (ranges_at source) o).items
      go None same = absurd (cc)
      go (Some (Err flaw)) same = refl
      go (Some (Ok l)) same = absurd (cc)
