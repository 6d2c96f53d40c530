-- What addresses and range lists become.
use Rattle.std.proofs.Common.{◌≡◌, ℕ, ◌<◌, refl, sym, ap, subst, ◌∙◌, List, length, true, Option, Some, None, Result, Ok, Err, ◌⊎◌, inl, inr}
use Rattle.std.specs.Prelude.{option_map}
use Rattle.std.proofs.lemmas.List.Elements.{All-nil}
use Rattle.dwc_base.specs.declared.records.Address.{Address}
use Rattle.dwc_base.specs.declared.section_name.SectionName.TheVariants.{Info}
use Rattle.dwc_base.specs.declared.faults.What.{What}
use Rattle.dwc_base.specs.declared.section_name.SectionName.{SectionName}
use Rattle.dwc_base.specs.declared.faults.What.TheVariants.{AddressValue}
use Rattle.dwc_base.specs.declared.faults.Flaw.{Flaw}
use Rattle.dwc_base.specs.declared.faults.Flaw.TheVariants.{EndsEarly, TooWide, Malformed, Refused}
use Rattle.dwc_base.specs.Reading.{◌>>=◌}
use Rattle.dwc_base.specs.Sections.{Sections, Fault, fault_of, reported}
use Rattle.dwc_base.specs.Units.{UnitHeader}
use Rattle.dwc_dwarf.specs.Values.{Value, is_location_name, is_range_name}
use Rattle.dwc_dwarf.specs.Values as Values
use Rattle.dwc_native.specs.Functions.{Function}
use Rattle.dwc_dwarf.specs.Indexed.{address_indexed, address_named}
use Rattle.dwc_rules.specs.Refusals.{Refusal, of_place}
use Rattle.dwc_dwarf.specs.Trees.{ranges}
use Rattle.dwc_dwarf.specs.Trees as Trees
use Rattle.dwc_rules.specs.Drafts.{DraftValue, done}
use Rattle.dwc_dwarf.specs.RawLists.{is_location_list, is_range_list}
use Rattle.dwc_dwarf.specs.Lists.{ListRefusal, list_source, ranges_of_value}
use Rattle.dwc_dwarf.specs.Lists as Lists
use Rattle.dwc_rules.specs.RangeAttributes.{carried_address}
use Rattle.dwc_native.specs.ScopesKept.{native_of_intervals}
use Rattle.dwc_rules.specs.RangeRules.{all_items, code_becomes, list_becomes, told_as}
use Rattle.dwc_rules.specs.EntryRules.{of_list}
use Rattle.dwc_dwarf.specs.ReadValues.{IsReadValue}
use Rattle.dwc_read.specs.Bases.{address_of_value}
use Rattle.dwc_read.specs.Faults.{Refuses, fault_at}
use Rattle.dwc_read.specs.declared.value.AttributeValue as values
use Rattle.dwc_read.specs.declared.value.AttributeValue.TheVariants as input
use Rattle.dwc_read.specs.ValuesSeen.{value_view}
use Rattle.dwc_tabs.specs.declared.list_fault.ListFault.{ListFault}
use Rattle.dwc_tabs.specs.declared.list_fault.ListFault.TheVariants as list
use Rattle.dwc_tabs.specs.RangeEnds.{refusal_view}
use Rattle.dwc_unit.specs.declared.attributes.AttributeValue.{AttributeValue}
use Rattle.dwc_unit.specs.declared.attributes.AttributeValue.TheVariants as output
use Rattle.dwc_section.specs.Writers.{FitsField}
use Rattle.dwc_source.specs.declared.error.CloneError.{CloneError}
use Rattle.dwc_source.specs.declared.places.EmittedEntry.{EmittedEntry}
use Rattle.dwc_extents.specs.declared.ranges.NativeRanges.{NativeRanges}
use Rattle.dwc_source.specs.Errors.{refusal_told}
use Rattle.dwc_source.specs.Errors as Errors
use Rattle.dwc_source.specs.MadeValues.{GivesMade, IsMade, RefusesSo, Says, SaysMore, is_address}
use Rattle.dwc_extents.specs.NativeExtents.{IsNative}
use Rattle.dwc_source.proofs.TextLaws.{Grows-same}

-- a fault told at another offset
moved : (what : What) (section : SectionName) (here there : ℕ) (flaw : Flaw) → fault_at there (fault_of what section here flaw) ≡ fault_of what section there flaw
moved what section here there EndsEarly = refl
moved what section here there TooWide = refl
moved what section here there Malformed = refl
moved what section here there (Refused kind) = refl

-- The error of a list's refusal tells it.
pub told-list : (f : ListFault) → refusal_told (Errors.of_list f) ≡ Some (of_list (refusal_view f))
told-list (list.Read what section offset) = refl
told-list (list.Unsupported kind offset) = refl
told-list list.TooLarge = refl

-- What is made says what is to be said, and no text is added.
pub more-made : (places : List EmittedEntry) (number name : ℕ) (table : List (List ℕ)) (read : Result (Option DraftValue) Refusal) (r : Result (Option AttributeValue) CloneError) → GivesMade (Says places number name table) read r → GivesMade (SaysMore places number name table table) read r
more-made places number name table read (Ok v) made = record { drafted = made.drafted; is = made.is; made = record { grows = Grows-same table; says = made.made } }
more-made places number name table read (Err e) refused = refused

module _ (fs : List Function) (sections : Sections) (h : UnitHeader) (here : ℕ) where
  -- what a value becomes of the entry at an offset
  abbrev becomes : Value → Result (Option DraftValue) Refusal
  becomes v = told_as of_list (code_becomes (list_source sections h) fs here v)

  -- ---- addresses

  -- what an address becomes that was read, or why it was not
  abbrev address_made : Result (Option Address) Flaw → Result (Option DraftValue) Refusal
  address_made (Ok None) = Ok None
  address_made (Ok (Some a)) = Ok (Some (done (carried_address fs a)))
  address_made (Err flaw) = Err (of_place (fault_of AddressValue Info here flaw))

  address-becomes : (v : Value) → is_address v ≡ true → becomes v ≡ address_made (address_named sections h v)
  unfolding code_becomes address_named list_source
  address-becomes (Values.address a) is = refl
  address-becomes (Values.address_index i) is = go (address_indexed sections h i)
    where
      go : (r : Result Address Flaw) → told_as of_list (elim r [ Ok a ↦ Ok (Some (done (carried_address fs a))) | Err flaw ↦ Err (Lists.of_place (fault_of AddressValue Info here flaw)) ]) ≡ address_made (r >>= λ a. Ok (Some a))
      go (Ok a) = refl
      go (Err flaw) = refl
  address-becomes (Values.constant form bits) is = absurd (cc)
  address-becomes (Values.flag b) is = absurd (cc)
  address-becomes (Values.block bytes) is = absurd (cc)
  address-becomes (Values.text bytes) is = absurd (cc)
  address-becomes (Values.text_reference form n) is = absurd (cc)
  address-becomes (Values.unit_reference n) is = absurd (cc)
  address-becomes (Values.info_reference n) is = absurd (cc)
  address-becomes (Values.line_reference n) is = absurd (cc)
  address-becomes Values.dropped is = absurd (cc)
  address-becomes (Values.expression bytes) is = absurd (cc)
  address-becomes (Values.range_reference n) is = absurd (cc)
  address-becomes (Values.range_index n) is = absurd (cc)
  address-becomes (Values.location_reference n) is = absurd (cc)
  address-becomes (Values.location_index n) is = absurd (cc)

  -- An address that a unit answers becomes its translation.
  pub address-read : (v : Value) (o : Option Address) → is_address v ≡ true → address_of_value sections h v ≡ Ok o → becomes v ≡ address_made (Ok o)
  address-read v o is read = address-becomes v is ∙ go (address_named sections h v) read
    where
      go : (r : Result (Option Address) Flaw) → reported AddressValue Info h.offset r ≡ Ok o → address_made r ≡ address_made (Ok o)
      go (Ok b) same = let is : b ≡ o = cc in ap (λ x. address_made (Ok x)) is
      go (Err flaw) same = absurd (cc)

  pub address-says : (places : List EmittedEntry) (number name : ℕ) (table : List (List ℕ)) (v : Value) (a x : Address) → is_address v ≡ true → address_of_value sections h v ≡ Ok (Some a) → Trees.address x ≡ carried_address fs a → ((size : ℕ) → FitsField size x)
      → IsMade (Says places number name table) (becomes v) (Some (output.Address x))
  address-says places number name table v a x is read says fits = record {
    drafted = Some (done (carried_address fs a));
    is = address-read v (Some a) is read;
    made = record { means = λ goals at. ap (λ t. Some t) says; fits = fits; texts = All-nil (λ n. n < length table) };
  }

  -- None is read of no address.
  pub address-none : (places : List EmittedEntry) (number name : ℕ) (table : List (List ℕ)) (v : Value) → is_address v ≡ true → address_of_value sections h v ≡ Ok None → IsMade (Says places number name table) (becomes v) None
  address-none places number name table v is read = record { drafted = None; is = address-read v None is read; made = record { means = λ goals at. refl; fits = λ size. tt; texts = tt } }

  -- One that cannot be read is told at the entry.
  pub address-told : (v : Value) (seen : Option Fault) → is_address v ≡ true → Refuses (address_of_value sections h v) seen → RefusesSo (becomes v) (option_map of_place (option_map (fault_at here) seen))
  address-told v None is refused = tt
  address-told v (Some f) is refused = address-becomes v is ∙ go (address_named sections h v) refused
    where
      go : (r : Result (Option Address) Flaw) → reported AddressValue Info h.offset r ≡ Err f → address_made r ≡ Err (of_place (fault_at here f))
      go (Ok b) same = absurd (cc)
      go (Err flaw) same =
          let is : fault_of AddressValue Info h.offset flaw ≡ f = cc in
          ap (λ x. Err (of_place x)) (sym (moved AddressValue Info h.offset here flaw) ∙ ap (fault_at here) is)

  -- ---- range lists

  list-becomes : (v : Value) → is_range_list v ≡ true → becomes v ≡ told_as of_list (list_becomes fs (all_items (ranges_of_value (list_source sections h) here v)))
  unfolding code_becomes
  list-becomes (Values.range_reference n) is = refl
  list-becomes (Values.range_index n) is = refl
  list-becomes (Values.address a) is = absurd (cc)
  list-becomes (Values.address_index i) is = absurd (cc)
  list-becomes (Values.constant form bits) is = absurd (cc)
  list-becomes (Values.flag b) is = absurd (cc)
  list-becomes (Values.block bytes) is = absurd (cc)
  list-becomes (Values.text bytes) is = absurd (cc)
  list-becomes (Values.text_reference form n) is = absurd (cc)
  list-becomes (Values.unit_reference n) is = absurd (cc)
  list-becomes (Values.info_reference n) is = absurd (cc)
  list-becomes (Values.line_reference n) is = absurd (cc)
  list-becomes Values.dropped is = absurd (cc)
  list-becomes (Values.expression bytes) is = absurd (cc)
  list-becomes (Values.location_reference n) is = absurd (cc)
  list-becomes (Values.location_index n) is = absurd (cc)

  -- what a list becomes, by its fault
  by-fault : (v : Value) (fault : Option ListRefusal) → is_range_list v ≡ true → fault ≡ (ranges_of_value (list_source sections h) here v).fault
      → becomes v ≡ told_as of_list (list_becomes fs (elim fault [ None ↦ Ok (ranges_of_value (list_source sections h) here v).items | Some refusal ↦ Err refusal ]))
  by-fault v fault is same =
      list-becomes v is
      ∙ ap (λ o. told_as of_list (list_becomes fs (elim o [ None ↦ Ok (ranges_of_value (list_source sections h) here v).items | Some refusal ↦ Err refusal ]))) (sym same)

  pub list-says : (places : List EmittedEntry) (number name : ℕ) (table : List (List ℕ)) (v : Value) (native : NativeRanges) → is_range_list v ≡ true → is_range_name name ≡ true
      → IsNative fs (ranges_of_value (list_source sections h) here v) native → native.fault ≡ None → IsMade (λ draft x. Says places number name table draft (Some x)) (becomes v) (output.RangeListRef (record { ranges = native.ranges }))
  list-says places number name table v native is named has none =
      let items = (ranges_of_value (list_source sections h) here v).items in
      record {
        drafted = Some (done (ranges (native_of_intervals fs items)));
        is = by-fault v None is (ap (option_map refusal_view) (sym none) ∙ has.fault);
        made = record { means = λ goals at. ap (λ is. Some (ranges is)) has.ranges.say; fits = λ size. (named, has.ranges.fit size); texts = All-nil (λ n. n < length table) };
      }

  pub list-told : (v : Value) (native : NativeRanges) (fault : ListFault) → is_range_list v ≡ true → IsNative fs (ranges_of_value (list_source sections h) here v) native → native.fault ≡ Some fault
      → RefusesSo (becomes v) (refusal_told (Errors.of_list fault))
  list-told v native fault is has some =
      rw (told-list fault) (by-fault v (Some (refusal_view fault)) is (ap (option_map refusal_view) (sym some) ∙ has.fault))

-- ---- kinds of values

pub address-kind : (v : values.AttributeValue) → ((x : Address) × (v ≡ input.Addr x)) ⊎ ((x : ℕ) × (v ≡ input.AddrIndex x)) → is_address (value_view v) ≡ true
address-kind v (inl p) = ap (λ w. is_address (value_view w)) p.1
address-kind v (inr p) = ap (λ w. is_address (value_view w)) p.1

pub list-kind : (v : values.AttributeValue) → ((x : ℕ) × (v ≡ input.RangeRef x)) ⊎ ((x : ℕ) × (v ≡ input.RangeIndex x)) → is_range_list (value_view v) ≡ true
list-kind v (inl p) = ap (λ w. is_range_list (value_view w)) p.1
list-kind v (inr p) = ap (λ w. is_range_list (value_view w)) p.1

-- A range list stands under a name that may have one.
pub list-named : (name : ℕ) (v : values.AttributeValue) → ((x : ℕ) × (v ≡ input.RangeRef x)) ⊎ ((x : ℕ) × (v ≡ input.RangeIndex x)) → IsReadValue name (value_view v) → is_range_name name ≡ true
list-named name v (inl p) read = subst (λ w. IsReadValue name (value_view w)) p.1 read
list-named name v (inr p) read = subst (λ w. IsReadValue name (value_view w)) p.1 read

-- A location list is one, and stands under a name that may have one.
pub locations-kind : (v : values.AttributeValue) → ((x : ℕ) × (v ≡ input.LocRef x)) ⊎ ((x : ℕ) × (v ≡ input.LocIndex x)) → is_location_list (value_view v) ≡ true
locations-kind v (inl p) = ap (λ w. is_location_list (value_view w)) p.1
locations-kind v (inr p) = ap (λ w. is_location_list (value_view w)) p.1

pub locations-named : (name : ℕ) (v : values.AttributeValue) → ((x : ℕ) × (v ≡ input.LocRef x)) ⊎ ((x : ℕ) × (v ≡ input.LocIndex x)) → IsReadValue name (value_view v) → is_location_name name ≡ true
locations-named name v (inl p) read = subst (λ w. IsReadValue name (value_view w)) p.1 read
locations-named name v (inr p) read = subst (λ w. IsReadValue name (value_view w)) p.1 read
