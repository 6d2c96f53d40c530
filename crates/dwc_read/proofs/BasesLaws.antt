-- Where the indexed values of a unit begin, by what its root says.
use Rattle.std.proofs.Common.{◌≡◌, ℕ, refl, ap, ◌∙◌, List, Option, Some, None, Result, Ok, Err}
use Rattle.std.specs.Prelude.{option_map, option_and_then, ◌==◌}
use Rattle.std.specs.Option.{option_or, unwrap_or}
use Rattle.std.specs.List.{find}
use Rattle.dwc_base.specs.declared.faults.Flaw.{Flaw}
use Rattle.dwc_base.specs.declared.constants.TheConstants.{DW_AT_addr_base, DW_AT_loclists_base, DW_AT_rnglists_base, DW_AT_str_offsets_base}
use Rattle.dwc_base.specs.declared.section_name.SectionName.TheVariants.{Addr, Info, Loclists, Rnglists, StrOffsets}
use Rattle.dwc_base.specs.declared.section_name.SectionName.{SectionName}
use Rattle.dwc_base.specs.declared.faults.What.TheVariants.{Text}
use Rattle.dwc_base.specs.Abbreviations.{Declaration, abbreviation_table}
use Rattle.dwc_base.specs.Sections.{Sections, Fault, reported}
use Rattle.dwc_dwarf.specs.Texts.{text_named}
use Rattle.dwc_base.specs.Units.{UnitHeader}
use Rattle.dwc_dwarf.specs.Values as value
use Rattle.dwc_dwarf.specs.Values.{Value}
use Rattle.dwc_dwarf.specs.Indexed.{number_said, offset_among, offset_of_root, root_offsets, index_base, usual_base, is_split, texts_of_unit, text_in_unit}
use Rattle.dwc_read.specs.Elsewhere.{texts_from}
use Rattle.dwc_read.specs.RootValues.{said, said_number, first_among, said_by_root}

number_said-same : (v : Value) → number_said v ≡ said_number (said v)
number_said-same (value.address a) = refl
number_said-same (value.address_index n) = refl
number_said-same (value.constant form n) = refl
number_said-same (value.flag b) = refl
number_said-same (value.block bytes) = refl
number_said-same (value.expression bytes) = refl
number_said-same (value.text bytes) = refl
number_said-same (value.text_reference form n) = refl
number_said-same (value.line_reference n) = refl
number_said-same (value.range_reference n) = refl
number_said-same (value.range_index n) = refl
number_said-same (value.location_reference n) = refl
number_said-same (value.location_index n) = refl
number_said-same (value.unit_reference n) = refl
number_said-same (value.info_reference n) = refl
number_said-same value.dropped = refl

offset_among-said : (name : ℕ) (r : Result (List (ℕ × Value)) Flaw) → offset_among name r ≡ option_and_then said_number (first_among name None r)
offset_among-said name (Err flaw) = refl
offset_among-said name (Ok attributes) = go (find (λ a. a.0 == name) attributes)
  where
    go : (o : Option (ℕ × Value)) → option_and_then (λ a. number_said a.1) o ≡ option_and_then said_number (option_or None (option_map said (option_map (λ a. a.1) o)))
    go None = refl
    go (Some a) = number_said-same a.1

offset_of_root-said : (s : Sections) (h : UnitHeader) (name : ℕ) → offset_of_root s h name ≡ option_and_then said_number (said_by_root s h name)
unfolding offset_of_root said_by_root
offset_of_root-said s h name = go (abbreviation_table s h.abbreviations)
  where
    go : (t : Result (List Declaration) Fault)
        → elim t [ Err fault ↦ None | Ok table ↦ offset_among name (root_offsets s h table) ]
        ≡ option_and_then said_number (elim t [ Err fault ↦ None | Ok table ↦ first_among name None (root_offsets s h table) ])
    go (Err fault) = refl
    go (Ok table) = offset_among-said name (root_offsets s h table)

some-unwrapped : (o : Option ℕ) (n : ℕ) → option_or o (Some n) ≡ Some (unwrap_or o n)
some-unwrapped None n = refl
some-unwrapped (Some m) n = refl

module _ (s : Sections) (h : UnitHeader) where
  pub index_base-texts : index_base s h StrOffsets ≡ Some (unwrap_or (option_and_then said_number (said_by_root s h DW_AT_str_offsets_base)) 8)
  unfolding index_base
  index_base-texts = ap (λ o. option_or o (Some 8)) (offset_of_root-said s h DW_AT_str_offsets_base) ∙ some-unwrapped _ 8

  pub index_base-addresses : index_base s h Addr ≡ option_or (option_and_then said_number (said_by_root s h DW_AT_addr_base)) (usual_base (is_split h) Addr)
  unfolding index_base
  index_base-addresses = ap (λ o. option_or o (usual_base (is_split h) Addr)) (offset_of_root-said s h DW_AT_addr_base)

  pub index_base-ranges : index_base s h Rnglists ≡ Some (unwrap_or (option_and_then said_number (said_by_root s h DW_AT_rnglists_base)) 12)
  unfolding index_base
  index_base-ranges = ap (λ o. option_or o (Some 12)) (offset_of_root-said s h DW_AT_rnglists_base) ∙ some-unwrapped _ 12

  pub index_base-locations : index_base s h Loclists ≡ Some (unwrap_or (option_and_then said_number (said_by_root s h DW_AT_loclists_base)) 12)
  unfolding index_base
  index_base-locations = ap (λ o. option_or o (Some 12)) (offset_of_root-said s h DW_AT_loclists_base) ∙ some-unwrapped _ 12

  -- a text of the unit, those by an index beginning where the unit's do
  pub text_in_unit-from : (base : ℕ) (v : Value) (r : Result (Option (List ℕ)) Flaw) → index_base s h StrOffsets ≡ Some base → text_named (texts_from s base) v ≡ r → text_in_unit s h v ≡ reported Text Info h.offset r
  unfolding texts_of_unit
  text_in_unit-from base v r begins named = rw (begins, texts_of_unit) (ap (reported Text Info h.offset) named)

  -- other sections have no values by an index
  pub index_base-other : (name : SectionName) → (name ≡ StrOffsets → ⊥) → (name ≡ Addr → ⊥) → (name ≡ Rnglists → ⊥) → (name ≡ Loclists → ⊥) → index_base s h name ≡ None
  unfolding index_base
  index_base-other StrOffsets texts addresses ranges locations = absurd (texts refl)
  index_base-other Addr texts addresses ranges locations = absurd (addresses refl)
  index_base-other Rnglists texts addresses ranges locations = absurd (ranges refl)
  index_base-other Loclists texts addresses ranges locations = absurd (locations refl)
  index_base-other _ texts addresses ranges locations = refl
