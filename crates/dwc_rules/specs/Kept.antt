-- Which entries of a module are kept. (This project's own rule.)
use Rattle.std.specs.Prelude.{ℕ, zero, suc, ◌+◌, ◌==◌, List, [], ◌∷◌, Bool, false, not, ◌&&◌, ◌||◌, Option, Some, None}
use Rattle.std.specs.List.{filter, list_any, take_while}
use Rattle.dwc_dwarf.specs.Values.{Value, unit_reference, info_reference, is_one_of}
use Rattle.dwc_dwarf.specs.Entries.{Entry}
use Rattle.dwc_base.specs.Wasm.{last_of}
use Rattle.dwc_base.specs.declared.constants.TheConstants.{DW_AT_sibling, DW_TAG_call_site, DW_TAG_call_site_parameter, DW_TAG_catch_block, DW_TAG_constant, DW_TAG_enumerator, DW_TAG_formal_parameter, DW_TAG_inheritance, DW_TAG_inlined_subroutine, DW_TAG_label, DW_TAG_lexical_block, DW_TAG_member, DW_TAG_namespace, DW_TAG_subrange_type, DW_TAG_template_type_parameter, DW_TAG_template_value_parameter, DW_TAG_try_block, DW_TAG_unspecified_parameters, DW_TAG_variable, DW_TAG_variant, DW_TAG_variant_part, DW_TAG_with_stmt}

-- an entry with the offset of its unit
pub record Placed : Type 0 where
  pub unit : ℕ
  pub entry : Entry

-- whether two entries stand at one offset
abbrev pub same_place : Placed → Placed → Bool
same_place e f = e.entry.offset == f.entry.offset

-- whether an entry is among some
abbrev pub is_among : List Placed → Placed → Bool
is_among es e = list_any (same_place e) es

-- the parent of an entry: the last earlier one of depth one less (DWARF 4 and 5, section 2.3)
abbrev pub parent_of : List Placed → Placed → Option Placed
parent_of es e = last_of (filter (λ p. suc p.entry.depth == e.entry.depth) (take_while (λ p. not (same_place e p)) es))

-- whether the second entry is the parent of the first
abbrev pub is_parent : List Placed → Placed → Placed → Bool
is_parent es e p = is_it (parent_of es e)
  where
    is_it : Option Placed → Bool
    is_it None = false
    is_it (Some q) = same_place p q

-- whether a value of e's names f: a unit reference within e's unit, or any place of the section
abbrev pub names_entry : Placed → Placed → Value → Bool
names_entry e f (unit_reference n) = (f.unit == e.unit) && (f.entry.offset == e.unit + n)
names_entry e f (info_reference n) = f.entry.offset == n
names_entry e f _ = false

-- whether an attribute of an entry, other than sibling, names another entry
abbrev pub refers_to : Placed → Placed → Bool
refers_to e f = list_any (λ a. not (a.0 == DW_AT_sibling) && names_entry e f a.1) e.entry.attributes

-- The tags of children that are kept with their parent: formal_parameter, label, lexical_block, member,
-- unspecified_parameters, variant, inheritance, inlined_subroutine, subrange_type, with_stmt, catch_block, enumerator,
-- template_type_parameter, template_value_parameter, try_block, variant_part, call_site, call_site_parameter.
abbrev pub is_part_tag : ℕ → Bool
is_part_tag tag = is_one_of (DW_TAG_formal_parameter ∷ DW_TAG_label ∷ DW_TAG_lexical_block ∷ DW_TAG_member ∷ DW_TAG_unspecified_parameters ∷ DW_TAG_variant ∷ DW_TAG_inheritance ∷ DW_TAG_inlined_subroutine ∷ DW_TAG_subrange_type ∷ DW_TAG_with_stmt ∷ DW_TAG_catch_block ∷ DW_TAG_enumerator ∷ DW_TAG_template_type_parameter ∷ DW_TAG_template_value_parameter ∷ DW_TAG_try_block ∷ DW_TAG_variant_part ∷ DW_TAG_call_site ∷ DW_TAG_call_site_parameter ∷ []) tag

-- Variables and constants are kept with a parent that is neither a unit's root nor a namespace.
abbrev pub is_part_of : Placed → Placed → Bool
is_part_of p f = is_part_tag f.entry.tag || (((f.entry.tag == DW_TAG_variable) || (f.entry.tag == DW_TAG_constant)) && not ((p.entry.depth == 0) || (p.entry.tag == DW_TAG_namespace)))

-- a kept entry keeps its parent, what it refers to, and those of its children that are parts of it
abbrev pub keeps : List Placed → Placed → Placed → Bool
keeps es e f = is_parent es e f || refers_to e f || (is_parent es f e && is_part_of e f)

-- one step: the entries of a set, and those that they keep
abbrev pub kept_step : List Placed → List Placed → List Placed
kept_step es kept = filter (λ f. is_among kept f || list_any (λ e. keeps es e f) kept) es

-- so many steps, one after another
abbrev pub steps_of : ℕ → List Placed → List Placed → List Placed
steps_of zero es kept = kept
steps_of (suc n) es kept = kept_step es (steps_of n es kept)
