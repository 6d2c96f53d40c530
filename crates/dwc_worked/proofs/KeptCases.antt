-- Which functions own an address, which entries are required, and which are kept with them.
use Rattle.std.proofs.Common.{◌≡◌, ℕ, List, [], ◌∷◌, Some, None, true, false, refl}
use Rattle.std.specs.List.{filter}
use Rattle.std.specs.Prelude.{Bool, Option, map, option_map}
use Rattle.dwc_base.specs.declared.records.OutputFor.TheVariants.{Default}
use Rattle.dwc_base.specs.declared.records.Address.TheVariants.{Constant}
use Rattle.dwc_base.specs.declared.constants.TheConstants.{DW_AT_low_pc, DW_AT_ranges, DW_AT_sibling, DW_FORM_data4, DW_TAG_base_type, DW_TAG_compile_unit, DW_TAG_formal_parameter, DW_TAG_lexical_block, DW_TAG_member, DW_TAG_namespace, DW_TAG_structure_type, DW_TAG_subprogram, DW_TAG_variable}
use Rattle.dwc_dwarf.specs.Values.{Value, address, constant, info_reference, range_reference, unit_reference}
use Rattle.dwc_dwarf.specs.Entries.{Entry}
use Rattle.dwc_native.specs.Functions.{Function, owner, function_at}
use Rattle.dwc_rules.specs.Kept.{Placed}
use Rattle.dwc_rules.specs.KeptEntries.{kept_with}
use Rattle.dwc_rules.specs.EntryRules.{is_required}
use Rattle.dwc_worked.proofs.DraftsOnLiterals.{drafts_on_literals}
use Rattle.dwc_worked.proofs.Readings.{three_sections, header_small}

-- ---- owners: three functions, of which the second and third start at one place and the third has no symbol

abbrev pub a_function : ℕ → Option ℕ → ℕ → ℕ → Function
a_function number symbol start end = record { output = Default; number = number; symbol = symbol; start = start; end = end; length = 30; entries = [] }

abbrev pub three : List Function
three = a_function 0 (Some 7) 2 13 ∷ a_function 1 (Some 8) 20 20 ∷ a_function 2 None 20 40 ∷ []

abbrev pub owner_number : ℕ → Option ℕ
owner_number a = option_map (λ f. f.number) (owner three a)

-- below the first start none; past the end of the first still the first; of equal starts the last
owners : map owner_number (0 ∷ 1 ∷ 2 ∷ 12 ∷ 19 ∷ 20 ∷ 99 ∷ []) ≡ None ∷ None ∷ Some 0 ∷ Some 0 ∷ Some 0 ∷ Some 2 ∷ Some 2 ∷ []
owners = refl

-- in any order of the functions, the greatest start decides
owner-unsorted : option_map (λ f. f.number) (owner (a_function 0 None 20 40 ∷ a_function 1 None 2 13 ∷ []) 30) ≡ Some 0
owner-unsorted = refl

-- an address is in a function only where that has a symbol, and 0 and 0xFFFFFFFF are in none
functions_at : map (λ a. option_map (λ f. f.number) (function_at (a_function 0 (Some 7) 0 13 ∷ a_function 1 None 20 40 ∷ []) a)) (0 ∷ 1 ∷ 19 ∷ 20 ∷ 0xFFFFFFFF ∷ []) ≡ None ∷ Some 0 ∷ Some 0 ∷ None ∷ None ∷ []
functions_at = refl

at_last_address : option_map (λ f. f.number) (function_at (a_function 0 (Some 7) 0 13 ∷ []) 0xFFFFFFFE) ≡ Some 0
at_last_address = refl

-- ---- required entries

abbrev pub an_entry : ℕ → List (ℕ × Value) → Entry
an_entry tag attributes = record { offset = 16; depth = 1; tag = tag; attributes = attributes }

abbrev pub begins : ℕ → ℕ × Value
begins a = (DW_AT_low_pc, address (Constant a))

-- whether an entry of a unit without addresses by an index is required
abbrev pub is_required_here : Entry → Bool
is_required_here e = is_required three (three_sections [] [] []) header_small e

required : is_required_here (an_entry DW_TAG_subprogram (begins 2 ∷ [])) ≡ true
unfolding drafts_on_literals
required = refl

not_required-unlinked : is_required_here (an_entry DW_TAG_subprogram (begins 0xFFFFFFFF ∷ [])) ≡ false
unfolding drafts_on_literals
not_required-unlinked = refl

not_required-no_symbol : is_required_here (an_entry DW_TAG_subprogram (begins 20 ∷ [])) ≡ false
unfolding drafts_on_literals
not_required-no_symbol = refl

not_required-no_begin : is_required_here (an_entry DW_TAG_subprogram []) ≡ false
unfolding drafts_on_literals
not_required-no_begin = refl

not_required-constant : is_required_here (an_entry DW_TAG_subprogram ((DW_AT_low_pc, constant DW_FORM_data4 2) ∷ [])) ≡ false
unfolding drafts_on_literals
not_required-constant = refl

not_required-other_tag : is_required_here (an_entry DW_TAG_lexical_block (begins 2 ∷ [])) ≡ false
unfolding drafts_on_literals
not_required-other_tag = refl

not_required-ranges : is_required_here (an_entry DW_TAG_subprogram (begins 2 ∷ (DW_AT_ranges, range_reference 0) ∷ [])) ≡ false
unfolding drafts_on_literals
not_required-ranges = refl

-- of two begins the first counts
not_required-second_begin : is_required_here (an_entry DW_TAG_subprogram (begins 0 ∷ begins 2 ∷ [])) ≡ false
unfolding drafts_on_literals
not_required-second_begin = refl

-- ---- kept entries

-- DW_AT_type: a name that refers and has no meaning of its own here
abbrev pub type : ℕ
type = 0x49

abbrev pub at_unit : ℕ → ℕ → ℕ → ℕ → List (ℕ × Value) → Placed
at_unit unit offset depth tag attributes = record { unit = unit; entry = record { offset = offset; depth = depth; tag = tag; attributes = attributes } }

abbrev pub kept_offsets : List Placed → List ℕ
kept_offsets es = map (λ p. p.entry.offset) (kept_with es (filter (λ p. is_required_here p.entry) es))

-- A variable is kept in a subprogram and in a block of one, not below a root or a namespace; a namespace is kept as the
-- parent of what is kept.
abbrev pub variables : List Placed
variables =
    at_unit 0 11 0 DW_TAG_compile_unit [] ∷ at_unit 0 20 1 DW_TAG_variable [] ∷ at_unit 0 30 1 DW_TAG_namespace []
    ∷ at_unit 0 40 2 DW_TAG_variable [] ∷ at_unit 0 50 2 DW_TAG_subprogram (begins 2 ∷ []) ∷ at_unit 0 60 3 DW_TAG_variable []
    ∷ at_unit 0 70 3 DW_TAG_lexical_block [] ∷ at_unit 0 80 4 DW_TAG_variable [] ∷ at_unit 0 90 1 DW_TAG_namespace [] ∷ []

kept-variables : kept_offsets variables ≡ 11 ∷ 30 ∷ 50 ∷ 60 ∷ 70 ∷ 80 ∷ []
unfolding drafts_on_literals
kept-variables = refl

-- A reference into another unit keeps what it names, its parents and its members, though that unit has no subprogram; a
-- unit reference names nothing there, and a sibling reference keeps nothing.
abbrev pub two_units : List Placed
two_units =
    at_unit 0 11 0 DW_TAG_compile_unit [] ∷ at_unit 0 20 1 DW_TAG_subprogram (begins 2 ∷ (DW_AT_sibling, unit_reference 70) ∷ (type, info_reference 120) ∷ [])
    ∷ at_unit 0 70 1 DW_TAG_base_type [] ∷ at_unit 100 111 0 DW_TAG_compile_unit [] ∷ at_unit 100 120 1 DW_TAG_structure_type []
    ∷ at_unit 100 130 2 DW_TAG_member ((type, unit_reference 50) ∷ (type, unit_reference 70) ∷ []) ∷ at_unit 100 150 1 DW_TAG_base_type [] ∷ []

kept-two_units : kept_offsets two_units ≡ 11 ∷ 20 ∷ 111 ∷ 120 ∷ 130 ∷ 150 ∷ []
unfolding drafts_on_literals
kept-two_units = refl

-- a reference to a place where no entry begins keeps nothing
kept-no_target : kept_offsets (at_unit 0 11 0 DW_TAG_compile_unit [] ∷ at_unit 0 20 1 DW_TAG_subprogram (begins 2 ∷ (type, unit_reference 21) ∷ []) ∷ at_unit 0 30 1 DW_TAG_base_type [] ∷ []) ≡ 11 ∷ 20 ∷ []
unfolding drafts_on_literals
kept-no_target = refl

-- the parent is the last earlier entry of depth one less: the second subprogram's parameter keeps the second alone
kept-parent : kept_offsets (at_unit 0 11 0 DW_TAG_compile_unit [] ∷ at_unit 0 20 1 DW_TAG_subprogram [] ∷ at_unit 0 30 1 DW_TAG_subprogram (begins 2 ∷ []) ∷ at_unit 0 40 2 DW_TAG_formal_parameter [] ∷ []) ≡ 11 ∷ 30 ∷ 40 ∷ []
unfolding drafts_on_literals
kept-parent = refl

-- entries that refer to one another in a circle are kept only from a required one on
kept-circle : kept_offsets (at_unit 0 11 0 DW_TAG_compile_unit [] ∷ at_unit 0 20 1 DW_TAG_structure_type ((type, unit_reference 30) ∷ []) ∷ at_unit 0 30 1 DW_TAG_structure_type ((type, unit_reference 20) ∷ []) ∷ []) ≡ []
unfolding drafts_on_literals
kept-circle = refl
