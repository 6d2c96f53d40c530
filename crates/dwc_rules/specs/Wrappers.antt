-- What a pointer or a reference of the input becomes. Its value is an address in a linear memory, which no debugger can follow: so a
-- structure that holds such an address stands in its place, with functions that make native pointers of it. (This project's own tree;
-- DWARF 4 and 5, chapter 5.)
use Rattle.std.specs.Prelude.{◌≡◌, ℕ, suc, ◌<◌, ◌≤◌, ◌==◌, All, List, [], ◌∷◌, ◌++◌, Bool, true, false, nat_lt, ◌||◌, if◌then◌else◌, Some, option_map, option_to_list, Result, Ok, Err, codes}
use Rattle.std.specs.List.{take_while}
use Rattle.dwc_base.specs.declared.records.OutputFor.{OutputFor}
use Rattle.dwc_base.specs.declared.records.OutputFor.TheVariants.{Default, Debugger}
use Rattle.dwc_base.specs.declared.constants.TheConstants.{DW_AT_artificial, DW_AT_byte_size, DW_AT_data_member_location, DW_AT_linkage_name, DW_AT_name, DW_AT_type, DW_TAG_formal_parameter, DW_TAG_member, DW_TAG_pointer_type, DW_TAG_reference_type, DW_TAG_rvalue_reference_type, DW_TAG_structure_type, DW_TAG_subprogram, DW_TAG_template_type_parameter}
use Rattle.dwc_base.specs.Sections.{Fault}
use Rattle.dwc_rules.specs.Kept.{Placed}
use Rattle.dwc_dwarf.specs.Texts.{TextSource}
use Rattle.dwc_rules.specs.TypeNames.{type_of, unknown, type_name}
use Rattle.dwc_dwarf.specs.Trees.{flag, text}
use Rattle.dwc_rules.specs.Drafts.{Role, itself, pointer_to_wrapper, reference_to_target, pointer_to_target, made_of, synthetic_entry, DraftValue, goes_to, Draft}
use Rattle.dwc_rules.specs.MadeEntries.{named, data1, made}

-- What wrappers are made with: the texts of their unit, the entries of its section, the name of the function that makes a native
-- pointer of an address, and the place of the type of an address in the module's synthetic unit.
pub record WrapperSource : Type 0 where
  pub output : OutputFor
  pub texts : TextSource
  pub entries : List Placed
  pub resolve_memory : List ℕ
  pub wasm_pointer : ℕ

-- whether a tag is that of rvalue references, and the output for a debugger
abbrev pub is_wrapped_too : OutputFor → ℕ → Bool
is_wrapped_too Default tag = false
is_wrapped_too Debugger tag = tag == DW_TAG_rvalue_reference_type

-- pointers and references are wrapped, for a debugger rvalue references too
abbrev pub is_wrapped : OutputFor → Placed → Bool
is_wrapped output e = (e.entry.tag == DW_TAG_pointer_type) || (e.entry.tag == DW_TAG_reference_type) || is_wrapped_too output e.entry.tag

-- ---- names

-- the name of a wrapper of a tag, by the name of what is pointed to
abbrev pub wrapper_name : ℕ → List ℕ → List ℕ
wrapper_name tag name = (if tag == DW_TAG_pointer_type then codes "WebAssemblyPtrWrapper<" else codes "WebAssemblyRefWrapper<") ++ name ++ codes ">"

-- a name that was read
abbrev pub name_or_unknown : Result (List ℕ) Fault → List ℕ
name_or_unknown (Ok name) = name
name_or_unknown (Err fault) = unknown

-- why a name is not read
abbrev pub name_fault : Result (List ℕ) Fault → List Fault
name_fault (Ok name) = []
name_fault (Err fault) = fault ∷ []

-- What is refused of a wrapper: a name that cannot be read. It is read behind the attributes of the wrapped entry.
unfoldable pub wrapper_refusals : WrapperSource → Placed → List Fault
wrapper_refusals s e = elim (is_wrapped s.output e) [ true ↦ name_fault (type_name s.texts s.entries e) | false ↦ [] ]

-- ---- the four entries

-- a type that is one of the entries made of a wrapped one
abbrev pub type_made : Placed → Role → ℕ × DraftValue
type_made e role = (DW_AT_type, goes_to (made_of e.entry.offset role))

-- the type that a wrapped entry goes to; none where it is no entry of the unit
abbrev pub target_type : WrapperSource → Placed → List (ℕ × DraftValue)
target_type s e = option_to_list (option_map (λ t. type_made t itself) (type_of s.entries e))

-- an entry beside the wrapped one, made of it in a role
abbrev pub beside : Placed → Role → ℕ → List (ℕ × DraftValue) → Draft
beside e role tag attributes = record { depth = e.entry.depth; tag = tag; origin = Some (e.entry.offset, role); attributes = attributes }

-- a function of a wrapper, which takes a pointer to it and gives what is made in a role
abbrev pub method : WrapperSource → Placed → List ℕ → Role → List Draft
method s e name role =
    made (suc e.entry.depth) DW_TAG_subprogram (named DW_AT_linkage_name (text s.resolve_memory) ∷ named DW_AT_name (text name) ∷ type_made e role ∷ [])
    ∷ made (suc (suc e.entry.depth)) DW_TAG_formal_parameter (type_made e pointer_to_wrapper ∷ named DW_AT_artificial (flag true) ∷ []) ∷ []

-- The wrapper: a structure of 4 bytes, with the type that it goes to, the address, and the functions `ptr`, `operator*` and
-- `operator->`.
abbrev pub wrapper : WrapperSource → Placed → List Draft
wrapper s e =
    beside e itself DW_TAG_structure_type (named DW_AT_name (text (wrapper_name e.entry.tag (name_or_unknown (type_name s.texts s.entries e)))) ∷ named DW_AT_byte_size (data1 4) ∷ [])
    ∷ made (suc e.entry.depth) DW_TAG_template_type_parameter (named DW_AT_name (text (codes "T")) ∷ target_type s e)
    ∷ made (suc e.entry.depth) DW_TAG_member (named DW_AT_name (text (codes "__ptr")) ∷ (DW_AT_type, goes_to (synthetic_entry s.wasm_pointer)) ∷ named DW_AT_data_member_location (data1 0) ∷ [])
    ∷ method s e (codes "ptr") pointer_to_target
    ++ method s e (codes "operator*") reference_to_target
    ++ method s e (codes "operator->") pointer_to_target

-- the types behind it: a pointer to the wrapper, and a reference and a pointer to what it goes to
abbrev pub wrapper_types : WrapperSource → Placed → List Draft
wrapper_types s e =
    beside e pointer_to_wrapper DW_TAG_pointer_type (type_made e itself ∷ [])
    ∷ beside e reference_to_target DW_TAG_reference_type (target_type s e)
    ∷ beside e pointer_to_target DW_TAG_pointer_type (target_type s e) ∷ []

-- ---- a whole unit

-- the first entries that lie below a depth
abbrev pub inner : ℕ → List Draft → List Draft
inner depth ds = take_while (λ d. nat_lt depth d.depth) ds

-- the entries behind those
abbrev pub outer : ℕ → List Draft → List Draft
outer depth [] = []
outer depth (d ∷ ds) = if nat_lt depth d.depth then outer depth ds else d ∷ ds

-- A wrapper in front of what is made of the entries that follow a wrapped one: its children, which lie below it, become the last
-- children of the wrapper.
abbrev pub with_wrapper : WrapperSource → Placed → List Draft → List Draft
with_wrapper s e ds = wrapper s e ++ (inner e.entry.depth ds ++ (wrapper_types s e ++ outer e.entry.depth ds))

-- What the kept entries of a unit become, in file order: pointers and references are wrapped, and all others are made by `clone`.
unfoldable pub entries_made : WrapperSource → (Placed → List Draft) → List Placed → List Draft
entries_made s clone [] = []
entries_made s clone (e ∷ es) = elim (is_wrapped s.output e) [ true ↦ with_wrapper s e (entries_made s clone es) | false ↦ clone e ++ entries_made s clone es ]

-- ---- wrappers that are open

-- What entries become that follow wrapped ones which are open, the innermost first: of each wrapper the children, and then its types.
abbrev pub closing : WrapperSource → List Placed → List Draft → List Draft
closing s [] ds = ds
closing s (e ∷ stack) ds = inner e.entry.depth ds ++ (wrapper_types s e ++ closing s stack (outer e.entry.depth ds))

-- the types of those that are closed in front of an entry at a depth, and those that stay open
abbrev pub types_closed : WrapperSource → ℕ → List Placed → List Draft
types_closed s depth [] = []
types_closed s depth (e ∷ stack) = if nat_lt e.entry.depth depth then [] else wrapper_types s e ++ types_closed s depth stack

abbrev pub left_open : ℕ → List Placed → List Placed
left_open depth [] = []
left_open depth (e ∷ stack) = if nat_lt e.entry.depth depth then e ∷ stack else left_open depth stack

-- what an entry becomes in front of what lies in it, and those that are open behind it
abbrev pub made_itself : WrapperSource → (Placed → List Draft) → Placed → List Draft
made_itself s clone e = if is_wrapped s.output e then wrapper s e else clone e

abbrev pub open_behind : OutputFor → Placed → List Placed → List Placed
open_behind output e stack = if is_wrapped output e then e ∷ stack else stack

-- a depth lies below the innermost of those that are open
abbrev pub IsBelowOpen : List Placed → ℕ → Type 0
IsBelowOpen [] depth = Unit {0}
IsBelowOpen (e ∷ stack) depth = e.entry.depth < depth

-- some entries begin with one at a depth
abbrev pub BeginAt : ℕ → List Draft → Type 0
BeginAt depth [] = ⊥
BeginAt depth (d ∷ ds) = d.depth ≡ depth

-- Each entry becomes by itself one at its own depth, and others that are no higher.
pub record StayInPlace (clone : Placed → List Draft) : Type 0 where
  pub begin : (e : Placed) → BeginAt e.entry.depth (clone e)
  pub within : (e : Placed) → All (λ d. e.entry.depth ≤ d.depth) (clone e)
