-- Wrappers in a unit: the entries of one, where the children of wrapped entries come, and wrappers that go to one another.
use Rattle.std.proofs.Common.{◌≡◌, ℕ, suc, List, [], ◌∷◌, map, Some, None, true, refl}
use Rattle.std.specs.Prelude.{Option, option_map, ◌++◌, ◌==◌, if◌then◌else◌, codes}
use Rattle.std.specs.List.{filter_map}
use Rattle.dwc_base.specs.declared.records.OutputFor.TheVariants.{Default}
use Rattle.dwc_dwarf.specs.Values as Values
use Rattle.dwc_dwarf.specs.Values.{Value, unit_reference, info_reference}
use Rattle.dwc_rules.specs.Kept.{Placed}
use Rattle.dwc_dwarf.specs.Trees.{constant, flag, text}
use Rattle.dwc_rules.specs.Drafts.{Role, itself, pointer_to_wrapper, reference_to_target, pointer_to_target, made_of, synthetic_entry, DraftValue, done, goes_to, Draft}
use Rattle.dwc_rules.specs.Wrappers.{entries_made}
use Rattle.dwc_rules.specs.DraftOrder.{IsInFileOrder}
use Rattle.dwc_worked.proofs.SmallLists.{at_unit}
use Rattle.dwc_worked.proofs.WrapperInputs.{texts}
use Rattle.dwc_worked.proofs.DraftsOnLiterals.{wrappers_on_literals}

-- an entry that is passed on as it is, with a child that stems from none of the input behind a subprogram
abbrev copied : Placed → List Draft
copied e = record { depth = e.entry.depth; tag = e.entry.tag; origin = Some (e.entry.offset, itself); attributes = [] } ∷ (if e.entry.tag == 0x2E then record { depth = suc e.entry.depth; tag = 0x34; origin = None; attributes = [] } ∷ [] else [])

-- what some entries of the unit at 0 become, all of them kept
abbrev made_of_all : List Placed → List Draft
made_of_all es = entries_made (record { output = Default; texts = texts; entries = es; resolve_memory = codes "resolve_mem"; wasm_pointer = 7 }) copied es

abbrev at : ℕ → ℕ → ℕ → List (ℕ × Value) → Placed
at offset depth tag attributes = at_unit 0 offset depth tag attributes

abbrev type : ℕ → ℕ × Value
type n = (0x49, unit_reference n)

-- ---- one wrapper, whole

abbrev draft : ℕ → ℕ → Option (ℕ × Role) → List (ℕ × DraftValue) → Draft
draft depth tag origin attributes = record { depth = depth; tag = tag; origin = origin; attributes = attributes }

abbrev method_of : ℕ → List ℕ → Role → List Draft
method_of depth name role =
    draft depth 0x2E None ((0x6E, done (text (codes "resolve_mem"))) ∷ (0x03, done (text name)) ∷ (0x49, goes_to (made_of 20 role)) ∷ [])
    ∷ draft (suc depth) 0x05 None ((0x49, goes_to (made_of 20 pointer_to_wrapper)) ∷ (0x34, done (flag true)) ∷ []) ∷ []

-- the wrapper of the pointer at 20, of a name and with what its types say of what it goes to
abbrev wrapper_at_20 : ℕ → List ℕ → List (ℕ × DraftValue) → List Draft
wrapper_at_20 depth name target =
    draft depth 0x13 (Some (20, itself)) ((0x03, done (text name)) ∷ (0x0B, done (constant 0x0B 4)) ∷ [])
    ∷ draft (suc depth) 0x2F None ((0x03, done (text (codes "T"))) ∷ target)
    ∷ draft (suc depth) 0x0D None ((0x03, done (text (codes "__ptr"))) ∷ (0x49, goes_to (synthetic_entry 7)) ∷ (0x38, done (constant 0x0B 0)) ∷ [])
    ∷ method_of (suc depth) (codes "ptr") pointer_to_target ++ method_of (suc depth) (codes "operator*") reference_to_target ++ method_of (suc depth) (codes "operator->") pointer_to_target

abbrev types_at_20 : ℕ → List (ℕ × DraftValue) → List Draft
types_at_20 depth target =
    draft depth 0x0F (Some (20, pointer_to_wrapper)) ((0x49, goes_to (made_of 20 itself)) ∷ [])
    ∷ draft depth 0x10 (Some (20, reference_to_target)) target
    ∷ draft depth 0x0F (Some (20, pointer_to_target)) target ∷ []

-- a pointer to `char`, whose own attributes go
pointer-to-char : made_of_all (at 20 1 0x0F ((0x0B, Values.constant 0x0B 8) ∷ type 40 ∷ (0x03, Values.text (codes "p")) ∷ []) ∷ at 40 1 0x24 ((0x03, Values.text (codes "char")) ∷ []) ∷ [])
    ≡ wrapper_at_20 1 (codes "WebAssemblyPtrWrapper<char>") ((0x49, goes_to (made_of 40 itself)) ∷ []) ++ types_at_20 1 ((0x49, goes_to (made_of 40 itself)) ∷ []) ++ (draft 1 0x24 (Some (40, itself)) [] ∷ [])
unfolding wrappers_on_literals
pointer-to-char = refl

-- a reference to itself, at depth 3: what it goes to is its own wrapper
reference-to-itself : made_of_all (at 20 3 0x10 (type 20 ∷ []) ∷ [])
    ≡ wrapper_at_20 3 (codes "WebAssemblyRefWrapper<??>") ((0x49, goes_to (made_of 20 itself)) ∷ []) ++ types_at_20 3 ((0x49, goes_to (made_of 20 itself)) ∷ [])
unfolding wrappers_on_literals
reference-to-itself = refl

-- without a type, and with one by a reference in the section, no type is told
pointer-to-nothing : map (λ as'. made_of_all (at 20 1 0x0F as' ∷ [])) ([] ∷ ((0x49, info_reference 20) ∷ []) ∷ (type 21 ∷ []) ∷ [])
    ≡ (wrapper_at_20 1 (codes "WebAssemblyPtrWrapper<??>") [] ++ types_at_20 1 []) ∷ (wrapper_at_20 1 (codes "WebAssemblyPtrWrapper<??>") [] ++ types_at_20 1 []) ∷ (wrapper_at_20 1 (codes "WebAssemblyPtrWrapper<??>") [] ++ types_at_20 1 []) ∷ []
unfolding wrappers_on_literals
pointer-to-nothing = refl

-- ---- the order of entries

abbrev roles : Role → ℕ
roles itself = 0
roles pointer_to_wrapper = 1
roles reference_to_target = 2
roles pointer_to_target = 3

-- depth, offset and role of those entries that stem from the input
abbrev stems : List Draft → List (ℕ × ℕ × ℕ)
stems ds = filter_map (λ d. option_map (λ o. (d.depth, o.0, roles o.1)) d.origin) ds

-- A wrapped entry with two children, of which the first is wrapped and has a child of its own; then one that stands last in a subprogram,
-- and an entry behind that.
abbrev nested : List Placed
nested =
    at 11 0 0x11 [] ∷ at 20 1 0x0F (type 30 ∷ []) ∷ at 30 2 0x10 (type 20 ∷ []) ∷ at 40 3 0x21 [] ∷ at 50 2 0x21 []
    ∷ at 60 1 0x2E [] ∷ at 70 2 0x0F [] ∷ at 80 1 0x24 [] ∷ []

stems-nested : stems (made_of_all nested)
    ≡ (0, 11, 0)
    ∷ (1, 20, 0) ∷ (2, 30, 0) ∷ (3, 40, 0) ∷ (2, 30, 1) ∷ (2, 30, 2) ∷ (2, 30, 3) ∷ (2, 50, 0) ∷ (1, 20, 1) ∷ (1, 20, 2) ∷ (1, 20, 3)
    ∷ (1, 60, 0) ∷ (2, 70, 0) ∷ (2, 70, 1) ∷ (2, 70, 2) ∷ (2, 70, 3)
    ∷ (1, 80, 0) ∷ []
unfolding wrappers_on_literals
stems-nested = refl

-- all of them, by depth: the eight entries of a wrapper stand in front of the children of what it wraps
depths-nested : map (λ d. d.depth) (made_of_all nested)
    ≡ 0 ∷ 1 ∷ 2 ∷ 2 ∷ 2 ∷ 3 ∷ 2 ∷ 3 ∷ 2 ∷ 3
    ∷ 2 ∷ 3 ∷ 3 ∷ 3 ∷ 4 ∷ 3 ∷ 4 ∷ 3 ∷ 4 ∷ 3 ∷ 2 ∷ 2 ∷ 2 ∷ 2 ∷ 1 ∷ 1 ∷ 1
    ∷ 1 ∷ 2 ∷ 2 ∷ 3 ∷ 3 ∷ 3 ∷ 4 ∷ 3 ∷ 4 ∷ 3 ∷ 4 ∷ 2 ∷ 2 ∷ 2 ∷ 1 ∷ []
unfolding wrappers_on_literals
depths-nested = refl

in-order-nested : IsInFileOrder (made_of_all nested)
unfolding wrappers_on_literals
in-order-nested = refl

-- no entries become none
none-made : made_of_all [] ≡ []
unfolding wrappers_on_literals
none-made = refl
