-- Which parameters are object pointers, and what changes in what is told of them and of their functions.
use Rattle.std.proofs.Common.{◌≡◌, ℕ, List, [], ◌∷◌, map, true, false, refl}
use Rattle.std.specs.Prelude.{Bool, ◌++◌, codes}
use Rattle.dwc_dwarf.specs.Values.{Value, constant, flag, text, text_reference, unit_reference, info_reference}
use Rattle.dwc_rules.specs.Kept.{Placed}
use Rattle.dwc_dwarf.specs.Trees as Trees
use Rattle.dwc_rules.specs.Drafts.{itself, made_of, DraftValue, done, goes_to}
use Rattle.dwc_rules.specs.ObjectPointers.{is_object_pointer, pointers_changed}
use Rattle.dwc_worked.proofs.SmallLists.{at_unit}
use Rattle.dwc_worked.proofs.WrapperInputs.{texts}
use Rattle.dwc_worked.proofs.DraftsOnLiterals.{wrappers_on_literals}

abbrev at : ℕ → ℕ → ℕ → List (ℕ × Value) → Placed
at offset depth tag attributes = at_unit 0 offset depth tag attributes

abbrev type : ℕ → ℕ × Value
type n = (0x49, unit_reference n)

abbrev artificial : ℕ × Value
artificial = (0x34, flag true)

abbrev name : List ℕ → ℕ × Value
name bytes = (0x03, text bytes)

-- a function of a tag and some attributes at 20, with some entries in it, and behind it a base type, a pointer and a const_type of it
abbrev unit_with : ℕ → List (ℕ × Value) → List Placed → List Placed
unit_with tag attributes inside = at 11 0 0x11 [] ∷ at 20 1 tag attributes ∷ inside ++ at 80 1 0x24 [] ∷ at 85 1 0x0F (type 80 ∷ []) ∷ at 90 1 0x26 (type 85 ∷ []) ∷ []

-- whether each of some entries in it is an object pointer
abbrev are_pointers : ℕ → List (ℕ × Value) → List Placed → List Bool
are_pointers tag attributes inside = map (is_object_pointer texts (unit_with tag attributes inside)) inside

-- ---- by what a parameter looks like

-- whether the first parameter of a subprogram, of some attributes, is one
abbrev first_is : List (ℕ × Value) → List Bool
first_is attributes = are_pointers 0x2E [] (at 30 2 0x05 attributes ∷ [])

looks : map first_is (
    (artificial ∷ name (codes "this") ∷ type 85 ∷ [])
    ∷ (artificial ∷ type 85 ∷ [])
    ∷ (artificial ∷ (0x03, text_reference 0x0E 11) ∷ type 85 ∷ [])
    ∷ (artificial ∷ (0x03, constant 0x0B 5) ∷ type 85 ∷ []) ∷ [])
    ≡ (true ∷ []) ∷ (true ∷ []) ∷ (true ∷ []) ∷ (true ∷ []) ∷ []
unfolding wrappers_on_literals
looks = refl

-- another name, an empty one, or one that cannot be read; not artificial, or by a constant; no type, one by a reference in the section,
-- a const_type of a pointer, or an entry that is not there; of two names, types or marks the first counts
looks-not : map first_is (
    (artificial ∷ name (codes "self") ∷ type 85 ∷ []) ∷ (artificial ∷ name [] ∷ type 85 ∷ []) ∷ (artificial ∷ (0x03, text_reference 0x0E 99) ∷ type 85 ∷ [])
    ∷ (name (codes "this") ∷ type 85 ∷ []) ∷ ((0x34, flag false) ∷ type 85 ∷ []) ∷ ((0x34, constant 0x0B 1) ∷ type 85 ∷ [])
    ∷ (artificial ∷ []) ∷ (artificial ∷ (0x49, info_reference 85) ∷ []) ∷ (artificial ∷ type 90 ∷ []) ∷ (artificial ∷ type 84 ∷ [])
    ∷ (artificial ∷ name (codes "a") ∷ name (codes "this") ∷ type 85 ∷ []) ∷ ((0x34, flag false) ∷ artificial ∷ type 85 ∷ []) ∷ (artificial ∷ type 90 ∷ type 85 ∷ []) ∷ [])
    ≡ (false ∷ []) ∷ (false ∷ []) ∷ (false ∷ []) ∷ (false ∷ []) ∷ (false ∷ []) ∷ (false ∷ []) ∷ (false ∷ []) ∷ (false ∷ []) ∷ (false ∷ []) ∷ (false ∷ []) ∷ (false ∷ []) ∷ (false ∷ []) ∷ (false ∷ []) ∷ []
unfolding wrappers_on_literals
looks-not = refl

-- the first parameter alone, be it behind other entries or in front of a block with one; that of a block is none
abbrev this_at : ℕ → ℕ → Placed
this_at offset depth = at offset depth 0x05 (artificial ∷ type 85 ∷ [])

first-alone : are_pointers 0x2E [] (at 30 2 0x34 [] ∷ at 35 2 0x0B [] ∷ this_at 40 3 ∷ this_at 45 2 ∷ this_at 50 2 ∷ []) ≡ false ∷ false ∷ false ∷ true ∷ false ∷ []
unfolding wrappers_on_literals
first-alone = refl

first-is-plain : are_pointers 0x2E [] (at 30 2 0x05 [] ∷ this_at 50 2 ∷ []) ≡ false ∷ false ∷ []
unfolding wrappers_on_literals
first-is-plain = refl

-- of functions, inlined instances and entry points; of no block, subroutine_type, or call site
parents : map (λ tag. are_pointers tag [] (this_at 30 2 ∷ [])) (0x2E ∷ 0x1D ∷ 0x03 ∷ 0x0B ∷ 0x15 ∷ 0x48 ∷ []) ≡ (true ∷ []) ∷ (true ∷ []) ∷ (true ∷ []) ∷ (false ∷ []) ∷ (false ∷ []) ∷ (false ∷ []) ∷ []
unfolding wrappers_on_literals
parents = refl

-- other tags are none
other-tag : are_pointers 0x2E ((0x64, unit_reference 30) ∷ []) (at 30 2 0x34 (artificial ∷ type 85 ∷ []) ∷ []) ≡ false ∷ []
unfolding wrappers_on_literals
other-tag = refl

-- what stands at the place that it stems from is not looked at
stems-from : are_pointers 0x1D ((0x31, unit_reference 20) ∷ []) (at 30 2 0x05 ((0x31, unit_reference 40) ∷ []) ∷ at 40 2 0x05 (artificial ∷ type 85 ∷ []) ∷ []) ≡ false ∷ false ∷ []
unfolding wrappers_on_literals
stems-from = refl

-- ---- by name of the parent

-- any parameter of it, by either reference, beside the first one that looks like it; of two the first counts
named-by : map (λ as'. are_pointers 0x2E as' (this_at 30 2 ∷ at 40 2 0x05 [] ∷ []))
    (((0x64, unit_reference 40) ∷ []) ∷ ((0x64, info_reference 40) ∷ []) ∷ ((0x64, unit_reference 39) ∷ []) ∷ ((0x64, constant 0x0B 40) ∷ []) ∷ ((0x64, unit_reference 80) ∷ (0x64, unit_reference 40) ∷ []) ∷ [])
    ≡ (true ∷ true ∷ []) ∷ (true ∷ true ∷ []) ∷ (true ∷ false ∷ []) ∷ (true ∷ false ∷ []) ∷ (true ∷ false ∷ []) ∷ []
unfolding wrappers_on_literals
named-by = refl

-- not of an entry that is not its parent: from outside, and from a structure
named-from-outside : are_pointers 0x2E ((0x64, unit_reference 45) ∷ []) (at 30 2 0x05 [] ∷ at 40 2 0x2E [] ∷ at 45 3 0x05 [] ∷ []) ≡ false ∷ false ∷ false ∷ []
unfolding wrappers_on_literals
named-from-outside = refl

named-by-structure : are_pointers 0x13 ((0x64, unit_reference 30) ∷ []) (at 30 2 0x05 [] ∷ []) ≡ false ∷ []
unfolding wrappers_on_literals
named-by-structure = refl

-- ---- what changes

abbrev told : Placed → List (ℕ × DraftValue) → List (ℕ × DraftValue)
told e made = pointers_changed texts (at_unit 100 111 0 0x11 [] ∷ at_unit 100 120 1 0x05 [] ∷ unit_with 0x2E ((0x64, unit_reference 40) ∷ []) (at 30 2 0x05 [] ∷ at 40 2 0x05 [] ∷ [])) e made

-- an object pointer: every mark goes and every text that is a name gets another, in their places
pointer-told : told (at 40 2 0x05 []) ((0x3A, done (Trees.text (codes "f"))) ∷ (0x34, done (Trees.flag true)) ∷ (0x03, done (Trees.text (codes "this"))) ∷ (0x34, done (Trees.constant 0x0B 1)) ∷ (0x03, done (Trees.constant 0x0B 1)) ∷ (0x03, done (Trees.text [])) ∷ (0x49, goes_to (made_of 85 itself)) ∷ [])
    ≡ (0x3A, done (Trees.text (codes "f"))) ∷ (0x03, done (Trees.text (codes "__this"))) ∷ (0x03, done (Trees.constant 0x0B 1)) ∷ (0x03, done (Trees.text (codes "__"))) ∷ (0x49, goes_to (made_of 85 itself)) ∷ []
unfolding wrappers_on_literals
pointer-told = refl

-- another parameter stays as it is
parameter-told : told (at 30 2 0x05 []) ((0x34, done (Trees.flag true)) ∷ (0x03, done (Trees.text (codes "a"))) ∷ (0x64, goes_to (made_of 40 itself)) ∷ []) ≡ (0x34, done (Trees.flag true)) ∷ (0x03, done (Trees.text (codes "a"))) ∷ (0x64, goes_to (made_of 40 itself)) ∷ []
unfolding wrappers_on_literals
parameter-told = refl

-- a function no longer names an entry of its unit; what names another unit's, or none, stays, as do other names
abbrev function_attributes : List (ℕ × DraftValue)
function_attributes = (0x64, goes_to (made_of 40 itself)) ∷ (0x64, goes_to (made_of 120 itself)) ∷ (0x64, done (Trees.constant 0x0B 7)) ∷ (0x64, goes_to (made_of 80 itself)) ∷ (0x47, goes_to (made_of 40 itself)) ∷ (0x34, done (Trees.flag true)) ∷ (0x03, done (Trees.text (codes "f"))) ∷ []

function-told : map (λ tag. told (at 20 1 tag []) function_attributes) (0x2E ∷ 0x1D ∷ 0x03 ∷ 0x13 ∷ [])
    ≡ ((0x64, goes_to (made_of 120 itself)) ∷ (0x64, done (Trees.constant 0x0B 7)) ∷ (0x47, goes_to (made_of 40 itself)) ∷ (0x34, done (Trees.flag true)) ∷ (0x03, done (Trees.text (codes "f"))) ∷ [])
    ∷ ((0x64, goes_to (made_of 120 itself)) ∷ (0x64, done (Trees.constant 0x0B 7)) ∷ (0x47, goes_to (made_of 40 itself)) ∷ (0x34, done (Trees.flag true)) ∷ (0x03, done (Trees.text (codes "f"))) ∷ [])
    ∷ ((0x64, goes_to (made_of 120 itself)) ∷ (0x64, done (Trees.constant 0x0B 7)) ∷ (0x47, goes_to (made_of 40 itself)) ∷ (0x34, done (Trees.flag true)) ∷ (0x03, done (Trees.text (codes "f"))) ∷ [])
    ∷ function_attributes ∷ []
unfolding wrappers_on_literals
function-told = refl

-- a parameter without a parent is none
no-parent : is_object_pointer texts (at_unit 0 11 0 0x05 [] ∷ []) (at_unit 0 11 0 0x05 []) ≡ false
unfolding wrappers_on_literals
no-parent = refl
