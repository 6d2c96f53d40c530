-- Names of wrappers by chains of types: every kind of derived type, what ends a chain, and what cannot be read.
use Rattle.std.proofs.Common.{◌≡◌, ℕ, List, [], ◌∷◌, map, Ok, Err, Result, refl}
use Rattle.std.specs.Prelude.{codes}
use Rattle.dwc_base.specs.declared.records.OutputFor.TheVariants.{Default}
use Rattle.dwc_base.specs.declared.section_name.SectionName.TheVariants.{Info}
use Rattle.dwc_base.specs.declared.faults.What.TheVariants.{BaseName, Text}
use Rattle.dwc_base.specs.Sections.{Fault, unreadable}
use Rattle.dwc_dwarf.specs.Values.{Value, constant, text, text_reference, unit_reference, info_reference, dropped}
use Rattle.dwc_rules.specs.Kept.{Placed}
use Rattle.dwc_rules.specs.TypeNames.{type_name}
use Rattle.dwc_rules.specs.Wrappers.{wrapper_name, wrapper_refusals}
use Rattle.dwc_worked.proofs.SmallLists.{at_unit}
use Rattle.dwc_worked.proofs.WrapperInputs.{texts}
use Rattle.dwc_worked.proofs.DraftsOnLiterals.{wrappers_on_literals}

-- ---- chains in the unit at 0, in which an entry's offset is its place in the unit too

-- attributes: a type in the unit, and a name
abbrev type : ℕ → ℕ × Value
type n = (0x49, unit_reference n)

abbrev name : List ℕ → ℕ × Value
name bytes = (0x03, text bytes)

-- an entry below the root of the unit at 0
abbrev at : ℕ → ℕ → List (ℕ × Value) → Placed
at offset tag attributes = at_unit 0 offset 1 tag attributes

-- the name of what the pointer at 20 goes to, among it, a root, and others
abbrev name_with : List (ℕ × Value) → List Placed → Result (List ℕ) Fault
name_with attributes others = type_name texts (at_unit 0 11 0 0x11 (name (codes "u.c") ∷ []) ∷ at 20 0x0F attributes ∷ others) (at 20 0x0F attributes)

-- base types `char` and `int`
abbrev char_at : ℕ → Placed
char_at offset = at offset 0x24 (name (codes "char") ∷ [])

-- a pointer to a constant character
const-char : name_with (type 30 ∷ []) (at 30 0x26 (type 40 ∷ []) ∷ char_at 40 ∷ []) ≡ Ok (codes "const char")
unfolding wrappers_on_literals
const-char = refl

-- to itself
itself-alone : name_with (type 20 ∷ []) [] ≡ Ok (codes "??")
unfolding wrappers_on_literals
itself-alone = refl

-- to a const_type of itself
const-itself : name_with (type 30 ∷ []) (at 30 0x26 (type 30 ∷ []) ∷ []) ≡ Ok (codes "const ??")
unfolding wrappers_on_literals
const-itself = refl

-- back to the pointer itself, by a pointer, and round about in a circle that it is not in
back-to-pointer : name_with (type 30 ∷ []) (at 30 0x0F (type 20 ∷ []) ∷ []) ≡ Ok (codes "??*")
unfolding wrappers_on_literals
back-to-pointer = refl

circle : name_with (type 30 ∷ []) (at 30 0x01 (type 40 ∷ []) ∷ at 40 0x10 (type 50 ∷ []) ∷ at 50 0x0F (type 30 ∷ []) ∷ []) ≡ Ok (codes "??*&[]")
unfolding wrappers_on_literals
circle = refl

-- no type, an entry that is not there, a place inside an entry, and what is no reference
no-type : map (λ as'. name_with as' (char_at 40 ∷ [])) ([] ∷ (type 39 ∷ []) ∷ (type 41 ∷ []) ∷ ((0x49, constant 0x0B 40) ∷ []) ∷ ((0x49, dropped) ∷ []) ∷ []) ≡ Ok (codes "??") ∷ Ok (codes "??") ∷ Ok (codes "??") ∷ Ok (codes "??") ∷ Ok (codes "??") ∷ []
unfolding wrappers_on_literals
no-type = refl

-- a reference in the section is not followed, at the start and within the chain
section-reference : map (λ v. name_with ((0x49, v) ∷ []) (char_at 40 ∷ at 50 0x26 ((0x49, info_reference 40) ∷ []) ∷ [])) (info_reference 40 ∷ unit_reference 50 ∷ []) ≡ Ok (codes "??") ∷ Ok (codes "const ??") ∷ []
unfolding wrappers_on_literals
section-reference = refl

-- a place of another unit is not in the unit
other-unit : name_with (type 140 ∷ []) (at_unit 100 111 0 0x11 [] ∷ at_unit 100 140 1 0x24 (name (codes "int") ∷ []) ∷ []) ≡ Ok (codes "??")
unfolding wrappers_on_literals
other-unit = refl

-- of two types, and of two names, the first counts
first-of-two : name_with (type 40 ∷ type 50 ∷ []) (char_at 40 ∷ at 50 0x24 (name (codes "int") ∷ []) ∷ []) ≡ Ok (codes "char")
unfolding wrappers_on_literals
first-of-two = refl

first-is-no-type : name_with ((0x49, constant 0x0B 1) ∷ type 40 ∷ []) (char_at 40 ∷ []) ≡ Ok (codes "??")
unfolding wrappers_on_literals
first-is-no-type = refl

first-name : name_with (type 40 ∷ []) (at 40 0x24 (name (codes "a") ∷ name (codes "b") ∷ []) ∷ []) ≡ Ok (codes "a")
unfolding wrappers_on_literals
first-name = refl

-- each derived type, and several in a row; the name of the pointer itself plays no part
derived : map (λ n. name_with (name (codes "p") ∷ type n ∷ []) (char_at 40 ∷ at 50 0x0F (type 40 ∷ []) ∷ at 60 0x10 (type 40 ∷ []) ∷ at 70 0x01 (type 40 ∷ []) ∷ at 80 0x26 (type 90 ∷ []) ∷ at 90 0x0F (type 99 ∷ []) ∷ at 99 0x26 (type 70 ∷ []) ∷ [])) (50 ∷ 60 ∷ 70 ∷ 80 ∷ []) ≡ Ok (codes "char*") ∷ Ok (codes "char&") ∷ Ok (codes "char[]") ∷ Ok (codes "const const char[]*") ∷ []
unfolding wrappers_on_literals
derived = refl

-- a derived type that has a name goes by that
named-derived : name_with (type 50 ∷ []) (char_at 40 ∷ at 50 0x0F (type 40 ∷ name (codes "text") ∷ []) ∷ []) ≡ Ok (codes "text")
unfolding wrappers_on_literals
named-derived = refl

-- a structure, a typedef and a volatile_type without a name are unknown
unnamed : map (λ tag. name_with (type 50 ∷ []) (char_at 40 ∷ at 50 tag (type 40 ∷ []) ∷ [])) (0x13 ∷ 0x16 ∷ 0x35 ∷ 0x24 ∷ []) ≡ Ok (codes "??") ∷ Ok (codes "??") ∷ Ok (codes "??") ∷ Ok (codes "??") ∷ []
unfolding wrappers_on_literals
unnamed = refl

-- a name that is no text counts as none; an empty text is a name; so is the root's
name-no-text : name_with (type 50 ∷ []) (char_at 40 ∷ at 50 0x26 ((0x03, constant 0x0B 7) ∷ type 40 ∷ []) ∷ []) ≡ Ok (codes "const char")
unfolding wrappers_on_literals
name-no-text = refl

name-empty : name_with (type 50 ∷ []) (at 50 0x24 (name [] ∷ []) ∷ []) ≡ Ok []
unfolding wrappers_on_literals
name-empty = refl

name-of-root : name_with (type 11 ∷ []) [] ≡ Ok (codes "u.c")
unfolding wrappers_on_literals
name-of-root = refl

-- a text elsewhere
name-elsewhere : name_with (type 50 ∷ []) (at 50 0x24 ((0x03, text_reference 0x0E 6) ∷ []) ∷ []) ≡ Ok (codes "char")
unfolding wrappers_on_literals
name-elsewhere = refl

-- letters of two bytes
name-utf8 : name_with (type 50 ∷ []) (at 50 0x24 (name (0xC3 ∷ 0xA9 ∷ []) ∷ []) ∷ []) ≡ Ok (0xC3 ∷ 0xA9 ∷ [])
unfolding wrappers_on_literals
name-utf8 = refl

-- ---- what cannot be read is told at the named entry

not-utf8 : name_with (type 50 ∷ []) (at 50 0x26 (type 60 ∷ []) ∷ at 60 0x24 (name (0xFF ∷ []) ∷ []) ∷ []) ≡ Err (unreadable BaseName Info 60)
unfolding wrappers_on_literals
not-utf8 = refl

not-there : name_with (type 50 ∷ []) (at 50 0x26 (type 60 ∷ []) ∷ at 60 0x24 ((0x03, text_reference 0x0E 99) ∷ []) ∷ []) ≡ Err (unreadable Text Info 60)
unfolding wrappers_on_literals
not-there = refl

-- a name that the chain does not come to plays no part: that of the pointer, and behind a name
not-reached : name_with (name (0xFF ∷ []) ∷ type 50 ∷ []) (at 50 0x26 (name (codes "c") ∷ type 60 ∷ []) ∷ at 60 0x24 (name (0xFF ∷ []) ∷ []) ∷ []) ≡ Ok (codes "c")
unfolding wrappers_on_literals
not-reached = refl

-- pointers and references alone are refused for a name
abbrev refusals_of : ℕ → List Fault
refusals_of tag = wrapper_refusals (record { output = Default; texts = texts; entries = at 20 tag (type 60 ∷ []) ∷ at 60 0x24 (name (0xFF ∷ []) ∷ []) ∷ []; resolve_memory = []; wasm_pointer = 0 }) (at 20 tag (type 60 ∷ []))

refused-wrapped : map refusals_of (0x0F ∷ 0x10 ∷ 0x26 ∷ 0x42 ∷ []) ≡ (unreadable BaseName Info 60 ∷ []) ∷ (unreadable BaseName Info 60 ∷ []) ∷ [] ∷ [] ∷ []
unfolding wrappers_on_literals
refused-wrapped = refl

-- ---- names of wrappers

wrapper-names : map (λ tag. wrapper_name tag (codes "const char")) (0x0F ∷ 0x10 ∷ []) ≡ codes "WebAssemblyPtrWrapper<const char>" ∷ codes "WebAssemblyRefWrapper<const char>" ∷ []
wrapper-names = refl
