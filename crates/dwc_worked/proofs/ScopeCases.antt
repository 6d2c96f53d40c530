-- What is in force at the entries of a small tree, stacks by depth, and the lists of a unit with bases of its own.
use Rattle.std.proofs.Common.{◌≡◌, ℕ, pos, List, [], ◌∷◌, Some, None, true, false, refl}
use Rattle.std.specs.Prelude.{drop, zip, Option, map, option_map, ℤ, Bool}
use Rattle.dwc_base.specs.declared.records.Address.TheVariants.{Constant}
use Rattle.dwc_base.specs.declared.records.Endian.TheVariants.{Little}
use Rattle.dwc_base.specs.declared.section_name.SectionName.TheVariants.{Abbrev, Addr, Info, Rnglists}
use Rattle.dwc_base.specs.declared.faults.What.TheVariants.{Entry as EntryRead, RangeList}
use Rattle.dwc_base.specs.declared.constants.TheConstants.{DW_AT_frame_base, DW_FORM_data4, DW_TAG_compile_unit, DW_TAG_inlined_subroutine, DW_TAG_lexical_block, DW_TAG_subprogram, DW_TAG_variable}
use Rattle.dwc_base.specs.Sections.{Sections, Fault, unreadable}
use Rattle.dwc_dwarf.specs.Values.{constant, expression, range_index}
use Rattle.dwc_rules.specs.Kept.{Placed}
use Rattle.dwc_dwarf.specs.ReadUnits.{units}
use Rattle.dwc_base.specs.ToldFiles.{bare_file}
use Rattle.dwc_dwarf.specs.Trees.{TreeEntry, TreeValue}
use Rattle.dwc_dwarf.specs.Lists.{list_source, ranges_of_value}
use Rattle.dwc_rules.specs.CarriedUnits.{kept_of}
use Rattle.dwc_rules.specs.ReachedEntries.{info_faults}
use Rattle.dwc_rules.specs.Scopes.{lineage, scope_in_force, frame_in_force, base_in_force, given_by, left_for, top_of, top_at, scope_given}
use Rattle.dwc_rules.specs.ScopesCarried.{covered_intervals}
use Rattle.dwc_native.specs.ScopesKept.{source_of_byte, cover_byte}
use Rattle.dwc_rules.specs.RangeRefusals.{subprogram_faults}
use Rattle.dwc_native.specs.Compiled.{nothing_told}
use Rattle.dwc_worked.proofs.OnLists.{ranges_on_literals}
use Rattle.dwc_worked.proofs.SmallLists.{at_unit}
use Rattle.dwc_worked.proofs.RunCases.{two_runs}
use Rattle.dwc_worked.proofs.RangeCases.{small_functions, small_source, low, long, listed, said_low, said_high, said_ranges, in_small}

-- ---- scopes, frames and frame bases

-- A root that has all three; in it a subprogram that begins in a function, with a frame base that is supported. In that
-- an inlined routine with an interval, in that a variable; a block with an empty list, in that a subprogram that begins
-- nowhere, with a frame base that is not supported, and in that a block with a position alone. And beside the first a
-- variable.
abbrev pub a_tree : List Placed
a_tree =
    at_unit 0 11 0 DW_TAG_compile_unit (low 2 ∷ long 11 ∷ (DW_AT_frame_base, expression (1 ∷ [])) ∷ [])
    ∷ at_unit 0 20 1 DW_TAG_subprogram (low 5 ∷ long 2 ∷ (DW_AT_frame_base, expression (2 ∷ [])) ∷ (DW_AT_frame_base, expression (3 ∷ [])) ∷ [])
    ∷ at_unit 0 30 2 DW_TAG_inlined_subroutine (low 6 ∷ long 3 ∷ (DW_AT_frame_base, constant DW_FORM_data4 7) ∷ []) ∷ at_unit 0 40 3 DW_TAG_variable []
    ∷ at_unit 0 50 2 DW_TAG_lexical_block (listed 24 ∷ []) ∷ at_unit 0 60 3 DW_TAG_subprogram (low 0 ∷ long 4 ∷ (DW_AT_frame_base, expression []) ∷ []) ∷ at_unit 0 70 4 DW_TAG_lexical_block (low 6 ∷ [])
    ∷ at_unit 0 80 1 DW_TAG_variable [] ∷ []

-- the first byte of an expression stands for what it becomes; without a byte it is not supported
abbrev pub first_byte : List ℕ → Option ℕ
first_byte [] = None
first_byte (b ∷ bs) = Some b

abbrev pub in_force : Placed → Option (List (ℕ × ℕ)) × Option ℕ × Option ℕ
in_force p = (scope_in_force small_source small_functions (lineage a_tree p), option_map (λ f. f.number) (frame_in_force small_source small_functions (lineage a_tree p)), base_in_force first_byte (lineage a_tree p))

in_force-each :
    map in_force a_tree
    ≡ (None, None, None) ∷ (Some ((2, 13) ∷ []), Some 0, Some 2) ∷ (Some ((6, 9) ∷ []), Some 0, Some 2) ∷ (Some ((6, 9) ∷ []), Some 0, Some 2) ∷ (Some [], Some 0, Some 2) ∷ (Some [], Some 0, Some 2) ∷ (Some [], Some 0, Some 2)
    ∷ (None, None, None) ∷ []
unfolding ranges_on_literals
in_force-each = refl

-- ---- stacks by depth

abbrev pub three_deep : List (ℤ × ℕ)
three_deep = (pos 1, 7) ∷ (pos 2, 8) ∷ (pos 3, 9) ∷ []

left-each : map (λ d. map (λ g. g.1) (left_for d three_deep)) (pos 1 ∷ pos 2 ∷ pos 3 ∷ pos 4 ∷ []) ≡ [] ∷ (7 ∷ []) ∷ (7 ∷ 8 ∷ []) ∷ (7 ∷ 8 ∷ 9 ∷ []) ∷ []
left-each = refl

-- from the top alone: below a lower depth nothing is dropped
left-top : left_for {X = ℕ} (pos 2) ((pos 5, 7) ∷ (pos 1, 8) ∷ (pos 2, 9) ∷ []) ≡ (pos 5, 7) ∷ (pos 1, 8) ∷ []
left-top = refl

tops : map (λ d. top_at d three_deep) (pos 2 ∷ pos 3 ∷ []) ≡ None ∷ Some 9 ∷ []
tops = refl

top-none : top_of {X = ℕ} [] ≡ None
top-none = refl

-- the stack of scopes at the variable in the inlined routine: the nearest is on top
stack-scopes : given_by (scope_given small_source small_functions) (lineage a_tree (at_unit 0 40 3 DW_TAG_variable [])) ≡ (pos 1, (2, 13) ∷ []) ∷ (pos 2, (6, 9) ∷ []) ∷ []
unfolding ranges_on_literals
stack-scopes = refl

-- each entry's stack follows from that of the entry before
abbrev pub follows : Placed × Placed → List (ℤ × List (ℕ × ℕ)) × List (ℤ × List (ℕ × ℕ))
follows p = (left_for (pos p.1.entry.depth) (given_by (scope_given small_source small_functions) (lineage a_tree p.0)), given_by (scope_given small_source small_functions) (drop 1 (lineage a_tree p.1)))

stacks-follow : map (λ p. (follows p).0) (zip a_tree (drop 1 a_tree)) ≡ map (λ p. (follows p).1) (zip a_tree (drop 1 a_tree))
unfolding ranges_on_literals
stacks-follow = refl

-- ---- what is covered

sources : map (source_of_byte two_runs) (0 ∷ 5 ∷ 7 ∷ 8 ∷ 15 ∷ 23 ∷ 29 ∷ []) ≡ None ∷ Some 12 ∷ Some 12 ∷ None ∷ Some 17 ∷ Some 12 ∷ None ∷ []
sources = refl

abbrev pub said_entry : List (ℕ × TreeValue) → TreeEntry
said_entry attributes = record { depth = 1; tag = DW_TAG_lexical_block; attributes = attributes }

abbrev pub covers : List (ℕ × TreeValue) → List Bool
covers attributes = map (cover_byte (covered_intervals (said_entry attributes)) 0) (4 ∷ 5 ∷ 22 ∷ 23 ∷ 26 ∷ [])

covers-each : map covers ((said_low 5 ∷ said_high 18 ∷ []) ∷ (said_ranges (in_small 5 23 ∷ in_small 26 30 ∷ []) ∷ []) ∷ (said_low 5 ∷ []) ∷ [] ∷ [])
    ≡ (false ∷ true ∷ true ∷ false ∷ false ∷ []) ∷ (false ∷ true ∷ true ∷ false ∷ true ∷ []) ∷ (false ∷ false ∷ false ∷ false ∷ false ∷ []) ∷ (false ∷ false ∷ false ∷ false ∷ false ∷ []) ∷ []
covers-each = refl

-- ---- a unit with bases of its own

-- A root with a low_pc by an index, where its addresses and its range lists begin, and subprograms with range lists by an
-- index: the first of an offset pair, the second of a start by an index and a length.
abbrev pub bytes_of_unit : ℕ → ℕ → Sections
bytes_of_unit index last = record {
  order = Little;
  bytes = λ name. elim name [
    | Abbrev ↦ 0x01 ∷ 0x11 ∷ 0x01 ∷ 0x11 ∷ 0x1B ∷ 0x73 ∷ 0x17 ∷ 0x74 ∷ 0x17 ∷ 0x00 ∷ 0x00 ∷ 0x02 ∷ 0x2E ∷ 0x00 ∷ 0x55 ∷ 0x23 ∷ 0x00 ∷ 0x00 ∷ 0x00 ∷ []
    | Info ↦ 0x17 ∷ 0x00 ∷ 0x00 ∷ 0x00 ∷ 0x05 ∷ 0x00 ∷ 0x01 ∷ 0x04 ∷ 0x00 ∷ 0x00 ∷ 0x00 ∷ 0x00 ∷ 0x01 ∷ 0x00 ∷ 0x04 ∷ 0x00 ∷ 0x00 ∷ 0x00 ∷ 0x0C ∷ 0x00 ∷ 0x00 ∷ 0x00 ∷ 0x02 ∷ 0x00 ∷ 0x02 ∷ index ∷ last ∷ []
    | Addr ↦ 0xEE ∷ 0xEE ∷ 0xEE ∷ 0xEE ∷ 0x05 ∷ 0x00 ∷ 0x00 ∷ 0x00 ∷ []
    | Rnglists ↦ 0 ∷ 0 ∷ 0 ∷ 0 ∷ 0 ∷ 0 ∷ 0 ∷ 0 ∷ 0 ∷ 0 ∷ 0 ∷ 0 ∷ 0x08 ∷ 0x00 ∷ 0x00 ∷ 0x00 ∷ 0x0C ∷ 0x00 ∷ 0x00 ∷ 0x00 ∷ 0x04 ∷ 0x00 ∷ 0x01 ∷ 0x00 ∷ 0x03 ∷ 0x00 ∷ 0x02 ∷ 0x00 ∷ []
    | _ ↦ []
  ];
  relocations = λ name. [];
}

unit-lists : map (λ u. map (λ i. (ranges_of_value (list_source (bytes_of_unit 1 0) u.header) 22 (range_index i)).items) (0 ∷ 1 ∷ [])) (units (bytes_of_unit 1 0)).items
    ≡ ((record { begin = Constant 5; end = Constant 6 } ∷ []) ∷ (record { begin = Constant 5; end = Constant 7 } ∷ []) ∷ []) ∷ []
unfolding ranges_on_literals
unit-lists = refl

-- the second shows code by its start, and keeps its root
unit-kept : map (λ p. p.entry.offset) (kept_of (record { sections = bytes_of_unit 1 0; functions = small_functions; told = nothing_told; file = bare_file 0; compressed = None; version = 4 })).kept ≡ 12 ∷ 24 ∷ []
unfolding ranges_on_literals
unit-kept = refl

-- an index past the end of its section is told at the subprogram, before what follows it
abbrev pub faults_of : Sections → List Fault
faults_of s = info_faults (λ h. subprogram_faults (list_source s h)) s

unit-faults : map (λ i. faults_of (bytes_of_unit i 0)) (1 ∷ 9 ∷ []) ≡ [] ∷ (unreadable RangeList Info 24 ∷ []) ∷ []
unfolding ranges_on_literals
unit-faults = refl

unit-faults-order : faults_of (bytes_of_unit 9 3) ≡ unreadable RangeList Info 24 ∷ unreadable EntryRead Info 26 ∷ []
unfolding ranges_on_literals
unit-faults-order = refl
