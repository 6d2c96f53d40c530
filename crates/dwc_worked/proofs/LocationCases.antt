-- What attributes become whose value is an expression or a location list: worked cases.
use Rattle.std.proofs.Common.{◌≡◌, ℕ, negsuc, List, [], ◌∷◌, Some, None, Ok, Err, true, false, refl}
use Rattle.std.specs.Prelude.{Option, Result, map, replicate}
use Rattle.std.specs.Option.{unwrap_or}
use Rattle.dwc_base.specs.declared.records.OutputFor.TheVariants.{Default}
use Rattle.dwc_base.specs.declared.constants.TheConstants.{DW_AT_location, DW_AT_frame_base, DW_AT_byte_size}
use Rattle.dwc_base.specs.declared.section_name.SectionName.TheVariants.{Info, Loc}
use Rattle.dwc_base.specs.declared.faults.What.TheVariants.{Expression as ExpressionRead}
use Rattle.dwc_base.specs.Reading.{coded}
use Rattle.dwc_base.specs.Sections.{unreadable}
use Rattle.dwc_native.specs.Functions.{Function}
use Rattle.dwc_native.specs.Runs.{interval_of}
use Rattle.dwc_dwarf.specs.Trees.{Location, TreeValue, expression, locations}
use Rattle.dwc_native.specs.Compiled.{in_register, at_frame_offset, LabelRange, Memory, no_memory, defined}
use Rattle.dwc_native.specs.Parts.{context_label, label_alone}
use Rattle.dwc_native.specs.Placed.{Frame}
use Rattle.dwc_native.specs.BuiltExpressions.{bad_label_range, without_memory, unmapped_register}
use Rattle.dwc_rules.specs.LocationAttributes.{LocationRefusal, of_place, of_build, InForce, ListedExpression, value_of_expression, value_of_locations, read_expression, read_locations, base_of_expression, has_short_expressions}
use Rattle.dwc_worked.proofs.OnExpressions.{attributes_on_literals}
use Rattle.dwc_worked.proofs.BuiltCases.{from, of_bytes}

-- ---- an entry in a function of 30 native bytes, whose wasm offsets are 2 to 13

abbrev whole_function : List (ℕ × ℕ)
whole_function = (2, 13) ∷ []

-- two runs of it: the code of the wasm offset 5 is at 0 and again at 20, that of 11 at 10
abbrev functions : List Function
functions = record { output = Default; number = 0; symbol = Some 0; start = 2; end = 13; length = 30; entries = (0, Some 5) ∷ (10, Some 11) ∷ (20, Some 5) ∷ [] } ∷ []

-- an expression over native bytes
abbrev on : ℕ → ℕ → ℕ → List ℕ → Location
on function start end bytes = record { over = interval_of function (start, end); bytes = bytes }

abbrev frame : Memory → List (ℕ × List LabelRange) → Frame
frame memory labels = record { function = Some 0; ranges_of = λ label. unwrap_or (coded labels label) []; memory = memory }

-- label 3 in a register up to a byte, and the context in register 2
abbrev labels : ℕ → ℕ → List (ℕ × List LabelRange)
labels register end = (3, from 0 end (in_register register) ∷ []) ∷ (context_label, from 0 30 (in_register 2) ∷ []) ∷ []

abbrev at_entry : Option (List (ℕ × ℕ)) → Memory → List (ℕ × List LabelRange) → InForce
at_entry scope memory ls = record {
  surroundings = record { functions = functions; frame = Some (frame memory ls); register = coded ((1, 12) ∷ (2, 14) ∷ []) };
  scope = scope;
  base = Some (of_bytes None (0xED ∷ 0x00 ∷ 0x03 ∷ 0x9F ∷ []));
}

abbrev value : ℕ → InForce → List ℕ → Result (Option TreeValue) LocationRefusal
value name e bytes = value_of_expression name e (record { fault = unreadable ExpressionRead Info 33; bytes = bytes })

abbrev offset_18 : List ℕ
offset_18 = 0x91 ∷ 0x12 ∷ []

abbrev built_18 : List ℕ
built_18 = 0x7C ∷ 0x00 ∷ 0x23 ∷ 0x12 ∷ 0x7E ∷ 0xD0 ∷ 0x00 ∷ 0x06 ∷ 0x16 ∷ 0x0C ∷ 0xFF ∷ 0xFF ∷ 0xFF ∷ 0xFF ∷ 0x1A ∷ 0x22 ∷ []

-- a variable whose local is in a register for a part of the function has a list, for the whole of it an expression
on_a_part : value DW_AT_location (at_entry (Some whole_function) (defined 80) (labels 1 20)) offset_18 ≡ Ok (Some (locations (on 0 0 20 built_18 ∷ [])))
unfolding attributes_on_literals
on_a_part = refl

on_the_whole : value DW_AT_location (at_entry (Some whole_function) (defined 80) (labels 1 30)) offset_18 ≡ Ok (Some (expression built_18))
unfolding attributes_on_literals
on_the_whole = refl

-- a scope of two native intervals that one expression covers
on_two_intervals : value DW_AT_location (at_entry (Some ((5, 9) ∷ [])) (defined 80) (labels 1 30)) offset_18 ≡ Ok (Some (expression built_18))
unfolding attributes_on_literals
on_two_intervals = refl

-- one whose local moves has a list with an expression for each place
moving : value DW_AT_location (at_entry (Some whole_function) (defined 80) ((3, from 0 20 (in_register 1) ∷ from 20 30 (at_frame_offset (negsuc 7)) ∷ []) ∷ (context_label, from 0 30 (in_register 2) ∷ []) ∷ [])) (0xED ∷ 0x00 ∷ 0x03 ∷ 0x9F ∷ []) ≡ Ok (Some (locations (on 0 0 20 (0x5C ∷ []) ∷ on 0 20 30 (0x91 ∷ 0x78 ∷ []) ∷ [])))
unfolding attributes_on_literals
moving = refl

-- under a name that has no lists it is dropped
moving_size : value DW_AT_byte_size (at_entry (Some whole_function) (defined 80) (labels 1 20)) offset_18 ≡ Ok None
unfolding attributes_on_literals
moving_size = refl

unchanged_size : value DW_AT_byte_size (at_entry (Some whole_function) (defined 80) (labels 1 30)) offset_18 ≡ Ok (Some (expression built_18))
unfolding attributes_on_literals
unchanged_size = refl

-- a frame base is the canonical frame address, also where it is not supported; where it cannot be read it is refused
frame_base : map (value DW_AT_frame_base (at_entry None no_memory [])) ((0xED ∷ 0x00 ∷ 0x03 ∷ 0x9F ∷ []) ∷ (0x03 ∷ []) ∷ (0x91 ∷ []) ∷ [] ∷ (0x10 ∷ []) ∷ []) ≡ Ok (Some (expression (0x9C ∷ []))) ∷ Ok (Some (expression (0x9C ∷ []))) ∷ Ok (Some (expression (0x9C ∷ []))) ∷ Ok (Some (expression (0x9C ∷ []))) ∷ Err (of_place (unreadable ExpressionRead Info 33)) ∷ []
unfolding attributes_on_literals
frame_base = refl

-- what is not supported is dropped, and what cannot be read refused; a simple expression is its code, also without a scope, and
-- nothing is dropped
without_scope : map (value DW_AT_location (at_entry None no_memory [])) ((0x03 ∷ []) ∷ (0x28 ∷ 1 ∷ 0 ∷ 0x10 ∷ 0x23 ∷ 0x9F ∷ []) ∷ (0x31 ∷ 0x9F ∷ []) ∷ [] ∷ offset_18 ∷ (0x31 ∷ 0x91 ∷ []) ∷ []) ≡ Ok None ∷ Ok None ∷ Ok (Some (expression (0x31 ∷ 0x9F ∷ []))) ∷ Ok None ∷ Ok None ∷ Err (of_place (unreadable ExpressionRead Info 33)) ∷ []
unfolding attributes_on_literals
without_scope = refl

-- an empty scope, one without native code, and one in which the local has no place give nothing
nowhere : map (λ e. value DW_AT_location e offset_18) (at_entry (Some []) no_memory (labels 9 30) ∷ at_entry (Some ((7, 8) ∷ [])) no_memory (labels 9 30) ∷ at_entry (Some whole_function) no_memory (labels 9 0) ∷ []) ≡ Ok None ∷ Ok None ∷ Ok None ∷ []
unfolding attributes_on_literals
nowhere = refl

-- ---- refusals, in their order

-- no memory, where the local and the context have places
no_memory_there : value DW_AT_location (at_entry (Some whole_function) no_memory (labels 1 20)) offset_18 ≡ Err (of_build without_memory)
unfolding attributes_on_literals
no_memory_there = refl

-- a register without a number
no_number : value DW_AT_location (at_entry (Some whole_function) (defined 80) (labels 9 20)) offset_18 ≡ Err (of_build (unmapped_register 9))
unfolding attributes_on_literals
no_number = refl

-- on one byte the memory comes first; of registers that of the first part
memory_first : value DW_AT_location (at_entry (Some whole_function) no_memory (labels 9 20)) offset_18 ≡ Err (of_build without_memory)
unfolding attributes_on_literals
memory_first = refl

first_register : value DW_AT_location (at_entry (Some whole_function) (defined 0) ((3, from 0 20 (in_register 9) ∷ []) ∷ (context_label, from 0 30 (in_register 8) ∷ []) ∷ [])) offset_18 ≡ Err (of_build (unmapped_register 9))
unfolding attributes_on_literals
first_register = refl

-- earlier bytes come before later ones
first_byte : value DW_AT_location (at_entry (Some whole_function) (defined 0) ((3, from 0 10 (in_register 1) ∷ from 10 20 (in_register 9) ∷ []) ∷ (context_label, from 0 5 (in_register 8) ∷ from 5 30 (in_register 7) ∷ []) ∷ [])) offset_18 ≡ Err (of_build (unmapped_register 8))
unfolding attributes_on_literals
first_byte = refl

-- a range that begins above its end comes before both, also where nothing would be built; and only of a label that is needed
bad_range_first : map (λ bytes. value DW_AT_location (at_entry (Some ((7, 8) ∷ [])) no_memory ((3, from 9 4 (in_register 9) ∷ []) ∷ (5, from 9 4 (in_register 9) ∷ []) ∷ [])) bytes) (offset_18 ∷ (0xED ∷ 0 ∷ 5 ∷ 0x91 ∷ 0x12 ∷ 0x22 ∷ []) ∷ (0xED ∷ 0 ∷ 6 ∷ []) ∷ (0x31 ∷ []) ∷ []) ≡ Err (of_build (bad_label_range 3)) ∷ Err (of_build (bad_label_range 5)) ∷ Ok None ∷ Ok (Some (expression (0x31 ∷ []))) ∷ []
unfolding attributes_on_literals
bad_range_first = refl

-- ---- location lists

abbrev listed : ℕ → ℕ → List ℕ → ListedExpression
listed start end bytes = record { start = start; end = end; given = record { fault = unreadable ExpressionRead Loc start; bytes = bytes } }

abbrev list : InForce → List ListedExpression → Result (Option TreeValue) LocationRefusal
list e xs = value_of_locations e xs

-- each interval with what is built for it; bytes alone are copied; what is not supported is left out
of_intervals : list (at_entry None (defined 80) (labels 1 25)) (listed 2 13 offset_18 ∷ listed 5 9 (0x31 ∷ 0x9F ∷ []) ∷ listed 2 13 (0x03 ∷ []) ∷ listed 7 8 offset_18 ∷ listed 5 9 (0xED ∷ 0 ∷ 3 ∷ 0x9F ∷ []) ∷ []) ≡ Ok (Some (locations (on 0 0 25 built_18 ∷ on 0 0 10 (0x31 ∷ 0x9F ∷ []) ∷ on 0 20 30 (0x31 ∷ 0x9F ∷ []) ∷ on 0 0 10 (0x5C ∷ []) ∷ on 0 20 25 (0x5C ∷ []) ∷ [])))
unfolding attributes_on_literals
of_intervals = refl

-- an expression without operations is built to nothing on the joined bytes
of_nothing : list (at_entry None no_memory []) (listed 5 9 [] ∷ []) ≡ Ok (Some (locations (on 0 0 10 [] ∷ on 0 20 30 [] ∷ [])))
unfolding attributes_on_literals
of_nothing = refl

-- a list of which nothing is supported is dropped, and so is one without intervals; one of which nothing is built is empty
of_no_intervals : map (list (at_entry None no_memory [])) ([] ∷ (listed 2 13 (0x03 ∷ []) ∷ listed 5 9 (0xED ∷ 1 ∷ []) ∷ []) ∷ (listed 2 13 (0x03 ∷ []) ∷ listed 2 13 (0xED ∷ 0 ∷ 3 ∷ 0x9F ∷ []) ∷ []) ∷ []) ≡ Ok None ∷ Ok None ∷ Ok (Some (locations [])) ∷ []
unfolding attributes_on_literals
of_no_intervals = refl

-- intervals come in order, each compiled and built before the next
list_refused : map (list (at_entry None no_memory (labels 1 30))) ((listed 2 13 (0x10 ∷ []) ∷ listed 5 9 offset_18 ∷ []) ∷ (listed 2 13 offset_18 ∷ listed 5 9 (0x10 ∷ []) ∷ []) ∷ (listed 2 13 (0x31 ∷ []) ∷ listed 5 9 (0x10 ∷ []) ∷ []) ∷ []) ≡ Err (of_place (unreadable ExpressionRead Loc 2)) ∷ Err (of_build without_memory) ∷ Err (of_place (unreadable ExpressionRead Loc 5)) ∷ []
unfolding attributes_on_literals
list_refused = refl

-- ---- entries that are wrapped, frame bases, labels and long expressions

-- what is read and not built is refused only where it cannot be read
read_alone : map (read_expression DW_AT_location (at_entry (Some whole_function) no_memory (labels 9 30))) (map (λ bs. record { fault = unreadable ExpressionRead Info 33; bytes = bs }) (offset_18 ∷ (0x03 ∷ []) ∷ (0x91 ∷ []) ∷ [])) ≡ Ok tt ∷ Ok tt ∷ Err (of_place (unreadable ExpressionRead Info 33)) ∷ []
unfolding attributes_on_literals
read_alone = refl

read_lists : map (read_locations (at_entry None no_memory (labels 9 30))) ((listed 2 13 offset_18 ∷ []) ∷ (listed 2 13 offset_18 ∷ listed 5 9 (0x91 ∷ []) ∷ []) ∷ []) ≡ Ok tt ∷ Err (of_place (unreadable ExpressionRead Loc 5)) ∷ []
unfolding attributes_on_literals
read_lists = refl

frame_bases : map base_of_expression ((0xED ∷ 0x00 ∷ 0x03 ∷ 0x9F ∷ []) ∷ (0x03 ∷ []) ∷ (0x10 ∷ []) ∷ (0x91 ∷ 0x00 ∷ []) ∷ []) ≡ Some (label_alone 3) ∷ None ∷ None ∷ None ∷ []
unfolding attributes_on_literals
frame_bases = refl

-- an expression of a list has at most 65,535 bytes
short : map has_short_expressions (locations (on 0 0 10 (replicate 65535 0x96) ∷ []) ∷ locations (on 0 0 10 [] ∷ on 0 10 20 (replicate 65536 0x96) ∷ []) ∷ expression (replicate 65536 0x96) ∷ []) ≡ true ∷ false ∷ true ∷ []
short = refl
