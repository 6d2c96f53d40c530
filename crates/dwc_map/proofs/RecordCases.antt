-- The registers, labels and memories of map files: which have a value, and which value.
use Rattle.std.proofs.Common.{◌≡◌, ℕ, pos, negsuc, List, [], ◌∷◌, Some, None, refl}
use Rattle.std.specs.Prelude.{codes, Option}
use Rattle.std.specs.FinMap as finite
use Rattle.serde_json.specs.Read.{read}
use Rattle.dwc_native.specs.Compiled.{in_register, at_frame_offset, Memory, no_memory, defined, imported}
use Rattle.dwc_isa.specs.Registers.{Registers}
use Rattle.dwc_isa.specs.ValueLabels.{LabelledRanges}
use Rattle.dwc_map.specs.MapFile.{Target, MapFunction, MapModule, target_of, map_function_of, map_module_of}
use Rattle.dwc_map.specs.MapValues.{◌>>=◌}
use Rattle.dwc_map.proofs.OnLiterals.{map_on_literals}

-- DWARF's numbers of registers by a text of a target
abbrev pub registers_told : Option Target → Option Registers
registers_told None = None
registers_told (Some t) = Some t.registers

abbrev pub registers_in : List ℕ → Option Registers
registers_in text = registers_told (read text >>= target_of)

-- where the values of labels lie by a text of a function
abbrev pub labels_told : Option MapFunction → Option LabelledRanges
labels_told None = None
labels_told (Some f) = Some f.labels

abbrev pub labels_in : List ℕ → Option LabelledRanges
labels_in text = labels_told (read text >>= map_function_of)

-- the memory by a text of a module
abbrev pub memory_told : Option MapModule → Option Memory
memory_told None = None
memory_told (Some m) = Some m.memory

abbrev pub memory_in : List ℕ → Option Memory
memory_in text = memory_told (read text >>= map_module_of)

-- ---- registers

-- no register where nothing is said
registers_default : registers_in (codes "{\"arch\":\"x86_64\"}") ≡ Some finite.empty
unfolding map_on_literals
registers_default = refl

-- an empty list
registers_none : registers_in (codes "{\"arch\":\"x86_64\",\"registers\":[]}") ≡ Some finite.empty
unfolding map_on_literals
registers_none = refl

-- two registers
registers_two : registers_in (codes "{\"arch\":\"x86_64\",\"registers\":[[1,12],[2,14]]}") ≡ Some (finite.from_entries ((1, 12) ∷ (2, 14) ∷ []))
unfolding map_on_literals
registers_two = refl

-- one number for two registers
registers_same_number : registers_in (codes "{\"arch\":\"x86_64\",\"registers\":[[1,12],[2,12]]}") ≡ Some (finite.from_entries ((1, 12) ∷ (2, 12) ∷ []))
unfolding map_on_literals
registers_same_number = refl

-- the greatest numbers
registers_last : registers_in (codes "{\"arch\":\"x86_64\",\"registers\":[[4294967295,65535]]}") ≡ Some (finite.from_entries ((4294967295, 65535) ∷ []))
unfolding map_on_literals
registers_last = refl

-- a register twice
registers_twice : registers_in (codes "{\"arch\":\"x86_64\",\"registers\":[[1,12],[1,12]]}") ≡ None
unfolding map_on_literals
registers_twice = refl

-- the first and the last are one
registers_twice_apart : registers_in (codes "{\"arch\":\"x86_64\",\"registers\":[[1,12],[2,13],[1,14]]}") ≡ None
unfolding map_on_literals
registers_twice_apart = refl

-- a register past 32 bits
register_past : registers_in (codes "{\"arch\":\"x86_64\",\"registers\":[[4294967296,0]]}") ≡ None
unfolding map_on_literals
register_past = refl

-- a number past 16 bits
register_number_past : registers_in (codes "{\"arch\":\"x86_64\",\"registers\":[[0,65536]]}") ≡ None
unfolding map_on_literals
register_number_past = refl

-- a pair of three items
register_three : registers_in (codes "{\"arch\":\"x86_64\",\"registers\":[[0,1,2]]}") ≡ None
unfolding map_on_literals
register_three = refl

-- a pair of one item
register_one : registers_in (codes "{\"arch\":\"x86_64\",\"registers\":[[0]]}") ≡ None
unfolding map_on_literals
register_one = refl

-- a register that is no pair
register_bare : registers_in (codes "{\"arch\":\"x86_64\",\"registers\":[0]}") ≡ None
unfolding map_on_literals
register_bare = refl

-- null is no list
registers_null : registers_in (codes "{\"arch\":\"x86_64\",\"registers\":null}") ≡ None
unfolding map_on_literals
registers_null = refl

-- an object is no list
registers_object : registers_in (codes "{\"arch\":\"x86_64\",\"registers\":{}}") ≡ None
unfolding map_on_literals
registers_object = refl

-- a float
register_float : registers_in (codes "{\"arch\":\"x86_64\",\"registers\":[[1,12.0]]}") ≡ None
unfolding map_on_literals
register_float = refl

-- a negative number
register_negative : registers_in (codes "{\"arch\":\"x86_64\",\"registers\":[[1,-12]]}") ≡ None
unfolding map_on_literals
register_negative = refl

-- of two lists the later counts
registers_later : registers_in (codes "{\"arch\":\"x86_64\",\"registers\":[[1,12],[1,12]],\"registers\":[[3,4]]}") ≡ Some (finite.from_entries ((3, 4) ∷ []))
unfolding map_on_literals
registers_later = refl

-- ---- labels

-- no label where nothing is said
labels_default : labels_in (codes "{\"symbol\":0,\"start\":2,\"end\":9,\"body_len\":30,\"map\":[]}") ≡ Some finite.empty
unfolding map_on_literals
labels_default = refl

-- an empty list
labels_none : labels_in (codes "{\"symbol\":0,\"start\":2,\"end\":9,\"body_len\":30,\"map\":[],\"labels\":[]}") ≡ Some finite.empty
unfolding map_on_literals
labels_none = refl

-- labels in any order, with no ranges, one, and two that overlap
labels_three : labels_in (codes "{\"symbol\":0,\"start\":2,\"end\":9,\"body_len\":30,\"map\":[],\"labels\":[[3,[[0,20,\"reg\",1]]],[0,[[0,30,\"cfa\",-16],[5,6,\"cfa\",9]]],[4294967294,[]]]}") ≡ Some (finite.from_entries ((3, record { place = in_register 1; start = 0; end = 20 } ∷ []) ∷ (0, record { place = at_frame_offset (negsuc 15); start = 0; end = 30 } ∷ record { place = at_frame_offset (pos 9); start = 5; end = 6 } ∷ []) ∷ (4294967294, []) ∷ []))
unfolding map_on_literals
labels_three = refl

-- a label twice
labels_twice : labels_in (codes "{\"symbol\":0,\"start\":2,\"end\":9,\"body_len\":30,\"map\":[],\"labels\":[[3,[]],[3,[]]]}") ≡ None
unfolding map_on_literals
labels_twice = refl

-- the first and the last are one
labels_twice_apart : labels_in (codes "{\"symbol\":0,\"start\":2,\"end\":9,\"body_len\":30,\"map\":[],\"labels\":[[3,[]],[4,[]],[3,[[0,20,\"reg\",1]]]]}") ≡ None
unfolding map_on_literals
labels_twice_apart = refl

-- a range that begins above its end is read
label_falls : labels_in (codes "{\"symbol\":0,\"start\":2,\"end\":9,\"body_len\":30,\"map\":[],\"labels\":[[3,[[9,4,\"reg\",1]]]]}") ≡ Some (finite.from_entries ((3, record { place = in_register 1; start = 9; end = 4 } ∷ []) ∷ []))
unfolding map_on_literals
label_falls = refl

-- the greatest numbers
labels_last : labels_in (codes "{\"symbol\":0,\"start\":2,\"end\":9,\"body_len\":30,\"map\":[],\"labels\":[[4294967295,[[4294967295,4294967295,\"reg\",4294967295]]]]}") ≡ Some (finite.from_entries ((4294967295, record { place = in_register 4294967295; start = 4294967295; end = 4294967295 } ∷ []) ∷ []))
unfolding map_on_literals
labels_last = refl

-- the least and the greatest offset
label_offsets : labels_in (codes "{\"symbol\":0,\"start\":2,\"end\":9,\"body_len\":30,\"map\":[],\"labels\":[[0,[[0,1,\"cfa\",-9223372036854775808],[0,1,\"cfa\",9223372036854775807]]]]}") ≡ Some (finite.from_entries ((0, record { place = at_frame_offset (negsuc 9223372036854775807); start = 0; end = 1 } ∷ record { place = at_frame_offset (pos 9223372036854775807); start = 0; end = 1 } ∷ []) ∷ []))
unfolding map_on_literals
label_offsets = refl

-- an offset past 63 bits
label_offset_past : labels_in (codes "{\"symbol\":0,\"start\":2,\"end\":9,\"body_len\":30,\"map\":[],\"labels\":[[0,[[0,1,\"cfa\",9223372036854775808]]]]}") ≡ None
unfolding map_on_literals
label_offset_past = refl

-- and one below them
label_offset_below : labels_in (codes "{\"symbol\":0,\"start\":2,\"end\":9,\"body_len\":30,\"map\":[],\"labels\":[[0,[[0,1,\"cfa\",-9223372036854775809]]]]}") ≡ None
unfolding map_on_literals
label_offset_below = refl

-- an offset that is a float
label_offset_float : labels_in (codes "{\"symbol\":0,\"start\":2,\"end\":9,\"body_len\":30,\"map\":[],\"labels\":[[0,[[0,1,\"cfa\",1.0]]]]}") ≡ None
unfolding map_on_literals
label_offset_float = refl

-- a register below 0
label_register_negative : labels_in (codes "{\"symbol\":0,\"start\":2,\"end\":9,\"body_len\":30,\"map\":[],\"labels\":[[0,[[0,1,\"reg\",-1]]]]}") ≡ None
unfolding map_on_literals
label_register_negative = refl

-- a register past 32 bits
label_register_past : labels_in (codes "{\"symbol\":0,\"start\":2,\"end\":9,\"body_len\":30,\"map\":[],\"labels\":[[0,[[0,1,\"reg\",4294967296]]]]}") ≡ None
unfolding map_on_literals
label_register_past = refl

-- another kind of place
label_kind : labels_in (codes "{\"symbol\":0,\"start\":2,\"end\":9,\"body_len\":30,\"map\":[],\"labels\":[[0,[[0,1,\"stack\",1]]]]}") ≡ None
unfolding map_on_literals
label_kind = refl

-- a kind that is no text
label_kind_null : labels_in (codes "{\"symbol\":0,\"start\":2,\"end\":9,\"body_len\":30,\"map\":[],\"labels\":[[0,[[0,1,null,1]]]]}") ≡ None
unfolding map_on_literals
label_kind_null = refl

-- a range of three items
label_three : labels_in (codes "{\"symbol\":0,\"start\":2,\"end\":9,\"body_len\":30,\"map\":[],\"labels\":[[0,[[0,1,\"reg\"]]]]}") ≡ None
unfolding map_on_literals
label_three = refl

-- a range of five items
label_five : labels_in (codes "{\"symbol\":0,\"start\":2,\"end\":9,\"body_len\":30,\"map\":[],\"labels\":[[0,[[0,1,\"reg\",1,2]]]]}") ≡ None
unfolding map_on_literals
label_five = refl

-- a start past 32 bits
label_start_past : labels_in (codes "{\"symbol\":0,\"start\":2,\"end\":9,\"body_len\":30,\"map\":[],\"labels\":[[0,[[4294967296,1,\"reg\",1]]]]}") ≡ None
unfolding map_on_literals
label_start_past = refl

-- an end below 0
label_end_negative : labels_in (codes "{\"symbol\":0,\"start\":2,\"end\":9,\"body_len\":30,\"map\":[],\"labels\":[[0,[[0,-1,\"reg\",1]]]]}") ≡ None
unfolding map_on_literals
label_end_negative = refl

-- a label past 32 bits
label_past : labels_in (codes "{\"symbol\":0,\"start\":2,\"end\":9,\"body_len\":30,\"map\":[],\"labels\":[[4294967296,[]]]}") ≡ None
unfolding map_on_literals
label_past = refl

-- a label without its list
label_alone : labels_in (codes "{\"symbol\":0,\"start\":2,\"end\":9,\"body_len\":30,\"map\":[],\"labels\":[[0]]}") ≡ None
unfolding map_on_literals
label_alone = refl

-- null is no list of labels
labels_null : labels_in (codes "{\"symbol\":0,\"start\":2,\"end\":9,\"body_len\":30,\"map\":[],\"labels\":null}") ≡ None
unfolding map_on_literals
labels_null = refl

-- nor a list of ranges
label_null : labels_in (codes "{\"symbol\":0,\"start\":2,\"end\":9,\"body_len\":30,\"map\":[],\"labels\":[[0,null]]}") ≡ None
unfolding map_on_literals
label_null = refl

-- an object is no list
labels_object : labels_in (codes "{\"symbol\":0,\"start\":2,\"end\":9,\"body_len\":30,\"map\":[],\"labels\":{}}") ≡ None
unfolding map_on_literals
labels_object = refl

-- ---- memories

-- no memory where nothing is said
memory_default : memory_in (codes "{\"functions\":[]}") ≡ Some no_memory
unfolding map_on_literals
memory_default = refl

-- no memory
memory_null : memory_in (codes "{\"functions\":[],\"memory\":null}") ≡ Some no_memory
unfolding map_on_literals
memory_null = refl

-- one of the module's own
memory_defined : memory_in (codes "{\"functions\":[],\"memory\":{\"defined\":80}}") ≡ Some (defined 80)
unfolding map_on_literals
memory_defined = refl

-- the greatest offset
memory_last : memory_in (codes "{\"functions\":[],\"memory\":{\"defined\":4294967295}}") ≡ Some (defined 4294967295)
unfolding map_on_literals
memory_last = refl

-- an offset past 32 bits
memory_past : memory_in (codes "{\"functions\":[],\"memory\":{\"defined\":4294967296}}") ≡ None
unfolding map_on_literals
memory_past = refl

-- one of another module
memory_imported : memory_in (codes "{\"functions\":[],\"memory\":{\"imported\":[0,7]}}") ≡ Some (imported 0 7)
unfolding map_on_literals
memory_imported = refl

-- one of three offsets
memory_three : memory_in (codes "{\"functions\":[],\"memory\":{\"imported\":[0,7,1]}}") ≡ None
unfolding map_on_literals
memory_three = refl

-- one of one offset
memory_one : memory_in (codes "{\"functions\":[],\"memory\":{\"imported\":[0]}}") ≡ None
unfolding map_on_literals
memory_one = refl

-- one of which an offset is past 32 bits
memory_imported_past : memory_in (codes "{\"functions\":[],\"memory\":{\"imported\":[0,4294967296]}}") ≡ None
unfolding map_on_literals
memory_imported_past = refl

-- both
memory_both : memory_in (codes "{\"functions\":[],\"memory\":{\"defined\":1,\"imported\":[0,7]}}") ≡ None
unfolding map_on_literals
memory_both = refl

-- both, though the one is no offset
memory_both_null : memory_in (codes "{\"functions\":[],\"memory\":{\"defined\":1,\"imported\":null}}") ≡ None
unfolding map_on_literals
memory_both_null = refl

-- neither
memory_neither : memory_in (codes "{\"functions\":[],\"memory\":{}}") ≡ None
unfolding map_on_literals
memory_neither = refl

-- an unknown field is passed over
memory_unknown_field : memory_in (codes "{\"functions\":[],\"memory\":{\"defined\":1,\"x\":null}}") ≡ Some (defined 1)
unfolding map_on_literals
memory_unknown_field = refl

-- of two offsets the later counts
memory_later : memory_in (codes "{\"functions\":[],\"memory\":{\"defined\":null,\"defined\":2}}") ≡ Some (defined 2)
unfolding map_on_literals
memory_later = refl

-- null is no offset
memory_offset_null : memory_in (codes "{\"functions\":[],\"memory\":{\"defined\":null}}") ≡ None
unfolding map_on_literals
memory_offset_null = refl

-- a number is no memory
memory_number : memory_in (codes "{\"functions\":[],\"memory\":80}") ≡ None
unfolding map_on_literals
memory_number = refl

-- nor is a list
memory_list : memory_in (codes "{\"functions\":[],\"memory\":[]}") ≡ None
unfolding map_on_literals
memory_list = refl
