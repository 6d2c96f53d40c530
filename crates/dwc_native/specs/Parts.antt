-- What an expression of the input compiles to: parts, in which locals, reads of memory and jumps stand apart from operations that
-- stay as they are. (DWARF 4 and 5, section 2.5; what is supported is this project's own choice.)
use Rattle.std.specs.Prelude.{ℕ, ◌==◌, pos, nat_abs, List, [], ◌∷◌, ◌++◌, map, length, drop, Bool, true, false, nat_lt, nat_le, int_lt, int_le, not, ◌&&◌, ◌||◌, if◌then◌else◌, Option, Some, None, is_some, Result, Ok, Err}
use Rattle.std.specs.List.{list_all, list_any, filter_map, flat_map, last_or}
use Rattle.dwc_base.specs.Reading.{coded}
use Rattle.dwc_base.specs.Listing.{Listing}
use Rattle.dwc_dwarf.specs.Values.{is_one_of}
use Rattle.dwc_base.specs.NumberBytes.{uleb_bytes}
use Rattle.dwc_dwarf.specs.Operations.{Operation, operations, target}
use Rattle.dwc_base.specs.declared.constants.TheConstants.{DW_OP_deref, DW_OP_const1u, DW_OP_const1s, DW_OP_const2u, DW_OP_const2s, DW_OP_const4u, DW_OP_const4s, DW_OP_const8u, DW_OP_const8s, DW_OP_constu, DW_OP_consts, DW_OP_dup, DW_OP_drop, DW_OP_over, DW_OP_pick, DW_OP_swap, DW_OP_rot, DW_OP_xderef, DW_OP_abs, DW_OP_and, DW_OP_div, DW_OP_minus, DW_OP_mod, DW_OP_mul, DW_OP_neg, DW_OP_not, DW_OP_or, DW_OP_plus, DW_OP_plus_uconst, DW_OP_shl, DW_OP_shr, DW_OP_shra, DW_OP_xor, DW_OP_bra, DW_OP_eq, DW_OP_ge, DW_OP_gt, DW_OP_le, DW_OP_lt, DW_OP_ne, DW_OP_skip, DW_OP_lit0, DW_OP_lit31, DW_OP_fbreg, DW_OP_piece, DW_OP_deref_size, DW_OP_xderef_size, DW_OP_nop, DW_OP_bit_piece, DW_OP_stack_value, DW_OP_WASM_location}

-- A part: bytes that stay; the value of a label, or, trailing, the label's place itself; an address in linear memory made one of
-- the native code; a jump to where an operation began, on a condition or not; and where such a jump arrives.
pub data Part : Type 0 where
  code : List ℕ → Part
  local : ℕ → Bool → Part
  dereference : Part
  jump : Bool → ℕ → Part
  landing_pad : ℕ → Part

-- the parts of an expression, and whether its result is an address in linear memory
pub record CompiledParts : Type 0 where
  pub parts : List Part
  pub need_deref : Bool

-- the label under which a code generator tells where the context of the module lies
abbrev pub context_label : ℕ
context_label = 0xFFFFFFFE

-- ---- what becomes of an operation, by its code

-- It loads a local, adds to the frame base, jumps on a condition or not, reads linear memory, shifts to the right, or stays.
pub data Rule : Type 0 where
  loads_local : Rule
  adds_to_frame_base : Rule
  jumps : Bool → Rule
  reads_memory : Rule
  shifts_right : Rule
  stays : Rule

-- the rules of those that do not stay
abbrev pub rules : List (ℕ × Rule)
rules =
    (DW_OP_WASM_location, loads_local) ∷ (DW_OP_fbreg, adds_to_frame_base) ∷ (DW_OP_bra, jumps true) ∷ (DW_OP_skip, jumps false)
    ∷ (DW_OP_deref, reads_memory) ∷ (DW_OP_deref_size, reads_memory) ∷ (DW_OP_xderef, reads_memory) ∷ (DW_OP_xderef_size, reads_memory)
    ∷ (DW_OP_shr, shifts_right) ∷ (DW_OP_shra, shifts_right) ∷ []

-- the operations that stay as they are, but for the literals
abbrev pub codes_that_stay : List ℕ
codes_that_stay =
    DW_OP_const1u ∷ DW_OP_const1s ∷ DW_OP_const2u ∷ DW_OP_const2s ∷ DW_OP_const4u ∷ DW_OP_const4s ∷ DW_OP_const8u ∷ DW_OP_const8s ∷ DW_OP_constu ∷ DW_OP_consts
    ∷ DW_OP_dup ∷ DW_OP_drop ∷ DW_OP_over ∷ DW_OP_pick ∷ DW_OP_swap ∷ DW_OP_rot ∷ DW_OP_abs ∷ DW_OP_and ∷ DW_OP_div ∷ DW_OP_minus ∷ DW_OP_mod ∷ DW_OP_mul ∷ DW_OP_neg ∷ DW_OP_not
    ∷ DW_OP_or ∷ DW_OP_plus ∷ DW_OP_plus_uconst ∷ DW_OP_shl ∷ DW_OP_xor ∷ DW_OP_eq ∷ DW_OP_ge ∷ DW_OP_gt ∷ DW_OP_le ∷ DW_OP_lt ∷ DW_OP_ne ∷ DW_OP_piece ∷ DW_OP_bit_piece ∷ DW_OP_nop ∷ DW_OP_stack_value ∷ []

-- the rule of a code; none where it is not supported
abbrev pub rule_of : ℕ → Option Rule
rule_of opcode = if is_one_of codes_that_stay opcode || (nat_le DW_OP_lit0 opcode && nat_le opcode DW_OP_lit31) then Some stays else coded rules opcode

-- ---- what is supported

-- Whether an operation is supported by its rule, in an expression of a length, with a frame base or without: the location of a
-- local is of kind 0 and below the label of the context, and a jump stays in the expression.
abbrev pub is_supported_by : Option Rule → Bool → ℕ → Operation → Bool
is_supported_by None has_base size o = false
is_supported_by (Some loads_local) has_base size o = (o.first == 0) && nat_lt o.second context_label
is_supported_by (Some adds_to_frame_base) has_base size o = has_base
is_supported_by (Some (jumps conditionally)) has_base size o = not (int_lt (target o) (pos 0)) && int_le (target o) (pos size)
is_supported_by (Some _) has_base size o = true

-- whether an operation is supported
abbrev pub is_supported : Bool → ℕ → Operation → Bool
is_supported has_base size o = is_supported_by (rule_of o.opcode) has_base size o

-- whether the first bytes of an operation that is cut short make it unsupported before it ends
abbrev pub is_unsupported_early : Bool → List ℕ → Bool
is_unsupported_early has_base [] = false
is_unsupported_early has_base (opcode ∷ []) = (opcode == DW_OP_fbreg) && not has_base
is_unsupported_early has_base (opcode ∷ kind ∷ bytes) = ((opcode == DW_OP_fbreg) && not has_base) || ((opcode == DW_OP_WASM_location) && not (kind == 0))

-- where an operation jumps to by its rule, if it jumps
abbrev pub jump_by : Option Rule → Operation → Option ℕ
jump_by (Some (jumps conditionally)) o = Some (nat_abs (target o))
jump_by _ o = None

abbrev pub jump_target : Operation → Option ℕ
jump_target o = jump_by (rule_of o.opcode) o

-- the places that jumps go to
abbrev pub targets : List Operation → List ℕ
targets os = filter_map jump_target os

-- each jump goes to where an operation begins, or to the end
abbrev pub has_whole_jumps : ℕ → List Operation → Bool
has_whole_jumps size os = list_all (is_one_of (size ∷ map (λ o. o.place) os)) (targets os)

-- ---- the parts

-- bytes in front of parts, joined with those that stand there
abbrev pub with_code : List ℕ → List Part → List Part
with_code bytes (code c ∷ ps) = code (bytes ++ c) ∷ ps
with_code bytes ps = code bytes ∷ ps

-- parts with neighbouring bytes joined
abbrev pub joined : List Part → List Part
joined [] = []
joined (code c ∷ ps) = with_code c (joined ps)
joined (p ∷ ps) = p ∷ joined ps

-- a frame base's parts where its value is wanted: no label is trailing
abbrev pub as_value : Part → Part
as_value (local label trailing) = local label false
as_value p = p

-- those of a frame base, if there is one
abbrev pub base_values : Option CompiledParts → List Part
base_values None = []
base_values (Some x) = map as_value x.parts

-- Before a shift to the right the value, of 32 bits, is moved to the upper half of 64, and the count raised as much:
-- plus_uconst 32, swap, const1u 32, shl, swap.
abbrev pub moved_up : List ℕ
moved_up = DW_OP_plus_uconst ∷ 32 ∷ DW_OP_swap ∷ DW_OP_const1u ∷ 32 ∷ DW_OP_shl ∷ DW_OP_swap ∷ []

-- the parts of an operation, by its rule
abbrev pub parts_by : Option Rule → Option CompiledParts → Operation → List Part
parts_by None base o = []
parts_by (Some loads_local) base o = local o.second false ∷ []
parts_by (Some adds_to_frame_base) base o = base_values base ++ code (DW_OP_plus_uconst ∷ uleb_bytes o.first) ∷ []
parts_by (Some (jumps conditionally)) base o = jump conditionally (nat_abs (target o)) ∷ []
parts_by (Some reads_memory) base o = dereference ∷ code o.bytes ∷ []
parts_by (Some shifts_right) base o = code (moved_up ++ o.bytes) ∷ []
parts_by (Some stays) base o = code o.bytes ∷ []

abbrev pub parts_of : Option CompiledParts → Operation → List Part
parts_of base o = parts_by (rule_of o.opcode) base o

-- a landing pad at a place that a jump goes to
abbrev pub pad_at : List ℕ → ℕ → List Part
pad_at places place = if is_one_of places place then landing_pad place ∷ [] else []

-- the parts of operations, each behind its landing pad
abbrev pub parts_behind_pads : Option CompiledParts → List ℕ → List Operation → List Part
parts_behind_pads base places os = flat_map (λ o. pad_at places o.place ++ parts_of base o) os

-- The old format: an expression that begins with plus_uconst adds to the frame base, where one is given.
abbrev pub old_format : Option CompiledParts → List Operation → List Part
old_format base [] = []
old_format base (o ∷ os) = if o.opcode == DW_OP_plus_uconst then base_values base else []

-- whether the result is an address behind a last operation: it is where there is one that does not make it a value
abbrev pub is_address_behind : Option Operation → Bool
is_address_behind None = false
is_address_behind (Some o) = not (o.opcode == DW_OP_stack_value)

abbrev pub leaves_address : List Operation → Bool
leaves_address os = is_address_behind (last_or None os)

-- the place of a label, whole
abbrev pub label_alone : ℕ → CompiledParts
label_alone label = record { parts = local label true ∷ []; need_deref = false }

-- the local of an expression that is one local and stack_value
abbrev pub lone_local : List Operation → Option ℕ
lone_local (o ∷ end ∷ []) = if (o.opcode == DW_OP_WASM_location) && (end.opcode == DW_OP_stack_value) then Some o.second else None
lone_local _ = None

-- what supported operations of an expression of a length compile to
abbrev pub compiled_operations : Option CompiledParts → ℕ → List Operation → CompiledParts
compiled_operations base size os = elim (lone_local os) [
  | Some label ↦ label_alone label
  | None ↦ record { parts = joined (old_format base os ++ (parts_behind_pads base (targets os) os ++ pad_at (targets os) size)); need_deref = leaves_address os }
]

-- whether a part is a jump
abbrev pub is_jump : Part → Bool
is_jump (jump conditionally place) = true
is_jump _ = false

-- whether some part of a frame base is
abbrev pub holds_jump : Option CompiledParts → Bool
holds_jump None = false
holds_jump (Some x) = list_any is_jump x.parts

-- what supported operations of an expression compile to, behind which there may be one that cannot be read
abbrev pub compiled_behind : Option CompiledParts → List ℕ → List Operation → Option ℕ → Result (Option CompiledParts) ℕ
compiled_behind base bytes os (Some place) = if is_unsupported_early (is_some base) (drop place bytes) then Ok None else Err place
compiled_behind base bytes os None = if has_whole_jumps (length bytes) os then Ok (Some (compiled_operations base (length bytes) os)) else Ok None

-- what a listing of operations compiles to
abbrev pub compiled_listing : Option CompiledParts → List ℕ → Listing ℕ Operation → Result (Option CompiledParts) ℕ
compiled_listing base bytes l = if list_all (is_supported (is_some base) (length bytes)) l.items then compiled_behind base bytes l.items l.fault else Ok None

-- What an expression compiles to, on the frame base that is given: its parts, or nothing where it is not supported; or the place
-- of an operation that cannot be read. What comes first in the order of bytes decides, and jumps into operations come last.
unfoldable pub compiled : Option CompiledParts → List ℕ → Result (Option CompiledParts) ℕ
compiled base bytes = if holds_jump base then Ok None else compiled_listing base bytes (operations bytes)

-- the bytes of parts that are bytes alone
abbrev pub single_code : List Part → Option (List ℕ)
single_code (code c ∷ []) = Some c
single_code _ = None

-- an expression that is bytes alone, or nothing
abbrev pub are_simple : List Part → Bool
are_simple [] = true
are_simple (p ∷ ps) = is_some (single_code (p ∷ ps))

abbrev pub is_simple : CompiledParts → Bool
is_simple x = are_simple x.parts
