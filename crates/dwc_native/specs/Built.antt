-- The bytes that parts become where the values lie at given places. (DWARF 4 and 5, sections 2.5 and 2.6.1.1.)
use Rattle.std.specs.Prelude.{ℕ, ◌+◌, ◌^◌, ◌==◌, ℤ, pos, ◌-ℤ◌, unsigned_abs, List, [], ◌∷◌, ◌++◌, length, Bool, true, false, nat_lt, int_lt, int_le, not, ◌&&◌, ◌||◌, if◌then◌else◌, Option, Some, None}
use Rattle.std.specs.Int.{int_rem_euclid}
use Rattle.std.specs.Option.{unwrap_or}
use Rattle.dwc_native.specs.Compiled.{Place, in_register, at_frame_offset, Memory, defined, imported}
use Rattle.dwc_base.specs.NumberBytes.{low_bytes, uleb_bytes, sleb_bytes}
use Rattle.dwc_native.specs.Parts.{Part, code, local, dereference, jump, landing_pad, context_label}
use Rattle.dwc_base.specs.declared.constants.TheConstants.{DW_OP_deref, DW_OP_const4u, DW_OP_consts, DW_OP_swap, DW_OP_and, DW_OP_plus, DW_OP_bra, DW_OP_skip, DW_OP_reg0, DW_OP_breg0, DW_OP_regx, DW_OP_fbreg, DW_OP_bregx}

-- Where parts are built: the places of labels, the DWARF numbers of the code generator's registers, and the linear memory. What
-- is not there is refused before anything is built.
pub record Setting : Type 0 where
  pub place : ℕ → Option Place
  pub register : ℕ → Option ℕ
  pub memory : Memory

-- the DWARF number of a register
abbrev pub register_number : Setting → ℕ → ℕ
register_number s r = unwrap_or (s.register r) 0

-- a register's value plus an offset, by its DWARF number
abbrev pub register_value : ℕ → ℤ → List ℕ
register_value r offset = (if nat_lt r 32 then (DW_OP_breg0 + r) ∷ [] else DW_OP_bregx ∷ uleb_bytes r) ++ sleb_bytes offset

-- the register itself
abbrev pub register_location : ℕ → List ℕ
register_location r = if nat_lt r 32 then (DW_OP_reg0 + r) ∷ [] else DW_OP_regx ∷ uleb_bytes r

-- an address at an offset from the canonical frame address
abbrev pub frame_address : ℤ → List ℕ
frame_address offset = DW_OP_fbreg ∷ sleb_bytes offset

-- the value that lies at a place
abbrev pub value_bytes : Setting → Option Place → List ℕ
value_bytes s (Some (in_register r)) = register_value (register_number s r) (pos 0)
value_bytes s (Some (at_frame_offset offset)) = frame_address offset ++ DW_OP_deref ∷ []
value_bytes s None = []

-- the place itself
abbrev pub location_bytes : Setting → Option Place → List ℕ
location_bytes s (Some (in_register r)) = register_location (register_number s r)
location_bytes s (Some (at_frame_offset offset)) = frame_address offset
location_bytes s None = []

-- an offset added
abbrev pub plus_offset : ℕ → List ℕ
plus_offset n = DW_OP_consts ∷ sleb_bytes (pos n) ++ DW_OP_plus ∷ []

-- the same where it is not 0
abbrev pub plus_some : ℕ → List ℕ
plus_some n = if n == 0 then [] else plus_offset n

-- Where the address of the linear memory's base lies, by the place of the context: in the context, or in the definition that
-- the context points to.
abbrev pub base_place_bytes : Setting → Memory → Option Place → List ℕ
base_place_bytes s (defined o) (Some (in_register r)) = register_value (register_number s r) (pos o)
base_place_bytes s (defined o) (Some (at_frame_offset v)) = frame_address v ++ DW_OP_deref ∷ plus_offset o
base_place_bytes s (imported a b) (Some (in_register r)) = register_value (register_number s r) (pos a) ++ DW_OP_deref ∷ plus_some b
base_place_bytes s (imported a b) (Some (at_frame_offset v)) = frame_address v ++ DW_OP_deref ∷ plus_some a ++ DW_OP_deref ∷ plus_some b
base_place_bytes s _ _ = []

-- the base added to the low 32 bits of the address under it: deref, swap, const4u 0xFFFFFFFF, and, plus
abbrev pub base_added : List ℕ
base_added = DW_OP_deref ∷ DW_OP_swap ∷ DW_OP_const4u ∷ 0xFF ∷ 0xFF ∷ 0xFF ∷ 0xFF ∷ DW_OP_and ∷ DW_OP_plus ∷ []

-- how long a jump is
abbrev pub jump_length : ℕ
jump_length = 3

-- a jump over a distance from behind it
abbrev pub jump_bytes : Bool → ℤ → List ℕ
jump_bytes conditionally distance = (if conditionally then DW_OP_bra else DW_OP_skip) ∷ low_bytes 2 (unsigned_abs (int_rem_euclid distance (pos (2 ^ 16))))

-- the bytes of a part, a jump's over a distance
abbrev pub part_bytes : Setting → ℤ → Part → List ℕ
part_bytes s distance (code c) = c
part_bytes s distance (local label true) = location_bytes s (s.place label)
part_bytes s distance (local label false) = value_bytes s (s.place label)
part_bytes s distance dereference = base_place_bytes s s.memory (s.place context_label) ++ base_added
part_bytes s distance (jump conditionally place) = jump_bytes conditionally distance
part_bytes s distance (landing_pad place) = []

-- how long a part's bytes are
abbrev pub part_length : Setting → Part → ℕ
part_length s p = length (part_bytes s (pos 0) p)

-- where in the bytes of parts the landing pad of a place lies
abbrev pub pad_offset : Setting → ℕ → List Part → ℕ
pad_offset s place [] = 0
pad_offset s place (landing_pad other ∷ ps) = if other == place then 0 else pad_offset s place ps
pad_offset s place (p ∷ ps) = part_length s p + pad_offset s place ps

-- how far a part at an offset of the bytes of all parts jumps, 0 where it is no jump
abbrev pub distance_of : Setting → List Part → ℕ → Part → ℤ
distance_of s all offset (jump conditionally place) = pos (pad_offset s place all) -ℤ pos (offset + jump_length)
distance_of s all offset _ = pos 0

-- the bytes of parts that stand, among all parts, from an offset on
abbrev pub bytes_from : Setting → List Part → ℕ → List Part → List ℕ
bytes_from s all offset [] = []
bytes_from s all offset (p ∷ ps) = part_bytes s (distance_of s all offset p) p ++ bytes_from s all (offset + part_length s p) ps

-- The bytes of parts. Each jump goes to where its landing pad lies in them.
unfoldable pub built_bytes : Setting → List Part → List ℕ
built_bytes s ps = bytes_from s ps 0 ps

-- whether a distance fits 16 bits
abbrev pub is_16_bit : ℤ → Bool
is_16_bit n = not (int_lt n (pos 0 -ℤ pos (2 ^ 15)) || int_le (pos (2 ^ 15)) n)

-- whether each jump's distance does
abbrev pub jumps_fit_from : Setting → List Part → ℕ → List Part → Bool
jumps_fit_from s all offset [] = true
jumps_fit_from s all offset (p ∷ ps) = is_16_bit (distance_of s all offset p) && jumps_fit_from s all (offset + part_length s p) ps

abbrev pub jumps_fit : Setting → List Part → Bool
jumps_fit s ps = jumps_fit_from s ps 0 ps
