-- Wasm offsets of places in a file, worked out by hand.
use Rattle.std.proofs.Common.{◌≡◌, ℕ, ◌-◌, ◌^◌, ◌<◌, ◌≤◌, refl, arith}
use Rattle.dwc_base.specs.CodeOffsets.{wasm_code_offset}

behind : wasm_code_offset 3 1 ≡ 2
behind = refl

-- a place before the code section wraps round
before : wasm_code_offset 16 0xF0000000 ≡ 0x10000010
before = refl

-- of the section's offset the low 32 bits count
past_32_bits : wasm_code_offset 1 0x2080000000 ≡ 0x80000001
past_32_bits = refl

-- at or behind the code section it is the difference, which the address maps' wasm offsets are
pub wasm_code_offset-difference : (place code_offset : ℕ) → code_offset ≤ place → place < 2 ^ 32 → wasm_code_offset place code_offset ≡ place - code_offset
wasm_code_offset-difference place code_offset above small = omega arith
