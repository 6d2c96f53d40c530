-- Places of a WebAssembly file as the DWARF of its functions counts them.
use Rattle.std.specs.Prelude.{ℕ, ◌+◌, ◌-◌, ◌%◌, ◌^◌}

-- The wasm offset of a place in the file: how far it lies behind the begin of the code section's contents, modulo 2 ^ 32.
-- (DWARF for WebAssembly counts code addresses from there.)
abbrev pub wasm_code_offset : ℕ → ℕ → ℕ
wasm_code_offset place code_offset = (place + (2 ^ 32 - code_offset % 2 ^ 32)) % 2 ^ 32
