-- Worked runs of the machines: an expression with a jump, and a shift to the right with its sign.
use Rattle.std.proofs.Common.{◌≡◌, ℕ, ◌+◌, ◌*◌, ◌^◌, refl, ap, ◌∙◌, arith, List, [], ◌∷◌, None, Ok, Err, true, false}
use Rattle.std.specs.Prelude.{Result, unwrap_or}
use Rattle.dwc_base.specs.declared.records.Endian.TheVariants.{Little}
use Rattle.dwc_base.specs.Reading.{coded, ◌>>=◌}
use Rattle.dwc_dwarf.specs.Operations.{operations}
use Rattle.dwc_native.specs.Compiled.{in_register, no_memory}
use Rattle.dwc_native.specs.Parts.{CompiledParts, label_alone, compiled}
use Rattle.dwc_native.specs.Placed.{built_parts}
use Rattle.dwc_native.specs.Built.{Setting, built_bytes}
use Rattle.dwc_machines.specs.StackOperations.{Stop, wrapped}
use Rattle.dwc_machines.specs.NativeStates.{NativeState}
use Rattle.dwc_machines.specs.ByteMachine.{ByteState, byte_step, byte_steps}
use Rattle.dwc_machines.specs.PartMachine.{part_steps}
use Rattle.dwc_machines.specs.WasmMachine.{wasm_run}
use Rattle.dwc_machines.proofs.OnMachines.{machines_on_literals}

-- what bytes compile to, without a frame base
abbrev of_bytes : List ℕ → CompiledParts
of_bytes bytes = elim (compiled None bytes) [ Ok x ↦ unwrap_or x (label_alone 0) | Err place ↦ label_alone 0 ]

-- a moment with a register 12, and the places of local 1 there
abbrev now : ℕ → NativeState
now value = record { pointer_bytes = 8; order = Little; register = coded ((12, value) ∷ []); frame = 0; byte = λ address. None }

abbrev there : Setting
there = record { place = coded ((1, in_register 1) ∷ []); register = coded ((1, 12) ∷ []); memory = no_memory }

-- ---- a jump

-- lit1, dup, bra over the next operation, lit6, lit0, stack_value
abbrev jumping : List ℕ
jumping = 0x31 ∷ 0x12 ∷ 0x28 ∷ 0x02 ∷ 0x00 ∷ 0x06 ∷ 0x30 ∷ 0x9F ∷ []

-- lit1, dup, the jump, the landing pad and stack_value: after five steps the parts end with 1, as a value
five-steps : part_steps (now 0) there (built_parts (of_bytes jumping)) 5 ≡ Ok (record { part = 6; inside = 0; made = record { stack = 1 ∷ []; pieces = []; is_value = true } })
unfolding machines_on_literals
five-steps = refl

-- ---- a shift

-- local 1, lit16, shra, stack_value
abbrev shifted : List ℕ
shifted = 0xED ∷ 0x00 ∷ 0x01 ∷ 0x40 ∷ 0x26 ∷ 0x9F ∷ []

-- in WebAssembly 0xFFFFFFF0 becomes 0xFFFFFFFF
in-wasm : wasm_run (record { local_value = coded ((1, 4294967280) ∷ []); memory = [] }) None (operations shifted).items [] ≡ Ok (4294967295 ∷ [])
unfolding machines_on_literals
in-wasm = refl

abbrev native_bytes : List ℕ
native_bytes = built_bytes there (built_parts (of_bytes shifted))

abbrev value_of : ℕ → ℕ
value_of upper = upper * 2 ^ 32 + 4294967280

-- what is to be shifted: the local in the upper half
abbrev moved : ℕ → ℕ
moved upper = wrapped 8 (wrapped 8 (wrapped 8 (value_of upper) + 0) * 2 ^ 32)

abbrev behind : ℕ → ℕ → Result ByteState Stop
behind upper value = byte_step (now (value_of upper)) native_bytes (record { place = 10; made = record { stack = 48 ∷ value ∷ []; pieces = []; is_value = false } }) >>= byte_step (now (value_of upper)) native_bytes

seven : (upper : ℕ) → byte_steps (now (value_of upper)) native_bytes 7 ≡ Ok (record { place = 10; made = record { stack = 48 ∷ moved upper ∷ []; pieces = []; is_value = false } })
unfolding machines_on_literals
seven upper = refl

moved-is : (upper : ℕ) → moved upper ≡ 18446744004990074880
moved-is upper = omega arith

-- in native code, whatever the upper half of the register is, it becomes -1
minus-one : (upper : ℕ) → byte_steps (now (value_of upper)) native_bytes 9 ≡ Ok (record { place = 12; made = record { stack = 18446744073709551615 ∷ []; pieces = []; is_value = true } })
unfolding machines_on_literals
minus-one upper = ap (λ r. r >>= byte_step (now (value_of upper)) native_bytes >>= byte_step (now (value_of upper)) native_bytes) (seven upper) ∙ ap (behind upper) (moved-is upper)
