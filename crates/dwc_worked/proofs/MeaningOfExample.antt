-- The moments of `MomentsOfExample` meet the premises of the law on meaning: the expressions of values.wasm have a meaning there, which is what
-- gdb prints; and the locations that gdb has are what they are built to.
use Rattle.std.proofs.Common.{◌≡◌, ℕ, zero, suc, ◌+◌, ◌^◌, ◌%◌, ◌<◌, refl, sym, ap, ◌∙◌, arith, List, [], ◌∷◌, length, map, negsuc, Some, None, Ok, Err, Bool, true, false, true≢false}
use Rattle.std.specs.Prelude.{Option, Result, ◌==◌, ◌||◌, slice_get}
use Rattle.std.specs.Option.{unwrap_or}
use Rattle.std.specs.List.{list_any}
use Rattle.std.proofs.lemmas.Bool.{eq-eqb, le-leb, lt-ltb}
use Rattle.std.proofs.Math.Nat.{add-sub_cancel_left, mod-eq_of_lt}
use Rattle.std.proofs.lemmas.List.Elements.{All-cons, All-nil}
use Rattle.dwc_base.specs.declared.constants.TheConstants.{DW_OP_deref}
use Rattle.dwc_base.specs.declared.records.Endian.TheVariants.{Little}
use Rattle.dwc_base.specs.Reading.{coded, ◌>>=◌}
use Rattle.dwc_dwarf.specs.Operations.{Operation, operations}
use Rattle.dwc_native.specs.Compiled.{Place, in_register, at_frame_offset, defined}
use Rattle.dwc_native.specs.Parts.{CompiledParts, compiled, label_alone, context_label}
use Rattle.dwc_native.specs.Placed.{built_parts}
use Rattle.dwc_native.specs.Built.{Setting, built_bytes}
use Rattle.dwc_machines.specs.StackOperations.{Stop, as_signed}
use Rattle.dwc_machines.specs.NativeStates.{NativeState}
use Rattle.dwc_machines.specs.ByteMachine.{byte_steps}
use Rattle.dwc_machines.specs.WasmMachine.{WasmState, number_in_memory}
use Rattle.dwc_machines.proofs.OnMachines.{machines_on_literals}
use Rattle.dwc_expr.specs.RunsAlike.{CanRun}
use Rattle.dwc_expr.specs.MeaningPremises.{IsLocal, ReadsInside, wasm_stack, HasMeaning}
use Rattle.dwc_expr.specs.KeepsMeaning.{KeepsMeaning, BuiltBytesKeepMeaning}
use Rattle.dwc_worked.proofs.MomentsOfExample.{byte_in, memory_at_first, memory_at_last, context, memory_of, stack_in_call, state_of, in_register_3, in_slot, in_memory}

-- ---- the input, and what the map tells

-- what an expression compiles to, on what another compiles to
abbrev pub of_bytes : Option CompiledParts → List ℕ → CompiledParts
of_bytes base bytes = elim (compiled base bytes) [ Ok x ↦ unwrap_or x (label_alone 0) | Err place ↦ label_alone 0 ]

-- the location of high: local 1, lit16, shra, stack_value; that of made: 8 above the frame base, which is local 0
abbrev pub high : List ℕ
high = 0xED ∷ 0x00 ∷ 0x01 ∷ 0x40 ∷ 0x26 ∷ 0x9F ∷ []

abbrev pub made : List ℕ
made = 0x91 ∷ 0x08 ∷ []

abbrev pub frame_base : Option CompiledParts
frame_base = Some (of_bytes None (0xED ∷ 0x00 ∷ 0x00 ∷ 0x9F ∷ []))

-- the places that the map tells, with that of local 1
abbrev pub setting_with : Place → Setting
setting_with local_1 = record { place = coded ((0, at_frame_offset (negsuc 31)) ∷ (1, local_1) ∷ (2, at_frame_offset (negsuc 47)) ∷ (context_label, at_frame_offset (negsuc 23)) ∷ []); register = coded ((3, 3) ∷ []); memory = defined 8 }

abbrev pub before_call : Setting
before_call = setting_with (in_register 3)

abbrev pub in_call : Setting
in_call = setting_with (at_frame_offset (negsuc 39))

-- the locals, which are the same in all three moments, and linear memory, as WebAssembly has them
abbrev pub in_wasm : List ℕ → WasmState
in_wasm memory = record { local_value = coded ((0, 1008) ∷ (1, 2366798333) ∷ (2, 2) ∷ []); memory = memory }

abbrev pub at_first : WasmState
at_first = in_wasm memory_at_first

abbrev pub at_last : WasmState
at_last = in_wasm memory_at_last

-- ---- what gdb has is what they are built to

built_in_register : built_bytes before_call (built_parts (of_bytes frame_base high)) ≡ in_register_3.expression
unfolding machines_on_literals
built_in_register = refl

built_in_slot : built_bytes in_call (built_parts (of_bytes frame_base high)) ≡ in_slot.expression
unfolding machines_on_literals
built_in_slot = refl

built_in_memory : built_bytes in_call (built_parts (of_bytes frame_base made)) ≡ in_memory.expression
unfolding machines_on_literals
built_in_memory = refl

-- in the old format too: plus_uconst 8 at the front
built_in_old_format : built_bytes in_call (built_parts (of_bytes frame_base (0x23 ∷ 0x08 ∷ []))) ≡ in_memory.expression
unfolding machines_on_literals
built_in_old_format = refl

-- ---- the premises

-- a byte of the first region
in-first : (begin : ℕ) (bytes : List ℕ) (regions : List (ℕ × List ℕ)) (address : ℕ) → address < length bytes → byte_in ((begin, bytes) ∷ regions) (begin + address) ≡ slice_get bytes address
in-first begin bytes regions address h =
    rw (le-leb begin (begin + address) (omega arith)) (
    rw (lt-ltb (begin + address) (begin + length bytes) (omega (arith, h))) (
    rw (add-sub_cancel_left begin address) refl
    )
    )

-- linear memory lies in the process where the context says
lies : (address : ℕ) → address < length at_last.memory → (state_of in_memory).byte ((6291456 + address) % 2 ^ 64) ≡ slice_get at_last.memory address
lies address h =
    let small : address < 1024 = h in
    let inside : (6291456 + address) % 2 ^ 64 ≡ 6291456 + address = mod-eq_of_lt (omega (arith, small)) in
    ap (byte_in (memory_of memory_at_last stack_in_call)) inside ∙ in-first 6291456 memory_at_last ((7339984, stack_in_call) ∷ (5242888, context) ∷ []) address small

-- without reads of memory there is nothing to ask of them
no-reads : (w : WasmState) (base : Option CompiledParts) (os : List Operation) → list_any (λ o. o.opcode == DW_OP_deref) os ≡ false → ReadsInside w base os
no-reads w base os none count o address stack at is run = absurd (true≢false (sym (among os count at) ∙ none))
  where
    right : (a b : Bool) → b ≡ true → (a || b) ≡ true
    right true b h = refl
    right false b h = h

    of : Option Operation → Operation
    of None = o
    of (Some p) = p

    among : (os : List Operation) (count : ℕ) → slice_get os count ≡ Some o → list_any (λ o. o.opcode == DW_OP_deref) os ≡ true
    among [] count at = absurd (cc)
    among (p ∷ os) zero at = ap (λ b. b || list_any (λ o. o.opcode == DW_OP_deref) os) (eq-eqb p.opcode DW_OP_deref (ap (λ q. (of q).opcode) at ∙ is))
    among (p ∷ os) (suc count) at = right (p.opcode == DW_OP_deref) (list_any (λ o. o.opcode == DW_OP_deref) os) (among os count at)

-- high, in the register
pub register_means : HasMeaning (state_of in_register_3) before_call at_first frame_base high (of_bytes frame_base high)
unfolding machines_on_literals
register_means = record {
  order = refl;
  addresses = refl;
  base_plain = refl;
  of_bytes = refl;
  kind = refl;
  result = 4294937874;
  others = [];
  runs = refl;
  locals = All-cons (IsLocal (state_of in_register_3) before_call at_first) 1 [] (record { value = 6661765629; native = refl; wasm = refl }) (All-nil (IsLocal (state_of in_register_3) before_call at_first));
  memory = λ h. absurd (true≢false (sym h));
  reads = no-reads at_first frame_base (operations high).items refl;
  memory_of_bytes = refl;
}

pub register_runs : CanRun (state_of in_register_3) before_call (built_parts (of_bytes frame_base high))
unfolding machines_on_literals
register_runs = record { whole = refl; set = refl; fit = refl; addresses = refl }

-- high, in the slot
pub slot_means : HasMeaning (state_of in_slot) in_call at_first frame_base high (of_bytes frame_base high)
unfolding machines_on_literals
slot_means = record {
  order = refl;
  addresses = refl;
  base_plain = refl;
  of_bytes = refl;
  kind = refl;
  result = 4294937874;
  others = [];
  runs = refl;
  locals = All-cons (IsLocal (state_of in_slot) in_call at_first) 1 [] (record { value = 6661765629; native = refl; wasm = refl }) (All-nil (IsLocal (state_of in_slot) in_call at_first));
  memory = λ h. absurd (true≢false (sym h));
  reads = no-reads at_first frame_base (operations high).items refl;
  memory_of_bytes = refl;
}

pub slot_runs : CanRun (state_of in_slot) in_call (built_parts (of_bytes frame_base high))
unfolding machines_on_literals
slot_runs = record { whole = refl; set = refl; fit = refl; addresses = refl }

-- made, in linear memory
pub memory_means : HasMeaning (state_of in_memory) in_call at_last frame_base made (of_bytes frame_base made)
unfolding machines_on_literals
memory_means = record {
  order = refl;
  addresses = refl;
  base_plain = refl;
  of_bytes = refl;
  kind = refl;
  result = 1016;
  others = [];
  runs = refl;
  locals = All-cons (IsLocal (state_of in_memory) in_call at_last) 0 [] (record { value = 1008; native = refl; wasm = refl }) (All-nil (IsLocal (state_of in_memory) in_call at_last));
  memory = λ h. record { base = 6291456; is_base = refl; lies = lies };
  reads = no-reads at_last frame_base (operations made).items refl;
  memory_of_bytes = refl;
}

pub memory_runs : CanRun (state_of in_memory) in_call (built_parts (of_bytes frame_base made))
unfolding machines_on_literals
memory_runs = record { whole = refl; set = refl; fit = refl; addresses = refl }

-- ---- their meaning is what gdb prints

same_high : as_signed 4 register_means.result ≡ in_register_3.printed
unfolding register_means
same_high = refl

same_high_in_call : as_signed 4 slot_means.result ≡ in_slot.printed
unfolding slot_means
same_high_in_call = refl

same_number : number_in_memory at_last.memory memory_means.result ≡ Some 3148160401
unfolding memory_means
same_number = refl

same_number_printed : as_signed 4 3148160401 ≡ in_memory.printed
same_number_printed = refl

-- By the law of `BuiltBytesKeepMeaning` the locations keep that meaning.
pub register_kept : BuiltBytesKeepMeaning → KeepsMeaning (state_of in_register_3) before_call at_first frame_base (operations high).items (of_bytes frame_base high) register_means.result (built_bytes before_call (built_parts (of_bytes frame_base high)))
register_kept law = law (state_of in_register_3) before_call at_first frame_base high (of_bytes frame_base high) register_means register_runs

pub slot_kept : BuiltBytesKeepMeaning → KeepsMeaning (state_of in_slot) in_call at_first frame_base (operations high).items (of_bytes frame_base high) slot_means.result (built_bytes in_call (built_parts (of_bytes frame_base high)))
slot_kept law = law (state_of in_slot) in_call at_first frame_base high (of_bytes frame_base high) slot_means slot_runs

pub memory_kept : BuiltBytesKeepMeaning → KeepsMeaning (state_of in_memory) in_call at_last frame_base (operations made).items (of_bytes frame_base made) memory_means.result (built_bytes in_call (built_parts (of_bytes frame_base made)))
memory_kept law = law (state_of in_memory) in_call at_last frame_base made (of_bytes frame_base made) memory_means memory_runs

-- ---- operations that do not keep a meaning

-- local 1 is -6, in rbx with an upper half of 0
abbrev pub below_0 : NativeState
below_0 = record { pointer_bytes = 8; order = Little; register = coded ((3, 4294967290) ∷ []); frame = 0; byte = λ address. None }

abbrev pub wasm_below_0 : WasmState
wasm_below_0 = record { local_value = coded ((1, 4294967290) ∷ []); memory = [] }

-- the low 32 bits of the top, natively, and the top in WebAssembly
abbrev pub natively : List ℕ → Result (List ℕ) Stop
natively bytes = byte_steps below_0 (built_bytes before_call (built_parts (of_bytes None bytes))) 4 >>= λ at. Ok (map (λ top. top % 2 ^ 32) at.made.stack)

abbrev pub in_webassembly : List ℕ → Result (List ℕ) Stop
in_webassembly bytes = wasm_stack wasm_below_0 None (operations bytes).items 4

-- its quotient by 2, and whether it is below 0
abbrev pub halved : List ℕ
halved = 0xED ∷ 0x00 ∷ 0x01 ∷ 0x32 ∷ 0x1B ∷ 0x9F ∷ []

abbrev pub is_below_0 : List ℕ
is_below_0 = 0xED ∷ 0x00 ∷ 0x01 ∷ 0x30 ∷ 0x2D ∷ 0x9F ∷ []

quotient_differs : (natively halved ≡ Ok (2147483645 ∷ [])) × (in_webassembly halved ≡ Ok (4294967293 ∷ []))
unfolding machines_on_literals
quotient_differs = (refl, refl)

comparison_differs : (natively is_below_0 ≡ Ok (0 ∷ [])) × (in_webassembly is_below_0 ≡ Ok (1 ∷ []))
unfolding machines_on_literals
comparison_differs = (refl, refl)
