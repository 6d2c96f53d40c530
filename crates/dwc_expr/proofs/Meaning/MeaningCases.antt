-- An expression that meets the premises on meaning, and so has on native code the result that it has in WebAssembly.
use Rattle.std.proofs.Common.{◌≡◌, ℕ, zero, suc, ◌+◌, ◌*◌, ◌^◌, refl, sym, ap, ◌∙◌, List, [], ◌∷◌, Some, None, Ok, Err, Bool, true, false, true≢false}
use Rattle.std.specs.Prelude.{Option, unwrap_or, ◌==◌, ◌||◌, slice_get}
use Rattle.std.specs.List.{list_any}
use Rattle.std.proofs.lemmas.Bool.{eq-eqb}
use Rattle.std.proofs.lemmas.List.Elements.{All-cons, All-nil}
use Rattle.dwc_base.specs.declared.records.Endian.TheVariants.{Little}
use Rattle.dwc_base.specs.declared.constants.TheConstants.{DW_OP_deref}
use Rattle.dwc_base.specs.Reading.{coded}
use Rattle.dwc_dwarf.specs.Operations.{Operation, operations}
use Rattle.dwc_native.specs.Compiled.{in_register, no_memory}
use Rattle.dwc_native.specs.Parts.{CompiledParts, label_alone, compiled}
use Rattle.dwc_native.specs.Placed.{built_parts}
use Rattle.dwc_native.specs.Built.{Setting, built_bytes}
use Rattle.dwc_machines.specs.NativeStates.{NativeState}
use Rattle.dwc_machines.specs.WasmMachine.{WasmState}
use Rattle.dwc_machines.proofs.OnMachines.{machines_on_literals}
use Rattle.dwc_expr.specs.RunsAlike.{CanRun}
use Rattle.dwc_expr.specs.MeaningPremises.{IsLocal, ReadsInside, HasMeaning}
use Rattle.dwc_expr.specs.KeepsMeaning.{EndsWith}
use Rattle.dwc_expr.proofs.Meaning.MeaningLaws.{keep-meaning}

-- local 1, lit16, shra, stack_value
abbrev shifted : List ℕ
shifted = 0xED ∷ 0x00 ∷ 0x01 ∷ 0x40 ∷ 0x26 ∷ 0x9F ∷ []

abbrev x : CompiledParts
x = elim (compiled None shifted) [ Ok found ↦ unwrap_or found (label_alone 0) | Err place ↦ label_alone 0 ]

-- in WebAssembly the local is 0xFFFFFFF0; on native code it lies in a register whose upper half is 7
abbrev in_wasm : WasmState
in_wasm = record { local_value = coded ((1, 4294967280) ∷ []); memory = [] }

abbrev now : NativeState
now = record { pointer_bytes = 8; order = Little; register = coded ((12, 7 * 2 ^ 32 + 4294967280) ∷ []); frame = 0; byte = λ address. None }

abbrev there : Setting
there = record { place = coded ((1, in_register 1) ∷ []); register = coded ((1, 12) ∷ []); memory = no_memory }

-- without reads of memory there is nothing to ask of them
no-reads : (w : WasmState) (base : Option CompiledParts) (os : List Operation) → list_any (λ o. o.opcode == DW_OP_deref) os ≡ false → ReadsInside w base os
no-reads w base os none count o address stack at is run = absurd (true≢false (sym (among os count at) ∙ none))
  where
    right : (a b : Bool) → b ≡ true → (a || b) ≡ true
    right true b h = refl
    right false b h = h

    of : Option Operation → Operation
    of None = o
    of (Some p) = p

    among : (os : List Operation) (count : ℕ) → slice_get os count ≡ Some o → list_any (λ o. o.opcode == DW_OP_deref) os ≡ true
    among [] count at = absurd (cc)
    among (p ∷ os) zero at = ap (λ b. b || list_any (λ o. o.opcode == DW_OP_deref) os) (eq-eqb p.opcode DW_OP_deref (ap (λ q. (of q).opcode) at ∙ is))
    among (p ∷ os) (suc count) at = right (p.opcode == DW_OP_deref) (list_any (λ o. o.opcode == DW_OP_deref) os) (among os count at)

-- the premises are met
meaning : HasMeaning now there in_wasm None shifted x
unfolding machines_on_literals
meaning = record {
  order = refl;
  addresses = refl;
  base_plain = refl;
  of_bytes = refl;
  kind = refl;
  result = 4294967295;
  others = [];
  runs = refl;
  locals = All-cons (IsLocal now there in_wasm) 1 [] (record { value = 7 * 2 ^ 32 + 4294967280; native = refl; wasm = refl }) (All-nil (IsLocal now there in_wasm));
  memory = λ h. absurd (true≢false (sym h));
  reads = no-reads in_wasm None (operations shifted).items refl;
  memory_of_bytes = refl;
}

can : CanRun now there (built_parts x)
unfolding machines_on_literals
can = record { whole = refl; set = refl; fit = refl; addresses = refl }

-- and so, by the law, the bytes end with the low 32 bits 0xFFFFFFFF, marked as a value
result : EndsWith now there (built_bytes there (built_parts x)) false true 4294967295
unfolding machines_on_literals meaning
result = (keep-meaning now there in_wasm None shifted x meaning can).whole
