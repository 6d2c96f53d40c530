-- What short expressions compile to.
use Rattle.std.proofs.Common.{◌≡◌, ℕ, zero, suc, ◌<◌, List, [], ◌∷◌, length, Bool, true, false, ◌&&◌, if◌then◌else◌, Option, Some, None, is_some, Ok, refl, ap, ◌∙◌, ◌%◌, arith}
use Rattle.std.specs.List.{list_all}
use Rattle.std.proofs.lemmas.Bool.{lt-ltb}
use Rattle.dwc_base.specs.declared.constants.TheConstants.{DW_OP_WASM_location, DW_OP_consts, DW_OP_lit0, DW_OP_stack_value}
use Rattle.dwc_base.specs.declared.records.Endian.TheVariants.{Little}
use Rattle.dwc_base.specs.Listing.{with_first, no_items}
use Rattle.dwc_dwarf.specs.Operations.{Operation, bytes_read, index_at, operand_at, operands_at, operation_at, operations, wasm_location_at}
use Rattle.dwc_native.specs.Parts.{CompiledParts, compiled, compiled_behind, compiled_listing, context_label, holds_jump, is_supported, label_alone}
use Rattle.dwc_base.specs.Reading.{Unread, ◌>>=◌, seen_as, bytes_at, number_at, sleb_at, uleb_at, uleb_value, uleb_with}
use Rattle.dwc_dwarf.specs.Values.{sized_number_at}
use Rattle.dwc_base.proofs.LebLaws.{uleb_at-fits}
use Rattle.dwc_expr.specs.OverIntervals.{constant}
use Rattle.dwc_tabs.proofs.OperationLaws.{operations-more, operations-end}

module _ (index : ℕ) (small : index < 128) where
  abbrev bytes : List ℕ
  bytes = DW_OP_WASM_location ∷ 0 ∷ index ∷ DW_OP_stack_value ∷ []

  abbrev load : Operation
  load = record { place = 0; opcode = DW_OP_WASM_location; bytes = DW_OP_WASM_location ∷ 0 ∷ index ∷ []; first = 0; second = index }

  abbrev end : Operation
  end = record { place = 3; opcode = DW_OP_stack_value; bytes = DW_OP_stack_value ∷ []; first = 0; second = 0 }

  abbrev from : ℕ → List ℕ → Unread
  from place left = record { order = Little; place = place; left = left }

  index-read : uleb_at (from 2 (index ∷ DW_OP_stack_value ∷ [])) ≡ Ok (index, from 3 (DW_OP_stack_value ∷ []))
  index-read = uleb_at-fits (from 2 (index ∷ DW_OP_stack_value ∷ [])) index 1 (ap (λ b. if b then Some (index, 1) else uleb_with (index % 128) (uleb_value (DW_OP_stack_value ∷ []))) (lt-ltb index 128 small)) (omega (arith, small))

  location-read : wasm_location_at (from 1 (0 ∷ index ∷ DW_OP_stack_value ∷ [])) ≡ Ok ((0, index), from 3 (DW_OP_stack_value ∷ []))
  unfolding wasm_location_at index_at operand_at number_at bytes_at sized_number_at
  location-read = ap (seen_as (λ n. (0, n))) index-read

  load-read : operation_at (from 0 bytes) ≡ Ok (load, from 3 (DW_OP_stack_value ∷ []))
  unfolding operation_at operands_at number_at bytes_at
  load-read = ap (λ r. r >>= λ operands. Ok (record { place = 0; opcode = DW_OP_WASM_location; bytes = bytes_read (from 0 bytes) operands.1; first = operands.0.0; second = operands.0.1 }, operands.1)) location-read

  end-read : operation_at (from 3 (DW_OP_stack_value ∷ [])) ≡ Ok (end, from 4 [])
  unfolding operation_at operands_at number_at bytes_at
  end-read = refl

  all-read : operations bytes ≡ with_first load (with_first end no_items)
  all-read =
      operations-more (from 0 bytes) (from 3 (DW_OP_stack_value ∷ [])) load load-read
      ∙ ap (with_first load) (operations-more (from 3 (DW_OP_stack_value ∷ [])) (from 4 []) end end-read ∙ ap (with_first end) (operations-end (from 4 []) refl))

  supported : (base : Option CompiledParts) → list_all (is_supported (is_some base) 4) (load ∷ end ∷ []) ≡ true
  supported base = ap (λ b. b && true) (lt-ltb index context_label (omega (arith, small)))

  pub short-compiled : (base : Option CompiledParts) → holds_jump base ≡ false → compiled base bytes ≡ Ok (Some (label_alone index))
  unfolding compiled
  short-compiled base free =
      ap (λ b. if b then Ok None else compiled_listing base bytes (operations bytes)) free
      ∙ ap (compiled_listing base bytes) all-read
      ∙ ap (λ b. if b then compiled_behind base bytes (load ∷ end ∷ []) None else Ok None) (supported base)

-- ---- a place on the operand stack

module _ (index : ℕ) (small : index < 128) (last : ℕ) where
  abbrev rest : List ℕ
  rest = last ∷ []

  abbrev stacked : List ℕ
  stacked = DW_OP_WASM_location ∷ 2 ∷ index ∷ rest

  abbrev read_from : ℕ → List ℕ → Unread
  read_from place left = record { order = Little; place = place; left = left }

  abbrev push : Operation
  push = record { place = 0; opcode = DW_OP_WASM_location; bytes = bytes_read (read_from 0 stacked) (read_from 3 rest); first = 2; second = index }

  depth-read : uleb_at (read_from 2 (index ∷ rest)) ≡ Ok (index, read_from 3 rest)
  depth-read = uleb_at-fits (read_from 2 (index ∷ rest)) index 1 (ap (λ b. if b then Some (index, 1) else uleb_with (index % 128) (uleb_value rest)) (lt-ltb index 128 small)) (omega (arith, small))

  place-read : wasm_location_at (read_from 1 (2 ∷ index ∷ rest)) ≡ Ok ((2, index), read_from 3 rest)
  unfolding wasm_location_at index_at operand_at number_at bytes_at sized_number_at
  place-read = ap (seen_as (λ n. (2, n))) depth-read

  push-read : operation_at (read_from 0 stacked) ≡ Ok (push, read_from 3 rest)
  unfolding operation_at operands_at number_at bytes_at
  push-read = ap (λ r. r >>= λ operands. Ok (record { place = 0; opcode = DW_OP_WASM_location; bytes = bytes_read (read_from 0 stacked) operands.1; first = operands.0.0; second = operands.0.1 }, operands.1)) place-read

  pub stack-compiled : (base : Option CompiledParts) → compiled base stacked ≡ Ok None
  unfolding compiled
  stack-compiled base = go (holds_jump base)
    where
      go : (held : Bool) → (if held then Ok None else compiled_listing base stacked (operations stacked)) ≡ Ok None
      go true = refl
      go false = ap (compiled_listing base stacked) (operations-more (read_from 0 stacked) (read_from 3 rest) push push-read)

-- ---- 0 and 1 as constants

module _ (bytes : List ℕ) (o end : Operation) (v w : Unread) (first : operation_at (record { order = Little; place = 0; left = bytes }) ≡ Ok (o, v)) (second : operation_at v ≡ Ok (end, w)) (nothing : length w.left ≡ 0) where
  two-read : operations bytes ≡ with_first o (with_first end no_items)
  two-read = operations-more (record { order = Little; place = 0; left = bytes }) v o first ∙ ap (with_first o) (operations-more v w end second ∙ ap (with_first end) (operations-end w nothing))

  pub two-compiled : (base : Option CompiledParts) → holds_jump base ≡ false → compiled base bytes ≡ compiled_listing base bytes (with_first o (with_first end no_items))
  unfolding compiled
  two-compiled base free = ap (λ b. if b then Ok None else compiled_listing base bytes (operations bytes)) free ∙ ap (compiled_listing base bytes) two-read

abbrev stack_end : ℕ → Operation
stack_end place = record { place = place; opcode = DW_OP_stack_value; bytes = DW_OP_stack_value ∷ []; first = 0; second = 0 }

abbrev behind_at : ℕ → List ℕ → Unread
behind_at place left = record { order = Little; place = place; left = left }

abbrev spelled : ℕ → Operation
spelled n = record { place = 0; opcode = DW_OP_consts; bytes = DW_OP_consts ∷ n ∷ []; first = n; second = 0 }

pub literal-compiled : (base : Option CompiledParts) → holds_jump base ≡ false → compiled base (DW_OP_lit0 ∷ DW_OP_stack_value ∷ []) ≡ Ok (Some (constant (DW_OP_lit0 ∷ DW_OP_stack_value ∷ [])))
unfolding operation_at operands_at operand_at number_at bytes_at sized_number_at
literal-compiled base free =
    two-compiled (DW_OP_lit0 ∷ DW_OP_stack_value ∷ []) (record { place = 0; opcode = DW_OP_lit0; bytes = DW_OP_lit0 ∷ []; first = 0; second = 0 }) (stack_end 1) (behind_at 1 (DW_OP_stack_value ∷ [])) (behind_at 2 []) refl refl refl base free

zero-compiled : (base : Option CompiledParts) → holds_jump base ≡ false → compiled base (DW_OP_consts ∷ 0 ∷ DW_OP_stack_value ∷ []) ≡ Ok (Some (constant (DW_OP_consts ∷ 0 ∷ DW_OP_stack_value ∷ [])))
unfolding operation_at operands_at operand_at number_at bytes_at sized_number_at sleb_at
zero-compiled base free = two-compiled (DW_OP_consts ∷ 0 ∷ DW_OP_stack_value ∷ []) (spelled 0) (stack_end 2) (behind_at 2 (DW_OP_stack_value ∷ [])) (behind_at 3 []) refl refl refl base free

one-compiled : (base : Option CompiledParts) → holds_jump base ≡ false → compiled base (DW_OP_consts ∷ 1 ∷ DW_OP_stack_value ∷ []) ≡ Ok (Some (constant (DW_OP_consts ∷ 1 ∷ DW_OP_stack_value ∷ [])))
unfolding operation_at operands_at operand_at number_at bytes_at sized_number_at sleb_at
one-compiled base free = two-compiled (DW_OP_consts ∷ 1 ∷ DW_OP_stack_value ∷ []) (spelled 1) (stack_end 2) (behind_at 2 (DW_OP_stack_value ∷ [])) (behind_at 3 []) refl refl refl base free

pub spelled-compiled : (n : ℕ) → n < 2 → (base : Option CompiledParts) → holds_jump base ≡ false → compiled base (DW_OP_consts ∷ n ∷ DW_OP_stack_value ∷ []) ≡ Ok (Some (constant (DW_OP_consts ∷ n ∷ DW_OP_stack_value ∷ [])))
spelled-compiled zero bit base free = zero-compiled base free
spelled-compiled (suc zero) bit base free = one-compiled base free
spelled-compiled (suc (suc n)) bit base free = absurd (omega (arith, bit))
