-- The bytes of a jump go where its landing pad lies.
use Rattle.std.proofs.Common.{◌≡◌, ℕ, suc, ◌+◌, ◌-◌, ◌^◌, ◌%◌, ◌<◌, ◌≤◌, refl, sym, ap, ◌∙◌, arith, List, [], ◌∷◌, ◌++◌, append-nil, length, Some, Result, Ok, Err, Bool, true, false, ltb}
use Rattle.std.specs.Prelude.{ℤ, pos, negsuc, ◌+ℤ◌, ◌-ℤ◌, int_lt, int_le, not, ◌&&◌, ◌==◌, if◌then◌else◌, unsigned_abs, FitsSigned}
use Rattle.std.specs.Int.{w64, cast_signed, cast_unsigned, int_rem_euclid}
use Rattle.std.proofs.lemmas.Int.{ints, to_z-of_z}
use Rattle.std.proofs.lemmas.Bool.{lt-ltb, le-ltb}
use Rattle.dwc_base.specs.declared.records.Endian.TheVariants.{Little}
use Rattle.dwc_base.specs.Reading.{Unread, Read, ◌>>=◌, seen_as}
use Rattle.dwc_base.specs.Spelling.{unread_at}
use Rattle.dwc_dwarf.specs.Values.{fixed}
use Rattle.dwc_base.specs.NumberBytes.{low_bytes}
use Rattle.dwc_dwarf.specs.Operations.{signed, one, sign_extended, operand_at, operands_at, Operation}
use Rattle.dwc_native.specs.Built.{jump_bytes, is_16_bit}
use Rattle.dwc_base.specs.declared.constants.TheConstants.{DW_OP_bra, DW_OP_skip}
use Rattle.dwc_base.proofs.Spellings.{Spells-number}
use Rattle.dwc_machines.specs.StackOperations.{Stop, not_known, jumps_out}
use Rattle.dwc_machines.specs.NativeStates.{NativeState, Piece, Evaluation, popping}
use Rattle.dwc_machines.specs.ByteMachine.{native_rule, native_operations_from, is_known, decoded, by_native_rule, jumped, jumped_if, ByteState, byte_step}
use Rattle.dwc_expr.specs.RunsAlike.{count_operations}
use Rattle.dwc_section.proofs.ReadNumbers.{number_bytes-number}
use Rattle.dwc_expr.proofs.Meaning.TakenNumbers.{operation_of}
use Rattle.dwc_expr.proofs.Meaning.TakenOperations.{IsOperation, decoded-as}
use Rattle.dwc_expr.proofs.Meaning.OperationWalks.{native-spelled, native-end}
use Rattle.dwc_expr.proofs.Meaning.MachineSteps.{drop-front}
use Rattle.dwc_expr.proofs.Meaning.RegisterOperations.{coded-operation}

-- ---- a distance of 16 bits

abbrev low_16 : ℤ → ℕ
low_16 d = unsigned_abs (int_rem_euclid d (pos (2 ^ 16)))

low_16-small : (d : ℤ) → low_16 d < 256 ^ 2
low_16-small (pos a) = omega arith
low_16-small (negsuc b) = omega arith

short-above : (a : ℕ) → is_16_bit (pos a) ≡ true → a < 2 ^ 15
short-above a h = grind (arith, ints)

short-below : (b : ℕ) → is_16_bit (negsuc b) ≡ true → b < 2 ^ 15
short-below b h = grind (arith, ints)

-- what is read of it is the distance modulo 2 ^ 64
extended : (d : ℤ) → is_16_bit d ≡ true → sign_extended 2 (low_16 d) ≡ cast_unsigned w64 d
extended (pos a) h =
    let small : a < 2 ^ 15 = short-above a h in
    let same : a % 2 ^ 16 ≡ a = omega arith in
    let less : ltb (a % 2 ^ 16) (2 ^ 15) ≡ true = lt-ltb (a % 2 ^ 16) (2 ^ 15) (omega arith) in
    rw less same
extended (negsuc b) h =
    let small : b < 2 ^ 15 = short-below b h in
    let more : ltb (2 ^ 16 - 1 - b % 2 ^ 16) (2 ^ 15) ≡ false = le-ltb (2 ^ 16 - 1 - b % 2 ^ 16) (2 ^ 15) (omega arith) in
    let same : 2 ^ 16 - 1 - b % 2 ^ 16 + (2 ^ 64 - 2 ^ 16) ≡ 2 ^ 64 - suc b = omega arith in
    rw more same

fits-64 : (d : ℤ) → is_16_bit d ≡ true → FitsSigned w64 d
fits-64 (pos a) h = let small : a < 2 ^ 15 = short-above a h in omega (arith, ints)
fits-64 (negsuc b) h = let small : b < 2 ^ 15 = short-below b h in omega (arith, ints)

read-back : (d : ℤ) → is_16_bit d ≡ true → cast_signed w64 (sign_extended 2 (low_16 d)) ≡ d
read-back d h = ap (cast_signed w64) (extended d h) ∙ to_z-of_z w64 d (fits-64 d h)

-- ---- the bytes of a jump are one operation

abbrev jump_code : Bool → ℕ
jump_code conditionally = if conditionally then DW_OP_bra else DW_OP_skip

distance-reads : (d : ℤ) (p : ℕ) (more : List ℕ) → operands_at (Some (one (signed (fixed 2)))) (unread_at Little p (low_bytes 2 (low_16 d) ++ more)) ≡ Ok ((sign_extended 2 (low_16 d), 0), unread_at Little (p + length (low_bytes 2 (low_16 d))) more)
unfolding operands_at operand_at
distance-reads d p more =
    ap (λ (r : Read ℕ). seen_as (λ first. (first, 0)) (seen_as (sign_extended 2) r))
    ((Spells-number Little (low_bytes 2 (low_16 d))).reads p more ∙ ap (λ m. Ok (m, unread_at Little (p + length (low_bytes 2 (low_16 d))) more)) (number_bytes-number Little 2 (low_16 d) (low_16-small d)))

pub jump-operation : (conditionally : Bool) (d : ℤ) → IsOperation (jump_bytes conditionally d) (jump_code conditionally, sign_extended 2 (low_16 d), 0)
jump-operation true d = coded-operation DW_OP_bra (Some (one (signed (fixed 2)))) (low_bytes 2 (low_16 d)) (sign_extended 2 (low_16 d)) 0 refl (distance-reads d)
jump-operation false d = coded-operation DW_OP_skip (Some (one (signed (fixed 2)))) (low_bytes 2 (low_16 d)) (sign_extended 2 (low_16 d)) 0 refl (distance-reads d)

-- an operation is one operation
pub operation-count : (bytes : List ℕ) (o : ℕ × ℕ × ℕ) → IsOperation bytes o → count_operations bytes ≡ 1
operation-count bytes o w =
    ap (λ bs. length (native_operations_from (unread_at Little 0 bs)).items) (sym (append-nil bytes))
    ∙ ap (λ l. length l.items) (native-spelled bytes o w 0 [])
    ∙ ap (λ l. suc (length l.items)) (native-end (unread_at Little (0 + length bytes) []) refl)

-- ---- a step at a jump

-- where a jump stands, its distance leads to a place inside the bytes
arrives : (size offset goal : ℕ) (v : Evaluation) (d : ℤ) → goal ≤ size → d ≡ pos goal -ℤ pos (offset + 3) → jumped size (pos (offset + 3) +ℤ d) v ≡ Ok (record { place = goal; made = v })
arrives size offset goal v d inside is =
    ap (λ z. jumped size z v) there ∙ ap (λ b. if◌then◌else◌ {A = Result ByteState Stop} b (Ok (record { place = goal; made = v })) (Err jumps_out)) stays
  where
    there : pos (offset + 3) +ℤ d ≡ pos goal
    there = omega (arith, ints, is)

    stays : (not (int_lt (pos goal) (pos 0)) && int_le (pos goal) (pos size)) ≡ true
    stays = grind (arith, ints)

-- what a jump does: it goes to a place, or on behind itself
abbrev pub jumps_to : ℕ → ℕ → Bool → Evaluation → Result ByteState Stop
jumps_to goal behind false v = Ok (record { place = goal; made = v })
jumps_to goal behind true v = popping v (λ top rest. if top == 0 then Ok (record { place = behind; made = rest }) else Ok (record { place = goal; made = rest }))

module _ (n : NativeState) (size place goal : ℕ) (d : ℤ) (short : is_16_bit d ≡ true) (is : d ≡ pos goal -ℤ pos (place + 3)) (inside : goal ≤ size) where
  lands : (v : Evaluation) → jumped size (pos (place + 3) +ℤ cast_signed w64 (sign_extended 2 (low_16 d))) v ≡ Ok (record { place = goal; made = v })
  lands v = ap (λ z. jumped size (pos (place + 3) +ℤ z) v) (read-back d short) ∙ arrives size place goal v d inside is

  lands-if : (behind : ℕ) (stack : List ℕ) (pieces : List Piece) (is_value : Bool)
      → jumped_if size (pos (place + 3) +ℤ cast_signed w64 (sign_extended 2 (low_16 d))) behind (record { stack = stack; pieces = pieces; is_value = is_value }) ≡ jumps_to goal behind true (record { stack = stack; pieces = pieces; is_value = is_value })
  lands-if behind [] pieces is_value = refl
  lands-if behind (top ∷ stack) pieces is_value = go (top == 0)
    where
      go : (none : Bool)
          → if◌then◌else◌ {A = Result ByteState Stop} none (Ok (record { place = behind; made = record { stack = stack; pieces = pieces; is_value = is_value } })) (jumped size (pos (place + 3) +ℤ cast_signed w64 (sign_extended 2 (low_16 d))) (record { stack = stack; pieces = pieces; is_value = is_value }))
          ≡ if◌then◌else◌ {A = Result ByteState Stop} none (Ok (record { place = behind; made = record { stack = stack; pieces = pieces; is_value = is_value } })) (Ok (record { place = goal; made = record { stack = stack; pieces = pieces; is_value = is_value } }))
      go true = refl
      go false = lands (record { stack = stack; pieces = pieces; is_value = is_value })

  after-jump : (conditionally : Bool) (rest : List ℕ) (v : Evaluation)
      → (if◌then◌else◌ {A = Result (Operation × Unread) Stop} (is_known (jump_code conditionally) (sign_extended 2 (low_16 d))) (Ok (operation_of place (jump_bytes conditionally d) (jump_code conditionally, sign_extended 2 (low_16 d), 0), unread_at Little (place + length (jump_bytes conditionally d)) rest)) (Err not_known) >>= λ p. by_native_rule n size v p (native_rule p.0.opcode))
      ≡ jumps_to goal (place + 3) conditionally v
  after-jump true rest v = lands-if (place + 3) v.stack v.pieces v.is_value
  after-jump false rest v = lands v

pub jump-step : (n : NativeState) (front rest : List ℕ) (conditionally : Bool) (d : ℤ) (goal : ℕ) (v : Evaluation) → is_16_bit d ≡ true → d ≡ pos goal -ℤ pos (length front + 3) → goal ≤ length (front ++ (jump_bytes conditionally d ++ rest))
    → byte_step n (front ++ (jump_bytes conditionally d ++ rest)) (record { place = length front; made = v }) ≡ jumps_to goal (length front + 3) conditionally v
unfolding byte_step
jump-step n front rest conditionally d goal v short is inside =
    ap (λ bs. decoded (unread_at Little (length front) bs) >>= λ p. by_native_rule n (length (front ++ (jump_bytes conditionally d ++ rest))) v p (native_rule p.0.opcode)) (drop-front front (jump_bytes conditionally d ++ rest))
    ∙ ap (λ r. r >>= λ p. by_native_rule n (length (front ++ (jump_bytes conditionally d ++ rest))) v p (native_rule p.0.opcode)) (decoded-as (jump_bytes conditionally d) (jump_code conditionally, sign_extended 2 (low_16 d), 0) (jump-operation conditionally d) (length front) rest)
    ∙ after-jump n (length (front ++ (jump_bytes conditionally d ++ rest))) (length front) goal d short is inside conditionally rest v
