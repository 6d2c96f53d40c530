-- The bytes of linear memory, and operations that are built.
use Rattle.std.proofs.Common.{◌≡◌, ℕ, zero, suc, ◌+◌, ◌*◌, ◌^◌, ◌%◌, ◌<◌, ◌≤◌, refl, sym, ap, ◌∙◌, arith, List, [], ◌∷◌, ◌++◌, length, take, drop, Option, Some, None, Ok, Bool, true}
use Rattle.std.specs.Prelude.{nat_lt, ok_or, slice_get}
use Rattle.std.specs.List.{list_all}
use Rattle.std.proofs.lemmas.Bool.{ltb-true, and_parts}
use Rattle.dwc_base.specs.declared.records.Endian.TheVariants.{Little}
use Rattle.dwc_base.specs.Reading.{Read, ◌>>=◌, coded, number_low_first, seen_as}
use Rattle.dwc_base.specs.Spelling.{unread_at}
use Rattle.dwc_dwarf.specs.Values.{variable, sized_number_at}
use Rattle.dwc_base.specs.NumberBytes.{uleb_bytes}
use Rattle.dwc_dwarf.specs.Operations.{unsigned, one, operands_of, operand_at, operands_at}
use Rattle.dwc_native.specs.Built.{Setting}
use Rattle.dwc_base.proofs.Spellings.{Spells-uleb}
use Rattle.dwc_base.specs.declared.constants.TheConstants.{DW_OP_plus_uconst}
use Rattle.dwc_machines.specs.StackOperations.{stack_rule, byte_missing, wrapped, combines}
use Rattle.dwc_machines.specs.NativeStates.{NativeState, byte_read, bytes_read}
use Rattle.dwc_machines.specs.ByteMachine.{on_stack_alone, native_rule, native_operands, is_known}
use Rattle.dwc_machines.specs.WasmMachine.{WasmState, wasm_rules}
use Rattle.dwc_section.proofs.ReadNumbers.{uleb_bytes-value}
use Rattle.dwc_expr.proofs.Meaning.TakenOperations.{IsOperation}
use Rattle.dwc_expr.proofs.Meaning.RegisterOperations.{coded-operation}

-- what is known of a shift by its code
pub record IsStackRule (c : ℕ) (f : ℕ → ℕ → ℕ → Option ℕ) : Type 0 where
  pub operands : native_operands c ≡ operands_of c
  pub native : native_rule c ≡ Some (on_stack_alone (combines f))
  pub known : (first : ℕ) → is_known c first ≡ true
  pub wasm : coded wasm_rules c ≡ None
  pub stack : stack_rule c ≡ Some (combines f)

-- ---- operations that are built

plus-reads : (k : ℕ) → k < 2 ^ 64 → (p : ℕ) (more : List ℕ) → operands_at (Some (one (unsigned variable))) (unread_at Little p (uleb_bytes k ++ more)) ≡ Ok ((k, 0), unread_at Little (p + length (uleb_bytes k)) more)
unfolding operands_at operand_at sized_number_at
plus-reads k fits p more = ap (λ (r : Read ℕ). seen_as (λ first. (first, 0)) r) ((Spells-uleb Little (uleb_bytes k) k (uleb_bytes-value k) fits).reads p more)

pub plus-operation : (k : ℕ) → k < 2 ^ 64 → IsOperation (DW_OP_plus_uconst ∷ uleb_bytes k) (DW_OP_plus_uconst, k, 0)
plus-operation k fits = coded-operation DW_OP_plus_uconst (Some (one (unsigned variable))) (uleb_bytes k) k 0 refl (plus-reads k fits)

-- ---- the bytes of linear memory

drop-at : (xs : List ℕ) (i : ℕ) → i < length xs → (x : ℕ) × (slice_get xs i ≡ Some x) × (drop i xs ≡ x ∷ drop (suc i) xs)
drop-at [] i less = absurd (omega (arith, less))
drop-at (x ∷ xs) zero less = (x, refl, refl)
drop-at (x ∷ xs) (suc i) less = drop-at xs i (omega (arith, less))

pub all-behind : (f : ℕ → Bool) (xs : List ℕ) (i : ℕ) → list_all f xs ≡ true → list_all f (drop i xs) ≡ true
all-behind f xs zero h = h
all-behind f [] (suc i) h = refl
all-behind f (x ∷ xs) (suc i) h = all-behind f xs i (and_parts (f x) (list_all f xs) h).1

-- the low 32 bits of a number of eight bytes are that of its first four
pub low-four : (xs : List ℕ) → 8 ≤ length xs → list_all (λ b. nat_lt b 256) xs ≡ true → number_low_first (take 8 xs) % 2 ^ 32 ≡ number_low_first (take 4 xs)
low-four [] long h = absurd (omega (arith, long))
low-four (a ∷ []) long h = absurd (omega (arith, long))
low-four (a ∷ b ∷ []) long h = absurd (omega (arith, long))
low-four (a ∷ b ∷ c ∷ []) long h = absurd (omega (arith, long))
low-four (a ∷ b ∷ c ∷ d ∷ xs) long h =
    let p = and_parts (nat_lt a 256) (list_all (λ b. nat_lt b 256) (b ∷ c ∷ d ∷ xs)) h in
    let q = and_parts (nat_lt b 256) (list_all (λ b. nat_lt b 256) (c ∷ d ∷ xs)) p.1 in
    let r = and_parts (nat_lt c 256) (list_all (λ b. nat_lt b 256) (d ∷ xs)) q.1 in
    let z = and_parts (nat_lt d 256) (list_all (λ b. nat_lt b 256) xs) r.1 in
    four a b c d (number_low_first (take 4 xs)) (ltb-true a 256 p.0) (ltb-true b 256 q.0) (ltb-true c 256 r.0) (ltb-true d 256 z.0)
  where
    four : (a b c d rest : ℕ) → a < 256 → b < 256 → c < 256 → d < 256 → (a + 256 * (b + 256 * (c + 256 * (d + 256 * rest)))) % 2 ^ 32 ≡ a + 256 * (b + 256 * (c + 256 * (d + 256 * 0)))
    four a b c d rest la lb lc ld = omega arith

module _ (n : NativeState) (s : Setting) (w : WasmState) (addresses : n.pointer_bytes ≡ 8) where
  -- bytes read from an address of native code on are those of linear memory
  pub memory-read : (base : ℕ) → ((address : ℕ) → address < length w.memory → n.byte ((base + address) % 2 ^ 64) ≡ slice_get w.memory address)
      → (count address at : ℕ) → wrapped 8 at ≡ (base + address) % 2 ^ 64 → address + count ≤ length w.memory → bytes_read n at count ≡ Ok (take count (drop address w.memory))
  memory-read base lies zero address at there inside = refl
  memory-read base lies (suc count) address at there inside =
      let d = drop-at w.memory address (omega (arith, inside)) in
      let byte : byte_read n at ≡ Ok d.0 =
      ap (λ k. ok_or (n.byte (wrapped k at)) (byte_missing (wrapped k at))) addresses
      ∙ ap (λ a. ok_or (n.byte a) (byte_missing a)) there
      ∙ ap (λ o. ok_or o (byte_missing ((base + address) % 2 ^ 64))) (lies address (omega (arith, inside)) ∙ d.1) in
      let rest : bytes_read n (at + 1) count ≡ Ok (take count (drop (suc address) w.memory)) = memory-read base lies count (suc address) (at + 1) (omega (arith, there)) (omega (arith, inside)) in
      ap (λ r. r >>= λ b. bytes_read n (at + 1) count >>= λ bs. Ok (b ∷ bs)) byte
      ∙ ap (λ r. r >>= λ bs. Ok (d.0 ∷ bs)) rest
      ∙ ap (λ xs. Ok (take (suc count) xs)) (sym d.2)
