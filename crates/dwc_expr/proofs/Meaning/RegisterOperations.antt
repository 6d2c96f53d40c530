-- Operations with the value of a register.
use Rattle.std.proofs.Common.{◌≡◌, ℕ, ◌+◌, ◌-◌, ◌*◌, ◌^◌, ◌<◌, refl, ap, ◌∙◌, arith, List, [], ◌∷◌, ◌++◌, append_assoc, length, length-append, Option, Some, None, Result, Ok, true, false, ltb, leb}
use Rattle.std.specs.Prelude.{ℤ, ◌==◌, ◌&&◌, not, is_some, nat_le}
use Rattle.std.specs.Int.{w64, cast_unsigned}
use Rattle.std.proofs.lemmas.Bool.{lt-ltb, le-leb, ne_eqb}
use Rattle.dwc_base.specs.declared.records.Endian.TheVariants.{Little}
use Rattle.dwc_base.specs.Reading.{Read, ◌>>=◌, seen_as, number_at, uleb_at, sleb_at, is_64_bit}
use Rattle.dwc_base.specs.Spelling.{unread_at}
use Rattle.dwc_dwarf.specs.Values.{variable, sized_number_at}
use Rattle.dwc_base.specs.NumberBytes.{uleb_bytes, sleb_bytes}
use Rattle.dwc_dwarf.specs.Operations.{unsigned, signed, Operands, one, two, operand_at, operands_at}
use Rattle.dwc_base.specs.declared.constants.TheConstants.{DW_OP_breg0, DW_OP_bregx}
use Rattle.dwc_base.proofs.Spellings.{Spells-number, Spells-uleb}
use Rattle.dwc_machines.specs.StackOperations.{Stop, wrapped}
use Rattle.dwc_machines.specs.NativeStates.{NativeState, register_read}
use Rattle.dwc_machines.specs.ByteMachine.{from_register, native_rule, native_operands, is_based, is_known}
use Rattle.dwc_section.proofs.ReadNumbers.{uleb_bytes-value, sleb_bytes-value}
use Rattle.dwc_expr.proofs.Meaning.TakenLeb.{spells-sleb}
use Rattle.dwc_expr.proofs.Meaning.TakenNumbers.{numbers_at}
use Rattle.dwc_expr.proofs.Meaning.TakenOperations.{IsOperation, is-operation}

-- ---- bytes that spell an operation

first-byte : (op p : ℕ) (more : List ℕ) → number_at 1 (unread_at Little p (op ∷ more)) ≡ Ok (op, unread_at Little (p + 1) more)
first-byte op p more = let one : op + 256 * 0 ≡ op = omega arith in (Spells-number Little (op ∷ [])).reads p more ∙ ap (λ n. Ok (n, unread_at Little (p + 1) more)) one

-- a code, and then its operands
coded-numbers : (op : ℕ) (operands : Option Operands) (bs : List ℕ) (x y : ℕ) → native_operands op ≡ operands → ((p : ℕ) (more : List ℕ) → operands_at operands (unread_at Little p (bs ++ more)) ≡ Ok ((x, y), unread_at Little (p + length bs) more))
    → (p : ℕ) (more : List ℕ) → numbers_at native_operands (unread_at Little p (op ∷ (bs ++ more))) ≡ Ok ((op, x, y), unread_at Little (p + length (op ∷ bs)) more)
coded-numbers op operands bs x y is reads p more =
    let e : p + 1 + length bs ≡ p + length (op ∷ bs) = omega arith in
    ap (λ (r : Read ℕ). r >>= λ opcode. seen_as (λ ops. (opcode.0, ops.0, ops.1)) (operands_at (native_operands opcode.0) opcode.1)) (first-byte op p (bs ++ more))
    ∙ ap (λ o. seen_as (λ ops. (op, ops.0, ops.1)) (operands_at o (unread_at Little (p + 1) (bs ++ more)))) is
    ∙ ap (seen_as (λ ops. (op, ops.0, ops.1))) (reads (p + 1) more)
    ∙ ap (λ q. Ok ((op, x, y), unread_at Little q more)) e

pub coded-operation : (op : ℕ) (operands : Option Operands) (bs : List ℕ) (x y : ℕ) → native_operands op ≡ operands → ((p : ℕ) (more : List ℕ) → operands_at operands (unread_at Little p (bs ++ more)) ≡ Ok ((x, y), unread_at Little (p + length bs) more)) → IsOperation (op ∷ bs) (op, x, y)
coded-operation op operands bs x y is reads = is-operation (op ∷ bs) (op, x, y) (omega arith) (coded-numbers op operands bs x y is reads)

-- one that stands alone
pub alone-operation : (op : ℕ) → native_operands op ≡ None → IsOperation (op ∷ []) (op, 0, 0)
unfolding operands_at
alone-operation op is = coded-operation op None [] 0 0 is (λ p more. let e : p ≡ p + 0 = omega arith in ap (λ q. Ok ((0, 0), unread_at Little q more)) e)

-- one with a signed operand of variable length
pub signed-operation : (op : ℕ) (z : ℤ) → native_operands op ≡ Some (one (signed variable)) → is_64_bit z ≡ true → IsOperation (op ∷ sleb_bytes z) (op, cast_unsigned w64 z, 0)
unfolding operands_at operand_at
signed-operation op z is small =
    coded-operation op (Some (one (signed variable))) (sleb_bytes z) (cast_unsigned w64 z) 0 is
    (λ p more. ap (λ (r : Read ℤ). seen_as (λ first. (first, 0)) (seen_as (cast_unsigned w64) r)) ((spells-sleb (sleb_bytes z) z (sleb_bytes-value z) small).reads p more))

-- one with an unsigned and a signed operand of variable length
two-operands : (r : ℕ) (z : ℤ) → r < 2 ^ 64 → is_64_bit z ≡ true → (p : ℕ) (more : List ℕ) → operands_at (Some (two (unsigned variable) (signed variable))) (unread_at Little p ((uleb_bytes r ++ sleb_bytes z) ++ more)) ≡ Ok ((r, cast_unsigned w64 z), unread_at Little (p + length (uleb_bytes r ++ sleb_bytes z)) more)
unfolding operands_at operand_at sized_number_at
two-operands r z small fits p more =
    let e : p + length (uleb_bytes r) + length (sleb_bytes z) ≡ p + length (uleb_bytes r ++ sleb_bytes z) = omega (arith, length-append (uleb_bytes r) (sleb_bytes z)) in
    ap (λ bs. uleb_at (unread_at Little p bs) >>= λ first. seen_as (λ second. (first.0, second)) (seen_as (cast_unsigned w64) (sleb_at first.1))) (append_assoc (uleb_bytes r) (sleb_bytes z) more)
    ∙ ap (λ (q : Read ℕ). q >>= λ first. seen_as (λ second. (first.0, second)) (seen_as (cast_unsigned w64) (sleb_at first.1))) ((Spells-uleb Little (uleb_bytes r) r (uleb_bytes-value r) small).reads p (sleb_bytes z ++ more))
    ∙ ap (λ (q : Read ℤ). seen_as (λ second. (r, second)) (seen_as (cast_unsigned w64) q)) ((spells-sleb (sleb_bytes z) z (sleb_bytes-value z) fits).reads (p + length (uleb_bytes r)) more)
    ∙ ap (λ q. Ok ((r, cast_unsigned w64 z), unread_at Little q more)) e

pub based-operation : (r : ℕ) (z : ℤ) → r < 2 ^ 64 → is_64_bit z ≡ true → IsOperation (DW_OP_bregx ∷ (uleb_bytes r ++ sleb_bytes z)) (DW_OP_bregx, r, cast_unsigned w64 z)
based-operation r z small fits = coded-operation DW_OP_bregx (Some (two (unsigned variable) (signed variable))) (uleb_bytes r ++ sleb_bytes z) r (cast_unsigned w64 z) refl (two-operands r z small fits)

-- ---- the value of a register with an offset

is-based : (r : ℕ) → r < 32 → is_based (DW_OP_breg0 + r) ≡ true
is-based r low =
    let less : ltb (DW_OP_breg0 + r) (DW_OP_breg0 + 32) ≡ true = lt-ltb (DW_OP_breg0 + r) (DW_OP_breg0 + 32) (omega arith) in
    let over : leb DW_OP_breg0 (DW_OP_breg0 + r) ≡ true = le-leb DW_OP_breg0 (DW_OP_breg0 + r) (omega arith) in
    rw (over, less) refl

pub based-operands : (r : ℕ) → r < 32 → native_operands (DW_OP_breg0 + r) ≡ Some (one (signed variable))
based-operands r low = rw (is-based r low) refl

pub based-rule : (r : ℕ) → r < 32 → native_rule (DW_OP_breg0 + r) ≡ Some (from_register r)
based-rule r low = let e : DW_OP_breg0 + r - DW_OP_breg0 ≡ r = omega arith in rw (is-based r low) (ap (λ k. Some (from_register k)) e)

pub based-known : (r first : ℕ) → r < 32 → is_known (DW_OP_breg0 + r) first ≡ true
based-known r first low =
    let other : DW_OP_breg0 + r == DW_OP_bregx ≡ false = ne_eqb (DW_OP_breg0 + r) DW_OP_bregx (λ e. omega (arith, e)) in
    ap (λ o. is_some o && not ((DW_OP_breg0 + r == DW_OP_bregx) && nat_le (2 ^ 16) first)) (based-rule r low)
    ∙ ap (λ b. not (b && nat_le (2 ^ 16) first)) other

-- what a register's value with an offset is
abbrev pub register_plus : NativeState → ℕ → ℤ → Result ℕ Stop
register_plus n r z = register_read n r >>= λ value. Ok (wrapped n.pointer_bytes (value + cast_unsigned w64 z))
