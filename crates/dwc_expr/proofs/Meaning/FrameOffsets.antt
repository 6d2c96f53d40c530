-- The offset of an operation on the frame base fits 64 bits.
use Rattle.std.proofs.Common.{◌≡◌, ℕ, ◌+◌, ◌^◌, ◌<◌, refl, sym, ap, subst, ◌∙◌, arith, [], ◌++◌, length, Option, Some, None, Ok, Err, Bool, true, false}
use Rattle.std.specs.Prelude.{ℤ, pos, negsuc, if◌then◌else◌}
use Rattle.std.specs.Int.{w64, cast_unsigned}
use Rattle.std.proofs.lemmas.Int.{ints}
use Rattle.dwc_base.specs.declared.records.Endian.TheVariants.{Little}
use Rattle.dwc_base.specs.declared.faults.Flaw.TheVariants.{TooWide}
use Rattle.dwc_base.specs.Reading.{Unread, Read, ◌>>=◌, passed, seen_as, number_at, sleb_value, sleb_fitting, sleb_at, is_64_bit}
use Rattle.dwc_base.specs.Spelling.{unread_at}
use Rattle.dwc_dwarf.specs.Values.{variable}
use Rattle.dwc_dwarf.specs.Operations.{one, signed, operands_of, operand_at, operands_at, Operation}
use Rattle.dwc_base.specs.declared.constants.TheConstants.{DW_OP_fbreg}
use Rattle.dwc_expr.proofs.Meaning.TakenBytes.{ok-value}
use Rattle.dwc_expr.proofs.Meaning.TakenNumbers.{numbers_at}
use Rattle.dwc_expr.proofs.Meaning.KeptRecords.{IsInput}

small : (z : ℤ) → is_64_bit z ≡ true → cast_unsigned w64 z < 2 ^ 64
small (pos k) h = grind (arith, ints)
small (negsuc k) h = omega arith

fits-read : (u : Unread) (z : ℤ) (v : Unread) → sleb_at u ≡ Ok (z, v) → is_64_bit z ≡ true
unfolding sleb_at
fits-read u z v h = go (sleb_value u.left) h
  where
    inner : (k : ℤ × ℕ) (b : Bool) → is_64_bit k.0 ≡ b → if◌then◌else◌ {A = Read ℤ} b (Ok (k.0, passed k.1 u)) (Err TooWide) ≡ Ok (z, v) → is_64_bit z ≡ true
    inner k true e h = ap is_64_bit (sym (ok-value h)) ∙ e
    inner k false e h = absurd (cc)

    go : (o : Option (ℤ × ℕ)) → sleb_fitting u o ≡ Ok (z, v) → is_64_bit z ≡ true
    go None h = absurd (cc)
    go (Some k) h = inner k (is_64_bit k.0) refl h

operand-small : (u v : Unread) (x : ℕ × ℕ) → operands_at (Some (one (signed variable))) u ≡ Ok (x, v) → x.0 < 2 ^ 64
unfolding operands_at operand_at
operand-small u v x h = go (sleb_at u) refl h
  where
    go : (r : Read ℤ) → sleb_at u ≡ r → seen_as {B = ℕ × ℕ} (λ first. (first, 0)) (seen_as (cast_unsigned w64) r) ≡ Ok (x, v) → x.0 < 2 ^ 64
    go (Err flaw) e h = absurd (cc)
    go (Ok z) e h = subst (λ (k : ℕ). k < 2 ^ 64) (ap (λ (p : ℕ × ℕ). p.0) (ok-value h)) (small z.0 (fits-read u z.0 z.1 e))

numbers-small : (u v : Unread) (c f g : ℕ) → numbers_at operands_of u ≡ Ok ((c, f, g), v) → c ≡ DW_OP_fbreg → f < 2 ^ 64
numbers-small u v c f g h is = go (number_at 1 u) h
  where
    inner : (k : ℕ) (x : Unread) (q : Read (ℕ × ℕ)) → operands_at (operands_of k) x ≡ q → seen_as {B = ℕ × ℕ × ℕ} (λ ops. (k, ops.0, ops.1)) q ≡ Ok ((c, f, g), v) → f < 2 ^ 64
    inner k x (Err flaw) e h = absurd (cc)
    inner k x (Ok y) e h =
        let code : k ≡ DW_OP_fbreg = ap (λ (z : ℕ × ℕ × ℕ). z.0) (ok-value h) ∙ is in
        let first : (y.0).0 ≡ f = ap (λ (z : ℕ × ℕ × ℕ). z.1) (ok-value h) in
        subst (λ (m : ℕ). m < 2 ^ 64) first (operand-small x y.1 y.0 (sym (ap (λ c. operands_at (operands_of c) x) code) ∙ e))

    go : (r : Read ℕ) → (r >>= λ opcode. seen_as {B = ℕ × ℕ × ℕ} (λ ops. (opcode.0, ops.0, ops.1)) (operands_at (operands_of opcode.0) opcode.1)) ≡ Ok ((c, f, g), v) → f < 2 ^ 64
    go (Err flaw) h = absurd (cc)
    go (Ok p) h = inner p.0 p.1 (operands_at (operands_of p.0) p.1) refl h

pub offset-fits : (o : Operation) → IsInput o → o.opcode ≡ DW_OP_fbreg → o.first < 2 ^ 64
offset-fits o i is = numbers-small (unread_at Little 0 (o.bytes ++ [])) (unread_at Little (0 + length o.bytes) []) o.opcode o.first o.second (i.reads 0 []) is
