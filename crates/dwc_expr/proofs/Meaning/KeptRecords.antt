-- What an operation is to keep, and operations that do something to the stack alone.
use Rattle.std.proofs.Common.{◌≡◌, ℕ, zero, suc, ◌+◌, ◌-◌, ◌^◌, ◌<◌, ◌≤◌, ◌⊎◌, refl, sym, ap, subst, ◌∙◌, inl, inr, arith, List, [], ◌∷◌, ◌++◌, length, Option, Some, None, Result, Ok, Err, Bool, true, false}
use Rattle.std.specs.Prelude.{not, is_some, ◌&&◌, ◌==◌, nat_le, if◌then◌else◌}
use Rattle.std.proofs.lemmas.Bool.{ne_eqb, cases_lt}
use Rattle.dwc_base.specs.declared.records.Endian.TheVariants.{Little}
use Rattle.dwc_base.specs.Reading.{Unread, Read, ◌>>=◌, coded, seen_as, number_at}
use Rattle.dwc_base.specs.Spelling.{unread_at}
use Rattle.dwc_dwarf.specs.Operations.{operands_of, operands_at, Operation}
use Rattle.dwc_native.specs.Parts.{CompiledParts, stays, rule_of, parts_of}
use Rattle.dwc_native.specs.Built.{Setting}
use Rattle.dwc_base.specs.declared.constants.TheConstants.{DW_OP_lit0, DW_OP_lit31, DW_OP_bregx}
use Rattle.dwc_machines.specs.StackOperations.{Stop, StackRule, is_number, is_literal, stack_rules, stack_rule}
use Rattle.dwc_machines.specs.NativeStates.{NativeState, Evaluation}
use Rattle.dwc_machines.specs.ByteMachine.{on_stack_alone, rule_beside, native_rule, native_operands, is_known}
use Rattle.dwc_machines.specs.WasmMachine.{WasmState, wasm_rules, wasm_step}
use Rattle.dwc_expr.specs.MeaningPremises.{is_count}
use Rattle.dwc_expr.proofs.Meaning.TakenNumbers.{numbers_at}
use Rattle.dwc_expr.proofs.Meaning.TakenOperations.{IsOperation, is-operation}
use Rattle.dwc_expr.proofs.Meaning.Simulations.{Simulates}
use Rattle.dwc_expr.proofs.Meaning.StraightParts.{straight_bytes}
use Rattle.dwc_machines.proofs.LowNumbers.{Low}
use Rattle.dwc_expr.proofs.Meaning.TakenBytes.{ok-value}

-- ---- what is kept

-- the top is a count of a shift
abbrev pub IsCountTop : List ℕ → Type 0
IsCountTop [] = ⊥
IsCountTop (c ∷ s) = c < 32

-- A native evaluation, behind an operation, has the low bits of a stack of WebAssembly; the count of a shift is exact; and there are
-- no pieces.
pub record Good (before : Option Operation) (marked : Bool) (v : Evaluation) (t : List ℕ) : Type 0 where
  pub low : Low v.stack t
  pub count : is_count before ≡ true → IsCountTop v.stack
  pub pieces : v.pieces ≡ []
  pub mark : v.is_value ≡ marked

pub record Made (r : Result Evaluation Stop) (o : Operation) (marked : Bool) (u : List ℕ) : Type 0 where
  pub made : Evaluation
  pub is : r ≡ Ok made
  pub good : Good (Some o) marked made u

-- an operation of the input was read, and its bytes are read the same anywhere
pub record IsInput (o : Operation) : Type 0 where
  pub some : 0 < length o.bytes
  pub reads : (p : ℕ) (more : List ℕ) → numbers_at operands_of (unread_at Little p (o.bytes ++ more)) ≡ Ok ((o.opcode, o.first, o.second), unread_at Little (p + length o.bytes) more)

-- The bytes of an operation's parts act, and keep what is kept.
pub record Acts (n : NativeState) (s : Setting) (w : WasmState) (base : Option CompiledParts) (label : Option ℕ) (before : Option Operation) (o : Operation) (marked : Bool) (t : List ℕ) : Type 0 where
  pub action : Evaluation → Result Evaluation Stop
  pub count : ℕ
  pub simulates : Simulates n (straight_bytes s (parts_of base o)) action count
  pub keeps : (v : Evaluation) (u : List ℕ) → Good before false v t → wasm_step w label o t ≡ Ok u → Made (action v) o marked u

-- ---- operations that stay, and do something to the stack alone

-- what is known of such an operation by its code
pub record IsStackCode (c : ℕ) (r : StackRule) : Type 0 where
  pub rule : rule_of c ≡ Some stays
  pub operands : native_operands c ≡ operands_of c
  pub native : native_rule c ≡ Some (on_stack_alone r)
  pub known : (first : ℕ) → is_known c first ≡ true
  pub wasm : coded wasm_rules c ≡ None
  pub stack : stack_rule c ≡ Some r

-- two functions with one table agree below its length, and so on each literal
abbrev pub table_below : {A : Type 0} → (ℕ → A) → ℕ → List A
table_below f zero = []
table_below f (suc n) = f n ∷ table_below f n

pub agree-below : {A : Type 0} (f g : ℕ → A) (n : ℕ) → table_below f n ≡ table_below g n → (k : ℕ) → k < n → f k ≡ g k
agree-below f g zero e k h = absurd (omega (arith, h))
agree-below {A} f g (suc n) e k h = go (cases_lt k n) (λ below. let tail : table_below f n ≡ table_below g n = cc in agree-below f g n tail k below)
  where
    go : (k < n) ⊎ (n ≤ k) → ((k < n) → f k ≡ g k) → f k ≡ g k
    go (inl below) earlier = earlier below
    go (inr above) earlier =
        let here : k ≡ n = omega arith in
        let head : f n ≡ g n = cc in
        rw here head

on-literals : {A : Type 0} (f g : ℕ → A) → table_below (λ i. f (DW_OP_lit0 + i)) 32 ≡ table_below (λ i. g (DW_OP_lit0 + i)) 32 → (c : ℕ) → DW_OP_lit0 ≤ c → c ≤ DW_OP_lit31 → f c ≡ g c
on-literals f g same c from to =
    let e : DW_OP_lit0 + (c - DW_OP_lit0) ≡ c = omega (arith, from) in
    subst (λ k. f k ≡ g k) e (agree-below (λ i. f (DW_OP_lit0 + i)) (λ i. g (DW_OP_lit0 + i)) 32 same (c - DW_OP_lit0) (omega (arith, from, to)))

-- a literal is one
pub literal-code : (c : ℕ) → is_literal c ≡ true → DW_OP_lit0 ≤ c → c ≤ DW_OP_lit31 → IsStackCode c (is_number (c - DW_OP_lit0))
literal-code c h from to = record {
  rule = on-literals rule_of (λ k. Some stays) refl c from to;
  operands = on-literals native_operands operands_of refl c from to;
  native = native;
  known = λ first. ap (λ o. is_some o && not ((c == DW_OP_bregx) && nat_le (2 ^ 16) first)) native ∙ ap (λ b. not (b && nat_le (2 ^ 16) first)) (ne_eqb c DW_OP_bregx (λ e. omega (arith, e, to)));
  wasm = on-literals (coded wasm_rules) (λ k. None) refl c from to;
  stack = stack;
}
  where
    stack : stack_rule c ≡ Some (is_number (c - DW_OP_lit0))
    stack = ap (λ b. if◌then◌else◌ {A = Option StackRule} b (Some (is_number (c - DW_OP_lit0))) (coded stack_rules c)) h

    native : native_rule c ≡ Some (on_stack_alone (is_number (c - DW_OP_lit0)))
    native =
        on-literals native_rule (λ k. rule_beside None (stack_rule k)) refl c from to ∙ ap (rule_beside None) stack

-- an operation of the input as one of native code
same-numbers : (u v : Unread) (c f g : ℕ) → numbers_at operands_of u ≡ Ok ((c, f, g), v) → native_operands c ≡ operands_of c → numbers_at native_operands u ≡ Ok ((c, f, g), v)
same-numbers u v c f g h same = go (number_at 1 u) h
  where
    inner : (code : ℕ) (x : Unread) (q : Read (ℕ × ℕ)) → operands_at (operands_of code) x ≡ q → seen_as {B = ℕ × ℕ × ℕ} (λ ops. (code, ops.0, ops.1)) q ≡ Ok ((c, f, g), v) → seen_as {B = ℕ × ℕ × ℕ} (λ ops. (code, ops.0, ops.1)) (operands_at (native_operands code) x) ≡ Ok ((c, f, g), v)
    inner code x (Err flaw) e k = absurd (cc)
    inner code x (Ok y) e k =
        let is : code ≡ c = ap (λ (z : ℕ × ℕ × ℕ). z.0) (ok-value k) in
        let operands : native_operands code ≡ operands_of code = ap native_operands is ∙ same ∙ ap operands_of (sym is) in
        ap (λ o. seen_as {B = ℕ × ℕ × ℕ} (λ ops. (code, ops.0, ops.1)) (operands_at o x)) operands ∙ ap (seen_as {B = ℕ × ℕ × ℕ} (λ ops. (code, ops.0, ops.1))) e ∙ k

    go : (r : Read ℕ) → (r >>= λ opcode. seen_as {B = ℕ × ℕ × ℕ} (λ ops. (opcode.0, ops.0, ops.1)) (operands_at (operands_of opcode.0) opcode.1)) ≡ Ok ((c, f, g), v)
        → (r >>= λ opcode. seen_as {B = ℕ × ℕ × ℕ} (λ ops. (opcode.0, ops.0, ops.1)) (operands_at (native_operands opcode.0) opcode.1)) ≡ Ok ((c, f, g), v)
    go (Err flaw) k = absurd (cc)
    go (Ok p) k = inner p.0 p.1 (operands_at (operands_of p.0) p.1) refl k

pub native-input : (o : Operation) → native_operands o.opcode ≡ operands_of o.opcode → IsInput o → IsOperation o.bytes (o.opcode, o.first, o.second)
native-input o same i = is-operation o.bytes (o.opcode, o.first, o.second) i.some (λ p more. same-numbers (unread_at Little p (o.bytes ++ more)) (unread_at Little (p + length o.bytes) more) o.opcode o.first o.second (i.reads p more) same)

-- what bytes that stay do, by a rule of the stack
