-- What an expression without jumps compiles to, and its operations as they are read.
use Rattle.std.proofs.Common.{◌≡◌, ℕ, zero, suc, ◌+◌, ◌<◌, ◌≤◌, ◌⊎◌, refl, sym, ap, subst, ◌∙◌, inl, inr, arith, List, [], ◌∷◌, ◌++◌, length, length-append, Option, Some, None, is_some, Ok, Err, Bool, true, false, true≢false}
use Rattle.std.specs.Prelude.{◌==◌, ◌&&◌, ◌||◌, if◌then◌else◌, map}
use Rattle.std.specs.List.{list_all, list_any, flat_map, cons_option}
use Rattle.std.proofs.lemmas.Bool.{and_parts, eqb-true, leb-true}
use Rattle.std.proofs.lemmas.List.Folds.{list_any-append}
use Rattle.dwc_base.specs.declared.records.Endian.TheVariants.{Little}
use Rattle.dwc_base.specs.Reading.{Read}
use Rattle.dwc_base.specs.Listing.{Listing}
use Rattle.dwc_base.specs.Spelling.{unread_at}
use Rattle.dwc_dwarf.specs.Values.{is_one_of}
use Rattle.dwc_dwarf.specs.Operations.{Operation, operands_of, operation_at, operations_from}
use Rattle.dwc_native.specs.Parts.{Part, code, local, dereference, jump, landing_pad, CompiledParts, Rule, loads_local, adds_to_frame_base, jumps, reads_memory, shifts_right, stays, rule_of, jump_by, targets, as_value, base_values, old_format, parts_by, parts_of, is_jump}
use Rattle.dwc_base.specs.declared.constants.TheConstants.{DW_OP_plus_uconst, DW_OP_stack_value, DW_OP_lit0, DW_OP_lit31}
use Rattle.dwc_machines.specs.StackOperations.{is_literal}
use Rattle.dwc_expr.specs.MeaningPremises.{constants, low_operations, shifts, is_constant, is_count, keep_low_bits, local_of, is_base_plain}
use Rattle.dwc_expr.proofs.Meaning.TakenNumbers.{numbers_at}
use Rattle.dwc_expr.proofs.Meaning.TakenOperations.{TookOperation, took-input}
use Rattle.dwc_tabs.proofs.OperationLaws.{operations-more, operations-end, operations-flaw}
use Rattle.dwc_expr.proofs.Meaning.KeptRecords.{IsInput, literal-code}
use Rattle.dwc_expr.proofs.Meaning.OperationActs.{Each, any-of-two}

-- ---- the operations

-- each operation that is read of an expression can be read again
pub inputs : (k p : ℕ) (bytes : List ℕ) → length bytes ≤ k → Each IsInput (operations_from (unread_at Little p bytes)).items
inputs k p [] short = subst (λ (l : Listing ℕ Operation). Each IsInput l.items) (sym (operations-end (unread_at Little p []) refl)) tt
inputs zero p (b ∷ bs) short = absurd (omega (arith, short))
inputs (suc k) p (b ∷ bs) short = go (operation_at (unread_at Little p (b ∷ bs))) refl (λ q cs less. inputs k q cs less)
  where
    some : 0 < length (b ∷ bs)
    some = omega arith

    go : (r : Read Operation) → operation_at (unread_at Little p (b ∷ bs)) ≡ r → ((q : ℕ) (cs : List ℕ) → length cs ≤ k → Each IsInput (operations_from (unread_at Little q cs)).items) → Each IsInput (operations_from (unread_at Little p (b ∷ bs))).items
    go (Err flaw) e rest = subst (λ (l : Listing ℕ Operation). Each IsInput l.items) (sym (operations-flaw (unread_at Little p (b ∷ bs)) flaw some e)) tt
    go (Ok o) e rest =
        let w : TookOperation operands_of p (b ∷ bs) o.0 o.1 = took-input p (b ∷ bs) o.0 o.1 e in
        let own : (o.0).bytes ≡ w.taken = ap (λ (x : Operation). x.bytes) w.is in
        let less : length w.rest ≤ k = omega (arith, short, w.some, ap length w.whole, length-append w.taken w.rest) in
        subst (λ (l : Listing ℕ Operation). Each IsInput l.items) (sym (operations-more (unread_at Little p (b ∷ bs)) o.1 o.0 e))
        (record { some = subst (λ bs. 0 < length bs) (sym own) w.some; reads = subst (λ bs. (q : ℕ) (more : List ℕ) → numbers_at operands_of (unread_at Little q (bs ++ more)) ≡ Ok (((o.0).opcode, (o.0).first, (o.0).second), unread_at Little (q + length bs) more)) (sym own) w.again }, subst (λ u. Each IsInput (operations_from u).items) (sym w.behind) (rest (p + length w.taken) w.rest less))

-- ---- none of them jumps

abbrev pub stands : Option Rule → Bool
stands (Some (jumps conditionally)) = false
stands _ = true

pub all-of : (f : ℕ → Bool) (xs : List ℕ) (c : ℕ) → is_one_of xs c ≡ true → list_all f xs ≡ true → f c ≡ true
all-of f [] c h all = absurd (true≢false (sym h))
all-of f (x ∷ xs) c h all = go (λ k. all-of f xs c k (and_parts (f x) (list_all f xs) all).1) (x == c) refl h
  where
    go : (is_one_of xs c ≡ true → f c ≡ true) → (b : Bool) → (x == c) ≡ b → (b || is_one_of xs c) ≡ true → f c ≡ true
    go rest true e h = ap f (sym (eqb-true x c e)) ∙ (and_parts (f x) (list_all f xs) all).0
    go rest false e h = rest h

any-of-four : (a b c d : Bool) → (a || b || c || d) ≡ true → (a ≡ true) ⊎ ((b ≡ true) ⊎ ((c ≡ true) ⊎ (d ≡ true)))
any-of-four true b c d h = inl refl
any-of-four false true c d h = inr (inl refl)
any-of-four false false true d h = inr (inr (inl refl))
any-of-four false false false d h = inr (inr (inr h))

operation-stands : (before : Option Operation) (o : Operation) (os : List Operation)
    → (is_constant o || is_one_of low_operations o.opcode || (is_one_of shifts o.opcode && is_count before) || ((o.opcode == DW_OP_stack_value) && (length os == 0))) ≡ true → stands (rule_of o.opcode) ≡ true
operation-stands before o os h = go (any-of-four (is_constant o) (is_one_of low_operations o.opcode) (is_one_of shifts o.opcode && is_count before) ((o.opcode == DW_OP_stack_value) && (length os == 0)) h)
  where
    constant : (is_literal o.opcode ≡ true) ⊎ (is_one_of constants o.opcode ≡ true) → stands (rule_of o.opcode) ≡ true
    constant (inl literal) =
        let bounds = and_parts _ _ literal in
        ap stands (literal-code o.opcode literal (leb-true DW_OP_lit0 o.opcode bounds.0) (leb-true o.opcode DW_OP_lit31 bounds.1)).rule
    constant (inr one) = all-of (λ c. stands (rule_of c)) constants o.opcode one refl

    go : (is_constant o ≡ true) ⊎ ((is_one_of low_operations o.opcode ≡ true) ⊎ (((is_one_of shifts o.opcode && is_count before) ≡ true) ⊎ (((o.opcode == DW_OP_stack_value) && (length os == 0)) ≡ true))) → stands (rule_of o.opcode) ≡ true
    go (inl c) = constant (any-of-two (is_literal o.opcode) (is_one_of constants o.opcode) c)
    go (inr (inl low)) = all-of (λ c. stands (rule_of c)) low_operations o.opcode low refl
    go (inr (inr (inl shift))) = all-of (λ c. stands (rule_of c)) shifts o.opcode (and_parts (is_one_of shifts o.opcode) (is_count before) shift).0 refl
    go (inr (inr (inr mark))) = ap (λ c. stands (rule_of c)) (eqb-true o.opcode DW_OP_stack_value (and_parts (o.opcode == DW_OP_stack_value) (length os == 0) mark).0)

pub all-stand : (before : Option Operation) (os : List Operation) → keep_low_bits before os ≡ true → Each (λ o. stands (rule_of o.opcode) ≡ true) os
all-stand before [] h = tt
all-stand before (o ∷ os) h =
    let parts = and_parts _ (keep_low_bits (Some o) os) h in
    (operation-stands before o os parts.0, all-stand (Some o) os parts.1)

no-target : (rule : Option Rule) (o : Operation) → stands rule ≡ true → jump_by rule o ≡ None
no-target None o h = refl
no-target (Some loads_local) o h = refl
no-target (Some adds_to_frame_base) o h = refl
no-target (Some (jumps conditionally)) o h = absurd (true≢false (sym h))
no-target (Some reads_memory) o h = refl
no-target (Some shifts_right) o h = refl
no-target (Some stays) o h = refl

pub no-targets : (os : List Operation) → Each (λ o. stands (rule_of o.opcode) ≡ true) os → targets os ≡ []
no-targets [] h = refl
no-targets (o ∷ os) h = ap (λ k. cons_option k (targets os)) (no-target (rule_of o.opcode) o h.0) ∙ no-targets os h.1

-- ---- nor do their parts

pub base-stands : (base : Option CompiledParts) → is_base_plain base ≡ true → list_any is_jump (base_values base) ≡ false
base-stands None h = refl
base-stands (Some x) h = go x.parts h
  where
    go : (ps : List Part) → is_some (local_of ps) ≡ true → list_any is_jump (map as_value ps) ≡ false
    go [] h = absurd (true≢false (sym h))
    go (local label trailing ∷ []) h = refl
    go (local label trailing ∷ p ∷ ps) h = absurd (true≢false (sym h))
    go (code c ∷ ps) h = absurd (true≢false (sym h))
    go (dereference ∷ ps) h = absurd (true≢false (sym h))
    go (jump conditionally place ∷ ps) h = absurd (true≢false (sym h))
    go (landing_pad place ∷ ps) h = absurd (true≢false (sym h))

part-stands : (base : Option CompiledParts) → is_base_plain base ≡ true → (rule : Option Rule) (o : Operation) → stands rule ≡ true → list_any is_jump (parts_by rule base o) ≡ false
part-stands base plain None o h = refl
part-stands base plain (Some loads_local) o h = refl
part-stands base plain (Some adds_to_frame_base) o h = list_any-append is_jump (base_values base) _ ∙ ap (λ b. b || false) (base-stands base plain)
part-stands base plain (Some (jumps conditionally)) o h = absurd (true≢false (sym h))
part-stands base plain (Some reads_memory) o h = refl
part-stands base plain (Some shifts_right) o h = refl
part-stands base plain (Some stays) o h = refl

pub parts-stand : (base : Option CompiledParts) → is_base_plain base ≡ true → (os : List Operation) → Each (λ o. stands (rule_of o.opcode) ≡ true) os → list_any is_jump (flat_map (parts_of base) os) ≡ false
parts-stand base plain [] h = refl
parts-stand base plain (o ∷ os) h = list_any-append is_jump (parts_of base o) (flat_map (parts_of base) os) ∙ ap (λ b. b || list_any is_jump (flat_map (parts_of base) os)) (part-stands base plain (rule_of o.opcode) o h.0) ∙ parts-stand base plain os h.1

pub old-stands : (base : Option CompiledParts) → is_base_plain base ≡ true → (os : List Operation) → list_any is_jump (old_format base os) ≡ false
old-stands base plain [] = refl
old-stands base plain (o ∷ os) = go (o.opcode == DW_OP_plus_uconst)
  where
    go : (b : Bool) → list_any is_jump (if b then base_values base else []) ≡ false
    go true = base-stands base plain
    go false = refl
