-- An operation that keeps low 32 bits, whichever it is.
use Rattle.std.proofs.Common.{◌≡◌, ℕ, suc, ◌+◌, ◌≤◌, ◌⊎◌, refl, sym, ap, subst, ◌∙◌, inl, inr, List, [], ◌∷◌, ◌++◌, length, take, Option, Some, Ok, Bool, true, false, true≢false}
use Rattle.std.specs.Prelude.{nat_lt, ◌==◌, ◌&&◌, ◌||◌, slice_get}
use Rattle.std.specs.List.{list_all, list_any, filter_map, flat_map}
use Rattle.std.proofs.lemmas.Bool.{and_parts, eqb-true}
use Rattle.std.proofs.lemmas.List.Folds.{list_all-append, list_any-append}
use Rattle.std.proofs.lemmas.List.Elements.{filter_map-append}
use Rattle.dwc_base.specs.declared.records.Endian.TheVariants.{Little}
use Rattle.dwc_base.specs.Reading.{◌>>=◌}
use Rattle.dwc_dwarf.specs.Values.{is_one_of}
use Rattle.dwc_base.specs.NumberBytes.{uleb_bytes}
use Rattle.dwc_dwarf.specs.Operations.{Operation}
use Rattle.dwc_native.specs.Parts.{Part, code, local, dereference, CompiledParts, rule_of, parts_by, parts_of, context_label}
use Rattle.dwc_native.specs.Placed.{is_dereference}
use Rattle.dwc_native.specs.Built.{Setting}
use Rattle.dwc_base.proofs.InLists.{IsIn, any-in}
use Rattle.dwc_base.specs.declared.constants.TheConstants.{DW_OP_plus_uconst, DW_OP_deref, DW_OP_fbreg, DW_OP_stack_value, DW_OP_WASM_location}
use Rattle.dwc_machines.specs.StackOperations.{is_literal}
use Rattle.dwc_machines.specs.NativeStates.{NativeState}
use Rattle.dwc_machines.specs.WasmMachine.{WasmState, wasm_step, wasm_run}
use Rattle.dwc_expr.specs.RunsAlike.{is_set, has_place, has_memory}
use Rattle.dwc_expr.specs.MeaningPremises.{constants, low_operations, shifts, is_constant, is_count, local_of_base, label_of_local, IsLocal, LiesAtBase}
use Rattle.dwc_expr.proofs.Meaning.KeptRecords.{IsInput, Acts}
use Rattle.dwc_expr.proofs.Meaning.MeaningSteps.{constants-act, literal-acts}
use Rattle.dwc_expr.proofs.Meaning.LowValues.{IsInside}
use Rattle.dwc_expr.proofs.Meaning.MeaningActs.{local-acts, low-acts, left-acts}
use Rattle.dwc_expr.proofs.Meaning.BasedActs.{based-values, base-acts}
use Rattle.dwc_expr.proofs.Meaning.ReadActs.{read-acts}
use Rattle.dwc_expr.proofs.Meaning.ShiftActs.{shr-acts, shra-acts}
use Rattle.dwc_expr.proofs.Meaning.FrameOffsets.{offset-fits}

-- P of each item
abbrev pub Each : {A : Type 0} → (A → Type 0) → List A → Type 0
Each P [] = Unit {0}
Each P (x ∷ xs) = P x × Each P xs

pub each-append : {A : Type 0} (P : A → Type 0) (xs ys : List A) → Each P (xs ++ ys) → Each P xs × Each P ys
each-append P [] ys e = (tt, e)
each-append P (x ∷ xs) ys e = let inner = each-append P xs ys e.1 in ((e.0, inner.0), inner.1)

-- whether the last operation marks the result as a value
abbrev pub ends_marked : List Operation → Bool
ends_marked [] = false
ends_marked (o ∷ []) = o.opcode == DW_OP_stack_value
ends_marked (o ∷ p ∷ os) = ends_marked (p ∷ os)

pub any-of-three : (a b c d : Bool) → (a || b || c || d) ≡ true → d ≡ false → (a ≡ true) ⊎ ((b ≡ true) ⊎ (c ≡ true))
any-of-three true b c d h none = inl refl
any-of-three false true c d h none = inr (inl refl)
any-of-three false false true d h none = inr (inr refl)
any-of-three false false false d h none = absurd (true≢false (sym h ∙ none))

pub any-of-two : (a b : Bool) → (a || b) ≡ true → (a ≡ true) ⊎ (b ≡ true)
any-of-two true b h = inl refl
any-of-two false b h = inr h

module _ (n : NativeState) (s : Setting) (w : WasmState) (base : Option CompiledParts) (addresses : n.pointer_bytes ≡ 8) (order : n.order ≡ Little) (of_bytes : list_all (λ b. nat_lt b 256) w.memory ≡ true) where
  abbrev pub label : Option ℕ
  label = local_of_base base

  abbrev pub parts_of_all : List Operation → List Part
  parts_of_all os = flat_map (parts_of base) os

  -- What is needed of operations that are run on a stack of WebAssembly.
  pub record Fits (os : List Operation) (t : List ℕ) : Type 0 where
    pub inputs : Each IsInput os
    pub based : Each (λ o. o.opcode ≡ DW_OP_fbreg → (l : ℕ) × (label ≡ Some l)) os
    pub locals : Each (IsLocal n s w) (filter_map label_of_local (parts_of_all os))
    pub sets : list_all (is_set s) (parts_of_all os) ≡ true
    pub memory : list_any is_dereference (parts_of_all os) ≡ true → LiesAtBase n s w
    pub inside : (count : ℕ) (o : Operation) (address : ℕ) (stack : List ℕ) → slice_get os count ≡ Some o → o.opcode ≡ DW_OP_deref → wasm_run w label (take count os) t ≡ Ok (address ∷ stack) → address + 8 ≤ length w.memory

  pub fits-tail : (o : Operation) (os : List Operation) (t u : List ℕ) → wasm_step w label o t ≡ Ok u → Fits (o ∷ os) t → Fits os u
  fits-tail o os t u step f = record {
    inputs = f.inputs.1;
    based = f.based.1;
    locals = (each-append (IsLocal n s w) (filter_map label_of_local (parts_of base o)) (filter_map label_of_local (parts_of_all os)) (subst (Each (IsLocal n s w)) (filter_map-append label_of_local (parts_of base o) (parts_of_all os)) f.locals)).1;
    sets = (and_parts (list_all (is_set s) (parts_of base o)) (list_all (is_set s) (parts_of_all os)) (sym (list_all-append (is_set s) (parts_of base o) (parts_of_all os)) ∙ f.sets)).1;
    memory = λ h. f.memory (list_any-append is_dereference (parts_of base o) (parts_of_all os) ∙ right (list_any is_dereference (parts_of base o)) (list_any is_dereference (parts_of_all os)) h);
    inside = λ count p address stack at is run. f.inside (suc count) p address stack at is (ap (λ r. r >>= wasm_run w label (take count os)) step ∙ run);
  }
    where
      right : (a b : Bool) → b ≡ true → (a || b) ≡ true
      right true b h = refl
      right false b h = h

  module _ (o : Operation) (os : List Operation) (before : Option Operation) (t : List ℕ) (f : Fits (o ∷ os) t) where
    head-locals : Each (IsLocal n s w) (filter_map label_of_local (parts_of base o))
    head-locals = (each-append (IsLocal n s w) (filter_map label_of_local (parts_of base o)) (filter_map label_of_local (parts_of_all os)) (subst (Each (IsLocal n s w)) (filter_map-append label_of_local (parts_of base o) (parts_of_all os)) f.locals)).0

    head-sets : list_all (is_set s) (parts_of base o) ≡ true
    head-sets = (and_parts (list_all (is_set s) (parts_of base o)) (list_all (is_set s) (parts_of_all os)) (sym (list_all-append (is_set s) (parts_of base o) (parts_of_all os)) ∙ f.sets)).0

    abbrev pub acts : Type 0
    acts = Acts n s w base label before o false t

    loaded : o.opcode ≡ DW_OP_WASM_location → acts
    loaded is =
        let parts : parts_of base o ≡ local o.second false ∷ [] = ap (λ k. parts_by (rule_of k) base o) is in
        local-acts n s w addresses base label before o t f.inputs.0 is (record {
          local = (subst (λ ps. Each (IsLocal n s w) (filter_map label_of_local ps)) parts head-locals).0;
          place = (and_parts (has_place s o.second) true (subst (λ ps. list_all (is_set s) ps ≡ true) parts head-sets)).0;
        })

    offset : o.opcode ≡ DW_OP_fbreg → acts
    offset is =
        let l = f.based.0 is in
        let parts : parts_of base o ≡ local l.0 false ∷ parts_behind = ap (λ k. parts_by (rule_of k) base o) is ∙ ap (λ ps. ps ++ parts_behind) (based-values n s w addresses base label before o t f.inputs.0 base l.0 l.1) in
        base-acts n s w addresses base label before o t f.inputs.0 is (offset-fits o f.inputs.0 is) l.0 l.1 l.1 (record {
          local = (subst (λ ps. Each (IsLocal n s w) (filter_map label_of_local ps)) parts head-locals).0;
          place = (and_parts (has_place s l.0) _ (subst (λ ps. list_all (is_set s) ps ≡ true) parts head-sets)).0;
        })
      where
        parts_behind : List Part
        parts_behind = code (DW_OP_plus_uconst ∷ uleb_bytes o.first) ∷ []

    read : o.opcode ≡ DW_OP_deref → acts
    read is =
        let parts : parts_of base o ≡ dereference ∷ code o.bytes ∷ [] = ap (λ k. parts_by (rule_of k) base o) is in
        let sets = and_parts (has_memory s.memory && has_place s context_label) _ (subst (λ ps. list_all (is_set s) ps ≡ true) parts head-sets) in
        let both = and_parts (has_memory s.memory) (has_place s context_label) sets.0 in
        let some : list_any is_dereference (parts_of_all (o ∷ os)) ≡ true = ap (λ ps. list_any is_dereference (ps ++ parts_of_all os)) parts in
        read-acts n s w addresses base label before o t f.inputs.0 order is (record { memory = f.memory some; has = both.0; place = both.1; of_bytes = of_bytes }) (inside t (λ address stack same. f.inside 0 o address stack refl is (ap (λ z. Ok z) same)))
      where
        inside : (t : List ℕ) → ((address : ℕ) (stack : List ℕ) → t ≡ address ∷ stack → address + 8 ≤ length w.memory) → IsInside w t
        inside [] h = tt
        inside (address ∷ stack) h = h address stack refl

    -- an operation of one of the classes, but for the mark
    pub head-acts : (is_constant o ≡ true) ⊎ ((is_one_of low_operations o.opcode ≡ true) ⊎ ((is_one_of shifts o.opcode && is_count before) ≡ true)) → acts
    head-acts (inl constant) = go (any-of-two (is_literal o.opcode) (is_one_of constants o.opcode) constant)
      where
        go : (is_literal o.opcode ≡ true) ⊎ (is_one_of constants o.opcode ≡ true) → acts
        go (inl literal) = literal-acts n s w base label before o t addresses f.inputs.0 literal
        go (inr one) = constants-act n s w base label before o t addresses f.inputs.0 one
    head-acts (inr (inl low)) = let c = any-in (λ c. c == o.opcode) low_operations low in low-acts n s w addresses base label before o t f.inputs.0 c.0 (sym (eqb-true c.0 o.opcode c.2)) c.1 loaded offset read
    head-acts (inr (inr shift)) =
        let both = and_parts (is_one_of shifts o.opcode) (is_count before) shift in
        let c = any-in (λ c. c == o.opcode) shifts both.0 in
        go both.1 c.0 (sym (eqb-true c.0 o.opcode c.2)) c.1
      where
        go : is_count before ≡ true → (c : ℕ) → o.opcode ≡ c → IsIn c shifts → acts
        go counted c is (inl e) = left-acts n s w addresses base label before o t f.inputs.0 counted (is ∙ e)
        go counted c is (inr (inl e)) = shr-acts n s w addresses base label before o t f.inputs.0 counted (is ∙ e)
        go counted c is (inr (inr (inl e))) = shra-acts n s w addresses base label before o t f.inputs.0 counted (is ∙ e)
        go counted c is (inr (inr (inr none))) = absurd none
