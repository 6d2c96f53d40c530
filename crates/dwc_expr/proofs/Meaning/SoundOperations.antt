-- The parts of an operation are sound.
use Rattle.std.proofs.Common.{◌≡◌, ℕ, ◌⊎◌, inl, inr, refl, sym, ap, ◌∙◌, List, [], ◌∷◌, ◌++◌, map, Option, Some, None, Bool, true, false}
use Rattle.std.specs.Prelude.{◌&&◌, ◌||◌, ◌==◌, nat_le, if◌then◌else◌}
use Rattle.std.specs.List.{list_all}
use Rattle.std.proofs.lemmas.Bool.{and_parts, leb-true, eqb-true}
use Rattle.dwc_base.proofs.InLists.{IsIn, any-in}
use Rattle.dwc_base.specs.Reading.{coded}
use Rattle.dwc_dwarf.specs.Values.{is_one_of}
use Rattle.dwc_base.specs.NumberBytes.{uleb_bytes}
use Rattle.dwc_dwarf.specs.Operations.{operands_of, Operation}
use Rattle.dwc_native.specs.Parts.{Part, code, CompiledParts, Rule, stays, rules, codes_that_stay, base_values, moved_up, parts_by, parts_of}
use Rattle.dwc_base.specs.declared.constants.TheConstants.{DW_OP_plus_uconst, DW_OP_lit0, DW_OP_lit31}
use Rattle.dwc_machines.specs.ByteMachine.{native_rule, native_operands}
use Rattle.dwc_expr.specs.WholeParts.{is_jump_rule}
use Rattle.dwc_machines.proofs.OnMachines.{machines_on_literals}
use Rattle.dwc_expr.proofs.Meaning.KeptRecords.{IsInput, IsStackCode, native-input, literal-code}
use Rattle.dwc_expr.proofs.Meaning.LowMemory.{plus-operation}
use Rattle.dwc_expr.proofs.Meaning.FrameOffsets.{offset-fits}
use Rattle.dwc_expr.proofs.Meaning.SoundParts.{and-true, sound, sound-append, sound-both, sound-one}

-- ---- the parts of an operation

-- two functions that agree on a list agree on each of it
agree-in : {A B : Type 0} (f g : A → B) (xs : List A) (x : A) → map f xs ≡ map g xs → IsIn x xs → f x ≡ g x
agree-in f g [] x e i = absurd i
agree-in {A} {B} f g (y ∷ ys) x e i = go i (λ j. let tail : map f ys ≡ map g ys = cc in agree-in f g ys x tail j)
  where
    go : (x ≡ y) ⊎ IsIn x ys → (IsIn x ys → f x ≡ g x) → f x ≡ g x
    go (inl same) later = let head : f y ≡ g y = cc in ap f same ∙ head ∙ ap g (sym same)
    go (inr j) later = later j

row-in : {A : Type 0} (rows : List (ℕ × A)) (k : ℕ) (a : A) → coded rows k ≡ Some a → IsIn (k, a) rows
row-in [] k a h = absurd (cc)
row-in {A} (row ∷ rows) k a h = go (row.0 == k) refl h (λ j. row-in rows k a j)
  where
    of : Option A → A
    of None = a
    of (Some x) = x

    go : (b : Bool) → (row.0 == k) ≡ b → if◌then◌else◌ {A = Option A} b (Some row.1) (coded rows k) ≡ Some a → (coded rows k ≡ Some a → IsIn (k, a) rows) → ((k, a) ≡ row) ⊎ IsIn (k, a) rows
    go true e h later = let first : k ≡ row.0 = sym (eqb-true row.0 k e) in let second : a ≡ row.1 = sym (ap of h) in inl (ap (λ j. (j, a)) first ∙ ap (λ c. (row.0, c)) second)
    go false e h later = inr (later h)

module _ (base : Option CompiledParts) (values : list_all sound (base_values base) ≡ true) (o : Operation) (input : IsInput o) where
  sound-bytes : native_operands o.opcode ≡ operands_of o.opcode → is_jump_rule (native_rule o.opcode) ≡ false → sound (code o.bytes) ≡ true
  sound-bytes same free = sound-one o.bytes (o.opcode, o.first, o.second) (native-input o same input) free

  sound-staying : (is_one_of codes_that_stay o.opcode || (nat_le DW_OP_lit0 o.opcode && nat_le o.opcode DW_OP_lit31)) ≡ true → sound (code o.bytes) ≡ true
  sound-staying h = go (is_one_of codes_that_stay o.opcode) refl h
    where
      go : (b : Bool) → is_one_of codes_that_stay o.opcode ≡ b → (b || (nat_le DW_OP_lit0 o.opcode && nat_le o.opcode DW_OP_lit31)) ≡ true → sound (code o.bytes) ≡ true
      go true e h =
          let c = any-in (λ c. c == o.opcode) codes_that_stay e in
          let is : c.0 ≡ o.opcode = eqb-true c.0 o.opcode c.2 in
          sound-bytes (ap native_operands (sym is) ∙ agree-in native_operands operands_of codes_that_stay c.0 refl c.1 ∙ ap operands_of is) (ap (λ k. is_jump_rule (native_rule k)) (sym is) ∙ agree-in (λ k. is_jump_rule (native_rule k)) (λ k. false) codes_that_stay c.0 refl c.1)
      go false e h =
          let bounds = and_parts (nat_le DW_OP_lit0 o.opcode) (nat_le o.opcode DW_OP_lit31) h in
          let literal : IsStackCode o.opcode _ = literal-code o.opcode h (leb-true DW_OP_lit0 o.opcode bounds.0) (leb-true o.opcode DW_OP_lit31 bounds.1) in
          sound-bytes literal.operands (ap is_jump_rule literal.native)

  by-code : (c : ℕ) → o.opcode ≡ c → native_operands c ≡ operands_of c → is_jump_rule (native_rule c) ≡ false → sound (code o.bytes) ≡ true
  by-code c is same free = sound-bytes (ap native_operands is ∙ same ∙ ap operands_of (sym is)) (ap (λ k. is_jump_rule (native_rule k)) is ∙ free)

  moved : sound (code moved_up) ≡ true
  unfolding machines_on_literals
  moved = refl

  one-part : (p : Part) → sound p ≡ true → list_all sound (p ∷ []) ≡ true
  one-part p h = and-true (sound p) true h refl

  -- by the row of its rule
  sound-row : (rule : Rule) → IsIn (o.opcode, rule) rules → list_all sound (parts_by (Some rule) base o) ≡ true
  sound-row rule (inl e) = ap (λ r. list_all sound (parts_by (Some r) base o)) (ap (λ (x : ℕ × Rule). x.1) e)
  sound-row rule (inr (inl e)) =
      ap (λ r. list_all sound (parts_by (Some r) base o)) (ap (λ (x : ℕ × Rule). x.1) e)
      ∙ sound-append (base_values base) (code (DW_OP_plus_uconst ∷ uleb_bytes o.first) ∷ []) values (one-part (code (DW_OP_plus_uconst ∷ uleb_bytes o.first)) (sound-one (DW_OP_plus_uconst ∷ uleb_bytes o.first) (DW_OP_plus_uconst, o.first, 0) (plus-operation o.first (offset-fits o input (ap (λ (x : ℕ × Rule). x.0) e))) refl))
  sound-row rule (inr (inr (inl e))) = ap (λ r. list_all sound (parts_by (Some r) base o)) (ap (λ (x : ℕ × Rule). x.1) e)
  sound-row rule (inr (inr (inr (inl e)))) = ap (λ r. list_all sound (parts_by (Some r) base o)) (ap (λ (x : ℕ × Rule). x.1) e)
  sound-row rule (inr (inr (inr (inr (inl e))))) = ap (λ r. list_all sound (parts_by (Some r) base o)) (ap (λ (x : ℕ × Rule). x.1) e) ∙ one-part (code o.bytes) (by-code _ (ap (λ (x : ℕ × Rule). x.0) e) refl refl)
  sound-row rule (inr (inr (inr (inr (inr (inl e)))))) = ap (λ r. list_all sound (parts_by (Some r) base o)) (ap (λ (x : ℕ × Rule). x.1) e) ∙ one-part (code o.bytes) (by-code _ (ap (λ (x : ℕ × Rule). x.0) e) refl refl)
  sound-row rule (inr (inr (inr (inr (inr (inr (inl e))))))) = ap (λ r. list_all sound (parts_by (Some r) base o)) (ap (λ (x : ℕ × Rule). x.1) e) ∙ one-part (code o.bytes) (by-code _ (ap (λ (x : ℕ × Rule). x.0) e) refl refl)
  sound-row rule (inr (inr (inr (inr (inr (inr (inr (inl e)))))))) = ap (λ r. list_all sound (parts_by (Some r) base o)) (ap (λ (x : ℕ × Rule). x.1) e) ∙ one-part (code o.bytes) (by-code _ (ap (λ (x : ℕ × Rule). x.0) e) refl refl)
  sound-row rule (inr (inr (inr (inr (inr (inr (inr (inr (inl e))))))))) = ap (λ r. list_all sound (parts_by (Some r) base o)) (ap (λ (x : ℕ × Rule). x.1) e) ∙ one-part (code (moved_up ++ o.bytes)) (sound-both moved_up o.bytes moved (by-code _ (ap (λ (x : ℕ × Rule). x.0) e) refl refl))
  sound-row rule (inr (inr (inr (inr (inr (inr (inr (inr (inr (inl e)))))))))) = ap (λ r. list_all sound (parts_by (Some r) base o)) (ap (λ (x : ℕ × Rule). x.1) e) ∙ one-part (code (moved_up ++ o.bytes)) (sound-both moved_up o.bytes moved (by-code _ (ap (λ (x : ℕ × Rule). x.0) e) refl refl))
  sound-row rule (inr (inr (inr (inr (inr (inr (inr (inr (inr (inr none)))))))))) = absurd none

  pub sound-parts : list_all sound (parts_of base o) ≡ true
  sound-parts = go (is_one_of codes_that_stay o.opcode || (nat_le DW_OP_lit0 o.opcode && nat_le o.opcode DW_OP_lit31)) refl
    where
      row : (r : Option Rule) → coded rules o.opcode ≡ r → list_all sound (parts_by r base o) ≡ true
      row None e = refl
      row (Some rule) e = sound-row rule (row-in rules o.opcode rule e)

      go : (b : Bool) → (is_one_of codes_that_stay o.opcode || (nat_le DW_OP_lit0 o.opcode && nat_le o.opcode DW_OP_lit31)) ≡ b → list_all sound (parts_by (if b then Some stays else coded rules o.opcode) base o) ≡ true
      go true e = one-part (code o.bytes) (sound-staying e)
      go false e = row (coded rules o.opcode) refl
