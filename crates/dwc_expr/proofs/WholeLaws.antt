-- The jumps of what an expression compiles to all arrive.
use Rattle.std.proofs.Common.{◌≡◌, ℕ, ◌==◌, ◌⊎◌, List, [], ◌∷◌, ◌++◌, map, length, All, Bool, true, false, if◌then◌else◌, Option, Some, None, is_some, filter_map, Result, Ok, Err, IfOk, IfSome, refl, ap, sym, subst, ◌∙◌, inl, inr, nat_abs, true≢false}
use Rattle.std.specs.List.{list_any, cons_option}
use Rattle.std.proofs.lemmas.Bool.{eqb-true, eq-eqb}
use Rattle.std.proofs.lemmas.List.Elements.{All-nil}
use Rattle.dwc_base.specs.NumberBytes.{uleb_bytes}
use Rattle.dwc_dwarf.specs.Values.{is_one_of}
use Rattle.dwc_dwarf.specs.Operations.{Operation, target}
use Rattle.dwc_native.specs.Parts.{Part, code, local, dereference, jump, landing_pad, CompiledParts, Rule, loads_local, adds_to_frame_base, jumps, reads_memory, shifts_right, stays, rule_of, jump_by, jump_target, targets, has_whole_jumps, with_code, joined, as_value, base_values, parts_by, parts_of, moved_up, pad_at, parts_behind_pads, old_format, leaves_address, lone_local, label_alone, compiled_operations, is_jump, holds_jump, compiled}
use Rattle.dwc_base.specs.declared.constants.TheConstants.{DW_OP_plus_uconst}
use Rattle.dwc_base.proofs.InLists.{IsIn, any-in, in-any, in-append, append-left, append-right, in-map, in-filter_map, filter_map-in, in-flat_map, flat_map-in}
use Rattle.dwc_expr.specs.declared.error.ExprError.{ExprError}
use Rattle.dwc_expr.specs.Compiles.{Compiles}
use Rattle.dwc_expr.specs.Steps.{supported_operations}
use Rattle.dwc_expr.specs.Supported.{compiled_supported}
use Rattle.dwc_expr.specs.WholeParts.{jump_place, pad_place, has_pad, JumpsLand}
use Rattle.dwc_expr.proofs.CompileLaws.{through, compiled-held, compiled-through}
use Rattle.dwc_expr.proofs.PairLaws.{in-all, all-true}

-- ---- joining bytes keeps what is told of other parts

module _ (f : Part → Option ℕ) (skips : (c : List ℕ) → f (code c) ≡ None) where
  skipped : (c : List ℕ) (ps : List Part) → filter_map f (code c ∷ ps) ≡ filter_map f ps
  skipped c ps = ap (λ o. cons_option o (filter_map f ps)) (skips c)

  with_code-skipped : (c : List ℕ) (ps : List Part) → filter_map f (with_code c ps) ≡ filter_map f ps
  with_code-skipped c [] = skipped c []
  with_code-skipped c (code d ∷ ps) = skipped (c ++ d) ps ∙ sym (skipped d ps)
  with_code-skipped c (local label trailing ∷ ps) = skipped c (local label trailing ∷ ps)
  with_code-skipped c (dereference ∷ ps) = skipped c (dereference ∷ ps)
  with_code-skipped c (jump conditionally place ∷ ps) = skipped c (jump conditionally place ∷ ps)
  with_code-skipped c (landing_pad place ∷ ps) = skipped c (landing_pad place ∷ ps)

  joined-keeps : (ps : List Part) → filter_map f (joined ps) ≡ filter_map f ps
  joined-keeps [] = refl
  joined-keeps (code c ∷ ps) = with_code-skipped c (joined ps) ∙ joined-keeps ps ∙ sym (skipped c ps)
  joined-keeps (local label trailing ∷ ps) = ap (cons_option (f (local label trailing))) (joined-keeps ps)
  joined-keeps (dereference ∷ ps) = ap (cons_option (f dereference)) (joined-keeps ps)
  joined-keeps (jump conditionally place ∷ ps) = ap (cons_option (f (jump conditionally place))) (joined-keeps ps)
  joined-keeps (landing_pad place ∷ ps) = ap (cons_option (f (landing_pad place))) (joined-keeps ps)

lands-joined : (ps : List Part) → JumpsLand ps → JumpsLand (joined ps)
lands-joined ps h =
    let js : filter_map jump_place (joined ps) ≡ filter_map jump_place ps = joined-keeps jump_place (λ c. refl) ps in
    let pads : filter_map pad_place (joined ps) ≡ filter_map pad_place ps = joined-keeps pad_place (λ c. refl) ps in
    subst (All (λ place. has_pad (joined ps) place ≡ true)) (sym js) (subst (λ places. All (λ place. is_one_of places place ≡ true) (filter_map jump_place ps)) (sym pads) h)

-- ---- the parts of supported operations

-- what is part of a frame base without jumps does not jump
value-stands : (p : Part) → is_jump p ≡ false → jump_place (as_value p) ≡ None
value-stands (code c) none = refl
value-stands (local label trailing) none = refl
value-stands dereference none = refl
value-stands (jump conditionally place) none = absurd (true≢false none)
value-stands (landing_pad place) none = refl

stands : (ps : List Part) → list_any is_jump ps ≡ false → (p : Part) → IsIn p ps → is_jump p ≡ false
stands ps none p i = go (is_jump p) refl
  where
    go : (b : Bool) → is_jump p ≡ b → b ≡ false
    go true is = absurd (true≢false (sym (in-any is_jump ps p i is) ∙ none))
    go false is = refl

base-stands : (base : Option CompiledParts) → holds_jump base ≡ false → (p : Part) → IsIn p (base_values base) → jump_place p ≡ None
base-stands None free p i = absurd i
base-stands (Some x) free p i =
    let found = in-map as_value x.parts p i in
    ap jump_place found.2 ∙ value-stands found.0 (stands x.parts free found.0 found.1)

none-some : {A : Type 0} (place : ℕ) (o : Option ℕ) → o ≡ None → o ≡ Some place → A
none-some place o none some = let clash : None ≡ Some place = sym none ∙ some in absurd (cc)

one-in : (p q : Part) → IsIn p (q ∷ []) → p ≡ q
one-in p q (inl same) = same
one-in p q (inr i) = absurd i

-- a landing pad does not jump
pad-stands : (places : List ℕ) (at : ℕ) (p : Part) → IsIn p (pad_at places at) → jump_place p ≡ None
pad-stands places at p i = go (is_one_of places at) i
  where
    go : (b : Bool) → IsIn p (if b then landing_pad at ∷ [] else []) → jump_place p ≡ None
    go true j = ap jump_place (one-in p (landing_pad at) j)
    go false j = absurd j

module _ (base : Option CompiledParts) (free : holds_jump base ≡ false) where
  old-stands : (os : List Operation) (p : Part) → IsIn p (old_format base os) → jump_place p ≡ None
  old-stands [] p i = absurd i
  old-stands (o ∷ os) p i = go (o.opcode == DW_OP_plus_uconst) i
    where
      go : (b : Bool) → IsIn p (if b then base_values base else []) → jump_place p ≡ None
      go true j = base-stands base free p j
      go false j = absurd j

  -- where a part of an operation jumps, the operation jumps there
  jumps-by : (rule : Option Rule) (o : Operation) (p : Part) (place : ℕ) → IsIn p (parts_by rule base o) → jump_place p ≡ Some place → jump_by rule o ≡ Some place
  jumps-by None o p place i arrives = absurd i
  jumps-by (Some loads_local) o p place i arrives = none-some place (jump_place p) (ap jump_place (one-in p (local o.second false) i)) arrives
  jumps-by (Some adds_to_frame_base) o p place i arrives = go (in-append (base_values base) (code (DW_OP_plus_uconst ∷ uleb_bytes o.first) ∷ []) p i)
    where
      go : IsIn p (base_values base) ⊎ IsIn p (code (DW_OP_plus_uconst ∷ uleb_bytes o.first) ∷ []) → None ≡ Some place
      go (inl j) = none-some place (jump_place p) (base-stands base free p j) arrives
      go (inr j) = none-some place (jump_place p) (ap jump_place (one-in p (code (DW_OP_plus_uconst ∷ uleb_bytes o.first)) j)) arrives
  jumps-by (Some (jumps conditionally)) o p place i arrives = sym (ap jump_place (one-in p (jump conditionally (nat_abs (target o))) i)) ∙ arrives
  jumps-by (Some reads_memory) o p place (inl same) arrives = none-some place (jump_place p) (ap jump_place same) arrives
  jumps-by (Some reads_memory) o p place (inr i) arrives = none-some place (jump_place p) (ap jump_place (one-in p (code o.bytes) i)) arrives
  jumps-by (Some shifts_right) o p place i arrives = none-some place (jump_place p) (ap jump_place (one-in p (code (moved_up ++ o.bytes)) i)) arrives
  jumps-by (Some stays) o p place i arrives = none-some place (jump_place p) (ap jump_place (one-in p (code o.bytes) i)) arrives

  module _ (size : ℕ) (os : List Operation) where
    abbrev behind_pads : List Part
    behind_pads = parts_behind_pads base (targets os) os ++ pad_at (targets os) size

    abbrev unjoined : List Part
    unjoined = old_format base os ++ behind_pads

    -- each jump goes where an operation does
    jump-in : (place : ℕ) → IsIn place (filter_map jump_place unjoined) → IsIn place (targets os)
    jump-in place i = let found = in-filter_map jump_place unjoined place i in among found.0 found.2 (in-append (old_format base os) behind_pads found.0 found.1)
      where
        of : (p : Part) → jump_place p ≡ Some place → (o : Operation) → IsIn o os → IsIn p (pad_at (targets os) o.place) ⊎ IsIn p (parts_of base o) → IsIn place (targets os)
        of p arrives o j (inl k) = none-some place (jump_place p) (pad-stands (targets os) o.place p k) arrives
        of p arrives o j (inr k) = filter_map-in jump_target os o place j (jumps-by (rule_of o.opcode) o p place k arrives)

        later : (p : Part) → jump_place p ≡ Some place → IsIn p (parts_behind_pads base (targets os) os) ⊎ IsIn p (pad_at (targets os) size) → IsIn place (targets os)
        later p arrives (inl j) =
            let found = in-flat_map (λ o. pad_at (targets os) o.place ++ parts_of base o) os p j in
            of p arrives found.0 found.1 (in-append (pad_at (targets os) found.0.place) (parts_of base found.0) p found.2)
        later p arrives (inr j) = none-some place (jump_place p) (pad-stands (targets os) size p j) arrives

        among : (p : Part) → jump_place p ≡ Some place → IsIn p (old_format base os) ⊎ IsIn p behind_pads → IsIn place (targets os)
        among p arrives (inl j) = none-some place (jump_place p) (old-stands os p j) arrives
        among p arrives (inr j) = later p arrives (in-append (parts_behind_pads base (targets os) os) (pad_at (targets os) size) p j)

    module _ (whole : has_whole_jumps size os ≡ true) where
      -- where an operation jumps there is a landing pad
      pad-in : (place : ℕ) → IsIn place (targets os) → IsIn (landing_pad place) behind_pads
      pad-in place i = go found.0 (sym (eqb-true found.0 place found.2)) found.1
        where
          found : (n : ℕ) × IsIn n (size ∷ map (λ o. o.place) os) × ((n == place) ≡ true)
          found = any-in (λ n. n == place) (size ∷ map (λ o. o.place) os) (all-true (is_one_of (size ∷ map (λ o. o.place) os)) (targets os) whole place i)

          wanted : is_one_of (targets os) place ≡ true
          wanted = in-any (λ n. n == place) (targets os) place i (eq-eqb place place refl)

          here : (at : ℕ) → place ≡ at → IsIn (landing_pad place) (pad_at (targets os) at)
          here at same = subst (λ n. IsIn (landing_pad place) (pad_at (targets os) n)) same (subst (λ b. IsIn (landing_pad place) (if b then landing_pad place ∷ [] else [])) (sym wanted) (inl refl))

          go : (at : ℕ) → place ≡ at → IsIn at (size ∷ map (λ o. o.place) os) → IsIn (landing_pad place) behind_pads
          go at same (inl end) = append-right (parts_behind_pads base (targets os) os) (pad_at (targets os) size) (landing_pad place) (here size (same ∙ end))
          go at same (inr j) =
              let o = in-map (λ o. o.place) os at j in
              append-left (parts_behind_pads base (targets os) os) (pad_at (targets os) size) (landing_pad place)
              (flat_map-in (λ o. pad_at (targets os) o.place ++ parts_of base o) os o.0 (landing_pad place) o.1 (append-left (pad_at (targets os) o.0.place) (parts_of base o.0) (landing_pad place) (here o.0.place (same ∙ o.2))))

      unjoined-land : JumpsLand unjoined
      unjoined-land = in-all (λ place. has_pad unjoined place ≡ true) (filter_map jump_place unjoined)
          (λ place i. in-any (λ n. n == place) (filter_map pad_place unjoined) place
          (filter_map-in pad_place unjoined (landing_pad place) place (append-right (old_format base os) behind_pads (landing_pad place) (pad-in place (jump-in place i))) refl)
          (eq-eqb place place refl))

      operations-land : JumpsLand (compiled_operations base size os).parts
      operations-land = go (lone_local os)
        where
          go : (lone : Option ℕ) → JumpsLand (let x : CompiledParts = elim lone [ Some label ↦ label_alone label | None ↦ record { parts = joined unjoined; need_deref = leaves_address os } ] in x.parts)
          go None = lands-joined unjoined unjoined-land
          go (Some label) = All-nil (λ place. has_pad (label_alone label).parts place ≡ true)

    -- so they do in what supported operations compile to
    pub supported-land : (x : CompiledParts) → compiled_supported base size os ≡ Ok (Some x) → JumpsLand x.parts
    supported-land x is = go (has_whole_jumps size os) refl is
      where
        go : (whole : Bool) → has_whole_jumps size os ≡ whole → if◌then◌else◌ {A = Result (Option CompiledParts) ℕ} whole (Ok (Some (compiled_operations base size os))) (Ok None) ≡ Ok (Some x) → JumpsLand x.parts
        go true whole same = let given : compiled_operations base size os ≡ x = cc in subst (λ (y : CompiledParts). JumpsLand y.parts) given (operations-land whole)
        go false broken same = absurd (cc)

-- The jumps of what an expression compiles to all arrive.
pub compiled-land : (base : Option CompiledParts) (bytes : List ℕ) (x : CompiledParts) → compiled base bytes ≡ Ok (Some x) → JumpsLand x.parts
compiled-land base bytes x is = go (holds_jump base) refl
  where
    of : holds_jump base ≡ false → (r : Result (Option (List Operation)) ℕ) → through base (length bytes) r ≡ Ok (Some x) → JumpsLand x.parts
    of free (Ok (Some os)) same = supported-land base free (length bytes) os x same
    of free (Ok None) same = absurd (cc)
    of free (Err place) same = absurd (cc)

    go : (held : Bool) → holds_jump base ≡ held → JumpsLand x.parts
    go true held = let clash : Ok None ≡ Ok (Some x) = sym (compiled-held base bytes held) ∙ is in absurd (cc)
    go false free = of free (supported_operations (is_some base) bytes) (sym (compiled-through base bytes free) ∙ is)

pub compiles-land : (base : Option CompiledParts) (bytes : List ℕ) (r : Result (Option CompiledParts) ExprError) → Compiles (compiled base bytes) r → IfOk r (λ x. IfSome x (λ (c : CompiledParts). JumpsLand c.parts))
compiles-land base bytes (Ok (Some x)) is = compiled-land base bytes x is
compiles-land base bytes (Ok None) is = tt
compiles-land base bytes (Err e) is = tt
