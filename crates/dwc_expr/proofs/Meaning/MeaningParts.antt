-- The parts of an expression that has a meaning.
use Rattle.std.proofs.Common.{◌≡◌, ℕ, zero, suc, ◌⊎◌, refl, sym, ap, ◌∙◌, inl, inr, List, [], ◌∷◌, ◌++◌, length, take, drop, Option, Some, None, is_some, Bool, true, false, true≢false}
use Rattle.std.specs.Prelude.{map, ◌==◌, ◌||◌, not, if◌then◌else◌, All}
use Rattle.std.specs.List.{list_all, list_any}
use Rattle.std.proofs.lemmas.Bool.{and_parts}
use Rattle.std.proofs.lemmas.List.Folds.{list_all-append, list_any-append}
use Rattle.std.proofs.lemmas.List.Elements.{All-head, All-tail}
use Rattle.dwc_dwarf.specs.Operations.{Operation}
use Rattle.dwc_native.specs.Parts.{Part, code, local, dereference, jump, landing_pad, CompiledParts, as_value, base_values, old_format, leaves_address, single_code, is_jump}
use Rattle.dwc_native.specs.Placed.{built_parts}
use Rattle.dwc_base.specs.declared.constants.TheConstants.{DW_OP_plus_uconst, DW_OP_stack_value}
use Rattle.dwc_expr.specs.MeaningPremises.{local_of, local_of_base, is_base_plain}
use Rattle.dwc_expr.specs.KeepsMeaning.{HasLowBits}
use Rattle.dwc_machines.proofs.LowNumbers.{Low}
use Rattle.dwc_expr.proofs.Meaning.OperationActs.{Each, ends_marked}

-- ---- lists

pub each-of-all : {A : Type 0} (P : A → Type 0) (xs : List A) → All P xs → Each P xs
each-of-all P [] h = tt
each-of-all P (x ∷ xs) h = (All-head P x xs h, each-of-all P xs (All-tail P x xs h))

pub each-take : {A : Type 0} (P : A → Type 0) (count : ℕ) (xs : List A) → Each P xs → Each P (take count xs)
each-take P zero xs h = tt
each-take P (suc count) [] h = tt
each-take P (suc count) (x ∷ xs) h = (h.0, each-take P count xs h.1)

pub take-whole : {A : Type 0} (xs : List A) → take (length xs) xs ≡ xs
take-whole [] = refl
take-whole (x ∷ xs) = ap (λ ys. x ∷ ys) (take-whole xs)

pub drop-whole : {A : Type 0} (xs : List A) → drop (length xs) xs ≡ []
drop-whole [] = refl
drop-whole (x ∷ xs) = drop-whole xs

pub low-bits : (s t : List ℕ) → Low s t → HasLowBits s t
low-bits [] [] l = tt
low-bits [] (b ∷ t) l = absurd l
low-bits (a ∷ s) [] l = absurd l
low-bits (a ∷ s) (b ∷ t) l = ((l.0).0, low-bits s t l.1)

-- ---- the parts as they are built

pub built-all : (f : Part → Bool) (x : CompiledParts) → list_all f (built_parts x) ≡ true → list_all f x.parts ≡ true
built-all f x h = go x.need_deref (single_code x.parts) h
  where
    go : (d : Bool) (o : Option (List ℕ)) → list_all f (if d then (elim o [ None ↦ x.parts ++ dereference ∷ [] | Some bytes ↦ x.parts ]) else x.parts) ≡ true → list_all f x.parts ≡ true
    go true None h = (and_parts (list_all f x.parts) (list_all f (dereference ∷ [])) (sym (list_all-append f x.parts (dereference ∷ [])) ∙ h)).0
    go true (Some bytes) h = h
    go false o h = h

pub built-any : (f : Part → Bool) (x : CompiledParts) → list_any f x.parts ≡ true → list_any f (built_parts x) ≡ true
built-any f x h = go x.need_deref (single_code x.parts)
  where
    go : (d : Bool) (o : Option (List ℕ)) → list_any f (if d then (elim o [ None ↦ x.parts ++ dereference ∷ [] | Some bytes ↦ x.parts ]) else x.parts) ≡ true
    go true None = list_any-append f x.parts (dereference ∷ []) ∙ ap (λ b. b || list_any f (dereference ∷ [])) h
    go true (Some bytes) = h
    go false o = h

pub built-none : (x : CompiledParts) → list_any is_jump x.parts ≡ false → list_any is_jump (built_parts x) ≡ false
built-none x h = go x.need_deref (single_code x.parts)
  where
    go : (d : Bool) (o : Option (List ℕ)) → list_any is_jump (if d then (elim o [ None ↦ x.parts ++ dereference ∷ [] | Some bytes ↦ x.parts ]) else x.parts) ≡ false
    go true None = list_any-append is_jump x.parts (dereference ∷ []) ∙ ap (λ b. b || false) h
    go true (Some bytes) = h
    go false o = h

-- the part behind those of an expression
abbrev pub behind : Bool → Option (List ℕ) → List Part
behind true None = dereference ∷ []
behind true (Some bytes) = []
behind false o = []

-- ---- the mark

pub marks : (o : Operation) (os : List Operation) → ends_marked (o ∷ os) ≡ not (leaves_address (o ∷ os))
marks o [] = go (o.opcode == DW_OP_stack_value)
  where
    go : (b : Bool) → b ≡ not (not b)
    go true = refl
    go false = refl
marks o (p ∷ os) = marks p os

-- ---- the frame base

pub based-local : (base : Option CompiledParts) → is_some base ≡ true → is_base_plain base ≡ true → (l : ℕ) × (local_of_base base ≡ Some l)
based-local None some plain = absurd (true≢false (sym some))
based-local (Some x) some plain = go (local_of x.parts) plain
  where
    go : (o : Option ℕ) → is_some o ≡ true → (l : ℕ) × (o ≡ Some l)
    go None h = absurd (true≢false (sym h))
    go (Some l) h = (l, refl)

base-value : (base : Option CompiledParts) → is_base_plain base ≡ true → (base_values base ≡ []) ⊎ ((l : ℕ) × (local_of_base base ≡ Some l) × (base_values base ≡ local l false ∷ []))
base-value None plain = inl refl
base-value (Some x) plain = go x.parts plain
  where
    go : (ps : List Part) → is_some (local_of ps) ≡ true → (map as_value ps ≡ []) ⊎ ((l : ℕ) × (local_of ps ≡ Some l) × (map as_value ps ≡ local l false ∷ []))
    go [] h = inl refl
    go (local label trailing ∷ []) h = inr (label, refl, refl)
    go (local label trailing ∷ p ∷ ps) h = absurd (true≢false (sym h))
    go (code c ∷ ps) h = absurd (true≢false (sym h))
    go (dereference ∷ ps) h = absurd (true≢false (sym h))
    go (jump conditionally place ∷ ps) h = absurd (true≢false (sym h))
    go (landing_pad place ∷ ps) h = absurd (true≢false (sym h))

pub old-value : (base : Option CompiledParts) → is_base_plain base ≡ true → (os : List Operation) → (old_format base os ≡ []) ⊎ ((l : ℕ) × (local_of_base base ≡ Some l) × (old_format base os ≡ local l false ∷ []))
old-value base plain [] = inl refl
old-value base plain (o ∷ os) = go (o.opcode == DW_OP_plus_uconst)
  where
    go : (b : Bool) → ((if b then base_values base else []) ≡ []) ⊎ ((l : ℕ) × (local_of_base base ≡ Some l) × ((if b then base_values base else []) ≡ local l false ∷ []))
    go true = base-value base plain
    go false = inl refl
