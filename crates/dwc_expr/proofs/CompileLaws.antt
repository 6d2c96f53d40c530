-- What an expression compiles to, by its supported operations.
use Rattle.std.proofs.Common.{◌≡◌, ℕ, zero, suc, ◌-◌, ◌<◌, ◌≤◌, get_or, option_map, arith, ℤ, pos, negsuc, nat_abs, List, [], ◌∷◌, ◌++◌, length, drop, All, Bool, true, false, not, ◌&&◌, if◌then◌else◌, int_lt, int_le, Option, Some, None, is_some, Result, Ok, Err, refl, sym, ap, ◌∙◌}
use Rattle.std.specs.List.{list_all, cons_option, last_or}
use Rattle.std.proofs.lemmas.Bool.{and_parts, leb-true}
use Rattle.std.proofs.lemmas.List.Elements.{All-nil, All-cons}
use Rattle.dwc_base.specs.Listing.{Listing}
use Rattle.dwc_dwarf.specs.Operations.{Operation, operations, target}
use Rattle.dwc_native.specs.Parts.{Part, CompiledParts, Rule, loads_local, adds_to_frame_base, jumps, reads_memory, shifts_right, stays, rule_of, is_supported_by, is_supported, is_unsupported_early, jump_by, jump_target, targets, has_whole_jumps, holds_jump, joined, is_address_behind, leaves_address, lone_local, label_alone, old_format, parts_behind_pads, compiled_operations, compiled_behind, compiled_listing, compiled}
use Rattle.dwc_expr.specs.declared.error.ExprError.{ExprError}
use Rattle.dwc_expr.specs.declared.error.ExprError.TheVariants.{Read, TooLarge, BadLabelRange, InvalidAttributeValue, UnmappedRegister, OutOfMemory}
use Rattle.dwc_expr.specs.Compiles.{TellsPlace}
use Rattle.dwc_expr.specs.Steps.{supported_behind, supported_listing, supported_operations}
use Rattle.dwc_expr.specs.Supported.{compiled_supported}
use Rattle.dwc_expr.specs.Landings.{Mark, marked_pad, parts_behind_marks}
use Rattle.dwc_expr.proofs.LandingLaws.{pad-same, pads-same}

-- ---- supported operations jump inside

within : (z : ℤ) (size : ℕ) → (not (int_lt z (pos 0)) && int_le z (pos size)) ≡ true → nat_abs z ≤ size
within (pos n) size inside = leb-true n size (and_parts (not (int_lt (pos n) (pos 0))) (int_le (pos n) (pos size)) inside).1
within (negsuc n) size inside = absurd (cc)

target-within : (rule : Option Rule) (has_base : Bool) (size : ℕ) (o : Operation) (place : ℕ) → is_supported_by rule has_base size o ≡ true → jump_by rule o ≡ Some place → place ≤ size
target-within (Some (jumps conditionally)) has_base size o place ok jump =
    let same : nat_abs (target o) ≡ place = cc in
    let inside : nat_abs (target o) ≤ size = within (target o) size ok in
    rw same at inside
target-within None has_base size o place ok jump = absurd (cc)
target-within (Some loads_local) has_base size o place ok jump = absurd (cc)
target-within (Some adds_to_frame_base) has_base size o place ok jump = absurd (cc)
target-within (Some reads_memory) has_base size o place ok jump = absurd (cc)
target-within (Some shifts_right) has_base size o place ok jump = absurd (cc)
target-within (Some stays) has_base size o place ok jump = absurd (cc)

targets-within : (has_base : Bool) (size : ℕ) (os : List Operation) → list_all (is_supported has_base size) os ≡ true → All (λ place. place ≤ size) (targets os)
targets-within has_base size [] ok = All-nil (λ place. place ≤ size)
targets-within has_base size (o ∷ os) ok =
    let parts = and_parts (is_supported has_base size o) (list_all (is_supported has_base size) os) ok in
    go (jump_target o) (λ place jump. target-within (rule_of o.opcode) has_base size o place parts.0 jump) (targets-within has_base size os parts.1)
  where
    go : (t : Option ℕ) → ((place : ℕ) → t ≡ Some place → place ≤ size) → All (λ place. place ≤ size) (targets os) → All (λ place. place ≤ size) (cons_option t (targets os))
    go None here others = others
    go (Some place) here others = All-cons (λ p. p ≤ size) place (targets os) (here place refl) others

-- ---- through the supported operations

abbrev pub through : Option CompiledParts → ℕ → Result (Option (List Operation)) ℕ → Result (Option CompiledParts) ℕ
through base size (Ok (Some os)) = compiled_supported base size os
through base size (Ok None) = Ok None
through base size (Err place) = Err place

early-through : (base : Option CompiledParts) (size place : ℕ) (early : Bool) → (if early then Ok None else Err place) ≡ through base size (if early then Ok None else Err place)
early-through base size place true = refl
early-through base size place false = refl

behind-through : (base : Option CompiledParts) (bytes : List ℕ) (os : List Operation) (fault : Option ℕ) → compiled_behind base bytes os fault ≡ through base (length bytes) (supported_behind (is_some base) bytes os fault)
behind-through base bytes os None = refl
behind-through base bytes os (Some place) = early-through base (length bytes) place (is_unsupported_early (is_some base) (drop place bytes))

listing-through : (base : Option CompiledParts) (bytes : List ℕ) (l : Listing ℕ Operation) → compiled_listing base bytes l ≡ through base (length bytes) (supported_listing (is_some base) bytes l)
listing-through base bytes l = go (list_all (is_supported (is_some base) (length bytes)) l.items)
  where
    go : (ok : Bool) → (if ok then compiled_behind base bytes l.items l.fault else Ok None) ≡ through base (length bytes) (if ok then supported_behind (is_some base) bytes l.items l.fault else Ok None)
    go true = behind-through base bytes l.items l.fault
    go false = refl

module _ (base : Option CompiledParts) (bytes : List ℕ) where
  pub compiled-held : holds_jump base ≡ true → compiled base bytes ≡ Ok None
  unfolding compiled
  compiled-held held = ap (λ b. if b then Ok None else compiled_listing base bytes (operations bytes)) held

  module _ (free : holds_jump base ≡ false) where
    pub compiled-through : compiled base bytes ≡ through base (length bytes) (supported_operations (is_some base) bytes)
    unfolding compiled supported_operations
    compiled-through = ap (λ b. if b then Ok None else compiled_listing base bytes (operations bytes)) free ∙ listing-through base bytes (operations bytes)

    pub compiled-none : supported_operations (is_some base) bytes ≡ Ok None → compiled base bytes ≡ Ok None
    compiled-none e = compiled-through ∙ ap (through base (length bytes)) e

    pub compiled-told : (place : ℕ) → supported_operations (is_some base) bytes ≡ Err place → compiled base bytes ≡ Err place
    compiled-told place e = compiled-through ∙ ap (through base (length bytes)) e

    pub compiled-some : (os : List Operation) → supported_operations (is_some base) bytes ≡ Ok (Some os) → compiled base bytes ≡ compiled_supported base (length bytes) os
    compiled-some os e = compiled-through ∙ ap (through base (length bytes)) e

-- operations that are supported jump inside
pub supported-within : (has_base : Bool) (bytes : List ℕ) (os : List Operation) → supported_operations has_base bytes ≡ Ok (Some os) → All (λ place. place ≤ length bytes) (targets os)
unfolding supported_operations
supported-within has_base bytes os e = targets-within has_base (length bytes) os (listed (operations bytes) e)
  where
    early-no : (early : Bool) (place : ℕ) → (if early then Ok None else Err place) ≡ Ok (Some os) → ⊥
    early-no true place is = cc
    early-no false place is = cc

    behind : (items : List Operation) (fault : Option ℕ) → supported_behind has_base bytes items fault ≡ Ok (Some os) → items ≡ os
    behind items None is = cc
    behind items (Some place) is = absurd (early-no (is_unsupported_early has_base (drop place bytes)) place is)

    all : (ok : Bool) (items : List Operation) (fault : Option ℕ) → (if ok then supported_behind has_base bytes items fault else Ok None) ≡ Ok (Some os) → (ok ≡ true) × (items ≡ os)
    all true items fault is = (refl, behind items fault is)
    all false items fault is = absurd (cc)

    listed : (l : Listing ℕ Operation) → supported_listing has_base bytes l ≡ Ok (Some os) → list_all (is_supported has_base (length bytes)) os ≡ true
    listed l is =
        let both = all (list_all (is_supported has_base (length bytes)) l.items) l.items l.fault is in
        ap (list_all (is_supported has_base (length bytes))) (sym both.1) ∙ both.0

-- ---- what supported operations compile to

module _ (base : Option CompiledParts) (size : ℕ) (os : List Operation) where
  pub supported-none : has_whole_jumps size os ≡ false → compiled_supported base size os ≡ Ok None
  supported-none broken = ap (λ b. if b then Ok (Some (compiled_operations base size os)) else Ok None) broken

  module _ (whole : has_whole_jumps size os ≡ true) where
    supported-some : compiled_supported base size os ≡ Ok (Some (compiled_operations base size os))
    supported-some = ap (λ b. if b then Ok (Some (compiled_operations base size os)) else Ok None) whole

    pub supported-label : (label : ℕ) (x : CompiledParts) → lone_local os ≡ Some label → x ≡ label_alone label → compiled_supported base size os ≡ Ok (Some x)
    supported-label label x lone is = supported-some ∙ ap (λ y. Ok (Some y)) (rw (lone, compiled_operations) (sym is))

    pub supported-parts : (marks : List Bool) (parts : List Part) (need_deref : Bool) → lone_local os ≡ None → Mark marks (targets os) → parts ≡ joined (old_format base os ++ (parts_behind_marks base marks os ++ marked_pad marks size)) → need_deref ≡ leaves_address os → compiled_supported base size os ≡ Ok (Some (record { parts = parts; need_deref = need_deref }))
    supported-parts marks parts need_deref lone stand are is =
        supported-some
        ∙ ap (λ y. Ok (Some y)) (rw (lone, compiled_operations) (ap (λ ps. record { parts = joined (old_format base os ++ ps); need_deref = leaves_address os })
        (sym (ap (λ ps. ps ++ marked_pad marks size) (pads-same base marks (targets os) stand os) ∙ ap (λ ps. parts_behind_pads base (targets os) os ++ ps) (pad-same marks (targets os) stand size)))
        ∙ ap (λ ps. record { parts = ps; need_deref = leaves_address os }) (sym are) ∙ ap (λ b. record { parts = parts; need_deref = b }) (sym is)))

-- ---- what the code knows

-- whether there is a frame base
pub base-given : {A : Type 0} (view : A → CompiledParts) (o : Option A) → is_some o ≡ is_some (option_map view o)
base-given view None = refl
base-given view (Some x) = refl

last-is : (os : List Operation) (k : ℕ) (before : Option Operation) (o : Operation) → length os ≡ suc k → o ≡ get_or os k o → last_or before os ≡ Some o
last-is [] k before o same at = absurd (omega arith)
last-is (x ∷ []) k before o same at = let first : k ≡ 0 = omega arith in ap Some (sym (rw first at at))
last-is (x ∷ y ∷ os) zero before o same at = absurd (omega arith)
last-is (x ∷ y ∷ os) (suc k) before o same at = last-is (y ∷ os) k (Some x) o (omega arith) at

-- the last operation tells whether the result is an address
pub leaves-by-last : (os : List Operation) (o : Operation) → 0 < length os → o ≡ get_or os (length os - 1) o → leaves_address os ≡ is_address_behind (Some o)
leaves-by-last os o some at = ap is_address_behind (last-is os (length os - 1) None o (omega arith) at)

-- an error is of the one as of the other, where both tell the same places
pub told-too : {A B : Type 0} (one : Result A ℕ) (other : Result B ℕ) (e : ExprError) → ((place : ℕ) → one ≡ Err place → other ≡ Err place) → TellsPlace one e → TellsPlace other e
told-too one other (Read what section offset) same told = (told.0, told.1, same offset told.2)
told-too one other TooLarge same told = told
told-too one other (BadLabelRange label) same told = told
told-too one other InvalidAttributeValue same told = told
told-too one other (UnmappedRegister register) same told = told
told-too one other OutOfMemory same told = told
