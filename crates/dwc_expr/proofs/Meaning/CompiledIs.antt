-- What compiles is what its operations compile to.
use Rattle.std.proofs.Common.{◌≡◌, ℕ, refl, sym, ap, List, length, drop, Option, Some, None, is_some, Result, Ok, Err, Bool, true, false}
use Rattle.std.specs.Prelude.{if◌then◌else◌}
use Rattle.std.specs.List.{list_all}
use Rattle.dwc_dwarf.specs.Operations.{operations}
use Rattle.dwc_native.specs.Parts.{CompiledParts, is_supported, is_unsupported_early, has_whole_jumps, compiled_operations, holds_jump, compiled_behind, compiled_listing, compiled}

-- ---- what compiles

pub record IsCompiled (base : Option CompiledParts) (bytes : List ℕ) (x : CompiledParts) : Type 0 where
  pub supported : list_all (is_supported (is_some base) (length bytes)) (operations bytes).items ≡ true
  pub is : x ≡ compiled_operations base (length bytes) (operations bytes).items
  pub free : holds_jump base ≡ false

pub is-compiled : (base : Option CompiledParts) (bytes : List ℕ) (x : CompiledParts) → compiled base bytes ≡ Ok (Some x) → IsCompiled base bytes x
unfolding compiled
is-compiled base bytes x h = go (holds_jump base) refl h
  where
    some-is : (y : CompiledParts) → ◌≡◌ {A = Result (Option CompiledParts) ℕ} (Ok (Some y)) (Ok (Some x)) → x ≡ y
    some-is y e = sym (ap (λ (r : Result (Option CompiledParts) ℕ). of r) e)
      where
        at : Option CompiledParts → CompiledParts
        at None = x
        at (Some z) = z

        of : Result (Option CompiledParts) ℕ → CompiledParts
        of (Ok o) = at o
        of (Err place) = x

    early : (b : Bool) (place : ℕ) → if◌then◌else◌ {A = Result (Option CompiledParts) ℕ} b (Ok None) (Err place) ≡ Ok (Some x) → ⊥
    early true place e = absurd (cc)
    early false place e = absurd (cc)

    whole : (b : Bool) → if◌then◌else◌ {A = Result (Option CompiledParts) ℕ} b (Ok (Some (compiled_operations base (length bytes) (operations bytes).items))) (Ok None) ≡ Ok (Some x) → x ≡ compiled_operations base (length bytes) (operations bytes).items
    whole true e = some-is (compiled_operations base (length bytes) (operations bytes).items) e
    whole false e = absurd (cc)

    behind : (fault : Option ℕ) → compiled_behind base bytes (operations bytes).items fault ≡ Ok (Some x) → x ≡ compiled_operations base (length bytes) (operations bytes).items
    behind None e = whole (has_whole_jumps (length bytes) (operations bytes).items) e
    behind (Some place) e = absurd (early (is_unsupported_early (is_some base) (drop place bytes)) place e)

    listed : holds_jump base ≡ false → (b : Bool) → list_all (is_supported (is_some base) (length bytes)) (operations bytes).items ≡ b → if◌then◌else◌ {A = Result (Option CompiledParts) ℕ} b (compiled_behind base bytes (operations bytes).items (operations bytes).fault) (Ok None) ≡ Ok (Some x) → IsCompiled base bytes x
    listed free true s e = record { supported = s; is = behind (operations bytes).fault e; free = free }
    listed free false s e = absurd (cc)

    go : (b : Bool) → holds_jump base ≡ b → if◌then◌else◌ {A = Result (Option CompiledParts) ℕ} b (Ok None) (compiled_listing base bytes (operations bytes)) ≡ Ok (Some x) → IsCompiled base bytes x
    go true f e = absurd (cc)
    go false f e = listed f (list_all (is_supported (is_some base) (length bytes)) (operations bytes).items) refl e
