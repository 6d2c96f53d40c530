-- The operations of an expression, read one after another as far as they are supported.
use Rattle.std.proofs.Common.{◌≡◌, ℕ, List, [], ◌∷◌, ◌++◌, length, drop, Bool, true, false, if◌then◌else◌, Option, Some, None, Ok, Err, refl, sym, ap, ◌∙◌, append_assoc, append-nil}
use Rattle.std.specs.List.{list_all}
use Rattle.std.proofs.lemmas.List.Folds.{list_all-append}
use Rattle.dwc_base.specs.Listing.{Listing, no_items, only_fault, with_first}
use Rattle.dwc_base.specs.Sections.{Fault}
use Rattle.dwc_dwarf.specs.Operations.{Operation, operations, operation_fault}
use Rattle.dwc_native.specs.Parts.{is_supported, is_unsupported_early}
use Rattle.dwc_tabs.specs.Operations.{RefusesOperation, offset_of}
use Rattle.dwc_expr.specs.Steps.{supported_behind, supported_operations}

-- Supported operations that were read, with what is left, make the whole.
pub record ReadSoFar (has_base : Bool) (size : ℕ) (all left : Listing ℕ Operation) (steps : List Operation) : Type 0 where
  pub items : steps ++ left.items ≡ all.items
  pub fault : left.fault ≡ all.fault
  pub supported : list_all (is_supported has_base size) steps ≡ true

-- a refusal is of the operation at some place
pub refused-at : (old new : Listing ℕ Operation) (told : Option Fault) → RefusesOperation old new told → (place : ℕ) × (told ≡ Some (operation_fault place)) × (old ≡ only_fault place)
refused-at old new None refuses = absurd refuses
refused-at old new (Some fault) refuses = (offset_of fault, ap Some refuses.0, refuses.1)

-- what is given where an operation is supported
pub given-some : (supported : Bool) (o given : Operation) → Some given ≡ (if supported then Some o else None) → (supported ≡ true) × (given ≡ o)
given-some true o given is = (refl, cc)
given-some false o given is = absurd (cc)

pub given-none : (supported : Bool) (o : Operation) → None ≡ (if supported then Some o else None) → supported ≡ false
given-none true o is = absurd (cc)
given-none false o is = refl

module _ (has_base : Bool) (bytes : List ℕ) (left : Listing ℕ Operation) (steps : List Operation) (so_far : ReadSoFar has_base (length bytes) (operations bytes) left steps) where
  abbrev supported_all : List Operation → Bool
  supported_all os = list_all (is_supported has_base (length bytes)) os

  -- what a listing comes to, by its items and its fault
  seen-as : (os : List Operation) (fault : Option ℕ) → os ≡ (operations bytes).items → fault ≡ (operations bytes).fault → supported_operations has_base bytes ≡ (if supported_all os then supported_behind has_base bytes os fault else Ok None)
  unfolding supported_operations
  seen-as os fault items-are fault-is =
      ap (λ f. if supported_all (operations bytes).items then supported_behind has_base bytes (operations bytes).items f else Ok None) (sym fault-is)
      ∙ ap (λ xs. if supported_all xs then supported_behind has_base bytes xs fault else Ok None) (sym items-are)

  pub read-more : (o : Operation) (rest : Listing ℕ Operation) → left ≡ with_first o rest → is_supported has_base (length bytes) o ≡ true → ReadSoFar has_base (length bytes) (operations bytes) rest (steps ++ o ∷ [])
  read-more o rest is ok = record {
    items = append_assoc steps (o ∷ []) rest.items ∙ ap (λ (l : Listing ℕ Operation). steps ++ l.items) (sym is) ∙ so_far.items;
    fault = ap (λ (l : Listing ℕ Operation). l.fault) (sym is) ∙ so_far.fault;
    supported = list_all-append (is_supported has_base (length bytes)) steps (o ∷ []) ∙ rw (so_far.supported, ok) refl;
  }

  pub read-unsupported : (o : Operation) (rest : Listing ℕ Operation) → left ≡ with_first o rest → is_supported has_base (length bytes) o ≡ false → supported_operations has_base bytes ≡ Ok None
  read-unsupported o rest is unsupported =
      let fails : supported_all (steps ++ o ∷ rest.items) ≡ false = list_all-append (is_supported has_base (length bytes)) steps (o ∷ rest.items) ∙ rw (so_far.supported, unsupported) refl in
      seen-as (steps ++ o ∷ rest.items) rest.fault (ap (λ (l : Listing ℕ Operation). steps ++ l.items) (sym is) ∙ so_far.items) (ap (λ (l : Listing ℕ Operation). l.fault) (sym is) ∙ so_far.fault)
      ∙ ap (λ b. if b then supported_behind has_base bytes (steps ++ o ∷ rest.items) rest.fault else Ok None) fails

  -- what is read when nothing but a fault or the end is left
  read-all : (fault : Option ℕ) → left.items ≡ [] → left.fault ≡ fault → supported_operations has_base bytes ≡ supported_behind has_base bytes steps fault
  read-all fault none is =
      seen-as steps fault (sym (append-nil steps) ∙ ap (λ xs. steps ++ xs) (sym none) ∙ so_far.items) (sym is ∙ so_far.fault)
      ∙ ap (λ b. if b then supported_behind has_base bytes steps fault else Ok None) so_far.supported

  pub read-whole : left ≡ no_items → supported_operations has_base bytes ≡ Ok (Some steps)
  read-whole is = read-all None (ap (λ (l : Listing ℕ Operation). l.items) is) (ap (λ (l : Listing ℕ Operation). l.fault) is)

  read-fault : (place : ℕ) → left ≡ only_fault place → supported_operations has_base bytes ≡ (if is_unsupported_early has_base (drop place bytes) then Ok None else Err place)
  read-fault place is = read-all (Some place) (ap (λ (l : Listing ℕ Operation). l.items) is) (ap (λ (l : Listing ℕ Operation). l.fault) is)

  pub read-early : (place : ℕ) → left ≡ only_fault place → is_unsupported_early has_base (drop place bytes) ≡ true → supported_operations has_base bytes ≡ Ok None
  read-early place is early = read-fault place is ∙ ap (λ b. if b then Ok None else Err place) early

  pub read-told : (place : ℕ) → left ≡ only_fault place → is_unsupported_early has_base (drop place bytes) ≡ false → supported_operations has_base bytes ≡ Err place
  read-told place is late = read-fault place is ∙ ap (λ b. if b then Ok None else Err place) late

pub read-none : (has_base : Bool) (bytes : List ℕ) → ReadSoFar has_base (length bytes) (operations bytes) (operations bytes) []
read-none has_base bytes = record { items = refl; fault = refl; supported = refl }
