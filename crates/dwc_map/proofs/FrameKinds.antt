-- Names and kinds of what a map file tells of frames.
use Rattle.std.proofs.Common.{◌≡◌, ◌<◌, ◌≤◌, List, ℕ, ℤ, arith, Option, Some, None, [], ◌∷◌, length, codes, refl}
use Rattle.std.specs.Prelude.{option_and_then}
use Rattle.serde_json.specs.Data.{Data, null, boolean, number, string, array, object, Items, no_items, item}
use Rattle.serde_json.specs.Find.{as_array}
use Rattle.serde_json.specs.View.{items_view}
use Rattle.serde_json.specs.declared.value.Value.{Value}
use Rattle.dwc_native.specs.CallFrames.{FrameInstruction}
use Rattle.dwc_map.specs.MapValues.{◌>>=◌, text_of, named_in}
use Rattle.dwc_map.specs.MapFrames.{of_register, of_offset, of_both, instruction_kinds, instruction_of}
use Rattle.dwc_map.proofs.MapKinds.{bytes_eq-false}

-- the instruction of a list of its name and its operands
abbrev pub instruction_in : Items → Option FrameInstruction
instruction_in no_items = None
instruction_in (item name operands) = text_of name >>= λ text. option_and_then (λ kind. kind operands) (named_in instruction_kinds text)

-- an instruction by its items
pub instruction_of_items : (d : Data) → instruction_of d ≡ as_array d >>= instruction_in
instruction_of_items null = refl
instruction_of_items (boolean b) = refl
instruction_of_items (number n) = refl
instruction_of_items (string s) = refl
instruction_of_items (array no_items) = refl
instruction_of_items (array (item d ds)) = go (text_of d)
  where
    kinds : (o : Option (Items → Option FrameInstruction)) → (o >>= λ kind. kind ds) ≡ option_and_then (λ kind. kind ds) o
    kinds None = refl
    kinds (Some kind) = refl

    go : (o : Option (List ℕ)) → (o >>= named_in instruction_kinds >>= λ kind. kind ds) ≡ (o >>= λ text. option_and_then (λ kind. kind ds) (named_in instruction_kinds text))
    go None = refl
    go (Some text) = kinds (named_in instruction_kinds text)
instruction_of_items (object ms) = refl

-- a text that is the name of no instruction
pub named_in-no_instruction : (name : List ℕ) → (name ≡ codes "cfa" → ⊥) → (name ≡ codes "cfa_register" → ⊥) → (name ≡ codes "cfa_offset" → ⊥) → (name ≡ codes "restore" → ⊥) → (name ≡ codes "undefined" → ⊥)
    → (name ≡ codes "same_value" → ⊥) → (name ≡ codes "offset" → ⊥) → (name ≡ codes "remember" → ⊥) → (name ≡ codes "restore_state" → ⊥) → named_in instruction_kinds name ≡ None
named_in-no_instruction name h1 h2 h3 h4 h5 h6 h7 h8 h9 =
    rw (
      bytes_eq-false (codes "cfa") name h1,
      bytes_eq-false (codes "cfa_register") name h2,
      bytes_eq-false (codes "cfa_offset") name h3,
      bytes_eq-false (codes "restore") name h4,
      bytes_eq-false (codes "undefined") name h5,
      bytes_eq-false (codes "same_value") name h6,
      bytes_eq-false (codes "offset") name h7,
      bytes_eq-false (codes "remember") name h8,
      bytes_eq-false (codes "restore_state") name h9,
    )

-- more operands than one
pub of_register-many : (instruction : ℕ → FrameInstruction) (vs : List Value) → 2 ≤ length vs → None ≡ of_register instruction (items_view vs)
of_register-many instruction [] h = absurd (omega (arith, h))
of_register-many instruction (v ∷ []) h = absurd (omega (arith, h))
of_register-many instruction (v ∷ w ∷ vs) h = refl

pub of_offset-many : (instruction : ℤ → FrameInstruction) (vs : List Value) → 2 ≤ length vs → None ≡ of_offset instruction (items_view vs)
of_offset-many instruction [] h = absurd (omega (arith, h))
of_offset-many instruction (v ∷ []) h = absurd (omega (arith, h))
of_offset-many instruction (v ∷ w ∷ vs) h = refl

-- fewer operands than two, and more
pub of_both-few : (instruction : ℕ → ℤ → FrameInstruction) (vs : List Value) → length vs < 2 → None ≡ of_both instruction (items_view vs)
of_both-few instruction [] h = refl
of_both-few instruction (v ∷ []) h = refl
of_both-few instruction (v ∷ w ∷ vs) h = absurd (omega (arith, h))

pub of_both-many : (instruction : ℕ → ℤ → FrameInstruction) (vs : List Value) → 3 ≤ length vs → None ≡ of_both instruction (items_view vs)
of_both-many instruction [] h = absurd (omega (arith, h))
of_both-many instruction (v ∷ []) h = absurd (omega (arith, h))
of_both-many instruction (v ∷ w ∷ []) h = absurd (omega (arith, h))
of_both-many instruction (v ∷ w ∷ x ∷ vs) h = refl
