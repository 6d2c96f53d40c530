-- The texts of the names of wrappers.
use Rattle.std.proofs.Common.{ℕ, ◌<◌, ◌≡◌, refl, List, [], ◌∷◌, ◌++◌, Bool, true, false}
use Rattle.std.specs.Prelude.{◌==◌, codes, if◌then◌else◌, nat_lt}
use Rattle.std.specs.List.{list_all}
use Rattle.std.proofs.lemmas.Bool.{and_parts, ltb-true}
use Rattle.std.proofs.lemmas.List.Elements.{All-append, All-cons, All-nil}
use Rattle.dwc_base.specs.declared.constants.TheConstants.{DW_TAG_pointer_type}
use Rattle.dwc_rules.specs.Wrappers.{wrapper_name}
use Rattle.dwc_unit.specs.TextTables.{IsText}

plain-text : (t : List ℕ) → list_all (λ b. nat_lt 0 b) t ≡ true → IsText t
plain-text [] all = All-nil (λ b. 0 < b)
plain-text (b ∷ t) all = let both = and_parts (nat_lt 0 b) (list_all (λ b. nat_lt 0 b) t) all in All-cons (λ b. 0 < b) b t (ltb-true 0 b both.0) (plain-text t both.1)

-- The name of a wrapper has no zero byte.
pub wrapper-text : (tag : ℕ) (name : List ℕ) → IsText name → IsText (wrapper_name tag name)
wrapper-text tag name plain = go (tag == DW_TAG_pointer_type)
  where
    go : (b : Bool) → IsText ((if b then codes "WebAssemblyPtrWrapper<" else codes "WebAssemblyRefWrapper<") ++ name ++ codes ">")
    go true = All-append (λ b. 0 < b) (codes "WebAssemblyPtrWrapper<") (name ++ codes ">") (plain-text (codes "WebAssemblyPtrWrapper<") refl) (All-append (λ b. 0 < b) name (codes ">") plain (plain-text (codes ">") refl))
    go false = All-append (λ b. 0 < b) (codes "WebAssemblyRefWrapper<") (name ++ codes ">") (plain-text (codes "WebAssemblyRefWrapper<") refl) (All-append (λ b. 0 < b) name (codes ">") plain (plain-text (codes ">") refl))
