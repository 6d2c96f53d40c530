-- Printed text in pieces.
use Rattle.std.proofs.Common.{◌≡◌, ◌==◌, true, List, ℕ, [], ◌∷◌, ◌++◌, length, append_assoc, sym, ap, ◌∙◌, arith, refl}
use Rattle.std.proofs.lemmas.Bool.Decides.{Decides-eqb}
use Rattle.std.specs.Prelude.{codes}
use Rattle.hex.specs.Hex.{encode_with, encode_lower}
use Rattle.dwc_cli.specs.Printed.{space, line_feed}

-- the digits of two pieces, in any table
encode_with-append : (t xs ys : List ℕ) → encode_with t (xs ++ ys) ≡ encode_with t xs ++ encode_with t ys
unfolding encode_with
encode_with-append t [] ys = refl
encode_with-append t (x ∷ xs) ys = rw (encode_with-append t xs ys)

-- the lower-case digits of two pieces
encode_lower_parts : (xs ys : List ℕ) → encode_lower (xs ++ ys) ≡ encode_lower xs ++ encode_lower ys
encode_lower_parts xs ys = encode_with-append _ xs ys

pub hex_parts : (piece later rest : List ℕ) → piece ++ later ≡ rest → encode_lower piece ++ encode_lower later ≡ encode_lower rest
hex_parts piece later rest parts = rw (← parts) (sym (encode_lower_parts piece later))

-- with no bytes to come
pub hex_none : (rest : List ℕ) → true ≡ (length rest == 0) → encode_lower rest ≡ []
unfolding encode_with
hex_none [] none = refl
hex_none (x ∷ xs) none = absurd (omega (arith, (Decides-eqb (length (x ∷ xs)) 0).0 (sym none)))

-- the line of a section, in front of what stands behind it
pub section_parts : (name digits rest : List ℕ) → (codes "section " ++ (name ++ (space ++ (digits ++ line_feed)))) ++ rest ≡ codes "section " ++ (name ++ (space ++ (digits ++ (line_feed ++ rest))))
section_parts name digits rest = ap (λ xs. codes "section " ++ xs) (append_assoc name (space ++ (digits ++ line_feed)) rest ∙ ap (λ xs. name ++ (space ++ xs)) (append_assoc digits line_feed rest))

-- lists that are joined from the left, and from the right
joined : (a b c d e f h : List ℕ) → (((((a ++ b) ++ c) ++ d) ++ e) ++ f) ++ h ≡ a ++ (b ++ (c ++ (d ++ (e ++ (f ++ h)))))
joined a b c d e f h =
    append_assoc ((((a ++ b) ++ c) ++ d) ++ e) f h
    ∙ append_assoc (((a ++ b) ++ c) ++ d) e (f ++ h)
    ∙ append_assoc ((a ++ b) ++ c) d (e ++ (f ++ h))
    ∙ append_assoc (a ++ b) c (d ++ (e ++ (f ++ h)))
    ∙ append_assoc a b (c ++ (d ++ (e ++ (f ++ h))))

-- the line and the body of a section, in front of its relocations
pub body_parts : (name digits hex rest : List ℕ) → (codes "section " ++ (name ++ (space ++ (digits ++ (line_feed ++ (hex ++ line_feed)))))) ++ rest ≡ codes "section " ++ name ++ space ++ digits ++ line_feed ++ hex ++ line_feed ++ rest
body_parts name digits hex rest = ap (λ xs. xs ++ rest) (sym (joined (codes "section ") name space digits line_feed hex line_feed))

-- the line of a relocation, in front of what ends it
pub target_parts : (front target addend : List ℕ) → front ++ (target ++ (space ++ addend ++ line_feed)) ≡ front ++ target ++ space ++ addend ++ line_feed
target_parts front target addend =
    sym (append_assoc front target (space ++ addend ++ line_feed))
    ∙ sym (append_assoc (front ++ target) (space ++ addend) line_feed)
    ∙ ap (λ xs. xs ++ line_feed) (sym (append_assoc (front ++ target) space addend))

-- where its target has a name
pub named_parts : (front name addend : List ℕ) → (front ++ codes "section ") ++ (name ++ (space ++ addend ++ line_feed)) ≡ front ++ (codes "section " ++ name) ++ space ++ addend ++ line_feed
named_parts front name addend = append_assoc front (codes "section ") (name ++ (space ++ addend ++ line_feed)) ∙ target_parts front (codes "section " ++ name) addend
