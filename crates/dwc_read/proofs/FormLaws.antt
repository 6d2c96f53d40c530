-- Codes that name no form, and codes behind `indirect`.
use Rattle.std.proofs.Common.{◌≡◌, ℕ, suc, ◌<◌, Ok, ◌≤◌, refl, arith, List, [], ◌∷◌, None, Bool, true, false, cond, eqb, leb}
use Rattle.std.proofs.lemmas.Bool.{ne_eqb, leb-true}
use Rattle.dwc_base.specs.Reading.{Unread, coded, uleb_at}
use Rattle.dwc_dwarf.specs.Values.{form_of, forms, form_behind}
use Rattle.dwc_base.specs.declared.constants.TheConstants.{DW_FORM_indirect}

-- whether the codes of a table are at most n
abbrev is_within : {A : Type 0} → ℕ → List (ℕ × A) → Bool
is_within n [] = true
is_within n (row ∷ rows) = cond (leb row.0 n) (is_within n rows) false

coded-above : {A : Type 0} (n code : ℕ) (rows : List (ℕ × A)) → is_within n rows ≡ true → n < code → coded rows code ≡ None
coded-above n code [] within above = refl
coded-above n code (row ∷ rows) within above = go (leb row.0 n) refl within (λ others. coded-above n code rows others above)
  where
    go : (b : Bool) → leb row.0 n ≡ b → cond b (is_within n rows) false ≡ true → (is_within n rows ≡ true → coded rows code ≡ None) → coded (row ∷ rows) code ≡ None
    go true is others rest =
        let below : row.0 ≤ n = leb-true row.0 n is in
        let other : eqb row.0 code ≡ false = ne_eqb _ _ (omega arith) in
        rw other (rest others)
    go false is others rest = absurd (cc)

-- no form has a code above 65,535
pub form_of_large : (code : ℕ) → 65535 < code → form_of code ≡ None
form_of_large code above = coded-above 65535 code forms refl above

-- behind `indirect` once more
pub form_behind-again : (most : ℕ) (u v : Unread) → uleb_at u ≡ Ok (DW_FORM_indirect, v) → form_behind (suc most) u ≡ form_behind most v
unfolding form_behind
form_behind-again most u v read = rw (read, form_behind) refl
