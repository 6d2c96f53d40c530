-- The maximal ranges of bytes that are wanted, from byte to byte of a part of which all are wanted, or none.
use Rattle.std.proofs.Common.{◌≡◌, ℕ, zero, suc, ◌<◌, ◌≤◌, ◌+◌, List, [], ◌∷◌, true, false, refl, ap, sym, ◌∙◌, subst, arith, inl, inr}
use Rattle.std.specs.Prelude.{Bool, ◌⊎◌}
use Rattle.std.proofs.lemmas.Bool.{eq-eqb, ne_eqb}
use Rattle.dwc_native.specs.ShownSources.{byte_before, ranges_where, Apart}
use Rattle.dwc_addr.proofs.ShownLaws.{ranges-apart}

module _ (w : ℕ → Bool) where
  one-not : (byte count : ℕ) → w byte ≡ false → ranges_where w byte (suc count) ≡ ranges_where w (suc byte) count
  unfolding ranges_where
  one-not byte count not_it = ap (λ (b : Bool). elim b [ true ↦ byte_before byte (ranges_where w (suc byte) count) | false ↦ ranges_where w (suc byte) count ]) not_it

  one-wanted : (byte count : ℕ) → w byte ≡ true → ranges_where w byte (suc count) ≡ byte_before byte (ranges_where w (suc byte) count)
  unfolding ranges_where
  one-wanted byte count wanted = ap (λ (b : Bool). elim b [ true ↦ byte_before byte (ranges_where w (suc byte) count) | false ↦ ranges_where w (suc byte) count ]) wanted

  pub none-left : (byte : ℕ) → ranges_where w byte zero ≡ []
  unfolding ranges_where
  none-left byte = refl

  -- Where no byte of a part is wanted, the ranges begin behind it.
  pub where-passed : (byte n count : ℕ) → ((b : ℕ) → byte ≤ b → b < byte + n → w b ≡ false) → ranges_where w byte (n + count) ≡ ranges_where w (byte + n) count
  where-passed byte zero count none =
      let same : byte + 0 ≡ byte = omega arith in
      let all : 0 + count ≡ count = omega arith in
      ap (ranges_where w byte) all ∙ ap (λ b. ranges_where w b count) (sym same)
  where-passed byte (suc n) count none =
      let same : suc byte + n ≡ byte + suc n = omega arith in
      let all : suc n + count ≡ suc (n + count) = omega arith in
      ap (ranges_where w byte) all
      ∙ one-not byte (n + count) (none byte (omega arith) (omega arith))
      ∙ where-passed (suc byte) n count (λ b from to. none b (omega (arith, from)) (omega (arith, to)))
      ∙ ap (λ b. ranges_where w b count) same

  -- a byte in front of ranges that begin behind the next one is a range of its own
  alone : (byte to : ℕ) (rs : List (ℕ × ℕ)) → Apart (suc (suc byte)) to rs → byte_before byte rs ≡ (byte, suc byte) ∷ rs
  alone byte to [] apart = refl
  alone byte to (r ∷ rs) apart = rw (ne_eqb r.0 (suc byte) (λ same. omega (arith, same, apart.0))) refl

  -- what is wanted ends at a byte
  abbrev pub EndsAt : ℕ → ℕ → Type 0
  EndsAt byte count = (count ≡ 0) ⊎ (w byte ≡ false)

  last-wanted : (byte count : ℕ) → w byte ≡ true → EndsAt (suc byte) count → ranges_where w byte (suc count) ≡ (byte, suc byte) ∷ ranges_where w (suc byte) count
  last-wanted byte zero wanted ends = one-wanted byte zero wanted ∙ ap (byte_before byte) (none-left (suc byte)) ∙ ap (λ rs. (byte, suc byte) ∷ rs) (sym (none-left (suc byte)))
  last-wanted byte (suc count) wanted (inl none) = absurd (omega (arith, none))
  last-wanted byte (suc count) wanted (inr not_next) =
      let next = one-not (suc byte) count not_next in
      one-wanted byte (suc count) wanted
      ∙ ap (byte_before byte) next
      ∙ alone byte (suc (suc byte) + count) (ranges_where w (suc (suc byte)) count) (ranges-apart w (suc (suc byte)) count)
      ∙ ap (λ rs. (byte, suc byte) ∷ rs) (sym next)

  -- a byte in front of the range that begins behind it
  joined : (byte end : ℕ) (rs : List (ℕ × ℕ)) → byte_before byte ((suc byte, end) ∷ rs) ≡ (byte, end) ∷ rs
  joined byte end rs = rw (eq-eqb (suc byte) (suc byte) refl) refl

  -- Where all bytes of a part are wanted, and what is wanted ends behind it, the part is a range in front of the others.
  pub where-range : (byte n count : ℕ) → ((b : ℕ) → byte ≤ b → b < byte + suc n → w b ≡ true) → EndsAt (byte + suc n) count
      → ranges_where w byte (suc n + count) ≡ (byte, byte + suc n) ∷ ranges_where w (byte + suc n) count
  where-range byte zero count all ends =
      let next : byte + 1 ≡ suc byte = omega arith in
      let whole : 1 + count ≡ suc count = omega arith in
      ap (ranges_where w byte) whole
      ∙ last-wanted byte count (all byte (omega arith) (omega arith)) (subst (λ b. EndsAt b count) next ends)
      ∙ ap (λ b. (byte, b) ∷ ranges_where w b count) (sym next)
  where-range byte (suc n) count all ends =
      let same : suc byte + suc n ≡ byte + suc (suc n) = omega arith in
      let whole : suc (suc n) + count ≡ suc (suc n + count) = omega arith in
      ap (ranges_where w byte) whole
      ∙ one-wanted byte (suc n + count) (all byte (omega arith) (omega arith))
      ∙ ap (byte_before byte) (where-range (suc byte) n count (λ b from to. all b (omega (arith, from)) (omega (arith, to))) (subst (λ b. EndsAt b count) (sym same) ends))
      ∙ joined byte (suc byte + suc n) (ranges_where w (suc byte + suc n) count)
      ∙ ap (λ b. (byte, b) ∷ ranges_where w b count) same
