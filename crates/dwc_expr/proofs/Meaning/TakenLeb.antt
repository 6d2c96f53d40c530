-- LEB128 numbers are such.
use Rattle.std.proofs.Common.{◌≡◌, ℕ, suc, ◌+◌, ◌*◌, ◌%◌, ◌^◌, refl, sym, ap, ◌∙◌, List, [], ◌∷◌, ◌++◌, length, drop, Option, Some, None, Ok, Err, Bool, true, false, ltb, cond}
use Rattle.std.specs.Prelude.{ℤ, pos, ◌-ℤ◌, if◌then◌else◌}
use Rattle.std.specs.Option.{unwrap_or}
use Rattle.std.proofs.Math.Seq.{drop-append_seam}
use Rattle.std.proofs.lemmas.Bool.{ltb-true}
use Rattle.dwc_base.specs.declared.records.Endian.TheVariants.{Little}
use Rattle.dwc_base.specs.declared.faults.Flaw.TheVariants.{TooWide}
use Rattle.dwc_base.specs.Reading.{Unread, Read, passed, uleb_value, uleb_with, uleb_fitting, uleb_at, sleb_value, sleb_with, sleb_fitting, sleb_at, is_64_bit}
use Rattle.dwc_base.specs.Spelling.{Spells, unread_at}
use Rattle.dwc_base.proofs.Spellings.{Spells-uleb}
use Rattle.dwc_section.proofs.ReadNumbers.{sleb_value-append}
use Rattle.dwc_expr.proofs.Meaning.TakenBytes.{TakesFront, Took, ok-rest, ok-value}

pub record EndsItself {A : Type 0} (value : List ℕ → Option (A × ℕ)) (bytes : List ℕ) (n : A) (count : ℕ) : Type 0 where
  pub taken : List ℕ
  pub rest : List ℕ
  pub whole : bytes ≡ taken ++ rest
  pub counted : count ≡ length taken
  pub dropped : drop count bytes ≡ rest
  pub is : value taken ≡ Some (n, length taken)

uleb-ends : (bytes : List ℕ) (n count : ℕ) → uleb_value bytes ≡ Some (n, count) → EndsItself uleb_value bytes n count
uleb-ends [] n count h = absurd (cc)
uleb-ends (b ∷ bs) n count h = go (λ m k e. uleb-ends bs m k e) (ltb b 128) refl (uleb_value bs) refl h
  where
    number_of : {m k : ℕ} → ◌≡◌ {A = Option (ℕ × ℕ)} (Some (m, k)) (Some (n, count)) → m ≡ n
    number_of e = ap (λ (o : Option (ℕ × ℕ)). (unwrap_or o (0, 0)).0) e

    count_of : {m k : ℕ} → ◌≡◌ {A = Option (ℕ × ℕ)} (Some (m, k)) (Some (n, count)) → k ≡ count
    count_of e = ap (λ (o : Option (ℕ × ℕ)). (unwrap_or o (0, 0)).1) e

    more : ltb b 128 ≡ false → (high : ℕ × ℕ) → EndsItself uleb_value bs high.0 high.1 → ◌≡◌ {A = Option (ℕ × ℕ)} (Some (b % 128 + 128 * high.0, suc high.1)) (Some (n, count)) → EndsItself uleb_value (b ∷ bs) n count
    more last high w e = record {
      taken = b ∷ w.taken;
      rest = w.rest;
      whole = ap (λ cs. b ∷ cs) w.whole;
      counted = sym (count_of e) ∙ ap suc w.counted;
      dropped = ap (λ k. drop k (b ∷ bs)) (sym (count_of e)) ∙ w.dropped;
      is = rw (last, w.is) (ap (λ m. Some (m, suc (length w.taken))) (number_of e));
    }

    go : ((m : ℕ) (k : ℕ) → uleb_value bs ≡ Some (m, k) → EndsItself uleb_value bs m k) → (last : Bool) → ltb b 128 ≡ last → (r : Option (ℕ × ℕ)) → uleb_value bs ≡ r → cond {A = Option (ℕ × ℕ)} last (Some (b, 1)) (uleb_with (b % 128) r) ≡ Some (n, count) → EndsItself uleb_value (b ∷ bs) n count
    go rest true last r inner e = record {
      taken = b ∷ [];
      rest = bs;
      whole = refl;
      counted = sym (count_of e);
      dropped = ap (λ k. drop k (b ∷ bs)) (sym (count_of e));
      is = rw last (ap (λ m. Some (m, 1)) (number_of e));
    }
    go rest false last None inner e = absurd (cc)
    go rest false last (Some high) inner e = more last high (rest high.0 high.1 inner) e

sleb-ends : (bytes : List ℕ) (n : ℤ) (count : ℕ) → sleb_value bytes ≡ Some (n, count) → EndsItself sleb_value bytes n count
sleb-ends [] n count h = absurd (cc)
sleb-ends (b ∷ bs) n count h = go h (λ m k e. sleb-ends bs m k e) (ltb b 128) refl (sleb_value bs) refl h
  where
    number_of : {m : ℤ} {k : ℕ} → ◌≡◌ {A = Option (ℤ × ℕ)} (Some (m, k)) (Some (n, count)) → m ≡ n
    number_of e = ap (λ (o : Option (ℤ × ℕ)). (unwrap_or o (n, 0)).0) e

    count_of : {m : ℤ} {k : ℕ} → ◌≡◌ {A = Option (ℤ × ℕ)} (Some (m, k)) (Some (n, count)) → k ≡ count
    count_of e = ap (λ (o : Option (ℤ × ℕ)). (unwrap_or o (n, 0)).1) e

    more : ltb b 128 ≡ false → (high : ℤ × ℕ) → EndsItself sleb_value bs high.0 high.1 → sleb_with (b % 128) (Some high) ≡ Some (n, count) → EndsItself sleb_value (b ∷ bs) n count
    more last high w e = record {
      taken = b ∷ w.taken;
      rest = w.rest;
      whole = ap (λ cs. b ∷ cs) w.whole;
      counted = sym (count_of e) ∙ ap suc w.counted;
      dropped = ap (λ k. drop k (b ∷ bs)) (sym (count_of e)) ∙ w.dropped;
      is = rw (last, w.is) (ap (λ m. Some (m, suc (length w.taken))) (number_of e));
    }

    alone : ltb b 128 ≡ true → sleb_value (b ∷ []) ≡ sleb_value (b ∷ bs)
    alone last = rw last refl

    go : sleb_value (b ∷ bs) ≡ Some (n, count) → ((m : ℤ) (k : ℕ) → sleb_value bs ≡ Some (m, k) → EndsItself sleb_value bs m k) → (last : Bool) → ltb b 128 ≡ last → (r : Option (ℤ × ℕ)) → sleb_value bs ≡ r → cond {A = Option (ℤ × ℕ)} last (Some ((if ltb b 64 then pos b else pos b -ℤ pos 128), 1)) (sleb_with (b % 128) r) ≡ Some (n, count) → EndsItself sleb_value (b ∷ bs) n count
    go all rest true last r inner e = record {
      taken = b ∷ [];
      rest = bs;
      whole = refl;
      counted = sym (count_of e);
      dropped = ap (λ k. drop k (b ∷ bs)) (sym (count_of e));
      is = alone last ∙ all ∙ ap (λ k. Some (n, k)) (sym (count_of e));
    }
    go all rest false last None inner e = absurd (cc)
    go all rest false last (Some high) inner e = more last high (rest high.0 high.1 inner) e

pub takes-uleb : TakesFront uleb_at
unfolding uleb_at
takes-uleb = record { takes = λ place bytes x v h. go place bytes x v (uleb_value bytes) refl h }
  where
    fits : (place : ℕ) (bytes : List ℕ) (x : ℕ) (v : Unread) (n : ℕ × ℕ) (b : Bool) → ltb n.0 (2 ^ 64) ≡ b → EndsItself uleb_value bytes n.0 n.1
        → if◌then◌else◌ {A = Read ℕ} b (Ok (n.0, passed n.1 (unread_at Little place bytes))) (Err TooWide) ≡ Ok (x, v) → Took uleb_at place bytes x v
    fits place bytes x v n false wide w h = absurd (cc)
    fits place bytes x v n true small w h = record {
      taken = w.taken;
      rest = w.rest;
      whole = w.whole;
      behind = sym (ok-rest h) ∙ ap (λ k. unread_at Little (place + k) (drop n.1 bytes)) w.counted ∙ ap (λ bs. unread_at Little (place + length w.taken) bs) w.dropped;
      again = λ p more. (Spells-uleb Little w.taken n.0 w.is (ltb-true n.0 (2 ^ 64) small)).reads p more ∙ ap (λ m. Ok (m, unread_at Little (p + length w.taken) more)) (ok-value h);
    }

    go : (place : ℕ) (bytes : List ℕ) (x : ℕ) (v : Unread) (o : Option (ℕ × ℕ)) → uleb_value bytes ≡ o → uleb_fitting (unread_at Little place bytes) o ≡ Ok (x, v) → Took uleb_at place bytes x v
    go place bytes x v None e h = absurd (cc)
    go place bytes x v (Some n) e h = fits place bytes x v n (ltb n.0 (2 ^ 64)) refl (uleb-ends bytes n.0 n.1 e) h

pub spells-sleb : (bytes : List ℕ) (z : ℤ) → sleb_value bytes ≡ Some (z, length bytes) → is_64_bit z ≡ true → Spells Little sleb_at bytes z
unfolding sleb_at
spells-sleb bytes z is small = record {
  reads = λ place rest.
      let whole : sleb_value (bytes ++ rest) ≡ Some (z, length bytes) = sleb_value-append bytes rest z (length bytes) is in
      rw (whole, small, drop-append_seam) refl;
}

pub takes-sleb : TakesFront sleb_at
unfolding sleb_at
takes-sleb = record { takes = λ place bytes x v h. go place bytes x v (sleb_value bytes) refl h }
  where
    fits : (place : ℕ) (bytes : List ℕ) (x : ℤ) (v : Unread) (n : ℤ × ℕ) (b : Bool) → is_64_bit n.0 ≡ b → EndsItself sleb_value bytes n.0 n.1
        → if◌then◌else◌ {A = Read ℤ} b (Ok (n.0, passed n.1 (unread_at Little place bytes))) (Err TooWide) ≡ Ok (x, v) → Took sleb_at place bytes x v
    fits place bytes x v n false wide w h = absurd (cc)
    fits place bytes x v n true small w h = record {
      taken = w.taken;
      rest = w.rest;
      whole = w.whole;
      behind = sym (ok-rest h) ∙ ap (λ k. unread_at Little (place + k) (drop n.1 bytes)) w.counted ∙ ap (λ bs. unread_at Little (place + length w.taken) bs) w.dropped;
      again = λ p more. (spells-sleb w.taken n.0 w.is small).reads p more ∙ ap (λ m. Ok (m, unread_at Little (p + length w.taken) more)) (ok-value h);
    }

    go : (place : ℕ) (bytes : List ℕ) (x : ℤ) (v : Unread) (o : Option (ℤ × ℕ)) → sleb_value bytes ≡ o → sleb_fitting (unread_at Little place bytes) o ≡ Ok (x, v) → Took sleb_at place bytes x v
    go place bytes x v None e h = absurd (cc)
    go place bytes x v (Some n) e h = fits place bytes x v n (is_64_bit n.0) refl (sleb-ends bytes n.0 n.1 e) h
