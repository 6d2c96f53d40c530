-- Texts that are laid out in the order of first use: one more text, and the texts of one part behind another.
use Rattle.std.proofs.Common.{◌≡◌, ◌≢◌, ℕ, zero, suc, ◌+◌, ◌<◌, ◌≤◌, refl, sym, ap, subst, ◌∙◌, arith, List, [], ◌∷◌, ◌++◌, append_assoc, append-nil, length, length-append, map, drop, get_or, replicate, Bool, true, false, Option, Some, None, Err}
use Rattle.std.specs.Prelude.{Result, IfErr, ◌==◌, ◌||◌, if◌then◌else◌, is_some, slice_set}
use Rattle.std.specs.List.{All, flat_map, list_any}
use Rattle.std.specs.Option.{option_or}
use Rattle.std.proofs.lemmas.Bool.{eqb-false, eqb-true}
use Rattle.std.proofs.lemmas.List.{drop_all, length-replicate, length-set, map-append}
use Rattle.std.proofs.lemmas.List.Elements.{All-push, All-nil}
use Rattle.dwc_dwarf.specs.TreeLaws.{texts_ended}
use Rattle.dwc_base.specs.Outputs.{OutputRelocation}
use Rattle.dwc_section.specs.declared.error.WriteError.{WriteError}
use Rattle.dwc_section.specs.declared.error.WriteError.TheVariants.{TooLarge, InvalidFrameCodeOffset, InvalidFrameDataOffset, OutOfMemory}
use Rattle.dwc_write.specs.declared.text_layout.TextLayout.{TextLayout}
use Rattle.dwc_section.specs.Spelled.{at_places}
use Rattle.dwc_base.specs.declared.section_name.SectionName.TheVariants.{Str}
use Rattle.dwc_section.specs.Writers.{most_bytes, section_of}
use Rattle.dwc_section.proofs.RefusalLaws.{past-limit, past-more}
use Rattle.dwc_unit.specs.GivenUnits.{place_of}
use Rattle.dwc_unit.specs.UsedTexts.{with_number, with_numbers, text_numbered, texts_bytes, place_of_text}
use Rattle.dwc_write.specs.TextViews.{BehindText, IsTextLayout, IsTextRefusal, UsesTexts}

-- ---- one text

module _ (texts : List (List ℕ)) where
  -- a number is among some exactly where its text has a place
  pub any-placed : (place n : ℕ) (used : List ℕ) → list_any (λ k. k == n) used ≡ is_some (place_of_text texts place used n)
  any-placed place n [] = refl
  any-placed place n (k ∷ ks) = go (k == n) (any-placed (place + suc (length (text_numbered texts k))) n ks)
    where
      go : (b : Bool) → list_any (λ j. j == n) ks ≡ is_some (place_of_text texts (place + suc (length (text_numbered texts k))) ks n)
          → (b || list_any (λ j. j == n) ks) ≡ is_some (if b then Some place else place_of_text texts (place + suc (length (text_numbered texts k))) ks n)
      go true same = refl
      go false same = same

  ended-both : (a b : List (List ℕ)) → texts_ended (a ++ b) ≡ texts_ended a ++ texts_ended b
  ended-both [] b = refl
  ended-both (t ∷ ts) b = ap (λ bytes. (t ++ 0 ∷ []) ++ bytes) (ended-both ts b) ∙ sym (append_assoc (t ++ 0 ∷ []) (texts_ended ts) (texts_ended b))

  -- the bytes of one text more
  pub bytes-more : (used : List ℕ) (n : ℕ) → texts_bytes texts (used ++ n ∷ []) ≡ texts_bytes texts used ++ (text_numbered texts n ++ 0 ∷ [])
  bytes-more used n =
      ap texts_ended (map-append (text_numbered texts) used (n ∷ [])) ∙ ended-both (map (text_numbered texts) used) (text_numbered texts n ∷ []) ∙ ap (λ bytes. texts_bytes texts used ++ bytes) (append-nil (text_numbered texts n ++ 0 ∷ []))

  pub length-more : (used : List ℕ) (n : ℕ) → length (texts_bytes texts (used ++ n ∷ [])) ≡ length (texts_bytes texts used) + length (text_numbered texts n ++ 0 ∷ [])
  length-more used n = ap length (bytes-more used n) ∙ length-append (texts_bytes texts used) (text_numbered texts n ++ 0 ∷ [])

  -- where texts stand among one text more
  pub place-more : (used : List ℕ) (n m place : ℕ) → place_of_text texts place (used ++ n ∷ []) m ≡ option_or (place_of_text texts place used m) (if n == m then Some (place + length (texts_bytes texts used)) else None)
  place-more [] n m place = ap (λ p. if n == m then Some p else None) (omega arith)
  place-more (k ∷ ks) n m place = go (k == m) (place-more ks n m next)
    where
      next : ℕ
      next = place + suc (length (text_numbered texts k))

      long : next + length (texts_bytes texts ks) ≡ place + length (texts_bytes texts (k ∷ ks))
      long = omega (arith, length-append (text_numbered texts k ++ 0 ∷ []) (texts_bytes texts ks), length-append (text_numbered texts k) (0 ∷ []))

      go : (b : Bool) → place_of_text texts next (ks ++ n ∷ []) m ≡ option_or (place_of_text texts next ks m) (if n == m then Some (next + length (texts_bytes texts ks)) else None)
          → (if b then Some place else place_of_text texts next (ks ++ n ∷ []) m) ≡ option_or (if b then Some place else place_of_text texts next ks m) (if n == m then Some (place + length (texts_bytes texts (k ∷ ks))) else None)
      go true same = refl
      go false same = same ∙ ap (λ p. option_or (place_of_text texts next ks m) (if n == m then Some p else None)) long

  -- the number that is there, and the one that is new
  pub number-known : (used : List ℕ) (n : ℕ) → is_some (place_of_text texts 0 used n) ≡ true → used ≡ with_number used n
  number-known used n some = ap (λ b. if b then used else used ++ n ∷ []) (sym (any-placed 0 n used ∙ some))

  pub number-new : (used : List ℕ) (n : ℕ) → is_some (place_of_text texts 0 used n) ≡ false → used ++ n ∷ [] ≡ with_number used n
  number-new used n none = ap (λ b. if b then used else used ++ n ∷ []) (sym (any-placed 0 n used ∙ none))

  -- ---- places in the order of numbers

  place-here : (n : ℕ) (x : Option ℕ) (ps : List (Option ℕ)) → n < length ps → place_of n (slice_set ps n x) ≡ x
  place-here n x [] within = absurd (omega arith)
  place-here zero x (q ∷ ps) within = refl
  place-here (suc n) x (q ∷ ps) within = place-here n x ps (omega arith)

  place-there : (n m : ℕ) (x : Option ℕ) (ps : List (Option ℕ)) → n ≢ m → place_of m (slice_set ps n x) ≡ place_of m ps
  place-there n m x [] other = refl
  place-there zero zero x (q ∷ ps) other = absurd (other refl)
  place-there zero (suc m) x (q ∷ ps) other = refl
  place-there (suc n) zero x (q ∷ ps) other = refl
  place-there (suc n) (suc m) x (q ∷ ps) other = place-there n m x ps (λ e. other (ap suc e))

  place-put : (n m p : ℕ) (ps : List (Option ℕ)) → n < length ps → place_of n ps ≡ None → place_of m (slice_set ps n (Some p)) ≡ option_or (place_of m ps) (if n == m then Some p else None)
  place-put n m p ps within none = go (n == m) refl
    where
      kept : (o : Option ℕ) → o ≡ option_or o None
      kept None = refl
      kept (Some k) = refl

      go : (b : Bool) → (n == m) ≡ b → place_of m (slice_set ps n (Some p)) ≡ option_or (place_of m ps) (if b then Some p else None)
      go true e =
          let same : n ≡ m = eqb-true n m e in
          ap (λ k. place_of k (slice_set ps n (Some p))) (sym same) ∙ place-here n (Some p) ps within ∙ ap (λ o. option_or o (Some p)) (sym none ∙ ap (λ k. place_of k ps) same)
      go false e = place-there n m (Some p) ps (eqb-false n m e) ∙ kept (place_of m ps)

  no-text : (o : Option ℕ) → is_some o ≡ false → o ≡ None
  no-text None none = refl
  no-text (Some k) none = absurd (cc)

  -- A text that is new stands behind the others.
  pub text-placed : (l v : TextLayout) (n behind : ℕ) → IsTextLayout texts l → n < length texts → is_some (place_of n l.offsets.items) ≡ false
      → v.offsets.items ≡ slice_set l.offsets.items n (Some l.length) → v.used.items ≡ l.used.items ++ n ∷ [] → v.length ≡ behind → behind ≡ l.length + length (text_numbered texts n ++ 0 ∷ []) → behind ≤ most_bytes
      → (v.used.items ≡ with_number l.used.items n) × IsTextLayout texts v
  text-placed l v n behind laid within none offsets used long is short =
      let free : is_some (place_of_text texts 0 l.used.items n) ≡ false = ap is_some (sym (laid.places n)) ∙ none in
      let before = laid.long in
      let from : l.length ≡ 0 + length (texts_bytes texts l.used.items) = omega (arith, before) in
      let many = laid.many in (
        used ∙ number-new l.used.items n free,
        record {
          many = ap length offsets ∙ length-set l.offsets.items n (Some l.length) ∙ many;
          places = λ m.
              ap (place_of m) offsets ∙ place-put n m l.length l.offsets.items (omega (arith, many, within)) (no-text _ none)
              ∙ ap (λ o. option_or o (if n == m then Some l.length else None)) (laid.places m)
              ∙ ap (λ k. option_or (place_of_text texts 0 l.used.items m) (if n == m then Some k else None)) from
              ∙ sym (place-more l.used.items n m 0) ∙ ap (λ ns. place_of_text texts 0 ns m) (sym used);
          known = let P : List ℕ → Type 0 = λ ns. All (λ k. k < length texts) ns in subst P (sym used) (All-push (λ k. k < length texts) l.used.items n laid.known within);
          long = long ∙ is ∙ ap (λ k. k + length (text_numbered texts n ++ 0 ∷ [])) before ∙ sym (length-more l.used.items n) ∙ ap (λ ns. length (texts_bytes texts ns)) (sym used);
          short = rw (long) short;
        },
      )

  -- one that is too long
  pub text-refused : (l : TextLayout) (n : ℕ) → IsTextLayout texts l → is_some (place_of n l.offsets.items) ≡ false → length (texts_bytes texts (with_number l.used.items n)) ≡ l.length + length (text_numbered texts n ++ 0 ∷ [])
  text-refused l n laid none =
      let free : is_some (place_of_text texts 0 l.used.items n) ≡ false = ap is_some (sym (laid.places n)) ∙ none in
      ap (λ ns. length (texts_bytes texts ns)) (sym (number-new l.used.items n free)) ∙ length-more l.used.items n ∙ ap (λ k. k + length (text_numbered texts n ++ 0 ∷ [])) (sym laid.long)

  pub behind-refused : (e : WriteError) (place n : ℕ) (text : List ℕ) → BehindText (Err e) Str place text → place + length (text ++ 0 ∷ []) ≡ n → IsTextRefusal e n
  behind-refused OutOfMemory place n text refused same = absurd refused
  behind-refused (InvalidFrameCodeOffset symbol) place n text refused same = absurd refused
  behind-refused (InvalidFrameDataOffset symbol) place n text refused same = absurd refused
  behind-refused (TooLarge what) place n text refused same = past-limit Str _ _ (section_of what) (λ large. omega (arith, large, same)) refused

  -- ---- texts of several numbers

  pub numbers-both : (a b used : List ℕ) → with_numbers used (a ++ b) ≡ with_numbers (with_numbers used a) b
  numbers-both [] b used = refl
  numbers-both (n ∷ a) b used = numbers-both a b (with_number used n)

  one-longer : (used : List ℕ) (n : ℕ) → length (texts_bytes texts used) ≤ length (texts_bytes texts (with_number used n))
  one-longer used n = go (list_any (λ k. k == n) used)
    where
      go : (b : Bool) → length (texts_bytes texts used) ≤ length (texts_bytes texts (if b then used else used ++ n ∷ []))
      go true = omega arith
      go false = omega (arith, length-more used n)

  -- texts only grow longer
  pub numbers-longer : (ns used : List ℕ) → length (texts_bytes texts used) ≤ length (texts_bytes texts (with_numbers used ns))
  numbers-longer [] used = omega arith
  numbers-longer (n ∷ ns) used = omega (arith, one-longer used n, numbers-longer ns (with_number used n))

  -- ---- a loop

  part-more : {A : Type 0} (f : A → List ℕ) (xs : List A) (i : ℕ) (d : A) → i < length xs → flat_map f (drop i xs) ≡ f (get_or xs i d) ++ flat_map f (drop (suc i) xs)
  part-more f [] i d within = absurd (omega arith)
  part-more f (x ∷ xs) zero d within = refl
  part-more f (x ∷ xs) (suc i) d within = part-more f xs i d (omega arith)

  -- The texts that are used, with those of the parts that are left, are those of all; those that are used are laid out.
  pub record IsUsing {A : Type 0} (f : A → List ℕ) (xs : List A) (i : ℕ) (start l : TextLayout) : Type 0 where
    pub used : with_numbers l.used.items (flat_map f (drop i xs)) ≡ with_numbers start.used.items (flat_map f xs)
    pub laid : IsTextLayout texts l

  none-placed : (n k : ℕ) → place_of k (replicate n None) ≡ None
  none-placed zero k = refl
  none-placed (suc n) zero = refl
  none-placed (suc n) (suc k) = none-placed n k

  -- at the start no text is used
  pub using-start : {A : Type 0} (f : A → List ℕ) (xs : List A) (l : TextLayout) → l.offsets.items ≡ replicate (length texts) None → l.used.items ≡ [] → l.length ≡ 0 → IsUsing f xs 0 l l
  using-start f xs l none empty zero_long = record {
    used = refl;
    laid = record {
      many = ap length none ∙ length-replicate (length texts) None;
      places = λ n. ap (place_of n) none ∙ none-placed (length texts) n ∙ ap (λ ns. place_of_text texts 0 ns n) (sym empty);
      known = let P : List ℕ → Type 0 = λ ns. All (λ k. k < length texts) ns in subst P (sym empty) (All-nil (λ k. k < length texts));
      long = zero_long ∙ ap (λ ns. length (texts_bytes texts ns)) (sym empty);
      short = rw (zero_long) (omega arith);
    };
  }

  pub using-more : {A : Type 0} (f : A → List ℕ) (xs : List A) (i : ℕ) (d : A) (start l v : TextLayout) → IsUsing f xs i start l → i < length xs → (v.used.items ≡ with_numbers l.used.items (f (get_or xs i d))) × IsTextLayout texts v → IsUsing f xs (suc i) start v
  using-more f xs i d start l v on within step = record {
    used = ap (λ ns. with_numbers ns (flat_map f (drop (suc i) xs))) step.0 ∙ sym (numbers-both (f (get_or xs i d)) (flat_map f (drop (suc i) xs)) l.used.items) ∙ ap (with_numbers l.used.items) (sym (part-more f xs i d within)) ∙ on.used;
    laid = step.1;
  }

  refused-longer : (e : WriteError) (n total : ℕ) → IsTextRefusal e n → n ≤ total → IsTextRefusal e total
  refused-longer e n total refused less = past-more Str Str n total e refl (λ large. omega (arith, large, less)) refused

  pub using-refused : {A : Type 0} (f : A → List ℕ) (xs : List A) (i : ℕ) (d : A) (start l : TextLayout) (e : WriteError) → IsUsing f xs i start l → i < length xs → IsTextRefusal e (length (texts_bytes texts (with_numbers l.used.items (f (get_or xs i d)))))
      → IsTextRefusal e (length (texts_bytes texts (with_numbers start.used.items (flat_map f xs))))
  using-refused f xs i d start l e on within refused =
      let whole = ap (with_numbers l.used.items) (sym (part-more f xs i d within)) ∙ on.used in
      let split = sym (numbers-both (f (get_or xs i d)) (flat_map f (drop (suc i) xs)) l.used.items) ∙ whole in
      refused-longer e _ _ refused (omega (arith, numbers-longer (flat_map f (drop (suc i) xs)) (with_numbers l.used.items (f (get_or xs i d))), ap (λ ns. length (texts_bytes texts ns)) split))

  pub using-done : {A : Type 0} (f : A → List ℕ) (xs : List A) (i : ℕ) (start l : TextLayout) → length xs ≤ i → IsUsing f xs i start l → (l.used.items ≡ with_numbers start.used.items (flat_map f xs)) × IsTextLayout texts l
  using-done {A = A} f xs i start l past on = (ap (λ (ys : List A). with_numbers l.used.items (flat_map f ys)) (sym (drop_all i xs past)) ∙ on.used, on.laid)

  -- the error of a call
  pub using-exit : (result : Result (Unit {0}) WriteError) (e : WriteError) (start now : TextLayout) (ns : List ℕ) → ((error : WriteError) × (result ≡ Err error) × (error ≡ e)) → IsTextRefusal e (length (texts_bytes texts (with_numbers start.used.items ns))) → UsesTexts texts start now result ns
  using-exit result e start now ns p refused =
      let is : result ≡ Err e = p.1 ∙ ap Err p.2 in
      rw (is) refused

-- numbers one by one
pub one-by-one : (ns : List ℕ) → flat_map (λ n. n ∷ []) ns ≡ ns
one-by-one [] = refl
one-by-one (n ∷ ns) = ap (λ ks. n ∷ ks) (one-by-one ns)

pub option-cases : (P : Option ℕ → Type 0) → P None → ((x : ℕ) → P (Some x)) → (y : Option ℕ) → P y
option-cases P none some None = none
option-cases P none some (Some x) = some x

-- no relocations stand at texts
pub nothing-there : (spell : List ℕ → List ℕ) (place : ℕ) (xs : List (List ℕ)) → ◌≡◌ {A = List OutputRelocation} (at_places spell (λ p x. []) place xs) []
nothing-there spell place [] = refl
nothing-there spell place (x ∷ xs) = nothing-there spell (place + length (spell x)) xs

-- the error of a call, for a function that answers something else
pub refused-here : {A : Type 0} (result : Result A WriteError) (e : WriteError) (n : ℕ) → ((error : WriteError) × (result ≡ Err error) × (error ≡ e)) → IsTextRefusal e n → IfErr result (λ x. IsTextRefusal x n)
refused-here result e n p refused =
    let is : result ≡ Err e = p.1 ∙ ap Err p.2 in
    rw (is) refused
