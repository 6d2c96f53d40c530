-- Texts that stand in `.debug_str` are read at their offsets: `text-read`. Where all of a table stand: `text-places-are`.
use Rattle.std.proofs.Common.{◌≡◌, ℕ, zero, suc, ◌+◌, ◌<◌, ◌≤◌, refl, sym, ap, ◌∙◌, arith, List, [], ◌∷◌, ◌++◌, append_assoc, length, length-append, drop, Bool, true, false, ltb, Option, Some, None, Ok}
use Rattle.std.specs.Prelude.{◌-◌, ◌==◌, ◌||◌, if◌then◌else◌}
use Rattle.std.specs.List.{All, list_any}
use Rattle.std.specs.Option.{unwrap_or}
use Rattle.std.proofs.lemmas.Bool.{eq-eqb, eqb-true, ltb-true, ltb-false}
use Rattle.std.proofs.lemmas.List.{ext_get_or}
use Rattle.std.proofs.lemmas.List.Elements.{All-cons, All-nil}
use Rattle.std.proofs.lemmas.List.FromFn.{get_or-map-range_with_len, length-map-range_with_len}
use Rattle.dwc_base.specs.declared.records.Endian.{Endian}
use Rattle.dwc_base.specs.Reading as reading
use Rattle.dwc_base.specs.Reading.{◌>>=◌}
use Rattle.dwc_dwarf.specs.LineHeaders.{text_in}
use Rattle.dwc_base.specs.Spelling.{unread_at}
use Rattle.dwc_write.specs.declared.text_layout.TextLayout.{TextLayout}
use Rattle.dwc_unit.specs.TextTables.{IsText}
use Rattle.dwc_unit.specs.GivenUnits.{OrderedUnit, place_of}
use Rattle.dwc_write.specs.Layouts.{AllPlaces, UnitPlaces, offset_of_text}
use Rattle.dwc_unit.specs.UsedTexts.{with_number, with_numbers, text_numbered, texts_bytes, strings_bytes, texts_used, place_of_text, text_places}
use Rattle.dwc_write.specs.TextViews.{IsTextLayout}
use Rattle.dwc_section.specs.Writers.{most_bytes}
use Rattle.dwc_unit.proofs.ReadParts.{text_at-front}
use Rattle.dwc_unit.proofs.UnitLaws.{place_get}

-- ---- where texts stand

place-bound : (texts : List (List ℕ)) (used : List ℕ) (place n : ℕ) → unwrap_or (place_of_text texts place used n) 0 ≤ place + length (texts_bytes texts used)
place-bound texts [] place n = omega arith
place-bound texts (k ∷ ks) place n = go (k == n) (place-bound texts ks next n)
  where
    next : ℕ
    next = place + suc (length (text_numbered texts k))

    go : (b : Bool) → unwrap_or (place_of_text texts next ks n) 0 ≤ next + length (texts_bytes texts ks) → unwrap_or (if b then Some place else place_of_text texts next ks n) 0 ≤ place + length (texts_bytes texts (k ∷ ks))
    go true less = omega arith
    go false less = omega (arith, less, length-append (text_numbered texts k ++ 0 ∷ []) (texts_bytes texts ks), length-append (text_numbered texts k) (0 ∷ []))

pub place-past : (id : ℕ) (ps : List (Option ℕ)) → length ps ≤ id → place_of id ps ≡ None
place-past id [] past = refl
place-past zero (p ∷ ps) past = absurd (omega arith)
place-past (suc id) (p ∷ ps) past = place-past id ps (omega arith)

-- the place of a text of the table
pub place-of-known : (texts : List (List ℕ)) (us : List OrderedUnit) (id : ℕ) → id < length texts → place_of id (text_places texts us) ≡ place_of_text texts 0 (texts_used us) id
place-of-known texts us id within =
    let f = place_of_text texts 0 (texts_used us) in
    let n = length texts in
    place_get id (text_places texts us) None (omega (arith, within, length-map-range_with_len f 0 n)) ∙ get_or-map-range_with_len f 0 n id id None within (omega arith)

-- An offset is within the section.
pub offset-bound : (texts : List (List ℕ)) (us : List OrderedUnit) (id : ℕ) → offset_of_text (text_places texts us) id ≤ length (strings_bytes texts us)
offset-bound texts us id = go (ltb id (length texts)) refl
  where
    go : (b : Bool) → ltb id (length texts) ≡ b → offset_of_text (text_places texts us) id ≤ length (strings_bytes texts us)
    go true e = omega (arith, ap (λ o. unwrap_or o 0) (place-of-known texts us id (ltb-true _ _ e)), place-bound texts (texts_used us) 0 id)
    go false e = omega (arith, ap (λ o. unwrap_or o 0) (place-past id (text_places texts us) (omega (arith, ltb-false _ _ e, length-map-range_with_len (place_of_text texts 0 (texts_used us)) 0 (length texts)))))

-- What is laid out of all units is where their texts stand.
pub text-places-are : (texts : List (List ℕ)) (us : List OrderedUnit) (l : TextLayout) → IsTextLayout texts l → l.used.items ≡ texts_used us → l.offsets.items ≡ text_places texts us
text-places-are texts us l laid used =
    let many = laid.many in
    let f = place_of_text texts 0 (texts_used us) in
    ext_get_or None l.offsets.items (text_places texts us) (omega (arith, many, length-map-range_with_len f 0 (length texts)))
    (λ i within. sym (place_get i l.offsets.items None within) ∙ laid.places i ∙ ap (λ ns. place_of_text texts 0 ns i) used ∙ sym (get_or-map-range_with_len f 0 (length texts) i i None (omega (arith, many, within)) (omega arith)))

-- Offsets of texts that are laid out are short.
pub laid-short : (texts : List (List ℕ)) (l : TextLayout) (id : ℕ) → IsTextLayout texts l → offset_of_text l.offsets.items id ≤ most_bytes
laid-short texts l id laid =
    let long = laid.long in
    let short = laid.short in
    omega (arith, ap (λ (o : Option ℕ). unwrap_or o 0) (laid.places id), place-bound texts l.used.items 0 id, long, short)

pub all-placed : (us vs : List UnitPlaces) (ps qs : List (Option ℕ)) (table ns ms : List (List ℕ)) → us ≡ vs → ps ≡ qs → ns ≡ ms → ◌≡◌ {A = AllPlaces} (record { units = us; texts = ps; table = table; names = ns }) (record { units = vs; texts = qs; table = table; names = ms })
all-placed us vs ps qs table ns ms units texts names = rw (units, texts, names) refl

-- ---- numbers that are used

kept-one : (before : List ℕ) (n m : ℕ) → list_any (λ k. k == m) before ≡ true → list_any (λ k. k == m) (with_number before n) ≡ true
kept-one before n m there = go (list_any (λ k. k == n) before)
  where
    more : (xs ys : List ℕ) → list_any (λ k. k == m) xs ≡ true → list_any (λ k. k == m) (xs ++ ys) ≡ true
    more [] ys h = absurd (cc)
    more (x ∷ xs) ys h = step (x == m) h (more xs ys)
      where
        step : (b : Bool) → (b || list_any (λ k. k == m) xs) ≡ true → (list_any (λ k. k == m) xs ≡ true → list_any (λ k. k == m) (xs ++ ys) ≡ true) → (b || list_any (λ k. k == m) (xs ++ ys)) ≡ true
        step true h others = refl
        step false h others = others h

    go : (b : Bool) → list_any (λ k. k == m) (if b then before else before ++ n ∷ []) ≡ true
    go true = there
    go false = more before (n ∷ []) there

kept-all : (ns before : List ℕ) (m : ℕ) → list_any (λ k. k == m) before ≡ true → list_any (λ k. k == m) (with_numbers before ns) ≡ true
kept-all [] before m there = there
kept-all (n ∷ ns) before m there = kept-all ns (with_number before n) m (kept-one before n m there)

there-now : (before : List ℕ) (n : ℕ) → list_any (λ k. k == n) (with_number before n) ≡ true
there-now before n = go (list_any (λ k. k == n) before) refl
  where
    last : (xs : List ℕ) → list_any (λ k. k == n) (xs ++ n ∷ []) ≡ true
    last [] = ap (λ b. b || false) (eq-eqb n n refl)
    last (x ∷ xs) = step (x == n) (last xs)
      where
        step : (b : Bool) → list_any (λ k. k == n) (xs ++ n ∷ []) ≡ true → (b || list_any (λ k. k == n) (xs ++ n ∷ [])) ≡ true
        step true h = refl
        step false h = h

    go : (b : Bool) → list_any (λ k. k == n) before ≡ b → list_any (λ k. k == n) (if b then before else before ++ n ∷ []) ≡ true
    go true e = e
    go false e = last before

pub all-used : (ns before : List ℕ) → All (λ n. list_any (λ k. k == n) (with_numbers before ns) ≡ true) ns
all-used [] before = All-nil _
all-used (n ∷ ns) before = All-cons (λ m. list_any (λ k. k == m) (with_numbers before (n ∷ ns)) ≡ true) n ns (kept-all ns (with_number before n) n (there-now before n)) (all-used ns (with_number before n))

-- ---- reading

-- A text stands at a place from another on.
pub record StandsThere (bytes text : List ℕ) (offset : ℕ) : Type 0 where
  pub rest : List ℕ
  pub there : drop offset bytes ≡ text ++ (0 ∷ rest)

text-there : (texts : List (List ℕ)) (used : List ℕ) (place n : ℕ) → list_any (λ k. k == n) used ≡ true → (place ≤ unwrap_or (place_of_text texts place used n) 0) × StandsThere (texts_bytes texts used) (text_numbered texts n) (unwrap_or (place_of_text texts place used n) 0 - place)
text-there texts [] place n there = absurd (cc)
text-there texts (k ∷ ks) place n there = go (k == n) refl there (text-there texts ks next n)
  where
    next : ℕ
    next = place + suc (length (text_numbered texts k))

    go : (b : Bool) → (k == n) ≡ b → (b || list_any (λ j. j == n) ks) ≡ true → (list_any (λ j. j == n) ks ≡ true → (next ≤ unwrap_or (place_of_text texts next ks n) 0) × StandsThere (texts_bytes texts ks) (text_numbered texts n) (unwrap_or (place_of_text texts next ks n) 0 - next))
        → (place ≤ unwrap_or (if b then Some place else place_of_text texts next ks n) 0) × StandsThere (texts_bytes texts (k ∷ ks)) (text_numbered texts n) (unwrap_or (if b then Some place else place_of_text texts next ks n) 0 - place)
    go true e h others =
        let same : k ≡ n = eqb-true k n e in
        let first : place - place ≡ 0 = omega arith in
        (omega arith, record { rest = texts_bytes texts ks; there = ap (λ i. drop i (texts_bytes texts (k ∷ ks))) first ∙ append_assoc (text_numbered texts k) (0 ∷ []) (texts_bytes texts ks) ∙ ap (λ j. text_numbered texts j ++ (0 ∷ texts_bytes texts ks)) same })
    go false e h others =
        let on = others h in
        let p = unwrap_or (place_of_text texts next ks n) 0 in
        let less = on.0 in
        let one = text_numbered texts k ++ 0 ∷ [] in
        let long : length one ≡ suc (length (text_numbered texts k)) = omega (arith, length-append (text_numbered texts k) (0 ∷ [])) in
        let at : p - place ≡ length one + (p - next) = omega (arith, less, long) in
        (omega (arith, less), record { rest = on.1.rest; there = ap (λ i. drop i (one ++ texts_bytes texts ks)) at ∙ behind one (texts_bytes texts ks) (p - next) ∙ on.1.there })
      where
        behind : (xs ys : List ℕ) (i : ℕ) → drop (length xs + i) (xs ++ ys) ≡ drop i ys
        behind [] ys i = let none : 0 + i ≡ i = omega arith in ap (λ j. drop j ys) none
        behind (x ∷ xs) ys i = let one : suc (length xs) + i ≡ suc (length xs + i) = omega arith in ap (λ j. drop j (x ∷ (xs ++ ys))) one ∙ behind xs ys i

-- A text that units name is read at its offset.
pub text-read : (order : Endian) (texts : List (List ℕ)) (us : List OrderedUnit) (n : ℕ) → All IsText texts → n < length texts → list_any (λ k. k == n) (texts_used us) ≡ true
    → text_in order (strings_bytes texts us) (offset_of_text (text_places texts us) n) ≡ Ok (text_numbered texts n)
text-read order texts us n plain within used =
    let offset = offset_of_text (text_places texts us) n in
    let found = text-there texts (texts_used us) 0 n used in
    let known : offset ≡ unwrap_or (place_of_text texts 0 (texts_used us) n) 0 - 0 = ap (λ o. unwrap_or o 0) (place-of-known texts us n within) ∙ omega arith in
    let there : drop offset (strings_bytes texts us) ≡ text_numbered texts n ++ (0 ∷ found.1.rest) = ap (λ i. drop i (strings_bytes texts us)) known ∙ found.1.there in
    let read = ap (λ bytes. reading.text_at (unread_at order offset bytes)) there ∙ text_at-front order offset (text_numbered texts n) found.1.rest (plain n [] within) in
    ap (λ r. r >>= λ text. Ok text.0) read
