-- The registers of a label, each once: one that is there already adds nothing.
use Rattle.std.proofs.Common.{◌≡◌, ℕ, ◌+◌, ◌<◌, List, [], ◌∷◌, ◌++◌, length, map, drop, get_or, option_to_list, Bool, true, false, not, ◌&&◌, ◌||◌, ◌==◌, eqb, eqb-true, Option, Some, None, refl, ap, sym, subst, ◌∙◌, append_assoc, append-nil}
use Rattle.std.specs.List.{list_all, list_any, cons_option}
use Rattle.std.proofs.lemmas.List.{at_drop_more}
use Rattle.std.proofs.lemmas.List.Folds.{list_all-append}
use Rattle.dwc_isa.specs.declared.value_label.ValueLocRange.{ValueLocRange}
use Rattle.dwc_isa.specs.LabelRegisters.{HaveSame, register_of, registers_of}
use Rattle.dwc_isa.specs.ValueLabels.{place_view, range_view}

same-behind : (ms ns rest : List ℕ) → HaveSame ms ns → HaveSame (ms ++ rest) (ns ++ rest)
same-behind ms ns rest same test = list_all-append test ms rest ∙ ap (λ b. b && list_all test rest) (same test) ∙ sym (list_all-append test ns rest)

-- a number that is there passes what all pass
there-passes : (test : ℕ → Bool) (n : ℕ) (ns : List ℕ) → list_any (λ m. m == n) ns ≡ true → list_all test ns ≡ true → test n ≡ true
there-passes test n [] there all = absurd (cc)
there-passes test n (m ∷ ns) there all = go (eqb m n) refl (test m) refl there all (λ h e. there-passes test n ns h e)
  where
    go : (b : Bool) → eqb m n ≡ b → (c : Bool) → test m ≡ c → (b || list_any (λ k. k == n) ns) ≡ true → (c && list_all test ns) ≡ true → (list_any (λ k. k == n) ns ≡ true → list_all test ns ≡ true → test n ≡ true) → test n ≡ true
    go true same c is h all others = ap test (sym (eqb-true m n same)) ∙ is ∙ first c all
      where
        first : (d : Bool) → (d && list_all test ns) ≡ true → d ≡ true
        first true e = refl
        first false e = absurd (cc)
    go false same true is h all others = others h all
    go false same false is h all others = absurd (cc)

-- a number that is there already adds nothing
pub there-already : (ns : List ℕ) (n : ℕ) → list_any (λ m. m == n) ns ≡ true → HaveSame ns (ns ++ n ∷ [])
there-already ns n there test = sym (list_all-append test ns (n ∷ []) ∙ go (list_all test ns) refl)
  where
    go : (b : Bool) → list_all test ns ≡ b → (list_all test ns && (test n && true)) ≡ list_all test ns
    go true is = rw (is, there-passes test n ns there is) refl
    go false is = rw is refl

-- the registers of some ranges, of which the first, if it has one, was still to come
pub range-more : (rs : List ValueLocRange) (i : ℕ) (d : ValueLocRange) (now new whole : List ℕ) → i < length rs
    → HaveSame new (now ++ option_to_list (register_of (place_view (get_or rs i d).loc))) → HaveSame (now ++ registers_of (map range_view (drop i rs))) whole → HaveSame (new ++ registers_of (map range_view (drop (i + 1) rs))) whole
range-more rs i d now new whole inside added before = go (register_of (place_view (get_or rs i d).loc)) added (subst (λ ns. HaveSame (now ++ ns) whole) split before)
  where
    rest : List ℕ
    rest = registers_of (map range_view (drop (i + 1) rs))

    split : registers_of (map range_view (drop i rs)) ≡ cons_option (register_of (place_view (get_or rs i d).loc)) rest
    split = at_drop_more (λ xs. registers_of (map range_view xs)) rs i d inside

    go : (o : Option ℕ) → HaveSame new (now ++ option_to_list o) → HaveSame (now ++ cons_option o rest) whole → HaveSame (new ++ rest) whole
    go None added before test = same-behind new (now ++ []) rest added test ∙ ap (λ ns. list_all test (ns ++ rest)) (append-nil now) ∙ before test
    go (Some n) added before test = same-behind new (now ++ n ∷ []) rest added test ∙ ap (list_all test) (append_assoc now (n ∷ []) rest) ∙ before test

pub not-false : (b : Bool) → not b ≡ false → b ≡ true
not-false true is = refl
not-false false is = absurd (cc)
