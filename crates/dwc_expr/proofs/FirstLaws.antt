-- Lists of labels with the same firsts: a label that is there already adds nothing, and what hangs on the labels as a set, or on the
-- first of them that is refused, is the same.
use Rattle.std.proofs.Common.{◌≡◌, ℕ, List, [], ◌∷◌, ◌++◌, Bool, true, false, cond, not, ◌||◌, ◌&&◌, eqb, eqb-true, find, filter_map, is_some, Option, Some, None, option_and_then, option_to_list, refl, ap, sym, ◌∙◌, append_assoc, append-nil}
use Rattle.std.specs.List.{list_all, cons_option}
use Rattle.std.specs.Option.{option_or}
use Rattle.std.proofs.lemmas.List.Folds.{find-append}
use Rattle.dwc_base.specs.Listing.{first_of}
use Rattle.dwc_dwarf.specs.Values.{is_one_of}
use Rattle.dwc_expr.specs.NeededLabels.{HaveSameFirsts}

-- ---- a label more

module _ (test : ℕ → Bool) (label : ℕ) (rest : List ℕ) where
  -- a label that fails the test is not the first that passes
  failed : (ls : List ℕ) → test label ≡ false → find test (ls ++ label ∷ rest) ≡ find test (ls ++ rest)
  failed [] fails = ap (λ b. cond {A = Option ℕ} b (Some label) (find test rest)) fails
  failed (l ∷ ls) fails = ap (λ o. cond {A = Option ℕ} (test l) (Some l) o) (failed ls fails)

  -- nor is one that stands in front
  passed : (ls : List ℕ) → is_one_of ls label ≡ true → test label ≡ true → find test (ls ++ label ∷ rest) ≡ find test (ls ++ rest)
  passed [] there passes = absurd (cc)
  passed (l ∷ ls) there passes = go (test l) refl (λ among. passed ls among passes)
    where
      among_rest : (b : Bool) → eqb l label ≡ b → test l ≡ false → (b || is_one_of ls label) ≡ true → is_one_of ls label ≡ true
      among_rest true same fails h = let clash : false ≡ true = sym fails ∙ ap test (eqb-true l label same) ∙ passes in absurd (cc)
      among_rest false same fails h = h

      go : (b : Bool) → test l ≡ b → (is_one_of ls label ≡ true → find test (ls ++ label ∷ rest) ≡ find test (ls ++ rest)) → cond {A = Option ℕ} b (Some l) (find test (ls ++ label ∷ rest)) ≡ cond {A = Option ℕ} b (Some l) (find test (ls ++ rest))
      go true is behind = refl
      go false is behind = behind (among_rest (eqb l label) refl is there)

-- a label that is there already
pub there-already : (ls : List ℕ) (label : ℕ) → is_one_of ls label ≡ true → HaveSameFirsts ls (ls ++ label ∷ [])
there-already ls label there test = sym (go (test label) refl ∙ ap (find test) (append-nil ls))
  where
    go : (b : Bool) → test label ≡ b → find test (ls ++ label ∷ []) ≡ find test (ls ++ [])
    go true passes = passed test label [] ls there passes
    go false fails = failed test label [] ls fails

-- ---- more labels behind

pub firsts-behind : (ms ns rest : List ℕ) → HaveSameFirsts ms ns → HaveSameFirsts (ms ++ rest) (ns ++ rest)
firsts-behind ms ns rest same test = find-append test ms rest ∙ ap (λ o. option_or o (find test rest)) (same test) ∙ sym (find-append test ns rest)

-- some labels, of which the first, if there is one, was still to come
pub firsts-more : (now new rest whole : List ℕ) (o : Option ℕ) → HaveSameFirsts new (now ++ option_to_list o) → HaveSameFirsts (now ++ cons_option o rest) whole → HaveSameFirsts (new ++ rest) whole
firsts-more now new rest whole None added before test = firsts-behind new (now ++ []) rest added test ∙ ap (λ ls. find test (ls ++ rest)) (append-nil now) ∙ before test
firsts-more now new rest whole (Some label) added before test = firsts-behind new (now ++ label ∷ []) rest added test ∙ ap (find test) (append_assoc now (label ∷ []) rest) ∙ before test

-- ---- what hangs on the firsts

-- all pass where none fails
all-by-find : (test : ℕ → Bool) (ls : List ℕ) → list_all test ls ≡ not (is_some (find (λ l. not (test l)) ls))
all-by-find test [] = refl
all-by-find test (l ∷ ls) = go (test l) (all-by-find test ls)
  where
    go : (b : Bool) → list_all test ls ≡ not (is_some (find (λ l. not (test l)) ls)) → (b && list_all test ls) ≡ not (is_some (cond {A = Option ℕ} (not b) (Some l) (find (λ l. not (test l)) ls)))
    go true more = more
    go false more = refl

pub same-all : (ms ns : List ℕ) → HaveSameFirsts ms ns → (test : ℕ → Bool) → list_all test ms ≡ list_all test ns
same-all ms ns same test = all-by-find test ms ∙ ap (λ o. not (is_some o)) (same (λ l. not (test l))) ∙ sym (all-by-find test ns)

-- some passes where one is found
any-by-find : (ls : List ℕ) (label : ℕ) → is_one_of ls label ≡ is_some (find (λ l. eqb l label) ls)
any-by-find [] label = refl
any-by-find (l ∷ ls) label = go (eqb l label) (any-by-find ls label)
  where
    go : (b : Bool) → is_one_of ls label ≡ is_some (find (λ l. eqb l label) ls) → (b || is_one_of ls label) ≡ is_some (cond {A = Option ℕ} b (Some l) (find (λ l. eqb l label) ls))
    go true more = refl
    go false more = more

pub same-member : (ms ns : List ℕ) → HaveSameFirsts ms ns → (label : ℕ) → is_one_of ms label ≡ is_one_of ns label
same-member ms ns same label = any-by-find ms label ∙ ap is_some (same (λ l. eqb l label)) ∙ sym (any-by-find ns label)

module _ {B : Type 0} (f : ℕ → Option B) where
  -- the first that a function gives something for
  first-by-find : (ls : List ℕ) → first_of (filter_map f ls) ≡ option_and_then f (find (λ l. is_some (f l)) ls)
  first-by-find [] = refl
  first-by-find (l ∷ ls) = go (f l) refl (first-by-find ls)
    where
      go : (o : Option B) → f l ≡ o → first_of (filter_map f ls) ≡ option_and_then f (find (λ l. is_some (f l)) ls) → first_of (cons_option o (filter_map f ls)) ≡ option_and_then f (cond {A = Option ℕ} (is_some o) (Some l) (find (λ l. is_some (f l)) ls))
      go None is more = more
      go (Some b) is more = sym is

  pub same-first : (ms ns : List ℕ) → HaveSameFirsts ms ns → first_of (filter_map f ms) ≡ first_of (filter_map f ns)
  same-first ms ns same = first-by-find ms ∙ ap (option_and_then f) (same (λ l. is_some (f l))) ∙ sym (first-by-find ns)

pub not-false : (b : Bool) → not b ≡ false → b ≡ true
not-false true is = refl
not-false false is = absurd (cc)
