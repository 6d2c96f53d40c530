-- Marks and the stack of what is still to be looked at: what marking numbers changes, and when the marks are the least ones.
use Rattle.std.proofs.Common.{◌≡◌, ℕ, zero, suc, ◌+◌, ◌<◌, ◌⊎◌, List, [], ◌∷◌, ◌++◌, length, set, replicate, refl, ap, sym, subst, ◌∙◌, inl, inr, arith, Bool, true, false, cond}
use Rattle.std.specs.Prelude.{not}
use Rattle.std.specs.List.{filter}
use Rattle.std.proofs.lemmas.Bool.{cases_eq}
use Rattle.std.proofs.lemmas.List.{get_or-set_same, get_or-set_other, length-set, length_push, length-replicate}
use Rattle.dwc_kept.specs.declared.graph_entry.GraphEntry.{GraphEntry}
use Rattle.dwc_kept.specs.EntryGraphs.{is_marked, Holds, IsClosedIn, AreLeastMarks, keeps_number}
use Rattle.dwc_kept.specs.GraphEntries.{nodes_seen, AreEntries, Marking, mark, mark_all, kept_numbers, numbers_from}
use Rattle.dwc_base.proofs.InLists.{IsIn, append-left, append-right, in-append}
use Rattle.dwc_kept.proofs.KeptNumbers.{nodes-length, keeps-marked, marked-keeps}

pub mark_all-append : (is js : List ℕ) (m : Marking) → mark_all (is ++ js) m ≡ mark_all js (mark_all is m)
mark_all-append [] js m = refl
mark_all-append (i ∷ is) js m = mark_all-append is js (mark i m)

-- how many marks are still to be set
pub left : List Bool → ℕ
left bs = length (filter not bs)

left-set : (bs : List Bool) (i : ℕ) → i < length bs → is_marked bs i ≡ false → left (set bs i true) + 1 ≡ left bs
unfolding left
left-set [] i less h = absurd (omega (arith, less))
left-set (b ∷ bs) zero less h = ap (λ a. length (cond {A = List Bool} (not true) (true ∷ filter not bs) (filter not bs)) + 1) h ∙ go b h
  where
    go : (a : Bool) → a ≡ false → length (filter not bs) + 1 ≡ length (cond {A = List Bool} (not a) (a ∷ filter not bs) (filter not bs))
    go true e = absurd (cc)
    go false e = omega arith
left-set (b ∷ bs) (suc i) less h = go b (left-set bs i (omega (arith, less)) h)
  where
    go : (a : Bool) → length (filter not (set bs i true)) + 1 ≡ length (filter not bs)
        → length (cond {A = List Bool} (not a) (a ∷ filter not (set bs i true)) (filter not (set bs i true))) + 1 ≡ length (cond {A = List Bool} (not a) (a ∷ filter not bs) (filter not bs))
    go true e = e
    go false e = omega (arith, e)

-- what is still to be done: marks to set, and entries to look at
abbrev pub work_left : Marking → ℕ
work_left m = left m.marks + length m.stack

-- Marks, and numbers of entries that are still to be looked at, which are marked.
pub record IsMarking (n : ℕ) (m : Marking) : Type 0 where
  pub counted : length m.marks ≡ n
  pub inside : (j : ℕ) → IsIn j m.stack → j < n
  pub each : (j : ℕ) → IsIn j m.stack → is_marked m.marks j ≡ true

-- One marking has the marks of another and what is to be looked at there, and what it has marked besides is to be looked at.
pub record Grows (old new : Marking) : Type 0 where
  pub marked : (j : ℕ) → is_marked old.marks j ≡ true → is_marked new.marks j ≡ true
  pub stacked : (j : ℕ) → IsIn j old.stack → IsIn j new.stack
  pub fresh : (j : ℕ) → is_marked new.marks j ≡ true → (is_marked old.marks j ≡ true) ⊎ IsIn j new.stack
  pub total : work_left new ≡ work_left old

-- some numbers are marked, and no others
pub record Marks (is : List ℕ) (old new : Marking) : Type 0 where
  pub grows : Grows old new
  pub all : (j : ℕ) → IsIn j is → is_marked new.marks j ≡ true
  pub only : (j : ℕ) → is_marked new.marks j ≡ true → (is_marked old.marks j ≡ true) ⊎ IsIn j is

grows-same : (m : Marking) → Grows m m
grows-same m = record { marked = λ j h. h; stacked = λ j k. k; fresh = λ j h. inl h; total = refl }

grows-on : (a b c : Marking) → Grows a b → Grows b c → Grows a c
grows-on a b c f g = record {
  marked = λ j h. g.marked j (f.marked j h);
  stacked = λ j k. g.stacked j (f.stacked j k);
  fresh = λ j h. fresh j (g.fresh j h);
  total = g.total ∙ f.total;
}
  where
    before : (j : ℕ) → (is_marked a.marks j ≡ true) ⊎ IsIn j b.stack → (is_marked a.marks j ≡ true) ⊎ IsIn j c.stack
    before j (inl h) = inl h
    before j (inr k) = inr (g.stacked j k)

    fresh : (j : ℕ) → (is_marked b.marks j ≡ true) ⊎ IsIn j c.stack → (is_marked a.marks j ≡ true) ⊎ IsIn j c.stack
    fresh j (inl h) = before j (f.fresh j h)
    fresh j (inr k) = inr k

-- a number that is not marked is
set-marks : (n i : ℕ) (m : Marking) → IsMarking n m → i < n → is_marked m.marks i ≡ false → IsMarking n (record { marks = set m.marks i true; stack = m.stack ++ i ∷ [] }) × Marks (i ∷ []) m (record { marks = set m.marks i true; stack = m.stack ++ i ∷ [] })
set-marks n i m is less h = (
  record {
    counted = length-set m.marks i true ∙ is.counted;
    inside = λ j k. inside j (in-append m.stack (i ∷ []) j k);
    each = λ j k. each j (in-append m.stack (i ∷ []) j k);
  },
  record {
    grows = record {
      marked = λ j t. marked j t (cases_eq j i);
      stacked = λ j k. append-left m.stack (i ∷ []) j k;
      fresh = λ j t. fresh j t (cases_eq j i);
      total = omega (arith, left-set m.marks i (omega (arith, less, is.counted)) h, length_push m.stack i);
    };
    all = λ j k. all j k;
    only = λ j t. only j t (cases_eq j i);
  },
)
  where
    here : is_marked (set m.marks i true) i ≡ true
    here = get_or-set_same m.marks i true false (omega (arith, less, is.counted))

    there : (j : ℕ) → (j ≡ i → ⊥) → is_marked (set m.marks i true) j ≡ is_marked m.marks j
    there j d = get_or-set_other m.marks i j true false d

    inside : (j : ℕ) → IsIn j m.stack ⊎ IsIn j (i ∷ []) → j < n
    inside j (inl k) = is.inside j k
    inside j (inr (inl e)) = omega (arith, less, e)
    inside j (inr (inr k)) = absurd k

    marked : (j : ℕ) → is_marked m.marks j ≡ true → (j ≡ i) ⊎ (j ≡ i → ⊥) → is_marked (set m.marks i true) j ≡ true
    marked j t (inl e) = ap (is_marked (set m.marks i true)) e ∙ here
    marked j t (inr d) = there j d ∙ t

    each : (j : ℕ) → IsIn j m.stack ⊎ IsIn j (i ∷ []) → is_marked (set m.marks i true) j ≡ true
    each j (inl k) = marked j (is.each j k) (cases_eq j i)
    each j (inr (inl e)) = ap (is_marked (set m.marks i true)) e ∙ here
    each j (inr (inr k)) = absurd k

    fresh : (j : ℕ) → is_marked (set m.marks i true) j ≡ true → (j ≡ i) ⊎ (j ≡ i → ⊥) → (is_marked m.marks j ≡ true) ⊎ IsIn j (m.stack ++ i ∷ [])
    fresh j t (inl e) = inr (append-right m.stack (i ∷ []) j (inl e))
    fresh j t (inr d) = inl (sym (there j d) ∙ t)

    all : (j : ℕ) → IsIn j (i ∷ []) → is_marked (set m.marks i true) j ≡ true
    all j (inl e) = ap (is_marked (set m.marks i true)) e ∙ here
    all j (inr k) = absurd k

    only : (j : ℕ) → is_marked (set m.marks i true) j ≡ true → (j ≡ i) ⊎ (j ≡ i → ⊥) → (is_marked m.marks j ≡ true) ⊎ IsIn j (i ∷ [])
    only j t (inl e) = inr (inl e)
    only j t (inr d) = inl (sym (there j d) ∙ t)

mark-marks : (n i : ℕ) (m : Marking) → IsMarking n m → i < n → IsMarking n (mark i m) × Marks (i ∷ []) m (mark i m)
mark-marks n i m is less = go (is_marked m.marks i) refl
  where
    all : is_marked m.marks i ≡ true → (j : ℕ) → IsIn j (i ∷ []) → is_marked m.marks j ≡ true
    all t j (inl e) = ap (is_marked m.marks) e ∙ t
    all t j (inr k) = absurd k

    go : (b : Bool) → is_marked m.marks i ≡ b → IsMarking n (cond b m (record { marks = set m.marks i true; stack = m.stack ++ i ∷ [] })) × Marks (i ∷ []) m (cond b m (record { marks = set m.marks i true; stack = m.stack ++ i ∷ [] }))
    go true t = (is, record { grows = grows-same m; all = all t; only = λ j h. inl h })
    go false t = set-marks n i m is less t

all-on : (n i : ℕ) (is : List ℕ) (m : Marking) → Marks (i ∷ []) m (mark i m) → IsMarking n (mark_all is (mark i m)) × Marks is (mark i m) (mark_all is (mark i m)) → IsMarking n (mark_all (i ∷ is) m) × Marks (i ∷ is) m (mark_all (i ∷ is) m)
all-on n i is m first rest = (
  rest.0,
  record {
    grows = grows-on m (mark i m) (mark_all is (mark i m)) first.grows rest.1.grows;
    all = all;
    only = λ j h. only j (rest.1.only j h);
  },
)
  where
    all : (j : ℕ) → IsIn j (i ∷ is) → is_marked (mark_all is (mark i m)).marks j ≡ true
    all j (inl e) = rest.1.grows.marked j (first.all j (inl e))
    all j (inr k) = rest.1.all j k

    before : (j : ℕ) → (is_marked m.marks j ≡ true) ⊎ IsIn j (i ∷ []) → (is_marked m.marks j ≡ true) ⊎ IsIn j (i ∷ is)
    before j (inl t) = inl t
    before j (inr (inl e)) = inr (inl e)
    before j (inr (inr e)) = absurd e

    only : (j : ℕ) → (is_marked (mark i m).marks j ≡ true) ⊎ IsIn j is → (is_marked m.marks j ≡ true) ⊎ IsIn j (i ∷ is)
    only j (inr k) = inr (inr k)
    only j (inl h) = before j (first.only j h)

pub all-marks : (n : ℕ) (is : List ℕ) (m : Marking) → IsMarking n m → ((j : ℕ) → IsIn j is → j < n) → IsMarking n (mark_all is m) × Marks is m (mark_all is m)
all-marks n [] m is inside = (is, record { grows = grows-same m; all = λ j k. absurd k; only = λ j h. inl h })
all-marks n (i ∷ is) m marking inside =
    let first : IsMarking n (mark i m) × Marks (i ∷ []) m (mark i m) = mark-marks n i m marking (inside i (inl refl)) in
    all-on n i is m first.1 (all-marks n is (mark i m) first.0 (λ j k. inside j (inr k)))

-- ---- the work

-- The marks so far: of each that is set, what its entry keeps is marked too, or it is still to be looked at.
pub record WorkSoFar (es : List GraphEntry) (ts : List ℕ) (required : List Bool) (m : Marking) : Type 0 where
  pub marking : IsMarking (length es) m
  pub required_marked : (j : ℕ) → j < length es → is_marked required j ≡ true → is_marked m.marks j ≡ true
  pub kept : (i : ℕ) → is_marked m.marks i ≡ true → IsIn i m.stack ⊎ ((j : ℕ) → IsIn j (kept_numbers es ts i) → is_marked m.marks j ≡ true)
  pub sound : (set : ℕ → Bool) → Holds (nodes_seen 0 es ts) required set → IsClosedIn (nodes_seen 0 es ts) set → (j : ℕ) → is_marked m.marks j ≡ true → set j ≡ true

-- what is taken from the stack is the number of an entry
pub work-inside : (es : List GraphEntry) (ts : List ℕ) (required : List Bool) (number : ℕ) (rest : List ℕ) (m : Marking) → WorkSoFar es ts required m → m.stack ≡ rest ++ number ∷ [] → number < length es
work-inside es ts required number rest m work popped = work.marking.inside number (subst (IsIn number) (sym popped) (append-right rest (number ∷ []) number (inl refl)))

module _ (es : List GraphEntry) (ts : List ℕ) (entries : AreEntries es (length ts)) (required : List Bool) where
  pub work-goes : (number : ℕ) (rest : List ℕ) (m n : Marking) → WorkSoFar es ts required m → m.stack ≡ rest ++ number ∷ [] → n ≡ mark_all (kept_numbers es ts number) (record { marks = m.marks; stack = rest }) → WorkSoFar es ts required n × (work_left n < work_left m)
  work-goes number rest m n work popped is = subst (λ x. WorkSoFar es ts required x × (work_left x < work_left m)) (sym is) (
    record {
      marking = next.0;
      required_marked = λ j less h. next.1.grows.marked j (work.required_marked j less h);
      kept = λ i h. kept i (next.1.grows.fresh i h);
      sound = λ set all closed j h. sound set all closed j (next.1.only j h);
    },
    omega (arith, next.1.grows.total, ap length popped, length_push rest number),
  )
    where
      stacked : IsIn number m.stack
      stacked = subst (IsIn number) (sym popped) (append-right rest (number ∷ []) number (inl refl))

      within : number < length es
      within = work.marking.inside number stacked

      others : (j : ℕ) → IsIn j rest → IsIn j m.stack
      others j k = subst (IsIn j) (sym popped) (append-left rest (number ∷ []) j k)

      next : IsMarking (length es) (mark_all (kept_numbers es ts number) (record { marks = m.marks; stack = rest })) × Marks (kept_numbers es ts number) (record { marks = m.marks; stack = rest }) (mark_all (kept_numbers es ts number) (record { marks = m.marks; stack = rest }))
      next = all-marks (length es) (kept_numbers es ts number) (record { marks = m.marks; stack = rest }) (record { counted = work.marking.counted; inside = λ j k. work.marking.inside j (others j k); each = λ j k. work.marking.each j (others j k) }) (λ j k. (marked-keeps es ts entries number j within k).0)

      before : (i : ℕ) → IsIn i rest ⊎ IsIn i (number ∷ []) → IsIn i (mark_all (kept_numbers es ts number) (record { marks = m.marks; stack = rest })).stack ⊎ ((j : ℕ) → IsIn j (kept_numbers es ts i) → is_marked (mark_all (kept_numbers es ts number) (record { marks = m.marks; stack = rest })).marks j ≡ true)
      before i (inl k) = inl (next.1.grows.stacked i k)
      before i (inr (inl e)) = inr (λ j k. next.1.all j (subst (λ x. IsIn j (kept_numbers es ts x)) e k))
      before i (inr (inr k)) = absurd k

      looked : (i : ℕ) → IsIn i m.stack ⊎ ((j : ℕ) → IsIn j (kept_numbers es ts i) → is_marked m.marks j ≡ true) → IsIn i (mark_all (kept_numbers es ts number) (record { marks = m.marks; stack = rest })).stack ⊎ ((j : ℕ) → IsIn j (kept_numbers es ts i) → is_marked (mark_all (kept_numbers es ts number) (record { marks = m.marks; stack = rest })).marks j ≡ true)
      looked i (inl k) = before i (in-append rest (number ∷ []) i (subst (IsIn i) popped k))
      looked i (inr f) = inr (λ j k. next.1.grows.marked j (f j k))

      kept : (i : ℕ) → (is_marked m.marks i ≡ true) ⊎ IsIn i (mark_all (kept_numbers es ts number) (record { marks = m.marks; stack = rest })).stack → IsIn i (mark_all (kept_numbers es ts number) (record { marks = m.marks; stack = rest })).stack ⊎ ((j : ℕ) → IsIn j (kept_numbers es ts i) → is_marked (mark_all (kept_numbers es ts number) (record { marks = m.marks; stack = rest })).marks j ≡ true)
      kept i (inl h) = looked i (work.kept i h)
      kept i (inr k) = inl k

      sound : (set : ℕ → Bool) → Holds (nodes_seen 0 es ts) required set → IsClosedIn (nodes_seen 0 es ts) set → (j : ℕ) → (is_marked m.marks j ≡ true) ⊎ IsIn j (kept_numbers es ts number) → set j ≡ true
      sound set all closed j (inl h) = work.sound set all closed j h
      sound set all closed j (inr k) = by (marked-keeps es ts entries number j within k)
        where
          own : set number ≡ true
          own = work.sound set all closed number (work.marking.each number stacked)

          by : (j < length es) × ((j ≡ number) ⊎ (keeps_number (nodes_seen 0 es ts) number j ≡ true)) → set j ≡ true
          by (b, inl e) = ap set e ∙ own
          by (b, inr h) = closed number j (omega (arith, within, nodes-length 0 es ts)) (omega (arith, b, nodes-length 0 es ts)) own h

  -- where nothing is left to be looked at
  pub work-ends : (m : Marking) → WorkSoFar es ts required m → m.stack ≡ [] → AreLeastMarks (nodes_seen 0 es ts) required m.marks
  work-ends m work none = record {
    counted = work.marking.counted ∙ sym (nodes-length 0 es ts);
    required_marked = λ j less h. work.required_marked j (omega (arith, less, nodes-length 0 es ts)) h;
    closed = λ i j a b h k. closed i j (omega (arith, a, nodes-length 0 es ts)) (omega (arith, b, nodes-length 0 es ts)) k (work.kept i h);
    least = λ set all closed j less h. work.sound set all closed j h;
  }
    where
      closed : (i j : ℕ) → i < length es → j < length es → keeps_number (nodes_seen 0 es ts) i j ≡ true → IsIn i m.stack ⊎ ((j : ℕ) → IsIn j (kept_numbers es ts i) → is_marked m.marks j ≡ true) → is_marked m.marks j ≡ true
      closed i j a b keeps (inl k) = absurd (subst (IsIn i) none k)
      closed i j a b keeps (inr f) = f j (keeps-marked es ts entries i j a b keeps)

-- ---- where the work begins

left-none : (n : ℕ) → left (replicate n false) ≡ n
unfolding left
left-none zero = refl
left-none (suc n) = ap suc (left-none n)

none-marked : (n j : ℕ) → is_marked (replicate n false) j ≡ false
none-marked zero j = refl
none-marked (suc n) zero = refl
none-marked (suc n) (suc j) = none-marked n j

-- the numbers of tests
from-numbers : (i j : ℕ) (bs : List Bool) → IsIn j (numbers_from i bs) → (k : ℕ) × (j ≡ i + k) × (k < length bs) × (is_marked bs k ≡ true)
from-numbers i j [] k = absurd k
from-numbers i j (b ∷ bs) k = go b k (from-numbers (suc i) j bs)
  where
    go : (a : Bool) → IsIn j (cond a (i ∷ numbers_from (suc i) bs) (numbers_from (suc i) bs)) → (IsIn j (numbers_from (suc i) bs) → (k : ℕ) × (j ≡ suc i + k) × (k < length bs) × (is_marked bs k ≡ true)) → (k : ℕ) × (j ≡ i + k) × (k < suc (length bs)) × (is_marked (a ∷ bs) k ≡ true)
    go true (inl e) others = (0, omega (arith, e), omega arith, refl)
    go true (inr k) others = let found = others k in (suc found.0, omega (arith, found.1), omega (arith, found.2), found.3)
    go false k others = let found = others k in (suc found.0, omega (arith, found.1), omega (arith, found.2), found.3)

numbers-from : (i j k : ℕ) (bs : List Bool) → j ≡ i + k → k < length bs → is_marked bs k ≡ true → IsIn j (numbers_from i bs)
numbers-from i j k [] is less h = absurd (omega (arith, less))
numbers-from i j zero (b ∷ bs) is less h = subst (λ a. IsIn j (cond a (i ∷ numbers_from (suc i) bs) (numbers_from (suc i) bs))) (sym h) (inl (omega (arith, is)))
numbers-from i j (suc k) (b ∷ bs) is less h = go b (numbers-from (suc i) j k bs (omega (arith, is)) (omega (arith, less)) h)
  where
    go : (a : Bool) → IsIn j (numbers_from (suc i) bs) → IsIn j (cond a (i ∷ numbers_from (suc i) bs) (numbers_from (suc i) bs))
    go true k = inr k
    go false k = k

no-marks : (n : ℕ) → IsMarking n (record { marks = replicate n false; stack = [] })
no-marks n = record { counted = length-replicate n false; inside = λ j k. absurd k; each = λ j k. absurd k }

pub work-begins : (es : List GraphEntry) (ts : List ℕ) (required : List Bool) (m : Marking) → length required ≡ length es → m ≡ mark_all (numbers_from 0 required) (record { marks = replicate (length es) false; stack = [] }) → WorkSoFar es ts required m
work-begins es ts required m same is = subst (WorkSoFar es ts required) (sym is) (record {
  marking = first.0;
  required_marked = λ j less h. first.1.all j (numbers-from 0 j j required (omega arith) (omega (arith, less, same)) h);
  kept = λ i h. kept i (first.1.grows.fresh i h);
  sound = λ set all closed j h. sound set all j (first.1.only j h);
})
  where
    inside : (j : ℕ) → IsIn j (numbers_from 0 required) → j < length es
    inside j k = let found = from-numbers 0 j required k in omega (arith, found.1, found.2, same)

    first : IsMarking (length es) (mark_all (numbers_from 0 required) (record { marks = replicate (length es) false; stack = [] })) × Marks (numbers_from 0 required) (record { marks = replicate (length es) false; stack = [] }) (mark_all (numbers_from 0 required) (record { marks = replicate (length es) false; stack = [] }))
    first = all-marks (length es) (numbers_from 0 required) (record { marks = replicate (length es) false; stack = [] }) (no-marks (length es)) inside

    clash : false ≡ true → ⊥
    clash e = cc

    kept : (i : ℕ) → (is_marked (replicate (length es) false) i ≡ true) ⊎ IsIn i (mark_all (numbers_from 0 required) (record { marks = replicate (length es) false; stack = [] })).stack
        → IsIn i (mark_all (numbers_from 0 required) (record { marks = replicate (length es) false; stack = [] })).stack ⊎ ((j : ℕ) → IsIn j (kept_numbers es ts i) → is_marked (mark_all (numbers_from 0 required) (record { marks = replicate (length es) false; stack = [] })).marks j ≡ true)
    kept i (inl h) = absurd (clash (sym (none-marked (length es) i) ∙ h))
    kept i (inr k) = inl k

    sound : (set : ℕ → Bool) → Holds (nodes_seen 0 es ts) required set → (j : ℕ) → (is_marked (replicate (length es) false) j ≡ true) ⊎ IsIn j (numbers_from 0 required) → set j ≡ true
    sound set all j (inl h) = absurd (clash (sym (none-marked (length es) j) ∙ h))
    sound set all j (inr k) =
        let found = from-numbers 0 j required k in
        let e : found.0 ≡ j = omega (arith, found.1) in
        ap set (sym e) ∙ all found.0 (omega (arith, found.2, same, nodes-length 0 es ts)) found.3
