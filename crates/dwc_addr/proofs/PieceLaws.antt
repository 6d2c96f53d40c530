-- The pieces of positions, cut at the places where the wasm offset falls, and the runs of a function by their numbers.
use Rattle.std.proofs.Common.{◌≡◌, ℕ, zero, suc, ◌+◌, ◌-◌, ◌<◌, ◌≤◌, refl, sym, ap, subst, ◌∙◌, arith, List, [], ◌∷◌, map, length, take, drop, get_or, add-one, inl, inr}
use Rattle.std.specs.Prelude.{◌⊎◌, nat_lt, if◌then◌else◌, Bool, true, false, All}
use Rattle.std.specs.List.{AllByRecursion}
use Rattle.std.proofs.lemmas.Bool.{lt-ltb, le-ltb, ltb-false, cases_lt}
use Rattle.std.proofs.lemmas.List.Elements.{All-nil, All-cons}
use Rattle.std.proofs.lemmas.List.{drop_more, length-drop, drop_all, get_or-drop, drop-drop}
use Rattle.dwc_native.specs.Functions.{Function, Recorded}
use Rattle.dwc_native.specs.Runs.{Position, Run, in_front, pieces, joined_positions, runs_from, first_wasm, last_wasm, first_native}
use Rattle.dwc_addr.specs.Rising.{RisesFrom}
use Rattle.dwc_addr.specs.Runs.{run_starts}

-- pieces of positions of which the first has a place, cut at places
abbrev pub cut : ℕ → List ℕ → List Position → List (List Position)
cut from [] ps = ps ∷ []
cut from (s ∷ ss) ps = take (s - from) ps ∷ cut s ss (drop (s - from) ps)

-- a position as a recorded source
abbrev pub recorded_at : Position → Recorded
recorded_at p = record { native = p.start; wasm = p.wasm }

-- places rise from above a place to below one
abbrev pub Rise : ℕ → ℕ → List ℕ → Type 0
Rise low n [] = Unit {0}
Rise low n (s ∷ ss) = (low < s) × (s < n) × Rise s n ss

rise-weaker : (low high n : ℕ) (ss : List ℕ) → low ≤ high → Rise high n ss → Rise low n ss
rise-weaker low high n [] le h = tt
rise-weaker low high n (s ∷ ss) le h = (omega (arith, le, h.0), h.1, h.2)

starts-rise : (low before n : ℕ) (es : List Recorded) → suc low + length es ≡ n → Rise low n (run_starts (suc low) before es)
starts-rise low before n [] len = tt
starts-rise low before n (e ∷ es) len = go (nat_lt e.wasm before) (starts-rise (suc low) e.wasm n es (omega (arith, len)))
  where
    go : (b : Bool) → Rise (suc low) n (run_starts (suc (suc low)) e.wasm es) → Rise low n (if b then suc low ∷ run_starts (suc (suc low)) e.wasm es else run_starts (suc (suc low)) e.wasm es)
    go true h = (omega arith, omega (arith, len), h)
    go false h = rise-weaker low (suc low) n _ (omega arith) h

-- a position in front of pieces that are cut
front-cut : (from n : ℕ) (p q : Position) (qs : List Position) (ss : List ℕ) → Rise (suc from) n ss → in_front p (cut (suc from) ss (q ∷ qs)) ≡ cut from (if nat_lt q.wasm p.wasm then suc from ∷ ss else ss) (p ∷ q ∷ qs)
front-cut from n p q qs [] rise = go (nat_lt q.wasm p.wasm) (omega arith)
  where
    go : (b : Bool) → suc from - from ≡ 1 → (if b then (p ∷ []) ∷ (q ∷ qs) ∷ [] else (p ∷ q ∷ qs) ∷ []) ≡ cut from (if b then suc from ∷ [] else []) (p ∷ q ∷ qs)
    go true one = rw one refl
    go false one = refl
front-cut from n p q qs (s ∷ ss) rise = rw inner (go (nat_lt q.wasm p.wasm) (omega arith))
  where
    m : ℕ
    m = s - suc (suc from)

    inner : s - suc from ≡ suc m
    inner = omega (arith, rise.0)

    outer : s - from ≡ suc (suc m)
    outer = omega (arith, rise.0)

    go : (b : Bool) → suc from - from ≡ 1
        → (if b then (p ∷ []) ∷ (q ∷ take m qs) ∷ cut s ss (drop m qs) else (p ∷ q ∷ take m qs) ∷ cut s ss (drop m qs)) ≡ cut from (if b then suc from ∷ (s ∷ ss) else s ∷ ss) (p ∷ q ∷ qs)
    go true one = rw (one, inner) refl
    go false one = rw outer refl

-- Pieces are cut where the wasm offset falls.
pieces-from : (from : ℕ) (p : Position) (ps : List Position) → pieces (p ∷ ps) ≡ cut from (run_starts (suc from) p.wasm (map recorded_at ps)) (p ∷ ps)
pieces-from from p [] = refl
pieces-from from p (q ∷ qs) =
    ap (in_front p) (pieces-from (suc from) q qs)
    ∙ front-cut from (suc (suc from) + length (map recorded_at qs)) p q qs (run_starts (suc (suc from)) q.wasm (map recorded_at qs)) (starts-rise (suc from) q.wasm _ (map recorded_at qs) refl)

pub pieces-cut : (ps : List Position) → pieces ps ≡ cut 0 (run_starts 0 0 (map recorded_at ps)) ps
pieces-cut [] = refl
pieces-cut (p ∷ ps) = rw (le-ltb p.wasm 0 (omega arith)) (pieces-from 0 p ps)

pub places-rise : (es : List Recorded) → Rise 0 (length es) (run_starts 0 0 es)
places-rise [] = tt
places-rise (e ∷ es) = rw (le-ltb e.wasm 0 (omega arith)) (starts-rise 0 e.wasm (length (e ∷ es)) es (omega arith))

-- they are places behind the first one
rise-inside : (low n : ℕ) (ss : List ℕ) → Rise low n ss → All (λ s. (0 < s) × (s < n)) ss
rise-inside low n [] h = All-nil (λ s. (0 < s) × (s < n))
rise-inside low n (s ∷ ss) h = All-cons (λ s. (0 < s) × (s < n)) s ss (omega (arith, h.0), h.1) (rise-inside s n ss h.2)

pub places-inside : (es : List Recorded) → All (λ s. (0 < s) × (s < length es)) (run_starts 0 0 es)
places-inside es = rise-inside 0 (length es) (run_starts 0 0 es) (places-rise es)

-- the wasm offsets of a piece do not fall
abbrev pub PieceRises : List Position → Type 0
PieceRises ps = RisesFrom (λ p. p.wasm) 0 ps

front-rises : (p : Position) (pss : List (List Position)) → AllByRecursion PieceRises pss → AllByRecursion PieceRises (in_front p pss)
front-rises p [] h = ((omega arith, tt), tt)
front-rises p ([] ∷ pss) h = ((omega arith, tt), h.1)
front-rises p ((q ∷ qs) ∷ pss) h = go (nat_lt q.wasm p.wasm) refl
  where
    go : (b : Bool) → nat_lt q.wasm p.wasm ≡ b → AllByRecursion PieceRises (if b then (p ∷ []) ∷ (q ∷ qs) ∷ pss else (p ∷ q ∷ qs) ∷ pss)
    go true is = ((omega arith, tt), h)
    go false is = ((omega arith, (ltb-false q.wasm p.wasm is, h.0.1)), h.1)

pub pieces-rise : (ps : List Position) → AllByRecursion PieceRises (pieces ps)
pieces-rise [] = (tt, tt)
pieces-rise (p ∷ ps) = front-rises p (pieces ps) (pieces-rise ps)

rises-behind : (k : ℕ) (pss : List (List Position)) → AllByRecursion PieceRises pss → AllByRecursion PieceRises (drop k pss)
rises-behind zero pss h = h
rises-behind (suc k) [] h = tt
rises-behind (suc k) (ps ∷ pss) h = rises-behind k pss h.1

-- ---- runs by their numbers

-- what stands past the end of a list
abbrev pub no_position : Position
no_position = record { wasm = 0; start = 0; end = 0 }

-- the place of the first position of a run: each run but the first begins at one of the places
abbrev pub first_place : List ℕ → ℕ → ℕ
first_place ss zero = 0
first_place ss (suc k) = get_or ss k 0

-- where a run begins in the wasm code and in the native code
abbrev pub begin_wasm : Function → List Position → List ℕ → ℕ → ℕ
begin_wasm f ps ss zero = f.start
begin_wasm f ps ss (suc k) = (get_or ps (get_or ss k 0) no_position).wasm

abbrev pub begin_native : List Position → List ℕ → ℕ → ℕ
begin_native ps ss zero = 0
begin_native ps ss (suc k) = (get_or ps (get_or ss k 0) no_position).start

-- The run of a function by its number, with places where runs behind the first begin.
abbrev pub run_at : Function → List Position → List ℕ → ℕ → Run
run_at f ps ss k =
    if nat_lt k (length ss)
    then record {
      wasm_start = begin_wasm f ps ss k;
      wasm_end = (get_or ps (get_or ss k 0 - 1) no_position).wasm;
      start = begin_native ps ss k;
      end = (get_or ps (get_or ss k 0) no_position).start;
      positions = joined_positions (take (get_or ss k 0 - first_place ss k) (drop (first_place ss k) ps));
    }
    else record {
      wasm_start = begin_wasm f ps ss k;
      wasm_end = f.end;
      start = begin_native ps ss k;
      end = f.length;
      positions = joined_positions (drop (first_place ss k) ps);
    }

-- the first of some pieces
record Pieces (first : Position) (ps : List (List Position)) : Type 0 where
  front : List Position
  behind : List (List Position)
  is : ps ≡ front ∷ behind
  wasm : first_wasm front ≡ first.wasm
  native : first_native front ≡ first.start

cut-first : (from n : ℕ) (ss : List ℕ) (p : Position) (ps : List Position) → Rise from n ss → Pieces p (cut from ss (p ∷ ps))
cut-first from n [] p ps rise = record { front = p ∷ ps; behind = []; is = refl; wasm = refl; native = refl }
cut-first from n (s ∷ ss) p ps rise =
    let m : ℕ = s - suc from in
    let e : s - from ≡ suc m = omega (arith, rise.0) in
    rw e (record { front = p ∷ take m ps; behind = cut s ss (drop m ps); is = refl; wasm = refl; native = refl })

-- the last of a front
last-front : (m : ℕ) (ps : List Position) → m < length ps → last_wasm (take (suc m) ps) ≡ (get_or ps m no_position).wasm
last-front m [] less = absurd (omega (arith, less))
last-front zero (p ∷ ps) less = refl
last-front (suc m) (p ∷ []) less = absurd (omega (arith, less))
last-front (suc m) (p ∷ q ∷ ps) less = last-front m (q ∷ ps) (omega (arith, less))

-- what stands at a place of a list that goes on
after-drop : {A : Type 0} (xs rest : List A) (k : ℕ) (x : A) → drop k xs ≡ x ∷ rest → drop (suc k) xs ≡ rest
after-drop [] rest zero x h = absurd (cc)
after-drop [] rest (suc k) x h = absurd (cc)
after-drop (y ∷ ys) rest zero x h = cc
after-drop (y ∷ ys) rest (suc k) x h = after-drop ys rest k x h

module _ (f : Function) (ps : List Position) (ss : List ℕ) where
  abbrev all : List Run
  all = runs_from f f.start 0 (cut 0 ss ps)

  abbrev left_at : ℕ → List Run
  left_at k = runs_from f (begin_wasm f ps ss k) (begin_native ps ss k) (cut (first_place ss k) (drop k ss) (drop (first_place ss k) ps))

  -- the runs from one on
  record LeftAt (k : ℕ) : Type 0 where
    is : drop k all ≡ left_at k
    rise : Rise (first_place ss k) (length ps) (drop k ss)
    pieces : drop k (cut 0 ss ps) ≡ cut (first_place ss k) (drop k ss) (drop (first_place ss k) ps)

  -- a run that is not the last
  first-run : (from s : ℕ) (later : List ℕ) (wasm native : ℕ) → Rise from (length ps) (s ∷ later)
      → runs_from f wasm native (cut from (s ∷ later) (drop from ps))
      ≡ record { wasm_start = wasm; wasm_end = (get_or ps (s - 1) no_position).wasm; start = native; end = (get_or ps s no_position).start; positions = joined_positions (take (s - from) (drop from ps)) }
      ∷ runs_from f (get_or ps s no_position).wasm (get_or ps s no_position).start (cut s later (drop s ps))
  first-run from s later wasm native rise =
      let m : ℕ = s - suc from in
      let e : s - from ≡ suc m = omega (arith, rise.0) in
      let rest : drop (s - from) (drop from ps) ≡ get_or ps s no_position ∷ drop (s + 1) ps = drop-drop (s - from) from ps ∙ ap (λ k. drop k ps) (omega (arith, rise.0)) ∙ drop_more ps s no_position rise.1 in
      let next = cut-first s (length ps) later (get_or ps s no_position) (drop (s + 1) ps) rise.2 in
      let last : last_wasm (take (s - from) (drop from ps)) ≡ (get_or ps (s - 1) no_position).wasm =
      ap (λ n. last_wasm (take n (drop from ps))) e
      ∙ last-front m (drop from ps) (omega (arith, rise.0, rise.1, length-drop from ps))
      ∙ ap (λ p. p.wasm) (get_or-drop from ps m no_position ∙ ap (λ k. get_or ps k no_position) (omega (arith, rise.0))) in
      rw (drop_more ps s no_position rise.1, rest, next.is, last, next.wasm, next.native) refl

  run-more : (k : ℕ) → k < length ss → LeftAt k → drop k all ≡ run_at f ps ss k ∷ left_at (suc k)
  run-more k less left =
      let here : drop k ss ≡ get_or ss k 0 ∷ drop (suc k) ss = drop_more ss k 0 less ∙ ap (λ n. get_or ss k 0 ∷ drop n ss) (add-one k) in
      let rise = rw here at left.rise in
      rw (left.is, here, first-run (first_place ss k) (get_or ss k 0) (drop (suc k) ss) (begin_wasm f ps ss k) (begin_native ps ss k) rise, lt-ltb k (length ss) less) refl

  -- the pieces behind one
  pieces-more : (k : ℕ) → drop k ss ≡ get_or ss k 0 ∷ drop (suc k) ss → first_place ss k < get_or ss k 0 → drop k (cut 0 ss ps) ≡ cut (first_place ss k) (drop k ss) (drop (first_place ss k) ps)
      → drop k (cut 0 ss ps) ≡ take (get_or ss k 0 - first_place ss k) (drop (first_place ss k) ps) ∷ cut (get_or ss k 0) (drop (suc k) ss) (drop (get_or ss k 0) ps)
  pieces-more k here less is =
      is
      ∙ ap (λ places. cut (first_place ss k) places (drop (first_place ss k) ps)) here
      ∙ ap (λ qs. take (get_or ss k 0 - first_place ss k) (drop (first_place ss k) ps) ∷ cut (get_or ss k 0) (drop (suc k) ss) qs) (drop-drop (get_or ss k 0 - first_place ss k) (first_place ss k) ps ∙ ap (λ n. drop n ps) (omega (arith, less)))

  left-all : Rise 0 (length ps) ss → (k : ℕ) → k ≤ length ss → LeftAt k
  left-all rise zero le = record { is = refl; rise = rise; pieces = refl }
  left-all rise (suc k) le =
      let left = left-all rise k (omega (arith, le)) in
      let here : drop k ss ≡ get_or ss k 0 ∷ drop (suc k) ss = drop_more ss k 0 (omega (arith, le)) ∙ ap (λ n. get_or ss k 0 ∷ drop n ss) (add-one k) in
      record {
        is = after-drop all (left_at (suc k)) k (run_at f ps ss k) (run-more k (omega (arith, le)) left);
        rise = (rw here at left.rise).2;
        pieces = after-drop (cut 0 ss ps) _ k _ (pieces-more k here (rw here at left.rise).0 left.pieces);
      }

  -- The runs from one on are that run and those behind it.
  pub runs-more : Rise 0 (length ps) ss → (k : ℕ) → k ≤ length ss → drop k all ≡ run_at f ps ss k ∷ drop (suc k) all
  runs-more rise k le = go (cases_lt k (length ss))
    where
      last : k ≡ length ss → drop k all ≡ run_at f ps ss k ∷ []
      last same = rw ((left-all rise k le).is, drop_all k ss (omega (arith, same)), le-ltb k (length ss) (omega (arith, same))) refl

      go : (k < length ss) ⊎ (length ss ≤ k) → drop k all ≡ run_at f ps ss k ∷ drop (suc k) all
      go (inl less) =
          let step = run-more k less (left-all rise k le) in
          step ∙ ap (λ rest. run_at f ps ss k ∷ rest) (sym (after-drop all (left_at (suc k)) k (run_at f ps ss k) step))
      go (inr past) =
          let step = last (omega (arith, past, le)) in
          step ∙ ap (λ rest. run_at f ps ss k ∷ rest) (sym (after-drop all [] k (run_at f ps ss k) step))

  -- There are as many as the places, and one more.
  pub runs-end : Rise 0 (length ps) ss → drop (suc (length ss)) all ≡ []
  runs-end rise = after-drop all [] (length ss) (run_at f ps ss (length ss)) last
    where
      last : drop (length ss) all ≡ run_at f ps ss (length ss) ∷ []
      last = rw ((left-all rise (length ss) (omega arith)).is, drop_all (length ss) ss (omega arith), le-ltb (length ss) (length ss) (omega arith)) refl

  -- ---- the places and positions of a run

  -- A run that is not the last ends above where it begins, and inside.
  pub place-behind : Rise 0 (length ps) ss → (k : ℕ) → k < length ss → (first_place ss k < get_or ss k 0) × (get_or ss k 0 < length ps)
  place-behind rise k less =
      let here : drop k ss ≡ get_or ss k 0 ∷ drop (suc k) ss = drop_more ss k 0 less ∙ ap (λ n. get_or ss k 0 ∷ drop n ss) (add-one k) in
      let left = rw here at (left-all rise k (omega (arith, less))).rise in
      (left.0, left.1)

  -- Each but the first begins inside.
  pub place-inside : Rise 0 (length ps) ss → (k : ℕ) → k ≤ length ss → first_place ss k ≤ length ps
  place-inside rise zero le = omega arith
  place-inside rise (suc k) le = omega (arith, (place-behind rise k (omega (arith, le))).1)

  -- The wasm offsets of its positions do not fall.
  pub positions-rise : Rise 0 (length ps) ss → AllByRecursion PieceRises (cut 0 ss ps) → (k : ℕ) → k < length ss → PieceRises (take (get_or ss k 0 - first_place ss k) (drop (first_place ss k) ps))
  positions-rise rise h k less =
      let here : drop k ss ≡ get_or ss k 0 ∷ drop (suc k) ss = drop_more ss k 0 less ∙ ap (λ n. get_or ss k 0 ∷ drop n ss) (add-one k) in
      let left = left-all rise k (omega (arith, less)) in
      (subst (AllByRecursion PieceRises) (pieces-more k here (place-behind rise k less).0 left.pieces) (rises-behind k (cut 0 ss ps) h)).0

  pub last-rises : Rise 0 (length ps) ss → AllByRecursion PieceRises (cut 0 ss ps) → PieceRises (drop (first_place ss (length ss)) ps)
  last-rises rise h =
      let left = left-all rise (length ss) (omega arith) in
      (subst (AllByRecursion PieceRises) (left.pieces ∙ ap (λ places. cut (first_place ss (length ss)) places (drop (first_place ss (length ss)) ps)) (drop_all (length ss) ss (omega arith))) (rises-behind (length ss) (cut 0 ss ps) h)).0
