-- Each wasm offset of a function is one that some run has.
use Rattle.std.proofs.Common.{◌≡◌, ℕ, ◌<◌, ◌≤◌, refl, arith, List, [], ◌∷◌, inl, inr}
use Rattle.std.specs.Prelude.{◌⊎◌, nat_lt, nat_le, ◌&&◌, ◌||◌, if◌then◌else◌, Bool, true, false}
use Rattle.std.specs.List.{list_any}
use Rattle.std.proofs.lemmas.Bool.{ltb-true, le-leb, cases_lt}
use Rattle.dwc_native.specs.Functions.{Function}
use Rattle.dwc_native.specs.Runs.{Position, source_positions, in_front, pieces, first_wasm, last_wasm, first_native, runs_from, runs, has_offset, RunsHaveAll}

-- each piece but the first begins below where the one before ends
abbrev Falls : List (List Position) → Type 0
Falls [] = Unit {0}
Falls (ps ∷ []) = Unit {0}
Falls (ps ∷ qs ∷ pss) = (first_wasm qs < last_wasm ps) × Falls (qs ∷ pss)

front-falls : (p : Position) (pss : List (List Position)) → Falls pss → Falls (in_front p pss)
front-falls p [] h = tt
front-falls p ([] ∷ []) h = tt
front-falls p ([] ∷ qs ∷ pss) h = absurd (omega (arith, h.0))
front-falls p ((q ∷ qs) ∷ []) h = go (nat_lt q.wasm p.wasm) refl
  where
    go : (b : Bool) → nat_lt q.wasm p.wasm ≡ b → Falls (if b then (p ∷ []) ∷ (q ∷ qs) ∷ [] else (p ∷ q ∷ qs) ∷ [])
    go true is = (ltb-true q.wasm p.wasm is, tt)
    go false is = tt
front-falls p ((q ∷ qs) ∷ rs ∷ pss) h = go (nat_lt q.wasm p.wasm) refl
  where
    go : (b : Bool) → nat_lt q.wasm p.wasm ≡ b → Falls (if b then (p ∷ []) ∷ (q ∷ qs) ∷ rs ∷ pss else (p ∷ q ∷ qs) ∷ rs ∷ pss)
    go true is = (ltb-true q.wasm p.wasm is, h)
    go false is = h

pieces-fall : (ps : List Position) → Falls (pieces ps)
pieces-fall [] = tt
pieces-fall (p ∷ ps) = front-falls p (pieces ps) (pieces-fall ps)

some-front : (p : Position) (pss : List (List Position)) → in_front p pss ≡ [] → ⊥
some-front p [] h = absurd (cc)
some-front p ([] ∷ pss) h = absurd (cc)
some-front p ((q ∷ qs) ∷ pss) h = go (nat_lt q.wasm p.wasm) h
  where
    go : (b : Bool) → ◌≡◌ {A = List (List Position)} (if b then (p ∷ []) ∷ (q ∷ qs) ∷ pss else (p ∷ q ∷ qs) ∷ pss) [] → ⊥
    go true h = absurd (cc)
    go false h = absurd (cc)

pub some-pieces : (ps : List Position) → pieces ps ≡ [] → ⊥
some-pieces [] h = absurd (cc)
some-pieces (p ∷ ps) h = some-front p (pieces ps) h

or-true : (b : Bool) → (b || true) ≡ true
or-true true = refl
or-true false = refl

runs-have : (f : Function) (a wasm offset : ℕ) (ps : List Position) (pss : List (List Position)) → Falls (ps ∷ pss) → wasm ≤ a → a ≤ f.end → list_any (has_offset a) (runs_from f wasm offset (ps ∷ pss)) ≡ true
runs-have f a wasm offset ps [] h low high = rw (le-leb wasm a low, le-leb a f.end high) refl
runs-have f a wasm offset ps (qs ∷ pss) h low high = go (cases_lt a (first_wasm qs)) (λ least. runs-have f a (first_wasm qs) (first_native qs) qs pss h.1 least high)
  where
    more : (b : Bool) (rest : Bool) → rest ≡ true → (b || rest) ≡ true
    more b rest is = rw is (or-true b)

    go : (a < first_wasm qs) ⊎ (first_wasm qs ≤ a) → (first_wasm qs ≤ a → list_any (has_offset a) (runs_from f (first_wasm qs) (first_native qs) (qs ∷ pss)) ≡ true)
        → list_any (has_offset a) (runs_from f wasm offset (ps ∷ qs ∷ pss)) ≡ true
    go (inl less) rest = rw (le-leb wasm a low, le-leb a (last_wasm ps) (omega (arith, less, h.0))) refl
    go (inr past) rest = more (nat_le wasm a && nat_le a (last_wasm ps)) _ (rest past)

pub runs-have_all : (f : Function) → RunsHaveAll f
unfolding runs
runs-have_all f good a low high = go (pieces (source_positions f.length f.entries)) (pieces-fall (source_positions f.length f.entries)) (some-pieces (source_positions f.length f.entries))
  where
    go : (pss : List (List Position)) → Falls pss → (pss ≡ [] → ⊥) → list_any (has_offset a) (runs_from f f.start 0 pss) ≡ true
    go [] falls some = absurd (some refl)
    go (ps ∷ pss) falls some = runs-have f a f.start 0 ps pss falls low high
