-- Positions in three parts, by their places.
use Rattle.std.proofs.Common.{◌≡◌, ℕ, zero, suc, ◌+◌, ◌-◌, ◌<◌, ◌≤◌, refl, sym, ap, subst, ◌∙◌, arith, List, [], ◌∷◌, ◌++◌, length, take, drop, get_or}
use Rattle.std.specs.Option.{unwrap_or}
use Rattle.std.specs.List.{AllByRecursion}
use Rattle.std.proofs.lemmas.List.{drop_more, get_or-take, get_or-drop, length-take-le, length-drop, take-append-drop, drop-drop}
use Rattle.std.proofs.lemmas.List.Elements.{All-from_get_or, recursion_from_All}
use Rattle.dwc_base.specs.Wasm.{last_of}
use Rattle.dwc_native.specs.Runs.{Position}
use Rattle.dwc_addr.proofs.JoinedLaws.{EndInFront, Parts}
use Rattle.dwc_addr.proofs.PieceLaws.{no_position}

-- what holds of each position between two places
pub all-between : (P : Position → Type 0) (ps : List Position) (from behind : ℕ) → behind ≤ length ps → ((i : ℕ) → from ≤ i → i < behind → P (get_or ps i no_position)) → AllByRecursion P (take (behind - from) (drop from ps))
all-between P ps from behind le h =
    recursion_from_All P (take (behind - from) (drop from ps)) (All-from_get_or P (take (behind - from) (drop from ps)) no_position (λ i less.
    let inside : i < behind - from = omega (arith, less, length-take-le (behind - from) (drop from ps) (omega (arith, le, length-drop from ps))) in
    rw (get_or-take (behind - from) (drop from ps) i no_position inside, get_or-drop from ps i no_position) (h (from + i) (omega arith) (omega (arith, inside)))))

pub all-front : (P : Position → Type 0) (ps : List Position) (behind : ℕ) → behind ≤ length ps → ((i : ℕ) → i < behind → P (get_or ps i no_position)) → AllByRecursion P (take behind ps)
all-front P ps behind le h =
    recursion_from_All P (take behind ps) (All-from_get_or P (take behind ps) no_position (λ i less.
    let inside : i < behind = omega (arith, less, length-take-le behind ps le) in
    rw (get_or-take behind ps i no_position inside) (h i inside)))

pub all-behind : (P : Position → Type 0) (ps : List Position) (from : ℕ) → ((i : ℕ) → from ≤ i → i < length ps → P (get_or ps i no_position)) → AllByRecursion P (drop from ps)
all-behind P ps from h =
    recursion_from_All P (drop from ps) (All-from_get_or P (drop from ps) no_position (λ i less.
    rw (get_or-drop from ps i no_position) (h (from + i) (omega arith) (omega (arith, less, length-drop from ps)))))

-- positions end in front of those that follow in a part too
in_front-drop : (k : ℕ) (ps : List Position) → EndInFront ps → EndInFront (drop k ps)
in_front-drop zero ps h = h
in_front-drop (suc k) [] h = tt
in_front-drop (suc k) (p ∷ ps) h = in_front-drop k ps h.1

in_front-take : (k : ℕ) (ps : List Position) → EndInFront ps → EndInFront (take k ps)
in_front-take zero ps h = tt
in_front-take (suc k) [] h = tt
in_front-take (suc zero) (p ∷ ps) h = (tt, tt)
in_front-take (suc (suc k)) (p ∷ []) h = (tt, tt)
in_front-take (suc (suc k)) (p ∷ q ∷ ps) h = (h.0, in_front-take (suc k) (q ∷ ps) h.1)

pub in_front-between : (from behind : ℕ) (ps : List Position) → EndInFront ps → EndInFront (take (behind - from) (drop from ps))
in_front-between from behind ps h = in_front-take (behind - from) (drop from ps) (in_front-drop from ps h)

-- the last of some positions with one in front
last-at : (p : Position) (ps : List Position) → unwrap_or (last_of ps) p ≡ get_or (p ∷ ps) (length ps) no_position
last-at p [] = refl
last-at p (q ∷ qs) = last-at q qs

-- the first of a part, and those behind it
abbrev pub part_of : List Position → ℕ → ℕ → List Position
part_of ps from behind = take (behind - (from + 1)) (drop (from + 1) ps)

pub part-is : (ps : List Position) (from behind : ℕ) → from < behind → behind ≤ length ps → take (behind - from) (drop from ps) ≡ get_or ps from no_position ∷ part_of ps from behind
part-is ps from behind less le = let one : behind - from ≡ suc (behind - (from + 1)) = omega (arith, less) in rw (drop_more ps from no_position (omega (arith, less, le)), one) refl

pub part-last : (ps : List Position) (from behind : ℕ) → from < behind → behind ≤ length ps → unwrap_or (last_of (part_of ps from behind)) (get_or ps from no_position) ≡ get_or ps (behind - 1) no_position
part-last ps from behind less le =
    let whole = part-is ps from behind less le in
    let size : length (part_of ps from behind) ≡ behind - (from + 1) = length-take-le (behind - (from + 1)) (drop (from + 1) ps) (omega (arith, le, length-drop (from + 1) ps)) in
    last-at (get_or ps from no_position) (part_of ps from behind)
    ∙ ap (λ n. get_or (get_or ps from no_position ∷ part_of ps from behind) n no_position) size
    ∙ ap (λ qs. get_or qs (behind - (from + 1)) no_position) (sym whole)
    ∙ get_or-take (behind - from) (drop from ps) (behind - (from + 1)) no_position (omega (arith, less))
    ∙ get_or-drop from ps (behind - (from + 1)) no_position
    ∙ ap (λ n. get_or ps n no_position) (omega (arith, less))

-- Where the positions between two places begin at one native offset, those before below it and those behind above it, there are three parts.
pub parts-at : (ps : List Position) (from behind native : ℕ) → from < behind → behind ≤ length ps → EndInFront ps
    → ((i : ℕ) → i < from → (get_or ps i no_position).start < native)
    → ((i : ℕ) → from ≤ i → i < behind → (get_or ps i no_position).start ≡ native)
    → ((i : ℕ) → behind ≤ i → i < length ps → native < (get_or ps i no_position).start)
    → Parts ps (take from ps) (get_or ps from no_position) (part_of ps from behind) (drop behind ps)
parts-at ps from behind native less le front low same high = record {
  native = native;
  is = sym (take-append-drop from ps) ∙ ap (λ qs. take from ps ++ qs) (sym (take-append-drop (behind - from) (drop from ps)) ∙ ap (λ qs. qs ++ drop (behind - from) (drop from ps)) whole ∙ ap (λ qs. (get_or ps from no_position ∷ part_of ps from behind) ++ qs) (drop-drop (behind - from) from ps ∙ ap (λ k. drop k ps) (omega (arith, less))));
  begin_below = all-front (λ p. p.start < native) ps from (omega (arith, less, le)) low;
  begin_at = subst (λ qs. AllByRecursion (λ p. p.start ≡ native) qs) whole (all-between (λ p. p.start ≡ native) ps from behind le same);
  begin_above = all-behind (λ p. native < p.start) ps behind high;
  front = subst (λ qs. EndInFront qs) whole (in_front-between from behind ps front);
}
  where
    whole : take (behind - from) (drop from ps) ≡ get_or ps from no_position ∷ part_of ps from behind
    whole = part-is ps from behind less le
