-- Ranges collected in order, and flat ranges laid over others.
use Rattle.std.proofs.Common.{◌≡◌, ℕ, ◌<◌, ◌≤◌, ◌⊎◌, min, max, List, [], ◌∷◌, ◌++◌, Option, Some, None, refl, sym, ap, ◌∙◌, arith, inl, inr}
use Rattle.std.specs.Prelude.{All}
use Rattle.std.specs.Option.{option_or}
use Rattle.std.proofs.lemmas.Bool.{cases_lt}
use Rattle.std.proofs.lemmas.List.Elements.{All-nil, All-cons, All-head, All-weaker}
use Rattle.dwc_native.specs.Compiled.{Place, LabelRange}
use Rattle.dwc_native.specs.Placed.{last_place}
use Rattle.dwc_isa.specs.FlatRanges.{IsFlat, IsFlatTo, Flattens, IsPut, Puts, part_between, AnswersTo, IsWantedBetween, PutsBetween, IsRest}
use Rattle.dwc_isa.proofs.PlaceLaws.{alone-inside, alone-below, alone-behind, part-same, or-none, answers-append, first-answers, others-answer, none-below, none-behind}
use Rattle.dwc_isa.proofs.FlatLaws.{flat-none-to}
use Rattle.dwc_isa.proofs.PutLaws.{flat-further, First, first-of}

-- ---- ranges that are collected in order

-- what is collected of some ranges that end at or below a byte
pub record IsCollected (end : ℕ) (rs out : List LabelRange) : Type 0 where
  pub flat : IsFlatTo end out
  pub same : (byte : ℕ) → last_place out byte ≡ last_place rs byte

pub collected-none : IsCollected 0 [] []
collected-none = record { flat = flat-none-to 0; same = λ byte. refl }

pub collected-more : (end : ℕ) (r : LabelRange) (rs out new : List LabelRange) → IsCollected end rs out → end ≤ r.start → Puts r out new → IsCollected (max end r.end) (rs ++ r ∷ []) new
collected-more end r rs out new c le puts =
    let put : IsPut end r out new = puts end c.flat le in
    record {
      flat = put.flat;
      same = λ byte.
          put.same byte ∙ answers-append out (r ∷ []) byte
          ∙ ap (λ o. option_or (last_place (r ∷ []) byte) o) (c.same byte)
          ∙ sym (answers-append rs (r ∷ []) byte);
    }

-- ---- what is put behind ranges

-- nothing, where nothing is wanted
pub answers-further : (end later : ℕ) (want : ℕ → Option Place) (rs : List LabelRange) → end ≤ later → AnswersTo end want rs → ((byte : ℕ) → end ≤ byte → byte < later → want byte ≡ None) → AnswersTo later want rs
answers-further end later want rs le a none = record { flat = flat-further end later rs le a.flat; same = λ byte below. go byte below (cases_lt byte end) }
  where
    go : (byte : ℕ) → byte < later → (byte < end) ⊎ (end ≤ byte) → last_place rs byte ≡ want byte
    go byte below (inl low) = a.same byte low
    go byte below (inr high) = none-behind end rs byte a.flat.ends high ∙ sym (none byte high below)

-- a range, where it is wanted
pub answers-put :
    (end later : ℕ) (want : ℕ → Option Place) (r : LabelRange) (old new : List LabelRange) → Puts r old new → AnswersTo end want old → end ≤ r.start → end ≤ later → r.end ≤ later
    → IsWantedBetween end later want (r ∷ []) → AnswersTo later want new
answers-put end later want r old new puts a start le to wanted = record {
  flat = flat-further (max end r.end) later new (omega (arith, le, to)) put.flat;
  same = λ byte below. put.same byte ∙ answers-append old (r ∷ []) byte ∙ go byte below (cases_lt byte end);
}
  where
    put : IsPut end r old new
    put = puts end a.flat start

    go : (byte : ℕ) → byte < later → (byte < end) ⊎ (end ≤ byte) → option_or (last_place (r ∷ []) byte) (last_place old byte) ≡ want byte
    go byte below (inl low) = ap (λ o. option_or o (last_place old byte)) (alone-below r byte (omega (arith, low, start))) ∙ a.same byte low
    go byte below (inr high) =
        ap (λ o. option_or (last_place (r ∷ []) byte) o) (none-behind end old byte a.flat.ends high)
        ∙ or-none (last_place (r ∷ []) byte) ∙ sym (wanted byte high below)

-- ---- the parts of ranges between two bytes

-- What is put of ranges from a byte up to another, at a byte between them: what they answer up to there is put, and the ranges that
-- are left answer from there on.
pub record IsPutting (from to end : ℕ) (rs left old new : List LabelRange) : Type 0 where
  pub low : from ≤ end
  pub high : end ≤ to
  pub put : PutsBetween from end rs old new
  pub rest : IsRest end rs left

-- what is put of them at the end
pub record IsPutBetween (from to : ℕ) (rs left old new : List LabelRange) : Type 0 where
  pub put : PutsBetween from to rs old new
  pub rest : IsRest to rs left

pub putting-none : (from to : ℕ) (rs old : List LabelRange) → IsFlat rs → from ≤ to → IsPutting from to from rs rs old old
putting-none from to rs old flat le = record { low = omega arith; high = le; put = λ want a wanted. a; rest = record { flat = flat; same = λ byte above. refl } }

-- no range is left that begins below the second byte
pub putting-done : (from to end : ℕ) (rs left old new : List LabelRange) → IsPutting from to end rs left old new → All (λ r. to ≤ r.start) left → IsPutBetween from to rs left old new
putting-done from to end rs left old new p behind = record {
  put = λ want a wanted.
      answers-further end to want new p.high (p.put want a (λ byte low high. wanted byte low (omega (arith, high, p.high))))
      (λ byte low high. wanted byte (omega (arith, low, p.low)) high ∙ sym (p.rest.same byte low) ∙ none-below to left byte behind high);
  rest = record { flat = p.rest.flat; same = λ byte above. p.rest.same byte (omega (arith, above, p.high)) };
}

pub putting-all : (from to end : ℕ) (rs old new : List LabelRange) → IsPutting from to end rs [] old new → IsPutBetween from to rs [] old new
putting-all from to end rs old new p = putting-done from to end rs [] old new p (All-nil (λ r. to ≤ r.start))

pub putting-behind : (from to end : ℕ) (r : LabelRange) (rs left old new : List LabelRange) → IsPutting from to end rs (r ∷ left) old new → to ≤ r.start → IsPutBetween from to rs (r ∷ left) old new
putting-behind from to end r rs left old new p le =
    let first : First r left = first-of r left p.rest.flat in
    putting-done from to end rs (r ∷ left) old new p (All-cons (λ s. to ≤ s.start) r left le (All-weaker (λ s. r.end ≤ s.start) (λ s. to ≤ s.start) (λ s from. omega (arith, from, le, first.some)) left first.behind))

module _ (from to end : ℕ) (r : LabelRange) (rs left old new newer : List LabelRange) (p : IsPutting from to end rs (r ∷ left) old new) (begins : r.start < to) (puts : Puts (part_between end to r) new newer) where
  first : First r left
  first = first-of r left p.rest.flat

  -- with the part of the first range that is left
  with_part : (later : ℕ) → end ≤ later → later ≤ to → min r.end to ≤ later → ((byte : ℕ) → end ≤ byte → byte < later → byte < r.end) → PutsBetween from later rs old newer
  with_part later le most covers inside = λ want a wanted.
      answers-put end later want (part_between end to r) new newer puts
      (p.put want a (λ byte low high. wanted byte low (omega (arith, high, le))))
      (omega arith) le covers
      (λ byte low high.
      wanted byte (omega (arith, low, p.low)) high
      ∙ sym (p.rest.same byte low)
      ∙ first-answers r left byte (none-below r.end left byte first.behind (inside byte low high))
      ∙ sym (part-same end to byte r low (omega (arith, high, most))))

  -- it ends by the second byte
  pub putting-more : r.end ≤ to → IsPutting from to (max end r.end) rs left old newer
  putting-more ends = record {
    low = omega (arith, p.low);
    high = omega (arith, p.high, ends);
    put = with_part (max end r.end) (omega arith) (omega (arith, p.high, ends)) (omega arith) (λ byte low high. omega (arith, low, high));
    rest = record {
      flat = first.others;
      same = λ byte above. sym (others-answer r left byte (alone-behind r byte (omega (arith, above)))) ∙ p.rest.same byte (omega (arith, above));
    };
  }

  -- it reaches further
  pub putting-over : to < r.end → IsPutBetween from to rs (r ∷ left) old newer
  putting-over over = record {
    put = with_part to p.high (omega arith) (omega arith) (λ byte low high. omega (arith, high, over));
    rest = record { flat = p.rest.flat; same = λ byte above. p.rest.same byte (omega (arith, above, p.high)) };
  }

-- ---- ranges over others

-- ranges over others up to a byte: below it all is answered, and from it on what is left of both answers
pub record IsOverlaid (end : ℕ) (below above rest left out : List LabelRange) : Type 0 where
  pub done : AnswersTo end (last_place (below ++ above)) out
  pub rest_below : IsRest end below rest
  pub rest_above : IsRest end above left
  pub behind : All (λ r. end ≤ r.start) left

pub overlaid-none : (below above : List LabelRange) → IsFlat below → IsFlat above → IsOverlaid 0 below above below above []
overlaid-none below above f g = record {
  done = record { flat = flat-none-to 0; same = λ byte less. absurd (omega (arith, less)) };
  rest_below = record { flat = f; same = λ byte from. refl };
  rest_above = record { flat = g; same = λ byte from. refl };
  behind = λ k d inside. omega arith;
}

module _ (end : ℕ) (below above rest left out : List LabelRange) where
  -- where what is left of those above has no place, those below have theirs
  below-answer : IsOverlaid end below above rest left out → (byte : ℕ) → end ≤ byte → last_place left byte ≡ None → last_place (below ++ above) byte ≡ last_place rest byte
  below-answer o byte from none =
      answers-append below above byte
      ∙ ap (λ p. option_or p (last_place below byte)) (sym (o.rest_above.same byte from) ∙ none)
      ∙ sym (o.rest_below.same byte from)

  -- where it has one, that counts
  above-answer : IsOverlaid end below above rest left out → (byte : ℕ) (place : Place) → end ≤ byte → last_place left byte ≡ Some place → last_place (below ++ above) byte ≡ Some place
  above-answer o byte place from some = answers-append below above byte ∙ ap (λ p. option_or p (last_place below byte)) (sym (o.rest_above.same byte from) ∙ some)

-- one range more of those above, and what is below in front of it
pub overlaid-more :
    (end : ℕ) (r : LabelRange) (below above rest left out : List LabelRange) (rest_behind filled more : List LabelRange) → IsOverlaid end below above rest (r ∷ left) out
    → PutsBetween end r.start rest out filled → IsRest r.start rest rest_behind → Puts r filled more → IsOverlaid r.end below above rest_behind left more
overlaid-more end r below above rest left out rest_behind filled more o fills leaves puts = record {
  done = answers-put r.start r.end want r filled more puts front (omega arith) (omega (arith, first.some)) (omega arith) here;
  rest_below = record { flat = leaves.flat; same = λ byte from. leaves.same byte (omega (arith, from, first.some)) ∙ o.rest_below.same byte (omega (arith, from, first.some, start)) };
  rest_above = record {
    flat = first.others;
    same = λ byte from. sym (others-answer r left byte (alone-behind r byte from)) ∙ o.rest_above.same byte (omega (arith, from, first.some, start));
  };
  behind = first.behind;
}
  where
    want : ℕ → Option Place
    want = last_place (below ++ above)

    first : First r left
    first = first-of r left o.rest_above.flat

    start : end ≤ r.start
    start = All-head (λ s. end ≤ s.start) r left o.behind

    all_behind : All (λ s. r.start ≤ s.start) (r ∷ left)
    all_behind = All-cons (λ s. r.start ≤ s.start) r left (omega arith) (All-weaker (λ s. r.end ≤ s.start) (λ s. r.start ≤ s.start) (λ s from. omega (arith, from, first.some)) left first.behind)

    front : AnswersTo r.start want filled
    front = fills want o.done (λ byte from to. below-answer end below above rest (r ∷ left) out o byte from (none-below r.start (r ∷ left) byte all_behind to))

    here : IsWantedBetween r.start r.end want (r ∷ [])
    here byte from to =
        above-answer end below above rest (r ∷ left) out o byte r.place (omega (arith, from, start))
        (first-answers r left byte (none-below r.end left byte first.behind to) ∙ alone-inside r byte from to)
        ∙ sym (alone-inside r byte from to)

-- and in the end what is below behind the last
pub overlaid-all :
    (end top : ℕ) (below above rest out : List LabelRange) (rest_behind filled : List LabelRange) → IsOverlaid end below above rest [] out
    → PutsBetween end top rest out filled → IsRest top rest rest_behind → rest_behind ≡ [] → end ≤ top → Flattens (below ++ above) filled
overlaid-all end top below above rest out rest_behind filled o fills leaves none le = record { flat = all.flat.flat; same = λ byte. go byte (cases_lt byte top) }
  where
    all : AnswersTo top (last_place (below ++ above)) filled
    all = fills (last_place (below ++ above)) o.done (λ byte from to. below-answer end below above rest [] out o byte from refl)

    go : (byte : ℕ) → (byte < top) ⊎ (top ≤ byte) → last_place filled byte ≡ last_place (below ++ above) byte
    go byte (inl low) = all.same byte low
    go byte (inr high) =
        none-behind top filled byte all.flat.ends high
        ∙ sym (below-answer end below above rest [] out o byte (omega (arith, high, le)) refl ∙ sym (leaves.same byte high) ∙ ap (λ rs. last_place rs byte) none)

-- ---- halves

-- Flat ranges that answer as the halves of some, one over the other, answer as all of them.
pub halves-flat : (earlier later below above out : List LabelRange) → Flattens earlier below → Flattens later above → Flattens (below ++ above) out → Flattens (earlier ++ later) out
halves-flat earlier later below above out f g h = record {
  flat = h.flat;
  same = λ byte.
      h.same byte ∙ answers-append below above byte
      ∙ ap (λ o. option_or o (last_place below byte)) (g.same byte)
      ∙ ap (λ o. option_or (last_place later byte) o) (f.same byte)
      ∙ sym (answers-append earlier later byte);
}
