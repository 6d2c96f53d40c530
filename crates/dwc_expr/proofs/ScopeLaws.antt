-- Native ranges that are joined are the label ranges of their scope without labels.
use Rattle.std.proofs.Common.{◌≡◌, ℕ, suc, ◌+◌, ◌-◌, ◌<◌, ◌≤◌, ◌⊎◌, max, List, [], ◌∷◌, ◌++◌, map, take, Bool, true, false, None, Ordering, Less, Equal, Greater, is_lt, nat_cmp, get_or, refl, sym, ap, subst, ◌∙◌, arith, inl, inr, true≢false}
use Rattle.std.specs.Prelude.{◌==◌, ◌&&◌, ◌||◌, nat_le, All, AllPairs}
use Rattle.std.specs.Option.{unwrap_or}
use Rattle.std.specs.Ordering.{ordering_then, MatchOrdering}
use Rattle.std.proofs.lemmas.Cmp.{ranked}
use Rattle.std.proofs.lemmas.Bool.{cases_lt, and_parts, and_cases, or_left, or_right, eqb-true, eq-eqb, leb-true, leb-false}
use Rattle.std.proofs.lemmas.List.{take_more}
use Rattle.std.proofs.lemmas.List.Elements.{All-nil, All-cons, All-head, All-tail, All-weaker, All-push, All-map}
use Rattle.std.proofs.lemmas.List.Kept.{AllPairs-cons}
use Rattle.std.proofs.lemmas.List.Folds.{list_any-append}
use Rattle.dwc_native.specs.Placed.{NativeRange, is_between, is_byte_of}
use Rattle.dwc_native.specs.LabelRanges.{label_ranges, IsBefore, AtEachByte, AreMaximal}
use Rattle.dwc_native.proofs.LabelRangeCoverage.{holds, hold}
use Rattle.dwc_native.proofs.LabelRangeUnique.{maximal-ranges-are}
use Rattle.dwc_expr.specs.JoinedScopes.{IsInOrder, begins_in, begins_in_last, IsApart, AreApart, AreJoined, IsAdded, Adds}
use Rattle.dwc_expr.proofs.CutWalkLaws.{IsAt, some-here}
use Rattle.dwc_isa.proofs.ListEnds.{all-front, all-last, pairs-front, pairs-last, pairs-push, Ends, ends, last_of-end}
use Rattle.dwc_isa.proofs.PlaceLaws.{between-inside, between-below, between-behind}

-- ---- order

in-order-trans : (r s t : NativeRange) → IsInOrder r s → IsInOrder s t → IsInOrder r t
in-order-trans r s t (inl a) (inl b) = inl (omega (arith, a, b))
in-order-trans r s t (inl a) (inr b) = inl (omega (arith, a, b.0))
in-order-trans r s t (inr a) (inl b) = inl (omega (arith, a.0, b))
in-order-trans r s t (inr a) (inr b) = inr (a.0 ∙ b.0, omega (arith, a.1, b.1))

-- a range apart from one in front of another is apart from that one
apart-in-order : (r s t : NativeRange) → IsApart r s → IsInOrder s t → IsApart r t
apart-in-order r s t (inl a) (inl b) = inl (omega (arith, a, b))
apart-in-order r s t (inl a) (inr b) = inl (omega (arith, a, b.0))
apart-in-order r s t (inr a) (inl b) = inl (omega (arith, a.0, b))
apart-in-order r s t (inr a) (inr b) = inr (a.0 ∙ b.0, omega (arith, a.1, b.1))

-- what a comparison by function and start says
pub not-less : (function start other_function other_start : ℕ) → is_lt (ordering_then (nat_cmp other_function function) (nat_cmp other_start start)) ≡ false → (function < other_function) ⊎ ((function ≡ other_function) × (start ≤ other_start))
not-less function start other_function other_start h = go (nat_cmp other_function function) (nat_cmp other_start start) (ranked other_function function (nat_cmp other_function function) refl) (ranked other_start start (nat_cmp other_start start) refl) h
  where
    go :
        (o p : Ordering) → MatchOrdering o (other_function < function) (other_function ≡ function) (function < other_function) → MatchOrdering p (other_start < start) (other_start ≡ start) (start < other_start)
        → is_lt (ordering_then o p) ≡ false → (function < other_function) ⊎ ((function ≡ other_function) × (start ≤ other_start))
    go Less p a b h = absurd (true≢false h)
    go Greater p a b h = inl a
    go Equal Less a b h = absurd (true≢false h)
    go Equal Equal a b h = inr (sym a, omega (arith, b))
    go Equal Greater a b h = inr (sym a, omega (arith, b))

pub pairs-map : {A B : Type 0} (f : A → B) (R : B → B → Type 0) (xs : List A) → AllPairs (λ x y. R (f x) (f y)) xs → AllPairs R (map f xs)
pairs-map f R [] h = λ i j d below inside. absurd (omega (arith, inside))
pairs-map f R (x ∷ xs) h =
    AllPairs-cons R (f x) (map f xs)
    (All-map (R (f x)) f xs (λ j d inside. h 0 (suc j) d (omega arith) (omega (arith, inside))))
    (pairs-map f R xs (λ i j d below inside. h (suc i) (suc j) d (omega (arith, below)) (omega (arith, inside))))

-- ---- bytes

bytes-append : (rs ss : List NativeRange) (function byte : ℕ) → is_byte_of (rs ++ ss) function byte ≡ (is_byte_of rs function byte || is_byte_of ss function byte)
bytes-append rs ss function byte = list_any-append (holds function byte) rs ss

-- a range that begins in another or at its end has its bytes with it
module _ (l r : NativeRange) (function : l.function ≡ r.function) (start : l.start ≤ r.start) (begin : r.start ≤ l.end) (some : l.start < l.end) where
  between-joined : (byte : ℕ) → is_between l.start (max l.end r.end) byte ≡ (is_between l.start l.end byte || is_between r.start r.end byte)
  between-joined byte = go (cases_lt byte l.start) (cases_lt byte l.end) (cases_lt byte r.end)
    where
      either : (a b c : Bool) → is_between l.start (max l.end r.end) byte ≡ c → is_between l.start l.end byte ≡ a → is_between r.start r.end byte ≡ b → c ≡ (a || b) → is_between l.start (max l.end r.end) byte ≡ (is_between l.start l.end byte || is_between r.start r.end byte)
      either a b c whole first second e = whole ∙ e ∙ sym (ap (λ x. x || is_between r.start r.end byte) first ∙ ap (λ x. a || x) second)

      go : (byte < l.start) ⊎ (l.start ≤ byte) → (byte < l.end) ⊎ (l.end ≤ byte) → (byte < r.end) ⊎ (r.end ≤ byte) → is_between l.start (max l.end r.end) byte ≡ (is_between l.start l.end byte || is_between r.start r.end byte)
      go (inl below) b c = either false false false (between-below l.start (max l.end r.end) byte below) (between-below l.start l.end byte below) (between-below r.start r.end byte (omega (arith, below, start))) refl
      go (inr from) (inl to) c = between-inside l.start (max l.end r.end) byte from (omega (arith, to)) ∙ sym (or_left (is_between l.start l.end byte) (is_between r.start r.end byte) (between-inside l.start l.end byte from to))
      go (inr from) (inr behind) (inl to) =
          either false true true (between-inside l.start (max l.end r.end) byte from (omega (arith, to))) (between-behind l.start l.end byte behind) (between-inside r.start r.end byte (omega (arith, behind, begin)) to) refl
      go (inr from) (inr behind) (inr past) = either false false false (between-behind l.start (max l.end r.end) byte (omega (arith, behind, past))) (between-behind l.start l.end byte behind) (between-behind r.start r.end byte past) refl

  holds-joined : (f byte : ℕ) → holds f byte (record l { end = max l.end r.end }) ≡ (holds f byte l || holds f byte r)
  holds-joined f byte = split (l.function == f) ∙ ap (λ n. holds f byte l || ((n == f) && is_between r.start r.end byte)) function
    where
      split : (own : Bool) → (own && is_between l.start (max l.end r.end) byte) ≡ ((own && is_between l.start l.end byte) || (own && is_between r.start r.end byte))
      split true = between-joined byte
      split false = refl

-- ---- one range more

pub begins_in-end : (front : List NativeRange) (l r : NativeRange) → begins_in_last (front ++ l ∷ []) r ≡ begins_in l r
begins_in-end [] l r = refl
begins_in-end (x ∷ front) l r = ap (λ o. begins_in (unwrap_or o x) r) (last_of-end front l)

-- where a range does not begin in the last of some, all of them are apart from it
all-apart : (front : List NativeRange) (l r : NativeRange) → AreApart (front ++ l ∷ []) → IsInOrder l r → begins_in l r ≡ false → All (λ s. IsApart s r) (front ++ l ∷ [])
all-apart front l r a order not = All-push (λ s. IsApart s r) front l (λ k d inside. apart-in-order (get_or front k d) l r (pairs-last IsApart front l a.apart k d inside) order) (go order)
  where
    far : (l.function ≡ r.function) → ((l.function == r.function) ≡ false) ⊎ (nat_le r.start l.end ≡ false) → IsApart l r
    far same (inl other) = absurd (true≢false (sym (eq-eqb l.function r.function same) ∙ other))
    far same (inr behind) = inr (same, leb-false r.start l.end behind)

    go : IsInOrder l r → IsApart l r
    go (inl below) = inl below
    go (inr same) = far same.0 (and_cases (l.function == r.function) (nat_le r.start l.end) not)

pub add-apart : (r : NativeRange) (old : List NativeRange) → begins_in_last old r ≡ false → Adds r old (old ++ r ∷ [])
add-apart r old not some a order = record {
  joined = record {
    apart = record { nonempty = All-push (λ s. s.start < s.end) old r a.nonempty some; apart = pairs-push IsApart old r a.apart (go (ends old)) };
    same = λ function byte. refl;
    low = λ n low. low;
  };
  in_order = All-push (λ s. IsInOrder s r) old r order (inr (refl, omega arith));
}
  where
    go : (old ≡ []) ⊎ Ends old → All (λ s. IsApart s r) old
    go (inl none) = subst (All (λ s. IsApart s r)) (sym none) (All-nil (λ s. IsApart s r))
    go (inr e) =
        subst (All (λ s. IsApart s r)) (sym e.is)
        (all-apart e.front e.last r (subst AreApart e.is a) (all-last (λ s. IsInOrder s r) e.front e.last (subst (All (λ s. IsInOrder s r)) e.is order)) (sym (begins_in-end e.front e.last r) ∙ ap (λ rs. begins_in_last rs r) (sym e.is) ∙ not))

pub add-joined : (r l : NativeRange) (front : List NativeRange) → begins_in_last (front ++ l ∷ []) r ≡ true → Adds r (front ++ l ∷ []) (front ++ record l { end = max l.end r.end } ∷ [])
add-joined r l front is some a order = record {
  joined = record {
    apart = record {
      nonempty = All-push (λ s. s.start < s.end) front longer (all-front (λ s. s.start < s.end) front l a.nonempty) (omega (arith, first));
      apart = pairs-push IsApart front longer (pairs-front IsApart front l a.apart) (pairs-last IsApart front l a.apart);
    };
    same = λ function byte.
        bytes-append front (longer ∷ []) function byte
        ∙ ap (λ b. is_byte_of front function byte || (b || false)) (holds-joined l r same begin touches first function byte)
        ∙ regroup (is_byte_of front function byte) (holds function byte l) (holds function byte r)
        ∙ sym (bytes-append (front ++ l ∷ []) (r ∷ []) function byte ∙ ap (λ b. b || (holds function byte r || false)) (bytes-append front (l ∷ []) function byte));
    low = λ n low.
        let old : All (λ s. s.end < n) (front ++ l ∷ []) = all-front (λ s. s.end < n) (front ++ l ∷ []) r low in
        All-push (λ s. s.end < n) front longer (all-front (λ s. s.end < n) front l old) (omega (arith, all-last (λ s. s.end < n) front l old, all-last (λ s. s.end < n) (front ++ l ∷ []) r low));
  };
  in_order = All-push (λ s. IsInOrder s r) front longer (all-front (λ s. IsInOrder s r) front l order) (all-last (λ s. IsInOrder s r) front l order);
}
  where
    longer : NativeRange
    longer = record l { end = max l.end r.end }

    first : l.start < l.end
    first = all-last (λ s. s.start < s.end) front l a.nonempty

    tests : ((l.function == r.function) ≡ true) × (nat_le r.start l.end ≡ true)
    tests = and_parts (l.function == r.function) (nat_le r.start l.end) (sym (begins_in-end front l r) ∙ is)

    same : l.function ≡ r.function
    same = eqb-true l.function r.function tests.0

    touches : r.start ≤ l.end
    touches = leb-true r.start l.end tests.1

    begin : l.start ≤ r.start
    begin = go (all-last (λ s. IsInOrder s r) front l order)
      where
        go : IsInOrder l r → l.start ≤ r.start
        go (inl below) = absurd (omega (arith, below, same))
        go (inr at) = at.1

    regroup : (f x y : Bool) → (f || ((x || y) || false)) ≡ ((f || (x || false)) || (y || false))
    regroup true x y = refl
    regroup false true y = refl
    regroup false false y = refl

-- ---- all ranges

-- Ranges in order are joined so far, and none that is joined begins behind the begin of one to come.
pub record IsJoining (done left out : List NativeRange) : Type 0 where
  pub joined : AreJoined done out
  pub next : All (λ r. All (λ s. IsInOrder s r) out) left
  pub order : AllPairs IsInOrder left
  pub nonempty : All (λ r. r.start < r.end) left

pub joining-none : (ranges : List NativeRange) → All (λ r. r.start < r.end) ranges → AllPairs IsInOrder ranges → IsJoining [] ranges []
joining-none ranges some order = record {
  joined = record {
    apart = record { nonempty = All-nil (λ r. r.start < r.end); apart = λ i j d below inside. absurd (omega (arith, inside)) };
    same = λ function byte. refl;
    low = λ n low. low;
  };
  next = λ k d inside. All-nil (λ s. IsInOrder s (get_or ranges k d));
  order = order;
  nonempty = some;
}

pub joining-more : (r : NativeRange) (done left out new : List NativeRange) → IsJoining done (r ∷ left) out → Adds r out new → IsJoining (done ++ r ∷ []) left new
joining-more r done left out new j adds = record {
  joined = record {
    apart = added.joined.apart;
    same = λ function byte.
        added.joined.same function byte ∙ bytes-append out (r ∷ []) function byte
        ∙ ap (λ b. b || is_byte_of (r ∷ []) function byte) (j.joined.same function byte)
        ∙ sym (bytes-append done (r ∷ []) function byte);
    low = λ n low. added.joined.low n (All-push (λ s. s.end < n) out r (j.joined.low n (all-front (λ s. s.end < n) done r low)) (all-last (λ s. s.end < n) done r low));
  };
  next = λ k d inside.
      All-weaker (λ s. IsInOrder s r) (λ s. IsInOrder s (get_or left k d)) (λ s before. in-order-trans s r (get_or left k d) before (j.order 0 (suc k) d (omega arith) (omega (arith, inside)))) new added.in_order;
  order = λ i k d below inside. j.order (suc i) (suc k) d (omega (arith, below)) (omega (arith, inside));
  nonempty = All-tail (λ s. s.start < s.end) r left j.nonempty;
}
  where
    added : IsAdded r out new
    added = adds (All-head (λ s. s.start < s.end) r left j.nonempty) j.joined.apart (All-head (λ s. All (λ x. IsInOrder x s) out) r left j.next)

-- ---- ranges that need no joining

-- one more range that is apart from the last
pub apart-more : (front : List NativeRange) (l r : NativeRange) → AreApart (front ++ l ∷ []) → r.start < r.end → IsApart l r → AreApart ((front ++ l ∷ []) ++ r ∷ [])
apart-more front l r a some apart = record {
  nonempty = All-push (λ s. s.start < s.end) (front ++ l ∷ []) r a.nonempty some;
  apart = pairs-push IsApart (front ++ l ∷ []) r a.apart (All-push (λ s. IsApart s r) front l before-last apart);
}
  where
    first : l.start < l.end
    first = all-last (λ s. s.start < s.end) front l a.nonempty

    in-order : IsApart l r → IsInOrder l r
    in-order (inl below) = inl below
    in-order (inr far) = inr (far.0, omega (arith, far.1, first))

    before-last : All (λ s. IsApart s r) front
    before-last = All-weaker (λ s. IsApart s l) (λ s. IsApart s r) (λ s b. apart-in-order s l r b (in-order apart)) front (pairs-last IsApart front l a.apart)

-- the first of some, and one more that is apart from the one in front of it
pub apart-first : (rs : List NativeRange) → All (λ r. r.start < r.end) rs → AreApart (take 1 rs)
apart-first [] some = record { nonempty = All-nil (λ r. r.start < r.end); apart = λ i j d below inside. absurd (omega (arith, inside)) }
apart-first (r ∷ rs) some = record { nonempty = All-cons (λ r. r.start < r.end) r [] (All-head (λ r. r.start < r.end) r rs some) (All-nil (λ r. r.start < r.end)); apart = λ i j d below inside. absurd (omega (arith, below, inside)) }

pub apart-next : (rs : List NativeRange) (i : ℕ) (l r : NativeRange) → 1 ≤ i → IsAt rs (i - 1) l → IsAt rs i r → All (λ r. r.start < r.end) rs → IsApart l r → AreApart (take i rs) → AreApart (take (i + 1) rs)
apart-next rs i l r above at next some apart before =
    let here : i - 1 + 1 ≡ i = omega (arith, above) in
    let split : take i rs ≡ take (i - 1) rs ++ l ∷ [] = ap (λ n. take n rs) (sym here) ∙ take_more rs (i - 1) l at.inside ∙ ap (λ x. take (i - 1) rs ++ x ∷ []) at.is in
    let more : take (i + 1) rs ≡ (take (i - 1) rs ++ l ∷ []) ++ r ∷ [] = take_more rs i r next.inside ∙ ap (λ x. take i rs ++ x ∷ []) next.is ∙ ap (λ xs. xs ++ r ∷ []) split in
    subst AreApart (sym more) (apart-more (take (i - 1) rs) l r (subst AreApart split before) (some-here rs i r next some) apart)

-- ---- joined ranges are maximal

-- each byte of a range of some is among their bytes
own-bytes : (rs : List NativeRange) → All (λ r. AtEachByte (λ byte. is_byte_of rs r.function byte ≡ true) r) rs
own-bytes [] = All-nil (λ r. AtEachByte (λ byte. is_byte_of [] r.function byte ≡ true) r)
own-bytes (r ∷ rs) =
    All-cons (λ s. AtEachByte (λ byte. is_byte_of (r ∷ rs) s.function byte ≡ true) s) r rs
    (λ byte from to. or_left (holds r.function byte r) (is_byte_of rs r.function byte) (hold r.function byte r refl from to))
    (All-weaker (λ s. AtEachByte (λ byte. is_byte_of rs s.function byte ≡ true) s) (λ s. AtEachByte (λ byte. is_byte_of (r ∷ rs) s.function byte ≡ true) s) (λ s has byte from to. or_right (holds s.function byte r) (is_byte_of rs s.function byte) (has byte from to)) rs (own-bytes rs))

before : (r s : NativeRange) → IsApart r s → IsBefore r s
before r s (inl below) = inl below
before r s (inr same) = inr (same.0, omega (arith, same.1))

apart-touch : (r s : NativeRange) → IsApart r s → r.function ≡ s.function → r.end ≡ s.start → ⊥
apart-touch r s (inl below) same touch = omega (arith, below, same)
apart-touch r s (inr far) same touch = omega (arith, far.1, touch)

joined-maximal : (scope rs : List NativeRange) → AreJoined scope rs → AreMaximal None [] scope rs
joined-maximal scope rs j = record {
  whole = record {
    ordered = λ i k d below inside. before (get_or rs i d) (get_or rs k d) (j.apart.apart i k d below inside);
    nonempty = j.apart.nonempty;
    inside = λ i d inside byte from to. sym (j.same (get_or rs i d).function byte) ∙ own-bytes rs i d inside byte from to;
    placed = λ i d inside byte from to. refl;
  };
  unchanged = λ i d inside byte from to. refl;
  complete = λ function byte wanted. j.same function byte ∙ (and_parts (is_byte_of scope function byte) true wanted).0;
  maximal = λ i k d below inside same touch. absurd (apart-touch (get_or rs i d) (get_or rs k d) (j.apart.apart i k d below inside) same touch);
}

-- Joined ranges are the label ranges of their scope without labels.
pub joined-are : (scope rs : List NativeRange) → AreJoined scope rs → rs ≡ label_ranges None [] scope
joined-are scope rs j = maximal-ranges-are None [] scope rs (joined-maximal scope rs j)

pub apart-are : (rs : List NativeRange) → AreApart rs → rs ≡ label_ranges None [] rs
apart-are rs apart = joined-are rs rs (record { apart = apart; same = λ function byte. refl; low = λ n low. low })
