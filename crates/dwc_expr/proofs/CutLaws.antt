-- The parts of ranges that lie in pieces: what each part is, and where it stands.
use Rattle.std.proofs.Common.{◌≡◌, ℕ, suc, ◌<◌, ◌≤◌, ◌+◌, ◌⊎◌, List, [], ◌∷◌, ◌++◌, length, get_or, take, drop, min, max, true, false, refl, ap, sym, subst, ◌∙◌, inl, inr, arith, true≢false, Some, None}
use Rattle.std.specs.Prelude.{Bool, Option, nat_lt, ◌||◌, map, if◌then◌else◌, option_to_list}
use Rattle.std.specs.List.{filter_map, cons_option}
use Rattle.std.proofs.lemmas.Bool.{ltb-true, lt-ltb, le-ltb, or_cases, or_left, or_right}
use Rattle.std.proofs.lemmas.List.{take-append-drop, map-append, at_drop_more}
use Rattle.std.proofs.lemmas.List.Elements.{filter_map-append}
use Rattle.std.proofs.lemmas.List.Folds.{list_any-append}
use Rattle.dwc_native.specs.Compiled.{LabelRange}
use Rattle.dwc_native.specs.Placed.{NativeRange, is_number, is_byte_of}
use Rattle.dwc_base.proofs.InLists.{IsIn, at-in, in-append, in-filter_map, filter_map-in, map-in, in-any}
use Rattle.dwc_native.proofs.LabelRangeCoverage.{holds, hold, Held, held}
use Rattle.dwc_isa.specs.FlatRanges.{IsFlat}
use Rattle.dwc_expr.specs.PlacedParts.{PlacedPart, cut_by, cuts_of, cuts_from, EndBy}
use Rattle.dwc_expr.proofs.PairLaws.{Pairs, pairs-append, pairs-filter_map, filter-none, all-in}
use Rattle.dwc_expr.proofs.PieceLaws.{behind-end}

-- ---- one part

-- what a part of a range in a piece is
pub record IsCutBy (r : NativeRange) (p : LabelRange) (x : PlacedPart) : Type 0 where
  pub function : x.bytes.function ≡ r.function
  pub from_range : r.start ≤ x.bytes.start
  pub to_range : x.bytes.end ≤ r.end
  pub from_piece : p.start ≤ x.bytes.start
  pub to_piece : x.bytes.end ≤ p.end
  pub some : x.bytes.start < x.bytes.end
  pub place : x.place ≡ p.place

-- the part that is cut
abbrev part : ℕ → NativeRange → LabelRange → PlacedPart
part index r p = record { index = index; bytes = record { function = r.function; start = max r.start p.start; end = min r.end p.end }; place = p.place }

part-is : (index : ℕ) (r : NativeRange) (p : LabelRange) (x : PlacedPart) → cut_by index r p ≡ Some x → (nat_lt (max r.start p.start) (min r.end p.end) ≡ true) × (part index r p ≡ x)
part-is index r p x h = go (nat_lt (max r.start p.start) (min r.end p.end)) h
  where
    go : (b : Bool) → (if b then Some (part index r p) else None) ≡ Some x → (b ≡ true) × (part index r p ≡ x)
    go true e = (refl, cc)
    go false e = absurd (cc)

pub cut-by : (index : ℕ) (r : NativeRange) (p : LabelRange) (x : PlacedPart) → cut_by index r p ≡ Some x → IsCutBy r p x
cut-by index r p x h =
    let is = part-is index r p x h in
    let less = ltb-true (max r.start p.start) (min r.end p.end) is.0 in
    subst (IsCutBy r p) is.1 (record { function = refl; from_range = omega arith; to_range = omega arith; from_piece = omega arith; to_piece = omega arith; some = less; place = refl })

pub cut-index : (index : ℕ) (r : NativeRange) (p : LabelRange) (x : PlacedPart) → cut_by index r p ≡ Some x → x.index ≡ index
cut-index index r p x h = ap (λ y. y.index) (sym (part-is index r p x h).1)

-- a piece that ends in front of a range, or begins behind it, has no part of it
cut-nothing : (index : ℕ) (r : NativeRange) (p : LabelRange) → min r.end p.end ≤ max r.start p.start → cut_by index r p ≡ None
cut-nothing index r p le = ap (λ b. if b then Some (part index r p) else None) (le-ltb (max r.start p.start) (min r.end p.end) le)

cut-before : (index : ℕ) (r : NativeRange) (p : LabelRange) → p.end ≤ r.start → cut_by index r p ≡ None
cut-before index r p le = cut-nothing index r p (omega (arith, le))

cut-behind : (index : ℕ) (r : NativeRange) (p : LabelRange) → r.end ≤ p.start → cut_by index r p ≡ None
cut-behind index r p le = cut-nothing index r p (omega (arith, le))

-- a byte of both is in a part
cut-has : (index : ℕ) (r : NativeRange) (p : LabelRange) (byte : ℕ) → r.start ≤ byte → byte < r.end → p.start ≤ byte → byte < p.end → (cut_by index r p ≡ Some (part index r p)) × (holds r.function byte (part index r p).bytes ≡ true)
cut-has index r p byte a b c d = (
  ap (λ t. if t then Some (part index r p) else None) (lt-ltb (max r.start p.start) (min r.end p.end) (omega (arith, a, b, c, d))),
  hold r.function byte (part index r p).bytes refl (omega (arith, a, c)) (omega (arith, b, d)),
)

-- ---- the parts of one range

-- the parts of a range of one's own function
pub cuts-own : (own : Option ℕ) (ps : List LabelRange) (index : ℕ) (r : NativeRange) → is_number own r.function ≡ true → cuts_of own ps index r ≡ filter_map (cut_by index r) ps
cuts-own own ps index r is = ap (λ b. if b then filter_map (cut_by index r) ps else []) is

-- a part of a range, with the piece in which it lies
pub record HasPart (own : Option ℕ) (ps : List LabelRange) (index : ℕ) (r : NativeRange) (x : PlacedPart) : Type 0 where
  pub mine : is_number own r.function ≡ true
  pub piece : LabelRange
  pub among : IsIn piece ps
  pub cut : cut_by index r piece ≡ Some x

pub part-in : (own : Option ℕ) (ps : List LabelRange) (index : ℕ) (r : NativeRange) (x : PlacedPart) → IsIn x (cuts_of own ps index r) → HasPart own ps index r x
part-in own ps index r x i = go (is_number own r.function) refl i
  where
    go : (b : Bool) → is_number own r.function ≡ b → IsIn x (if b then filter_map (cut_by index r) ps else []) → HasPart own ps index r x
    go true e j = let found = in-filter_map (cut_by index r) ps x j in record { mine = e; piece = found.0; among = found.1; cut = found.2 }
    go false e j = absurd j

-- pieces that end in front of a range may be left out
pub parts-passed : (ps : List LabelRange) (index count : ℕ) (r : NativeRange) → EndBy r.start count ps → filter_map (cut_by index r) (drop count ps) ≡ filter_map (cut_by index r) ps
parts-passed ps index count r passed =
    ap (λ xs. xs ++ filter_map (cut_by index r) (drop count ps)) (sym (filter-none (cut_by index r) (take count ps) (λ p i. cut-before index r p (all-in (λ q. q.end ≤ r.start) (take count ps) passed p i))))
    ∙ sym (filter_map-append (cut_by index r) (take count ps) (drop count ps))
    ∙ ap (filter_map (cut_by index r)) (take-append-drop count ps)

pub cuts-passed : (own : Option ℕ) (ps : List LabelRange) (index count : ℕ) (r : NativeRange) → (is_number own r.function ≡ true → EndBy r.start count ps) → cuts_of own (drop count ps) index r ≡ cuts_of own ps index r
cuts-passed own ps index count r passed = go (is_number own r.function) passed
  where
    go : (b : Bool) → (b ≡ true → EndBy r.start count ps) → (if b then filter_map (cut_by index r) (drop count ps) else []) ≡ (if b then filter_map (cut_by index r) ps else [])
    go true before = parts-passed ps index count r (before refl)
    go false before = refl

-- behind a piece that ends behind the range no piece has a part of it
pub cuts-done : (ps : List LabelRange) → IsFlat ps → (index n : ℕ) (r : NativeRange) (d : LabelRange) → n < length ps → r.end ≤ (get_or ps n d).end → filter_map (cut_by index r) (drop (n + 1) ps) ≡ []
cuts-done ps flat index n r d inside to = filter-none (cut_by index r) (drop (n + 1) ps) (λ p i. cut-behind index r p (omega (arith, to, behind-end ps flat n d inside p i)))

-- one piece more
pub cuts-step : (f : LabelRange → Option PlacedPart) (ps : List LabelRange) (n : ℕ) (d : LabelRange) → n < length ps → filter_map f (drop n ps) ≡ option_to_list (f (get_or ps n d)) ++ filter_map f (drop (n + 1) ps)
cuts-step f ps n d inside = at_drop_more (filter_map f) ps n d inside ∙ in_front (f (get_or ps n d))
  where
    in_front : (o : Option PlacedPart) → cons_option o (filter_map f (drop (n + 1) ps)) ≡ option_to_list o ++ filter_map f (drop (n + 1) ps)
    in_front None = refl
    in_front (Some x) = refl

-- ---- those of all ranges

-- a part of ranges: its range, by the number among them, and its piece
pub record IsPart (own : Option ℕ) (ps : List LabelRange) (index : ℕ) (rs : List NativeRange) (x : PlacedPart) : Type 0 where
  pub offset : ℕ
  pub number : x.index ≡ index + offset
  pub inside : offset < length rs
  pub range : NativeRange
  pub is : (d : NativeRange) → get_or rs offset d ≡ range
  pub mine : is_number own range.function ≡ true
  pub piece : LabelRange
  pub among : IsIn piece ps
  pub cut : IsCutBy range piece x

pub cuts-in : (own : Option ℕ) (ps : List LabelRange) (index : ℕ) (rs : List NativeRange) (x : PlacedPart) → IsIn x (cuts_from own ps index rs) → IsPart own ps index rs x
cuts-in own ps index [] x i = absurd i
cuts-in own ps index (r ∷ rs) x i = go (in-append (cuts_of own ps index r) (cuts_from own ps (suc index) rs) x i) (cuts-in own ps (suc index) rs x)
  where
    go : IsIn x (cuts_of own ps index r) ⊎ IsIn x (cuts_from own ps (suc index) rs) → (IsIn x (cuts_from own ps (suc index) rs) → IsPart own ps (suc index) rs x) → IsPart own ps index (r ∷ rs) x
    go (inl j) others =
        let f = part-in own ps index r x j in
        record { offset = 0; number = cut-index index r f.piece x f.cut ∙ omega arith; inside = omega arith; range = r; is = λ d. refl; mine = f.mine; piece = f.piece; among = f.among; cut = cut-by index r f.piece x f.cut }
    go (inr j) others =
        let f = others j in
        record { offset = suc f.offset; number = f.number ∙ omega arith; inside = omega (arith, f.inside); range = f.range; is = f.is; mine = f.mine; piece = f.piece; among = f.among; cut = f.cut }

pub range-among : (own : Option ℕ) (ps : List LabelRange) (index : ℕ) (rs : List NativeRange) (x : PlacedPart) → (f : IsPart own ps index rs x) → IsIn f.range rs
range-among own ps index rs x f = subst (λ r. IsIn r rs) (f.is f.range) (at-in rs f.offset f.range f.inside)

-- a byte of a range and of a piece is a byte of a part
pub cuts-have :
    (own : Option ℕ) (ps : List LabelRange) (index : ℕ) (rs : List NativeRange) (function byte : ℕ) (p : LabelRange) → is_byte_of rs function byte ≡ true → is_number own function ≡ true → IsIn p ps → p.start ≤ byte → byte < p.end
    → is_byte_of (map (λ x. x.bytes) (cuts_from own ps index rs)) function byte ≡ true
cuts-have own ps index [] function byte p h is i from to = absurd (true≢false (sym h))
cuts-have own ps index (r ∷ rs) function byte p h is i from to = go (or_cases (holds function byte r) (is_byte_of rs function byte) h) (λ there. cuts-have own ps (suc index) rs function byte p there is i from to)
  where
    here : List NativeRange
    here = map (λ x. x.bytes) (cuts_of own ps index r)

    behind : List NativeRange
    behind = map (λ x. x.bytes) (cuts_from own ps (suc index) rs)

    both : is_byte_of (map (λ x. x.bytes) (cuts_of own ps index r ++ cuts_from own ps (suc index) rs)) function byte ≡ (is_byte_of (map (λ x. x.bytes) (cuts_of own ps index r)) function byte || is_byte_of (map (λ x. x.bytes) (cuts_from own ps (suc index) rs)) function byte)
    both = ap (λ xs. is_byte_of xs function byte) (map-append (λ x. x.bytes) (cuts_of own ps index r) (cuts_from own ps (suc index) rs)) ∙ list_any-append (holds function byte) (map (λ x. x.bytes) (cuts_of own ps index r)) (map (λ x. x.bytes) (cuts_from own ps (suc index) rs))

    cut : Held function byte r → is_byte_of (map (λ x. x.bytes) (cuts_of own ps index r)) function byte ≡ true
    cut at =
        let has = cut-has index r p byte at.from at.to from to in
        let mine : is_number own r.function ≡ true = ap (is_number own) at.same ∙ is in
        let among : IsIn (part index r p) (cuts_of own ps index r) = subst (IsIn (part index r p)) (sym (cuts-own own ps index r mine)) (filter_map-in (cut_by index r) ps p (part index r p) i has.0) in
        in-any (holds function byte) (map (λ x. x.bytes) (cuts_of own ps index r)) (part index r p).bytes (map-in (λ x. x.bytes) (cuts_of own ps index r) (part index r p) among) (subst (λ n. holds n byte (part index r p).bytes ≡ true) at.same has.1)

    go : (holds function byte r ≡ true) ⊎ (is_byte_of rs function byte ≡ true) → (is_byte_of rs function byte ≡ true → is_byte_of (map (λ x. x.bytes) (cuts_from own ps (suc index) rs)) function byte ≡ true) → is_byte_of (map (λ x. x.bytes) (cuts_of own ps index r ++ cuts_from own ps (suc index) rs)) function byte ≡ true
    go (inl mine) others = both ∙ or_left (is_byte_of (map (λ x. x.bytes) (cuts_of own ps index r)) function byte) (is_byte_of (map (λ x. x.bytes) (cuts_from own ps (suc index) rs)) function byte) (cut (held function byte r mine))
    go (inr there) others = both ∙ or_right (is_byte_of (map (λ x. x.bytes) (cuts_of own ps index r)) function byte) (is_byte_of (map (λ x. x.bytes) (cuts_from own ps (suc index) rs)) function byte) (others there)

-- Each two parts of ranges: those of one range stand as their pieces, and those of two as their ranges.
pub cuts-pairs :
    (own : Option ℕ) (ps : List LabelRange) (P : NativeRange → Type 0) (S : LabelRange → LabelRange → Type 0) (T : NativeRange → NativeRange → Type 0) (R : PlacedPart → PlacedPart → Type 0)
    → ((r : NativeRange) (p q : LabelRange) (x y : PlacedPart) → P r → is_number own r.function ≡ true → IsIn p ps → IsIn q ps → S p q → IsCutBy r p x → IsCutBy r q y → R x y)
    → ((r s : NativeRange) (p q : LabelRange) (x y : PlacedPart) → P r → T r s → IsCutBy r p x → IsCutBy s q y → R x y)
    → Pairs S ps → (index : ℕ) (rs : List NativeRange) → ((r : NativeRange) → IsIn r rs → P r) → Pairs T rs → Pairs R (cuts_from own ps index rs)
cuts-pairs own ps P S T R within across pieces index [] each h = tt
cuts-pairs own ps P S T R within across pieces index (r ∷ rs) each h =
    pairs-append R (cuts_of own ps index r) (cuts_from own ps (suc index) rs) (of_range (is_number own r.function) refl) (cuts-pairs own ps P S T R within across pieces (suc index) rs (λ s i. each s (inr i)) h.1) apart
  where
    of_range : (b : Bool) → is_number own r.function ≡ b → Pairs R (if b then filter_map (cut_by index r) ps else [])
    of_range true e = pairs-filter_map (cut_by index r) (λ p. IsIn p ps) S R (λ p q x y i j s a b. within r p q x y (each r (inl refl)) e i j s (cut-by index r p x a) (cut-by index r q y b)) ps (λ p i. i) pieces
    of_range false e = tt

    apart : (x y : PlacedPart) → IsIn x (cuts_of own ps index r) → IsIn y (cuts_from own ps (suc index) rs) → R x y
    apart x y i j =
        let f = part-in own ps index r x i in
        let g = cuts-in own ps (suc index) rs y j in
        across r g.range f.piece g.piece x y (each r (inl refl)) (h.0 g.range (range-among own ps (suc index) rs y g)) (cut-by index r f.piece x f.cut) g.cut
