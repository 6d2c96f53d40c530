-- Relocations stay whole while their section grows, and where bytes are replaced that they are not at.
use Rattle.std.proofs.Common.{◌≡◌, ℕ, ◌+◌, ◌-◌, ◌≤◌, refl, sym, ap, ◌∙◌, arith, List, [], ◌∷◌, ◌++◌, ◌⊎◌, inl, inr, append_assoc, length, length-append, length-drop, take, drop}
use Rattle.std.specs.Prelude.{FitsSigned, ℤ, pos, negsuc}
use Rattle.std.specs.List.{All}
use Rattle.std.specs.Int.{w32, w64, cast_unsigned}
use Rattle.std.proofs.lemmas.List.{take-append-le, drop-append-le, drop-drop, take-take, drop-take, length-take-le}
use Rattle.std.proofs.lemmas.List.Elements.{All-append, All-weaker, All-cons, All-nil}
use Rattle.std.proofs.Math.Seq.{drop-append_seam, take-append_seam, drop-append-add}
use Rattle.dwc_base.specs.declared.records.Endian.{Endian}
use Rattle.dwc_base.specs.Outputs.{OutputRelocation}
use Rattle.dwc_base.specs.NumberBytes.{number_bytes}
use Rattle.dwc_section.specs.Writers.{IsWhole, IsClear, FitsTarget, replaced, most_bytes}
use Rattle.dwc_section.proofs.ReadNumbers.{number_bytes-length}

-- ---- parts of lists, at lengths that are known

drop-at : {A : Type 0} (n : ℕ) (xs ys : List A) → length xs ≡ n → drop n (xs ++ ys) ≡ ys
drop-at n xs ys e = ap (λ k. drop k (xs ++ ys)) (sym e) ∙ drop-append_seam xs ys

take-at : {A : Type 0} (n : ℕ) (xs ys : List A) → length xs ≡ n → take n (xs ++ ys) ≡ xs
take-at n xs ys e = ap (λ k. take k (xs ++ ys)) (sym e) ∙ take-append_seam xs ys

-- what is written over as much is what is there
pub written-over : {A : Type 0} (n : ℕ) (xs ys : List A) → length xs ≡ n → take n (xs ++ drop (length xs) ys) ≡ xs
written-over n xs ys e = take-at n xs (drop (length xs) ys) e

pub length-replaced : (offset : ℕ) (bytes body : List ℕ) → offset + length bytes ≤ length body → length (replaced offset bytes body) ≡ length body
length-replaced offset bytes body inside =
    let front : length (take offset body) ≡ offset = length-take-le offset body (omega (arith, inside)) in
    omega (arith, front, inside, length-append (take offset body) (bytes ++ drop (offset + length bytes) body), length-append bytes (drop (offset + length bytes) body), length-drop (offset + length bytes) body)

before : (offset from size : ℕ) (bytes body : List ℕ) → offset + length bytes ≤ length body → from + size ≤ offset → take size (drop from (replaced offset bytes body)) ≡ take size (drop from body)
before offset from size bytes body inside ends =
    let front : length (take offset body) ≡ offset = length-take-le offset body (omega (arith, inside)) in
    let behind = bytes ++ drop (offset + length bytes) body in
    let a : drop from (take offset body ++ behind) ≡ drop from (take offset body) ++ behind = drop-append-le from (take offset body) behind (omega (arith, front, ends)) in
    let b : take size (drop from (take offset body) ++ behind) ≡ take size (drop from (take offset body)) = take-append-le size (drop from (take offset body)) behind (omega (arith, front, ends, length-drop from (take offset body))) in
    let at : from + (offset - from) ≡ offset = omega (arith, ends) in
    let c : drop from (take offset body) ≡ take (offset - from) (drop from body) = ap (λ k. drop from (take k body)) (sym at) ∙ drop-take from (offset - from) body in
    let d : take size (take (offset - from) (drop from body)) ≡ take size (drop from body) = take-take size (offset - from) (drop from body) (omega (arith, ends)) in
    ap (take size) a ∙ b ∙ ap (take size) c ∙ d

behind : (offset from : ℕ) (bytes body : List ℕ) → offset + length bytes ≤ length body → offset + length bytes ≤ from → drop from (replaced offset bytes body) ≡ drop from body
behind offset from bytes body inside starts =
    let front : length (take offset body) ≡ offset = length-take-le offset body (omega (arith, inside)) in
    let rest = drop (offset + length bytes) body in
    let part = take offset body ++ bytes in
    let long : length part ≡ offset + length bytes = omega (arith, front, length-append (take offset body) bytes) in
    let more : length part + (from - (offset + length bytes)) ≡ from = omega (arith, long, starts) in
    let at : (offset + length bytes) + (from - (offset + length bytes)) ≡ from = omega (arith, starts) in
    sym (ap (drop from) (append_assoc (take offset body) bytes rest))
    ∙ ap (λ k. drop k (part ++ rest)) (sym more)
    ∙ drop-append-add part rest (from - (offset + length bytes))
    ∙ drop-drop (from - (offset + length bytes)) (offset + length bytes) body
    ∙ ap (λ k. drop k body) at

-- ---- relocations

whole-append : (order : Endian) (body bytes : List ℕ) (r : OutputRelocation) → IsWhole order body r → IsWhole order (body ++ bytes) r
whole-append order body bytes r whole =
    let inside = whole.inside in
    let a : drop r.offset (body ++ bytes) ≡ drop r.offset body ++ bytes = drop-append-le r.offset body bytes (omega (arith, inside)) in
    let b : take r.size (drop r.offset body ++ bytes) ≡ take r.size (drop r.offset body) = take-append-le r.size (drop r.offset body) bytes (omega (arith, inside, length-drop r.offset body)) in
    record { inside = omega (arith, inside, length-append body bytes); holds = ap (take r.size) a ∙ b ∙ whole.holds; addend = whole.addend; target = whole.target }

-- bytes behind them
pub whole-appended : (order : Endian) (body bytes now : List ℕ) (rs : List OutputRelocation) → now ≡ body ++ bytes → All (IsWhole order body) rs → All (IsWhole order now) rs
whole-appended order body bytes now rs grown whole = rw (grown) (All-weaker (IsWhole order body) (IsWhole order (body ++ bytes)) (whole-append order body bytes) rs whole)

whole-replace : (order : Endian) (offset : ℕ) (bytes body : List ℕ) (r : OutputRelocation) → offset + length bytes ≤ length body → (r.offset + r.size ≤ offset) ⊎ (offset + length bytes ≤ r.offset)
    → IsWhole order body r → IsWhole order (replaced offset bytes body) r
whole-replace order offset bytes body r fits (inl ends) whole =
    record { inside = let h = whole.inside in omega (arith, h, length-replaced offset bytes body fits); holds = before offset r.offset r.size bytes body fits ends ∙ whole.holds; addend = whole.addend; target = whole.target }
whole-replace order offset bytes body r fits (inr starts) whole =
    record { inside = let h = whole.inside in omega (arith, h, length-replaced offset bytes body fits); holds = ap (take r.size) (behind offset r.offset bytes body fits starts) ∙ whole.holds; addend = whole.addend; target = whole.target }

-- bytes in their section that they are not at
pub whole-replaced : (order : Endian) (offset : ℕ) (bytes body : List ℕ) (rs : List OutputRelocation) → offset + length bytes ≤ length body → IsClear offset (length bytes) rs → All (IsWhole order body) rs
    → All (IsWhole order (replaced offset bytes body)) rs
whole-replaced order offset bytes body rs fits clear whole = λ k d within. whole-replace order offset bytes body _ fits (clear k d within) (whole k d within)

-- a field behind what is there
pub whole-new : (order : Endian) (body : List ℕ) (r : OutputRelocation) → r.offset ≡ length body → FitsSigned w32 r.addend → FitsTarget r.target → IsWhole order (body ++ number_bytes order r.size (cast_unsigned w64 r.addend)) r
whole-new order body r at addend target =
    let bytes = number_bytes order r.size (cast_unsigned w64 r.addend) in
    let long : length bytes ≡ r.size = number_bytes-length order r.size (cast_unsigned w64 r.addend) in
    let a : drop r.offset (body ++ bytes) ≡ bytes = drop-at r.offset body bytes (sym at) in
    let b : take r.size bytes ≡ bytes = ap (take r.size) (sym (append-nothing bytes)) ∙ take-at r.size bytes [] long in
    record { inside = omega (arith, at, long, length-append body bytes); holds = ap (take r.size) a ∙ b; addend = addend; target = target }
  where
    append-nothing : (xs : List ℕ) → xs ++ [] ≡ xs
    append-nothing [] = refl
    append-nothing (x ∷ xs) = ap (λ ys. x ∷ ys) (append-nothing xs)

-- a field in the place of bytes
pub whole-placed : (order : Endian) (body : List ℕ) (r : OutputRelocation) → r.offset + r.size ≤ length body → FitsSigned w32 r.addend → FitsTarget r.target
    → IsWhole order (replaced r.offset (number_bytes order r.size (cast_unsigned w64 r.addend)) body) r
whole-placed order body r inside addend target =
    let bytes = number_bytes order r.size (cast_unsigned w64 r.addend) in
    let long : length bytes ≡ r.size = number_bytes-length order r.size (cast_unsigned w64 r.addend) in
    let front : length (take r.offset body) ≡ r.offset = length-take-le r.offset body (omega (arith, inside)) in
    let rest = drop (r.offset + length bytes) body in
    record {
      inside = omega (arith, inside, long, length-replaced r.offset bytes body (omega (arith, inside, long)));
      holds = ap (take r.size) (drop-at r.offset (take r.offset body) (bytes ++ rest) front) ∙ take-at r.size bytes rest long;
      addend = addend;
      target = target;
    }

-- one relocation more
pub whole-pushed : (order : Endian) (body : List ℕ) (rs : List OutputRelocation) (r : OutputRelocation) → All (IsWhole order body) rs → IsWhole order body r → All (IsWhole order body) (rs ++ r ∷ [])
whole-pushed order body rs r whole new = All-append (IsWhole order body) rs (r ∷ []) whole (All-cons (IsWhole order body) r [] new (All-nil (IsWhole order body)))

-- ---- what a writer owes when its fields change

-- the bytes of a buffer that was lent as a slice, and replaced there
overwritten-back : (n offset : ℕ) (bytes lent items now : List ℕ) → lent ≡ items → length lent ≡ n → now ≡ replaced offset bytes lent → offset + length bytes ≤ length items → take n (now ++ drop (length now) items) ≡ replaced offset bytes items
overwritten-back n offset bytes lent items now same long is inside =
    let long_items : length items ≡ n = ap length (sym same) ∙ long in
    let is_items : now ≡ replaced offset bytes items = is ∙ ap (replaced offset bytes) same in
    let whole : length now ≡ n = ap length is_items ∙ (length-replaced offset bytes items inside ∙ long_items) in
    written-over n now items whole ∙ is_items

pub after-replacing : (order : Endian) (n offset : ℕ) (bytes lent items now : List ℕ) (rs : List OutputRelocation) → lent ≡ items → length lent ≡ n → now ≡ replaced offset bytes lent → offset + length bytes ≤ length items
    → (length items ≤ most_bytes) × All (IsWhole order items) rs → IsClear offset (length bytes) rs
    → (length (take n (now ++ drop (length now) items)) ≤ most_bytes) × All (IsWhole order (take n (now ++ drop (length now) items))) rs
after-replacing order n offset bytes lent items now rs same long is inside sound clear =
    rw (overwritten-back n offset bytes lent items now same long is inside)
    (let short = sound.0 in omega (arith, short, length-replaced offset bytes items inside), whole-replaced order offset bytes items rs inside clear sound.1)

pub after-placing : (order : Endian) (n : ℕ) (lent items now : List ℕ) (rs : List OutputRelocation) (r : OutputRelocation) → lent ≡ items → length lent ≡ n → now ≡ replaced r.offset (number_bytes order r.size (cast_unsigned w64 r.addend)) lent
    → r.offset + r.size ≤ length items → (length items ≤ most_bytes) × All (IsWhole order items) rs → IsClear r.offset r.size rs → FitsSigned w32 r.addend → FitsTarget r.target
    → (length (take n (now ++ drop (length now) items)) ≤ most_bytes) × All (IsWhole order (take n (now ++ drop (length now) items))) (rs ++ r ∷ [])
after-placing order n lent items now rs r same long is inside sound clear addend target =
    let bytes = number_bytes order r.size (cast_unsigned w64 r.addend) in
    let wide : length bytes ≡ r.size = number_bytes-length order r.size (cast_unsigned w64 r.addend) in
    let fits : r.offset + length bytes ≤ length items = omega (arith, wide, inside) in
    let others : (length (take n (now ++ drop (length now) items)) ≤ most_bytes) × All (IsWhole order (take n (now ++ drop (length now) items))) rs =
    after-replacing order n r.offset bytes lent items now rs same long is fits sound (rw (wide) clear) in
    let back = overwritten-back n r.offset bytes lent items now same long is fits in
    (others.0, whole-pushed order _ rs r others.1 (rw (back) (whole-placed order items r inside addend target)))

pub after-appending : (order : Endian) (items now : List ℕ) (rs after : List OutputRelocation) (r : OutputRelocation) → now ≡ items ++ number_bytes order r.size (cast_unsigned w64 r.addend) → after ≡ rs ++ r ∷ [] → length items + r.size ≤ most_bytes → r.offset ≡ length items
    → (length items ≤ most_bytes) × All (IsWhole order items) rs → FitsSigned w32 r.addend → FitsTarget r.target
    → (length now ≤ most_bytes) × All (IsWhole order now) after
after-appending order items now rs after r grown pushed short at sound addend target =
    let bytes = number_bytes order r.size (cast_unsigned w64 r.addend) in
    let wide : length bytes ≡ r.size = number_bytes-length order r.size (cast_unsigned w64 r.addend) in
    let others : All (IsWhole order (items ++ bytes)) rs = whole-appended order items bytes (items ++ bytes) rs refl sound.1 in
    rw (grown, pushed) (omega (arith, wide, short, length-append items bytes), whole-pushed order (items ++ bytes) rs r others (whole-new order items r at addend target))

-- a number of 32 signed bits fits 64
pub fits-wider : (z : ℤ) → FitsSigned w32 z → FitsSigned w64 z
fits-wider (pos n) fits = omega (arith, fits)
fits-wider (negsuc n) fits = omega (arith, fits)

-- a length that is put in its place
pub after-finishing : (order : Endian) (n offset value : ℕ) (bytes lent items now : List ℕ) (rs : List OutputRelocation) → bytes ≡ number_bytes order 4 value → lent ≡ items → length lent ≡ n → now ≡ replaced offset bytes lent → offset + 4 ≤ length items
    → (length items ≤ most_bytes) × All (IsWhole order items) rs → IsClear offset 4 rs
    → (length (take n (now ++ drop (length now) items)) ≤ most_bytes) × All (IsWhole order (take n (now ++ drop (length now) items))) rs
after-finishing order n offset value bytes lent items now rs spelled same long is inside sound clear =
    let wide : length bytes ≡ 4 = ap length spelled ∙ number_bytes-length order 4 value in
    after-replacing order n offset bytes lent items now rs same long is (omega (arith, wide, inside)) sound (rw (wide) clear)
