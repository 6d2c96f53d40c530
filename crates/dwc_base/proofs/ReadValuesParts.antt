-- What holds of the numbers, bytes and texts that were read, where each byte is below 256.
use Rattle.std.proofs.Common.{◌≡◌, ℕ, suc, ◌+◌, ◌-◌, ◌*◌, ◌^◌, ◌<◌, refl, subst, sym, arith, get_or, List, [], ◌∷◌, length, length-take, take, drop, Option, Some, None, Result, Ok, Err, Bool, true, false}
use Rattle.std.specs.Prelude.{ℤ, pos, negsuc, if◌then◌else◌, ◌==◌, nat_lt, reverse}
use Rattle.std.specs.Int.{w64, cast_unsigned}
use Rattle.std.specs.List.{All, position}
use Rattle.std.proofs.lemmas.Bool.{ltb-true, ltb-false, eqb-false}
use Rattle.std.proofs.lemmas.Int.{ints}
use Rattle.std.proofs.lemmas.List.{length-reverse, get_or-reverse, get_or-take}
use Rattle.std.proofs.lemmas.List.Quantifiers.{position-Some}
use Rattle.std.proofs.lemmas.List.Elements.{All-from_get_or, All-head, All-tail, All-take, All-drop}
use Rattle.dwc_base.specs.declared.records.Endian.{Endian}
use Rattle.dwc_base.specs.declared.records.Endian.TheVariants.{Little, Big}
use Rattle.dwc_base.specs.declared.faults.Flaw.{Flaw}
use Rattle.dwc_base.specs.declared.faults.Flaw.TheVariants.{EndsEarly, TooWide}
use Rattle.dwc_base.specs.Reading.{Unread, Read, ◌>>=◌, forbid, passed, front, seen_as, number, number_low_first, bytes_at, part_at, number_at, uleb_value, uleb_fitting, uleb_at, sleb_value, sleb_fitting, sleb_at, is_64_bit, text_at}

-- ---- what holds of what a reading gives

abbrev pub HoldsOf : {A E : Type 0} → (A → Type 0) → Result A E → Type 0
HoldsOf P (Ok x) = P x
HoldsOf P (Err e) = Unit {0}

pub record Holds {A E : Type 0} (P : A → Type 0) (r : Result A E) : Type 0 where
  pub held : HoldsOf P r

-- of one reading behind another
pub Holds-bind : {A B E : Type 0} {P : A → Type 0} {Q : B → Type 0} (r : Result A E) (f : A → Result B E) → Holds P r → ((x : A) → P x → Holds Q (f x)) → Holds Q (r >>= f)
Holds-bind (Err e) f h k = record { held = tt }
Holds-bind (Ok x) f h k = k x h.held

-- behind what nothing is asked of
pub Holds-behind : {A B E : Type 0} {Q : B → Type 0} (r : Result A E) (f : A → Result B E) → ((x : A) → Holds Q (f x)) → Holds Q (r >>= f)
Holds-behind (Err e) f k = record { held = tt }
Holds-behind (Ok x) f k = k x

-- behind a test
pub Holds-tested : {B : Type 0} {Q : B → Type 0} (b : Bool) (flaw : Flaw) (f : Unit {0} → Result B Flaw) → (b ≡ false → Holds Q (f tt)) → Holds Q (forbid b flaw >>= f)
Holds-tested true flaw f k = record { held = tt }
Holds-tested false flaw f k = k refl

-- of what was read
pub Holds-at : {A E : Type 0} {P : A → Type 0} {r : Result A E} (x : A) → Holds P r → r ≡ Ok x → P x
Holds-at {A} {E} {P} x h e = (subst (λ s. Holds P s) e h).held

-- ---- bytes below 256

pub record AreBytes (bs : List ℕ) : Type 0 where
  pub below : All (λ b. b < 256) bs

-- a value of a property, with bytes unread behind it
abbrev pub InBytes : {A : Type 0} → (A → Type 0) → A × Unread → Type 0
InBytes P x = P x.0 × AreBytes (x.1).left

-- a value seen as another
pub Holds-seen : {A B : Type 0} (P : A → Type 0) (Q : B → Type 0) (view : A → B) (r : Read A) → Holds (InBytes P) r → ((x : A) → P x → Q (view x)) → Holds (InBytes Q) (seen_as view r)
Holds-seen P Q view (Err flaw) h k = record { held = tt }
Holds-seen P Q view (Ok x) h k = record { held = (k x.0 (h.held).0, (h.held).1) }

-- a value that nothing is asked of
abbrev pub Any : {A : Type 0} → A → Type 0
Any x = Unit {0}

pub Holds-any : {A : Type 0} (P : A → Type 0) (r : Read A) → Holds (InBytes P) r → Holds (InBytes Any) r
Holds-any P (Err flaw) h = record { held = tt }
Holds-any P (Ok x) h = record { held = (tt, (h.held).1) }

pub bytes-taken : (n : ℕ) (bs : List ℕ) → AreBytes bs → AreBytes (take n bs)
bytes-taken n bs h = record { below = All-take (λ b. b < 256) n bs h.below }

pub bytes-passed : (n : ℕ) (bs : List ℕ) → AreBytes bs → AreBytes (drop n bs)
bytes-passed n bs h = record { below = All-drop (λ b. b < 256) n bs h.below }

pub bytes_at-bytes : (size : ℕ) (u : Unread) → AreBytes u.left → Holds (InBytes (λ bs. AreBytes bs × (length bs ≡ size))) (bytes_at size u)
unfolding bytes_at
bytes_at-bytes size u h = record { held = go (nat_lt (length u.left) size) refl }
  where
    go : (b : Bool) → nat_lt (length u.left) size ≡ b → HoldsOf (InBytes (λ bs. AreBytes bs × (length bs ≡ size))) (if b then Err EndsEarly else Ok (take size u.left, passed size u))
    go true e = tt
    go false e = ((bytes-taken size u.left h, omega (arith, ltb-false (length u.left) size e, length-take size u.left)), bytes-passed size u.left h)

pub part_at-bytes : (size : ℕ) (u : Unread) → AreBytes u.left → Holds (InBytes (λ v. AreBytes v.left)) (part_at size u)
unfolding part_at
part_at-bytes size u h = record { held = go (nat_lt (length u.left) size) }
  where
    go : (b : Bool) → HoldsOf (InBytes (λ v. AreBytes v.left)) (if b then Err EndsEarly else Ok (front size u, passed size u))
    go true = tt
    go false = (bytes-taken size u.left h, bytes-passed size u.left h)

-- ---- numbers of a size

number_low_first-below : (bs : List ℕ) → AreBytes bs → number_low_first bs < 256 ^ length bs
number_low_first-below [] h = omega arith
number_low_first-below (b ∷ bs) h =
    let first : b < 256 = All-head (λ c. c < 256) b bs h.below in
    let others : number_low_first bs < 256 ^ length bs = number_low_first-below bs (record { below = All-tail (λ c. c < 256) b bs h.below }) in
    let whole : b + 256 * number_low_first bs < 256 ^ suc (length bs) = omega (arith, first, others) in
    whole

bytes-reversed : (bs : List ℕ) → AreBytes bs → AreBytes (reverse bs)
bytes-reversed bs h = record { below = λ k d lt. subst (λ b. b < 256) (sym (get_or-reverse bs k d (omega (arith, lt, length-reverse bs)))) (h.below (length bs - 1 - k) d (omega (arith, lt, length-reverse bs))) }

pub number-below : (order : Endian) (bs : List ℕ) → AreBytes bs → number order bs < 256 ^ length bs
number-below Little bs h = number_low_first-below bs h
number-below Big bs h = rw (← length-reverse bs) (number_low_first-below (reverse bs) (bytes-reversed bs h))

pub number_at-below : (size : ℕ) (u : Unread) → AreBytes u.left → Holds (InBytes (λ n. n < 256 ^ size)) (number_at size u)
unfolding number_at
number_at-below size u h = Holds-seen (λ bs. AreBytes bs × (length bs ≡ size)) (λ n. n < 256 ^ size) (number u.order) (bytes_at size u) (bytes_at-bytes size u h) (λ bs i. subst (λ n. number u.order bs < 256 ^ n) i.1 (number-below u.order bs i.0))

-- ---- LEB128 numbers

pub uleb_at-below : (u : Unread) → AreBytes u.left → Holds (InBytes (λ n. n < 2 ^ 64)) (uleb_at u)
unfolding uleb_at
uleb_at-below u h = record { held = go (uleb_value u.left) }
  where
    fitting : (b : Bool) (n count : ℕ) → nat_lt n (2 ^ 64) ≡ b → HoldsOf (InBytes (λ n. n < 2 ^ 64)) (if b then Ok (n, passed count u) else Err TooWide)
    fitting true n count e = (ltb-true n (2 ^ 64) e, bytes-passed count u.left h)
    fitting false n count e = tt

    go : (o : Option (ℕ × ℕ)) → HoldsOf (InBytes (λ n. n < 2 ^ 64)) (uleb_fitting u o)
    go None = tt
    go (Some n) = fitting (nat_lt n.0 (2 ^ 64)) n.0 n.1 refl

pub bits-below : (z : ℤ) → is_64_bit z ≡ true → cast_unsigned w64 z < 2 ^ 64
bits-below (pos n) h = grind (arith, ints)
bits-below (negsuc k) h = omega arith

-- what is said of a number alone, whatever the bytes are
pub sleb_at-signed : (u : Unread) → Holds (λ x. cast_unsigned w64 x.0 < 2 ^ 64) (sleb_at u)
unfolding sleb_at
sleb_at-signed u = record { held = go (sleb_value u.left) }
  where
    fitting : (b : Bool) (z : ℤ) (count : ℕ) → is_64_bit z ≡ b → HoldsOf {A = ℤ × Unread} (λ x. cast_unsigned w64 x.0 < 2 ^ 64) (if b then Ok (z, passed count u) else Err TooWide)
    fitting true z count e = bits-below z e
    fitting false z count e = tt

    go : (o : Option (ℤ × ℕ)) → HoldsOf (λ x. cast_unsigned w64 x.0 < 2 ^ 64) (sleb_fitting u o)
    go None = tt
    go (Some n) = fitting (is_64_bit n.0) n.0 n.1 refl

pub sleb_at-below : (u : Unread) → AreBytes u.left → Holds (InBytes (λ z. cast_unsigned w64 z < 2 ^ 64)) (sleb_at u)
unfolding sleb_at
sleb_at-below u h = record { held = go (sleb_value u.left) }
  where
    fitting : (b : Bool) (z : ℤ) (count : ℕ) → is_64_bit z ≡ b → HoldsOf (InBytes (λ z. cast_unsigned w64 z < 2 ^ 64)) (if b then Ok (z, passed count u) else Err TooWide)
    fitting true z count e = (bits-below z e, bytes-passed count u.left h)
    fitting false z count e = tt

    go : (o : Option (ℤ × ℕ)) → HoldsOf (InBytes (λ z. cast_unsigned w64 z < 2 ^ 64)) (sleb_fitting u o)
    go None = tt
    go (Some n) = fitting (is_64_bit n.0) n.0 n.1 refl

-- ---- texts

-- what stands before the first 0 has none
before-zero : (bs : List ℕ) (n : ℕ) → position (λ b. b == 0) bs ≡ Some n → All (λ b. 0 < b) (take n bs)
before-zero bs n e =
    All-from_get_or (λ b. 0 < b) (take n bs) 0 (λ i lt.
    let inside : i < n = omega (arith, lt, length-take n bs) in
    subst (λ b. 0 < b) (sym (get_or-take n bs i 0 inside)) (above (get_or bs i 0) ((position-Some (λ b. b == 0) bs n 0 e).2 i inside)))
  where
    above : (b : ℕ) → (b == 0) ≡ false → 0 < b
    above b e = let other = eqb-false b 0 e in omega (arith, other)

pub text_at-plain : (u : Unread) → Holds (λ x. All (λ b. 0 < b) x.0) (text_at u)
unfolding text_at
text_at-plain u = record { held = go (position (λ b. b == 0) u.left) refl }
  where
    go : (o : Option ℕ) → position (λ b. b == 0) u.left ≡ o → HoldsOf {A = List ℕ × Unread} (λ x. All (λ b. 0 < b) x.0) (elim o [ None ↦ Err EndsEarly | Some n ↦ Ok (take n u.left, passed (n + 1) u) ])
    go None e = tt
    go (Some n) e = before-zero u.left n e

pub text_at-bytes : (u : Unread) → AreBytes u.left → Holds (InBytes (λ bs. All (λ b. 0 < b) bs)) (text_at u)
unfolding text_at
text_at-bytes u h = record { held = go (position (λ b. b == 0) u.left) refl }
  where
    go : (o : Option ℕ) → position (λ b. b == 0) u.left ≡ o → HoldsOf {A = List ℕ × Unread} (InBytes (λ bs. All (λ b. 0 < b) bs)) (elim o [ None ↦ Err EndsEarly | Some n ↦ Ok (take n u.left, passed (n + 1) u) ])
    go None e = tt
    go (Some n) e = (before-zero u.left n e, bytes-passed (n + 1) u.left h)
