-- Spellings are put together. For a reader `do x ← r; ..`: `behind` where more bytes follow, `last` where none do, `tested` for a
-- `forbid` that does not compute away, `seen` for a value seen as another, `nothing` for what takes none, `here` and `anywhere`
-- between `Spells` and `SpellsAt`; `then_read` and `end_read` where the reader answers no place. `Spells-items`: a list up to its mark.
use Rattle.std.proofs.Common.{◌≡◌, ℕ, ◌+◌, ◌^◌, ◌<◌, ◌≤◌, refl, ap, ◌∙◌, arith, lit<, List, [], ◌∷◌, ◌++◌, append_assoc, append-nil, length, length-append, drop, Option, Some, None, Result, Ok, Bool, true, false, ltb, eqb, add-zero}
use Rattle.std.specs.Prelude.{ℤ}
use Rattle.std.specs.List.{All, flat_map, position_or_len}
use Rattle.std.proofs.lemmas.Bool.{lt-ltb, le-ltb, ne_eqb}
use Rattle.std.proofs.lemmas.List.{drop_at}
use Rattle.std.proofs.lemmas.List.Elements.{All-head, All-tail}
use Rattle.std.proofs.Math.Seq.{take-append_seam, drop-append_seam}
use Rattle.dwc_base.specs.declared.records.Endian.{Endian}
use Rattle.dwc_base.specs.declared.records.Endian.TheVariants.{Little, Big}
use Rattle.dwc_base.specs.declared.faults.Flaw.{Flaw}
use Rattle.dwc_base.specs.Reading.{Unread, Read, ◌>>=◌, forbid, seen_as, number, number_at, uleb_at, sleb_at, sleb_value, is_64_bit, part_at, text_at, items_at, counted_at}
use Rattle.dwc_base.specs.Spelling.{Spells, unread_at}
use Rattle.dwc_base.specs.NumberBytes.{number_bytes, uleb_bytes, sleb_bytes}
use Rattle.dwc_section.specs.Spelled.{SpellsAt, text_bytes, at_places}
use Rattle.dwc_base.proofs.Spellings.{Spells-number, Spells-uleb}
use Rattle.dwc_base.proofs.Items.{Leaves, items-more, items-end}
use Rattle.dwc_section.proofs.ReadNumbers.{number_bytes-length, number_bytes-number, uleb_bytes-value, sleb_bytes-value, sleb_value-append}

-- what is spelled anywhere is spelled here
pub here : {A : Type 0} {order : Endian} {read : Unread → Read A} {bytes : List ℕ} {x : A} (place : ℕ) → Spells order read bytes x → SpellsAt order place read bytes x
here place s = record { reads = λ rest. s.reads place rest }

pub anywhere : {A : Type 0} {order : Endian} {read : Unread → Read A} {bytes : List ℕ} {x : A} → ((place : ℕ) → SpellsAt order place read bytes x) → Spells order read bytes x
anywhere s = record { reads = λ place rest. (s place).reads rest }

-- a place behind two parts
places : (order : Endian) (place : ℕ) (bs cs rest : List ℕ) → unread_at order ((place + length bs) + length cs) rest ≡ unread_at order (place + length (bs ++ cs)) rest
places order place bs cs rest = ap (λ p. unread_at order p rest) (omega (arith, length-append bs cs))

-- one thing behind another
pub behind : {A B : Type 0} {order : Endian} {place : ℕ} {r : Unread → Read A} (k : A × Unread → Read B) {bs cs : List ℕ} {x : A} {y : B}
    → SpellsAt order place r bs x → SpellsAt order (place + length bs) (λ u. k (x, u)) cs y → SpellsAt order place (λ u. r u >>= k) (bs ++ cs) y
behind {A} {B} {order} {place} {r} k {bs} {cs} {x} {y} first second = record {
  reads = λ rest. rw (append_assoc bs cs rest, first.reads) (second.reads rest ∙ ap (λ v. Ok (y, v)) (places order place bs cs rest));
}

-- the same, for a reader that answers no place
pub then_read : {A B : Type 0} {order : Endian} {place : ℕ} {r : Unread → Read A} (k : A × Unread → Result B Flaw) {bs rest : List ℕ} {x : A} {y : B}
    → SpellsAt order place r bs x → k (x, unread_at order (place + length bs) rest) ≡ Ok y → (r (unread_at order place (bs ++ rest)) >>= k) ≡ Ok y
then_read k first second = rw (first.reads) second

-- and where nothing follows
pub end_read : {A B : Type 0} {order : Endian} {place : ℕ} {r : Unread → Read A} (k : A × Unread → Result B Flaw) {bs : List ℕ} {x : A} {y : B}
    → SpellsAt order place r bs x → k (x, unread_at order (place + length bs) []) ≡ Ok y → (r (unread_at order place bs) >>= k) ≡ Ok y
end_read k {bs} first second =
    let read = rw (append-nil bs) at (first.reads []) in
    rw (read) second

-- what takes nothing
pub nothing : {A : Type 0} {order : Endian} {place : ℕ} {x : A} → SpellsAt order place (λ u. Ok (x, u)) [] x
nothing {A} {order} {place} {x} = record { reads = λ rest. ap (λ p. Ok (x, unread_at order p rest)) (omega arith) }

-- a thing, and behind it what takes nothing
pub last : {A B : Type 0} {order : Endian} {place : ℕ} {r : Unread → Read A} (k : A × Unread → Read B) {bs : List ℕ} {x : A} {y : B}
    → SpellsAt order place r bs x → ((u : Unread) → k (x, u) ≡ Ok (y, u)) → SpellsAt order place (λ u. r u >>= k) bs y
last k first ends = record { reads = λ rest. rw (first.reads, ends) refl }

-- a test that is passed
pub tested : {B : Type 0} {order : Endian} {place : ℕ} (b : Bool) (flaw : Flaw) (k : Unit {0} → Unread → Read B) {bs : List ℕ} {y : B}
    → b ≡ false → SpellsAt order place (k tt) bs y → SpellsAt order place (λ u. forbid b flaw >>= λ t. k t u) bs y
tested b flaw k passes inner = record { reads = λ rest. rw (passes) (inner.reads rest) }

-- a value seen as another
pub seen : {A B : Type 0} {order : Endian} {place : ℕ} {r : Unread → Read A} {bs : List ℕ} {x : A} (view : A → B) → SpellsAt order place r bs x → SpellsAt order place (λ u. seen_as view (r u)) bs (view x)
seen view s = record { reads = λ rest. rw (s.reads) refl }

-- ---- the parts

pub Spells-number_bytes : (order : Endian) (size n : ℕ) → n < 256 ^ size → Spells order (number_at size) (number_bytes order size n) n
Spells-number_bytes order size n small =
    at_size size (number_bytes-length order size n) (number_bytes-number order size n small)
  where
    at_size : (k : ℕ) → length (number_bytes order size n) ≡ k → number order (number_bytes order size n) ≡ n → Spells order (number_at k) (number_bytes order size n) n
    at_size k long is = record { reads = λ place rest. rw (← long) ((Spells-number order (number_bytes order size n)).reads place rest ∙ ap (λ m. Ok (m, unread_at order (place + length (number_bytes order size n)) rest)) is) }

pub Spells-uleb_bytes : (order : Endian) (n : ℕ) → n < 2 ^ 64 → Spells order uleb_at (uleb_bytes n) n
Spells-uleb_bytes order n small = Spells-uleb order (uleb_bytes n) n (uleb_bytes-value n) small

pub Spells-sleb_bytes : (order : Endian) (z : ℤ) → is_64_bit z ≡ true → Spells order sleb_at (sleb_bytes z) z
unfolding sleb_at
Spells-sleb_bytes order z small = record {
  reads = λ place rest.
      let whole : sleb_value (sleb_bytes z ++ rest) ≡ Some (z, length (sleb_bytes z)) = sleb_value-append (sleb_bytes z) rest z (length (sleb_bytes z)) (sleb_bytes-value z) in
      rw (whole, small, drop-append_seam) refl;
}

-- a part of the bytes, to be read on its own
pub part-reads : (order : Endian) (place : ℕ) (bytes : List ℕ) → SpellsAt order place (part_at (length bytes)) bytes (unread_at order place bytes)
unfolding part_at
part-reads order place bytes = record {
  reads = λ rest.
      let enough : length bytes ≤ length (bytes ++ rest) = omega (arith, length-append bytes rest) in
      rw (le-ltb, take-append_seam, drop-append_seam) refl;
}

-- one byte
number-byte : (order : Endian) (b : ℕ) → number order (b ∷ []) ≡ b
number-byte Little b = omega arith
number-byte Big b = omega arith

pub Spells-byte : (order : Endian) (b : ℕ) → Spells order (number_at 1) (b ∷ []) b
Spells-byte order b = record { reads = λ place rest. (Spells-number order (b ∷ [])).reads place rest ∙ ap (λ n. Ok (n, unread_at order (place + 1) rest)) (number-byte order b) }

pub Spells-zero : (order : Endian) → Spells order uleb_at (0 ∷ []) 0
Spells-zero order = Spells-uleb order (0 ∷ []) 0 refl (lit< tt)

-- a text without zeros is what stands before the next zero
position-zero : (text rest : List ℕ) → All (λ b. 0 < b) text → position_or_len (λ b. eqb b 0) (text ++ 0 ∷ rest) ≡ length text
position-zero [] rest some = refl
position-zero (b ∷ bs) rest some =
    let left : eqb b 0 ≡ false = ne_eqb b 0 (λ e. let h = All-head (λ b. 0 < b) b bs some in absurd (omega (arith, h, e))) in
    rw (left, position-zero bs rest (All-tail (λ b. 0 < b) b bs some)) (omega arith)

pub text_at-front : (order : Endian) (place : ℕ) (text rest : List ℕ) → All (λ b. 0 < b) text → text_at (unread_at order place (text ++ 0 ∷ rest)) ≡ Ok (text, unread_at order (place + (length text + 1)) rest)
unfolding text_at
text_at-front order place text rest some =
    let found = position-zero text rest some in
    let within : ltb (length text) (length (text ++ 0 ∷ rest)) ≡ true = lt-ltb _ _ (omega (arith, length-append text (0 ∷ rest))) in
    let behind_it : drop (length text + 1) (text ++ 0 ∷ rest) ≡ rest = rw (← append_assoc text (0 ∷ []) rest) (drop_at (text ++ 0 ∷ []) rest (length text + 1) (length-append text (0 ∷ []))) in
    rw (text_at, found, within, behind_it, take-append_seam text (0 ∷ rest)) refl

pub Spells-text_bytes : (order : Endian) (text : List ℕ) → All (λ b. 0 < b) text → Spells order text_at (text_bytes text) text
Spells-text_bytes order text some = record {
  reads = λ place rest.
      let long : length (text ++ 0 ∷ []) ≡ length text + 1 = length-append text (0 ∷ []) in
      rw (append_assoc text (0 ∷ []) rest, long) (text_at-front order place text rest some);
}

-- ---- lists

pub Spells-counted : (order : Endian) (bytes : List ℕ) → Spells order (counted_at (length bytes) (number_at 1)) bytes bytes
unfolding counted_at
Spells-counted order [] = anywhere (λ place. nothing)
Spells-counted order (b ∷ bs) = anywhere (λ place. behind _ {bs = b ∷ []} (here place (Spells-byte order b)) (last _ (here _ (Spells-counted order bs)) (λ u. refl)))

-- things up to the mark of their end
pub Spells-items : {A : Type 0} (order : Endian) (item : Unread → Read (Option A)) (spell : A → List ℕ) (mark : List ℕ) (xs : List A)
    → ((u : Unread) → Leaves (item u) (length u.left)) → All (λ x. Spells order item (spell x) (Some x)) xs → Spells order item mark None
    → Spells order (items_at item) (flat_map spell xs ++ mark) xs
Spells-items order item spell mark [] takes each end = record { reads = λ place rest. items-end item takes _ _ (end.reads place rest) }
Spells-items {A} order item spell mark (x ∷ xs) takes each end =
    let first = All-head (λ x. Spells order item (spell x) (Some x)) x xs each in
    let others = Spells-items order item spell mark xs takes (All-tail (λ x. Spells order item (spell x) (Some x)) x xs each) end in
    record {
      reads = λ place rest.
          rw (grouped (spell x) (flat_map spell xs) mark rest)
          (items-more item takes _ _ x (first.reads place (flat_map spell xs ++ mark ++ rest))
          ∙ rw (others.reads) (ap (λ p. Ok (x ∷ xs, unread_at order p rest)) (omega (arith, lengths (spell x) (flat_map spell xs) mark))));
    }
  where
    grouped : (a b c r : List ℕ) → ((a ++ b) ++ c) ++ r ≡ a ++ ((b ++ c) ++ r)
    grouped a b c r = simp append_assoc

    lengths : (a b c : List ℕ) → length ((a ++ b) ++ c) ≡ length a + length (b ++ c)
    lengths a b c = simp (length-append) (omega arith)

-- what things have by their places, where further things are appended
pub at_places-append : {A B : Type 0} (spell : A → List ℕ) (at : ℕ → A → List B) (xs ys : List A) (place : ℕ)
    → at_places spell at place (xs ++ ys) ≡ at_places spell at place xs ++ at_places spell at (place + length (flat_map spell xs)) ys
at_places-append spell at [] ys place = rw (add-zero) refl
at_places-append spell at (x ∷ xs) ys place =
    let on : (place + length (spell x)) + length (flat_map spell xs) ≡ place + length (spell x ++ flat_map spell xs) = omega (arith, length-append (spell x) (flat_map spell xs)) in
    let inner = at_places-append spell at xs ys (place + length (spell x)) in
    rw (append_assoc) (ap (λ bs. at place x ++ bs) (rw (on) at inner))
