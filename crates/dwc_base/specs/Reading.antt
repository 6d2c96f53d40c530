-- Reading from the front of bytes: a value and what is unread behind it, or why there is none.
use Rattle.std.specs.Prelude.{ℕ, zero, suc, ◌+◌, ◌*◌, ◌^◌, ◌%◌, ◌==◌, ℤ, pos, ◌+ℤ◌, ◌-ℤ◌, ◌*ℤ◌, List, [], ◌∷◌, length, take, drop, reverse, Bool, true, false, nat_lt, int_lt, int_le, not, ◌||◌, if◌then◌else◌, Option, Some, None, Result, Ok, Err}
use Rattle.std.specs.List.{position}
use Rattle.dwc_base.specs.declared.records.Endian.{Endian}
use Rattle.dwc_base.specs.declared.records.Endian.TheVariants.{Little, Big}
use Rattle.dwc_base.specs.declared.faults.Flaw.{Flaw}
use Rattle.dwc_base.specs.declared.faults.Flaw.TheVariants.{EndsEarly, TooWide}

-- What is unread: the bytes left, their place in the section or file, and the order of their numbers.
pub record Unread : Type 0 where
  pub order : Endian
  pub place : ℕ
  pub left : List ℕ

-- what is unread behind the first bytes, as many as said
abbrev pub passed : ℕ → Unread → Unread
passed count u = record { order = u.order; place = u.place + count; left = drop count u.left }

-- the first bytes alone, as many as said
abbrev pub front : ℕ → Unread → Unread
front count u = record { order = u.order; place = u.place; left = take count u.left }

-- what reading gives: a value, and what is unread behind it
abbrev pub Read : Type 0 → Type 0
Read A = Result (A × Unread) Flaw

-- one reading behind another, which is reached only where the first gives a value
infixl 10 ◌>>=◌
abbrev pub ◌>>=◌ : {A B E : Type 0} → Result A E → (A → Result B E) → Result B E
(Ok x) >>= next = next x
(Err flaw) >>= next = Err flaw

-- a value that was read, seen as another
abbrev pub seen_as : {A B : Type 0} → (A → B) → Read A → Read B
seen_as view (Ok x) = Ok (view x.0, x.1)
seen_as view (Err flaw) = Err flaw

-- what stands in a table of codes at a code
abbrev pub coded : {A : Type 0} → List (ℕ × A) → ℕ → Option A
coded [] code = None
coded (row ∷ rows) code = if row.0 == code then Some row.1 else coded rows code

-- a fact that must not hold, and what is wrong where it does
abbrev pub forbid : {E : Type 0} → Bool → E → Result (Unit {0}) E
forbid true flaw = Err flaw
forbid false flaw = Ok tt

-- The number that some bytes spell, the lowest byte first.
abbrev pub number_low_first : List ℕ → ℕ
number_low_first [] = 0
number_low_first (b ∷ bs) = b + 256 * number_low_first bs

-- the number that some bytes spell in a byte order
abbrev pub number : Endian → List ℕ → ℕ
number Little bytes = number_low_first bytes
number Big bytes = number_low_first (reverse bytes)

-- the low seven bits of a byte in front of what follows it
abbrev pub uleb_with : ℕ → Option (ℕ × ℕ) → Option (ℕ × ℕ)
uleb_with low None = None
uleb_with low (Some high) = Some (low + 128 * high.0, suc high.1)

-- The value of an unsigned LEB128 number, of any width, and how many bytes it takes: the low seven bits of
-- each byte times 128 to its place, up to the first byte whose top bit is clear; none where no byte is such. (DWARF 4
-- and 5, section 7.6; WebAssembly 1.0, section 5.2.2.)
abbrev pub uleb_value : List ℕ → Option (ℕ × ℕ)
uleb_value [] = None
uleb_value (b ∷ bs) = if nat_lt b 128 then Some (b, 1) else uleb_with (b % 128) (uleb_value bs)

-- the same of a signed number
abbrev pub sleb_with : ℕ → Option (ℤ × ℕ) → Option (ℤ × ℕ)
sleb_with low None = None
sleb_with low (Some high) = Some (pos low +ℤ pos 128 *ℤ high.0, suc high.1)

-- The value of a signed LEB128 number, whose sign is bit 6 of its last byte. (DWARF 4 and 5, section 7.6.)
abbrev pub sleb_value : List ℕ → Option (ℤ × ℕ)
sleb_value [] = None
sleb_value (b ∷ bs) = if nat_lt b 128 then Some ((if nat_lt b 64 then pos b else pos b -ℤ pos 128), 1) else sleb_with (b % 128) (sleb_value bs)

-- whether a signed number fits 64 bits
abbrev pub is_64_bit : ℤ → Bool
is_64_bit n = not (int_lt n (pos 0 -ℤ pos (2 ^ 63)) || int_le (pos (2 ^ 63)) n)

-- the next bytes, as many as said
unfoldable pub bytes_at : ℕ → Unread → Read (List ℕ)
bytes_at size u = if nat_lt (length u.left) size then Err EndsEarly else Ok (take size u.left, passed size u)

-- the next bytes, as many as said, to be read on their own
unfoldable pub part_at : ℕ → Unread → Read Unread
part_at size u = if nat_lt (length u.left) size then Err EndsEarly else Ok (front size u, passed size u)

-- a number of fixed size
unfoldable pub number_at : ℕ → Unread → Read ℕ
number_at size u = seen_as (number u.order) (bytes_at size u)

-- an unsigned number of variable length that fits 64 bits
abbrev pub uleb_fitting : Unread → Option (ℕ × ℕ) → Read ℕ
uleb_fitting u None = Err EndsEarly
uleb_fitting u (Some n) = if nat_lt n.0 (2 ^ 64) then Ok (n.0, passed n.1 u) else Err TooWide

-- the unsigned number at the front
unfoldable pub uleb_at : Unread → Read ℕ
uleb_at u = uleb_fitting u (uleb_value u.left)

-- a signed number of variable length that fits 64 bits
abbrev pub sleb_fitting : Unread → Option (ℤ × ℕ) → Read ℤ
sleb_fitting u None = Err EndsEarly
sleb_fitting u (Some n) = if is_64_bit n.0 then Ok (n.0, passed n.1 u) else Err TooWide

-- the signed number at the front
unfoldable pub sleb_at : Unread → Read ℤ
sleb_at u = sleb_fitting u (sleb_value u.left)

-- the bytes before the next 0, which is passed (DWARF 4, section 7.5.4; DWARF 5, section 7.5.5)
unfoldable pub text_at : Unread → Read (List ℕ)
text_at u = elim (position (λ b. b == 0) u.left) [ None ↦ Err EndsEarly | Some n ↦ Ok (take n u.left, passed (n + 1) u) ]

-- Things that stand one after another up to the mark of their end, for which `item` answers None. As
-- each takes a byte at least, there are fewer of them than bytes.
unfoldable pub items_up_to : {A : Type 0} → ℕ → (Unread → Read (Option A)) → Unread → Read (List A)
items_up_to zero item u = Err EndsEarly
items_up_to (suc most) item u = do
  first ← item u
  elim first.0 [ None ↦ Ok ([], first.1) | Some x ↦ (items_up_to most item first.1 >>= λ others. Ok (x ∷ others.0, others.1)) ]

-- things up to the mark of their end
unfoldable pub items_at : {A : Type 0} → (Unread → Read (Option A)) → Unread → Read (List A)
items_at item u = items_up_to (suc (length u.left)) item u

-- as many things as said, one after another
unfoldable pub counted_at : {A : Type 0} → ℕ → (Unread → Read A) → Unread → Read (List A)
counted_at zero item u = Ok ([], u)
counted_at (suc count) item u = do
  first ← item u
  others ← counted_at count item first.1
  Ok (first.0 ∷ others.0, others.1)
