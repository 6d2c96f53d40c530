-- What the readers of bytes give, by how many bytes are left.
use Rattle.std.proofs.Common.{◌≡◌, ℕ, ◌+◌, ◌≤◌, ◌<◌, List, [], ◌∷◌, length, take, get_or, refl, ap, ◌∙◌, arith, Ok, Err, Some, None}
use Rattle.std.specs.Prelude.{◌==◌}
use Rattle.std.specs.List.{position}
use Rattle.std.proofs.lemmas.Bool.{lt-ltb, le-ltb}
use Rattle.std.specs.Int.{w16, w32, w64, from_le_bytes, from_be_bytes}
use Rattle.dwc_base.proofs.Widths.{number-le_2, number-be_2, number-le_4, number-be_4, number-le_8, number-be_8}
use Rattle.dwc_base.specs.declared.records.Endian.{Endian}
use Rattle.dwc_base.specs.declared.records.Endian.TheVariants.{Little, Big}
use Rattle.dwc_base.specs.declared.faults.Flaw.{Flaw}
use Rattle.dwc_base.specs.declared.faults.Flaw.TheVariants.{EndsEarly}
use Rattle.dwc_base.specs.Reading.{Unread, passed, bytes_at, number_at, number, part_at, front, text_at}

pub bytes_at-short : (n : ℕ) (u : Unread) → length u.left < n → bytes_at n u ≡ Err EndsEarly
unfolding bytes_at
bytes_at-short n u h = rw lt-ltb refl

pub bytes_at-whole : (n : ℕ) (u : Unread) → n ≤ length u.left → bytes_at n u ≡ Ok (take n u.left, passed n u)
unfolding bytes_at
bytes_at-whole n u h = rw le-ltb refl

-- one byte is a number in either order
pub number-byte : (order : Endian) (bytes : List ℕ) → length bytes ≡ 1 → number order bytes ≡ get_or bytes 0 0
number-byte order [] h = absurd (omega arith)
number-byte Little (b ∷ []) h = omega arith
number-byte Big (b ∷ []) h = omega arith
number-byte order (b ∷ c ∷ bs) h = absurd (omega arith)

-- a number is what its bytes spell
pub number_at-from_bytes : (size : ℕ) (u v : Unread) (bytes : List ℕ) → bytes_at size u ≡ Ok (bytes, v) → number_at size u ≡ Ok (number u.order bytes, v)
unfolding number_at
number_at-from_bytes size u v bytes h = rw h refl

pub number_at-no_bytes : (size : ℕ) (u : Unread) (flaw : Flaw) → bytes_at size u ≡ Err flaw → number_at size u ≡ Err flaw
unfolding number_at
number_at-no_bytes size u flaw h = rw h refl

pub part_at-short : (n : ℕ) (u : Unread) → length u.left < n → part_at n u ≡ Err EndsEarly
unfolding part_at
part_at-short n u h = rw lt-ltb refl

pub part_at-whole : (n : ℕ) (u : Unread) → n ≤ length u.left → part_at n u ≡ Ok (front n u, passed n u)
unfolding part_at
part_at-whole n u h = rw le-ltb refl

-- the number that the first bytes of a field of two or four spell
pub number-two : (order : Endian) (bytes : List ℕ) → length bytes ≡ 2 → number order bytes ≡ number order (get_or bytes 0 0 ∷ get_or bytes 1 0 ∷ [])
number-two order [] h = absurd (omega arith)
number-two order (a ∷ []) h = absurd (omega arith)
number-two order (a ∷ b ∷ []) h = refl
number-two order (a ∷ b ∷ c ∷ bs) h = absurd (omega arith)

pub number-four : (order : Endian) (bytes : List ℕ) → length bytes ≡ 4 → number order bytes ≡ number order (get_or bytes 0 0 ∷ get_or bytes 1 0 ∷ get_or bytes 2 0 ∷ get_or bytes 3 0 ∷ [])
number-four order [] h = absurd (omega arith)
number-four order (a ∷ []) h = absurd (omega arith)
number-four order (a ∷ b ∷ []) h = absurd (omega arith)
number-four order (a ∷ b ∷ c ∷ []) h = absurd (omega arith)
number-four order (a ∷ b ∷ c ∷ d ∷ []) h = refl
number-four order (a ∷ b ∷ c ∷ d ∷ e ∷ bs) h = absurd (omega arith)

module _ (u v : Unread) (bytes : List ℕ) where
  pub two-little : bytes_at 2 u ≡ Ok (bytes, v) → length bytes ≡ 2 → u.order ≡ Little → number_at 2 u ≡ Ok (from_le_bytes w16 (get_or bytes 0 0 ∷ get_or bytes 1 0 ∷ []), v)
  two-little h len e = number_at-from_bytes 2 u v bytes h ∙ ap (λ n. Ok (n, v)) (number-two u.order bytes len ∙ ap (λ o. number o (get_or bytes 0 0 ∷ get_or bytes 1 0 ∷ [])) e ∙ number-le_2 _ _)

  pub two-big : bytes_at 2 u ≡ Ok (bytes, v) → length bytes ≡ 2 → u.order ≡ Big → number_at 2 u ≡ Ok (from_be_bytes w16 (get_or bytes 0 0 ∷ get_or bytes 1 0 ∷ []), v)
  two-big h len e = number_at-from_bytes 2 u v bytes h ∙ ap (λ n. Ok (n, v)) (number-two u.order bytes len ∙ ap (λ o. number o (get_or bytes 0 0 ∷ get_or bytes 1 0 ∷ [])) e ∙ number-be_2 _ _)

  pub four-little : bytes_at 4 u ≡ Ok (bytes, v) → length bytes ≡ 4 → u.order ≡ Little → number_at 4 u ≡ Ok (from_le_bytes w32 (get_or bytes 0 0 ∷ get_or bytes 1 0 ∷ get_or bytes 2 0 ∷ get_or bytes 3 0 ∷ []), v)
  four-little h len e = number_at-from_bytes 4 u v bytes h ∙ ap (λ n. Ok (n, v)) (number-four u.order bytes len ∙ ap (λ o. number o (get_or bytes 0 0 ∷ get_or bytes 1 0 ∷ get_or bytes 2 0 ∷ get_or bytes 3 0 ∷ [])) e ∙ number-le_4 _ _ _ _)

  pub four-big : bytes_at 4 u ≡ Ok (bytes, v) → length bytes ≡ 4 → u.order ≡ Big → number_at 4 u ≡ Ok (from_be_bytes w32 (get_or bytes 0 0 ∷ get_or bytes 1 0 ∷ get_or bytes 2 0 ∷ get_or bytes 3 0 ∷ []), v)
  four-big h len e = number_at-from_bytes 4 u v bytes h ∙ ap (λ n. Ok (n, v)) (number-four u.order bytes len ∙ ap (λ o. number o (get_or bytes 0 0 ∷ get_or bytes 1 0 ∷ get_or bytes 2 0 ∷ get_or bytes 3 0 ∷ [])) e ∙ number-be_4 _ _ _ _)

pub number-eight : (order : Endian) (bytes : List ℕ) → length bytes ≡ 8 → number order bytes ≡ number order (get_or bytes 0 0 ∷ get_or bytes 1 0 ∷ get_or bytes 2 0 ∷ get_or bytes 3 0 ∷ get_or bytes 4 0 ∷ get_or bytes 5 0 ∷ get_or bytes 6 0 ∷ get_or bytes 7 0 ∷ [])
number-eight order [] len = absurd (omega arith)
number-eight order (a ∷ []) len = absurd (omega arith)
number-eight order (a ∷ b ∷ []) len = absurd (omega arith)
number-eight order (a ∷ b ∷ c ∷ []) len = absurd (omega arith)
number-eight order (a ∷ b ∷ c ∷ d ∷ []) len = absurd (omega arith)
number-eight order (a ∷ b ∷ c ∷ d ∷ e ∷ []) len = absurd (omega arith)
number-eight order (a ∷ b ∷ c ∷ d ∷ e ∷ f ∷ []) len = absurd (omega arith)
number-eight order (a ∷ b ∷ c ∷ d ∷ e ∷ f ∷ g ∷ []) len = absurd (omega arith)
number-eight order (a ∷ b ∷ c ∷ d ∷ e ∷ f ∷ g ∷ h ∷ []) len = refl
number-eight order (a ∷ b ∷ c ∷ d ∷ e ∷ f ∷ g ∷ h ∷ i ∷ bs) len = absurd (omega arith)

module _ (u v : Unread) (bytes : List ℕ) where
  pub eight-little : bytes_at 8 u ≡ Ok (bytes, v) → length bytes ≡ 8 → u.order ≡ Little → number_at 8 u ≡ Ok (from_le_bytes w64 (get_or bytes 0 0 ∷ get_or bytes 1 0 ∷ get_or bytes 2 0 ∷ get_or bytes 3 0 ∷ get_or bytes 4 0 ∷ get_or bytes 5 0 ∷ get_or bytes 6 0 ∷ get_or bytes 7 0 ∷ []), v)
  eight-little h len e = number_at-from_bytes 8 u v bytes h ∙ ap (λ n. Ok (n, v)) (number-eight u.order bytes len ∙ ap (λ o. number o (get_or bytes 0 0 ∷ get_or bytes 1 0 ∷ get_or bytes 2 0 ∷ get_or bytes 3 0 ∷ get_or bytes 4 0 ∷ get_or bytes 5 0 ∷ get_or bytes 6 0 ∷ get_or bytes 7 0 ∷ [])) e ∙ number-le_8 _ _ _ _ _ _ _ _)

  pub eight-big : bytes_at 8 u ≡ Ok (bytes, v) → length bytes ≡ 8 → u.order ≡ Big → number_at 8 u ≡ Ok (from_be_bytes w64 (get_or bytes 0 0 ∷ get_or bytes 1 0 ∷ get_or bytes 2 0 ∷ get_or bytes 3 0 ∷ get_or bytes 4 0 ∷ get_or bytes 5 0 ∷ get_or bytes 6 0 ∷ get_or bytes 7 0 ∷ []), v)
  eight-big h len e = number_at-from_bytes 8 u v bytes h ∙ ap (λ n. Ok (n, v)) (number-eight u.order bytes len ∙ ap (λ o. number o (get_or bytes 0 0 ∷ get_or bytes 1 0 ∷ get_or bytes 2 0 ∷ get_or bytes 3 0 ∷ get_or bytes 4 0 ∷ get_or bytes 5 0 ∷ get_or bytes 6 0 ∷ get_or bytes 7 0 ∷ [])) e ∙ number-be_8 _ _ _ _ _ _ _ _)

pub text_at-none : (u : Unread) → position (λ b. b == 0) u.left ≡ None → text_at u ≡ Err EndsEarly
unfolding text_at
text_at-none u h = rw (h, text_at) refl

pub text_at-some : (u : Unread) (n : ℕ) → position (λ b. b == 0) u.left ≡ Some n → text_at u ≡ Ok (take n u.left, passed (n + 1) u)
unfolding text_at
text_at-some u n h = rw (h, text_at) refl
