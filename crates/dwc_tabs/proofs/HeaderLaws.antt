-- What the readers of a header take, and numbers of one byte read as bytes.
use Rattle.std.proofs.Common.{◌≡◌, ℕ, zero, suc, ◌+◌, add-zero, ◌<◌, ◌≤◌, refl, sym, ap, ◌∙◌, arith, List, [], ◌∷◌, length, take, drop, Option, Some, None, Ok, Err, Bool, true, false, eqb, ltb}
use Rattle.std.proofs.lemmas.Bool.{le-ltb, ltb-false, ltb-true}
use Rattle.dwc_base.specs.declared.records.Endian.{Endian}
use Rattle.dwc_base.specs.declared.records.Endian.TheVariants.{Little, Big}
use Rattle.dwc_base.specs.declared.faults.Flaw.TheVariants.{EndsEarly}
use Rattle.dwc_base.specs.Reading.{Unread, ◌>>=◌, bytes_at, number_at, counted_at, number, text_at}
use Rattle.dwc_dwarf.specs.LineHeaders.{LineFile, file_behind, file_at}
use Rattle.dwc_base.proofs.Items.{Leaves}
use Rattle.dwc_base.proofs.Takes.{Leaves-bind, Leaves-same, text_at-leaves}
use Rattle.dwc_base.proofs.TakesMore.{Leaves-more, uleb_at-leaves}
use Rattle.dwc_base.proofs.ReadSteps.{bytes_at-short, bytes_at-whole}

-- what stands behind a file's name goes not back
file_behind-leaves : (name : List ℕ) (u : Unread) → Leaves (file_behind name u) (suc (length u.left))
unfolding file_behind
file_behind-leaves name u = search (arith, Leaves-bind, Leaves-same, Leaves-more, uleb_at-leaves) depth 9

-- a file takes a byte at least
pub file_at-leaves : (u : Unread) → Leaves (file_at u) (length u.left)
unfolding file_at
file_at-leaves u = Leaves-bind (text_at u) _ _ (text_at-leaves u) (λ name. go (eqb (length name.0) 0) name.0 name.1)
  where
    go : (b : Bool) (name : List ℕ) (v : Unread) → Leaves {A = Option LineFile} (elim b [ true ↦ Ok (None, v) | false ↦ (file_behind name v >>= λ file. Ok (Some file.0, file.1)) ]) (suc (length v.left))
    go true name v = Leaves-same _ _
    go false name v = Leaves-bind (file_behind name v) _ _ (file_behind-leaves name v) (λ file. Leaves-same _ _)

-- one byte is a number in either order
number-one : (order : Endian) (b : ℕ) → number order (b ∷ []) ≡ b
number-one Little b = omega arith
number-one Big b = omega arith

-- the first byte of some, read as a number
first-byte : (order : Endian) (place b : ℕ) (bs : List ℕ) → number_at 1 (record { order = order; place = place; left = b ∷ bs }) ≡ Ok (b, record { order = order; place = place + 1; left = bs })
unfolding number_at bytes_at
first-byte order place b bs = let some : ltb (suc (length bs)) 1 ≡ false = le-ltb _ _ (omega arith) in rw (some, number-one order b) refl

-- no number is read of no bytes
no-byte : (order : Endian) (place : ℕ) → number_at 1 (record { order = order; place = place; left = [] }) ≡ Err EndsEarly
unfolding number_at bytes_at
no-byte order place = refl

-- so many numbers of one byte are so many bytes, by the parts of what is unread
counted-bytes : (count : ℕ) (order : Endian) (place : ℕ) (left : List ℕ) → counted_at count (number_at 1) (record { order = order; place = place; left = left }) ≡ bytes_at count (record { order = order; place = place; left = left })
unfolding counted_at
counted-bytes zero order place left = sym (bytes_at-whole 0 (record { order = order; place = place; left = left }) (omega arith) ∙ ap (λ n. Ok ([], record { order = order; place = n; left = left })) (add-zero place))
counted-bytes (suc count) order place [] = rw (no-byte order place) (sym (bytes_at-short (suc count) (record { order = order; place = place; left = [] }) (omega arith)))
counted-bytes (suc count) order place (b ∷ bs) = rw (first-byte order place b bs, counted-bytes count order (place + 1) bs) (go (ltb (length bs) count) refl)
  where
    go : (short : Bool) → ltb (length bs) count ≡ short
        → ◌>>=◌ {B = List ℕ × Unread} (bytes_at count (record { order = order; place = place + 1; left = bs })) (λ others. Ok (b ∷ others.0, others.1))
        ≡ bytes_at (suc count) (record { order = order; place = place; left = b ∷ bs })
    go true h =
        let few : length bs < count = ltb-true _ _ h in
        rw (bytes_at-short count (record { order = order; place = place + 1; left = bs }) few) (sym (bytes_at-short (suc count) (record { order = order; place = place; left = b ∷ bs }) (omega arith)))
    go false h =
        let enough : count ≤ length bs = ltb-false _ _ h in
        rw (bytes_at-whole count (record { order = order; place = place + 1; left = bs }) enough)
        (ap (λ n. Ok (b ∷ take count bs, record { order = order; place = n; left = drop count bs })) (omega arith)
        ∙ sym (bytes_at-whole (suc count) (record { order = order; place = place; left = b ∷ bs }) (omega arith)))

-- so many numbers of one byte are so many bytes
pub counted_at-bytes : (count : ℕ) (u : Unread) → counted_at count (number_at 1) u ≡ bytes_at count u
counted_at-bytes count u = counted-bytes count u.order u.place u.left
