-- Vectors of a WebAssembly file: a count, and as many things. (WebAssembly 1.0, section 5.1.3.)
use Rattle.std.specs.Prelude.{ℕ, zero, suc, List, [], ◌∷◌, Ok, Err}
use Rattle.dwc_base.specs.Reading.{Unread, Read, ◌>>=◌, uleb_at, counted_at}

-- a vector, all of whose things can be read
unfoldable pub vector_at : {A : Type 0} → (Unread → Read A) → Unread → Read (List A)
vector_at item u = do
  count ← uleb_at u
  counted_at count.0 item count.1

-- as many things as said, one after another, up to the first that cannot be read
unfoldable pub readable_counted : {A : Type 0} → ℕ → (Unread → Read A) → Unread → List A
readable_counted zero item u = []
readable_counted (suc count) item u = elim (item u) [ Err flaw ↦ [] | Ok first ↦ first.0 ∷ readable_counted count item first.1 ]

-- The things of a vector up to the first that cannot be read; none where the count cannot be.
unfoldable pub readable_vector : {A : Type 0} → (Unread → Read A) → Unread → List A
readable_vector item u = elim (uleb_at u) [ Err flaw ↦ [] | Ok count ↦ readable_counted count.0 item count.1 ]
