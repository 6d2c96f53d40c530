-- Vectors that are read thing by thing.
use Rattle.std.specs.Prelude.{◌≡◌, ℕ, List, [], ◌∷◌, Option, Some, None, Ok, Err}
use Rattle.dwc_base.specs.Reading.{Unread, Read, uleb_at}

-- how many things a vector has, and where the first stands; none where the count cannot be read
abbrev pub first_or_none : Unread → Read ℕ → ℕ × Unread
first_or_none u (Ok count) = count
first_or_none u (Err flaw) = (0, u)

abbrev pub first_of_vector : Unread → ℕ × Unread
first_of_vector u = first_or_none u (uleb_at u)

-- A call answers the next of the things that can be read, and leaves those behind it; None where there is none.
abbrev pub IsNext : {A B : Type 0} → (A → B) → List B → List B → Option A → Type 0
IsNext view old new (Some x) = old ≡ view x ∷ new
IsNext view old new None = (old ≡ []) × (new ≡ [])
