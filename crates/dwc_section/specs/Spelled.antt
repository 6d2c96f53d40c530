-- The bytes that a writer appends for texts and lists: one spelling for each, over those of numbers. A call that appends one
-- ensures `out.new.items ≡ out.old.items ++ text_bytes text`, and the like. Lists are `flat_map spell xs`, so that loops append an
-- element at a time; what depends on places stands beside them as `at_places`. `SpellsAt` is `Spells` at one place.
use Rattle.std.specs.Prelude.{◌≡◌, ℕ, ◌+◌, List, [], ◌∷◌, ◌++◌, length, Ok}
use Rattle.dwc_base.specs.declared.records.Endian.{Endian}
use Rattle.dwc_base.specs.Reading.{Unread, Read}
use Rattle.dwc_base.specs.NumberBytes.{number_bytes, uleb_bytes}
use Rattle.dwc_base.specs.Spelling.{unread_at}

-- a text, ended by a zero
abbrev pub text_bytes : List ℕ → List ℕ
text_bytes text = text ++ 0 ∷ []

-- a length in front of what has it
abbrev pub sized_bytes : Endian → List ℕ → List ℕ
sized_bytes order bytes = number_bytes order 4 (length bytes) ++ bytes

abbrev pub block_bytes : List ℕ → List ℕ
block_bytes bytes = uleb_bytes (length bytes) ++ bytes

-- What things that are spelled one behind the other have, where it depends on the place of each: `spell` gives a thing's bytes,
-- `at` what it has at a place.
abbrev pub at_places : {A B : Type 0} → (A → List ℕ) → (ℕ → A → List B) → ℕ → List A → List B
at_places spell at place [] = []
at_places spell at place (x ∷ xs) = at place x ++ at_places spell at (place + length (spell x)) xs

-- These bytes spell x for a reader at one place: for what hangs on relocations, on offsets or on where a unit ends.
pub record SpellsAt {A : Type 0} (order : Endian) (place : ℕ) (read : Unread → Read A) (bytes : List ℕ) (x : A) : Type 0 where
  pub reads : (rest : List ℕ) → read (unread_at order place (bytes ++ rest)) ≡ Ok (x, unread_at order (place + length bytes) rest)
