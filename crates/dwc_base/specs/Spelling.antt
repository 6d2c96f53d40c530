-- What bytes spell, for a writer: reading them gives the value back, wherever they stand and whatever follows them.
use Rattle.std.specs.Prelude.{◌≡◌, ℕ, ◌+◌, List, ◌++◌, length, Ok}
use Rattle.dwc_base.specs.declared.records.Endian.{Endian}
use Rattle.dwc_base.specs.Reading.{Unread, Read}

-- some bytes and what follows them, unread at a place
abbrev pub unread_at : Endian → ℕ → List ℕ → Unread
unread_at order place bytes = record { order = order; place = place; left = bytes }

-- These bytes spell x for a reader.
pub record Spells {A : Type 0} (order : Endian) (read : Unread → Read A) (bytes : List ℕ) (x : A) : Type 0 where
  pub reads : (place : ℕ) (rest : List ℕ) → read (unread_at order place (bytes ++ rest)) ≡ Ok (x, unread_at order (place + length bytes) rest)
