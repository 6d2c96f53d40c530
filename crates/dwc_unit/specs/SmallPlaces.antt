-- Places in lists, as they are kept in 32 bits.
use Rattle.std.specs.Prelude.{ℕ, ◌-◌, ◌==◌, if◌then◌else◌, Option, Some, None}

-- a place by its code, which is 0 for none
abbrev pub place_of_code : ℕ → Option ℕ
place_of_code code = if code == 0 then None else Some (code - 1)
