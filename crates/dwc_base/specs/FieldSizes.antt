-- The sizes of the fields that hold numbers.
use Rattle.std.specs.Prelude.{ℕ, ◌==◌, Bool, ◌||◌}

abbrev pub is_field_size : ℕ → Bool
is_field_size size = (size == 1) || (size == 2) || (size == 4) || (size == 8)
